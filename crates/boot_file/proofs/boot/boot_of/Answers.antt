use Rattle.std.proofs.Common.{◌≡◌, ◌+◌, ◌∙◌, map}
use Rattle.stat_defs.specs.declared.configs.TheConstants.{MAX_TAG_RULES}
use Rattle.boot_file.proofs.Placed.{specs_lawful, paths_there, few_specs, as_many}
use Rattle.boot_file.proofs.boot.boot_of.Goals as goal

pub returns-clause-lawful : goal.returns-clause-lawful
returns-clause-lawful c =
    let tags = c.in_ok-tags.tags.items in
    let lawful = c.in_ok-tags.ensures.lawful in
    let run = c.in_ok-run.ensures.lawful in
    let specs : c.of.result ≡ map (λ t. t.spec) c.in_ok-tags.tags.items = c.of.ensures ∙ c.in_ok-parted.ensures.specs in
    let paths : c.of-2.result ≡ map (λ t. t.path) c.in_ok-tags.tags.items = c.of-2.ensures ∙ c.in_ok-parted.ensures.paths in
    record {
      few_tags = few_specs tags c.of.result (MAX_TAG_RULES + 4) specs c.in_ok-tags.ensures.few;
      tags = rw specs (specs_lawful tags lawful);
      as_many_paths = as_many tags c.of.result c.of-2.result specs paths;
      tag_paths = rw (specs, paths) (paths_there tags lawful);
      matcher = c.in_ok-matcher.ensures.lawful;
      few_buckets = c.in_ok-buckets.ensures.few;
      buckets = c.in_ok-buckets.ensures.lawful;
      statsd_prefix = c.in_ok-statsd_prefix.ensures.lawful;
      scopes = run.scopes;
      flushes = run.flushes;
      flush_every = (run.some, run.most);
      reads = run.reads;
    }
