use Rattle.std.proofs.Common.{◌≡◌, ◌≤◌, ℕ, length, map, sym, subst, string_bytes, arith}
use Rattle.std.proofs.lemmas.List.{length-map}
use Rattle.ledger.specs.Ledger.{HasNames, plan_of}
use Rattle.file_reading.specs.declared.limits.TheConstants.{MAX_FILES}
use Rattle.envoy_stats.proofs.RunShown.{run_records}
use Rattle.envoy_stats.proofs.run.record.Goals as goal

pub returns : goal.returns
returns g c =
    let few : length (map string_bytes c.args.files.now) ≤ MAX_FILES = omega (arith, length-map c.args.files.now string_bytes, c.requires.few) in
    run_records g.F.Shelf.state g.F.S.Source.state (g.F.Shelf.holds c.args.shelf.now) (map string_bytes c.args.files.now) c.args.shelf.now
    c.run_names.new.shelf (record { report = c.in_ok-report.field-0.report; names = c.in_ok-report.field-0.names; config = c.args.boot.config; buckets = c.args.boot.buckets })
    c.requires.built.lawful c.requires.built.buckets few c.in_ok-report.ensures.report
    (subst (λ (workers : ℕ). HasNames (plan_of c.args.boot.config).rules workers c.in_ok-report.field-0)
    (sym (length-map c.args.files.now string_bytes)) c.in_ok-report.ensures.names)
