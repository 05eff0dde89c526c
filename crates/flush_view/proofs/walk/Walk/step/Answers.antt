use Rattle.std.proofs.Common.{◌≡◌, ◌+◌, ℕ, suc, List, take, drop, refl, ap, ◌∙◌, arith}
use Rattle.stat_defs.specs.declared.history.NameOp.{NameOp}
use Rattle.name_changes.specs.Changes.{changes_from}
use Rattle.flush_view.specs.Before.{before_of}
use Rattle.flush_view.specs.Views.{view_rules}
use Rattle.flush_view.specs.Walk.{followed, state_at}
use Rattle.flush_view.proofs.Walking.{enough, others, known, read_entry}
use Rattle.flush_view.proofs.walk.Walk.step.Goals as goal

pub split_at-requires : goal.split_at-requires
split_at-requires c =
    let walk = c.args.self.now in
    let report = walk.report.now in
    let told = c.changes_told.ensures in
    let read = read_entry c.items.result.now report.log walk.at c.index-items-self.result c.items.ensures c.requires.within
    c.index-items-self.is in
    let many = enough c.args._config.now report c.requires.showable walk.at c.index-items-self.result read
    walk.changes.now c.requires.there.changes in
    omega (arith, told, many)

pub returns : goal.returns
returns c =
    let walk = c.args.self.now in
    let report = walk.report.now in
    let config = c.args._config.now in
    let e = c.index-items-self.result in
    let next : suc walk.at ≡ walk.at + 1 = omega arith in
    let read = read_entry c.items.result.now report.log walk.at e c.items.ensures c.requires.within
    c.index-items-self.is in
    let within = c.requires.within in
    let front = c.split_at.ensures.front ∙ ap (λ (n : ℕ). take n walk.changes.now) c.changes_told.ensures in
    let back = c.split_at.ensures.back ∙ ap (λ (n : ℕ). drop n walk.changes.now) c.changes_told.ensures in
    record {
      there = record {
        within = omega (arith, within);
        lefts = c.in_ok-follow.ensures
            ∙ ap (λ (own : List NameOp). followed walk.lefts.items e own) front
            ∙ known config report c.requires.showable walk.at e read walk.changes.now c.requires.there.changes
            walk.lefts.items c.requires.there.lefts
            ∙ ap (λ (n : ℕ). before_of (state_at config report n)) next;
        changes = back
            ∙ others config report c.requires.showable walk.at e read walk.changes.now c.requires.there.changes
            ∙ ap (λ (n : ℕ). changes_from (view_rules config).names (state_at config report n) n (drop n report.log)) next;
      };
      at = refl;
      report = refl;
    }
