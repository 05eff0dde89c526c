use Rattle.std.proofs.Common.{ap, sym, ◌∙◌, subst}
use Rattle.store_parts.specs.Ids.{StoreIds}
use Rattle.recorder.specs.Knowing.{RecorderKnown}
use Rattle.recorder.specs.Ending.{EndsIts}
use Rattle.recorder.proofs.PollLemmas.{cell_within, cell_is, ends_its}
use Rattle.recorder.proofs.recorder.Recorder.end.Goals as goal

pub end-requires : goal.end-requires
end-requires g c = record {
  rests = ap (λ (r : RecorderKnown). r.of.lock) c.self.view_is ∙ ap (λ (i : StoreIds). i.lock) c.requires.own;
  works = c.self.invariant.works;
}

pub cell_at-requires : goal.cell_at-requires
cell_at-requires g c = cell_within c.args.store.now c.self.inside c.args.self c.self.view_is c.requires.cell

pub left_behind-requires : goal.left_behind-requires
left_behind-requires g c = cell_is c.args.store.now c.self.inside c.args.self c.cell_at.result.now c.self.view_is c.requires.cell c.cell_at.ensures

pub returns-in-Ok : goal.returns-in-Ok
returns-in-Ok g c =
    let lock = ap (λ (x : RecorderKnown). x.of.lock) c.self.view_is ∙ ap (λ (i : StoreIds). i.lock) c.requires.own in
    subst (λ (x : RecorderKnown). EndsIts x c.left_behind.result) c.self.view_is
    (ends_its c.self.inside c.end.new.self c.left_behind.result c.self.invariant (c.end.ensures.rests ∙ sym lock) c.in-Ok.ensures.ends c.left_behind.ensures)
