use Rattle.std.proofs.Common.{ℕ, Option, List, ◌∙◌, map, take, string_bytes, refl, arith, subst}
use Rattle.replay_files.proofs.FilesRead.{front_push}
use Rattle.run_report.specs.Opened.{IsOpening}
use Rattle.run_report.proofs.FilesOpened.{none_opened, one_opened_more}
use Rattle.run_report.proofs.openings.open_files.Goals as goal

pub loop-name-init : goal.loop-name-init
loop-name-init g c = record {
  opened = none_opened g.F.Shelf.state g.F.S.Source.state (g.F.Shelf.holds c.args.shelf.now) c.args.shelf.now _
      c.new.ensures.items c.new-2.ensures.items;
  contents = λ other. refl;
}

pub loop-name-preserved : goal.loop-name-preserved
loop-name-preserved g c =
    let names = front_push string_bytes c.args.names.now c.loop-name.name-index c.name-item.result (omega arith)
    c.name-item.is in
    let name : List ℕ = string_bytes c.name-item.result in
    let opening = c.in_ok-opening.opening in
    let opened = rw c.as_str.ensures.value at c.in_ok-opening.ensures.opened in
    let of_first = subst (λ (content : Option (List ℕ)). IsOpening g.F.Shelf.state g.F.S.Source.state content name
    c.loop-name.shelf c.open_for_worker.new.shelf opening.file opening.end) (c.loop-name.invariant.contents name) opened in
    record {
      opened = rw names
          (one_opened_more g.F.Shelf.state g.F.S.Source.state (g.F.Shelf.holds c.args.shelf.now)
          (map string_bytes (take c.loop-name.name-index c.args.names.now)) name c.args.shelf.now c.loop-name.shelf
          c.open_for_worker.new.shelf c.loop-name.openings c.push_opening.new.openings opening c.loop-name.invariant.opened
          of_first c.in_ok-push_opening.ensures.files c.in_ok-push_opening.ensures.ends);
      contents = λ other. c.in_ok-opening.ensures.contents other ∙ c.loop-name.invariant.contents other;
    }
