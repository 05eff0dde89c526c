use Rattle.std.proofs.Common.{◌∙◌, map, take, string_bytes, refl, arith}
use Rattle.replay_files.proofs.FilesRead.{front_push, no_files, same_content, one_file_more}
use Rattle.replay_files.proofs.reading.read_files.Goals as goal

pub loop-name-init : goal.loop-name-init
loop-name-init g c = record {
  runs = no_files g.F.Shelf.state g.F.S.Source.state (g.F.Shelf.holds c.args.shelf.now) c.args.shelf.now
      c.args.store.now _ c.new.ensures.items c.new-2.ensures.items;
  contents = λ other. refl;
}

pub loop-name-preserved : goal.loop-name-preserved
loop-name-preserved g c =
    let names = front_push string_bytes c.args.names.now c.loop-name.name-index c.name-item.result (omega arith)
    c.name-item.is in
    let held = g.F.Shelf.holds c.args.shelf.now in
    let read = same_content g.F.Shelf.state g.F.S.Source.state (g.F.Shelf.holds c.loop-name.shelf) held
    (string_bytes c.name-item.result) _ _ _ _ c.in_ok-run.run'
    (c.loop-name.invariant.contents (string_bytes c.name-item.result))
    (rw c.as_str.ensures.value at c.in_ok-run.ensures.read) in
    record {
      runs = rw names
          (one_file_more g.F.Shelf.state g.F.S.Source.state held
          (map string_bytes (take c.loop-name.name-index c.args.names.now)) (string_bytes c.name-item.result) _ _ _
          c.args.store.now c.loop-name.store c.read_file.new.store c.loop-name.runs c.push_run.new.runs
          c.in_ok-run.run' c.loop-name.invariant.runs read c.in_ok-push_run.ensures.verdicts
          c.in_ok-push_run.ensures.ends);
      contents = λ other. c.in_ok-run.ensures.contents other ∙ c.loop-name.invariant.contents other;
    }
