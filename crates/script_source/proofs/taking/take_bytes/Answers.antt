use Rattle.std.proofs.Common.{◌+◌, ◌++◌, ◌∙◌, ℕ, List, ap, drop, take, rules, sym, append_assoc}
use Rattle.std.proofs.lemmas.List.{take_rest, places}
use Rattle.event_script.specs.Grammar.{lines_for}
use Rattle.load_scripts.specs.Load.{events_behind}
use Rattle.stats_io.proofs.Pieces.{front_and_rest}
use Rattle.script_source.proofs.taking.take_bytes.Goals as goal

pub returns-clause-bytes : goal.returns-clause-bytes
returns-clause-bytes c =
    let m = c.args.making.now in
    let behind = lines_for (events_behind m.script m.x m.events) in
    let front = front_and_rest m.line.bytes c.args.into.now c.copy_from_slice.new.self m.at c.min-count.result (search (rules, places)) (simp (take_rest, c.as_bytes.ensures.value, c.as_str.ensures.value) at c.copy_from_slice.ensures.after) in
    ap (λ (l : List ℕ). l ++ behind) (sym front) ∙ append_assoc (take c.min-count.result (c.copy_from_slice.new.self ++ drop c.min-count.result c.args.into.now)) (drop (m.at + c.min-count.result) m.line.bytes) behind
