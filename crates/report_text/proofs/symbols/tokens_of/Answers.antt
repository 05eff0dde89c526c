use Rattle.std.proofs.Common.{◌≡◌, ℕ, ◌==◌, List, map, Vec, Global, rules}
use Rattle.std.specs.Borrow.{Bor}
use Rattle.std.specs.List.{slice_split}
use Rattle.std.proofs.lemmas.Iterator.Splits.{YieldsList-from_slice_split}
use Rattle.std.proofs.lemmas.Iterator.Consumers.{map_from_collect}
use Rattle.std.proofs.lemmas.Result.{IfOk-at_ok}
use Rattle.report_text.proofs.symbols.tokens_of.Goals as goal

pub returns : goal.returns
returns c =
    IfOk-at_ok (λ (w : Vec (Bor (List ℕ)) Global). map (λ (x : Bor (List ℕ)). x.now) w.items
    ≡ slice_split (λ b. b == 46) c.args.name.now) c.in_ok-collect.was
    (map_from_collect _ c.collect.ensures.ran (YieldsList-from_slice_split _
    (λ (b : ℕ). b == 46) c.args.name.now c.split.ensures.rest c.split.ensures.done c.split.ensures.closure
    (λ x b q k. search rules)))
