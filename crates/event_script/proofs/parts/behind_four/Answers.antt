use Rattle.std.proofs.Common.{◌≡◌, ◌∙◌, ◌++◌, ◌-◌, ◌<◌, ◌≤◌, ◌⊎◌, ℕ, ap, sym, subst, inl, inr, arith, drop, get_or, length, take}
use Rattle.std.specs.Int.{to_le_bytes, w32}
use Rattle.std.proofs.lemmas.List.{get_or-take, get_or_past, length-drop, length-take-le, take-append-drop, take_all}
use Rattle.std.proofs.lemmas.Bool.{cases_lt}
use Rattle.std.proofs.lemmas.Nat.{le_bytes_4}
use Rattle.event_script.proofs.parts.behind_four.Goals as goal

pub returns : goal.returns
returns c =
    let text = c.args.text.now in
    let front = c.args.front.now in
    let first = c.in-Some.first.now in
    let x = c.from_le_bytes in
    let y = c.from_le_bytes-2 in
    let stands : first ≡ take 4 text = c.in-Some.ensures.cases.same in
    let long : length first ≡ 4 = ap length stands ∙ length-take-le 4 text c.in-Some.ensures.cases.enough in
    let whole : length front ≡ 4 = c.told-front in
    let same : first ≡ front =
    sym (le_bytes_4 first x.result long (λ i. fits_first i (cases_lt i 4)) x.ensures) ∙ (ap (to_le_bytes w32) c.if-from_le_bytes.false ∙ le_bytes_4 front y.result whole c.fits-front y.ensures) in
    let rest : take (length text - 4) (drop 4 text) ≡ drop 4 text = take_all (length text - 4) (drop 4 text) (omega (arith, length-drop 4 text)) in
    sym (take-append-drop 4 text) ∙ (λ i. (sym stands ∙ same) i ++ sym rest i)
  where
    fits_first : (i : ℕ) → (i < 4) ⊎ (4 ≤ i) → get_or c.in-Some.first.now i 0 < 256
    fits_first i (inl below) = subst (λ x. x < 256)
        (sym (ap (λ xs. get_or xs i 0) c.in-Some.ensures.cases.same ∙ get_or-take 4 c.args.text.now i 0 below)) (c.type_inv.text i).fits
    fits_first i (inr past) = subst (λ x. x < 256)
        (sym (get_or_past c.in-Some.first.now i 0 (omega (arith, ap length c.in-Some.ensures.cases.same, length-take-le 4 c.args.text.now c.in-Some.ensures.cases.enough)))) (omega arith)
