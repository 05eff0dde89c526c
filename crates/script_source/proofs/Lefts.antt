-- The bytes that are left of a script.
use Rattle.std.proofs.Common.{◌≡◌, ◌-◌, ◌≤◌, ℕ, zero, suc, List, [], ◌∷◌, ◌++◌, length, drop, ap, ap₂, ◌∙◌, sym, arith}
use Rattle.std.proofs.lemmas.List.{drop_all}
use Rattle.event_script.specs.Grammar.{line_for, lines_for}
use Rattle.load_scripts.specs.Load.{event_at, events_behind, next_state}

-- the next line is what comes behind a line that was taken
pub next_line : (script x n : ℕ) (line before : List ℕ) (at : ℕ) → 1 ≤ n → length before ≤ at → line ≡ line_for (event_at script (next_state x)) ++ 10 ∷ []
    → line ++ lines_for (events_behind script (next_state x) (n - 1)) ≡ drop at before ++ lines_for (events_behind script x n)
next_line script x zero line before at some taken is = absurd (omega (arith, some))
next_line script x (suc n) line before at some taken is =
    let less : suc n - 1 ≡ n = omega arith in
    ap₂ (λ (l : List ℕ) (k : ℕ). l ++ lines_for (events_behind script (next_state x) k)) is less
    ∙ sym (ap (λ (l : List ℕ). l ++ lines_for (events_behind script x (suc n))) (drop_all at before taken))
