-- A pass tells the least worker that is late.
use Rattle.std.proofs.Common.{◌≡◌, ℕ, suc, List, [], ◌∷◌, Option, Some, None, refl, ap, sym, ◌∙◌, arith}
use Rattle.std.specs.List.{AllByRecursion}
use Rattle.flush_cells.specs.declared.passing.Pass.{Pass}
use Rattle.flush_cells.specs.declared.passing.Pass.TheVariants.{Done, Late}
use Rattle.flush_cells.specs.declared.tokens.FlushCell.{FlushCell}
use Rattle.flush_cells.specs.Cells.{late_in}
use Rattle.flush_cells.specs.Late.{late_or, pass_from, IsOnTime, LateAt, TellsLeast}

abbrev kind_in : Pass → ℕ
kind_in Done = 0
kind_in (Late worker word) = 1

abbrev worker_in : Pass → ℕ
worker_in Done = 0
worker_in (Late worker word) = worker

abbrev word_in : Pass → ℕ
word_in Done = 0
word_in (Late worker word) = word

least : (first : ℕ) (cells : List FlushCell) (worker word : ℕ) → pass_from first cells ≡ Late worker word → LateAt first cells worker word
least first [] worker word e = absurd (let k : 0 ≡ 1 = ap kind_in e in omega (arith, k))
least first (c ∷ cells) worker word e = by_late (λ rest. least (suc first) cells worker word rest) (late_in c) refl where
  by_late : (pass_from (suc first) cells ≡ Late worker word → LateAt (suc first) cells worker word) → (o : Option ℕ) → late_in c ≡ o → LateAt first (c ∷ cells) worker word
  by_late behind (Some found) is =
      let told : Late first found ≡ Late worker word = sym (ap (λ (o : Option ℕ). late_or o first (pass_from (suc first) cells)) is) ∙ e in record {
        before = [];
        cell = c;
        behind = cells;
        whole = refl;
        at = (let w = ap worker_in told in omega (arith, w));
        late = is ∙ ap (λ (n : ℕ). Some n) (ap word_in told);
        on_time = tt;
      }
  by_late behind None is =
      let r = behind (sym (ap (λ (o : Option ℕ). late_or o first (pass_from (suc first) cells)) is) ∙ e) in record {
        before = c ∷ r.before;
        cell = r.cell;
        behind = r.behind;
        whole = ap (λ (l : List FlushCell). c ∷ l) r.whole;
        at = (let w = r.at in omega (arith, w));
        late = r.late;
        on_time = (is, r.on_time);
      }

none_late : (first : ℕ) (cells : List FlushCell) → pass_from first cells ≡ Done → AllByRecursion IsOnTime cells
none_late first [] e = tt
none_late first (c ∷ cells) e = by_late (λ rest. none_late (suc first) cells rest) (late_in c) refl where
  by_late : (pass_from (suc first) cells ≡ Done → AllByRecursion IsOnTime cells) → (o : Option ℕ) → late_in c ≡ o → AllByRecursion IsOnTime (c ∷ cells)
  by_late behind (Some found) is = absurd (let k : 1 ≡ 0 = ap kind_in (sym (ap (λ (o : Option ℕ). late_or o first (pass_from (suc first) cells)) is) ∙ e) in omega (arith, k))
  by_late behind None is = (is, behind (sym (ap (λ (o : Option ℕ). late_or o first (pass_from (suc first) cells)) is) ∙ e))

pub tells-least : TellsLeast
tells-least = record { late = least 1; done = none_late 1 }
