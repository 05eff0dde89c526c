-- What a seat with one part is after a step.
use Rattle.std.proofs.Common.{◌≡◌, ℕ, ◌+◌, ◌<◌, ◌≤◌, ⊎_elim, List, [], ◌∷◌, ◌++◌, length, sym, refl, ap, ◌∙◌, arith, Option, Some}
use mathlib.Core.Option.{none}
use Rattle.atomic_table.specs.Table.{rest, Step, step}
use Rattle.seat_parts.specs.declared.Parts.{Parts}
use Rattle.seat_parts.specs.Parts.{total, led_by, own_changed, first_changed, first_or}
use Rattle.seat_parts.proofs.Sums.{total-append}
use Rattle.turn_cell.specs.declared.limits.TheConstants.{MAX_TURNED}
use Rattle.turn_cell.specs.declared.view.WorkerStage.TheVariants.{Working, Turning}
use Rattle.turn_cell.specs.declared.view.FlusherStage.TheVariants.{Resting, Waiting, Found, Alone}
use Rattle.turn_cell.specs.declared.view.FlusherStage.{FlusherStage}
use Rattle.turn_cell.specs.declared.view.Party.TheVariants.{Worker, Flusher}
use Rattle.turn_cell.specs.declared.view.TurnKind.TheVariants.{Load, Begin, Give, Return}
use Rattle.turn_cell.specs.declared.view.TurnPart.{TurnPart}
use Rattle.turn_cell.specs.Turned.{own_turn, held_slot}
use Rattle.turn_cell.specs.Steps.{Sat, moved, grown, Gives, Returns, ShowsStage, TellsNotYet, TellsFull}

-- no relation reads the step
abbrev pub no-step : {S : Type 0} → Step S
no-step = step 0 0 0 0 none

module _ {H : Type 0} where
  view_of : List (TurnPart H) → Parts (TurnPart H)
  view_of ps = record { parts = ps }

  blank : TurnPart H
  blank = own_turn (view_of [])

  changed-list : (f : TurnPart H → TurnPart H) (d : TurnPart H) (ps : List (TurnPart H)) → length ps ≡ 1 → first_changed f ps ≡ f (first_or d ps) ∷ []
  changed-list f d [] a = absurd (omega arith)
  changed-list f d (p ∷ []) a = refl
  changed-list f d (p ∷ q ∷ ps) a = absurd (omega arith)

  -- a change of the one part of a view
  pub changed-one : (f : TurnPart H → TurnPart H) (v : Parts (TurnPart H)) → length v.parts ≡ 1 → own_changed f v ≡ led_by (f (own_turn v)) []
  unfolding view_of blank
  changed-one f v a = ap view_of (changed-list f blank v.parts a)

  pub sat : Parts (TurnPart H) → List (ℕ × Option H) → Sat H
  sat v c = (v, c)

  -- the slot that is held first
  pub holds-first : (m : Sat H) (v : Parts (TurnPart H)) (x : Option H) → m ≡ (v, (0, x) ∷ []) → m.1 ≡ (0, x) ∷ rest m.1
  holds-first m v x e = ap (λ (z : Sat H). z.1) e ∙ ap (λ (z : Sat H). (0, x) ∷ rest z.1) (sym e)

  held-value : Option H → List (ℕ × Option H) → Option H
  held-value d [] = d
  held-value d (x ∷ c) = x.1

  -- what an exchange finds there, and what it leaves
  pub found-first : (m : Sat H) (v : Parts (TurnPart H)) (x found : Option H) → m ≡ (v, (0, x) ∷ []) → m.1 ≡ (0, found) ∷ rest m.1 → found ≡ x
  unfolding held-value
  found-first m v x found e h = ap (held-value found) (sym h) ∙ ap (λ (z : Sat H). held-value found z.1) e

  pub exchanged : (m m' : Sat H) (v : Parts (TurnPart H)) (x y : Option H) → m ≡ (v, (0, x) ∷ []) → m' ≡ (m.0, (0, y) ∷ rest m.1) → m' ≡ (v, (0, y) ∷ [])
  unfolding sat
  exchanged m m' v x y e e' = e' ∙ ap (λ (z : Sat H). sat z.0 ((0, y) ∷ rest z.1)) e

  -- a begin
  pub begun-seat : (m m' : Sat H) (spare : H) → length m.0.parts ≡ 1 → m' ≡ (own_changed (moved (Worker Turning) Begin 1) m.0, (0, Some spare) ∷ [])
      → m' ≡ (led_by (moved (Worker Turning) Begin 1 (own_turn m.0)) [], (0, Some spare) ∷ [])
  unfolding sat
  begun-seat m m' spare a e = e ∙ ap (λ v. sat v ((0, Some spare) ∷ [])) (changed-one (moved (Worker Turning) Begin 1) m.0 a)

  -- a begin, an exchange and a give
  pub turned-seat : (m m1 m2 m3 : Sat H) (spare half : H) → m1 ≡ (led_by (moved (Worker Turning) Begin 1 (own_turn m.0)) [], (0, Some spare) ∷ [])
      → m2 ≡ (m1.0, (0, Some half) ∷ rest m1.1) → Gives no-step m2 0 m3
      → m3 ≡ (led_by (grown half (Worker Working) Give 2 (moved (Worker Turning) Begin 1 (own_turn m.0))) [], [])
  unfolding sat
  turned-seat m m1 m2 m3 spare half e1 e2 e3 =
      let e : m2 ≡ (led_by (moved (Worker Turning) Begin 1 (own_turn m.0)) [], (0, Some half) ∷ []) = exchanged m1 m2 _ (Some spare) (Some half) e1 e2 in
      e3 half (ap (λ (z : Sat H). z.1) e) ∙ ap (λ (z : Sat H). sat (own_changed (grown half (Worker Working) Give 2) z.0) []) e

  pub heavier : (weighs : H → ℕ) (halves : List H) (half : H) → total weighs halves + weighs half ≤ MAX_TURNED → total weighs (halves ++ half ∷ []) ≤ MAX_TURNED
  heavier weighs halves half h = let t = total-append weighs halves (half ∷ []) in omega arith

  pub weight-grown : (weighs : H → ℕ) (halves halves' : List H) (half : H) → halves' ≡ halves ++ half ∷ [] → total weighs halves' ≡ total weighs halves + weighs half
  weight-grown weighs halves halves' half e = let t = total-append weighs halves (half ∷ []) in omega (arith, ap (total weighs) e, t)

  held-list : (ps : List (TurnPart H)) (c : List (ℕ × Option H)) (d : TurnPart H) → length ps ≡ 1 → length c ≡ 1 → held_slot c ≡ 0 → (x : Option H) × (sat (view_of ps) c ≡ sat (view_of (first_or d ps ∷ [])) ((0, x) ∷ []))
  held-list [] c d a b e = absurd (omega arith)
  held-list (p ∷ q ∷ ps) c d a b e = absurd (omega arith)
  held-list (p ∷ []) [] d a b e = absurd (omega arith)
  held-list (p ∷ []) (x ∷ y ∷ c) d a b e = absurd (omega arith)
  held-list (p ∷ []) (x ∷ []) d a b e = (x.1, ap (λ (k : ℕ). sat (view_of (p ∷ [])) ((k, x.1) ∷ [])) e)

  -- a seat that holds the slot
  pub held-one : (m : Sat H) → length m.0.parts ≡ 1 → length m.1 ≡ 1 → held_slot m.1 ≡ 0 → (x : Option H) × (m ≡ (led_by (own_turn m.0) [], (0, x) ∷ []))
  unfolding sat view_of blank
  held-one m a b e = held-list m.0.parts m.1 blank a b e

  -- an exchange and a return
  pub returned-seat : (m m1 m2 : Sat H) (x half : Option H) (found : ℕ) → m ≡ (led_by (own_turn m.0) [], (0, x) ∷ []) → m1 ≡ (m.0, (0, half) ∷ rest m.1) → Returns no-step m1 found m2
      → m2 ≡ (led_by (moved (Flusher Resting) Return found (own_turn m.0)) [], [])
  unfolding sat
  returned-seat m m1 m2 x half found e e1 e2 =
      e2.1 ∙ ap (λ (z : Sat H). sat (own_changed (moved (Flusher Resting) Return found) z.0) []) (exchanged m m1 _ x half e e1)

  none-held : (c : List (ℕ × Option H)) → length c ≡ 0 → c ≡ []
  none-held [] e = refl
  none-held (x ∷ xs) e = absurd (omega arith)

  -- a flusher's load
  pub loaded-seat : (m m1 : Sat H) (stage : FlusherStage) (found : ℕ) → length m.0.parts ≡ 1 → length m.1 ≡ 0 → m1 ≡ (own_changed (moved (Flusher stage) Load found) m.0, m.1)
      → m1 ≡ (led_by (moved (Flusher stage) Load found (own_turn m.0)) [], [])
  unfolding sat
  loaded-seat m m1 stage found a b e = e ∙ (λ i. sat (changed-one (moved (Flusher stage) Load found) m.0 a i) (none-held m.1 b i))

-- what the word tells of the stage
pub shows-early : (stage : FlusherStage) (found : ℕ) → ShowsStage stage found → found < 3 → (stage ≡ Waiting) × TellsNotYet found
shows-early Waiting found s h = (refl, s)
shows-early Found found s h = absurd (⊎_elim (λ e. omega arith) (λ e. omega arith) s)
shows-early Alone found s h = absurd (omega arith)
shows-early stage found s h = absurd s

pub shows-alone : (stage : FlusherStage) (found : ℕ) → ShowsStage stage found → found ≡ 9 → stage ≡ Alone
shows-alone Waiting found s h = absurd (⊎_elim (λ e. omega arith) (λ e. omega arith) s)
shows-alone Found found s h = absurd (⊎_elim (λ e. omega arith) (λ e. omega arith) s)
shows-alone Alone found s h = refl
shows-alone stage found s h = absurd s

pub shows-full : (stage : FlusherStage) (found : ℕ) → ShowsStage stage found → 3 ≤ found → ¬ (found ≡ 9) → (stage ≡ Found) × TellsFull found
shows-full Waiting found s h n = absurd (⊎_elim (λ e. omega arith) (λ e. omega arith) s)
shows-full Found found s h n = (refl, s)
shows-full Alone found s h n = absurd (n s)
shows-full stage found s h n = absurd s
