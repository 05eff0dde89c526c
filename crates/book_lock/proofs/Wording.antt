-- What the steps on words of changes leave of a seat.
use Rattle.std.proofs.Common.{◌≡◌, ◌≢◌, ℕ, zero, suc, ◌+◌, ◌-◌, ◌*◌, ◌/◌, ◌%◌, ◌<◌, ◌≤◌, List, [], ◌∷◌, ◌++◌, length, get_or, take, drop, sym, refl, ap, ◌∙◌, arith, Option, append-nil, append_assoc}
use Rattle.std.proofs.lemmas.List.{take_more, get_or-drop, length-take-le, length-drop, take_all}
use Rattle.seat_parts.specs.Parts.{first_changed, first_or, own_changed}
use Rattle.stat_defs.specs.declared.ids.Kind.{Kind}
use Rattle.stat_defs.specs.declared.ids.Kind.TheVariants.{Counter, Gauge, Histogram, Text}
use Rattle.stat_defs.specs.declared.ids.MetricId.{MetricId}
use Rattle.stat_defs.specs.declared.history.NameOp.{NameOp}
use Rattle.stat_defs.specs.declared.history.NameOp.TheVariants.{Made, Gone}
use Rattle.stat_defs.specs.Changes.{at_of, id_of}
use Rattle.book_lock.specs.declared.view.LockKind.{LockKind}
use Rattle.book_lock.specs.declared.view.LockKind.TheVariants.{StoreWord, LoadWord}
use Rattle.book_lock.specs.declared.view.LockStep.{LockStep}
use Rattle.book_lock.specs.declared.view.LockPart.{LockPart}
use Rattle.book_lock.specs.Naming.{kind_code, code_of, words_of}
use Rattle.book_lock.specs.History.{step_of, word_steps, stored_word, stored_all, read_all}
use Rattle.book_lock.specs.Locked.{View, Sat, blank_part, own_part}
use Rattle.book_lock.proofs.Standing.{words-length}

steps-append : (kind : ℕ → LockKind) (i : ℕ) (ws vs : List ℕ) (steps : List LockStep) → word_steps kind i (ws ++ vs) steps ≡ word_steps kind (i + length ws) vs (word_steps kind i ws steps)
steps-append kind i [] vs steps = let e : i ≡ i + 0 = omega arith in ap (λ j. word_steps kind j vs steps) e
steps-append kind i (w ∷ ws) vs steps = let e : suc i + length ws ≡ i + length (w ∷ ws) = omega arith in let more : List LockStep = step_of (kind i) w ∷ steps in
    steps-append kind (suc i) ws vs more ∙ ap (λ j. word_steps kind j vs (word_steps kind (suc i) ws more)) e

pub stored-none : (i : ℕ) (p : LockPart) → stored_all i [] p ≡ p
stored-none i p = λ k. record p { stored = append-nil p.stored k }

pub stored-more : (i j : ℕ) (ws vs : List ℕ) (p : LockPart) → j ≡ i + length ws → stored_all j vs (stored_all i ws p) ≡ stored_all i (ws ++ vs) p
stored-more i j ws vs p e = let s = ap (λ n. word_steps (λ m. StoreWord m) n vs (word_steps (λ m. StoreWord m) i ws p.steps)) e ∙ sym (steps-append (λ m. StoreWord m) i ws vs p.steps) in
    λ k. record p { stored = append_assoc p.stored ws vs k; steps = s k }

pub stored-two : (i a b : ℕ) (p : LockPart) → stored_word (suc i) b (stored_word i a p) ≡ stored_all i (a ∷ b ∷ []) p
stored-two i a b p = λ k. record p { stored = append_assoc p.stored (a ∷ []) (b ∷ []) k; steps = step_of (StoreWord (suc i)) b ∷ step_of (StoreWord i) a ∷ p.steps }

pub read-none : (i : ℕ) (p : LockPart) → read_all i [] p ≡ p
read-none i p = refl

pub read-more : (i j : ℕ) (ws vs : List ℕ) (p : LockPart) → j ≡ i + length ws → read_all j vs (read_all i ws p) ≡ read_all i (ws ++ vs) p
read-more i j ws vs p e = let s = ap (λ n. word_steps (λ m. LoadWord m) n vs (word_steps (λ m. LoadWord m) i ws p.steps)) e ∙ sym (steps-append (λ m. LoadWord m) i ws vs p.steps) in
    λ k. record p { steps = s k }

same-first : (ps : List LockPart) → first_changed (λ p. p) ps ≡ ps
same-first [] = refl
same-first (p ∷ ps) = refl

twice-first : (f g : LockPart → LockPart) (ps : List LockPart) → first_changed f (first_changed g ps) ≡ first_changed (λ p. f (g p)) ps
twice-first f g [] = refl
twice-first f g (p ∷ ps) = refl

module _ {B : Type 0} where
  view-of : List LockPart → List (ℕ × Option B) → Sat B
  view-of ps c = (record { parts = ps }, c)

  -- nothing was done yet
  pub done-none : (f : LockPart → LockPart) (m : Sat B) (c : List (ℕ × Option B)) → m.1 ≡ c → ((p : LockPart) → f p ≡ p) → m ≡ (own_changed f m.0, c)
  unfolding view-of
  done-none f m c out same = ap (view-of m.0.parts) out ∙ (ap (λ ps. view-of ps c) (sym (same-first m.0.parts)) ∙ (λ k. view-of (first_changed (λ p. sym (same p) k) m.0.parts) c))

  -- one thing was done after another
  pub done-more : (f g h : LockPart → LockPart) (m m1 m2 : Sat B) (c : List (ℕ × Option B)) → m1 ≡ (own_changed f m.0, c) → m2 ≡ (own_changed g m1.0, m1.1) → ((p : LockPart) → g (f p) ≡ h p) → m2 ≡ (own_changed h m.0, c)
  unfolding view-of
  done-more f g h m m1 m2 c e1 e2 same = e2 ∙ (ap (λ (z : Sat B). view-of (first_changed g z.0.parts) z.1) e1 ∙ (ap (λ ps. view-of ps c) (twice-first g f m.0.parts) ∙ (λ k. view-of (first_changed (λ p. same p k) m.0.parts) c)))

  -- the same where the last step tells that nothing is held but c
  pub done-more-to : (f g h : LockPart → LockPart) (m m1 m2 : Sat B) (c c' : List (ℕ × Option B)) → m1 ≡ (own_changed f m.0, c) → m2 ≡ (own_changed g m1.0, c') → ((p : LockPart) → g (f p) ≡ h p) → m2 ≡ (own_changed h m.0, c')
  unfolding view-of
  done-more-to f g h m m1 m2 c c' e1 e2 same = e2 ∙ (ap (λ (z : Sat B). view-of (first_changed g z.0.parts) c') e1 ∙ (ap (λ ps. view-of ps c') (twice-first g f m.0.parts) ∙ (λ k. view-of (first_changed (λ p. same p k) m.0.parts) c')))

  own-lists : (f : LockPart → LockPart) (ps : List LockPart) (m1 : Sat B) (c : List (ℕ × Option B)) → length ps ≡ 1 → m1 ≡ view-of (first_changed f ps) c → (length m1.0.parts ≡ 1) × (m1.1 ≡ c) × (own_part m1.0 ≡ f (first_or blank_part ps))
  unfolding view-of
  own-lists f [] m1 c alone e = absurd (omega arith)
  own-lists f (p ∷ []) m1 c alone e = (ap (λ (z : Sat B). length z.0.parts) e, ap (λ (z : Sat B). z.1) e, ap (λ (z : Sat B). own_part z.0) e)
  own-lists f (p ∷ q ∷ ps) m1 c alone e = absurd (omega arith)

  -- what a seat of one part is after it
  pub own-done : (f : LockPart → LockPart) (m m1 : Sat B) (c : List (ℕ × Option B)) → length m.0.parts ≡ 1 → m1 ≡ (own_changed f m.0, c) → (length m1.0.parts ≡ 1) × (m1.1 ≡ c) × (own_part m1.0 ≡ f (own_part m.0))
  unfolding view-of
  own-done f m m1 c alone e = own-lists f m.0.parts m1 c alone e

  -- two words by what they are
  pub words-as : (f : List ℕ → LockPart → LockPart) (v : View) (m2 : Sat B) (c : List (ℕ × Option B)) (a a' b b' : ℕ) → a ≡ a' → b ≡ b' → m2 ≡ (own_changed (f (a ∷ b ∷ [])) v, c) → m2 ≡ (own_changed (f (a' ∷ b' ∷ [])) v, c)
  unfolding view-of
  words-as f v m2 c a a' b b' ea eb e = e ∙ (λ i. view-of (first_changed (f (ea i ∷ eb i ∷ [])) v.parts) c)

-- one change more of a part of a list
pub one-change-more : (xs : List NameOp) (from k : ℕ) (c : NameOp) → from ≤ k → k < length xs → get_or xs k c ≡ c → take (k + 1 - from) (drop from xs) ≡ take (k - from) (drop from xs) ++ c ∷ []
one-change-more xs from k c le lt at =
    let i : ℕ = k - from in let n : k + 1 - from ≡ i + 1 = omega arith in let long = length-drop from xs in let small : i < length (drop from xs) = omega arith in
    let there : from + i ≡ k = omega arith in
    ap (λ j. take j (drop from xs)) n ∙ (take_more (drop from xs) i c small ∙ ap (λ x. take i (drop from xs) ++ x ∷ []) (get_or-drop from xs i c ∙ (ap (λ j. get_or xs j c) there ∙ at)))

pub words-so-far : (xs : List NameOp) (from k : ℕ) → from ≤ k → k ≤ length xs → length (words_of (take (k - from) (drop from xs))) ≡ 2 * k - 2 * from
words-so-far xs from k le lt = let i : ℕ = k - from in let long = length-drop from xs in let t = length-take-le i (drop from xs) (omega arith) in let w = words-length (take i (drop from xs)) in omega arith

pub all-changes : (xs : List NameOp) (from n : ℕ) → length xs ≡ n → take (n - from) (drop from xs) ≡ drop from xs
all-changes xs from n e = let long = length-drop from xs in take_all (n - from) (drop from xs) (omega arith)

-- two words give their change back
kind-of : ℕ → Kind
kind-of zero = Counter
kind-of (suc zero) = Gauge
kind-of (suc (suc zero)) = Histogram
kind-of (suc (suc (suc n))) = Text

kind-back : (k : Kind) → kind-of (kind_code k) ≡ k
unfolding kind-of
kind-back Counter = refl
kind-back Gauge = refl
kind-back Histogram = refl
kind-back Text = refl

kind-same : (k j : Kind) → kind_code k ≡ kind_code j → k ≡ j
kind-same k j e = sym (kind-back k) ∙ (ap kind-of e ∙ kind-back j)

kind-below : (k : Kind) → kind_code k < 4
kind-below Counter = omega arith
kind-below Gauge = omega arith
kind-below Histogram = omega arith
kind-below Text = omega arith

parted : (x r code : ℕ) → 8 * x + r ≡ code → r < 8 → (code / 8 ≡ x) × (code % 8 ≡ r)
parted x r code e lt = (omega arith, omega arith)

numbered-so : (n : ℕ) (id : MetricId) → n ≡ id.0 → let a : MetricId = record { 0 = n } in a ≡ id
numbered-so n id e = λ i. record { 0 = e i }

pub made-is : (k : Kind) (at code n : ℕ) → code % 8 ≡ kind_code k → n ≡ code / 8 → (change : NameOp) → at_of change ≡ at → code_of change ≡ code → Made at (record { 0 = n }) k ≡ change
made-is k at code n r d (Made at' id k') e e' = let b = kind-below k' in let p = parted id.0 (kind_code k') code e' (omega arith) in let p0 = p.0 in let p1 = p.1 in
    λ i. Made (sym e i) (numbered-so n id (d ∙ p0) i) (kind-same k k' (sym r ∙ p1) i)
made-is k at code n r d (Gone at' id) e e' = let b = kind-below k in let p = parted id.0 4 code e' (omega arith) in let p1 = p.1 in absurd (omega arith)

pub gone-is : (at code n : ℕ) → code % 8 ≢ 0 → code % 8 ≢ 1 → code % 8 ≢ 2 → code % 8 ≢ 3 → n ≡ code / 8 → (change : NameOp) → at_of change ≡ at → code_of change ≡ code → Gone at (record { 0 = n }) ≡ change
gone-is at code n r0 r1 r2 r3 d (Made at' id k') e e' = let b = kind-below k' in let p = parted id.0 (kind_code k') code e' (omega arith) in let p1 = p.1 in absurd (omega arith)
gone-is at code n r0 r1 r2 r3 d (Gone at' id) e e' = let p = parted id.0 4 code e' (omega arith) in let p0 = p.0 in λ i. Gone (sym e i) (numbered-so n id (d ∙ p0) i)

-- the words of a change stand at twice its number
pub words-at : (xs : List NameOp) (k : ℕ) (d : NameOp) → k < length xs → (get_or (words_of xs) (2 * k) 0 ≡ at_of (get_or xs k d)) × (get_or (words_of xs) (suc (2 * k)) 0 ≡ code_of (get_or xs k d)) × (suc (2 * k) < length (words_of xs))
words-at [] k d h = absurd (omega arith)
words-at (x ∷ xs) zero d h = (refl, refl, omega arith)
words-at (x ∷ xs) (suc k) d h = let r = words-at xs k d (omega arith) in let e : 2 * suc k ≡ suc (suc (2 * k)) = omega arith in let r2 = r.2 in
    (ap (λ j. get_or (words_of (x ∷ xs)) j 0) e ∙ r.0, ap (λ j. get_or (words_of (x ∷ xs)) (suc j) 0) e ∙ r.1, omega arith)

-- the number in the second word is small
pub code-small : (c : NameOp) (room : ℕ) → 2 * id_of c < room → room ≤ 131072 → code_of c < 34359738368
code-small (Made at id k) room lt le = let b = kind-below k in omega arith
code-small (Gone at id) room lt le = omega arith
