-- Words of changes in a table, and changes that go on.
use Rattle.std.proofs.Common.{◌≡◌, ℕ, ◌+◌, ◌*◌, ◌<◌, ◌≤◌, List, [], ◌∷◌, ◌++◌, length, get_or, set, sym, refl, ap, ◌∙◌, subst, arith, get_or-set_same, get_or-set_other, append-nil, append_assoc, length-append, All}
use Rattle.std.proofs.lemmas.List.{get_or_append_left, get_or-append-add}
use Rattle.std.proofs.lemmas.List.Elements.{All-nil, All-head, All-tail, All-append, All-weaker}
use mathlib.Core.Logic.{dite}
use native.Mathlib.Decide.{ℕ_discrete}
use Rattle.stat_defs.specs.declared.history.NameOp.{NameOp}
use Rattle.stat_defs.specs.Changes.{at_of, id_of, NeverFalls, GoesOnLater}
use Rattle.book_lock.specs.Naming.{code_of, words_of, Stands, AreNames, NamesStand}

pub words-append : (xs ys : List NameOp) → words_of (xs ++ ys) ≡ words_of xs ++ words_of ys
words-append [] ys = refl
words-append (x ∷ xs) ys = ap (λ l. at_of x ∷ code_of x ∷ l) (words-append xs ys)

pub words-length : (xs : List NameOp) → length (words_of xs) ≡ 2 * length xs
words-length [] = omega arith
words-length (x ∷ xs) = omega (arith, words-length xs)

module _ {X : Type 0} where
  pub all-front : (P : X → Type 0) (xs ys : List X) → All P (xs ++ ys) → All P xs
  all-front P xs ys a = λ k d h. subst P (get_or_append_left xs ys d k h) (a k d (let l = length-append xs ys in omega arith))

  pub all-behind : (P : X → Type 0) (xs ys : List X) → All P (xs ++ ys) → All P ys
  all-behind P xs ys a = λ k d h. subst P (get_or-append-add xs ys k d) (a (length xs + k) d (let l = length-append xs ys in omega arith))

-- words that stand there

pub stands-none : (words : List ℕ) (place : ℕ) → Stands words place []
stands-none words place i h = absurd (omega arith)

pub stands-front : (words : List ℕ) (place : ℕ) (xs ys : List ℕ) → Stands words place (xs ++ ys) → Stands words place xs
stands-front words place xs ys s i h = s i (let l = length-append xs ys in omega arith) ∙ get_or_append_left xs ys 0 i h

-- the words are the same from the place on
pub stands-same : (words words' : List ℕ) (place : ℕ) (xs : List ℕ) → ((k : ℕ) → place ≤ k → get_or words' k 0 ≡ get_or words k 0) → Stands words place xs → Stands words' place xs
stands-same words words' place xs same s i h = same (place + i) (omega arith) ∙ s i h

-- a word below the place changes
pub stands-below : (words : List ℕ) (j y place : ℕ) (xs : List ℕ) → j < place → Stands words place xs → Stands (set words j y) place xs
stands-below words j y place xs lt s = stands-same words (set words j y) place xs (λ k h. get_or-set_other words j k y 0 (λ e. omega arith)) s

-- a word behind them changes
pub stands-behind : (words : List ℕ) (j y place : ℕ) (xs : List ℕ) → place + length xs ≤ j → Stands words place xs → Stands (set words j y) place xs
stands-behind words j y place xs le s i h = get_or-set_other words j (place + i) y 0 (λ e. omega arith) ∙ s i h

-- and is one more of them
pub stands-more : (words : List ℕ) (j y place : ℕ) (xs : List ℕ) → j ≡ place + length xs → j < length words → Stands words place xs → Stands (set words j y) place (xs ++ y ∷ [])
stands-more words j y place xs e lt s i h = dite (ℕ_discrete i (length xs))
    (λ is. let at : place + i ≡ j = omega arith in let zero-more : i ≡ length xs + 0 = omega arith in
    ap (λ k. get_or (set words j y) k 0) at ∙ (get_or-set_same words j y 0 lt ∙ sym (ap (λ k. get_or (xs ++ y ∷ []) k 0) zero-more ∙ get_or-append-add xs (y ∷ []) 0 0)))
    (λ not. let l = length-append xs (y ∷ []) in let below : i < length xs = omega arith in
    get_or-set_other words j (place + i) y 0 (λ same. omega arith) ∙ (s i below ∙ sym (get_or_append_left xs (y ∷ []) 0 i below)))

-- changes that go on

pub later-not : (xs : List NameOp) → GoesOnLater xs xs
later-not xs = ([], sym (append-nil xs), All-nil _)

pub later-none : (xs : List NameOp) → GoesOnLater [] xs
later-none xs = (xs, refl, λ k d h. All-nil _)

pub later-same : (known xs ys : List NameOp) → ys ≡ xs → GoesOnLater known xs → GoesOnLater known ys
later-same known xs ys e g = (g.0, e ∙ g.1, g.2)

-- further changes behind all, which are later than each of them
pub later-far : (known xs ys more : List NameOp) → ys ≡ xs ++ more → All (λ later. All (λ c. at_of c < at_of later) xs) more → GoesOnLater known xs → GoesOnLater known ys
later-far known xs ys more e late g = (
  g.0 ++ more,
  e ∙ (ap (λ l. l ++ more) g.1 ∙ append_assoc known g.0 more),
  All-append (λ later. All (λ c. at_of c < at_of later) known) g.0 more g.2
      (All-weaker (λ later. All (λ c. at_of c < at_of later) xs) (λ later. All (λ c. at_of c < at_of later) known)
      (λ later a. all-front (λ c. at_of c < at_of later) known g.0 (subst (All (λ c. at_of c < at_of later)) g.1 a)) more late),
)

-- what goes on from changes that go on
pub later-then : (xs ys zs : List NameOp) → GoesOnLater xs ys → GoesOnLater ys zs → GoesOnLater xs zs
later-then xs ys zs g h = later-far xs ys zs h.0 h.1 h.2 g

-- those past the reach are later than those within it
pub later-by : (reach : ℕ) (xs more : List NameOp) → All (λ c. at_of c ≤ reach) xs → All (λ c. reach < at_of c) more → All (λ later. All (λ c. at_of c < at_of later) xs) more
later-by reach xs more within late = All-weaker (λ c. reach < at_of c) (λ later. All (λ c. at_of c < at_of later) xs)
    (λ later lt. All-weaker (λ c. at_of c ≤ reach) (λ c. at_of c < at_of later) (λ c le. omega arith) xs within) more late

pub rising-append : (xs ys : List NameOp) → NeverFalls xs → NeverFalls ys → All (λ later. All (λ c. at_of c < at_of later) xs) ys → NeverFalls (xs ++ ys)
rising-append [] ys a b late = b
rising-append (x ∷ xs) ys a b late = (
  All-append (λ later. at_of x ≤ at_of later) xs ys a.0 (All-weaker (λ later. All (λ c. at_of c < at_of later) (x ∷ xs)) (λ later. at_of x ≤ at_of later) (λ later l. let h = All-head (λ c. at_of c < at_of later) x xs l in omega arith) ys late),
  rising-append xs ys a.1 b (All-weaker (λ later. All (λ c. at_of c < at_of later) (x ∷ xs)) (λ later. All (λ c. at_of c < at_of later) xs) (λ later l. All-tail (λ c. at_of c < at_of later) x xs l) ys late),
)

pub rising-front : (xs ys : List NameOp) → NeverFalls (xs ++ ys) → NeverFalls xs
rising-front [] ys a = tt
rising-front (x ∷ xs) ys a = (all-front (λ later. at_of x ≤ at_of later) xs ys a.0, rising-front xs ys a.1)

pub names-front : (room : ℕ) (known xs : List NameOp) → GoesOnLater known xs → AreNames room xs → AreNames room known
names-front room known xs g a = record {
  few = (let l = length-append known g.0 in let e = ap length g.1 in let f = a.few in omega arith);
  small = all-front (λ c. 2 * id_of c < room) known g.0 (subst (All (λ c. 2 * id_of c < room)) g.1 a.small);
  rising = rising-front known g.0 (subst NeverFalls g.1 a.rising);
}

pub names-none : (room : ℕ) → AreNames room []
names-none room = record { few = omega arith; small = All-nil _; rising = tt }

-- new changes are published behind the others
pub names-more : (room reach : ℕ) (xs ys more : List NameOp) → ys ≡ xs ++ more → AreNames room xs → length ys ≤ room → All (λ c. 2 * id_of c < room) more → NeverFalls more → All (λ c. at_of c ≤ reach) xs → All (λ c. reach < at_of c) more → AreNames room ys
names-more room reach xs ys more e a few small rising within late = record {
  few = few;
  small = subst (All (λ c. 2 * id_of c < room)) (sym e) (All-append (λ c. 2 * id_of c < room) xs more a.small small);
  rising = subst NeverFalls (sym e) (rising-append xs more a.rising rising (later-by reach xs more within late));
}

-- the words below the number stay where another word changes
pub stand-beside : (room : ℕ) (words : List ℕ) (j y : ℕ) (changes : List NameOp) → NamesStand room words changes → j < 16 → NamesStand room (set words j y) changes
stand-beside room words j y changes n lt = record {
  count = get_or-set_other words j 16 y 0 (λ e. omega arith) ∙ n.count;
  stored = stands-below words j y 17 (words_of changes) (omega arith) n.stored;
  lawful = n.lawful;
}

pub stand-before : (room : ℕ) (words : List ℕ) (j y : ℕ) (changes : List NameOp) → NamesStand room words changes → 17 + length (words_of changes) ≤ j → NamesStand room (set words j y) changes
stand-before room words j y changes n le = record {
  count = get_or-set_other words j 16 y 0 (λ e. omega arith) ∙ n.count;
  stored = stands-behind words j y 17 (words_of changes) le n.stored;
  lawful = n.lawful;
}

-- a word below the number of known changes is theirs
pub word-known : (words : List ℕ) (known changes : List NameOp) (place : ℕ) → GoesOnLater known changes → Stands words 17 (words_of changes) → place < length (words_of known) → get_or words (17 + place) 0 ≡ get_or (words_of known) place 0
word-known words known changes place g s h = stands-front words 17 (words_of known) (words_of g.0) (subst (Stands words 17) (ap words_of g.1 ∙ words-append known g.0) s) place h

pub within-more : (reach reach' : ℕ) (xs ys more : List NameOp) → ys ≡ xs ++ more → reach ≤ reach' → All (λ c. at_of c ≤ reach) xs → All (λ c. at_of c ≤ reach') more → All (λ c. at_of c ≤ reach') ys
within-more reach reach' xs ys more e le a b = subst (All (λ c. at_of c ≤ reach')) (sym e) (All-append (λ c. at_of c ≤ reach') xs more (All-weaker (λ c. at_of c ≤ reach) (λ c. at_of c ≤ reach') (λ c h. omega arith) xs a) b)
