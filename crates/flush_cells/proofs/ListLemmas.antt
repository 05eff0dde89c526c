-- Lists of tokens while a call goes over them.
use Rattle.std.proofs.Common.{◌≡◌, ℕ, suc, ◌+◌, ◌*◌, ◌≤◌, List, [], ◌∷◌, ◌++◌, Option, Some, None, length, length-append, append_assoc, map, All, get_or, refl, ap, sym, ◌∙◌, subst, arith}
use Rattle.std.proofs.Math.ListN.{get_or-map}
use Rattle.std.proofs.lemmas.List.{length-map}
use Rattle.std.proofs.lemmas.List.Elements.{All-nil, All-cons, All-append, All-head, All-tail}
use Rattle.seat_parts.specs.Parts.{total}
use Rattle.seat_parts.proofs.Sums.{total-append}
use Rattle.turn_cell.specs.declared.limits.TheConstants.{MAX_TURNED}
use Rattle.flush_cells.specs.declared.tokens.FlushCell.{FlushCell}
use Rattle.flush_cells.specs.declared.passing.Pass.{Pass}
use Rattle.flush_cells.specs.declared.passing.Pass.TheVariants.{Done}
use Rattle.flush_cells.specs.Cells.{cell_of, held_weight, taken_weight, late_in, IsCellKept, AreKept, most_merged}
use Rattle.flush_cells.specs.Asks.{Asks, AsksEach}
use Rattle.merge_round.specs.Rounds.{ParentsState}
use Rattle.flush_cells.specs.Passes.{Passes, PassesEach}
use Rattle.flush_cells.specs.Late.{late_or, pass_from, or_late}

-- one item more was taken
pub taken_one : {X : Type 0} (all done left rest : List X) (x : X) → all ≡ done ++ left → left ≡ x ∷ rest → all ≡ (done ++ x ∷ []) ++ rest
taken_one {X = X} all done left rest x whole first = whole ∙ (ap (λ (l : List X). done ++ l) first ∙ sym (append_assoc done (x ∷ []) rest))

at_place : {Y Z : Type 0} (g : Y → Z) (ys : List Y) (y : Y) (rest : List Y) (e : Z) → get_or (map g (ys ++ y ∷ rest)) (length ys) e ≡ g y
at_place g [] y rest e = refl
at_place g (x ∷ ys) y rest e = at_place g ys y rest e

-- the cell of the next token
pub place : {X Y Z : Type 0} (f : X → Z) (g : Y → Z) (xs : List X) (all done rest : List Y) (y : Y) (i : ℕ) (d x : X) → map f xs ≡ map g all
    → all ≡ (done ++ y ∷ []) ++ rest → i ≡ length done → x ≡ get_or xs i d → g y ≡ f x
place {Z = Z} f g xs all done rest y i d x same whole at is =
    sym (ap f is ∙ (sym (get_or-map f xs i d) ∙ (ap (λ (l : List Z). get_or l i (f d)) (same ∙ ap (map g) (whole ∙ append_assoc done (y ∷ []) rest))
    ∙ (ap (λ (j : ℕ). get_or (map g (done ++ y ∷ rest)) j (f d)) at ∙ at_place g done y rest (f d)))))

pub all_more : {X : Type 0} (P : X → Type 0) (xs : List X) (x : X) → All P xs → P x → All P (xs ++ x ∷ [])
all_more P xs x all here = All-append P xs (x ∷ []) all (All-cons P x [] here (All-nil P))

pub map_same : {X Z : Type 0} (f : X → Z) (xs ys : List X) (x y : X) → map f xs ≡ map f ys → f x ≡ f y → map f (xs ++ x ∷ []) ≡ map f (ys ++ y ∷ [])
map_same {Z = Z} f xs ys x y all here = map_push f xs x ∙ (ap (λ (l : List Z). l ++ f x ∷ []) all ∙ (ap (λ (z : Z). map f ys ++ z ∷ []) here ∙ sym (map_push f ys y))) where
  map_push : {X Z : Type 0} (f : X → Z) (xs : List X) (x : X) → map f (xs ++ x ∷ []) ≡ map f xs ++ f x ∷ []
  map_push f [] x = refl
  map_push {Z = Z} f (y ∷ ys) x = ap (λ (l : List Z). f y ∷ l) (map_push f ys x)

pub asks_more : (olds news : List FlushCell) (old new : FlushCell) → AsksEach olds news → Asks old new → AsksEach (olds ++ old ∷ []) (news ++ new ∷ [])
asks_more [] [] old new each one = (one, tt)
asks_more (o ∷ os) (n ∷ ns) old new each one = (each.0, asks_more os ns old new each.1 one)
asks_more [] (n ∷ ns) old new each one = absurd each
asks_more (o ∷ os) [] old new each one = absurd each

pub passes_more : (w : ℕ) (P M Q : ParentsState) (olds news : List FlushCell) (old new : FlushCell) → PassesEach w P olds M news → Passes (w + length olds) M old Q new
    → PassesEach w P (olds ++ old ∷ []) Q (news ++ new ∷ [])
passes_more w P M Q [] [] old new each one = (Q, subst (λ (m : ParentsState). Passes w m old Q new) each (subst (λ (k : ℕ). Passes k M old Q new) (none w) one), refl) where
  none : (a : ℕ) → a + 0 ≡ a
  none a = search arith
passes_more w P M Q (o ∷ os) (n ∷ ns) old new each one = (each.0, each.1, passes_more (suc w) each.0 M Q os ns old new each.2 (let e = move w (length os) in subst (λ (k : ℕ). Passes k M old Q new) e one)) where
  move : (a b : ℕ) → a + suc b ≡ suc a + b
  move a b = search arith
passes_more w P M Q [] (n ∷ ns) old new each one = absurd each
passes_more w P M Q (o ∷ os) [] old new each one = absurd each

late_behind : (late : Option ℕ) (w : ℕ) (rest : Pass) (k : ℕ) (more : Option ℕ) → late_or late w (or_late rest k more) ≡ or_late (late_or late w rest) k more
late_behind (Some word) w rest k more = refl
late_behind None w rest k more = refl

pub late_more : (w : ℕ) (cells : List FlushCell) (c : FlushCell) → pass_from w (cells ++ c ∷ []) ≡ or_late (pass_from w cells) (w + length cells) (late_in c)
late_more w [] c = last (late_in c) ∙ ap (λ (k : ℕ). or_late Done k (late_in c)) (none w) where
  none : (a : ℕ) → a ≡ a + 0
  none a = search arith

  last : (late : Option ℕ) → late_or late w Done ≡ or_late Done w late
  last (Some word) = refl
  last None = refl
late_more w (x ∷ cells) c =
    ap (late_or (late_in x) w) (late_more (suc w) cells c) ∙ (late_behind (late_in x) w (pass_from (suc w) cells) (suc w + length cells) (late_in c)
    ∙ ap (λ (k : ℕ). or_late (late_or (late_in x) w (pass_from (suc w) cells)) k (late_in c)) (move w (length cells))) where
      move : (a b : ℕ) → suc a + b ≡ a + suc b
      move a b = search arith

-- what all tokens weigh
pub most_taken : (cells : List FlushCell) → All IsCellKept cells → total taken_weight cells ≤ length cells * MAX_TURNED
most_taken [] all = search arith
most_taken (c ∷ cells) all = let here = (All-head IsCellKept c cells all).1 in let rest = most_taken cells (All-tail IsCellKept c cells all) in omega (arith, here, rest)

pub less_held : (cells : List FlushCell) → All IsCellKept cells → total held_weight cells ≤ total taken_weight cells
less_held [] all = search arith
less_held (c ∷ cells) all = let here = (All-head IsCellKept c cells all).0 in let rest = less_held cells (All-tail IsCellKept c cells all) in omega (arith, here, rest)

pub here : {X : Type 0} (P : X → Type 0) (all done rest : List X) (x : X) → all ≡ (done ++ x ∷ []) ++ rest → All P all → P x
here {X = X} P all done rest x whole each = first done (subst (λ (l : List X). All P l) (whole ∙ append_assoc done (x ∷ []) rest) each) where
  first : (done : List X) → All P (done ++ x ∷ rest) → P x
  first [] each = All-head P x rest each
  first (y ∷ ys) each = first ys (All-tail P y (ys ++ x ∷ rest) each)

pub before : {X : Type 0} (P : X → Type 0) (all done rest : List X) → all ≡ done ++ rest → All P all → All P done
before {X = X} P all done rest whole each = first done (subst (λ (l : List X). All P l) whole each) where
  first : (done : List X) → All P (done ++ rest) → All P done
  first [] each = All-nil P
  first (y ∷ ys) each = All-cons P y ys (All-head P y (ys ++ rest) each) (first ys (All-tail P y (ys ++ rest) each))

pub longer : {X : Type 0} (xs : List X) (x : X) (n m : ℕ) → n ≡ length xs → m ≡ n + 1 → m ≡ length (xs ++ x ∷ [])
longer xs x n m here more = let long = length-append xs (x ∷ []) in omega (arith, here, more, long)

pub sums_more : (first old new : ℕ) (taken : List FlushCell) (seat : FlushCell) (nexts nexts' : List FlushCell) (next : FlushCell) → nexts' ≡ nexts ++ next ∷ []
    → old + total held_weight nexts + total taken_weight taken ≡ first + total held_weight taken + total taken_weight nexts
    → new + held_weight next + taken_weight seat ≡ old + held_weight seat + taken_weight next
    → new + total held_weight nexts' + total taken_weight (taken ++ seat ∷ []) ≡ first + total held_weight (taken ++ seat ∷ []) + total taken_weight nexts'
sums_more first old new taken seat nexts nexts' next push before one =
    let h = ap (total held_weight) push in let t = ap (total taken_weight) push in
    let a = total-append held_weight nexts (next ∷ []) in let b = total-append taken_weight nexts (next ∷ []) in
    let d = total-append held_weight taken (seat ∷ []) in let e = total-append taken_weight taken (seat ∷ []) in
    omega (arith, before, one, h, t, a, b, d, e)

-- there is always room for one half more
pub room_left : (first now : ℕ) (all done rest nexts : List FlushCell) → AreKept first all → all ≡ done ++ rest → All IsCellKept nexts
    → now + total held_weight nexts + total taken_weight done ≡ first + total held_weight done + total taken_weight nexts → length (map cell_of nexts) ≡ length (map cell_of done) → now ≤ most_merged
room_left first now all done rest nexts kept whole each sums same =
    let few = kept.few in let merged = kept.merged in let most = most_taken all kept.each in let more = most_taken nexts each in
    let less = less_held done (before IsCellKept all done rest whole kept.each) in
    let long = ap length whole ∙ length-append done rest in let a = length-map nexts cell_of in let b = length-map done cell_of in
    omega (arith, few, merged, most, more, less, long, a, b, same, sums)

pub still_kept : (first now : ℕ) (all nexts : List FlushCell) → AreKept first all → All IsCellKept nexts → now + total held_weight nexts + total taken_weight all ≡ first + total held_weight all + total taken_weight nexts
    → map cell_of nexts ≡ map cell_of all → AreKept now nexts
still_kept first now all nexts kept each sums same = record {
  few = (let few = kept.few in let long = ap length same in let a = length-map nexts cell_of in let b = length-map all cell_of in omega (arith, few, long, a, b));
  each = each;
  merged = (let merged = kept.merged in omega (arith, merged, sums));
}

pub numbered : {X : Type 0} (done : List X) (n m : ℕ) → n ≡ m → m ≡ length done → n + 1 ≡ 1 + length done
numbered done n m len is = omega (arith, len, is)

pub told_more : (nexts done nexts' : List FlushCell) (next : FlushCell) (pass : Pass) (w : ℕ) (late : Option ℕ) → nexts' ≡ nexts ++ next ∷ [] → pass ≡ pass_from 1 nexts
    → w ≡ 1 + length done → length (map cell_of nexts) ≡ length (map cell_of done) → late ≡ late_in next → or_late pass w late ≡ pass_from 1 nexts'
told_more nexts done nexts' next pass w late push so_far at same is =
    ap (λ (p : Pass). or_late p w late) so_far ∙ (ap (λ (k : ℕ). or_late (pass_from 1 nexts) k late) place_of ∙ (ap (or_late (pass_from 1 nexts) (1 + length nexts)) is
    ∙ (sym (late_more 1 nexts next) ∙ ap (pass_from 1) (sym push)))) where
      place_of : w ≡ 1 + length nexts
      place_of = let a = length-map nexts cell_of in let b = length-map done cell_of in omega (arith, at, same, a, b)

pub same_sum : (f : FlushCell → ℕ) (xs xs' ys : List FlushCell) (x y : FlushCell) → xs' ≡ xs ++ x ∷ [] → total f xs ≡ total f ys → f x ≡ f y → total f xs' ≡ total f (ys ++ y ∷ [])
same_sum f xs xs' ys x y push all one = let p = ap (total f) push in let a = total-append f xs (x ∷ []) in let b = total-append f ys (y ∷ []) in omega (arith, p, a, b, all, one)

pub asked_kept : (count : ℕ) (olds news : List FlushCell) → AreKept count olds → All IsCellKept news → total held_weight news ≡ total held_weight olds → total taken_weight news ≡ total taken_weight olds
    → map cell_of news ≡ map cell_of olds → AreKept count news
asked_kept count olds news kept each held taken same = still_kept count count olds news kept each (omega (arith, held, taken)) same
