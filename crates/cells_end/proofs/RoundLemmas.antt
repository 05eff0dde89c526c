-- What the last round has.
use Rattle.std.proofs.Common.{◌≡◌, ℕ, zero, suc, ◌+◌, ◌≤◌, ◌<◌, ◌==◌, ◌⊎◌, inl, inr, Bool, true, false, List, [], ◌∷◌, ◌++◌, length, map, cond, get_or, refl, ap, sym, ◌∙◌, subst, arith, length-append, append-nil, append_assoc}
use Rattle.std.proofs.lemmas.List.{map-append}
use Rattle.std.proofs.lemmas.List.Elements.{All-head, All-tail}
use Rattle.std.proofs.lemmas.Bool.Decides.{Decides-eqb}
use Rattle.stat_defs.specs.declared.reports.Part.{Part}
use Rattle.merge_round.specs.Halves.{HalfState, bins_by}
use Rattle.merge_round.specs.Rounds.{ParentsState, with_half, worker_values, ArePartsOf}
use Rattle.flush_cells.specs.declared.tokens.FlushCell.{FlushCell}
use Rattle.flush_cells.specs.declared.tokens.FlushCell.TheVariants.{Idle, Waiting, Holding}
use Rattle.flush_cells.specs.Cells.{cell_known, IsRoundOf}
use Rattle.flush_cells.specs.Taken.{HalfValues, values_of, round_of, held_in, InStep, EachInStep}
use Rattle.flush_cells.proofs.InStep.{Merged, KeepsOthers, round_here, round_other, behind_stay, values_are}
use Rattle.flush_cells.proofs.RoundLemmas.{half_round}
use Rattle.ledger.specs.Lists.{EachNumbered}
use Rattle.ledger.specs.Segments.{bins_by_worker, segment_of}
use Rattle.run_ledger.specs.Told.{values_in, halves_at}
use Rattle.cells_end.specs.declared.end.CellEnd.{CellEnd}
use Rattle.cells_end.specs.Ends.{held_half, with_halves, EndsOne, EndsEach, AreEnds}
use Rattle.cells_end.specs.LastRound.{halves_at_end, IsLastRound}
use Rattle.cells_end.proofs.EndLemmas.{same_number}

-- the worker has these halves more in the round
halves_here : (worker : ℕ) (halves : List HalfState) (p : ParentsState) → round_of worker (with_halves worker halves p).round ≡ round_of worker p.round ++ map values_of halves
halves_here worker [] p = sym (append-nil (round_of worker p.round))
halves_here worker (half ∷ halves) p = halves_here worker halves (with_half worker half p)
    ∙ (ap (λ (l : HalfValues). l ++ map values_of halves) (round_here worker half p.round) ∙ append_assoc (round_of worker p.round) (half.values ∷ []) (map values_of halves))

-- and the other workers those that they had
halves_others : (worker : ℕ) (halves : List HalfState) (p : ParentsState) → KeepsOthers worker p (with_halves worker halves p)
halves_others worker [] p other apart = refl
halves_others worker (half ∷ halves) p other apart = halves_others worker halves (with_half worker half p) other apart ∙ round_other worker other half p.round apart

one_others : (worker : ℕ) (token : FlushCell) (end : CellEnd) (p q : ParentsState) → EndsOne worker token end p q → KeepsOthers worker p q
one_others worker token end p q one other apart =
    ap (λ (z : ParentsState). round_of other z.round) one.merged ∙ halves_others worker (held_half token ++ (one.left ++ end.half ∷ [])) p other apart

held_values : (c : FlushCell) → map values_of (held_half c) ≡ held_in c
held_values (Idle f) = refl
held_values (Waiting f) = refl
held_values (Holding half f) = refl

-- what rounds took before, and what this one has, are all halves of the worker
one_ends : (worker : ℕ) (earlier : HalfValues) (token : FlushCell) (end : CellEnd) (p q : ParentsState) → EndsOne worker token end p q → InStep worker earlier p token
    → earlier ++ round_of worker q.round ≡ halves_at_end end
one_ends worker earlier token end p q one is =
    ap (λ (l : HalfValues). earlier ++ l) (round_now ∙ ap (λ (l : HalfValues). round_of worker p.round ++ l) parted)
    ∙ (moved earlier (round_of worker p.round) (held_in token) (map values_of one.left) (end.half.values ∷ [])
    ∙ (ap (λ (l : HalfValues). (l ++ map values_of one.left) ++ end.half.values ∷ []) (sym is)
    ∙ ap (λ (l : HalfValues). l ++ end.half.values ∷ []) (sym (ap (map values_of) one.turned ∙ map-append values_of (cell_known token).halves one.left)))) where
      round_now : round_of worker q.round ≡ round_of worker p.round ++ map values_of (held_half token ++ (one.left ++ end.half ∷ []))
      round_now = ap (λ (z : ParentsState). round_of worker z.round) one.merged ∙ halves_here worker (held_half token ++ (one.left ++ end.half ∷ [])) p

      parted : map values_of (held_half token ++ (one.left ++ end.half ∷ [])) ≡ held_in token ++ (map values_of one.left ++ end.half.values ∷ [])
      parted = map-append values_of (held_half token) (one.left ++ end.half ∷ [])
          ∙ (ap (λ (l : HalfValues). l ++ map values_of (one.left ++ end.half ∷ [])) (held_values token)
          ∙ ap (λ (l : HalfValues). held_in token ++ l) (map-append values_of one.left (end.half ∷ [])))

      moved : (a b d e f : HalfValues) → a ++ (b ++ (d ++ (e ++ f))) ≡ (((a ++ b) ++ d) ++ e) ++ f
      moved a b d e f = sym (append_assoc ((a ++ b) ++ d) e f ∙ (append_assoc (a ++ b) d (e ++ f) ∙ append_assoc a b (d ++ (e ++ f))))

-- a worker before those that end
before_ends : (worker first : ℕ) (tokens : List FlushCell) (ends : List CellEnd) (p q : ParentsState) → worker < first → EndsEach first tokens ends p q → round_of worker q.round ≡ round_of worker p.round
before_ends worker first [] [] p q less each = ap (λ (z : ParentsState). round_of worker z.round) each
before_ends worker first (t ∷ tokens) (e ∷ ends) p q less each =
    before_ends worker (suc first) tokens ends each.0 q (omega (arith, less)) each.2 ∙ one_others first t e p each.0 each.1 worker (apart first worker less) where
      apart : (a b : ℕ) → b < a → (a == b) ≡ false
      apart a b less = by_case (a == b) refl where
        by_case : (t : Bool) → (a == b) ≡ t → t ≡ false
        by_case true e = absurd (let same = (Decides-eqb a b).0 e in omega (arith, same, less))
        by_case false e = refl
before_ends worker first [] (e ∷ ends) p q less each = absurd each
before_ends worker first (t ∷ tokens) [] p q less each = absurd each

-- the same of each worker
each_ends : (first : ℕ) (earlier : ℕ → HalfValues) (tokens : List FlushCell) (ends : List CellEnd) (p q : ParentsState) → EndsEach first tokens ends p q → EachInStep first earlier p tokens
    → EachNumbered (λ worker end. earlier worker ++ round_of worker q.round ≡ halves_at_end end) first ends
each_ends first earlier [] [] p q each all = tt
each_ends first earlier (t ∷ tokens) (e ∷ ends) p q each all = (
  ap (λ (l : HalfValues). earlier first ++ l) (before_ends first (suc first) tokens ends each.0 q (omega arith) each.2) ∙ one_ends first (earlier first) t e p each.0 each.1 all.0,
  each_ends (suc first) earlier tokens ends each.0 q each.2 (behind_stay first (suc first) earlier p each.0 tokens (omega arith) (one_others first t e p each.0 each.1) all.1),
)
each_ends first earlier [] (e ∷ ends) p q each all = absurd each
each_ends first earlier (t ∷ tokens) [] p q each all = absurd each

-- of each worker from `first` on, as many as there are ends, its halves in the round
rounds_from : ℕ → List CellEnd → List Merged → List HalfValues
rounds_from first [] round = []
rounds_from first (e ∷ ends) round = round_of first round ∷ rounds_from (suc first) ends round

rounds_number : (first : ℕ) (ends : List CellEnd) (round : List Merged) → length (rounds_from first ends round) ≡ length ends
unfolding rounds_from
rounds_number first [] round = refl
rounds_number first (e ∷ ends) round = ap suc (rounds_number (suc first) ends round)

at_place : {X : Type 0} (xs : List X) (x : X) (rest : List X) (d : X) → get_or (xs ++ x ∷ rest) (length xs) d ≡ x
at_place [] x rest d = refl
at_place (y ∷ xs) x rest d = at_place xs x rest d

each_at : (at : ℕ) (earlier : ℕ → HalfValues) (ends : List CellEnd) (round : List Merged) (before all : List HalfValues) → at ≡ length before → all ≡ before ++ rounds_from (suc at) ends round
    → EachNumbered (λ worker end. earlier worker ++ round_of worker round ≡ halves_at_end end) (suc at) ends → EachNumbered (λ worker end. earlier worker ++ halves_at all worker ≡ halves_at_end end) (suc at) ends
unfolding rounds_from
each_at at earlier [] round before all long is each = tt
each_at at earlier (e ∷ ends) round before all long is each = (
  ap (λ (l : HalfValues). earlier (suc at) ++ l) (ap (λ (l : List HalfValues). get_or l at []) is ∙ (ap (λ (k : ℕ). get_or (before ++ round_of (suc at) round ∷ rounds_from (suc (suc at)) ends round) k []) long
      ∙ at_place before (round_of (suc at) round) (rounds_from (suc (suc at)) ends round) [])) ∙ each.0,
  each_at (suc at) earlier ends round (before ++ round_of (suc at) round ∷ []) all (let more = length-append before (round_of (suc at) round ∷ []) in omega (arith, more, long))
      (is ∙ sym (append_assoc before (round_of (suc at) round ∷ []) (rounds_from (suc (suc at)) ends round))) each.1,
)

-- a worker that has no half in the round has no values
no_values : (worker : ℕ) (round : List Merged) (workers : ℕ) → IsRoundOf workers round → (worker ≡ 0) ⊎ (workers < worker) → worker_values worker round ≡ []
no_values worker [] workers all out = refl
no_values worker (h ∷ round) workers all out = by_case (no_values worker round workers (All-tail (λ (x : Merged). (1 ≤ x.0) × (x.0 ≤ workers)) h round all) out) (h.0 == worker) refl where
  here : (1 ≤ h.0) × (h.0 ≤ workers)
  here = All-head (λ (x : Merged). (1 ≤ x.0) × (x.0 ≤ workers)) h round all

  outside : (worker ≡ 0) ⊎ (workers < worker) → h.0 ≡ worker → ⊥
  outside (inl none) same = let low = here.0 in omega (arith, none, same, low)
  outside (inr above) same = let high = here.1 in omega (arith, above, same, high)

  by_case : worker_values worker round ≡ [] → (b : Bool) → (h.0 == worker) ≡ b → cond b h.1.values [] ++ worker_values worker round ≡ []
  by_case rest true is = absurd (outside out ((Decides-eqb h.0 worker).0 is))
  by_case rest false is = rest

-- the values of each worker, by its place
values_at : (first : ℕ) (ends : List CellEnd) (round : List Merged) (k : ℕ) → ((worker : ℕ) → first + length ends ≤ worker → worker_values worker round ≡ [])
    → worker_values (first + k) round ≡ get_or (map values_in (rounds_from first ends round)) k []
unfolding rounds_from
values_at first [] round k none = none (first + k) (search arith)
values_at first (e ∷ ends) round zero none = ap (λ (w : ℕ). worker_values w round) (start first) ∙ values_are first round where
  start : (a : ℕ) → a + 0 ≡ a
  start a = search arith
values_at first (e ∷ ends) round (suc k) none =
    ap (λ (w : ℕ). worker_values w round) (move first k) ∙ values_at (suc first) ends round k (λ worker above. none worker (omega (arith, above))) where
      move : (a b : ℕ) → a + suc b ≡ suc a + b
      move a b = search arith

same_values : (ends : List CellEnd) (round : List Merged) → IsRoundOf (length ends) round → (worker : ℕ) → worker_values worker round ≡ segment_of (map values_in (rounds_from 1 ends round)) worker
same_values ends round all zero = no_values 0 round (length ends) all (inl refl)
same_values ends round all (suc at) = ap (λ (w : ℕ). worker_values w round) (place at) ∙ values_at 1 ends round at (λ worker above. no_values worker round (length ends) all (inr (omega (arith, above)))) where
  place : (a : ℕ) → suc a ≡ 1 + a
  place a = search arith

-- the bins of the round are those of the values of each worker
same_parts : (ends : List CellEnd) (round : List Merged) (parts : List Part) → IsRoundOf (length ends) round → ArePartsOf (λ worker. bins_by (worker_values worker round)) parts
    → ArePartsOf (bins_by_worker (map values_in (rounds_from 1 ends round))) parts
same_parts ends round parts all are =
    subst (λ (f : ℕ → List (ℕ × ℕ)). ArePartsOf (λ worker. bins_by (f worker)) parts) (λ i. λ worker. same_values ends round all worker i) are

-- the workers that end are of the round
halves_round : (workers worker : ℕ) (halves : List HalfState) (p : ParentsState) → 1 ≤ worker → worker ≤ workers → IsRoundOf workers p.round → IsRoundOf workers (with_halves worker halves p).round
halves_round workers worker [] p low high all = all
halves_round workers worker (half ∷ halves) p low high all = halves_round workers worker halves (with_half worker half p) low high (half_round workers worker half p low high all)

ends_round : (workers first : ℕ) (tokens : List FlushCell) (ends : List CellEnd) (p q : ParentsState) → 1 ≤ first → first + length ends ≤ suc workers → EndsEach first tokens ends p q
    → IsRoundOf workers p.round → IsRoundOf workers q.round
ends_round workers first [] [] p q low high each all = subst (λ (z : ParentsState). IsRoundOf workers z.round) (sym each) all
ends_round workers first (t ∷ tokens) (e ∷ ends) p q low high each all = ends_round workers (suc first) tokens ends each.0 q (omega (arith, low)) (omega (arith, high)) each.2
    (subst (λ (z : ParentsState). IsRoundOf workers z.round) (sym each.1.merged) (halves_round workers first (held_half t ++ (each.1.left ++ e.half ∷ [])) p low (omega (arith, high)) all))
ends_round workers first [] (e ∷ ends) p q low high each all = absurd each
ends_round workers first (t ∷ tokens) [] p q low high each all = absurd each

pub last_round : (tokens : List FlushCell) (ends : List CellEnd) (p q : ParentsState) (parts : List Part) → AreEnds tokens ends → IsRoundOf (length tokens) p.round → EndsEach 1 tokens ends p q
    → ArePartsOf (λ worker. bins_by (worker_values worker q.round)) parts → IsLastRound tokens p ends parts
last_round tokens ends p q parts are all each list = record {
  halves = rounds_from 1 ends q.round;
  each = rounds_number 1 ends q.round;
  are = same_parts ends q.round parts (ends_round (length ends) 1 tokens ends p q (search arith) (search arith) each (subst (λ (n : ℕ). IsRoundOf n p.round) (same_number tokens ends are) all)) list;
  whole = λ earlier kept. each_at 0 earlier ends q.round [] (rounds_from 1 ends q.round) refl refl (each_ends 1 earlier tokens ends p q each kept);
}
