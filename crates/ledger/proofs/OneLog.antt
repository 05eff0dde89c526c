-- A replay of the same events has one log and one list of verdicts.
use Rattle.std.proofs.Common.{◌≡◌, ℕ, zero, suc, ◌+◌, ◌==◌, ◌&&◌, cond, not, nat_le, Bool, true, false, Some, List, [], ◌∷◌, ◌++◌, map, length, drop, slice_get, refl, ap, sym, ◌∙◌, subst, arith, inl, inr, append-nil}
use Rattle.std.specs.Prelude.{option_map, count_by}
use Rattle.std.specs.List.{list_all}
use Rattle.std.proofs.lemmas.Bool.Decides.{leb_tells, Decides-eqb}
use Rattle.stat_defs.specs.declared.configs.ScopeSpec.{ScopeSpec}
use Rattle.stat_defs.specs.declared.events.Event.{Event}
use Rattle.stat_defs.specs.declared.events.Event.TheVariants as event
use Rattle.stat_defs.specs.declared.history.Call.{Call}
use Rattle.stat_defs.specs.declared.history.Call.TheVariants as call
use Rattle.stat_defs.specs.declared.history.Reply.{Reply}
use Rattle.stat_defs.specs.declared.history.Reply.TheVariants as reply
use Rattle.stat_defs.specs.declared.history.Verdict.{Verdict}
use Rattle.stat_defs.specs.declared.history.Entry.{Entry}
use Rattle.book_state.specs.State.{NameRules, State, Row, Seat}
use Rattle.book_state.specs.Step.{effect, Allowed}
use Rattle.book_state.specs.Log.{empty, openings, is_sweep, fits_seat, replay_from, Run, Legal}
use Rattle.book_state.specs.Follows.{Own, own, Applied, MakesAcked, after_all, events_of, verdicts_of, entries_of, state_after, IsChain, Follows}
use Rattle.book_state.proofs.Lists.{some_same, not_some, true_false, both, map_some, count_cons}
use Rattle.book_state.specs.SeatLaws.{is_end}
use Rattle.ledger.specs.OneReport.{IsPacked, AreSteps}
use Rattle.book_state.proofs.Growing.{own_more}
use Rattle.ledger.proofs.Lists.{push_parts, both_appended, no_push}
use Rattle.ledger.proofs.Replies.{one_reply}
use Rattle.ledger.proofs.Packed.{stays_packed, first_packed}
use Rattle.ledger.proofs.OneEvent.{one_step, acked_once}

abbrev is_swept : Entry → Bool
is_swept e = is_sweep e.call

abbrev not_end : Entry → Bool
not_end e = not (is_end e.call)

-- entries of the one worker
abbrev IsMine : List Entry → Type 0
IsMine [] = Unit {0}
IsMine (e ∷ es) = (e.seat ≡ 1) × IsMine es

abbrev entry_of : Own → Entry
entry_of o = record { seat = 1; call = o.call; reply = o.reply }

seat_one : (seat : ℕ) (t : Bool) → cond t (seat == 0) (nat_le 1 seat && nat_le seat 1) ≡ true → ◌≡◌ {A = ℕ} (cond t 1 0) 0 → seat ≡ 1
seat_one seat true fits none = absurd (omega (arith, none))
seat_one seat false fits none =
    let parts = both (nat_le 1 seat) (nat_le seat 1) fits in
    elim (leb_tells 1 seat) [
      | inl low ↦ elim (leb_tells seat 1) [
        | inl high ↦ let a = low.1 in let b = high.1 in omega (arith, a, b)
        | inr above ↦ absurd (true_false (sym parts.1 ∙ above.0))
      ]
      | inr below ↦ absurd (true_false (sym parts.0 ∙ below.0))
    ]

mine_all : (es : List Entry) → list_all (fits_seat 1) es ≡ true → count_by is_swept es ≡ 0 → IsMine es
mine_all [] fits none = tt
mine_all (e ∷ es) fits none =
    let parts = both (fits_seat 1 e) (list_all (fits_seat 1) es) fits in
    let c = count_cons is_swept e es in (
      seat_one e.seat (is_sweep e.call) parts.0 (omega (arith, c, none)),
      mine_all es parts.1 (omega (arith, c, none)),
    )

all_parts : {X : Type 0} (p : X → Bool) (xs ys : List X) → list_all p (xs ++ ys) ≡ true → (list_all p xs ≡ true) × (list_all p ys ≡ true)
all_parts p [] ys all = (refl, all)
all_parts p (x ∷ xs) ys all = let parts = both (p x) (list_all p (xs ++ ys)) all in let rest = all_parts p xs ys parts.1 in (both_true (p x) (list_all p xs) parts.0 rest.0, rest.1) where
  both_true : (a b : Bool) → a ≡ true → b ≡ true → (a && b) ≡ true
  both_true true b e f = f
  both_true false b e f = absurd (true_false (sym e))

count_parts : {X : Type 0} (p : X → Bool) (xs ys : List X) → count_by p (xs ++ ys) ≡ count_by p xs + count_by p ys
count_parts p [] ys = omega arith
count_parts p (x ∷ xs) ys = let a = count_cons p x (xs ++ ys) in let b = count_cons p x xs in let c = count_parts p xs ys in omega (arith, a, b, c)

module _ (rules : NameRules) where
  abbrev owns : State → List Entry → List Own
  owns s [] = []
  owns s (e ∷ es) = record { call = e.call; reply = e.reply; after = effect rules 1 e.call e.reply s } ∷ owns (effect rules 1 e.call e.reply s) es

  own_mine : (s : State) (es : List Entry) → IsMine es → own rules 1 s es ≡ owns s es
  own_mine s [] mine = refl
  own_mine s (e ∷ es) mine =
      let after : State = effect rules 1 e.call e.reply s in
      let o : Own = record { call = e.call; reply = e.reply; after = after } in
      subst (λ (n : ℕ). own rules 1 s (record { seat = n; call = e.call; reply = e.reply } ∷ es) ≡ owns s (e ∷ es)) (sym mine.0) (ap (λ (l : List Own). o ∷ l) (own_mine after es mine.1))

  replay_mine : (s : State) (es : List Entry) → IsMine es → replay_from rules s es ≡ after_all s (owns s es)
  replay_mine s [] mine = refl
  replay_mine s (e ∷ es) mine =
      subst (λ (n : ℕ). replay_from rules s (record { seat = n; call = e.call; reply = e.reply } ∷ es) ≡ after_all s (owns s (e ∷ es))) (sym mine.0) (replay_mine (effect rules 1 e.call e.reply s) es mine.1)

  steps_mine : (s : State) (es : List Entry) → IsMine es → Run rules s es → AreSteps rules 1 s (owns s es)
  steps_mine s [] mine run = tt
  steps_mine s (e ∷ es) mine run =
      let got = subst (λ (n : ℕ). Allowed rules n e.call e.reply s × Run rules (effect rules n e.call e.reply s) es) mine.0 run in
      (got.0, refl, steps_mine (effect rules 1 e.call e.reply s) es mine.1 got.1)

  back : (s : State) (es : List Entry) → IsMine es → map entry_of (owns s es) ≡ es
  back s [] mine = refl
  back s (e ∷ es) mine =
      subst (λ (n : ℕ). map entry_of (owns s (e ∷ es)) ≡ record { seat = n; call = e.call; reply = e.reply } ∷ es) (sym mine.0)
      (ap (λ (l : List Entry). record { seat = 1; call = e.call; reply = e.reply } ∷ l) (back (effect rules 1 e.call e.reply s) es mine.1))

  run-append : (s : State) (xs ys : List Entry) → Run rules s (xs ++ ys) → Run rules s xs × Run rules (replay_from rules s xs) ys
  run-append s [] ys run = (tt, run)
  run-append s (x ∷ xs) ys run = let rest = run-append (effect rules x.seat x.call x.reply s) xs ys run.1 in ((run.0, rest.0), rest.1)

  abbrev with_scope : ℕ → ScopeSpec → State → State
  with_scope id scope s = effect rules 0 (call.OpenScope scope.label scope.prefix) (reply.Opened (record { 0 = id })) s

  opened_own : (s : State) (id : ℕ) (scopes : List ScopeSpec) (rest : List Entry) → own rules 1 s (openings id scopes ++ rest) ≡ own rules 1 (replay_from rules s (openings id scopes)) rest
  opened_own s id [] rest = refl
  opened_own s id (scope ∷ scopes) rest = opened_own (with_scope id scope s) (suc id) scopes rest

  opened_run : (s : State) (id : ℕ) (scopes : List ScopeSpec) (rest : List Entry) → Run rules s (openings id scopes ++ rest) → Run rules (replay_from rules s (openings id scopes)) rest
  opened_run s id [] rest run = run
  opened_run s id (scope ∷ scopes) rest run = opened_run (with_scope id scope s) (suc id) scopes rest run.1

  -- the state before the worker's first entry differs from the empty one in its scopes alone
  pub opened_metrics : (s : State) (id : ℕ) (scopes : List ScopeSpec) → (replay_from rules s (openings id scopes)).metrics ≡ s.metrics
  opened_metrics s id [] = refl
  opened_metrics s id (scope ∷ scopes) = opened_metrics (with_scope id scope s) (suc id) scopes

  opened_seats : (s : State) (id : ℕ) (scopes : List ScopeSpec) → (replay_from rules s (openings id scopes)).seats ≡ s.seats
  opened_seats s id [] = refl
  opened_seats s id (scope ∷ scopes) = opened_seats (with_scope id scope s) (suc id) scopes

  opened_releases : (s : State) (id : ℕ) (scopes : List ScopeSpec) → (replay_from rules s (openings id scopes)).releases ≡ s.releases
  opened_releases s id [] = refl
  opened_releases s id (scope ∷ scopes) = opened_releases (with_scope id scope s) (suc id) scopes

none_swept : (id : ℕ) (scopes : List ScopeSpec) (rest : List Entry) → count_by is_swept (openings id scopes ++ rest) ≡ count_by is_swept rest
none_swept id [] rest = refl
none_swept id (scope ∷ scopes) rest = none_swept (suc id) scopes rest

-- a sweep stands behind the openings
peel : (id : ℕ) (scopes : List ScopeSpec) (rest : List Entry) (k : ℕ) (z : Entry) → slice_get (openings id scopes ++ rest) k ≡ Some z → is_sweep z.call ≡ true
    → (j : ℕ) × (k ≡ length (openings id scopes) + j) × (slice_get rest j ≡ Some z) × (drop k (openings id scopes ++ rest) ≡ drop j rest)
peel id [] rest k z at sweep = (k, omega arith, at, refl)
peel id (scope ∷ scopes) rest zero z at sweep = absurd (true_false (sym sweep ∙ ap (λ (e : Entry). is_sweep e.call) (sym (some_same _ z at))))
peel id (scope ∷ scopes) rest (suc k) z at sweep =
    let p = peel (suc id) scopes rest k z at sweep in (p.0, (let e = p.1 in omega (arith, e)), p.2, p.3)

parts_at : (rest : List Entry) (j : ℕ) (z : Entry) → slice_get rest j ≡ Some z → (front : List Entry) × (tail : List Entry) × (rest ≡ front ++ z ∷ tail) × (drop j rest ≡ z ∷ tail) × (j ≡ length front)
parts_at [] j z at = absurd (not_some z at)
parts_at (y ∷ rest) zero z at = ([], rest, ap (λ (e : Entry). e ∷ rest) (some_same y z at), ap (λ (e : Entry). e ∷ rest) (some_same y z at), refl)
parts_at (y ∷ rest) (suc j) z at =
    let p = parts_at rest j z at in (y ∷ p.0, p.1, ap (λ (l : List Entry). y ∷ l) p.2, p.3, ap suc p.4)

last_own : Own → List Own → Own
last_own d [] = d
last_own d (o ∷ os) = last_own o os

last_of_both : (d : Own) (xs : List Own) (p : Own) (ps : List Own) → last_own d (xs ++ p ∷ ps) ≡ last_own p ps
unfolding last_own
last_of_both d [] p ps = refl
last_of_both d (x ∷ xs) p ps = last_of_both x xs p ps

good_last : (good : Own → Bool) (p : Own) (ps : List Own) → list_all good (p ∷ ps) ≡ true → good (last_own p ps) ≡ true
unfolding last_own
good_last good p [] all = (both (good p) true all).0
good_last good p (q ∷ ps) all = good_last good q ps (both (good p) (list_all good (q ∷ ps)) all).1

last_alone : (p : Own) → last_own p [] ≡ p
unfolding last_own
last_alone p = refl

not_end_own : Own → Bool
not_end_own o = not (is_end o.call)

no_end_owns : (rules : NameRules) (s : State) (es : List Entry) → list_all not_end es ≡ true → list_all not_end_own (owns rules s es) ≡ true
unfolding not_end_own
no_end_owns rules s [] none = refl
no_end_owns rules s (e ∷ es) none =
    let parts = both (not_end e) (list_all not_end es) none in both_true (not_end e) _ parts.0 (no_end_owns rules (effect rules 1 e.call e.reply s) es parts.1) where
      both_true : (a b : Bool) → a ≡ true → b ≡ true → (a && b) ≡ true
      both_true true b e f = f
      both_true false b e f = absurd (true_false (sym e))

-- where the worker's last entry is its end, and none stands among these, there are none
no_tail : (rules : NameRules) (s : State) (tail : List Entry) (before entries : List Own) (last : Own) → IsMine tail → list_all not_end tail ≡ true
    → before ++ own rules 1 s tail ≡ entries ++ last ∷ [] → last.call ≡ call.End → tail ≡ []
unfolding not_end_own
no_tail rules s [] before entries last mine none e ends = refl
no_tail rules s (t ∷ ts) before entries last mine none e ends =
    let o : Own = record { call = t.call; reply = t.reply; after = effect rules 1 t.call t.reply s } in
    let rest : List Own = owns rules (effect rules 1 t.call t.reply s) ts in
    let both_lists : before ++ o ∷ rest ≡ entries ++ last ∷ [] = ap (λ (l : List Own). before ++ l) (sym (own_mine rules s (t ∷ ts) mine)) ∙ e in
    let same : last_own o rest ≡ last = sym (last_of_both o before o rest) ∙ ap (λ (l : List Own). last_own o l) both_lists ∙ last_of_both o entries last [] ∙ last_alone last in
    let good = good_last not_end_own o rest (no_end_owns rules s (t ∷ ts) none) in
    absurd (true_false (sym good ∙ ap (λ (x : Own). not (is_end x.call)) same ∙ ap (λ (c : Call). not (is_end c)) ends))

seat_zero : (seat : ℕ) (t other : Bool) → t ≡ true → cond t (seat == 0) other ≡ true → seat ≡ 0
seat_zero seat true other is fits = (Decides-eqb seat 0).0 fits
seat_zero seat false other is fits = absurd (true_false (sym is))

-- the state in which the worker begins
abbrev start : NameRules → List ScopeSpec → State
start rules scopes = replay_from rules (empty 1) (openings 0 scopes)

-- the log of a replay: the openings, the worker's entries, and the sweep
record Shape (rules : NameRules) (scopes : List ScopeSpec) (log : List Entry) (at : ℕ) (entries : List Own) (last : Own) : Type 0 where
  mine : List Entry
  sweep : Entry
  is_log : log ≡ openings 0 scopes ++ (mine ++ sweep ∷ [])
  place : at ≡ length (openings 0 scopes) + length mine
  are_mine : IsMine mine
  seat : sweep.seat ≡ 0
  is_sweep : sweep.call ≡ call.Sweep
  owned : owns rules (start rules scopes) mine ≡ entries ++ last ∷ []
  steps : AreSteps rules 1 (start rules scopes) (owns rules (start rules scopes) mine)
  swept : Allowed rules 0 call.Sweep sweep.reply (after_all (start rules scopes) (owns rules (start rules scopes) mine))

other_owns : (rules : NameRules) (t : State) (z : Entry) (tail : List Entry) → z.seat ≡ 0 → own rules 1 t (z ∷ tail) ≡ own rules 1 (effect rules 0 z.call z.reply t) tail
other_owns rules t z tail zero_seat =
    subst (λ (n : ℕ). own rules 1 t (record { seat = n; call = z.call; reply = z.reply } ∷ tail) ≡ own rules 1 (effect rules 0 z.call z.reply t) tail) (sym zero_seat) refl

shape : (rules : NameRules) (scopes : List ScopeSpec) (log : List Entry) (at : ℕ) (entries : List Own) (last : Own) → Legal rules scopes 1 log
    → own rules 1 (empty 1) log ≡ entries ++ last ∷ [] → last.call ≡ call.End → count_by is_swept log ≡ 1
    → option_map (λ (e : Entry). e.call) (slice_get log at) ≡ Some call.Sweep → list_all not_end (drop at log) ≡ true → Shape rules scopes log at entries last
shape rules scopes log at entries last legal own_are ends one at_sweep ended =
    let rest : List Entry = legal.rest in
    let found = map_some (λ (e : Entry). e.call) (slice_get log at) call.Sweep at_sweep in
    let z : Entry = found.0 in
    let is : is_sweep z.call ≡ true = sym (ap is_sweep found.2) in
    let p = peel 0 scopes rest at z (subst (λ (l : List Entry). slice_get l at ≡ Some z) legal.begins found.1) is in
    let q = parts_at rest p.0 z p.2 in
    let front : List Entry = q.0 in
    let tail : List Entry = q.1 in
    let all_count : count_by is_swept rest ≡ 1 = sym (none_swept 0 scopes rest) ∙ ap (λ (l : List Entry). count_by is_swept l) (sym legal.begins) ∙ one in
    let split : count_by is_swept rest ≡ count_by is_swept front + count_by is_swept (z ∷ tail) = ap (λ (l : List Entry). count_by is_swept l) q.2 ∙ count_parts is_swept front (z ∷ tail) in
    let first : count_by is_swept (z ∷ tail) ≡ cond (is_sweep z.call) 1 0 + count_by is_swept tail = count_cons is_swept z tail in
    let counted : ◌≡◌ {A = ℕ} (cond (is_sweep z.call) 1 0) 1 = ap (λ (b : Bool). cond b 1 0) is in
    let fits = all_parts (fits_seat 1) front (z ∷ tail) (subst (λ (l : List Entry). list_all (fits_seat 1) l ≡ true) q.2 legal.seats) in
    let fits_z = both (fits_seat 1 z) (list_all (fits_seat 1) tail) fits.1 in
    let front_mine = mine_all front fits.0 (omega (arith, all_count, split, first, counted)) in
    let tail_mine = mine_all tail fits_z.1 (omega (arith, all_count, split, first, counted)) in
    let zero_seat : z.seat ≡ 0 = seat_zero z.seat (is_sweep z.call) (nat_le 1 z.seat && nat_le z.seat 1) is fits_z.0 in
    let dropped : drop at log ≡ z ∷ tail = ap (λ (l : List Entry). drop at l) legal.begins ∙ p.3 ∙ q.3 in
    let no_end = (both (not_end z) (list_all not_end tail) (subst (λ (l : List Entry). list_all not_end l ≡ true) dropped ended)).1 in
    let s : State = start rules scopes in
    let after : State = effect rules 0 z.call z.reply (replay_from rules s front) in
    let own_parts : own rules 1 (empty 1) log ≡ own rules 1 s front ++ own rules 1 after tail =
    ap (λ (l : List Entry). own rules 1 (empty 1) l) legal.begins
    ∙ opened_own rules (empty 1) 0 scopes rest
    ∙ ap (λ (l : List Entry). own rules 1 s l) q.2
    ∙ own_more rules s 1 front (z ∷ tail)
    ∙ ap (λ (l : List Own). own rules 1 s front ++ l) (other_owns rules (replay_from rules s front) z tail zero_seat) in
    let no_more : tail ≡ [] = no_tail rules after tail (own rules 1 s front) entries last tail_mine no_end (sym own_parts ∙ own_are) ends in
    let run = run-append rules s front (z ∷ tail) (subst (λ (l : List Entry). Run rules s l) q.2 (opened_run rules (empty 1) 0 scopes rest (subst (λ (l : List Entry). Run rules (empty 1) l) legal.begins legal.steps))) in
    record {
      mine = front;
      sweep = z;
      is_log = legal.begins ∙ ap (λ (l : List Entry). openings 0 scopes ++ l) (q.2 ∙ ap (λ (l : List Entry). front ++ z ∷ l) no_more);
      place = (let a = p.1 in let b = q.4 in omega (arith, a, b));
      are_mine = front_mine;
      seat = zero_seat;
      is_sweep = sym found.2;
      owned = sym (own_mine rules s front front_mine) ∙ sym (append-nil (own rules 1 s front)) ∙ ap (λ (l : List Entry). own rules 1 s front ++ own rules 1 after l) (sym no_more) ∙ sym own_parts ∙ own_are;
      steps = steps_mine rules s front front_mine run.0;
      swept = subst (λ (t : State). Allowed rules 0 call.Sweep z.reply t) (replay_mine rules s front front_mine)
          (subst (λ (c : Call). Allowed rules 0 c z.reply (replay_from rules s front)) (sym found.2)
          (subst (λ (n : ℕ). Allowed rules n z.call z.reply (replay_from rules s front)) zero_seat run.1.0));
    }

-- what an event may make depends on the seats and the releases alone
same_base : (s t : State) (e : Event) (v : Verdict) (made : List Own) → MakesAcked 1 s e v made → MakesAcked 1 (record t { releases = s.releases; seats = s.seats }) e v made
same_base s t (event.OpenScope label prefix) v made m = m
same_base s t (event.Release label) v made m = m
same_base s t (event.Inc label name n) v made m = m
same_base s t (event.Gauge label name mode op n) v made m = m
same_base s t (event.Rec label name n) v made m = m
same_base s t (event.SetText label name text) v made m = m

abbrev Agree : State → State → Type 0
Agree s t = (s.releases ≡ t.releases) × (s.seats ≡ t.seats)

rebased : (s t : State) (e : Event) (v : Verdict) (made : List Own) → Agree s t → MakesAcked 1 s e v made → MakesAcked 1 t e v made
rebased s t e v made agree m =
    subst (λ (r : ℕ). MakesAcked 1 (record t { releases = r }) e v made) agree.0
    (subst (λ (l : List Seat). MakesAcked 1 (record t { releases = s.releases; seats = l }) e v made) agree.1 (same_base s t e v made m))

after_agree : (s t : State) (os : List Own) → Agree s t → Agree (after_all s os) (after_all t os)
after_agree s t [] agree = agree
after_agree s t (o ∷ os) agree = (refl, refl)

after_both : (s : State) (xs ys : List Own) → after_all s (xs ++ ys) ≡ after_all (after_all s xs) ys
after_both s [] ys = refl
after_both s (x ∷ xs) ys = after_both x.after xs ys

chain_state : (s : State) (applied : List Applied) → state_after s applied ≡ after_all s (entries_of applied)
chain_state s [] = refl
chain_state s (a ∷ before) = ap (λ (t : State). after_all t a.made) (chain_state s before) ∙ sym (after_both s (entries_of before) a.made)

entry_parts : (m n : ℕ) (c d : Call) (r q : Reply) → m ≡ n → c ≡ d → r ≡ q → ◌≡◌ {A = Entry} (record { seat = m; call = c; reply = r }) (record { seat = n; call = d; reply = q })
entry_parts m n c d r q e f g = cc

entry_same : (a b : Entry) → a.seat ≡ b.seat → a.call ≡ b.call → a.reply ≡ b.reply → a ≡ b
entry_same a b e f g = entry_parts a.seat b.seat a.call b.call a.reply b.reply e f g

module _ (rules : NameRules) where
  steps-append : (s : State) (xs ys : List Own) → AreSteps rules 1 s (xs ++ ys) → AreSteps rules 1 s xs × AreSteps rules 1 (after_all s xs) ys
  steps-append s [] ys steps = (tt, steps)
  steps-append s (x ∷ xs) ys steps = let rest = steps-append x.after xs ys steps.2 in ((steps.0, steps.1, rest.0), rest.1)

  no_sweep : (s : State) (c : Call) (r : Reply) → Allowed rules 1 c r s → is_sweep c ≡ false
  no_sweep s (call.OpenScope label prefix) r a = refl
  no_sweep s (call.Release label) r a = refl
  no_sweep s (call.Find key) r a = refl
  no_sweep s (call.SetText id text) r a = refl
  no_sweep s call.Ack r a = refl
  no_sweep s call.Sweep (reply.Swept n) a = let e = a.0 in absurd (omega (arith, e))
  no_sweep s call.Sweep _ a = absurd a
  no_sweep s call.End r a = refl

  steps_packed : (s : State) (xs : List Own) → AreSteps rules 1 s xs → IsPacked s.metrics → IsPacked (after_all s xs).metrics
  steps_packed s [] steps packed = packed
  steps_packed s (x ∷ xs) steps packed =
      steps_packed x.after xs steps.2
      (subst (λ (t : State). IsPacked t.metrics) (sym steps.1) (stays_packed rules s 1 x.call x.reply packed (no_sweep s x.call x.reply steps.0) steps.0))

  chain_once : (s : State) → Agree (empty 1) s → IsPacked s.metrics → (a b : List Applied) → events_of a ≡ events_of b → IsChain 1 (empty 1) a → IsChain 1 (empty 1) b
      → AreSteps rules 1 s (entries_of a) → AreSteps rules 1 s (entries_of b) → (verdicts_of a ≡ verdicts_of b) × (entries_of a ≡ entries_of b)
  chain_once s agree packed [] [] e ca cb sa sb = (refl, refl)
  chain_once s agree packed [] (y ∷ b) e ca cb sa sb = absurd (no_push (events_of b) y.event e)
  chain_once s agree packed (x ∷ a) [] e ca cb sa sb = absurd (no_push (events_of a) x.event (sym e))
  chain_once s agree packed (x ∷ a) (y ∷ b) e ca cb sa sb =
      let ev = push_parts (events_of a) (events_of b) x.event y.event e in
      let pa = steps-append s (entries_of a) x.made sa in
      let pb = steps-append s (entries_of b) y.made sb in
      let ih = chain_once s agree packed a b ev.0 ca.0 cb.0 pa.0 pb.0 in
      let here : State = after_all s (entries_of a) in
      let same : after_all s (entries_of b) ≡ here = ap (λ (l : List Own). after_all s l) (sym ih.1) in
      let base_a = rebased (after_all (empty 1) (entries_of a)) here x.event x.verdict x.made (after_agree (empty 1) s (entries_of a) agree)
      (subst (λ (t : State). MakesAcked 1 t x.event x.verdict x.made) (chain_state (empty 1) a) ca.1) in
      let base_b = rebased (after_all (empty 1) (entries_of b)) (after_all s (entries_of b)) y.event y.verdict y.made (after_agree (empty 1) s (entries_of b) agree)
      (subst (λ (t : State). MakesAcked 1 t y.event y.verdict y.made) (chain_state (empty 1) b) cb.1) in
      let made_b : MakesAcked 1 here x.event y.verdict y.made =
      subst (λ (v : Event). MakesAcked 1 here v y.verdict y.made) (sym ev.1) (subst (λ (t : State). MakesAcked 1 t y.event y.verdict y.made) same base_b) in
      let got = acked_once rules 1 here x.event x.verdict y.verdict x.made y.made (steps_packed s (entries_of a) pa.0 packed) base_a pa.1 made_b (subst (λ (t : State). AreSteps rules 1 t y.made) same pb.1) in
      (both_appended (verdicts_of a) (verdicts_of b) (x.verdict ∷ []) (y.verdict ∷ []) ih.0 (ap (λ (v : Verdict). v ∷ []) got.0), both_appended (entries_of a) (entries_of b) x.made y.made ih.1 got.1)

  -- what two replays of the same events have in common
  pub one_log : (scopes : List ScopeSpec) (events : List Event) (verdicts others : List Verdict) (log other : List Entry) (at place : ℕ)
      → Legal rules scopes 1 log → Follows rules 1 1 events verdicts log → count_by is_swept log ≡ 1
      → option_map (λ (e : Entry). e.call) (slice_get log at) ≡ Some call.Sweep → list_all not_end (drop at log) ≡ true
      → Legal rules scopes 1 other → Follows rules 1 1 events others other → count_by is_swept other ≡ 1
      → option_map (λ (e : Entry). e.call) (slice_get other place) ≡ Some call.Sweep → list_all not_end (drop place other) ≡ true
      → (log ≡ other) × (verdicts ≡ others) × (at ≡ place)
  one_log scopes events verdicts others log other at place legal follows one at_sweep ended legal' follows' one' at_sweep' ended' =
      let a = shape rules scopes log at follows.entries follows.last legal follows.own_are follows.ends one at_sweep ended in
      let b = shape rules scopes other place follows'.entries follows'.last legal' follows'.own_are follows'.ends one' at_sweep' ended' in
      let s : State = start rules scopes in
      let agree : Agree (empty 1) s = (sym (opened_releases rules (empty 1) 0 scopes), sym (opened_seats rules (empty 1) 0 scopes)) in
      let packed : IsPacked s.metrics = subst (λ (l : List Row). IsPacked l) (sym (opened_metrics rules (empty 1) 0 scopes)) (first_packed 1) in
      let ca = follows.of_events in
      let cb = follows'.of_events in
      let pa = steps-append s follows.entries (follows.last ∷ []) (subst (λ (l : List Own). AreSteps rules 1 s l) a.owned a.steps) in
      let pb = steps-append s follows'.entries (follows'.last ∷ []) (subst (λ (l : List Own). AreSteps rules 1 s l) b.owned b.steps) in
      let got = chain_once s agree packed ca.applied cb.applied (sym ca.events_are ∙ cb.events_are) ca.chain cb.chain
      (subst (λ (l : List Own). AreSteps rules 1 s l) ca.entries_are pa.0) (subst (λ (l : List Own). AreSteps rules 1 s l) cb.entries_are pb.0) in
      let entries : follows.entries ≡ follows'.entries = ca.entries_are ∙ got.1 ∙ sym cb.entries_are in
      let last_step = subst (λ (l : List Own). AreSteps rules 1 (after_all s l) (follows'.last ∷ [])) (sym entries) pb.1 in
      let last : follows.last ≡ follows'.last = one_step rules 1 (after_all s follows.entries) follows.last follows'.last (steps_packed s follows.entries pa.0 packed) (follows.ends ∙ sym follows'.ends)
      pa.1.0 pa.1.1 last_step.0 last_step.1 in
      let owned : owns rules s a.mine ≡ owns rules s b.mine =
      a.owned ∙ both_appended follows.entries follows'.entries (follows.last ∷ []) (follows'.last ∷ []) entries (ap (λ (o : Own). o ∷ []) last) ∙ sym b.owned in
      let mine : a.mine ≡ b.mine = sym (back rules s a.mine a.are_mine) ∙ ap (λ (l : List Own). map entry_of l) owned ∙ back rules s b.mine b.are_mine in
      let end : State = after_all s (owns rules s a.mine) in
      let replies : a.sweep.reply ≡ b.sweep.reply = one_reply rules end 0 call.Sweep a.sweep.reply b.sweep.reply (steps_packed s (owns rules s a.mine) a.steps packed) a.swept
      (subst (λ (l : List Own). Allowed rules 0 call.Sweep b.sweep.reply (after_all s l)) (sym owned) b.swept) in
      let sweeps : a.sweep ≡ b.sweep = entry_same a.sweep b.sweep (a.seat ∙ sym b.seat) (a.is_sweep ∙ sym b.is_sweep) replies in (
        a.is_log ∙ ap (λ (l : List Entry). openings 0 scopes ++ l) (both_appended a.mine b.mine (a.sweep ∷ []) (b.sweep ∷ []) mine (ap (λ (e : Entry). e ∷ []) sweeps)) ∙ sym b.is_log,
        ca.verdicts_are ∙ got.0 ∙ sym cb.verdicts_are,
        a.place ∙ ap (λ (l : List Entry). length (openings 0 scopes) + length l) mine ∙ sym b.place,
      )
