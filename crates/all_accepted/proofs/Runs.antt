-- What is true of a report of room files, whatever workers did them.
use Rattle.std.proofs.Common.{◌≡◌, ◌==◌, ◌&&◌, ◌+◌, ◌≤◌, ◌<◌, ℕ, zero, suc, cond, not, Bool, true, false, Option, Some, IsSome, List, [], ◌∷◌, ◌++◌, length, take, drop, slice_get, refl, ap, sym, ◌∙◌, subst, arith, inl, inr, nat_le}
use Rattle.std.specs.List.{AllByRecursion, list_all}
use Rattle.std.proofs.lemmas.Bool.{leb-true}
use Rattle.std.proofs.lemmas.List.{take-append-drop}
use Rattle.stat_defs.specs.declared.events.Event.{Event}
use Rattle.stat_defs.specs.declared.history.Call.{Call}
use Rattle.stat_defs.specs.declared.history.Call.TheVariants as call
use Rattle.stat_defs.specs.declared.history.Reply.{Reply}
use Rattle.stat_defs.specs.declared.history.Reply.TheVariants as reply
use Rattle.stat_defs.specs.declared.history.Entry.{Entry}
use Rattle.stat_defs.specs.declared.metrics.Life.TheVariants.{Live}
use Rattle.stat_defs.specs.declared.configs.ScopeSpec.{ScopeSpec}
use Rattle.stat_defs.specs.declared.reports.FlushRecord.{FlushRecord}
use Rattle.stat_defs.specs.declared.reports.Report.{Report}
use Rattle.book_state.specs.State.{Row, State}
use Rattle.book_state.specs.Step.{effect}
use Rattle.book_state.specs.Log.{empty, openings, is_sweep, fits_seat, replay_from, replay, Run, Legal}
use Rattle.book_state.specs.SeatLaws.{is_end}
use Rattle.book_state.specs.Follows.{Own, own, event_key, Follows}
use Rattle.book_state.proofs.Growing.{own_more, replayed_on}
use Rattle.book_state.proofs.Lists.{true_false, both, some_same, eq_or, map_some}
use Rattle.ledger.specs.Ledger.{RunPlan, IsReportOf}
use Rattle.ledger.specs.Flushes.{Fits, FitAll}
use Rattle.ledger.specs.Segments.{segments_at}
use Rattle.ledger.specs.Lists.{EachNumbered, OfLast}
use Rattle.ledger.specs.Work.{Work, events_in, verdicts_in}
use Rattle.ledger.proofs.Lists.{nil_cons, tail_same, number_same, one_of}
use Rattle.all_accepted.specs.Admitted.{HasRoomForAll}
use Rattle.all_accepted.proofs.InLists.{all_parts}
use Rattle.all_accepted.proofs.States.{IsSettledState, pairs_in, none_swept}
use Rattle.all_accepted.proofs.Accepted.{EventFits, Keeps, AreCalls, IsTaken, log_calls, pick_calls, own_behind, run_behind, behind_openings, each_right}
use Rattle.all_accepted.proofs.Named.{IsNamed, each_named, run_settled}

-- the calls of a seat are among those of the log
all_own : (P : Call → Type 0) (plan : RunPlan) (w : ℕ) (s : State) (log : List Entry) → AllByRecursion (λ e. P e.call) log → AllByRecursion (λ (o : Own). P o.call) (own plan.rules w s log)
all_own P plan w s [] all = tt
all_own P plan w s (e ∷ log) all = by_case (e.seat == w) (all_own P plan w (effect plan.rules e.seat e.call e.reply s) log all.1) where
  by_case : (t : Bool) → AllByRecursion (λ (o : Own). P o.call) (own plan.rules w (effect plan.rules e.seat e.call e.reply s) log)
      → AllByRecursion (λ (o : Own). P o.call) (cond t (record { call = e.call; reply = e.reply; after = effect plan.rules e.seat e.call e.reply s } ∷ own plan.rules w (effect plan.rules e.seat e.call e.reply s) log)
      (own plan.rules w (effect plan.rules e.seat e.call e.reply s) log))
  by_case true rest = (all.0, rest)
  by_case false rest = rest

-- a list whose last member is not of this kind has none of it behind the front
none_behind : {X : Type 0} (P : X → Type 0) (front back entries : List X) (last : X) → front ++ back ≡ entries ++ last ∷ [] → (P last → ⊥) → AllByRecursion P back → back ≡ []
none_behind P front [] entries last is none all = refl
none_behind {X} P [] (x ∷ back) entries last is none all =
    absurd (none (last_in (x ∷ back) entries is all)) where
      last_in : (xs es : List X) → xs ≡ es ++ last ∷ [] → AllByRecursion P xs → P last
      last_in xs es e ps = (all_parts P es (last ∷ []) (subst (λ (l : List X). AllByRecursion P l) e ps)).1.0
none_behind {X} P (y ∷ front) (x ∷ back) [] last is none all = absurd (empty_front front (tail_same y last (front ++ x ∷ back) [] is)) where
  empty_front : (f : List X) → f ++ x ∷ back ≡ [] → ⊥
  empty_front [] e = nil_cons x back (sym e)
  empty_front (z ∷ f) e = nil_cons z (f ++ x ∷ back) (sym e)
none_behind P (y ∷ front) (x ∷ back) (e ∷ entries) last is none all = none_behind P front (x ∷ back) entries last (tail_same y e (front ++ x ∷ back) (entries ++ last ∷ []) is) none all

abbrev NotEnd : Call → Type 0
NotEnd c = is_end c ≡ false

all_not : (log : List Entry) → list_all (λ (e : Entry). not (is_end e.call)) log ≡ true → AllByRecursion (λ e. NotEnd e.call) log
all_not [] all = tt
all_not (e ∷ log) all = let parts = both (not (is_end e.call)) (list_all (λ (x : Entry). not (is_end x.call)) log) all in (is_not (is_end e.call) parts.0, all_not log parts.1) where
  is_not : (t : Bool) → not t ≡ true → t ≡ false
  is_not true is = absurd (true_false (sym is))
  is_not false is = refl

-- seats of which no entry is there
head_other : (plan : RunPlan) (w : ℕ) (s : State) (e : Entry) (log : List Entry) → own plan.rules w s (e ∷ log) ≡ [] → (e.seat == w) ≡ true → ⊥
head_other plan w s e log none is =
    let next : State = effect plan.rules e.seat e.call e.reply s in
    let some = ap (λ (t : Bool). cond t (record { call = e.call; reply = e.reply; after = next } ∷ own plan.rules w next log) (own plan.rules w next log)) (sym is) ∙ none in
    nil_cons (record { call = e.call; reply = e.reply; after = next }) (own plan.rules w next log) (sym some)

tail_none : (plan : RunPlan) (w : ℕ) (s : State) (e : Entry) (log : List Entry) → own plan.rules w s (e ∷ log) ≡ [] → own plan.rules w (effect plan.rules e.seat e.call e.reply s) log ≡ []
tail_none plan w s e log none = by_case (e.seat == w) none where
  by_case : (t : Bool) → cond t (record { call = e.call; reply = e.reply; after = effect plan.rules e.seat e.call e.reply s } ∷ own plan.rules w (effect plan.rules e.seat e.call e.reply s) log)
      (own plan.rules w (effect plan.rules e.seat e.call e.reply s) log) ≡ []
      → own plan.rules w (effect plan.rules e.seat e.call e.reply s) log ≡ []
  by_case true is = absurd (nil_cons (record { call = e.call; reply = e.reply; after = effect plan.rules e.seat e.call e.reply s }) (own plan.rules w (effect plan.rules e.seat e.call e.reply s) log) (sym is))
  by_case false is = is

-- entries behind which no worker has one are sweeps
all_sweeps : (plan : RunPlan) (workers : ℕ) (s : State) (log : List Entry) → ((w : ℕ) → 1 ≤ w → w ≤ workers → own plan.rules w s log ≡ []) → list_all (fits_seat workers) log ≡ true
    → AllByRecursion (λ e. is_sweep e.call ≡ true) log
all_sweeps plan workers s [] none fit = tt
all_sweeps plan workers s (e ∷ log) none fit =
    let parts = both (fits_seat workers e) (list_all (fits_seat workers) log) fit in (
      by_case (is_sweep e.call) refl parts.0,
      all_sweeps plan workers (effect plan.rules e.seat e.call e.reply s) log (λ w above below. tail_none plan w s e log (none w above below)) parts.1,
    ) where
      by_case : (t : Bool) → is_sweep e.call ≡ t → fits_seat workers e ≡ true → is_sweep e.call ≡ true
      by_case true is fits = is
      by_case false is fits =
          let worker = both (nat_le 1 e.seat) (nat_le e.seat workers) (sym (ap (λ (t : Bool). cond t (e.seat == 0) (nat_le 1 e.seat && nat_le e.seat workers)) is) ∙ fits) in
          absurd (head_other plan e.seat s e log (none e.seat (leb-true 1 e.seat worker.0) (leb-true e.seat workers worker.1)) (number_same e.seat e.seat refl))

-- a sweep changes nothing where all metrics are live
swept_same : (plan : RunPlan) (by : ℕ) (c : Call) (r : Reply) (s : State) → is_sweep c ≡ true → AllByRecursion (λ (row : Row). row.metric.life ≡ Live) s.metrics → effect plan.rules by c r s ≡ s
swept_same plan by call.Sweep (reply.Swept n) s is lives = λ i. record s { metrics = none_swept s.seats s.metrics lives i }
swept_same plan by call.Sweep _ s is lives = refl
swept_same plan by (call.OpenScope label prefix) r s is lives = absurd (true_false (sym is))
swept_same plan by (call.Release label) r s is lives = absurd (true_false (sym is))
swept_same plan by (call.Find key) r s is lives = absurd (true_false (sym is))
swept_same plan by (call.SetText id text) r s is lives = absurd (true_false (sym is))
swept_same plan by call.Ack r s is lives = absurd (true_false (sym is))
swept_same plan by call.End r s is lives = absurd (true_false (sym is))

sweeps_same : (plan : RunPlan) (s : State) (log : List Entry) → AllByRecursion (λ (e : Entry). is_sweep e.call ≡ true) log → AllByRecursion (λ (row : Row). row.metric.life ≡ Live) s.metrics → replay_from plan.rules s log ≡ s
sweeps_same plan s [] all lives = refl
sweeps_same plan s (e ∷ log) all lives =
    ap (λ (t : State). replay_from plan.rules t log) (swept_same plan e.seat e.call e.reply s all.0 lives) ∙ sweeps_same plan s log all.1 lives

-- a sweep stands behind the openings
record Cut (front rest : List Entry) (at : ℕ) : Type 0 where
  k : ℕ
  taken : take at (front ++ rest) ≡ front ++ take k rest
  dropped : drop at (front ++ rest) ≡ drop k rest

cut : (front rest : List Entry) (at : ℕ) (e : Entry) → AllByRecursion (λ (x : Entry). is_sweep x.call ≡ false) front → slice_get (front ++ rest) at ≡ Some e → is_sweep e.call ≡ true → Cut front rest at
cut [] rest at e none there is = record { k = at; taken = refl; dropped = refl }
cut (x ∷ front) rest zero e none there is = absurd (true_false (sym is ∙ ap (λ (y : Entry). is_sweep y.call) (sym (some_same x e there)) ∙ none.0))
cut (x ∷ front) rest (suc at) e none there is =
    let more = cut front rest at e none.1 there is in
    record { k = more.k; taken = ap (λ (l : List Entry). x ∷ l) more.taken; dropped = more.dropped }

no_openings : (id : ℕ) (scopes : List ScopeSpec) → AllByRecursion (λ (x : Entry). is_sweep x.call ≡ false) (openings id scopes)
no_openings id [] = tt
no_openings id (scope ∷ scopes) = (refl, no_openings (suc id) scopes)

back_all : {X : Type 0} (p : X → Bool) (xs ys : List X) → list_all p (xs ++ ys) ≡ true → list_all p ys ≡ true
back_all p [] ys all = all
back_all p (x ∷ xs) ys all = back_all p xs ys (both (p x) (list_all p (xs ++ ys)) all).1

pub pick : {X : Type 0} (P : ℕ → X → Type 0) (n : ℕ) (xs : List X) → EachNumbered P n xs → (w : ℕ) → n ≤ w → w < n + length xs → (x : X) × P w x
pick P n [] all w above below = absurd (omega (arith, above, below))
pick P n (x ∷ xs) all w above below = elim (eq_or n w) [
  | inl same ↦ (x, subst (λ (k : ℕ). P k x) same all.0)
  | inr other ↦ pick P (suc n) xs all.1 w (omega (arith, above, other)) (omega (arith, below))
]

module _ (plan : RunPlan) (events : List (List Event)) (room : HasRoomForAll plan events) where
  abbrev IsSettled : State → Type 0
  IsSettled s = IsSettledState plan room.names room.few room.few_histograms s

  -- what is known of the report
  pub record IsSettledReport (works : List Work) (report : Report) : Type 0 where
    pub flush : FlushRecord
    pub flushes : report.flushes ≡ flush ∷ []
    -- the book before the last sweep is the book at the end
    pub same : replay plan.rules (length works) (take flush.at report.log) ≡ replay plan.rules (length works) report.log
    pub state : IsSettled (replay plan.rules (length works) report.log)
    pub calls : (rest : List Entry) × (report.log ≡ openings 0 plan.scopes ++ rest) × AllByRecursion (λ (e : Entry). Keeps plan events room e.call) rest
    pub named : AllByRecursion (λ (work : Work). AllByRecursion (λ told. IsNamed plan events room (pairs_in (replay plan.rules (length works) report.log)) told.0 told.1) work) works
    pub taken : AllByRecursion (λ (work : Work). AllByRecursion (λ told. IsTaken plan events room told.0 told.1) work) works

  module _ (contents : List (Option (List ℕ))) (works : List Work) (report : Report) (is : IsReportOf contents events plan works report)
      (fits : AllByRecursion (λ (work : Work). AllByRecursion (EventFits plan events room) (events_in work)) works) where
    abbrev workers : ℕ
    workers = length works

    abbrev legal : Legal plan.rules plan.scopes (length works) report.log
    legal = is.history.legal

    abbrev first : State
    first = replay_from plan.rules (empty (length works)) (openings 0 plan.scopes)

    calls : AllByRecursion (λ (e : Entry). Keeps plan events room e.call) is.history.legal.rest
    calls =
        log_calls plan events room workers first is.history.legal.rest
        (λ w above below. subst (AreCalls plan events room) (own_behind plan events room workers w report.log legal above)
        (pick_calls plan events room workers report.log 1 works is.history.follows fits w above (omega (arith, below))))
        is.history.legal.seats

    -- each event that names a metric was accepted
    pub each_taken : AllByRecursion (λ (work : Work). AllByRecursion (λ told. IsTaken plan events room told.0 told.1) work) works
    each_taken = each_right plan events room workers report.log legal calls 1 works (omega arith) is.history.follows

    run : Run plan.rules first is.history.legal.rest
    run = run_behind plan events room (empty workers) (openings 0 plan.scopes) is.history.legal.rest (subst (λ (l : List Entry). Run plan.rules (empty workers) l) is.history.legal.begins is.history.legal.steps)

    whole : replay plan.rules (length works) report.log ≡ replay_from plan.rules first is.history.legal.rest
    whole = ap (λ (l : List Entry). replay plan.rules workers l) is.history.legal.begins ∙ replayed_on plan.rules (empty workers) (openings 0 plan.scopes) is.history.legal.rest

    run_parts : (s : State) (front back : List Entry) → Run plan.rules s (front ++ back) → Run plan.rules s front
    run_parts s [] back steps = tt
    run_parts s (e ∷ front) back steps = (steps.0, run_parts (effect plan.rules e.seat e.call e.reply s) front back steps.1)

    -- no entry but sweeps behind the last flush
    module _ (flush : FlushRecord) (e : Entry) (there : slice_get report.log flush.at ≡ Some e) (sweep : is_sweep e.call ≡ true)
        (ended : list_all (λ (x : Entry). not (is_end x.call)) (drop flush.at report.log) ≡ true) where
      at_cut : Cut (openings 0 plan.scopes) is.history.legal.rest flush.at
      at_cut = cut (openings 0 plan.scopes) is.history.legal.rest flush.at e (no_openings 0 plan.scopes) (ap (λ (l : List Entry). slice_get l flush.at) (sym is.history.legal.begins) ∙ there) sweep

      nothing_after : replay plan.rules (length works) (take flush.at report.log) ≡ replay plan.rules (length works) report.log
      nothing_after =
          let rest : List Entry = is.history.legal.rest in
          let k : ℕ = at_cut.k in
          let middle : State = replay_from plan.rules first (take k rest) in
          let split = take-append-drop k rest in
          let halves = all_parts (λ (x : Entry). Keeps plan events room x.call) (take k rest) (drop k rest) (subst (λ (l : List Entry). AllByRecursion (λ (x : Entry). Keeps plan events room x.call) l) (sym split) calls) in
          let steps = run_parts first (take k rest) (drop k rest) (subst (λ (l : List Entry). Run plan.rules first l) (sym split) run) in
          let state = run_settled plan events room first (take k rest) (behind_openings plan events room workers) halves.0 steps in
          let seats = back_all (fits_seat workers) (take k rest) (drop k rest) (ap (λ (l : List Entry). list_all (fits_seat workers) l) split ∙ is.history.legal.seats) in
          let not_ended = all_not (drop k rest) (ap (λ (l : List Entry). list_all (λ (x : Entry). not (is_end x.call)) l) (sym at_cut.dropped ∙ ap (λ (l : List Entry). drop flush.at l) (sym is.history.legal.begins)) ∙ ended) in
          let sweeps = all_sweeps plan workers middle (drop k rest) (λ w above below.
          let follows = pick (λ (n : ℕ) (work : Work). Follows plan.rules workers n (events_in work) (verdicts_in work) report.log) 1 works is.history.follows w above (omega (arith, below)) in
          none_behind (λ (o : Own). NotEnd o.call) (own plan.rules w first (take k rest)) (own plan.rules w middle (drop k rest)) follows.1.entries follows.1.last
          (sym (own_more plan.rules first w (take k rest) (drop k rest)) ∙ ap (λ (l : List Entry). own plan.rules w first l) split ∙ sym (own_behind plan events room workers w report.log legal above) ∙ follows.1.own_are)
          (λ not. true_false (sym (ap is_end follows.1.ends) ∙ not))
          (all_own NotEnd plan w middle (drop k rest) not_ended)) seats in
          let still = sweeps_same plan middle (drop k rest) sweeps state.lives in
          ap (λ (l : List Entry). replay plan.rules workers (take flush.at l)) is.history.legal.begins
          ∙ ap (λ (l : List Entry). replay plan.rules workers l) at_cut.taken
          ∙ replayed_on plan.rules (empty workers) (openings 0 plan.scopes) (take k rest)
          ∙ sym still
          ∙ sym (replayed_on plan.rules first (take k rest) (drop k rest))
          ∙ ap (λ (l : List Entry). replay_from plan.rules first l) split
          ∙ sym whole

    last_flush : length report.flushes ≡ 1 → (flush : FlushRecord) × (report.flushes ≡ flush ∷ [])
    last_flush one = one_of report.flushes one

    -- the only flush is the last, and fits
    pub fits_last : (flush : FlushRecord) → report.flushes ≡ flush ∷ [] → Fits plan.rules report.log true (segments_at 0 1 works (flush ∷ [])) flush
    fits_last flush one = (subst (λ (l : List FlushRecord). FitAll plan.rules report.log works l) one is.account.flushes).0

    pub settled_report : plan.flushes ≡ 0 → IsSettledReport works report
    settled_report none =
        let count = is.swept.number in
        let one = last_flush (omega (arith, none, count)) in
        let flush : FlushRecord = one.0 in
        let sweep = map_some (λ (e : Entry). e.call) (slice_get report.log flush.at) call.Sweep (fits_last flush one.1).sweep in
        let ended = subst (λ (l : List FlushRecord). OfLast (λ last. list_all (λ (e : Entry). not (is_end e.call)) (drop last.at report.log) ≡ true) l) one.1 is.swept.ended in
        let state = run_settled plan events room first is.history.legal.rest (behind_openings plan events room workers) calls run in
        record {
          flush = flush;
          flushes = one.1;
          same = nothing_after flush sweep.0 sweep.1 (ap is_sweep (sym sweep.2)) ended;
          state = subst (λ (s : State). IsSettled s) (sym whole) state;
          calls = (is.history.legal.rest, is.history.legal.begins, calls);
          named = each_named plan events room workers report.log legal calls (pairs_in (replay plan.rules workers report.log)) refl 1 works (omega arith) is.history.follows (keys works fits);
          taken = each_taken;
        } where
          key_each : (es : List Event) → AllByRecursion (EventFits plan events room) es → AllByRecursion (λ (e : Event). IsSome (event_key e)) es
          key_each [] all = tt
          key_each (e ∷ es) all = (all.0.0, key_each es all.1)

          keys : (ws : List Work) → AllByRecursion (λ (work : Work). AllByRecursion (EventFits plan events room) (events_in work)) ws → AllByRecursion (λ (work : Work). AllByRecursion (λ (e : Event). IsSome (event_key e)) (events_in work)) ws
          keys [] all = tt
          keys (work ∷ ws) all = (key_each (events_in work) all.0, keys ws all.1)
