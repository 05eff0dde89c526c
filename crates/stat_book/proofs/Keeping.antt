-- A book keeps its invariant when an entry is added.
use Rattle.std.proofs.Common.{◌≡◌, ℕ, zero, suc, ◌+◌, ◌*◌, ◌<◌, ◌≤◌, ◌==◌, ◌&&◌, nat_le, Option, Some, None, List, [], ◌∷◌, ◌++◌, Bool, true, false, cond, length, slice_get, append-nil, refl, ap, sym, ◌∙◌, subst, arith}
use Rattle.std.specs.Option.{IsSomeAnd}
use Rattle.std.proofs.lemmas.Bool.Decides.{nat_tests, Decides-eqb}
use Rattle.std.proofs.lemmas.List.{length-replicate}
use Rattle.std.proofs.lemmas.List.Concat.{flat_map-append}
use Rattle.std.proofs.lemmas.List.Elements.{All-push}
use Rattle.stat_defs.specs.Books.{BookHistory, is_released}
use Rattle.stat_defs.specs.declared.history.Call.{Call}
use Rattle.stat_defs.specs.declared.history.Call.TheVariants as call
use Rattle.stat_defs.specs.declared.history.Reply.{Reply}
use Rattle.stat_defs.specs.declared.history.Reply.TheVariants as reply
use Rattle.stat_defs.specs.declared.history.Entry.{Entry}
use Rattle.stat_defs.specs.declared.ids.ScopeId.{ScopeId}
use Rattle.stat_defs.specs.declared.events.Key.{Key}
use Rattle.book_state.specs.Finding.{Outcome, NoScope, Rejected, Known, NoRoom, OverLimit, New}
use Rattle.tag_rules.specs.Tagging.{tagged}
use Rattle.symbol_table.specs.Table.{Table, total}
use Rattle.book_state.specs.declared.limits.TheConstants.{MAX_OPENINGS, MAX_TOKENS}
use Rattle.book_state.specs.State.{NameRules, State, Seat, symbols_in}
use Rattle.book_state.specs.Step.{effect, Allowed, Working, Works, Tells, on_seat}
use Rattle.book_state.specs.Log.{empty, is_sweep, fits_seat, replay_from}
use Rattle.book_state.specs.RunState.{IsRunState}
use Rattle.book_state.specs.Stored.{StateView, IsNext, IsLawfulCall, drawing, after_entry, released_by, released_in}
use Rattle.book_state.proofs.Lists.{count_push, within_some}
use Rattle.book_state.proofs.Growing.{replayed, legal_on, seats_stay}
use Rattle.book_state.proofs.Entering.{same_effect, drawn}
use Rattle.book_state.proofs.Safety.{empty_run, run_kept_all}
use Rattle.stat_book.specs.Calls.{name_rules, rules_of, state_of, IsLegal, Logged, is_opening, openings_by}
use Rattle.stat_book.specs.Symbols.{AreUses}
use Rattle.stat_book.specs.BookKept.{IsKept}
use Rattle.stat_book.specs.Appending.{KeepsNames}
use Rattle.stat_book.proofs.NamesStay.{names_stay}

-- the book with one entry more
abbrev pub with_entry : BookHistory → Entry → BookHistory
with_entry book e = record book { log = book.log ++ e ∷ [] }

pub state_with : (book : BookHistory) (e : Entry) → state_of (with_entry book e) ≡ effect (rules_of book) e.seat e.call e.reply (state_of book)
state_with book e = replayed (rules_of book) book.workers book.log e

pub tags_are : (book : BookHistory) → (rules_of book).tagged ≡ tagged book.config.tags
unfolding name_rules
tags_are book = refl

-- the state after a legal log is one that a run comes to
pub run_of : (book : BookHistory) → IsLegal book → IsRunState (state_of book)
run_of book legal = run_kept_all (rules_of book) (empty book.workers) book.log (empty_run book.workers) legal.steps

module _ (rules : NameRules) where
  seats_from : (s : State) (log : List Entry) → length (replay_from rules s log).seats ≡ length s.seats
  seats_from s [] = refl
  seats_from s (e ∷ log) = seats_from (effect rules e.seat e.call e.reply s) log ∙ seats_stay rules e.seat e.call e.reply s

-- there are as many seats as workers
pub seats_are : (book : BookHistory) → length (state_of book).seats ≡ book.workers
seats_are book = seats_from (rules_of book) (empty book.workers) book.log ∙ length-replicate book.workers (record { tag = 0; held = []; ended = false })

-- an entry of a worker
pub worker_fits : (book : BookHistory) (seat : ℕ) → Works (state_of book) seat → (nat_le 1 seat && nat_le seat book.workers) ≡ true
worker_fits book zero works = absurd works
worker_fits book (suc at) works =
    let within = within_some (state_of book).seats at (λ row. (row.ended ≡ false) × Unit {0}) works in
    let count = seats_are book in
    grind (arith, nat_tests)

pub call_fits : (book : BookHistory) (e : Entry) → is_sweep e.call ≡ false → Works (state_of book) e.seat → fits_seat book.workers e ≡ true
call_fits book e worker works = ap (λ (b : Bool). cond b (e.seat == 0) (nat_le 1 e.seat && nat_le e.seat book.workers)) worker ∙ worker_fits book e.seat works

-- what is asked of a seat is more than that it works
pub works_so : (s : State) (seat : ℕ) (May : Seat → Type 0) → Working s seat May → Works s seat
works_so s zero May works = absurd works
works_so s (suc at) May works = by_row (slice_get s.seats at) works where
  by_row : (o : Option Seat) → IsSomeAnd o (λ row. (row.ended ≡ false) × May row) → IsSomeAnd o (λ row. (row.ended ≡ false) × Unit {0})
  by_row None w = absurd w
  by_row (Some row) w = (w.0, tt)

at_most_one : (t : Bool) → cond t 1 0 ≤ 1
at_most_one true = omega arith
at_most_one false = omega arith

no_one : (t : Bool) → ◌≡◌ {A = ℕ} (cond (t && false) 1 0) 0
no_one true = refl
no_one false = refl

-- an opening of a seat that has room for it, or no opening
pub few_with : (log : List Entry) (e : Entry) → (is_opening e.call ≡ true → openings_by e.seat log < MAX_OPENINGS) → ((seat : ℕ) → openings_by seat log ≤ MAX_OPENINGS) → (seat : ℕ) → openings_by seat (log ++ e ∷ []) ≤ MAX_OPENINGS
few_with log e room few seat = by_case (is_opening e.call) (e.seat == seat) refl refl where
  more : openings_by seat (log ++ e ∷ []) ≡ openings_by seat log + cond (is_opening e.call && e.seat == seat) 1 0
  more = count_push (λ (entry : Entry). is_opening entry.call && entry.seat == seat) log e

  by_case : (opens same : Bool) → is_opening e.call ≡ opens → (e.seat == seat) ≡ same → openings_by seat (log ++ e ∷ []) ≤ MAX_OPENINGS
  by_case true true is same =
      let own : openings_by seat log < MAX_OPENINGS = subst (λ (n : ℕ). openings_by n log < MAX_OPENINGS) ((Decides-eqb e.seat seat).0 same) (room is) in
      let one : cond (is_opening e.call && e.seat == seat) 1 0 ≤ 1 = at_most_one (is_opening e.call && e.seat == seat) in
      omega (arith, more, own, one)
  by_case opens false is same =
      let none : ◌≡◌ {A = ℕ} (cond (is_opening e.call && e.seat == seat) 1 0) 0 = rw same (no_one (is_opening e.call)) in
      omega (arith, more, none, few seat)
  by_case false same is e' =
      let none : ◌≡◌ {A = ℕ} (cond (is_opening e.call && e.seat == seat) 1 0) 0 = rw is refl in
      omega (arith, more, none, few seat)

pub released_push : (log : List Entry) (e : Entry) → released_in (log ++ e ∷ []) ≡ released_in log ++ released_by e.call e.reply
released_push log e = flat_map-append (λ (entry : Entry). released_by entry.call entry.reply) log (e ∷ []) ∙ ap (λ (r : List ScopeId). released_in log ++ r) (append-nil (released_by e.call e.reply))

seat_releases : (f : Seat → Seat) (by : ℕ) (s : State) → (on_seat f by s).releases ≡ s.releases
seat_releases f zero s = refl
seat_releases f (suc at) s = refl

-- a release alone counts as one
pub releases_step : (rules : NameRules) (by : ℕ) (c : Call) (r : Reply) (s : State) → Allowed rules by c r s → (effect rules by c r s).releases ≡ s.releases + cond (is_released r) 1 0
releases_step rules by (call.OpenScope label prefix) (reply.Released id) s may = absurd may
releases_step rules by (call.OpenScope label prefix) (reply.Opened id) s may = omega arith
releases_step rules by (call.Release label) (reply.Released id) s may = refl
releases_step rules by (call.Find key) (reply.Made id numbers) s may = seat_releases _ by _ ∙ omega arith
releases_step rules by (call.Find key) (reply.Found id) s may = seat_releases _ by _ ∙ omega arith
releases_step rules by (call.Find key) reply.Rejected s may = seat_releases _ by s ∙ omega arith
releases_step rules by (call.Find key) (reply.Released id) s may = absurd (no_release rules s key id _ may.1) where
  no_release : (rules : NameRules) (s : State) (key : Key) (id : ScopeId) (o : Outcome) → Tells s key o (reply.Released id) → ⊥
  no_release rules s key id NoScope t = t
  no_release rules s key id Rejected t = t
  no_release rules s key id (Known k) t = t
  no_release rules s key id NoRoom t = t
  no_release rules s key id OverLimit t = t
  no_release rules s key id New t = t
releases_step rules by (call.SetText id text) (reply.Released scope) s may = absurd may
releases_step rules by (call.SetText id text) reply.TextSet s may = omega arith
releases_step rules by call.Ack (reply.Released id) s may = absurd may
releases_step rules by call.Ack (reply.Acked tag) s may = seat_releases _ by s ∙ omega arith
releases_step rules by call.Sweep (reply.Released id) s may = absurd may
releases_step rules by call.Sweep (reply.Swept n) s may = omega arith
releases_step rules by call.End (reply.Released id) s may = absurd may
releases_step rules by call.End reply.Ended s may = seat_releases _ by s ∙ omega arith
releases_step rules by c r s may = omega arith

module _ (book : BookHistory) (held : StateView) (uses : Table) (kept : IsKept book held uses) (e : Entry) (may : Allowed (rules_of book) e.seat e.call e.reply (state_of book)) (lawful : IsLawfulCall e.call) where
  pub next_in : IsNext held e
  next_in = record {
    rules = rules_of book;
    tags = tags_are book ∙ ap tagged (sym kept.tags);
    allowed = subst (λ (s : State). Allowed (rules_of book) e.seat e.call e.reply s) (sym kept.replay) may;
    lawful = lawful;
  }

  pub entry_state : (after_entry held e).state ≡ state_of (with_entry book e)
  entry_state =
      same_effect (drawing held.tags) (rules_of book) (drawn held.tags ∙ (ap tagged kept.tags ∙ sym (tags_are book))) e.seat e.call e.reply held.state
      ∙ (ap (λ (s : State). effect (rules_of book) e.seat e.call e.reply s) kept.replay ∙ sym (state_with book e))

  pub entry_kept : (held' : StateView) (uses' : Table) (log : List Entry) → log ≡ book.log ++ e ∷ [] → held' ≡ after_entry held e → fits_seat book.workers e ≡ true
      → (is_opening e.call ≡ true → openings_by e.seat book.log < MAX_OPENINGS) → AreUses uses' (symbols_in (state_of (with_entry book e)))
      → total uses' ≤ MAX_TOKENS * length (state_of (with_entry book e)).metrics → IsKept (record book { log = log }) held' uses'
  entry_kept held' uses' log grown is fits room symbols few = subst (λ (l : List Entry). IsKept (record book { log = l }) held' uses') (sym grown) (record {
    some_workers = kept.some_workers;
    few_workers = kept.few_workers;
    legal = legal_on (rules_of book) book.config.scopes book.workers book.log e kept.legal fits may;
    lawful = All-push (λ (entry : Entry). IsLawfulCall entry.call) book.log e kept.lawful lawful;
    few_openings = few_with book.log e room kept.few_openings;
    tags = ap (λ (v : StateView). v.tags) is ∙ kept.tags;
    replay = ap (λ (v : StateView). v.state) is ∙ entry_state;
    released = ap (λ (v : StateView). v.released) is ∙ (ap (λ (l : List ScopeId). l ++ released_by e.call e.reply) kept.released ∙ sym (released_push book.log e));
    releases =
        let more = count_push (λ (entry : Entry). is_released entry.reply) book.log e in
        let now = ap (λ (s : State). s.releases) (state_with book e) in
        let step = releases_step (rules_of book) e.seat e.call e.reply (state_of book) may in
        omega (arith, more, now, step, kept.releases);
    symbols = symbols;
    few_uses = few;
  })

  -- an entry that leaves the symbols
  pub append_kept : (held' : StateView) (log : List Entry) → log ≡ book.log ++ e ∷ [] → held' ≡ after_entry held e → fits_seat book.workers e ≡ true
      → (is_opening e.call ≡ true → openings_by e.seat book.log < MAX_OPENINGS) → KeepsNames e.reply → IsKept (record book { log = log }) held' uses
  append_kept held' log grown is fits room keeps =
      let stay = names_stay (rules_of book) e.seat e.call e.reply (state_of book) (run_of book kept.legal) may keeps in
      let count = ap (λ (s : State). length s.metrics) (state_with book e) ∙ stay.count in
      entry_kept held' uses log grown is fits room
      (subst (λ symbols. AreUses uses symbols) (sym (ap symbols_in (state_with book e) ∙ stay.symbols)) kept.symbols)
      (subst (λ (n : ℕ). total uses ≤ MAX_TOKENS * n) (sym count) kept.few_uses)

-- a book that did not change
pub same_kept : (book : BookHistory) (held : StateView) (uses : Table) → IsKept book held uses → (held' : StateView) (uses' : Table) (log : List Entry) → log ≡ book.log → held' ≡ held → uses' ≡ uses
    → IsKept (record book { log = log }) held' uses'
same_kept book held uses kept held' uses' log same is are =
    subst (λ (l : List Entry). IsKept (record book { log = l }) held' uses') (sym same)
    (subst (λ (h : StateView). IsKept book h uses') (sym is) (subst (λ (u : Table). IsKept book held u) (sym are) kept))

-- what the clause of a call says
pub logged_as : (v book : BookHistory) (seat : ℕ) (c : Call) (r : Reply) (log : List Entry) → book ≡ v → log ≡ book.log ++ record { seat = seat; call = c; reply = r } ∷ []
    → Allowed (rules_of book) seat c r (state_of book) → Logged v seat c r (record book { log = log })
logged_as v book seat c r log is grown may =
    let new : ◌≡◌ {A = BookHistory} (record book { log = log }) (with_entry book (record { seat = seat; call = c; reply = r })) = ap (λ (l : List Entry). record book { log = l }) grown in
    subst (λ (old : BookHistory). Logged old seat c r (record book { log = log })) is (record {
      logged = new;
      step = record { allowed = may; after = ap state_of new ∙ state_with book (record { seat = seat; call = c; reply = r }) };
    })
