-- A book that makes a metric, and the table of its symbols.
use Rattle.std.proofs.Common.{◌≡◌, ℕ, ◌+◌, ◌<◌, ◌≤◌, Option, Some, None, List, [], ◌∷◌, ◌++◌, length, append-nil, length-append, refl, ap, sym, ◌∙◌, subst, arith}
use Rattle.std.specs.List.{flat_map, zip}
use Rattle.std.specs.FinMap as table
use Rattle.std.specs.FinMap.{same_map, nat_cmp-IsAntisymmetric}
use Rattle.std.specs.Cmp.{nat_cmp_total}
use Rattle.std.proofs.lemmas.List.Concat.{flat_map-append}
use Rattle.stat_defs.specs.Names.{tokens}
use Rattle.stat_defs.specs.Books.{BookHistory}
use Rattle.stat_defs.specs.declared.events.Key.{Key}
use Rattle.stat_defs.specs.declared.ids.MetricId.{MetricId}
use Rattle.stat_defs.specs.declared.history.Call.TheVariants as call
use Rattle.stat_defs.specs.declared.history.Reply.TheVariants as reply
use Rattle.stat_defs.specs.declared.history.Verdict.TheVariants as verdict
use Rattle.stat_defs.specs.declared.history.Entry.{Entry}
use Rattle.symbol_table.specs.Drawing.{DrawsAll}
use Rattle.symbol_table.specs.Table.{Table, Holds, uses_at, times, total, counted_all, uncounted_all, IsTable}
use Rattle.symbol_table.proofs.Counting.{uses_of_got}
use Rattle.symbol_table.proofs.DrawingLemmas.{DrawsAll_same, holds_all, drawn_length}
use Rattle.symbol_table.proofs.Adding.{uses_counted_all, uses_uncounted_all}
use Rattle.book_state.specs.declared.limits.TheConstants.{MAX_TOKENS}
use Rattle.book_state.specs.State.{NameRules, State, Uses, symbols_of, symbols_in}
use Rattle.book_state.specs.Finding.{scope_of, name_of, New}
use Rattle.book_state.specs.Step.{effect, Allowed, made, hold, Works, Tells}
use Rattle.book_state.specs.Stored.{StateView, IsLawfulCall, after_entry}
use Rattle.stat_book.specs.Calls.{rules_of, state_of}
use Rattle.stat_book.specs.Finds.{outcome_in}
use Rattle.stat_book.specs.Symbols.{AreUses}
use Rattle.stat_book.specs.BookKept.{IsKept}
use Rattle.stat_book.proofs.NamesStay.{seat_metrics}
use Rattle.stat_book.proofs.Keeping.{state_with, entry_kept, call_fits}
use Rattle.stat_book.proofs.Uses.{less_holds, same_uses, made_uses}

-- taking the uses of a name away again gives the table back
names_undone : (m : Table) (ts : List (List ℕ)) (ns : List ℕ) → IsTable m → DrawsAll (Holds m) ts ns → IsTable (uncounted_all (counted_all m ts ns) ns) → uncounted_all (counted_all m ts ns) ns ≡ m
names_undone m ts ns is draws is' = same_map nat_cmp_total nat_cmp-IsAntisymmetric last m (λ k. by_entry k (table.get m k) refl) where
  more : Table
  more = counted_all m ts ns

  last : Table
  last = uncounted_all more ns

  same_use : (k : ℕ) → uses_at last k ≡ uses_at m k
  same_use k =
      let up = uses_counted_all m ts ns k (drawn_length (Holds m) ts ns draws) in
      let down = uses_uncounted_all more ns (λ n. let one = uses_counted_all m ts ns n (drawn_length (Holds m) ts ns draws) in omega (arith, one)) k in
      omega (arith, up, down)

  unused : (k : ℕ) → uses_at m k ≡ 0 → (o : Option (List ℕ × ℕ)) → table.get last k ≡ o → table.get last k ≡ None
  unused k none None e = e
  unused k none (Some entry) e =
      let some = is'.used k entry.0 entry.1 e in
      let uses = uses_of_got last k entry e in
      absurd (omega (arith, some, uses, same_use k, none))

  by_entry : (k : ℕ) (o : Option (List ℕ × ℕ)) → table.get m k ≡ o → table.get last k ≡ table.get m k
  by_entry k None e = unused k (ap (λ (o : Option (List ℕ × ℕ)). elim o as (λ x. ℕ) [ None ↦ 0 | Some entry ↦ entry.1 ]) e) (table.get last k) refl ∙ sym e
  by_entry k (Some entry) e =
      let some = is.used k entry.0 entry.1 e in
      let uses = uses_of_got m k entry e in
      let left : 0 < uses_at last k = omega (arith, some, uses, same_use k) in
      let h = less_holds more ns entry.0 k (holds_all m entry.0 k ts ns draws (entry.1, e)) left in
      let uses' = uses_of_got last k (entry.0, h.0) h.1 in
      let count : h.0 ≡ entry.1 = omega (arith, uses', uses, same_use k) in
      h.1 ∙ (ap (λ (u : ℕ). Some (entry.0, u)) count ∙ sym e)

pub undone : (m more last : Table) (ts : List (List ℕ)) (ns ns' : List ℕ) → IsTable m → DrawsAll (Holds m) ts ns → more ≡ counted_all m ts ns → ns' ≡ ns → last ≡ uncounted_all more ns' → IsTable last → last ≡ m
undone m more last ts ns ns' is draws up same down is' =
    let down' : last ≡ uncounted_all (counted_all m ts ns) ns = down ∙ (λ i. uncounted_all (up i) (same i)) in
    down' ∙ names_undone m ts ns is draws (subst IsTable down' is')

-- the symbols with one name more
made_symbols : (rules : NameRules) (by : ℕ) (key : Key) (id : MetricId) (numbers : List ℕ) (s : State)
    → symbols_in (effect rules by (call.Find key) (reply.Made id numbers) s) ≡ symbols_in s ++ zip (tokens (name_of s key)) numbers
made_symbols rules by key id numbers s =
    let row = made rules s key numbers in
    ap (flat_map symbols_of) (seat_metrics (hold key (scope_of s key) (verdict.Accepted id)) by (record s { metrics = s.metrics ++ row ∷ [] }))
    ∙ (flat_map-append symbols_of s.metrics (row ∷ []) ∙ ap (λ (l : List (List ℕ × ℕ)). symbols_in s ++ l) (append-nil (zip (tokens (name_of s key)) numbers)))

made_count : (rules : NameRules) (by : ℕ) (key : Key) (id : MetricId) (numbers : List ℕ) (s : State)
    → length (effect rules by (call.Find key) (reply.Made id numbers) s).metrics ≡ length s.metrics + 1
made_count rules by key id numbers s =
    let row = made rules s key numbers in
    let n = length-append s.metrics (row ∷ []) in
    ap length (seat_metrics (hold key (scope_of s key) (verdict.Accepted id)) by (record s { metrics = s.metrics ++ row ∷ [] })) ∙ omega (arith, n)

module _ (book : BookHistory) (held : StateView) (uses : Table) (kept : IsKept book held uses) (seat : ℕ) (key : Key) (id : MetricId) (numbers : List ℕ) where
  -- what the table draws may be told
  pub made_told : outcome_in book key ≡ New → id.0 ≡ length (state_of book).metrics → DrawsAll (Holds uses) (tokens (name_of (state_of book) key)) numbers
      → Tells (state_of book) key (outcome_in book key) (reply.Made id numbers)
  made_told new next draws =
      let s = state_of book in
      subst (λ o. Tells s key o (reply.Made id numbers)) (sym new)
      (next, DrawsAll_same (Holds uses) (Uses s) (same_uses uses (symbols_in s) kept.symbols) (tokens (name_of s key)) numbers draws)

  module _ (may : Allowed (rules_of book) seat (call.Find key) (reply.Made id numbers) (state_of book)) (works : Works (state_of book) seat) (lawful : IsLawfulCall (call.Find key))
      (draws : DrawsAll (Holds uses) (tokens (name_of (state_of book) key)) numbers) where
    abbrev entry : Entry
    entry = record { seat = seat; call = call.Find key; reply = reply.Made id numbers }

    pub made_kept : (held' : StateView) (uses' : Table) (log : List Entry) → log ≡ book.log ++ entry ∷ [] → held' ≡ after_entry held entry
        → uses' ≡ counted_all uses (tokens (name_of (state_of book) key)) numbers → ((n : ℕ) → uses_at uses' n ≡ uses_at uses n + times n numbers) → IsTable uses'
        → total uses' ≡ total uses + length (tokens (name_of (state_of book) key)) → length (tokens (name_of (state_of book) key)) ≤ MAX_TOKENS
        → IsKept (record book { log = log }) held' uses'
    made_kept held' uses' log grown is counted_are counts is_table more few =
        let s = state_of book in
        let symbols = ap symbols_in (state_with book entry) ∙ made_symbols (rules_of book) seat key id numbers s in
        let count = ap (λ (s : State). length s.metrics) (state_with book entry) ∙ made_count (rules_of book) seat key id numbers s in
        entry_kept book held uses kept entry may lawful held' uses' log grown is (call_fits book entry refl works) (λ no. absurd cc)
        (subst (λ symbols. AreUses uses' symbols) (sym symbols) (made_uses uses (symbols_in s) kept.symbols (tokens (name_of s key)) numbers draws uses' counted_are counts is_table))
        (omega (arith, kept.few_uses, count, more, few))
