-- What a seat that swept the book knows, and how the accounts of flushes go on with the log.
use Rattle.std.proofs.Common.{◌≡◌, ℕ, ◌<◌, List, [], ◌∷◌, ◌++◌, length, take, drop, refl, ap, sym, ◌∙◌, subst, arith, append_assoc, length-append, false}
use Rattle.std.specs.List.{AllByRecursion}
use Rattle.std.proofs.Math.Seq.{take-append_seam, drop-append_seam}
use Rattle.stat_defs.specs.Books.{BookHistory}
use Rattle.stat_defs.specs.declared.history.Call.TheVariants as call
use Rattle.stat_defs.specs.declared.history.Entry.{Entry}
use Rattle.stat_defs.specs.declared.history.Reply.TheVariants as reply
use Rattle.seat_history.specs.declared.known.LogKnown.{LogKnown}
use Rattle.seat_history.specs.History.{with_log, known_history}
use Rattle.book_state.specs.Step.{overdue_in}
use Rattle.stat_book.specs.Calls.{state_of}
use Rattle.book_access.specs.Calling.{Calls}
use Rattle.book_access.specs.Making.{IsAsFound}
use Rattle.locked_book.specs.declared.listing.Listing.{Listing}
use Rattle.locked_book.specs.Lists.{Lists, SweepsListed}
use Rattle.run_ledger.specs.Told.{FlushTold}
use Rattle.run_ledger.specs.Accounts.{FlushAccounts}
use Rattle.run_ledger.proofs.Grows.{run_grows}
use Rattle.flusher.specs.Flusher.{rules_by}
use Rattle.admin_side.proofs.Readings.{all-weaker, went-on, config-stays}
use Rattle.flusher.specs.Flusher.{RoundAccounts, begun_by, sweep_of, at_of}

-- the flushes account for the log that the seat knows
abbrev pub AllFlushed : LogKnown → List FlushTold → Type 0
AllFlushed seat flushes = AllByRecursion (FlushAccounts (rules_by seat) seat.workers seat.known false) flushes

-- a seat of the same book, which knows that the log went on
pub record GoesFurther (k k' : LogKnown) : Type 0 where
  pub config : k'.config ≡ k.config
  pub workers : k'.workers ≡ k.workers
  pub more : List Entry
  pub known : k'.known ≡ k.known ++ more

pub still-flushed : (k k' : LogKnown) (flushes : List FlushTold) → GoesFurther k k' → AllFlushed k flushes → AllFlushed k' flushes
still-flushed k k' flushes on all =
    subst (λ (seat : LogKnown). AllFlushed seat flushes) (sym seat_is)
    (all-weaker (FlushAccounts (rules_by k) k.workers k.known false) (FlushAccounts (rules_by k) k.workers (k.known ++ on.more) false)
    (λ flush is. run_grows.flush (rules_by k) k.workers k.known on.more flush is) flushes all) where
      seat_is : k' ≡ record k' { config = k.config; workers = k.workers; known = k.known ++ on.more }
      seat_is = λ i. record k' { config = on.config i; workers = on.workers i; known = on.known i }

pub found-further : (k k' : LogKnown) → Calls IsAsFound k k' → GoesFurther k k'
found-further k k' c = record {
  config = (config-stays k k' c).0;
  workers = (config-stays k k' c).1;
  more = (went-on k k' c).0;
  known = (went-on k k' c).1;
}

-- each flush of a log has a place below the log's length
pub places-below : (k : LogKnown) (n : ℕ) (more : List Entry) (log : List Entry) (flushes : List FlushTold) → log ≡ k.known ++ more → n ≡ length log
    → AllFlushed k flushes → AllByRecursion (λ flush. at_of flush < n) flushes
places-below k n more log flushes goes long all =
    all-weaker (FlushAccounts (rules_by k) k.workers k.known false) (λ flush. at_of flush < n)
    (λ flush is.
    let at = is.at in
    let whole = ap length is.whole ∙ length-append flush.found (flush.sweep ∷ is.behind) in
    let further = ap length goes ∙ length-append k.known more in
    omega (arith, at, whole, further, long)) flushes all

module _ (listing : Listing) (k k' : LogKnown) (c : Calls (SweepsListed listing) k k') where
  -- the entry that the sweep made
  abbrev entry : Entry
  entry = record { seat = k.number; call = call.Sweep; reply = reply.Swept (length (overdue_in (state_of c.found))) }

  last-log : c.last.log ≡ c.found.log ++ entry ∷ []
  last-log = ap (λ (b : BookHistory). b.log) c.makes.step.logged

  swept-known : k'.known ≡ c.found.log ++ entry ∷ []
  swept-known = ap (λ (z : LogKnown). z.known) c.leaves ∙ last-log

  swept-book : c.found ≡ with_log c.found.log (known_history k')
  swept-book = λ i. record {
    config = (c.finds.config ∙ sym (ap (λ (z : LogKnown). z.config) c.leaves)) i;
    workers = (c.finds.workers ∙ sym (ap (λ (z : LogKnown). z.workers) c.leaves)) i;
    log = c.found.log;
  }

  pub swept-further : GoesFurther k k'
  swept-further = record {
    config = ap (λ (z : LogKnown). z.config) c.leaves;
    workers = ap (λ (z : LogKnown). z.workers) c.leaves;
    more = c.finds.log.0 ++ entry ∷ [];
    known = swept-known ∙ (ap (λ (l : List Entry). l ++ entry ∷ []) c.finds.log.1 ∙ append_assoc k.known c.finds.log.0 (entry ∷ []));
  }

  -- the log that the sweep found is the one up to its place
  pub swept-found : take listing.at k'.known ≡ c.found.log
  swept-found =
      ap (λ (n : ℕ). take n k'.known) c.makes.lists.at
      ∙ (ap (λ (l : List Entry). take (length c.found.log) l) swept-known ∙ take-append_seam c.found.log (entry ∷ []))

  swept-entry : k.number ≡ 0 → (begun_by k' listing).sweep ≡ entry
  swept-entry number =
      ap (λ (l : List Entry). sweep_of (with_log l (known_history k'))) swept-found
      ∙ (ap sweep_of (sym swept-book)
      ∙ (λ i. record { seat = sym number i; call = call.Sweep; reply = reply.Swept (length (overdue_in (state_of c.found))) }))

  pub swept-made : k.number ≡ 0 → k'.made ≡ k.made ++ (begun_by k' listing).sweep ∷ []
  swept-made number =
      ap (λ (z : LogKnown). z.made) c.leaves
      ∙ (ap (λ (l : List Entry). k.made ++ drop (length c.found.log) l) last-log
      ∙ (ap (λ (l : List Entry). k.made ++ l) (drop-append_seam c.found.log (entry ∷ []))
      ∙ ap (λ (e : Entry). k.made ++ e ∷ []) (sym (swept-entry number))))

  -- the round that the sweep began
  pub round-begun : (flushes : List FlushTold) → k.number ≡ 0 → AllFlushed k flushes → RoundAccounts k' flushes (begun_by k' listing)
  round-begun flushes number all =
      let begun = begun_by k' listing in record {
        known = swept-known ∙ (ap (λ (l : List Entry). l ++ entry ∷ []) (sym swept-found) ∙ ap (λ (e : Entry). begun.found ++ e ∷ []) (sym (swept-entry number)));
        lists = subst (Lists listing) (swept-book ∙ ap (λ (l : List Entry). with_log l (known_history k')) (sym swept-found)) c.makes.lists;
        sweep = (refl, refl);
        later = places-below k listing.at c.finds.log.0 c.found.log flushes c.finds.log.1 c.makes.lists.at all;
      }
