-- A reader keeps its accounts through each call.
use Rattle.std.proofs.Common.{◌≡◌, ℕ, zero, suc, ◌-◌, ◌<◌, ◌≤◌, List, [], ◌∷◌, ◌++◌, map, length, get_or, refl, ap, sym, ◌∙◌, subst, arith}
use Rattle.std.specs.List.{AllByRecursion, flat_map}
use Rattle.std.specs.List.Sorted.{IsNonDecreasing}
use Rattle.std.proofs.lemmas.List.{map-append}
use Rattle.std.proofs.lemmas.List.Sorted.{IsNonDecreasingBy-push}
use Rattle.atomic_table.specs.Seated.{TableId}
use Rattle.stat_defs.specs.Changes.{NeverFalls, GoesOnLater}
use Rattle.stat_defs.specs.declared.history.Entry.{Entry}
use Rattle.stat_defs.specs.declared.history.NameOp.{NameOp}
use Rattle.stat_defs.specs.declared.reports.ReadRecord.{ReadRecord}
use Rattle.stat_defs.specs.declared.reports.Reading.{Reading}
use Rattle.seat_history.specs.declared.known.LogKnown.{LogKnown}
use Rattle.metric_words.specs.declared.counter_view.CountKind.TheVariants as count
use Rattle.metric_words.specs.declared.gauge_view.GaugeKind.TheVariants as gauge
use Rattle.metric_words.specs.Counters.{step_of}
use Rattle.metric_words.specs.CounterLedger.{CounterKnown, after_step}
use Rattle.metric_words.specs.Gauges.{gauge_step, written}
use Rattle.metric_words.specs.GaugeLedger.{GaugeKnown, after_gauge_step}
use Rattle.name_changes.specs.Changes.{newest}
use Rattle.name_changes.proofs.Cutting.{changes-grow}
use Rattle.book_access.specs.Calling.{Calls}
use Rattle.book_access.specs.Making.{IsAsFound}
use Rattle.book_lock.specs.declared.view.LockPart.{LockPart}
use Rattle.book_lock.specs.History.{Tells}
use Rattle.book_lock.proofs.Standing.{later-not, later-then}
use Rattle.flush_words.specs.Words.{after_loads, after_gauge_loads}
use Rattle.flush_words.proofs.Appending.{loads-write-none}
use Rattle.run_ledger.specs.Told.{words_on, words_read, words_loaded}
use Rattle.run_ledger.specs.Grows.{Loads}
use Rattle.run_ledger.proofs.Grows.{run_grows}
use Rattle.admin_side.specs.Shown.{Shows}
use Rattle.admin_side.specs.Reader.{NamedRead, ReaderKnown, IsReadingOf, ReaderAccounts}
use Rattle.admin_side.specs.Telling.{told_at}

pub are-loads : (rs : List Reading) (k : CounterKnown) → Loads rs k.own.steps (after_loads rs k).own.steps
are-loads [] k = refl
are-loads (r ∷ rs) k = are-loads rs (after_step (step_of count.Load r.id.0 0 r.word) k)

pub loads-bank : (rs : List Reading) (k : CounterKnown) → (after_loads rs k).bank ≡ k.bank
loads-bank [] k = refl
loads-bank (r ∷ rs) k = loads-bank rs (after_step (step_of count.Load r.id.0 0 r.word) k)

pub gauge_loads-bank : (rs : List Reading) (k : GaugeKnown) → (after_gauge_loads rs k).bank ≡ k.bank
gauge_loads-bank [] k = refl
gauge_loads-bank (r ∷ rs) k = gauge_loads-bank rs (after_gauge_step (gauge_step gauge.Load r.id.0 0 r.word) k)

pub gauge_loads-taken : (rs : List Reading) (k : GaugeKnown) → (after_gauge_loads rs k).taken ≡ k.taken
gauge_loads-taken [] k = refl
gauge_loads-taken (r ∷ rs) k = gauge_loads-taken rs (after_gauge_step (gauge_step gauge.Load r.id.0 0 r.word) k)

pub all-push : {A : Type 0} (P : A → Type 0) (xs : List A) (x : A) → P x → AllByRecursion P xs → AllByRecursion P (xs ++ x ∷ [])
all-push P [] x p h = (p, tt)
all-push P (y ∷ xs) x p h = (h.0, all-push P xs x p h.1)

pub all-weaker : {A : Type 0} (P Q : A → Type 0) → ((x : A) → P x → Q x) → (xs : List A) → AllByRecursion P xs → AllByRecursion Q xs
all-weaker P Q to [] h = tt
all-weaker P Q to (x ∷ xs) h = (to x h.0, all-weaker P Q to xs h.1)

-- the log that a seat knows went on, and the book that it found is the one that it knows now
pub went-on : (k k' : LogKnown) → Calls IsAsFound k k' → (more : List Entry) × (k'.known ≡ k.known ++ more)
went-on k k' c = (c.finds.log.0, ap (λ z. z.known) c.leaves ∙ (ap (λ b. b.log) c.makes ∙ c.finds.log.1))

pub config-stays : (k k' : LogKnown) → Calls IsAsFound k k' → (k'.config ≡ k.config) × (k'.workers ≡ k.workers)
config-stays k k' c = (ap (λ z. z.config) c.leaves, ap (λ z. z.workers) c.leaves)

pub same_lock : (k old : ReaderKnown) {id lock : TableId} → k ≡ old → old.lock ≡ id → lock ≡ id → lock ≡ k.lock
same_lock k old same was is = is ∙ sym (ap (λ (z : ReaderKnown). z.lock) same ∙ was)

-- the words of readings, as they are told
pub words-told : (log : List Entry) (id : ℕ) (reads : List NamedRead) → words_read id (map (told_at log) reads) ≡ flat_map (λ read. words_on id read.shown.counters) reads
words-told log id [] = refl
words-told log id (r ∷ reads) = ap (λ (l : List ℕ). words_on id r.shown.counters ++ l) (words-told log id reads)

-- readings of changes that are known, when more are known
still-read : (all all' : List NameOp) (reads : List NamedRead) → GoesOnLater all all' → AllByRecursion (IsReadingOf all) reads → AllByRecursion (IsReadingOf all') reads
still-read all all' reads on each = all-weaker (IsReadingOf all) (IsReadingOf all') (λ read is. record { known = later-then read.names all all' is.known on; shows = is.shows }) reads each

-- a reader that has done nothing
pub reader-new : (k : ReaderKnown) → k.counters.own.steps ≡ [] → k.gauges.own.steps ≡ [] → k.gauges.taken ≡ [] → k.reads ≡ [] → ReaderAccounts k
reader-new k counts levels alone none = record {
  loaded = λ id. ap (words_loaded id) counts ∙ sym (ap (flat_map (λ (read : NamedRead). words_on id read.shown.counters)) none);
  each = subst (AllByRecursion (IsReadingOf k.part.names)) (sym none) tt;
  rise = subst (λ (reads : List NamedRead). IsNonDecreasing (map (λ read. read.shown.at) reads)) (sym none) (λ i j d le lt. absurd (omega (arith, lt)));
  idle = λ id. ap (written id) levels;
  alone = alone;
}

-- a reader that looked, and did nothing else, whatever is known of the lock
pub reader-looked : (k : ReaderKnown) (lock : TableId) (part : LockPart) → GoesOnLater k.part.names part.names → ReaderAccounts k
    → ReaderAccounts (record { lock = lock; part = part; counters = k.counters; gauges = k.gauges; reads = k.reads })
reader-looked k lock part on was = record {
  loaded = was.loaded;
  each = still-read k.part.names part.names k.reads on was.each;
  rise = was.rise;
  idle = was.idle;
  alone = was.alone;
}

abbrev at_of : NamedRead → ℕ
at_of read = read.shown.at

-- no reading is of fewer entries than one of fewer changes
each-below : (all : List NameOp) (reads : List NamedRead) → NeverFalls all → AllByRecursion (IsReadingOf all) reads
    → (i d : ℕ) → i < length (map at_of reads) → get_or (map at_of reads) i d ≤ newest all
each-below all [] rising each i d within = absurd (omega (arith, within))
each-below all (r ∷ reads) rising each zero d within = let at = each.0.shows.at in let le = changes-grow.latest r.names all each.0.known rising in omega (arith, at, le)
each-below all (r ∷ reads) rising each (suc i) d within = each-below all reads rising each.1 i d (omega (arith, within))

rise-more : (all : List NameOp) (reads : List NamedRead) (read : NamedRead) → NeverFalls all → AllByRecursion (IsReadingOf all) reads → at_of read ≡ newest all
    → IsNonDecreasing (map at_of reads) → IsNonDecreasing (map at_of (reads ++ read ∷ []))
rise-more all reads read rising each at rise =
    subst IsNonDecreasing (sym (map-append at_of reads (read ∷ [])))
    (IsNonDecreasingBy-push (λ (n : ℕ). n) (map at_of reads) (at_of read) rise
    (λ d some. let low = each-below all reads rising each (length (map at_of reads) - 1) d (omega (arith, some)) in omega (arith, low, at)))

-- one reading more
pub reader-read : (k : ReaderKnown) (lock : TableId) (part : LockPart) (shown : ReadRecord) → Tells k.part part.names → Shows part.names shown → ReaderAccounts k
    → ReaderAccounts (record {
      lock = lock;
      part = part;
      counters = after_loads shown.counters k.counters;
      gauges = after_gauge_loads shown.gauges k.gauges;
      reads = k.reads ++ record { shown = shown; names = part.names } ∷ [];
    })
reader-read k lock part shown tells shows was =
    let read : NamedRead = record { shown = shown; names = part.names } in
    let earlier = still-read k.part.names part.names k.reads tells.known was.each in record {
      loaded = λ id. run_grows.loads id (map (told_at []) k.reads) (told_at [] read) k.counters.own.steps (after_loads shown.counters k.counters).own.steps
          (was.loaded id ∙ sym (words-told [] id k.reads)) (are-loads shown.counters k.counters)
          ∙ (ap (words_read id) (sym (map-append (told_at []) k.reads (read ∷ []))) ∙ words-told [] id (k.reads ++ read ∷ []));
      each = all-push (IsReadingOf part.names) k.reads read (record { known = later-not part.names; shows = shows }) earlier;
      rise = rise-more part.names k.reads read tells.lawful.rising earlier shows.at was.rise;
      idle = λ id. loads-write-none shown.gauges k.gauges id ∙ was.idle id;
      alone = gauge_loads-taken shown.gauges k.gauges ∙ was.alone;
    }
