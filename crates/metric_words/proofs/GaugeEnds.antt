-- What joined seats of a gauge bank keep, and what its last words are.
use Rattle.std.proofs.Common.{◌≡◌, ℕ, ◌+◌, ◌*◌, ◌<◌, ◌≤◌, List, [], ◌∷◌, ◌++◌, length, map, get_or, sym, refl, ap, ◌∙◌, subst, arith, length-append}
use Rattle.std.specs.List.{flat_map}
use Rattle.std.proofs.lemmas.List.{length-map, append-nil, append_assoc}
use Rattle.std.proofs.lemmas.Grind.{flat_map-append}
use mathlib.Core.Option.{some}
use lib.ListN.{get_elem?}
use Rattle.atomic_table.specs.Table.{Me, Final, Seen}
use Rattle.atomic_table.specs.Seated.{TableId}
use Rattle.seat_parts.specs.Parts.{total, joined}
use Rattle.seat_parts.proofs.Sums.{total-ones, at-or, term-le}
use Rattle.metric_words.specs.declared.gauge_view.GaugePart.{GaugePart}
use Rattle.metric_words.specs.declared.gauge_view.GaugeKey.{GaugeKey}
use Rattle.metric_words.specs.declared.gauge_seats.GaugeSeat.{GaugeSeat}
use Rattle.metric_words.specs.declared.gauge_seats.GaugeSeats.{GaugeSeats}
use Rattle.metric_words.specs.Gauges.{View, IsGaugeWord, Gauged, new_gauge}
use Rattle.metric_words.specs.GaugeLedger.{gauge_known, gauge_part, gauge_all, gauge_parts, AreAllGauges, SameWords, IsGaugeLedger}
use Rattle.metric_words.proofs.Knowing.{known-parts}
use Rattle.metric_words.proofs.GaugeKeeps.{all-steps}
use Rattle.metric_words.proofs.CounterEnds.{place-push}

abbrev Sat : Type 0
Sat = Me (Unit {0}) View

-- a seat whose parts, those of others behind them, were gathered
pub joined-all : (g : GaugeSeat) (w : View) (m : Sat) → m ≡ (joined g.seat.me.0 w, g.seat.me.1) → (m.0.parts ≡ gauge_all g ++ w.parts) × (length m.1 ≡ 0)
joined-all g w m e = (
  ap (λ (z : Sat). z.0.parts) e ∙ ap (λ ps. ps ++ w.parts) (known-parts (new_gauge 0 0) g.seat.table_id g.seat.me g.leads.0),
  ap (λ (z : Sat). length z.1) e ∙ g.leads.1,
)

-- the last of a list of seats goes before the parts that were gathered
pub gathered : (all xs : List GaugeSeat) (g : GaugeSeat) (ps qs : List GaugePart) → all ≡ xs ++ g ∷ [] → qs ≡ gauge_all g ++ ps → flat_map gauge_all xs ++ qs ≡ flat_map gauge_all all ++ ps
gathered all xs g ps qs e is =
    let last : flat_map gauge_all (g ∷ []) ++ ps ≡ gauge_all g ++ ps = ap (λ l. l ++ ps) (append-nil (gauge_all g)) in
    ap (λ l. flat_map gauge_all xs ++ l) (is ∙ sym last) ∙ (sym (append_assoc (flat_map gauge_all xs) (flat_map gauge_all (g ∷ [])) ps)
    ∙ ap (λ l. l ++ ps) (sym (flat_map-append gauge_all xs (g ∷ [])) ∙ ap (flat_map gauge_all) (sym e)))

pub words-push : (n : ℕ) (words copy copy' : List ℕ) (x : ℕ) → SameWords n words copy → copy' ≡ copy ++ x ∷ [] → get_elem? words (8 * n) ≡ some x → SameWords (n + 1) words copy'
words-push n words copy copy' x has e at = (
  ap length e ∙ omega (arith, length-append copy (x ∷ []), has.0),
  place-push (λ k. get_or words (8 * k) 0) copy copy' x n has.0 has.1 e (sym (at-or words (8 * n) x 0 at)),
)

-- a seat with one part has its own alone
one-own : (p : GaugePart) (ps : List GaugePart) → length (p ∷ ps) ≤ 1 → p ∷ ps ≡ p ∷ []
one-own p [] h = refl
one-own p (q ∷ ps) h = absurd (omega arith)

each-leads : (gs : List GaugeSeat) → length gs ≤ length (flat_map gauge_all gs)
each-leads [] = omega arith
each-leads (g ∷ gs) = omega (arith, each-leads gs, length-append (gauge_all g) (flat_map gauge_all gs))

each-own : (gs : List GaugeSeat) → length (flat_map gauge_all gs) ≤ length gs → flat_map gauge_all gs ≡ map gauge_part gs
each-own [] h = refl
each-own (g ∷ gs) h = let a = length-append (gauge_all g) (flat_map gauge_all gs) in let b = each-leads gs in let k = gauge_known g in
    (λ i. one-own k.own k.taken (omega arith) i ++ each-own gs (omega arith) i)

parts-count : (bank : TableId) (workers : ℕ) (s : GaugeSeats) → AreAllGauges bank workers s → workers + 2 ≤ length (gauge_parts s)
parts-count bank workers s all = omega (arith, length-append (gauge_all s.flusher) (map gauge_part s.workers.items ++ gauge_part s.reader ∷ []), length-append (map gauge_part s.workers.items) (gauge_part s.reader ∷ []), length-map s.workers.items gauge_part, all.count)

-- where all seats are given, no worker and no reader took one in
pub all-own : (bank : TableId) (workers : ℕ) (s : GaugeSeats) (ps : List GaugePart) → AreAllGauges bank workers s
    → ps ≡ gauge_all s.flusher ++ (flat_map gauge_all s.workers.items ++ gauge_all s.reader) → length ps ≤ workers + 2 → ps ≡ gauge_parts s
all-own bank workers s ps all is few =
    let f = gauge_all s.flusher in let ws = flat_map gauge_all s.workers.items in let r = gauge_all s.reader in
    let a = length-append f (ws ++ r) in let b = length-append ws r in let n = ap length is in let c = all.count in
    let e = each-leads s.workers.items in let k = gauge_known s.reader in
    is ∙ (λ i. f ++ (each-own s.workers.items (omega arith) i ++ one-own k.own k.taken (omega arith) i))

pub closes : (key : GaugeKey) (id : ℕ) (v : View) (words : List ℕ) (xs : List (Unit {0})) (bank : TableId) (seats : GaugeSeats) (copy : List ℕ)
    → Final (Seen (Gauged key) id v) words xs → AreAllGauges bank key.workers seats → v.parts ≡ gauge_all seats.flusher ++ (flat_map gauge_all seats.workers.items ++ gauge_all seats.reader)
    → SameWords key.size words copy → IsGaugeLedger key.size (gauge_parts seats) copy
closes key id v words xs bank seats copy (s, seen, is, _, _) all parts has =
    let r = seen.0 in let at = seen.1 in let n = r.seats in let ones = total-ones v.parts in
    let few : length v.parts ≤ key.workers + 2 = (let b = term-le (λ (z : View). total (λ (_ : GaugePart). 1) z.parts) s.views id v at in omega arith) in
    let own = all-own bank key.workers seats v.parts all parts few in
    let count : length v.parts ≡ key.workers + 2 = (let c = parts-count bank key.workers seats all in let e = ap length own in omega arith) in
    let same : (k : ℕ) → k < key.size → get_or copy k 0 ≡ get_or s.words (8 * k) 0 = λ k h. has.1 k h ∙ ap (λ ws. get_or ws (8 * k) 0) (sym is) in
    subst (λ ps. IsGaugeLedger key.size ps copy) own record {
      words_length = has.0;
      each = λ k h. subst (λ w. IsGaugeWord k v.parts w) (sym (same k h)) (all-steps key s r id v at count k);
    }
