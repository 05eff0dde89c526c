-- A counter bank begins under its rule, and splits and joins of seats keep it.
use Rattle.std.proofs.Common.{◌≡◌, ℕ, zero, suc, ◌+◌, ◌*◌, ◌^◌, ◌<◌, List, [], ◌∷◌, ◌++◌, length, get_or, set, replicate, sym, refl, ap, ◌∙◌, arith, All}
use Rattle.std.proofs.lemmas.List.{length-replicate}
use Rattle.std.proofs.lemmas.List.Elements.{All-nil, All-cons}
use Rattle.atomic_table.specs.Table.{State, Splits, Joins, opening}
use Rattle.seat_parts.specs.Parts.{total, parts_total, AllParts, dealt, undealt, joined, spent}
use Rattle.seat_parts.proofs.Cuts.{split-total, split-all, join-total, join-all}
use Rattle.metric_words.specs.declared.limits.TheConstants.{MAX_UNITS}
use Rattle.metric_words.specs.declared.counter_view.SeatRole.{SeatRole}
use Rattle.metric_words.specs.declared.counter_view.SeatRole.TheVariants.{Worker, Flusher, Reader}
use Rattle.metric_words.specs.declared.counter_view.CountPart.{CountPart}
use Rattle.metric_words.specs.declared.counter_view.BankKey.{BankKey}
use Rattle.metric_words.specs.Counters.{View, worker_weight, flusher_weight, firsts, seconds, latches, FitsBank, Counted, new_part, later_parts, bank_view}

later-workers : (workers seat n : ℕ) → total (λ (p : CountPart). worker_weight p.role) (later_parts workers seat n) ≡ n
later-workers workers seat zero = refl
later-workers workers seat (suc n) = omega (arith, later-workers workers (suc seat) n)

later-none : (f : CountPart → ℕ) (workers : ℕ) → ((seat : ℕ) → f (new_part Worker workers seat) ≡ 0) → ((seat : ℕ) → f (new_part Reader workers seat) ≡ 0) → (seat n : ℕ) → total f (later_parts workers seat n) ≡ 0
later-none f workers w r seat zero = omega (arith, r seat)
later-none f workers w r seat (suc n) = omega (arith, w seat, later-none f workers w r (suc seat) n)

new-fits : (role : SeatRole) (workers seat : ℕ) (words : List ℕ) → FitsBank workers words (new_part role workers seat)
new-fits role workers seat words = record { knows = refl; kinds = All-nil _; units = λ id. omega arith; ahead = λ id. refl; loads = λ id. tt }

later-fits : (workers seat n : ℕ) (words : List ℕ) → All (FitsBank workers words) (later_parts workers seat n)
later-fits workers seat zero words = All-cons (FitsBank workers words) (new_part Reader workers seat) [] (new-fits Reader workers seat words) (All-nil (FitsBank workers words))
later-fits workers seat (suc n) words = All-cons (FitsBank workers words) (new_part Worker workers seat) (later_parts workers (suc seat) n) (new-fits Worker workers seat words) (later-fits workers (suc seat) n words)

pub zeros-at : (n k : ℕ) → get_or (replicate {A = ℕ} n 0) k 0 ≡ 0
zeros-at zero k = refl
zeros-at (suc n) zero = refl
zeros-at (suc n) (suc k) = zeros-at n k

pub opens : (key : BankKey) (words : List ℕ) → words ≡ replicate (8 * key.size) 0 → key.workers * MAX_UNITS < 2 ^ 64 → Counted key (opening words [] (bank_view key))
opens key words is narrow =
    let none : (f : CountPart → ℕ) → ((role : SeatRole) (seat : ℕ) → f (new_part role key.workers seat) ≡ 0) → parts_total f (bank_view key ∷ []) ≡ 0 =
    λ f z. let a = z Flusher 0 in let b = later-none f key.workers (z Worker) (z Reader) 1 key.workers in omega arith in
    let zero-at : (k : ℕ) → get_or words k 0 ≡ 0 = λ k. ap (λ (l : List ℕ). get_or l k 0) is ∙ zeros-at (8 * key.size) k in
    let all : All (FitsBank key.workers words) (bank_view key).parts = All-cons (FitsBank key.workers words) (new_part Flusher key.workers 0) (later_parts key.workers 1 key.workers) (new-fits Flusher key.workers 0 words) (later-fits key.workers 1 key.workers words) in
    record {
      wide = ap length is ∙ length-replicate (8 * key.size) 0;
      narrow = narrow;
      workers = (let w = later-workers key.workers 1 key.workers in omega arith);
      flusher = (let f = later-none (λ (p : CountPart). flusher_weight p.role) key.workers (λ _. refl) (λ _. refl) 1 key.workers in omega arith);
      value = λ k. (let z = zero-at (8 * k) in let n = none (λ p. firsts k p.steps) (λ _ _. refl) in omega arith);
      pending = λ k. (let z = zero-at (8 * k + 1) in let l = none (λ p. latches k p.steps) (λ _ _. refl) in let n = none (λ p. seconds k p.steps) (λ _ _. refl) in omega arith);
      each = All-cons (λ (v : View). All (FitsBank key.workers words) v.parts) (bank_view key) [] all (All-nil _);
    }

-- views with the same sums keep the rule
regrouped : (key : BankKey) (s : State (Unit {0}) View) (views : List View) → Counted key s
    → ((f : CountPart → ℕ) → parts_total f views ≡ parts_total f s.views) → AllParts (FitsBank key.workers s.words) views
    → Counted key (record { words = s.words; homes = s.homes; views = views })
regrouped key s views r same each =
    record {
      wide = r.wide;
      narrow = r.narrow;
      workers = same (λ p. worker_weight p.role) ∙ r.workers;
      flusher = same (λ p. flusher_weight p.role) ∙ r.flusher;
      value = λ k. r.value k ∙ sym (same (λ p. firsts k p.steps));
      pending = λ k. (let e = r.pending k in let a = same (λ p. latches k p.steps) in let b = same (λ p. seconds k p.steps) in omega arith);
      each = each;
    }

pub splits : (key : BankKey) (id : ℕ) (v : View) → Splits (Counted key) id v (undealt v) (dealt v)
splits key id v s r at =
    regrouped key s (set s.views id (undealt v) ++ dealt v ∷ []) r (λ f. split-total f s.views id v at)
    (split-all (FitsBank key.workers s.words) s.views id v at r.each)

pub joins : (key : BankKey) (id other : ℕ) (v w : View) → Joins (Counted key) id v other w (joined v w) spent
joins key id other v w s r at ne at' =
    regrouped key s (set (set s.views id (joined v w)) other spent) r (λ f. join-total f s.views id other v w at at')
    (join-all (FitsBank key.workers s.words) s.views id other v w at ne at' r.each)
