-- Each step on a cell's word keeps its rule.
use Rattle.std.proofs.Common.{◌≡◌, ℕ, ◌+◌, ◌-◌, ◌%◌, ◌^◌, ◌≤◌, ◌⊎◌, inl, inr, Bool, true, false, List, [], ◌∷◌, ◌++◌, length, get_or, sym, refl, ap, ◌∙◌, subst, arith, Option, Some, None, length-set, get_or-set_same}
use Rattle.std.specs.Prelude.{◌==◌}
use prog.Atomic.{either}
use mathlib.Core.Option.{none, some}
use lib.ListN.{get_elem?}
use Rattle.atomic_table.proofs.Lists.{set_here}
use Rattle.atomic_table.specs.Table.{State, Act, keeps, takes, gives, stepped, homes_after, Allows}
use Rattle.seat_parts.specs.declared.Parts.{Parts}
use Rattle.seat_parts.specs.Parts.{total, led_by}
use Rattle.seat_parts.proofs.Cuts.{step-total, step-beside, own-fits, led-alone}
use Rattle.turn_cell.specs.declared.limits.TheConstants.{MAX_TURNED}
use Rattle.turn_cell.specs.declared.view.Phase.{Phase}
use Rattle.turn_cell.specs.declared.view.Phase.TheVariants.{Idle, Asked, WorkerHolds, Full, FlusherHolds}
use Rattle.turn_cell.specs.declared.view.WorkerStage.{WorkerStage}
use Rattle.turn_cell.specs.declared.view.WorkerStage.TheVariants.{Working, MayTurn, Turning, Departed}
use Rattle.turn_cell.specs.declared.view.FlusherStage.{FlusherStage}
use Rattle.turn_cell.specs.declared.view.FlusherStage.TheVariants.{Resting, Waiting, Found, Alone, Holding}
use Rattle.turn_cell.specs.declared.view.Party.{Party}
use Rattle.turn_cell.specs.declared.view.Party.TheVariants.{Worker, Flusher}
use Rattle.turn_cell.specs.declared.view.TurnKind.TheVariants.{Load, Begin, Give, Leave, Ask, Collect, Return}
use Rattle.turn_cell.specs.declared.view.TurnPart.{TurnPart}
use Rattle.turn_cell.specs.Turned.{word_of, WorkerFits, FlusherFits, SlotFits, worker_weight, flusher_weight, Knows, Turned, own_turn, is_there, can_turn, is_resting, is_waiting}
use Rattle.turn_cell.specs.Steps.{Sat, moved, grown, stage_at, asked_at, ShowsStage, TellsFull, WorkerLoads, FlusherLoads, Asks, Begins, Gives, Collects, Returns, TakesBack, Leaves}
use Rattle.turn_cell.proofs.Fits.{IsThere, there, turner, rester, waiter, worker-loads, may-turn-at, begins, turning-at, leaves, left-alone, resting-at, asks, flusher-loads, found-at, full-word, collects, holding-at, held-word, returns, alone-at, takes-back}
use Rattle.turn_cell.proofs.Fits.{gives as given}
use Rattle.turn_cell.proofs.Seats.{no-step}

-- what a seat holds
module _ {H : Type 0} where
  half-in : H → Option H → H
  half-in d None = d
  half-in d (Some h) = h

  first-half : H → List (ℕ × Option H) → H
  first-half d [] = d
  first-half d (x ∷ xs) = half-in d x.1

  pub same-held : (held : List (ℕ × Option H)) (half other : H) → held ≡ (0, Some half) ∷ [] → held ≡ (0, Some other) ∷ [] → half ≡ other
  unfolding first-half half-in
  same-held held half other e e' = ap (first-half half) (sym e ∙ e')

module _ {H : Type 0} (weighs : H → ℕ) where
  abbrev St : Type 0
  St = State (Option H) (Parts (TurnPart H))

  -- a part that is not the worker's knows nothing that a step of the worker changes, and so for the flusher
  keep-flusher : (w w' : WorkerStage) (t t' : List H) (f : FlusherStage) (d : List H) (party : Party) (halves : List H) → worker_weight party ≡ 0 → Knows w t f d party halves → Knows w' t' f d party halves
  keep-flusher w w' t t' f d (Worker stage) halves z e = absurd (omega arith)
  keep-flusher w w' t t' f d (Flusher stage) halves z e = e

  keep-worker : (w : WorkerStage) (t : List H) (f f' : FlusherStage) (d d' : List H) (party : Party) (halves : List H) → flusher_weight party ≡ 0 → Knows w t f d party halves → Knows w t f' d' party halves
  keep-worker w t f f' d d' (Worker stage) halves z e = e
  keep-worker w t f f' d d' (Flusher stage) halves z e = absurd (omega arith)

  module _ (s : St) (r : Turned weighs s) where
    own-worker : (id : ℕ) (p : TurnPart H) (k : WorkerStage) → get_elem? s.views id ≡ some (led_by p []) → p.party ≡ Worker k → (k ≡ r.worker) × (p.halves ≡ r.turned)
    own-worker id p k at is = subst (λ party. Knows r.worker r.turned r.flusher r.taken party p.halves) is (own-fits (λ (x : TurnPart H). Knows r.worker r.turned r.flusher r.taken x.party x.halves) s.views id p [] at r.parts)

    own-flusher : (id : ℕ) (p : TurnPart H) (k : FlusherStage) → get_elem? s.views id ≡ some (led_by p []) → p.party ≡ Flusher k → (k ≡ r.flusher) × (p.halves ≡ r.taken)
    own-flusher id p k at is = subst (λ party. Knows r.worker r.turned r.flusher r.taken party p.halves) is (own-fits (λ (x : TurnPart H). Knows r.worker r.turned r.flusher r.taken x.party x.halves) s.views id p [] at r.parts)

    -- a step of the worker, whose seat is id, and whose part p becomes q
    worker-steps : (y id : ℕ) (p q : TurnPart H) (k k' : WorkerStage) (c : List (ℕ × Option H)) (a : Act (Option H)) (left : Bool) (phase : Phase)
        → get_elem? s.views id ≡ some (led_by p []) → p.party ≡ Worker k → q.party ≡ Worker k'
        → y ≡ word_of left phase → WorkerFits k' left phase → FlusherFits r.flusher left phase
        → length (homes_after s.homes c a) ≡ 1 → SlotFits weighs phase q.halves r.taken (homes_after s.homes c a) → total weighs q.halves ≤ MAX_TURNED
        → Turned weighs (stepped s 0 y id c (led_by q []) a)
    worker-steps y id p q k k' c a left phase at is is' word wf ff slots slot bound =
        let w = r.wide in
        let hw : worker_weight p.party ≡ 1 = ap worker_weight is in let hw' : worker_weight q.party ≡ 1 = ap worker_weight is' in
        let hf : flusher_weight p.party ≡ 0 = ap flusher_weight is in let hf' : flusher_weight q.party ≡ 0 = ap flusher_weight is' in
        let tw = step-total (λ (x : TurnPart H). worker_weight x.party) s.views id p q [] at in
        let tf = step-total (λ (x : TurnPart H). flusher_weight x.party) s.views id p q [] at in
        let ow = r.one_worker in let of = r.one_flusher in
        record {
          phase = phase;
          left = left;
          worker = k';
          flusher = r.flusher;
          turned = q.halves;
          taken = r.taken;
          wide = length-set s.words 0 y ∙ r.wide;
          slots = slots;
          word = get_or-set_same s.words 0 y 0 (omega arith) ∙ word;
          worker_fits = wf;
          flusher_fits = ff;
          slot = slot;
          bound = bound;
          one_worker = omega arith;
          one_flusher = omega arith;
          parts = step-beside (λ (x : TurnPart H). Knows r.worker r.turned r.flusher r.taken x.party x.halves) (λ (x : TurnPart H). Knows k' q.halves r.flusher r.taken x.party x.halves) s.views id p q [] at
              (λ x e beside. keep-flusher r.worker k' r.turned q.halves r.flusher r.taken x.party x.halves (let b = beside (λ (z : TurnPart H). worker_weight z.party) in omega arith) e)
              r.parts (subst (λ party. Knows k' q.halves r.flusher r.taken party q.halves) (sym is') (refl, refl));
        }

    -- a step of the flusher
    flusher-steps : (y id : ℕ) (p q : TurnPart H) (k k' : FlusherStage) (c : List (ℕ × Option H)) (a : Act (Option H)) (left : Bool) (phase : Phase)
        → get_elem? s.views id ≡ some (led_by p []) → p.party ≡ Flusher k → q.party ≡ Flusher k'
        → y ≡ word_of left phase → WorkerFits r.worker left phase → FlusherFits k' left phase
        → length (homes_after s.homes c a) ≡ 1 → SlotFits weighs phase r.turned q.halves (homes_after s.homes c a)
        → Turned weighs (stepped s 0 y id c (led_by q []) a)
    flusher-steps y id p q k k' c a left phase at is is' word wf ff slots slot =
        let w = r.wide in
        let hw : worker_weight p.party ≡ 0 = ap worker_weight is in let hw' : worker_weight q.party ≡ 0 = ap worker_weight is' in
        let hf : flusher_weight p.party ≡ 1 = ap flusher_weight is in let hf' : flusher_weight q.party ≡ 1 = ap flusher_weight is' in
        let tw = step-total (λ (x : TurnPart H). worker_weight x.party) s.views id p q [] at in
        let tf = step-total (λ (x : TurnPart H). flusher_weight x.party) s.views id p q [] at in
        let ow = r.one_worker in let of = r.one_flusher in
        record {
          phase = phase;
          left = left;
          worker = r.worker;
          flusher = k';
          turned = r.turned;
          taken = q.halves;
          wide = length-set s.words 0 y ∙ r.wide;
          slots = slots;
          word = get_or-set_same s.words 0 y 0 (omega arith) ∙ word;
          worker_fits = wf;
          flusher_fits = ff;
          slot = slot;
          bound = r.bound;
          one_worker = omega arith;
          one_flusher = omega arith;
          parts = step-beside (λ (x : TurnPart H). Knows r.worker r.turned r.flusher r.taken x.party x.halves) (λ (x : TurnPart H). Knows r.worker r.turned k' q.halves x.party x.halves) s.views id p q [] at
              (λ x e beside. keep-worker r.worker r.turned r.flusher k' r.taken q.halves x.party x.halves (let b = beside (λ (z : TurnPart H). flusher_weight z.party) in omega arith) e)
              r.parts (subst (λ party. Knows r.worker r.turned k' q.halves party q.halves) (sym is') (refl, refl));
        }

    -- the phase, where the own stage tells it
    slot-in : (phase : Phase) → r.phase ≡ phase → SlotFits weighs phase r.turned r.taken s.homes
    slot-in phase e = subst (λ (z : Phase). SlotFits weighs z r.turned r.taken s.homes) e r.slot

    flusher-in : (left : Bool) (phase : Phase) → r.left ≡ left → r.phase ≡ phase → FlusherFits r.flusher left phase
    flusher-in left phase a b = subst (λ z. FlusherFits r.flusher z phase) a (subst (λ (z : Phase). FlusherFits r.flusher r.left z) b r.flusher_fits)

    worker-in : (left : Bool) (phase : Phase) → r.left ≡ left → r.phase ≡ phase → WorkerFits r.worker left phase
    worker-in left phase a b = subst (λ z. WorkerFits r.worker z phase) a (subst (λ (z : Phase). WorkerFits r.worker r.left z) b r.worker_fits)

    word-in : (left : Bool) (phase : Phase) → r.left ≡ left → r.phase ≡ phase → get_or s.words 0 0 ≡ word_of left phase
    word-in left phase a b = r.word ∙ (λ i. word_of (a i) (b i))

    -- the worker's steps
    module _ (id : ℕ) (p : TurnPart H) (k : WorkerStage) (at : get_elem? s.views id ≡ some (led_by p [])) (is : p.party ≡ Worker k) where
      own-turned : p.halves ≡ r.turned
      own-turned = (own-worker id p k at is).1

      own-stage : WorkerFits k r.left r.phase
      own-stage = subst (λ z. WorkerFits z r.left r.phase) (sym (own-worker id p k at is).0) r.worker_fits

      own-slot : SlotFits weighs r.phase p.halves r.taken s.homes
      own-slot = subst (λ hs. SlotFits weighs r.phase hs r.taken s.homes) (sym own-turned) r.slot

      own-bound : total weighs p.halves ≤ MAX_TURNED
      own-bound = subst (λ hs. total weighs hs ≤ MAX_TURNED) (sym own-turned) r.bound

      pub worker-loaded : IsThere k → (c : List (ℕ × Option H))
          → Turned weighs (stepped s 0 (get_or s.words 0 0) id c (led_by (moved (Worker (stage_at (get_or s.words 0 0 == 1))) Load (get_or s.words 0 0) p) []) keeps)
      worker-loaded i c = let x : ℕ = get_or s.words 0 0 in
          worker-steps x id p (moved (Worker (stage_at (x == 1))) Load x p) k (stage_at (x == 1)) c keeps r.left r.phase at is refl r.word
          (subst (λ z. WorkerFits (stage_at (z == 1)) r.left r.phase) (sym r.word) (worker-loads k r.left r.phase i own-stage)) r.flusher_fits r.slots own-slot own-bound

      pub worker-left : IsThere k → (c : List (ℕ × Option H))
          → Turned weighs (stepped s 0 ((get_or s.words 0 0 + 8) % 2 ^ 64) id c (led_by (moved (Worker Departed) Leave (get_or s.words 0 0) p) []) keeps)
      worker-left i c = let x : ℕ = get_or s.words 0 0 in let l = leaves k r.left r.phase i own-stage in
          worker-steps ((x + 8) % 2 ^ 64) id p (moved (Worker Departed) Leave x p) k Departed c keeps true r.phase at is refl (ap (λ z. (z + 8) % 2 ^ 64) r.word ∙ l.2)
          l.1 (left-alone r.flusher r.phase (flusher-in false r.phase l.0 refl)) r.slots own-slot own-bound

    module _ (id : ℕ) (p : TurnPart H) (at : get_elem? s.views id ≡ some (led_by p [])) where
      pub begun : p.party ≡ Worker MayTurn
          → (spare : H) × (get_elem? s.homes 0 ≡ some (some (Some spare))) × (weighs spare ≡ 0) × Turned weighs (stepped s 0 2 id [] (led_by (moved (Worker Turning) Begin 1 p) []) (takes 0 (Some spare)))
      begun is = let k : MayTurn ≡ r.worker = (own-worker id p MayTurn at is).0 in let e = may-turn-at r.left r.phase (subst (λ z. WorkerFits z r.left r.phase) (sym k) r.worker_fits) in
          let slot = slot-in Asked e.1 in let own = own-turned id p MayTurn at is in let out = set_here s.homes 0 none (let l = r.slots in omega arith) in (
            slot.0,
            slot.1,
            slot.2,
            worker-steps 2 id p (moved (Worker Turning) Begin 1 p) MayTurn Turning [] (takes 0 (Some slot.0)) false WorkerHolds at is refl refl tt
                (begins r.flusher (flusher-in false Asked e.0 e.1)) (length-set s.homes 0 none ∙ r.slots) (out, own ∙ slot.3) (own-bound id p MayTurn at is),
          )

      pub gave : (half : H) → p.party ≡ Worker Turning → total weighs (p.halves ++ half ∷ []) ≤ MAX_TURNED
          → Turned weighs (stepped s 0 3 id ((0, Some half) ∷ []) (led_by (grown half (Worker Working) Give 2 p) []) gives)
      gave half is bound = let k : Turning ≡ r.worker = (own-worker id p Turning at is).0 in let e = turning-at r.left r.phase (subst (λ z. WorkerFits z r.left r.phase) (sym k) r.worker_fits) in
          let slot = slot-in WorkerHolds e.1 in let own = own-turned id p Turning at is in
          worker-steps 3 id p (grown half (Worker Working) Give 2 p) Turning Working ((0, Some half) ∷ []) gives false Full at is refl refl tt
          (given r.flusher (flusher-in false WorkerHolds e.0 e.1)) (length-set s.homes 0 (some (Some half)) ∙ r.slots)
          (half, set_here s.homes 0 (some (Some half)) (let l = r.slots in omega arith), ap (λ hs. hs ++ half ∷ []) (own ∙ slot.1)) bound

    -- the flusher's steps
    module _ (id : ℕ) (p : TurnPart H) (at : get_elem? s.views id ≡ some (led_by p [])) where
      own-taken : (k : FlusherStage) → p.party ≡ Flusher k → p.halves ≡ r.taken
      own-taken k is = (own-flusher id p k at is).1

      flusher-stage : (k : FlusherStage) → p.party ≡ Flusher k → FlusherFits k r.left r.phase
      flusher-stage k is = subst (λ z. FlusherFits z r.left r.phase) (sym (own-flusher id p k at is).0) r.flusher_fits

      -- a request, by the word found
      abbrev Requested : List (ℕ × Option H) → ℕ → Type 0
      Requested c z = Turned weighs (stepped s 0 (either (z == 0) 1 z) id c (led_by (moved (Flusher (asked_at (z == 0))) Ask z p) []) keeps)

      requests : (left : Bool) → r.left ≡ left → (c : List (ℕ × Option H)) → p.party ≡ Flusher Resting → ((get_or s.words 0 0 ≡ 0) ⊎ (get_or s.words 0 0 ≡ 8)) × Requested c (get_or s.words 0 0)
      requests false l c is = let e = resting-at r.left r.phase (flusher-stage Resting is) in let word = word-in false Idle l e in let slot = slot-in Idle e in let own = own-taken Resting is in (
        inl word,
        subst (Requested c) (sym word) (flusher-steps 1 id p (moved (Flusher Waiting) Ask 0 p) Resting Waiting c keeps false Asked at is refl refl
            (asks r.worker (worker-in false Idle l e)) tt r.slots (slot.0, slot.1, slot.2, slot.3 ∙ sym own)),
      )
      requests true l c is = let e = resting-at r.left r.phase (flusher-stage Resting is) in let word = word-in true Idle l e in let slot = slot-in Idle e in let own = own-taken Resting is in (
        inr word,
        subst (Requested c) (sym word) (flusher-steps 8 id p (moved (Flusher Resting) Ask 8 p) Resting Resting c keeps true Idle at is refl refl
            (worker-in true Idle l e) tt r.slots (slot.0, slot.1, slot.2, slot.3 ∙ sym own)),
      )

      pub requested : (c : List (ℕ × Option H)) → p.party ≡ Flusher Resting → ((get_or s.words 0 0 ≡ 0) ⊎ (get_or s.words 0 0 ≡ 8)) × Requested c (get_or s.words 0 0)
      requested c is = requests r.left refl c is

      pub flusher-loaded : (c : List (ℕ × Option H)) → p.party ≡ Flusher Waiting
          → (stage : FlusherStage) × ShowsStage stage (get_or s.words 0 0) × Turned weighs (stepped s 0 (get_or s.words 0 0) id c (led_by (moved (Flusher stage) Load (get_or s.words 0 0) p) []) keeps)
      flusher-loaded c is = let l = flusher-loads r.worker r.left r.phase r.worker_fits (flusher-stage Waiting is) in (
        l.0,
        subst (λ z. ShowsStage l.0 z) (sym r.word) l.1,
        flusher-steps (get_or s.words 0 0) id p (moved (Flusher l.0) Load (get_or s.words 0 0) p) Waiting l.0 c keeps r.left r.phase at is refl r.word r.worker_fits l.2 r.slots
            (subst (λ hs. SlotFits weighs r.phase r.turned hs s.homes) (sym (own-taken Waiting is)) r.slot),
      )

      pub collected : p.party ≡ Flusher Found
          → (half : H) × (get_elem? s.homes 0 ≡ some (some (Some half))) × TellsFull (get_or s.words 0 0) × (total weighs (p.halves ++ half ∷ []) ≤ MAX_TURNED)
          × Turned weighs (stepped s 0 ((get_or s.words 0 0 + 1) % 2 ^ 64) id [] (led_by (grown half (Flusher Holding) Collect (get_or s.words 0 0) p) []) (takes 0 (Some half)))
      collected is = let e = found-at r.left r.phase (flusher-stage Found is) in let word = word-in r.left Full refl e in let slot = slot-in Full e in let own = own-taken Found is in
          let f = full-word r.left in let x : ℕ = get_or s.words 0 0 in let all : r.turned ≡ p.halves ++ slot.0 ∷ [] = slot.2 ∙ ap (λ hs. hs ++ slot.0 ∷ []) (sym own) in (
            slot.0,
            slot.1,
            subst TellsFull (sym word) f.0,
            subst (λ hs. total weighs hs ≤ MAX_TURNED) all r.bound,
            flusher-steps ((x + 1) % 2 ^ 64) id p (grown slot.0 (Flusher Holding) Collect x p) Found Holding [] (takes 0 (Some slot.0)) r.left FlusherHolds at is refl
                (ap (λ z. (z + 1) % 2 ^ 64) word ∙ f.1) (collects r.left r.worker (worker-in r.left Full refl e)) tt (length-set s.homes 0 none ∙ r.slots) (set_here s.homes 0 none (let l = r.slots in omega arith), all),
          )

      pub returned : (half : H) → p.party ≡ Flusher Holding → weighs half ≡ 0
          → ((get_or s.words 0 0 ≡ 4) ⊎ (get_or s.words 0 0 ≡ 12))
          × Turned weighs (stepped s 0 ((get_or s.words 0 0 + (2 ^ 64 - 4)) % 2 ^ 64) id ((0, Some half) ∷ []) (led_by (moved (Flusher Resting) Return (get_or s.words 0 0) p) []) gives)
      returned half is light = let e = holding-at r.left r.phase (flusher-stage Holding is) in let word = word-in r.left FlusherHolds refl e in let slot = slot-in FlusherHolds e in let own = own-taken Holding is in
          let f = held-word r.left in let x : ℕ = get_or s.words 0 0 in (
            subst (λ z. (z ≡ 4) ⊎ (z ≡ 12)) (sym word) f.0,
            flusher-steps ((x + (2 ^ 64 - 4)) % 2 ^ 64) id p (moved (Flusher Resting) Return x p) Holding Resting ((0, Some half) ∷ []) gives r.left Idle at is refl
                (ap (λ z. (z + (2 ^ 64 - 4)) % 2 ^ 64) word ∙ f.1) (returns r.left r.worker (worker-in r.left FlusherHolds refl e)) tt (length-set s.homes 0 (some (Some half)) ∙ r.slots)
                (half, set_here s.homes 0 (some (Some half)) (let l = r.slots in omega arith), light, slot.1 ∙ sym own),
          )

      pub taken-back : (c : List (ℕ × Option H)) → p.party ≡ Flusher Alone
          → (get_or s.words 0 0 ≡ 9) × Turned weighs (stepped s 0 ((get_or s.words 0 0 + (2 ^ 64 - 1)) % 2 ^ 64) id c (led_by (moved (Flusher Resting) Return (get_or s.words 0 0) p) []) keeps)
      taken-back c is = let e = alone-at r.left r.phase (flusher-stage Alone is) in let word = word-in true Asked e.0 e.1 in let slot = slot-in Asked e.1 in let own = own-taken Alone is in
          let x : ℕ = get_or s.words 0 0 in (
            word,
            flusher-steps ((x + (2 ^ 64 - 1)) % 2 ^ 64) id p (moved (Flusher Resting) Return x p) Alone Resting c keeps true Idle at is refl
                (omega (arith, word)) (takes-back r.worker (worker-in true Asked e.0 e.1)) tt r.slots (slot.0, slot.1, slot.2, slot.3 ∙ sym own),
          )

-- What the table asks of each step, of a seat that has one part.
module _ {H : Type 0} (weighs : H → ℕ) (slots id : ℕ) where
  pub worker-load-allowed : (m : Sat H) → length m.0.parts ≡ 1 → length m.1 ≡ 0 → is_there (own_turn m.0).party ≡ true
      → Allows (Turned weighs) slots id m 0 (λ n. n) (WorkerLoads no-step m)
  worker-load-allowed m a b i = let t = led-alone m a b in let p = t.0 in let k = there p.party (ap (λ (z : Sat H). is_there (own_turn z.0).party) (sym t.1) ∙ i) in
      subst (λ (z : Sat H). Allows (Turned weighs) slots id z 0 (λ n. n) (WorkerLoads no-step z)) (sym t.1)
      (λ s r _ at _. (
        led_by (moved (Worker (stage_at (get_or s.words 0 0 == 1))) Load (get_or s.words 0 0) p) [],
        keeps,
        tt,
        worker-loaded weighs s r id p k.0 at k.1 k.2 [],
        refl,
      ))

  pub leave-allowed : (m : Sat H) → length m.0.parts ≡ 1 → length m.1 ≡ 0 → is_there (own_turn m.0).party ≡ true
      → Allows (Turned weighs) slots id m 0 (λ n. (n + 8) % 2 ^ 64) (Leaves no-step m)
  leave-allowed m a b i = let t = led-alone m a b in let p = t.0 in let k = there p.party (ap (λ (z : Sat H). is_there (own_turn z.0).party) (sym t.1) ∙ i) in
      subst (λ (z : Sat H). Allows (Turned weighs) slots id z 0 (λ n. (n + 8) % 2 ^ 64) (Leaves no-step z)) (sym t.1)
      (λ s r _ at _. (led_by (moved (Worker Departed) Leave (get_or s.words 0 0) p) [], keeps, tt, worker-left weighs s r id p k.0 at k.1 k.2 [], refl))

  pub begin-allowed : (m : Sat H) (told : ℕ) → length m.0.parts ≡ 1 → length m.1 ≡ 0 → can_turn (own_turn m.0).party ≡ true
      → Allows (Turned weighs) slots id m 0 (λ _. 2) (λ _. Begins weighs no-step m told)
  begin-allowed m told a b i = let t = led-alone m a b in let p = t.0 in let k = turner p.party (ap (λ (z : Sat H). can_turn (own_turn z.0).party) (sym t.1) ∙ i) in
      subst (λ (z : Sat H). Allows (Turned weighs) slots id z 0 (λ _. 2) (λ _. Begins weighs no-step z told)) (sym t.1)
      (λ s r _ at _. let b = begun weighs s r id p at k in (led_by (moved (Worker Turning) Begin 1 p) [], takes 0 (Some b.0), b.1, b.3, (b.0, b.2, refl)))

  pub give-allowed : (m : Sat H) (told : ℕ) (half : H) → (p : TurnPart H) → m ≡ (led_by p [], (0, Some half) ∷ []) → p.party ≡ Worker Turning → total weighs (p.halves ++ half ∷ []) ≤ MAX_TURNED
      → Allows (Turned weighs) slots id m 0 (λ _. 3) (λ _. Gives no-step m told)
  give-allowed m told half p e is bound =
      subst (λ (z : Sat H). Allows (Turned weighs) slots id z 0 (λ _. 3) (λ _. Gives no-step z told)) (sym e)
      (λ s r _ at _. (
        led_by (grown half (Worker Working) Give 2 p) [],
        gives,
        tt,
        gave weighs s r id p at half is bound,
        λ other x. ap (λ h. (led_by (grown h (Worker Working) Give 2 p) [], [])) (same-held ((0, Some half) ∷ []) half other refl x),
      ))

  pub request-allowed : (m : Sat H) → length m.0.parts ≡ 1 → length m.1 ≡ 0 → is_resting (own_turn m.0).party ≡ true
      → Allows (Turned weighs) slots id m 0 (λ n. either (n == 0) 1 n) (Asks no-step m)
  request-allowed m a b i = let t = led-alone m a b in let p = t.0 in let k = rester p.party (ap (λ (z : Sat H). is_resting (own_turn z.0).party) (sym t.1) ∙ i) in
      subst (λ (z : Sat H). Allows (Turned weighs) slots id z 0 (λ n. either (n == 0) 1 n) (Asks no-step z)) (sym t.1)
      (λ s r _ at _. let q = requested weighs s r id p at [] k in (led_by (moved (Flusher (asked_at (get_or s.words 0 0 == 0))) Ask (get_or s.words 0 0) p) [], keeps, tt, q.1, (q.0, refl)))

  pub flusher-load-allowed : (m : Sat H) → length m.0.parts ≡ 1 → length m.1 ≡ 0 → is_waiting (own_turn m.0).party ≡ true
      → Allows (Turned weighs) slots id m 0 (λ n. n) (FlusherLoads no-step m)
  flusher-load-allowed m a b i = let t = led-alone m a b in let p = t.0 in let k = waiter p.party (ap (λ (z : Sat H). is_waiting (own_turn z.0).party) (sym t.1) ∙ i) in
      subst (λ (z : Sat H). Allows (Turned weighs) slots id z 0 (λ n. n) (FlusherLoads no-step z)) (sym t.1)
      (λ s r _ at _. let q = flusher-loaded weighs s r id p at [] k in (led_by (moved (Flusher q.0) Load (get_or s.words 0 0) p) [], keeps, tt, q.2, (q.0, q.1, refl)))

  pub collect-allowed : (m : Sat H) (p : TurnPart H) → m ≡ (led_by p [], []) → p.party ≡ Flusher Found
      → Allows (Turned weighs) slots id m 0 (λ n. (n + 1) % 2 ^ 64) (Collects weighs no-step m)
  collect-allowed m p e is =
      subst (λ (z : Sat H). Allows (Turned weighs) slots id z 0 (λ n. (n + 1) % 2 ^ 64) (Collects weighs no-step z)) (sym e)
      (λ s r _ at _. let q = collected weighs s r id p at is in (led_by (grown q.0 (Flusher Holding) Collect (get_or s.words 0 0) p) [], takes 0 (Some q.0), q.1, q.4, (q.0, q.2, refl, q.3)))

  pub return-allowed : (m : Sat H) (p : TurnPart H) (half : H) → m ≡ (led_by p [], (0, Some half) ∷ []) → p.party ≡ Flusher Holding → weighs half ≡ 0
      → Allows (Turned weighs) slots id m 0 (λ n. (n + (2 ^ 64 - 4)) % 2 ^ 64) (Returns no-step m)
  return-allowed m p half e is light =
      subst (λ (z : Sat H). Allows (Turned weighs) slots id z 0 (λ n. (n + (2 ^ 64 - 4)) % 2 ^ 64) (Returns no-step z)) (sym e)
      (λ s r _ at _. let q = returned weighs s r id p at half is light in (led_by (moved (Flusher Resting) Return (get_or s.words 0 0) p) [], gives, tt, q.1, (q.0, refl)))

  pub take-back-allowed : (m : Sat H) (p : TurnPart H) → m ≡ (led_by p [], []) → p.party ≡ Flusher Alone
      → Allows (Turned weighs) slots id m 0 (λ n. (n + (2 ^ 64 - 1)) % 2 ^ 64) (TakesBack no-step m)
  take-back-allowed m p e is =
      subst (λ (z : Sat H). Allows (Turned weighs) slots id z 0 (λ n. (n + (2 ^ 64 - 1)) % 2 ^ 64) (TakesBack no-step z)) (sym e)
      (λ s r _ at _. let q = taken-back weighs s r id p at [] is in (led_by (moved (Flusher Resting) Return (get_or s.words 0 0) p) [], keeps, tt, q.1, (q.0, refl)))
