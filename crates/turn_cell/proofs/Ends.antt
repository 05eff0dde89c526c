-- A cell begins under its rule, a split and a join of seats keep it, and what is left once both parties are back.
use Rattle.std.proofs.Common.{◌≡◌, ℕ, ◌≤◌, Bool, true, false, List, [], ◌∷◌, ◌++◌, length, get_or, set, sym, refl, ap, ◌∙◌, subst, arith, Option, Some, None, append-nil, true≢false}
use Rattle.std.specs.Prelude.{◌==◌}
use Rattle.std.proofs.lemmas.List.Elements.{All-nil, All-cons, All-head, All-tail}
use mathlib.Core.Option.{some, some-injective}
use mathlib.Core.Option.{Option as Maybe}
use lib.ListN.{get_elem?}
use Rattle.atomic_table.specs.Table.{State, Splits, Joins, opening, Final, Seen}
use Rattle.seat_parts.specs.declared.Parts.{Parts}
use Rattle.seat_parts.specs.Parts.{total, parts_total, AllParts, dealt, undealt, joined, spent}
use Rattle.seat_parts.proofs.Sums.{all-at, at-or}
use Rattle.seat_parts.proofs.Cuts.{split-total, split-all, join-total, join-all, one-part}
use Rattle.turn_cell.specs.declared.limits.TheConstants.{MAX_TURNED}
use Rattle.turn_cell.specs.declared.view.Phase.{Phase}
use Rattle.turn_cell.specs.declared.view.Phase.TheVariants.{Idle, Asked, WorkerHolds, Full}
use Rattle.turn_cell.specs.declared.view.WorkerStage.TheVariants.{Working, Departed}
use Rattle.turn_cell.specs.declared.view.FlusherStage.{FlusherStage}
use Rattle.turn_cell.specs.declared.view.FlusherStage.TheVariants.{Resting, Waiting}
use Rattle.turn_cell.specs.declared.view.Party.{Party}
use Rattle.turn_cell.specs.declared.view.Party.TheVariants.{Worker, Flusher}
use Rattle.turn_cell.specs.declared.view.TurnPart.{TurnPart}
use Rattle.turn_cell.specs.Turned.{word_of, WorkerFits, FlusherFits, SlotFits, worker_weight, flusher_weight, Knows, Turned, own_turn, new_turn, turn_view, has_left, has_no_slot, is_resting}
use Rattle.turn_cell.specs.Answers.{full_one}
use Rattle.turn_cell.proofs.Fits.{leaver}

module _ {H : Type 0} (weighs : H → ℕ) where
  abbrev St : Type 0
  St = State (Option H) (Parts (TurnPart H))

  abbrev KnownPart : {s : St} → Turned weighs s → TurnPart H → Type 0
  KnownPart r p = Knows r.worker r.turned r.flusher r.taken p.party p.halves

  pub opens : (spare : H) (slots : List (Option H)) → weighs spare ≡ 0 → slots ≡ Some spare ∷ [] → Turned weighs (opening (0 ∷ []) slots turn_view)
  opens spare slots light is = subst (λ xs. Turned weighs (opening (0 ∷ []) xs turn_view)) (sym is) record {
    phase = Idle;
    left = false;
    worker = Working;
    flusher = Resting;
    turned = [];
    taken = [];
    wide = refl;
    slots = refl;
    word = refl;
    worker_fits = tt;
    flusher_fits = tt;
    slot = (spare, refl, light, refl);
    bound = omega arith;
    one_worker = omega arith;
    one_flusher = omega arith;
    parts = (let F : TurnPart H → Type 0 = λ p. Knows Working [] Resting [] p.party p.halves in
        let own = All-cons F (new_turn (Flusher Resting)) (new_turn (Worker Working) ∷ []) (refl, refl) (All-cons F (new_turn (Worker Working)) [] (refl, refl) (All-nil F)) in
        All-cons (λ (v : Parts (TurnPart H)). Rattle.std.proofs.Common.All F v.parts) turn_view [] own (All-nil (λ (v : Parts (TurnPart H)). Rattle.std.proofs.Common.All F v.parts)));
  }

  -- views with the same sums and parts keep the rule
  regrouped : (s : St) (views : List (Parts (TurnPart H))) → (r : Turned weighs s) → ((f : TurnPart H → ℕ) → parts_total f views ≡ parts_total f s.views) → AllParts (KnownPart r) views
      → Turned weighs (record { words = s.words; homes = s.homes; views = views })
  regrouped s views r same parts =
      let w = same (λ p. worker_weight p.party) in let f = same (λ p. flusher_weight p.party) in let ow = r.one_worker in let of = r.one_flusher in record {
        phase = r.phase;
        left = r.left;
        worker = r.worker;
        flusher = r.flusher;
        turned = r.turned;
        taken = r.taken;
        wide = r.wide;
        slots = r.slots;
        word = r.word;
        worker_fits = r.worker_fits;
        flusher_fits = r.flusher_fits;
        slot = r.slot;
        bound = r.bound;
        one_worker = omega arith;
        one_flusher = omega arith;
        parts = parts;
      }

  pub splits : (id : ℕ) (v : Parts (TurnPart H)) → Splits (Turned weighs) id v (undealt v) (dealt v)
  splits id v s r at = regrouped s (set s.views id (undealt v) ++ dealt v ∷ []) r (λ f. split-total f s.views id v at) (split-all (KnownPart r) s.views id v at r.parts)

  pub joins : (id other : ℕ) (v w : Parts (TurnPart H)) → Joins (Turned weighs) id v other w (joined v w) spent
  joins id other v w s r at ne at' = regrouped s (set (set s.views id (joined v w)) other spent) r (λ f. join-total f s.views id other v w at at') (join-all (KnownPart r) s.views id other v w at ne at' r.parts)

  -- the slot's half, by the last word
  abbrev pub Last : List H → List H → ℕ → H → Type 0
  Last turned taken word half = (turned ≡ taken ++ full_one (word == 11) half) × ((word == 11) ≡ false → weighs half ≡ 0)

  abbrev HasLast : List H → List H → ℕ → List (Maybe (Option H)) → Type 0
  HasLast turned taken word homes = (half : H) × (get_elem? homes 0 ≡ some (some (Some half))) × Last turned taken word half

  last-of : (stage : FlusherStage) (left : Bool) (phase : Phase) (turned taken : List H) (homes : List (Maybe (Option H))) → has_no_slot (Flusher stage) ≡ true
      → WorkerFits Departed left phase → FlusherFits stage left phase → SlotFits weighs phase turned taken homes → HasLast turned taken (word_of left phase) homes
  last-of Resting true Idle turned taken homes n w f slot = (slot.0, slot.1, (slot.3 ∙ sym (append-nil taken), λ _. slot.2))
  last-of Waiting true Asked turned taken homes n w f slot = (slot.0, slot.1, (slot.3 ∙ sym (append-nil taken), λ _. slot.2))
  last-of Waiting true Full turned taken homes n w f slot = (slot.0, slot.1, (slot.2, λ e. absurd (true≢false e)))
  last-of Waiting true WorkerHolds turned taken homes n w f slot = absurd w
  last-of Waiting false phase turned taken homes n w f slot = absurd w
  last-of Resting false phase turned taken homes n w f slot = absurd w
  last-of Resting left phase turned taken homes n w f slot = absurd f
  last-of Waiting left phase turned taken homes n w f slot = absurd f
  last-of stage left phase turned taken homes n w f slot = absurd (true≢false (sym n))

  party-of : (party : Party) → has_no_slot party ≡ true → (stage : FlusherStage) × (party ≡ Flusher stage)
  party-of (Flusher stage) e = (stage, refl)
  party-of (Worker stage) e = absurd (true≢false (sym e))

  resting-of : (party : Party) → is_resting party ≡ true → party ≡ Flusher Resting
  resting-of (Flusher Resting) e = refl
  resting-of party e = absurd (true≢false (sym e))

  idle-word : (left : Bool) (phase : Phase) → WorkerFits Departed left phase → FlusherFits Resting left phase → (word_of left phase == 11) ≡ false
  idle-word true Idle w f = refl
  idle-word false phase w f = absurd w
  idle-word left phase w f = absurd f

  module _ (s : St) (r : Turned weighs s) (id : ℕ) (p q : TurnPart H) (at : get_elem? s.views id ≡ some (record { parts = p ∷ q ∷ [] })) where
    both-known : KnownPart r p × KnownPart r q
    both-known = let own = all-at (λ (v : Parts (TurnPart H)). Rattle.std.proofs.Common.All (KnownPart r) v.parts) s.views id (record { parts = p ∷ q ∷ [] }) r.parts at in
        (All-head (KnownPart r) p (q ∷ []) own, All-head (KnownPart r) q [] (All-tail (KnownPart r) p (q ∷ []) own))

    pub ends : has_left p.party ≡ true → has_no_slot q.party ≡ true → HasLast p.halves q.halves (get_or s.words 0 0) s.homes × (total weighs p.halves ≤ MAX_TURNED)
    ends l n =
        let a : (Departed ≡ r.worker) × (p.halves ≡ r.turned) = subst (λ party. Knows r.worker r.turned r.flusher r.taken party p.halves) (leaver p.party l) both-known.0 in
        let t = party-of q.party n in let b : (t.0 ≡ r.flusher) × (q.halves ≡ r.taken) = subst (λ party. Knows r.worker r.turned r.flusher r.taken party q.halves) t.1 both-known.1 in
        let last = last-of t.0 r.left r.phase r.turned r.taken s.homes (ap has_no_slot (sym t.1) ∙ n)
        (subst (λ k. WorkerFits k r.left r.phase) (sym a.0) r.worker_fits) (subst (λ k. FlusherFits k r.left r.phase) (sym b.0) r.flusher_fits) r.slot in (
          subst (λ hs. HasLast hs q.halves (get_or s.words 0 0) s.homes) (sym a.1) (subst (λ hs. HasLast r.turned hs (get_or s.words 0 0) s.homes) (sym b.1) (subst (λ w. HasLast r.turned r.taken w s.homes) (sym r.word) last)),
          subst (λ hs. total weighs hs ≤ MAX_TURNED) (sym a.1) r.bound,
        )

    -- a flusher that rests leaves no full half
    pub idle-ends : has_left p.party ≡ true → is_resting q.party ≡ true → (get_or s.words 0 0 == 11) ≡ false
    idle-ends l n =
        let a : (Departed ≡ r.worker) × (p.halves ≡ r.turned) = subst (λ party. Knows r.worker r.turned r.flusher r.taken party p.halves) (leaver p.party l) both-known.0 in
        let b : (Resting ≡ r.flusher) × (q.halves ≡ r.taken) = subst (λ party. Knows r.worker r.turned r.flusher r.taken party q.halves) (resting-of q.party n) both-known.1 in
        subst (λ w. (w == 11) ≡ false) (sym r.word) (idle-word r.left r.phase (subst (λ k. WorkerFits k r.left r.phase) (sym a.0) r.worker_fits) (subst (λ k. FlusherFits k r.left r.phase) (sym b.0) r.flusher_fits))

  own-only : (v : Parts (TurnPart H)) → length v.parts ≡ 1 → v.parts ≡ own_turn v ∷ []
  own-only v a = one-part (new_turn (Worker Working)) v.parts a

  pub closes : (id : ℕ) (v w : Parts (TurnPart H)) (z : Parts (TurnPart H)) (words : List ℕ) (xs : List (Option H)) (word : ℕ) → Final (Seen (Turned weighs) id z) words xs → z ≡ joined v w
      → length v.parts ≡ 1 → length w.parts ≡ 1 → has_left (own_turn v).party ≡ true → has_no_slot (own_turn w).party ≡ true → get_elem? words 0 ≡ some word
      → (half : H) × (get_elem? xs 0 ≡ some (Some half)) × Last (own_turn v).halves (own_turn w).halves word half × (total weighs (own_turn v).halves ≤ MAX_TURNED)
  closes id v w z words xs word (s, seen, is, _, homes) e a b l n at =
      let view : z ≡ record { parts = own_turn v ∷ own_turn w ∷ [] } = e ∙ (λ i. record { parts = own-only v a i ++ own-only w b i }) in
      let t = ends s seen.0 id (own_turn v) (own_turn w) (seen.1 ∙ ap some view) l n in let h = t.0 in
      let same : get_or s.words 0 0 ≡ word = ap (λ ws. get_or ws 0 0) is ∙ at-or words 0 word 0 at in
      (h.0, homes 0 (Some h.0) h.1, subst (λ k. Last (own_turn v).halves (own_turn w).halves k h.0) same h.2, t.1)

  pub closes-idle : (id : ℕ) (v w : Parts (TurnPart H)) (z : Parts (TurnPart H)) (words : List ℕ) (xs : List (Option H)) (word : ℕ) → Final (Seen (Turned weighs) id z) words xs → z ≡ joined v w
      → length v.parts ≡ 1 → length w.parts ≡ 1 → has_left (own_turn v).party ≡ true → is_resting (own_turn w).party ≡ true → get_elem? words 0 ≡ some word → (word == 11) ≡ false
  closes-idle id v w z words xs word (s, seen, is, _, _) e a b l n at =
      let view : z ≡ record { parts = own_turn v ∷ own_turn w ∷ [] } = e ∙ (λ i. record { parts = own-only v a i ++ own-only w b i }) in
      let same : get_or s.words 0 0 ≡ word = ap (λ ws. get_or ws 0 0) is ∙ at-or words 0 word 0 at in
      subst (λ k. (k == 11) ≡ false) same (idle-ends s seen.0 id (own_turn v) (own_turn w) (seen.1 ∙ ap some view) l n)

  half-of : H → Option H → H
  half-of d None = d
  half-of d (Some h) = h

  -- the half that is taken out of the table's memory is the slot's
  pub out-of : (turned taken taken' : List H) (word : ℕ) (half out : H) (found : Option H) (xs : List (Option H)) → get_elem? xs 0 ≡ some (Some half) → get_elem? xs 0 ≡ some found → found ≡ Some out
      → taken ≡ taken' → Last turned taken word half → Last turned taken' word out
  unfolding half-of
  out-of turned taken taken' word half out found xs at at' is same last =
      let e : half ≡ out = ap (half-of half) (some-injective (Some half) found (sym at ∙ at') ∙ is) in
      subst (λ h. Last turned taken' word h) e (subst (λ hs. Last turned hs word half) same last)
