-- A legal log opens each scope once, and releases it once at most.
use Rattle.std.proofs.Common.{◌≡◌, ◌≢◌, ◌&&◌, ◌+◌, ◌<◌, ◌≤◌, ℕ, zero, suc, cond, Bool, true, false, Option, None, Some, List, [], ◌∷◌, ◌++◌, length, slice_get, refl, ap, sym, ◌∙◌, arith, inl, inr, ◌⊎◌}
use Rattle.std.specs.Prelude.{count_by, option_map}
use Rattle.std.specs.Option.{option_map_or}
use Rattle.std.specs.List.{flat_map}
use Rattle.std.proofs.lemmas.Bool.Decides.{eqb_tells}
use Rattle.std.proofs.lemmas.List.{length-append}
use Rattle.std.proofs.lemmas.List.Sums.{sum_by-cons}
use Rattle.stat_defs.specs.declared.events.Event.{Event}
use Rattle.stat_defs.specs.declared.events.Key.{Key}
use Rattle.stat_defs.specs.declared.history.Call.{Call}
use Rattle.stat_defs.specs.declared.history.Call.TheVariants as call
use Rattle.stat_defs.specs.declared.history.Reply.{Reply}
use Rattle.stat_defs.specs.declared.history.Reply.TheVariants as reply
use Rattle.stat_defs.specs.declared.history.Entry.{Entry}
use Rattle.stat_defs.specs.declared.history.Verdict.{Verdict}
use Rattle.stat_defs.specs.declared.history.Verdict.TheVariants as verdict
use Rattle.stat_defs.specs.Keys.{same_text}
use Rattle.book_state.specs.State.{NameRules, Scope, Seat, State, live_scope}
use Rattle.book_state.specs.Finding.{Outcome, NoScope, Rejected, Known, NoRoom, OverLimit, New, outcome}
use Rattle.book_state.specs.Step.{effect, Allowed, Tells, change_at, closed, is_live, on_seat, acknowledged, ended}
use Rattle.book_state.specs.Log.{empty, Run}
use Rattle.book_state.specs.Follows.{verdict_of}
use Rattle.book_state.proofs.Lists.{both, true_false, get_push_before, get_change_same, get_change_other, length-change_at, position_found}
use Rattle.ledger.specs.Work.{Work, work_of, verdicts_in, apart}
use Rattle.ledger.proofs.Lists.{nil_cons, head_same, tail_same, both_appended}
use Rattle.ledger.proofs.WorkLists.{lengths, zip_verdicts}
use Rattle.ledger.specs.Once.{is_opening_of, is_release_of, LedgersHaveScopesOnce}
use Rattle.ledger.proofs.TellingEntries.{may_hold, tells, told_in, verdicts_told}

opening_not_held : (id : ℕ) (v : Verdict) → may_hold v → is_opening_of id v ≡ false
opening_not_held id (verdict.Accepted given) may = refl
opening_not_held id verdict.Rejected may = refl
opening_not_held id (verdict.Opened given) may = absurd may
opening_not_held id (verdict.Released given) may = absurd may
opening_not_held id verdict.LabelTaken may = absurd may
opening_not_held id verdict.NoScope may = absurd may
opening_not_held id verdict.OverLimit may = absurd may
opening_not_held id verdict.NoRoom may = absurd may

release_not_held : (id : ℕ) (v : Verdict) → may_hold v → is_release_of id v ≡ false
release_not_held id (verdict.Accepted given) may = refl
release_not_held id verdict.Rejected may = refl
release_not_held id (verdict.Opened given) may = absurd may
release_not_held id (verdict.Released given) may = absurd may
release_not_held id verdict.LabelTaken may = absurd may
release_not_held id verdict.NoScope may = absurd may
release_not_held id verdict.OverLimit may = absurd may
release_not_held id verdict.NoRoom may = absurd may

abbrev opens : ℕ → Reply → Bool
opens id r = tells (is_opening_of id) (opening_not_held id) r

abbrev releases : ℕ → Reply → Bool
releases id r = tells (is_release_of id) (release_not_held id) r

seat_scopes : (f : Seat → Seat) (by : ℕ) (s : State) → (on_seat f by s).scopes ≡ s.scopes
seat_scopes f zero s = refl
seat_scopes f (suc at) s = refl

-- what an allowed entry does to the scopes: it opens the next one, releases a live one, or leaves them
abbrev Changes : State → Reply → State → Type 0
Changes s r t =
    ((id : ℕ) × (scope : Scope) × (verdict_of r ≡ Some (verdict.Opened (record { 0 = id }))) × (id ≡ length s.scopes) × (t.scopes ≡ s.scopes ++ scope ∷ []))
    ⊎ (((id : ℕ) × (verdict_of r ≡ Some (verdict.Released (record { 0 = id }))) × (is_live s.scopes id ≡ true) × (t.scopes ≡ change_at closed id s.scopes))
    ⊎ ((t.scopes ≡ s.scopes) × ((id : ℕ) → (opens id r ≡ false) × (releases id r ≡ false))))

is_live_at : (s : State) (label : List ℕ) (id : ℕ) → live_scope s label ≡ Some id → is_live s.scopes id ≡ true
is_live_at s label id found =
    let at = position_found (λ (scope : Scope). scope.live && same_text scope.label label) 0 s.scopes id found in
    let place : id ≡ at.0 = let e = at.2 in omega (arith, e) in
    ap (λ (k : ℕ). is_live s.scopes k) place
    ∙ ap (λ (o : Option Scope). option_map_or (λ (scope : Scope). scope.live) o false) at.3
    ∙ (both at.1.live (same_text at.1.label label) at.4).0

other : (s t : State) (r : Reply) → t.scopes ≡ s.scopes → ((id : ℕ) → (opens id r ≡ false) × (releases id r ≡ false)) → Changes s r t
other s t r same none = inr (inr (same, none))

-- no reply to a find opens or releases a scope
none_told : (s : State) (key : Key) (o : Outcome) (r : Reply) → Tells s key o r → (id : ℕ) → (opens id r ≡ false) × (releases id r ≡ false)
none_told s key NoScope (reply.Opened x) is id = absurd is
none_told s key Rejected (reply.Opened x) is id = absurd is
none_told s key (Known k) (reply.Opened x) is id = absurd is
none_told s key NoRoom (reply.Opened x) is id = absurd is
none_told s key OverLimit (reply.Opened x) is id = absurd is
none_told s key New (reply.Opened x) is id = absurd is
none_told s key NoScope (reply.Released x) is id = absurd is
none_told s key Rejected (reply.Released x) is id = absurd is
none_told s key (Known k) (reply.Released x) is id = absurd is
none_told s key NoRoom (reply.Released x) is id = absurd is
none_told s key OverLimit (reply.Released x) is id = absurd is
none_told s key New (reply.Released x) is id = absurd is
none_told s key o _ is id = (refl, refl)

closed_now : (scopes : List Scope) (id : ℕ) → is_live (change_at closed id scopes) id ≡ false
closed_now scopes id = ap (λ (o : Option Scope). option_map_or (λ (scope : Scope). scope.live) o false) (get_change_same closed id scopes) ∙ none (slice_get scopes id) where
  none : (o : Option Scope) → option_map_or (λ (scope : Scope). scope.live) (option_map closed o) false ≡ false
  none None = refl
  none (Some scope) = refl

within : (scopes : List Scope) (id : ℕ) → is_live scopes id ≡ true → id < length scopes
within [] id live = absurd (true_false (sym live))
within (x ∷ scopes) zero live = omega arith
within (x ∷ scopes) (suc id) live = let rest = within scopes id live in omega (arith, rest)

pushed : (scopes : List Scope) (x : Scope) (id : ℕ) → id < length scopes → is_live (scopes ++ x ∷ []) id ≡ is_live scopes id
pushed scopes x id low = ap (λ (o : Option Scope). option_map_or (λ (scope : Scope). scope.live) o false) (get_push_before scopes x id (λ e. omega (arith, low, e)))

elsewhere : (scopes : List Scope) (k id : ℕ) → id ≢ k → is_live (change_at closed k scopes) id ≡ is_live scopes id
elsewhere scopes k id apart = ap (λ (o : Option Scope). option_map_or (λ (scope : Scope). scope.live) o false) (get_change_other closed k scopes id apart)

module _ (rules : NameRules) where
  find_scopes : (by : ℕ) (key : Key) (r : Reply) (s : State) → (effect rules by (call.Find key) r s).scopes ≡ s.scopes
  find_scopes by key (reply.Made id numbers) s = seat_scopes _ by _
  find_scopes by key (reply.Found id) s = seat_scopes _ by _
  find_scopes by key reply.Rejected s = seat_scopes _ by s
  find_scopes by key _ s = refl

  changes : (by : ℕ) (c : Call) (r : Reply) (s : State) → Allowed rules by c r s → Changes s r (effect rules by c r s)
  changes by (call.OpenScope label prefix) (reply.Opened id) s is = inl (id.0, record { label = label; prefix = prefix; live = true }, refl, is.2, refl)
  changes by (call.OpenScope label prefix) reply.LabelTaken s is = inr (inr (refl, λ id. (refl, refl)))
  changes by (call.Release label) (reply.Released id) s is = inr (inl (id.0, refl, is_live_at s label id.0 is.1, refl))
  changes by (call.Release label) reply.NoScope s is = inr (inr (refl, λ id. (refl, refl)))
  changes by (call.Find key) r s is = inr (inr (find_scopes by key r s, none_told s key (outcome rules s key) r is.1))
  changes by (call.SetText id text) reply.TextSet s is = inr (inr (refl, λ id. (refl, refl)))
  changes by call.Ack (reply.Acked tag) s is = inr (inr (seat_scopes (acknowledged s.scopes tag) by s, λ id. (refl, refl)))
  changes by call.Sweep (reply.Swept n) s is = inr (inr (refl, λ id. (refl, refl)))
  changes by call.End reply.Ended s is = inr (inr (seat_scopes ended by s, λ id. (refl, refl)))
  changes by _ _ s is = absurd is

  abbrev opened_in : ℕ → List Entry → ℕ
  opened_in id log = told_in (is_opening_of id) (opening_not_held id) log

  abbrev released_in : ℕ → List Entry → ℕ
  released_in id log = told_in (is_release_of id) (release_not_held id) log

  telling : (test : Verdict → Bool) (r : Reply) (v : Verdict) → verdict_of r ≡ Some v → option_map_or test (verdict_of r) false ≡ test v
  telling test r v is = ap (λ (o : Option Verdict). option_map_or test o false) is

  opened_elsewhere : (id : ℕ) (s t : State) (r : Reply)
      → ((k : ℕ) × (verdict_of r ≡ Some (verdict.Released (record { 0 = k }))) × (is_live s.scopes k ≡ true) × (t.scopes ≡ change_at closed k s.scopes))
      ⊎ ((t.scopes ≡ s.scopes) × ((k : ℕ) → (opens k r ≡ false) × (releases k r ≡ false)))
      → (opens id r ≡ false) × (length t.scopes ≡ length s.scopes)
  opened_elsewhere id s t r (inl gone) = (telling (is_opening_of id) r (verdict.Released (record { 0 = gone.0 })) gone.1, ap length gone.3 ∙ length-change_at closed gone.0 s.scopes)
  opened_elsewhere id s t r (inr none) = ((none.1 id).0, ap length none.0)

  opened_once : (id : ℕ) (s : State) (log : List Entry) → Run rules s log → (opened_in id log ≤ 1) × (id < length s.scopes → opened_in id log ≡ 0)
  opened_once id s [] run = (omega arith, λ low. refl)
  opened_once id s (e ∷ log) run =
      let next : State = effect rules e.seat e.call e.reply s in
      let rest = opened_once id next log run.1 in
      let whole = sum_by-cons (λ (x : Entry). cond (opens id x.reply) 1 0) e log in
      elim (changes e.seat e.call e.reply s run.0) [
        | inl new ↦
            let longer = length-append s.scopes (new.1 ∷ []) in
            let now : length next.scopes ≡ length s.scopes + 1 = ap length new.4 ∙ longer in
            let at = new.3 in
            let tells_here = telling (is_opening_of id) e.reply (verdict.Opened (record { 0 = new.0 })) new.2 in
            elim (eqb_tells new.0 id) [
              | inl is ↦
                  let same = is.1 in
                  let none = rest.1 (omega (arith, same, at, now)) in
                  let one : ◌≡◌ {A = ℕ} (cond (opens id e.reply) 1 0) 1 = ap (λ (t : Bool). cond t 1 0) (tells_here ∙ is.0) in
                  (omega (arith, whole, one, none), λ low. absurd (omega (arith, low, same, at)))
              | inr is ↦
                  let none : ◌≡◌ {A = ℕ} (cond (opens id e.reply) 1 0) 0 = ap (λ (t : Bool). cond t 1 0) (tells_here ∙ is.0) in
                  let few = rest.0 in
                  (omega (arith, whole, none, few), λ low. let zeros = rest.1 (omega (arith, low, now)) in omega (arith, whole, none, zeros))
            ]
        | inr left ↦
            let few = rest.0 in
            let quiet = opened_elsewhere id s next e.reply left in
            let none : ◌≡◌ {A = ℕ} (cond (opens id e.reply) 1 0) 0 = ap (λ (t : Bool). cond t 1 0) quiet.0 in
            let same = quiet.1 in
            (omega (arith, whole, none, few), λ low. let zeros = rest.1 (omega (arith, low, same)) in omega (arith, whole, none, zeros))
      ]

  released_once : (id : ℕ) (s : State) (log : List Entry) → Run rules s log → (released_in id log ≤ 1) × (id < length s.scopes → is_live s.scopes id ≡ false → released_in id log ≡ 0)
  released_once id s [] run = (omega arith, λ low dead. refl)
  released_once id s (e ∷ log) run =
      let next : State = effect rules e.seat e.call e.reply s in
      let rest = released_once id next log run.1 in
      let whole = sum_by-cons (λ (x : Entry). cond (releases id x.reply) 1 0) e log in
      let few = rest.0 in
      elim (changes e.seat e.call e.reply s run.0) [
        | inl new ↦
            let longer = length-append s.scopes (new.1 ∷ []) in
            let now : length next.scopes ≡ length s.scopes + 1 = ap length new.4 ∙ longer in
            let none : ◌≡◌ {A = ℕ} (cond (releases id e.reply) 1 0) 0 = ap (λ (t : Bool). cond t 1 0) (telling (is_release_of id) e.reply (verdict.Opened (record { 0 = new.0 })) new.2) in (
              omega (arith, whole, none, few),
              λ low dead.
                  let zeros = rest.1 (omega (arith, low, now)) (ap (λ (l : List Scope). is_live l id) new.4 ∙ pushed s.scopes new.1 id low ∙ dead) in
                  omega (arith, whole, none, zeros),
            )
        | inr (inl gone) ↦
            let now : length next.scopes ≡ length s.scopes = ap length gone.3 ∙ length-change_at closed gone.0 s.scopes in
            let tells_here = telling (is_release_of id) e.reply (verdict.Released (record { 0 = gone.0 })) gone.1 in
            elim (eqb_tells gone.0 id) [
              | inl is ↦
                  let live : is_live s.scopes id ≡ true = ap (λ (k : ℕ). is_live s.scopes k) (sym is.1) ∙ gone.2 in
                  let low = within s.scopes id live in
                  let dead : is_live next.scopes id ≡ false = ap (λ (l : List Scope). is_live l id) gone.3 ∙ ap (λ (k : ℕ). is_live (change_at closed k s.scopes) id) is.1 ∙ closed_now s.scopes id in
                  let none = rest.1 (omega (arith, low, now)) dead in
                  let one : ◌≡◌ {A = ℕ} (cond (releases id e.reply) 1 0) 1 = ap (λ (t : Bool). cond t 1 0) (tells_here ∙ is.0) in
                  (omega (arith, whole, one, none), λ below was_dead. absurd (true_false (sym live ∙ was_dead)))
              | inr is ↦
                  let none : ◌≡◌ {A = ℕ} (cond (releases id e.reply) 1 0) 0 = ap (λ (t : Bool). cond t 1 0) (tells_here ∙ is.0) in (
                    omega (arith, whole, none, few),
                    λ low dead.
                        let zeros = rest.1 (omega (arith, low, now)) (ap (λ (l : List Scope). is_live l id) gone.3 ∙ elsewhere s.scopes gone.0 id (λ same. is.1 (sym same)) ∙ dead) in
                        omega (arith, whole, none, zeros),
                  )
            ]
        | inr (inr same) ↦
            let none : ◌≡◌ {A = ℕ} (cond (releases id e.reply) 1 0) 0 = ap (λ (t : Bool). cond t 1 0) (same.1 id).1 in
            let now = ap length same.0 in (
              omega (arith, whole, none, few),
              λ low dead. let zeros = rest.1 (omega (arith, low, now)) (ap (λ (l : List Scope). is_live l id) same.0 ∙ dead) in omega (arith, whole, none, zeros),
            )
      ]

-- the verdicts of the workers are those of the files
verdicts_back : (events : List (List Event)) (verdicts : List (List Verdict)) → lengths verdicts ≡ lengths events → flat_map verdicts_in (apart events verdicts) ≡ flat_map (λ vs. vs) verdicts
verdicts_back [] [] same = refl
verdicts_back [] (vs ∷ verdicts) same = absurd (nil_cons (length vs) (lengths verdicts) (sym same))
verdicts_back (es ∷ events) [] same = absurd (nil_cons (length es) (lengths events) same)
verdicts_back (es ∷ events) (vs ∷ verdicts) same =
    both_appended (verdicts_in (work_of (es, vs))) vs (flat_map verdicts_in (apart events verdicts)) (flat_map (λ x. x) verdicts)
    (zip_verdicts es vs (head_same (length vs) (length es) (lengths verdicts) (lengths events) same))
    (verdicts_back events verdicts (tail_same (length vs) (length es) (lengths verdicts) (lengths events) same))

pub scopes_once : LedgersHaveScopesOnce
scopes_once contents events plan report is =
    let works : List Work = apart events report.verdicts in
    let back = verdicts_back events report.verdicts is.read.a_verdict_each in record {
      opened = λ id.
          let told = verdicts_told (is_opening_of id) (opening_not_held id) plan.rules (length works) report.log 1 works is.history.follows in
          let once = (opened_once plan.rules id (empty (length works)) report.log is.history.legal.steps).0 in
          let same = ap (λ (l : List Verdict). count_by (is_opening_of id) l) back in
          omega (arith, told, once, same);
      released = λ id.
          let told = verdicts_told (is_release_of id) (release_not_held id) plan.rules (length works) report.log 1 works is.history.follows in
          let once = (released_once plan.rules id (empty (length works)) report.log is.history.legal.steps).0 in
          let same = ap (λ (l : List Verdict). count_by (is_release_of id) l) back in
          omega (arith, told, once, same);
    }
