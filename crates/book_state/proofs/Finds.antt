-- What a find, an acknowledgement and an end leave of a state that a run comes to.
use Rattle.std.proofs.Common.{◌≡◌, ℕ, zero, suc, ◌<◌, ◌&&◌, ◌||◌, not, nat_eq, Bool, true, false, cond, Option, Some, None, List, [], ◌∷◌, ◌++◌, filter, length, slice_get, zip, refl, ap, sym, ◌∙◌, subst, arith, inl, inr, ◌⊎◌, unwrap_or}
use Rattle.std.proofs.lemmas.Bool.Decides.{nat_tests}
use Rattle.std.proofs.lemmas.List.{length-append}
use Rattle.std.specs.Option.{option_map, option_map_or}
use Rattle.stat_defs.specs.declared.ids.Kind.{Kind}
use Rattle.stat_defs.specs.declared.ids.Mode.{Mode}
use Rattle.stat_defs.specs.declared.ids.MetricId.{MetricId}
use Rattle.stat_defs.specs.declared.events.Key.{Key}
use Rattle.stat_defs.specs.declared.metrics.Metric.{Metric}
use Rattle.stat_defs.specs.declared.history.Reply.TheVariants as reply
use Rattle.stat_defs.specs.declared.history.Verdict.{Verdict}
use Rattle.stat_defs.specs.declared.history.Verdict.TheVariants as verdict
use Rattle.stat_defs.specs.Names.{tokens}
use Rattle.stat_defs.proofs.KeyLemmas.{same_kind-is}
use Rattle.symbol_table.specs.Drawing.{DrawsAll}
use Rattle.symbol_table.proofs.DrawingLemmas.{drawn_length}
use Rattle.book_state.specs.declared.limits.TheConstants.{MAX_METRICS}
use Rattle.book_state.specs.State.{NameRules, Scope, Row, Held, Seat, State, Uses, is_gone, same_kind, same_text, live_scope, known, seat_of, bears, symbols_of}
use Rattle.book_state.specs.Finding.{first_case, scope_of, name_of}
use Rattle.book_state.specs.Step.{change_at, on_seat, on_metric, is_live, found, made, hold, acknowledged, ended, Tells}
use Rattle.book_state.specs.RunState.{IsAbove, IsRow, IsHeld, IsSeat, IsRunState}
use Rattle.book_state.specs.Bearing.{has, NoDoubles}
use Rattle.book_state.proofs.Lists.{some_same, not_some, true_false, both, get_within, get_push_last, get_push_before, get_change_same, position_found, position_map}
use Rattle.book_state.proofs.Releasing.{same_number}
use Rattle.book_state.proofs.Members.{Among, among_flat, flat_among, any_push, one_of, push_some, filter_some}
use Rattle.book_state.proofs.Numbering.{Drawn, apart_less, apart_drawn}
use Rattle.book_state.proofs.Moving.{Keeps, kept_all, one_changed, seat_goes, seat_changed}
use Rattle.book_state.proofs.Moves.{same_goes, same_grows, same_keeps, live_within, has_first, has_one, live_retired}

accepted_same : (a b : MetricId) → verdict.Accepted a ≡ verdict.Accepted b → a ≡ b
accepted_same a b e = cc

not_gone : (t : Bool) → not t ≡ true → t ≡ false
not_gone true e = absurd (true_false (sym e))
not_gone false e = refl

-- what a find's scope and metric are
pub scope_is_live : (s : State) (label : List ℕ) (sc : ℕ) → live_scope s label ≡ Some sc → is_live s.scopes (unwrap_or (live_scope s label) 0) ≡ true
scope_is_live s label sc e =
    let got = position_found (λ (scope : Scope). scope.live && same_text scope.label label) 0 s.scopes sc e in
    let place : sc ≡ got.0 = omega (arith, got.2) in
    let at : slice_get s.scopes sc ≡ Some got.1 = ap (λ (i : ℕ). slice_get s.scopes i) place ∙ got.3 in
    ap (λ (o : Option ℕ). is_live s.scopes (unwrap_or o 0)) e
    ∙ (ap (λ (o : Option Scope). option_map_or (λ scope. scope.live) o false) at ∙ (both got.1.live (same_text got.1.label label) got.4).0)

pub record KnownAt (s : State) (kind : Kind) (id : ℕ) : Type 0 where
  pub row : Row
  pub at : slice_get s.metrics id ≡ Some row
  pub there : is_gone row.metric.life ≡ false
  pub is_kind : row.metric.kind ≡ kind

pub known_at : (s : State) (kind : Kind) (name : List ℕ) (id : ℕ) → known s kind name ≡ Some id → KnownAt s kind id
known_at s kind name id e =
    let got = position_found (λ (row : Row). not (is_gone row.metric.life) && (same_kind kind row.metric.kind && same_text name row.metric.name)) 0 s.metrics id
    (sym (position_map (λ (m : Metric). not (is_gone m.life) && (same_kind kind m.kind && same_text name m.name)) (λ (row : Row). row.metric) 0 s.metrics) ∙ e) in
    let place : id ≡ got.0 = omega (arith, got.2) in
    let parts = both (not (is_gone got.1.metric.life)) (same_kind kind got.1.metric.kind && same_text name got.1.metric.name) got.4 in record {
      row = got.1;
      at = ap (λ (i : ℕ). slice_get s.metrics i) place ∙ got.3;
      there = not_gone (is_gone got.1.metric.life) parts.0;
      is_kind = sym (same_kind-is kind got.1.metric.kind (both (same_kind kind got.1.metric.kind) (same_text name got.1.metric.name) parts.1).0);
    }

-- what the reply of a find tells
pub record Makes (s : State) (key : Key) (o k : Option ℕ) (full : Bool) (id : MetricId) (numbers : List ℕ) : Type 0 where
  pub scope : ℕ
  pub live : o ≡ Some scope
  pub unknown : k ≡ None
  pub room : full ≡ false
  pub next : id.0 ≡ length s.metrics
  pub drawn : DrawsAll (Uses s) (tokens (name_of s key)) numbers

pub tells_made : (s : State) (key : Key) (o : Option ℕ) (a : Bool) (k : Option ℕ) (full over : Bool) (id : MetricId) (numbers : List ℕ)
    → Tells s key (first_case o a k full over) (reply.Made id numbers) → Makes s key o k full id numbers
tells_made s key None a k full over id numbers t = absurd t
tells_made s key (Some sc) false k full over id numbers t = absurd t
tells_made s key (Some sc) true (Some i) full over id numbers t = absurd t
tells_made s key (Some sc) true None true over id numbers t = absurd t
tells_made s key (Some sc) true None false true id numbers t = absurd t
tells_made s key (Some sc) true None false false id numbers t = record { scope = sc; live = refl; unknown = refl; room = refl; next = t.0; drawn = t.1 }

pub tells_found : (s : State) (key : Key) (o : Option ℕ) (a : Bool) (k : Option ℕ) (full over : Bool) (id : MetricId)
    → Tells s key (first_case o a k full over) (reply.Found id) → (sc : ℕ) × (o ≡ Some sc) × (k ≡ Some id.0)
tells_found s key None a k full over id t = absurd t
tells_found s key (Some sc) false k full over id t = absurd t
tells_found s key (Some sc) true (Some i) full over id t = (sc, refl, ap Some (sym t))
tells_found s key (Some sc) true None true over id t = absurd t
tells_found s key (Some sc) true None false true id t = absurd t
tells_found s key (Some sc) true None false false id t = absurd t

-- a seat holds one verdict more
seat_holds : (scopes : List Scope) (metrics : List Row) (releases : ℕ) (key : Key) (scope : ℕ) (v : Verdict) (row : Seat) → row.ended ≡ false
    → IsSeat scopes metrics releases row
    → ((id : MetricId) → v ≡ verdict.Accepted id → IsHeld scopes metrics row.tag (record { key = key; scope = scope; verdict = v }) id.0)
    → IsSeat scopes metrics releases (hold key scope v row)
seat_holds scopes metrics releases key scope v row works is this = record {
  tag = is.tag;
  ended = λ e. absurd (true_false (sym e ∙ works));
  held = λ i h id at told.
      let new : Held = record { key = key; scope = scope; verdict = v } in
      elim (push_some row.held new i h at) [
        | inl got ↦ subst (λ (x : Held). IsHeld scopes metrics row.tag x id.0) (sym got.1) (this id (ap (λ (x : Held). x.verdict) (sym got.1) ∙ told))
        | inr got ↦ is.held i h id got.1 told
      ];
}

hold_kept : (s : State) (by : ℕ) (key : Key) (scope : ℕ) (v : Verdict) → IsRunState s → ((row : Seat) → seat_of s by ≡ Some row → row.ended ≡ false)
    → ((tag : ℕ) (id : MetricId) → v ≡ verdict.Accepted id → IsHeld s.scopes s.metrics tag (record { key = key; scope = scope; verdict = v }) id.0)
    → IsRunState (on_seat (hold key scope v) by s)
hold_kept s by key scope v is works this = seat_changed (hold key scope v) by s is (λ row at ok.
    seat_holds s.scopes s.metrics s.releases key scope v row (works row at) ok (λ id told. this row.tag id told))

not_accepted : (id : MetricId) → verdict.Rejected ≡ verdict.Accepted id → ⊥
not_accepted id e = absurd cc

pub rejected_kept : (s : State) (by : ℕ) (key : Key) (scope : ℕ) → IsRunState s → ((row : Seat) → seat_of s by ≡ Some row → row.ended ≡ false)
    → IsRunState (on_seat (hold key scope verdict.Rejected) by s)
rejected_kept s by key scope is works = hold_kept s by key scope verdict.Rejected is works (λ tag id e. absurd (not_accepted id e))

-- a metric that is made
abbrev with_made : NameRules → State → Key → List ℕ → State
with_made rules s key numbers = record s { metrics = s.metrics ++ made rules s key numbers ∷ [] }

module _ (rules : NameRules) (s : State) (key : Key) (numbers : List ℕ) (live : is_live s.scopes (scope_of s key) ≡ true) where
  made_row : DrawsAll (Uses s) (tokens (name_of s key)) numbers → IsRow s.scopes s.releases (made rules s key numbers)
  made_row drawn = record {
    live = λ k b. ap (is_live s.scopes) (has_one k (scope_of s key) b) ∙ live;
    used = λ k b. refl;
    borne = λ l. (scope_of s key, has_first (scope_of s key) []);
    past = λ r l. absurd (live_retired r (sym l));
    numbers = drawn_length (Uses s) (tokens (name_of s key)) numbers drawn;
    apart = (refl, tt);
  }

  made_uses : (t : List ℕ) (n : ℕ) → Uses (with_made rules s key numbers) t n → Drawn (Uses s) (tokens (name_of s key)) numbers t n
  made_uses t n used =
      let got = flat_among symbols_of (s.metrics ++ made rules s key numbers ∷ []) (t, n) used in
      elim (push_some s.metrics (made rules s key numbers) got.0 got.1 got.2) [
        | inl last ↦ inr (subst (λ (row : Row). Among (symbols_of row) (t, n)) last.1 got.3)
        | inr before ↦ inl (among_flat symbols_of s.metrics got.0 got.1 (t, n) before.1 got.3)
      ]

  made_run : IsRunState s → length s.metrics < MAX_METRICS → DrawsAll (Uses s) (tokens (name_of s key)) numbers → IsRunState (with_made rules s key numbers)
  made_run is room drawn = record {
    rows = λ i row at. elim (push_some s.metrics (made rules s key numbers) i row at) [
      | inl last ↦ subst (λ (r : Row). IsRow s.scopes s.releases r) (sym last.1) (made_row drawn)
      | inr before ↦ is.rows i row before.1
    ];
    seats = λ j seat at. seat_goes s (with_made rules s key numbers) (same_grows s (with_made rules s key numbers) refl refl refl)
        (λ i row here. (
          row,
          get_push_before s.metrics (made rules s key numbers) i (λ e. omega (arith, e, get_within s.metrics i row here)) ∙ here,
          same_goes s s.scopes row,
        )) j seat at (is.seats j seat at);
    apart = apart_less (Uses (with_made rules s key numbers)) (Drawn (Uses s) (tokens (name_of s key)) numbers) made_uses
        (apart_drawn (Uses s) is.apart (tokens (name_of s key)) numbers drawn);
    few = omega (arith, room, length-append s.metrics (made rules s key numbers ∷ []));
  }

  pub made_kept : (by : ℕ) (id : MetricId) → IsRunState s → ((row : Seat) → seat_of s by ≡ Some row → row.ended ≡ false) → length s.metrics < MAX_METRICS
      → id.0 ≡ length s.metrics → DrawsAll (Uses s) (tokens (name_of s key)) numbers
      → IsRunState (on_seat (hold key (scope_of s key) (verdict.Accepted id)) by (with_made rules s key numbers))
  made_kept by id is works room next drawn =
      hold_kept (with_made rules s key numbers) by key (scope_of s key) (verdict.Accepted id) (made_run is room drawn) (still by works) (λ tag other told. record {
        row = made rules s key numbers;
        at = ap (λ (m : MetricId). slice_get (s.metrics ++ made rules s key numbers ∷ []) m.0) (sym (accepted_same id other told))
            ∙ get_push_last s.metrics (made rules s key numbers) id.0 next;
        kind = refl;
        life = tt;
        within = live_within s.scopes (scope_of s key) live;
        borne = λ l. has_first (scope_of s key) [];
      }) where
        still : (b : ℕ) → ((row : Seat) → seat_of s b ≡ Some row → row.ended ≡ false) → (row : Seat) → seat_of (with_made rules s key numbers) b ≡ Some row → row.ended ≡ false
        still zero h row at = absurd (not_some row at)
        still (suc b) h row at = h row at

-- a metric that is found again
bearer_stays : (k scope : ℕ) (ks : List ℕ) (t : Bool) → has k ks ≡ true → has k (cond t ks (ks ++ scope ∷ [])) ≡ true
bearer_stays k scope ks true b = b
bearer_stays k scope ks false b = any_push (nat_eq k) ks scope ∙ ap (λ (t : Bool). t || nat_eq k scope) b

pub bearer_new : (scope : ℕ) (ks : List ℕ) (t : Bool) → has scope ks ≡ t → has scope (cond t ks (ks ++ scope ∷ [])) ≡ true
bearer_new scope ks true e = e
bearer_new scope ks false e = any_push (nat_eq scope) ks scope ∙ rw (e, same_number scope) refl

bearer_was : (k scope : ℕ) (ks : List ℕ) (t : Bool) → has k (cond t ks (ks ++ scope ∷ [])) ≡ true → (has k ks ≡ true) ⊎ (k ≡ scope)
bearer_was k scope ks true b = inl b
bearer_was k scope ks false b = elim (one_of (has k ks) (nat_eq k scope) (sym (any_push (nat_eq k) ks scope) ∙ b)) [
  | inl was ↦ inl was
  | inr is ↦ inr (is_same k scope is)
] where
  is_same : (a b : ℕ) → nat_eq a b ≡ true → a ≡ b
  is_same a b e = grind (arith, nat_tests)

pub other_way : (a b : ℕ) → nat_eq a b ≡ false → nat_eq b a ≡ false
other_way a b e = grind (arith, nat_tests)

pub apart_push : (scope : ℕ) (ks : List ℕ) → NoDoubles ks → has scope ks ≡ false → NoDoubles (ks ++ scope ∷ [])
apart_push scope [] apart none = (refl, tt)
apart_push scope (k ∷ ks) apart none =
    let parts = neither (nat_eq scope k) (has scope ks) none in
    (any_push (nat_eq k) ks scope ∙ rw (apart.0, other_way scope k parts.0) refl, apart_push scope ks apart.1 parts.1) where
      neither : (a b : Bool) → (a || b) ≡ false → (a ≡ false) × (b ≡ false)
      neither true b e = absurd (true_false e)
      neither false b e = (refl, e)

pub bearers_apart : (scope : ℕ) (ks : List ℕ) (t : Bool) → has scope ks ≡ t → NoDoubles ks → NoDoubles (cond t ks (ks ++ scope ∷ []))
bearers_apart scope ks true e apart = apart
bearers_apart scope ks false e apart = apart_push scope ks apart e

abbrev with_found : State → ℕ → ℕ → Mode → State
with_found s id scope mode = on_metric (found scope mode) id s

found_keep : (s : State) (id scope : ℕ) (mode : Mode) (row : Row) → is_live s.scopes scope ≡ true → is_gone row.metric.life ≡ false → IsRow s.scopes s.releases row
    → Keeps s (with_found s id scope mode) row (found scope mode row)
found_keep s id scope mode row live there is = record {
  goes = record {
    kind = refl;
    life = λ j seat at works tag above. tt;
    bearers = λ k l b. bearer_stays k scope row.bearers (bears scope row) b;
  };
  is = record {
    live = λ k b. elim (bearer_was k scope row.bearers (bears scope row) b) [
      | inl was ↦ is.live k was
      | inr same ↦ ap (is_live s.scopes) same ∙ live
    ];
    used = λ k b. refl;
    borne = λ l. (scope, bearer_new scope row.bearers (bears scope row) refl);
    past = λ r l. absurd (live_retired r (sym l));
    numbers = is.numbers;
    apart = bearers_apart scope row.bearers (bears scope row) refl is.apart;
  };
  symbols = inl (ap (λ (t : Bool). cond t [] (zip (tokens row.metric.name) row.metric.numbers)) (sym there));
}

pub found_kept : (s : State) (by : ℕ) (key : Key) (id : MetricId) (scope : ℕ) → IsRunState s → ((row : Seat) → seat_of s by ≡ Some row → row.ended ≡ false)
    → is_live s.scopes scope ≡ true → KnownAt s key.kind id.0
    → IsRunState (on_seat (hold key scope (verdict.Accepted id)) by (with_found s id.0 scope key.mode))
found_kept s by key id scope is works live at =
    let s' = with_found s id.0 scope key.mode in
    hold_kept s' by key scope (verdict.Accepted id) (kept_all s s' (one_changed s s' (found scope key.mode) id.0 (same_grows s s' refl refl refl) refl
    (λ row here. found_keep s id.0 scope key.mode row live
    (subst (λ (r : Row). is_gone r.metric.life ≡ false) (some_same at.row row (sym at.at ∙ here)) at.there) (is.rows id.0 row here))
    (λ i row here. same_keeps s s' row refl refl (is.rows i row here))) is)
    (still by works)
    (λ tag other told. record {
      row = found scope key.mode at.row;
      at = ap (λ (m : MetricId). slice_get (change_at (found scope key.mode) id.0 s.metrics) m.0) (sym (accepted_same id other told))
          ∙ (get_change_same (found scope key.mode) id.0 s.metrics ∙ ap (option_map (found scope key.mode)) at.at);
      kind = at.is_kind;
      life = tt;
      within = live_within s.scopes scope live;
      borne = λ l. bearer_new scope at.row.bearers (bears scope at.row) refl;
    }) where
      still : (b : ℕ) → ((row : Seat) → seat_of s b ≡ Some row → row.ended ≡ false) → (row : Seat) → seat_of (with_found s id.0 scope key.mode) b ≡ Some row → row.ended ≡ false
      still zero h row at' = absurd (not_some row at')
      still (suc b) h row at' = h row at'

-- an acknowledgement and an end
pub acknowledged_kept : (s : State) (by tag : ℕ) → IsRunState s → tag ≡ s.releases → IsRunState (on_seat (acknowledged s.scopes tag) by s)
acknowledged_kept s by tag is newest = seat_changed (acknowledged s.scopes tag) by s is (λ row at ok. record {
  tag = omega (arith, newest);
  ended = λ e. ap (filter (λ h. is_live s.scopes h.scope)) (ok.ended e);
  held = λ i h id here told.
      let was = filter_some (λ (x : Held). is_live s.scopes x.scope) row.held i h here in
      let b = ok.held was.0.0 h id was.0.1 told in record {
        row = b.row;
        at = b.at;
        kind = b.kind;
        life = subst (IsAbove tag) (sym ((is.rows id.0 b.row b.at).used h.scope (b.borne was.1))) tt;
        within = b.within;
        borne = b.borne;
      };
})

pub ended_kept : (s : State) (by : ℕ) → IsRunState s → IsRunState (on_seat ended by s)
ended_kept s by is = seat_changed ended by s is (λ row at ok. record {
  tag = ok.tag;
  ended = λ e. refl;
  held = λ i h id here told. absurd (not_some h here);
})
