-- What is stored after each call's entry.
use Rattle.std.proofs.Common.{◌≡◌, ℕ, zero, suc, ◌+◌, ◌-◌, ◌<◌, ◌≤◌, ◌^◌, nat_le, not, ◌&&◌, ◌==◌, Bool, true, false, Option, Some, None, unwrap_or, inl, inr, length-append, List, [], ◌∷◌, ◌++◌, map, length, slice_get, All, refl, ap, sym, ◌∙◌, subst, arith}
use Rattle.std.proofs.lemmas.Bool.Decides.{nat_tests}
use Rattle.std.specs.Option.{option_map, option_map_or, IsSomeAnd}
use Rattle.std.specs.List.{list_all, list_any}
use Rattle.std.proofs.lemmas.List.{map_push}
use Rattle.stat_defs.specs.declared.configs.TagSpec.{TagSpec}
use Rattle.stat_defs.specs.declared.ids.Kind.TheVariants.{Text}
use Rattle.stat_defs.specs.declared.metrics.Life.TheVariants.{Live}
use Rattle.stat_defs.specs.declared.history.Verdict.{Verdict}
use Rattle.stat_defs.specs.declared.history.Verdict.TheVariants as verdict
use Rattle.stat_defs.specs.declared.events.Key.{Key}
use Rattle.stat_defs.specs.declared.metrics.Metric.{Metric}
use Rattle.stat_defs.specs.declared.history.Call.TheVariants as call
use Rattle.stat_defs.specs.declared.history.Reply.TheVariants as reply
use Rattle.stat_defs.specs.declared.history.Entry.{Entry}
use Rattle.stat_defs.specs.declared.ids.MetricId.{MetricId}
use Rattle.stat_defs.specs.declared.ids.ScopeId.{ScopeId}
use Rattle.book_state.specs.declared.limits.TheConstants.{MAX_METRICS}
use Rattle.book_state.specs.declared.metrics.MetricRow.{MetricRow}
use Rattle.book_state.specs.State.{Scope, Row, Held, Seat, State, live_in, live_scope, known_in, known, is_gone, same_kind, bears}
use Rattle.book_state.specs.Finding.{scope_of, name_of, is_full, is_over_limit}
use Rattle.book_state.specs.Step.{change_at, found, made, on_seat, hold, acknowledged, ended, swept, Working, accepts, holds_text}
use Rattle.book_state.specs.Bearing.{has, bears_at}
use Rattle.book_state.specs.Scopes.{ScopeView, scope_of_view, opened, emptied, bearing}
use Rattle.book_state.specs.Metrics.{metric_of, stored, change_all, lose, found_again, with_text, is_past, swept_row}
use Rattle.book_state.specs.Stored.{StateView, Stored, IsStored, IsNext, IsLawfulCall, after_entry, drawing, seat_stored, has_passed, fresh_metric}
use Rattle.book_state.proofs.Lists.{true_false, both, some_at, get_map, get_within, map-change_at}
use Rattle.book_state.proofs.LiveScopes.{scope_at}
use Rattle.book_state.proofs.Finds.{KnownAt, Makes, known_at, tells_made, tells_found}
use Rattle.book_state.proofs.Members.{one_of}
use Rattle.book_state.proofs.Moves.{live_within}
use Rattle.book_state.proofs.Releasing.{has_all, few_apart}
use Rattle.book_state.proofs.Changing.{There}
use Rattle.book_state.proofs.Entering.{next_run, drawn}
use Rattle.book_state.proofs.Applying.{allowed_at, effect_at, held_alike, told_text, told_ack, told_sweep, told_end, seat_place}
use Rattle.book_state.proofs.Storing.{opened_stored, released_stored, metrics_stored_as, seats_stored_as, borne_stored, found_rows, found_this, found_same, found_others, made_this, made_same, made_others, text_bears, swept_bears, all_stored, swept_rows, metrics_are, metric_count, scope_count, seat_count}

-- a change of one seat, which has a place
on_seat_is : (f : Seat → Seat) (by : ℕ) (s : State) → 1 ≤ by → on_seat f by s ≡ record s { seats = change_at f (by - 1) s.seats }
on_seat_is f zero s some = absurd (omega (arith, some))
on_seat_is f (suc at) s some = let e : at ≡ suc at - 1 = omega arith in λ i. record s { seats = change_at f (e i) s.seats }

-- a change of what a seat holds
holds_scopes : (f : Seat → Seat) (by : ℕ) (s : State) → (on_seat f by s).scopes ≡ s.scopes
holds_scopes f zero s = refl
holds_scopes f (suc at) s = refl

holds_metrics : (f : Seat → Seat) (by : ℕ) (s : State) → (on_seat f by s).metrics ≡ s.metrics
holds_metrics f zero s = refl
holds_metrics f (suc at) s = refl

holds_releases : (f : Seat → Seat) (by : ℕ) (s : State) → (on_seat f by s).releases ≡ s.releases
holds_releases f zero s = refl
holds_releases f (suc at) s = refl

any_some : {X : Type 0} (p : X → Bool) (xs : List X) → list_any p xs ≡ true → (i : ℕ) × (x : X) × (slice_get xs i ≡ Some x) × (p x ≡ true)
any_some p [] any = absurd (true_false (sym any))
any_some p (x ∷ xs) any = elim (one_of (p x) (list_any p xs) any) [
  | inl here ↦ (0, x, refl, here)
  | inr rest ↦ let got = any_some p xs rest in (suc got.0, got.1, got.2, got.3)
]

accepts_is : (id : ℕ) (w : Verdict) → accepts id w ≡ true → (it : MetricId) × (w ≡ verdict.Accepted it) × (it.0 ≡ id)
accepts_is id (verdict.Accepted it) e = (it, refl, is_it it.0 e) where
  is_it : (a : ℕ) → (a == id) ≡ true → a ≡ id
  is_it a e = grind (arith, nat_tests)
accepts_is id _ e = absurd (true_false (sym e))

not_full : (m n : ℕ) → nat_le m n ≡ false → n < m
not_full m n e = grind (arith, nat_tests)

made_as : (tags : List TagSpec) (s : State) (key : Key) (numbers : List ℕ) (sc : ℕ) → scope_of s key ≡ sc
    → made (drawing tags) s key numbers ≡ record { metric = fresh_metric tags key (name_of s key) numbers; bearers = sc ∷ [] }
made_as tags s key numbers sc is =
    (λ i. record { metric = record { name = name_of s key; kind = key.kind; mode = key.mode; numbers = numbers; tagged = drawn tags i (name_of s key); text = []; life = Live }; bearers = is i ∷ [] })

module _ (v : StateView) (held : Stored) (st : IsStored held v.state) (e : Entry) (next : IsNext v e) where
  abbrev after : State
  after = (after_entry v e).state

  pub seat_within : (May : Seat → Type 0) → Working v.state e.seat May → (1 ≤ e.seat) × (e.seat ≤ length held.seats)
  seat_within May works = let place = seat_place v.state e.seat May works in (place.0, omega (arith, place.1, seat_count held v.state st))

  module _ (is : e.call ≡ call.Ack) where
    ack_allowed : e.reply ≡ reply.Acked v.state.releases
    ack_allowed = told_ack next.rules e.seat v.state e.reply (allowed_at v e call.Ack e.reply is refl next)

    pub ack_within : (1 ≤ e.seat) × (e.seat ≤ length held.seats)
    ack_within = seat_within (λ row. row.tag < v.state.releases) (allowed_at v e call.Ack (reply.Acked v.state.releases) is ack_allowed next).0

    pub acked_stored : (tag : ℕ) → tag ≡ length held.released → (seats : List (ℕ × Bool)) → seats ≡ change_at (λ row. (tag, row.1)) (e.seat - 1) held.seats → IsStored (record held { seats = seats }) after
    acked_stored tag newest seats are =
        let s = v.state in
        seats_stored_as held s st after (next_run v e next st.run) (change_at (acknowledged s.scopes s.releases) (e.seat - 1) s.seats)
        (effect_at v e call.Ack (reply.Acked s.releases) is ack_allowed ∙ on_seat_is (acknowledged s.scopes s.releases) e.seat s ack_within.0) seats
        (are ∙ (ap (λ (l : List (ℕ × Bool)). change_at (λ row. (tag, row.1)) (e.seat - 1) l) st.seats
        ∙ (ap (λ (t : ℕ). change_at (λ (row : ℕ × Bool). (t, row.1)) (e.seat - 1) (map seat_stored s.seats)) (newest ∙ st.releases)
        ∙ sym (map-change_at seat_stored (acknowledged s.scopes s.releases) (λ row. (s.releases, row.1)) (λ x. refl) (e.seat - 1) s.seats))))

  module _ (is : e.call ≡ call.End) where
    end_told : e.reply ≡ reply.Ended
    end_told = told_end next.rules e.seat v.state e.reply (allowed_at v e call.End e.reply is refl next)

    pub end_within : (1 ≤ e.seat) × (e.seat ≤ length held.seats)
    end_within = seat_within (λ row. Unit {0}) (allowed_at v e call.End reply.Ended is end_told next)

    pub ended_stored : (seats : List (ℕ × Bool)) → seats ≡ change_at (λ row. (row.0, true)) (e.seat - 1) held.seats → IsStored (record held { seats = seats }) after
    ended_stored seats are =
        let s = v.state in
        seats_stored_as held s st after (next_run v e next st.run) (change_at ended (e.seat - 1) s.seats)
        (effect_at v e call.End reply.Ended is end_told ∙ on_seat_is ended e.seat s end_within.0) seats
        (are ∙ (ap (λ (l : List (ℕ × Bool)). change_at (λ row. (row.0, true)) (e.seat - 1) l) st.seats
        ∙ sym (map-change_at seat_stored ended (λ row. (row.0, true)) (λ x. refl) (e.seat - 1) s.seats)))

  module _ (is : e.call ≡ call.Sweep) where
    pub swept_stored : (least : Option ℕ) → ((release : ℕ) → is_past least release ≡ list_all (has_passed release) held.seats) → IsStored (record held { metrics = map (swept_row least) held.metrics }) after
    swept_stored least past =
        let s = v.state in
        let told = told_sweep next.rules e.seat s e.reply (allowed_at v e call.Sweep e.reply is refl next) in
        metrics_stored_as held s st after (next_run v e next st.run) (map (swept s.seats) s.metrics) (effect_at v e call.Sweep (reply.Swept told.0) is told.1) (map (swept_row least) held.metrics)
        (ap (map (swept_row least)) st.metrics ∙ swept_rows least s.seats (λ r. past r ∙ (ap (list_all (has_passed r)) st.seats ∙ all_stored r s.seats)) s.metrics)
        (swept_bears s.seats s.metrics)

  module _ (id : MetricId) (text : List ℕ) (is : e.call ≡ call.SetText id text) where
    text_told : e.reply ≡ reply.TextSet
    text_told = told_text next.rules e.seat v.state id text e.reply (allowed_at v e (call.SetText id text) e.reply is refl next)

    pub text_stored : IsStored (record held { metrics = change_at (with_text text) id.0 held.metrics }) after
    text_stored =
        let s = v.state in
        metrics_stored_as held s st after (next_run v e next st.run) (change_at (λ row. record row { metric = record row.metric { text = text } }) id.0 s.metrics)
        (effect_at v e (call.SetText id text) reply.TextSet is text_told) (change_at (with_text text) id.0 held.metrics)
        (ap (change_at (with_text text) id.0) st.metrics ∙ sym (map-change_at stored (λ row. record row { metric = record row.metric { text = text } }) (with_text text) (λ x. refl) id.0 s.metrics))
        (text_bears text id.0 s.metrics)

    pub text_within : id.0 < length held.metrics
    text_within = by_seat e.seat (allowed_at v e (call.SetText id text) reply.TextSet is text_told next) where
      by_seat : (by : ℕ) → Working v.state by (λ row. holds_text id.0 row ≡ true) → id.0 < length held.metrics
      by_seat zero works = absurd works
      by_seat (suc at) works = by_row (slice_get v.state.seats at) refl works where
        by_row : (o : Option Seat) → slice_get v.state.seats at ≡ o → IsSomeAnd o (λ row. (row.ended ≡ false) × (holds_text id.0 row ≡ true)) → id.0 < length held.metrics
        by_row None here works = absurd works
        by_row (Some row) here works =
            let any = any_some (λ (h : Held). accepts id.0 h.verdict && same_kind h.key.kind Text) row.held works.1 in
            let it = accepts_is id.0 any.1.verdict (both (accepts id.0 any.1.verdict) (same_kind any.1.key.kind Text) any.3).0 in
            let got = (st.run.seats at row here).held any.0 any.1 it.0 any.2 it.1 in
            omega (arith, get_within v.state.metrics it.0.0 got.row got.at, it.2, metric_count held v.state st)

  module _ (label prefix : List ℕ) (id : ScopeId) (is : e.call ≡ call.OpenScope label prefix) (told : e.reply ≡ reply.Opened id) where
    pub open_free : live_in (map scope_of_view held.scopes) label ≡ None
    open_free = ap (λ (l : List Scope). live_in l label) st.scopes ∙ (allowed_at v e (call.OpenScope label prefix) (reply.Opened id) is told next).1

    pub open_next : id.0 ≡ length held.scopes
    open_next = (allowed_at v e (call.OpenScope label prefix) (reply.Opened id) is told next).2 ∙ sym (scope_count held v.state st)

    pub open_stored : length held.scopes < 2 ^ 32 → IsStored (record held { scopes = held.scopes ++ opened label prefix ∷ [] }) after
    open_stored few = opened_stored held v.state st label prefix after (next_run v e next st.run) (effect_at v e (call.OpenScope label prefix) (reply.Opened id) is told) (subst IsLawfulCall is next.lawful) few

  module _ (label : List ℕ) (id : ScopeId) (is : e.call ≡ call.Release label) (told : e.reply ≡ reply.Released id) where
    pub release_live : live_in (map scope_of_view held.scopes) label ≡ Some id.0
    release_live = ap (λ (l : List Scope). live_in l label) st.scopes ∙ (allowed_at v e (call.Release label) (reply.Released id) is told next).1

    -- the scope that is released
    scope : (was : ScopeView) × (slice_get held.scopes id.0 ≡ Some was) × (was.live ≡ true) × (was.label ≡ label)
    scope = scope_at held.scopes label id.0 release_live

    module _ (borne : List ℕ) (are : IsSomeAnd (slice_get held.scopes id.0) (λ was. borne ≡ was.bears)) where
      borne_is : borne ≡ scope.0.bears
      borne_is = some_at (λ (was : ScopeView). borne ≡ was.bears) (slice_get held.scopes id.0) scope.0 scope.1 are

      there_row : (o : Option Row) → ((row : Row) → o ≡ Some row → bears id.0 row ≡ true → is_gone row.metric.life ≡ false) → option_map_or (bears id.0) o false ≡ true
          → IsSomeAnd (option_map stored o) (λ row. is_gone row.metric.life ≡ false)
      there_row None each h = absurd (true_false (sym h))
      there_row (Some row) each h = each row refl h

      pub borne_there : All (There held.metrics) borne
      borne_there = subst (λ (ids : List ℕ). All (There held.metrics) ids) (sym borne_is) (has_all (There held.metrics) scope.0.bears (λ m h.
          subst (λ (o : Option MetricRow). IsSomeAnd o (λ row. is_gone row.metric.life ≡ false))
          (sym (ap (λ rows. slice_get rows m) st.metrics ∙ get_map stored v.state.metrics m))
          (there_row (slice_get v.state.metrics m) (λ row here b. ap is_gone ((st.run.rows m row here).used id.0 b)) (sym ((st.bears id.0 scope.0 scope.1).are m) ∙ h))))

      pub release_stored : (tag : ℕ) (held' : Stored) → held'.scopes ≡ change_at emptied id.0 held.scopes → held'.released ≡ held.released ++ id ∷ [] → tag ≡ length held'.released
          → held'.metrics ≡ change_all (lose tag) borne held.metrics → held'.seats ≡ held.seats → IsStored held' after
      release_stored tag held' scopes more tag_is metrics seats =
          let s = v.state in
          let one = length-append held.released (id ∷ []) in
          let last : tag ≡ s.releases + 1 = omega (arith, tag_is, ap length more, one, st.releases) in
          released_stored held s st id.0 scope.0 scope.1 after (next_run v e next st.run) (effect_at v e (call.Release label) (reply.Released id) is told) held' scopes
          (metrics ∙ (λ i. change_all (lose (last i)) (borne_is i) held.metrics)) more seats

  module _ (key : Key) (sc : ℕ) (is : e.call ≡ call.Find key) (live : live_scope v.state key.label ≡ Some sc) where
    scope_is : scope_of v.state key ≡ sc
    scope_is = ap (λ o. unwrap_or o 0) live

    pub find_lives : IsSomeAnd (slice_get held.scopes sc) (λ (scope : ScopeView). scope.live ≡ true)
    find_lives =
        let at = scope_at held.scopes key.label sc (ap (λ (l : List Scope). live_in l key.label) st.scopes ∙ live) in
        subst (λ (o : Option ScopeView). IsSomeAnd o (λ (scope : ScopeView). scope.live ≡ true)) (sym at.1) at.2

    -- a metric that is found
    module _ (id : MetricId) (told : e.reply ≡ reply.Found id) where
      known_row : KnownAt v.state key.kind id.0
      known_row =
          let s = v.state in
          let told = tells_found s key (live_scope s key.label) (next.rules.admits (name_of s key)) (known s key.kind (name_of s key)) (is_full s) (is_over_limit s key.kind) id
          (allowed_at v e (call.Find key) (reply.Found id) is told next).1 in
          known_at s key.kind (name_of s key) id.0 told.2

      pub found_room : IsSomeAnd (slice_get held.metrics id.0) (λ row. (is_gone row.metric.life ≡ false) × (row.bearers + 1 < 2 ^ 64))
      found_room =
          let s = v.state in let k = known_row in
          let row = st.run.rows id.0 k.row k.at in
          let few = few_apart (length s.scopes) k.row.bearers row.apart (λ b h. live_within s.scopes b (row.live b h)) in
          subst (λ (o : Option MetricRow). IsSomeAnd o (λ row. (is_gone row.metric.life ≡ false) × (row.bearers + 1 < 2 ^ 64)))
          (sym (ap (λ rows. slice_get rows id.0) st.metrics ∙ (get_map stored s.metrics id.0 ∙ ap (option_map stored) k.at)))
          (k.there, omega (arith, few, st.few_scopes))

      pub found_stored : (new : Bool) → IsSomeAnd (slice_get held.scopes sc) (λ scope. new ≡ not (has id.0 scope.bears))
          → IsStored (record held { scopes = change_at (bearing id.0) sc held.scopes; metrics = change_at (found_again key.mode new) id.0 held.metrics }) after
      found_stored new fresh =
          let s = v.state in let k = known_row in
          let at = scope_at held.scopes key.label sc (ap (λ (l : List Scope). live_in l key.label) st.scopes ∙ live) in
          let is_new : new ≡ not (bears_at sc s.metrics id.0) = some_at (λ (scope : ScopeView). new ≡ not (has id.0 scope.bears)) (slice_get held.scopes sc) at.0 at.1 fresh ∙ ap not ((st.bears sc at.0 at.1).are id.0) in
          let rows = change_at (found sc key.mode) id.0 s.metrics in
          let more : State = record s { metrics = rows } in
          let is' : after ≡ on_seat (hold key sc (verdict.Accepted id)) e.seat more =
          effect_at v e (call.Find key) (reply.Found id) is told ∙ ap (λ (n : ℕ). on_seat (hold key n (verdict.Accepted id)) e.seat (record s { metrics = change_at (found n key.mode) id.0 s.metrics })) scope_is in
          let alike = held_alike more (hold key sc (verdict.Accepted id)) (λ seat. refl) e.seat in
          borne_stored held s st sc id.0 rows (found_this s.metrics sc id.0 key.mode k.row k.at) (λ k i ne. found_others s.metrics sc id.0 key.mode k i ne) (λ i ne. found_same s.metrics sc id.0 key.mode i ne)
          after (next_run v e next st.run) (ap (λ (t : State). t.scopes) is' ∙ alike.scopes) (ap (λ (t : State). t.metrics) is' ∙ alike.metrics) (ap (λ (t : State). t.releases) is' ∙ alike.releases)
          (ap (λ (t : State). map seat_stored t.seats) is' ∙ alike.seats)
          (change_at (found_again key.mode new) id.0 held.metrics)
          (ap (change_at (found_again key.mode new) id.0) st.metrics ∙ found_rows s.metrics sc id.0 key.mode new (λ row here.
          is_new ∙ ap (λ (o : Option Row). not (option_map_or (bears sc) o false)) here))

    -- a metric that is made
    module _ (id : MetricId) (numbers : List ℕ) (told : e.reply ≡ reply.Made id numbers) where
      makes : Makes v.state key (live_scope v.state key.label) (known v.state key.kind (name_of v.state key)) (is_full v.state) id numbers
      makes =
          let s = v.state in
          tells_made s key (live_scope s key.label) (next.rules.admits (name_of s key)) (known s key.kind (name_of s key)) (is_full s) (is_over_limit s key.kind) id numbers
          (allowed_at v e (call.Find key) (reply.Made id numbers) is told next).1

      pub make_new : known_in (map metric_of held.metrics) key.kind (name_of v.state key) ≡ None
      make_new = ap (λ (ms : List Metric). known_in ms key.kind (name_of v.state key)) (metrics_are held v.state st) ∙ makes.unknown

      pub make_room : length held.metrics < MAX_METRICS
      make_room = let room : length v.state.metrics < MAX_METRICS = not_full MAX_METRICS (length v.state.metrics) makes.room in omega (arith, room, metric_count held v.state st)

      pub made_stored : IsStored (record held {
        scopes = change_at (bearing (length held.metrics)) sc held.scopes;
        metrics = held.metrics ++ record { metric = fresh_metric v.tags key (name_of v.state key) numbers; bearers = 1 } ∷ [];
      }) after
      made_stored =
          let s = v.state in
          let row : Row = record { metric = fresh_metric v.tags key (name_of s key) numbers; bearers = sc ∷ [] } in
          let rows = s.metrics ++ row ∷ [] in
          let more : State = record s { metrics = rows } in
          let row_is : made (drawing v.tags) s key numbers ≡ row = made_as v.tags s key numbers sc scope_is in
          let is' : after ≡ on_seat (hold key sc (verdict.Accepted id)) e.seat more =
          effect_at v e (call.Find key) (reply.Made id numbers) is told ∙ (λ i. on_seat (hold key (scope_is i) (verdict.Accepted id)) e.seat (record s { metrics = s.metrics ++ row_is i ∷ [] })) in
          let alike = held_alike more (hold key sc (verdict.Accepted id)) (λ seat. refl) e.seat in
          let count = metric_count held s st in
          subst (λ (n : ℕ). IsStored (record held { scopes = change_at (bearing n) sc held.scopes; metrics = held.metrics ++ stored row ∷ [] }) after) (sym count)
          (borne_stored held s st sc (length s.metrics) rows (made_this s.metrics row sc refl) (λ k i ne. made_others s.metrics row sc refl k i ne) (λ i ne. made_same s.metrics row sc refl i ne)
          after (next_run v e next st.run) (ap (λ (t : State). t.scopes) is' ∙ alike.scopes) (ap (λ (t : State). t.metrics) is' ∙ alike.metrics) (ap (λ (t : State). t.releases) is' ∙ alike.releases)
          (ap (λ (t : State). map seat_stored t.seats) is' ∙ alike.seats)
          (held.metrics ++ stored row ∷ []) (ap (λ (l : List MetricRow). l ++ stored row ∷ []) st.metrics ∙ sym (map_push stored s.metrics row)))
