-- Each call leaves a state that a run comes to as such a one.
use Rattle.std.proofs.Common.{◌≡◌, ◌≢◌, ℕ, zero, suc, ◌+◌, ◌<◌, ◌≤◌, ◌||◌, nat_eq, nat_le, Bool, true, false, cond, Option, Some, None, List, [], ◌∷◌, ◌++◌, map, length, slice_get, zip, refl, ap, sym, ◌∙◌, subst, arith, inl, inr}
use Rattle.std.proofs.lemmas.Bool.Decides.{nat_tests}
use Rattle.std.specs.Option.{option_map, option_map_or}
use Rattle.stat_defs.specs.declared.metrics.Life.{Life}
use Rattle.stat_defs.specs.declared.metrics.Life.TheVariants.{Live, Retired, Gone}
use Rattle.stat_defs.specs.Names.{tokens}
use Rattle.book_state.specs.State.{Scope, Row, Seat, State, is_gone, bears}
use Rattle.book_state.specs.Step.{change_at, on_metric, is_live, closed, released, left_to, overdue, swept}
use Rattle.book_state.specs.RunState.{IsAbove, IsRow, IsRunState}
use Rattle.book_state.specs.Bearing.{has, NoDoubles}
use Rattle.book_state.proofs.Lists.{true_false, get_push_before, get_change_same, get_change_other, length-change_at}
use Rattle.std.proofs.lemmas.List.{length-append}
use Rattle.book_state.proofs.Releasing.{same_number, others, has_others, has_gone, has_left, apart_others}
use Rattle.book_state.proofs.Members.{one_of, all_passes}
use Rattle.book_state.proofs.Moving.{Goes, Grows, Keeps, kept_all, all_mapped, one_changed, all_same}

live_gone : Live ≡ Gone → ⊥
live_gone e = absurd cc

-- a metric that a step leaves as it is
pub same_goes : (s : State) (scopes : List Scope) (row : Row) → Goes s scopes row row
same_goes s scopes row = record { kind = refl; life = λ j seat at e tag above. above; bearers = λ k live b. b }

-- the state of a scope by its number
pub live_within : (scopes : List Scope) (k : ℕ) → is_live scopes k ≡ true → k < length scopes
live_within [] k e = absurd (true_false (sym e))
live_within (x ∷ scopes) zero e = omega arith
live_within (x ∷ scopes) (suc k) e = omega (arith, live_within scopes k e)

pub live_pushed : (scopes : List Scope) (x : Scope) (k : ℕ) → k < length scopes → is_live (scopes ++ x ∷ []) k ≡ is_live scopes k
live_pushed scopes x k within = ap (λ (o : Option Scope). option_map_or (λ scope. scope.live) o false) (get_push_before scopes x k (λ e. omega (arith, within, e)))

pub live_other : (scopes : List Scope) (id k : ℕ) → k ≢ id → is_live (change_at closed id scopes) k ≡ is_live scopes k
live_other scopes id k other = ap (λ (o : Option Scope). option_map_or (λ scope. scope.live) o false) (get_change_other closed id scopes k other)

closed_dead : (o : Option Scope) → option_map_or (λ (scope : Scope). scope.live) (option_map closed o) false ≡ true → ⊥
closed_dead None e = true_false (sym e)
closed_dead (Some scope) e = true_false (sym e)

pub live_closed : (scopes : List Scope) (id k : ℕ) → is_live (change_at closed id scopes) k ≡ true → k ≢ id
live_closed scopes id k live same = closed_dead (slice_get scopes id)
    (ap (λ (o : Option Scope). option_map_or (λ scope. scope.live) o false)
    (sym (get_change_same closed id scopes) ∙ ap (λ (j : ℕ). slice_get (change_at closed id scopes) j) (sym same)) ∙ live)

pub live_retired : (release : ℕ) → Retired release ≡ Live → ⊥
live_retired release e = absurd cc

gone_retired : (release : ℕ) → Gone ≡ Retired release → ⊥
gone_retired release e = absurd cc

retired_same : (a b : ℕ) → Retired a ≡ Retired b → a ≡ b
retired_same a b e = cc

pub has_first : (k : ℕ) (ks : List ℕ) → has k (k ∷ ks) ≡ true
has_first k ks = rw (same_number k) refl

pub has_one : (k j : ℕ) → has k (j ∷ []) ≡ true → k ≡ j
has_one k j e = elim (one_of (nat_eq k j) false e) [ inl same ↦ grind (arith, nat_tests) | inr none ↦ absurd (true_false (sym none)) ]

-- an opening
abbrev with_scope : State → Scope → State
with_scope s scope = record s { scopes = s.scopes ++ scope ∷ [] }

pub opened_kept : (s : State) (scope : Scope) → IsRunState s → IsRunState (with_scope s scope)
opened_kept s scope is = kept_all s (with_scope s scope) (all_same s (with_scope s scope) (record {
  seats = refl;
  releases = omega arith;
  more = omega (arith, length-append s.scopes (scope ∷ []));
  dead = λ k within live. sym (live_pushed s.scopes scope k within) ∙ live;
}) refl (λ i row at.
    let was = is.rows i row at in record {
      goes = same_goes s (with_scope s scope).scopes row;
      is = record {
        live = λ k b. let l = was.live k b in live_pushed s.scopes scope k (live_within s.scopes k l) ∙ l;
        used = was.used;
        borne = was.borne;
        past = was.past;
        numbers = was.numbers;
        apart = was.apart;
      };
      symbols = inl refl;
    })) is

-- a release
abbrev without : State → ℕ → State
without s id = record s { scopes = change_at closed id s.scopes; metrics = map (released id (s.releases + 1)) s.metrics; releases = s.releases + 1 }

module _ (s : State) (id : ℕ) (row : Row) (is : IsRow s.scopes s.releases row) where
  left_case : bears id row ≡ true → (left : List ℕ) → others id row.bearers ≡ left → Keeps s (without s id) row (left_to (s.releases + 1) row.metric left)
  left_case bore [] e = record {
    goes = record {
      kind = refl;
      life = λ j seat at works tag above. omega (arith, tag);
      bearers = λ k live b. absurd (true_false (sym (ap (has k) (sym e) ∙ (has_others id k row.bearers (live_closed s.scopes id k live) ∙ b))));
    };
    is = record {
      live = λ k b. absurd (true_false (sym b));
      used = λ k b. absurd (true_false (sym b));
      borne = λ l. absurd (live_retired (s.releases + 1) l);
      past = λ r l. omega (arith, retired_same (s.releases + 1) r l);
      numbers = is.numbers;
      apart = tt;
    };
    symbols = inl (ap (λ (life : Life). cond (is_gone life) [] (zip (tokens row.metric.name) row.metric.numbers)) (sym (is.used id bore)));
  }
  left_case bore (b ∷ bs) e =
      let left : (k : ℕ) → has k (b ∷ bs) ≡ true → has k (others id row.bearers) ≡ true = λ k h. ap (has k) e ∙ h in
      let was : (k : ℕ) → has k (b ∷ bs) ≡ true → has k row.bearers ≡ true = λ k h. has_left id k row.bearers (left k h) in
      let apart : (k : ℕ) → has k (b ∷ bs) ≡ true → k ≢ id = λ k h same. true_false (sym (left k h) ∙ (ap (λ (j : ℕ). has j (others id row.bearers)) same ∙ has_gone id row.bearers)) in record {
        goes = record {
          kind = refl;
          life = λ j seat at works tag above. above;
          bearers = λ k live bk. ap (has k) (sym e) ∙ (has_others id k row.bearers (live_closed s.scopes id k live) ∙ bk);
        };
        is = record {
          live = λ k h. live_other s.scopes id k (apart k h) ∙ is.live k (was k h);
          used = λ k h. is.used k (was k h);
          borne = λ l. (b, has_first b bs);
          past = λ r l. omega (arith, is.past r l);
          numbers = is.numbers;
          apart = subst NoDoubles e (apart_others id row.bearers is.apart);
        };
        symbols = inl refl;
      }

  release_case : (t : Bool) → bears id row ≡ t → Keeps s (without s id) row (cond t (left_to (s.releases + 1) row.metric (others id row.bearers)) row)
  release_case true e = left_case e (others id row.bearers) refl
  release_case false e = record {
    goes = same_goes s (without s id).scopes row;
    is = record {
      live = λ k h. live_other s.scopes id k (λ same. true_false (sym h ∙ (ap (λ (j : ℕ). bears j row) same ∙ e))) ∙ is.live k h;
      used = is.used;
      borne = is.borne;
      past = λ r l. omega (arith, is.past r l);
      numbers = is.numbers;
      apart = is.apart;
    };
    symbols = inl refl;
  }

pub released_kept : (s : State) (id : ℕ) → IsRunState s → IsRunState (without s id)
released_kept s id is = kept_all s (without s id) (all_mapped s (without s id) (released id (s.releases + 1)) (record {
  seats = refl;
  releases = omega arith;
  more = omega (arith, length-change_at closed id s.scopes);
  dead = λ k within live. sym (live_other s.scopes id k (live_closed s.scopes id k live)) ∙ live;
}) refl (λ i row at. release_case s id row (is.rows i row at) (bears id row) refl)) is

-- where no scope changes
pub same_grows : (s s' : State) → s'.seats ≡ s.seats → s'.releases ≡ s.releases → s'.scopes ≡ s.scopes → Grows s s'
same_grows s s' seats releases scopes = record {
  seats = seats;
  releases = omega (arith, releases);
  more = omega (arith, ap length scopes);
  dead = λ k within live. ap (λ (l : List Scope). is_live l k) (sym scopes) ∙ live;
}

pub same_keeps : (s s' : State) (row : Row) → s'.scopes ≡ s.scopes → s'.releases ≡ s.releases → IsRow s.scopes s.releases row → Keeps s s' row row
same_keeps s s' row scopes releases is = record {
  goes = same_goes s s'.scopes row;
  is = record {
    live = λ k b. ap (λ (l : List Scope). is_live l k) scopes ∙ is.live k b;
    used = is.used;
    borne = is.borne;
    past = λ r l. omega (arith, releases, is.past r l);
    numbers = is.numbers;
    apart = is.apart;
  };
  symbols = inl refl;
}

-- a sweep
abbrev after_sweep : State → State
after_sweep s = record s { metrics = map (swept s.seats) s.metrics }

not_overdue : (seats : List Seat) (j : ℕ) (seat : Seat) (life : Life) → overdue seats life ≡ true → slice_get seats j ≡ Some seat → seat.ended ≡ false → IsAbove seat.tag life → ⊥
not_overdue seats j seat Live due at works above = true_false (sym due)
not_overdue seats j seat Gone due at works above = above
not_overdue seats j seat (Retired r) due at works above = elim (one_of seat.ended (nat_le r seat.tag) (all_passes (λ (row : Seat). row.ended || nat_le r row.tag) seats j seat due at)) [
  | inl e ↦ true_false (sym e ∙ works)
  | inr e ↦ let below : r ≤ seat.tag = grind (arith, nat_tests) in absurd (omega (arith, below, above))
]

overdue_used : (seats : List Seat) (l : Life) → overdue seats l ≡ true → l ≡ Live → ⊥
overdue_used seats l due e = true_false (sym (ap (overdue seats) (sym e) ∙ due))

swept_case : (s : State) (row : Row) → IsRow s.scopes s.releases row → (t : Bool) → overdue s.seats row.metric.life ≡ t
    → Keeps s (after_sweep s) row (cond t (record row { metric = record row.metric { life = Gone } }) row)
swept_case s row is true due = record {
  goes = record {
    kind = refl;
    life = λ j seat at works tag above. not_overdue s.seats j seat row.metric.life due at works above;
    bearers = λ k live b. b;
  };
  is = record {
    live = is.live;
    used = λ k b. absurd (overdue_used s.seats row.metric.life due (is.used k b));
    borne = λ l. absurd (live_gone (sym l));
    past = λ r l. absurd (gone_retired r l);
    numbers = is.numbers;
    apart = is.apart;
  };
  symbols = inr refl;
}
swept_case s row is false due = same_keeps s (after_sweep s) row refl refl is

pub swept_kept : (s : State) → IsRunState s → IsRunState (after_sweep s)
swept_kept s is = kept_all s (after_sweep s) (all_mapped s (after_sweep s) (swept s.seats) (same_grows s (after_sweep s) refl refl refl) refl
    (λ i row at. swept_case s row (is.rows i row at) (overdue s.seats row.metric.life) refl)) is

-- a text that is set
abbrev with_text : List ℕ → Row → Row
with_text text row = record row { metric = record row.metric { text = text } }

abbrev with_text_at : State → ℕ → List ℕ → State
with_text_at s id text = on_metric (with_text text) id s

pub text_kept : (s : State) (id : ℕ) (text : List ℕ) → IsRunState s → IsRunState (with_text_at s id text)
text_kept s id text is = kept_all s (with_text_at s id text) (one_changed s (with_text_at s id text) (with_text text) id (same_grows s (with_text_at s id text) refl refl refl) refl
    (λ row at. let was = is.rows id row at in record {
      goes = record { kind = refl; life = λ j seat e works tag above. above; bearers = λ k live b. b };
      is = record { live = was.live; used = was.used; borne = was.borne; past = was.past; numbers = was.numbers; apart = was.apart };
      symbols = inl refl;
    })
    (λ i row at. same_keeps s (with_text_at s id text) row refl refl (is.rows i row at))) is
