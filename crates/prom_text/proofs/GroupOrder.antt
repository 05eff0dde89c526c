-- The groups of a view: each has all members of its name and kind, and they rise.
use Rattle.std.proofs.Common.{◌≡◌, ℕ, Bool, true, false, ◌&&◌, if◌then◌else◌, List, [], ◌∷◌, ◌++◌, map, filter, refl, sym, ap, ◌∙◌, subst, append-nil}
use Rattle.std.specs.Ordering.{nat_cmp, is_lt, is_eq, ordering_then, ordering_reverse}
use Rattle.std.specs.declared.cmp.Ordering.{Ordering}
use Rattle.std.specs.declared.cmp.Ordering.TheVariants.{Less, Equal, Greater}
use Rattle.std.specs.Cmp.{IsTotalOrder, nat_cmp_total, both_tied, then_total, on_total}
use Rattle.std.specs.Cmp.Lexicographic.{slice_cmp, texts_ties, nat_list_cmp_total, on_texts}
use Rattle.std.proofs.lemmas.List.Sorted.{ranks_by, IsPermutation-refl, IsPermutation-sym, IsPermutation-trans, IsPermutation-cons, IsPermutation-middle}
use Rattle.std.proofs.lemmas.List.Elements.{All-from_recursion}
use Rattle.std.specs.List.{All, AllByRecursion, flat_map}
use Rattle.std.specs.List.Sorted.{IsPermutation, IsStrictlySortedBy}
use Rattle.stat_defs.specs.Keys.{same_text, same_kind}
use Rattle.stat_defs.specs.declared.views.FlushView.{FlushView}
use Rattle.text_parts.proofs.Rising.{Rises, all_behind, all_joined}
use Rattle.prom_text.specs.Members.{Member, CounterMember, GaugeMember, HistogramMember, members, kind_of, member_name, is_before, inserted, in_order, same_group, Group, grouped_with, groups_of, text_groups, kind_place, compare_groups}
use Rattle.prom_text.proofs.Groups.{first_group}
use Rattle.prom_text.proofs.Order.{all_placed, all_in_order, picked_first, passed_over, keeps_picked}

abbrev names : Member → Member → Ordering
names a b = slice_cmp nat_cmp (member_name a) (member_name b)

equal_is : (r : Ordering) → is_eq r ≡ true → r ≡ Equal
equal_is Less e = absurd (cc)
equal_is Equal e = refl
equal_is Greater e = absurd (cc)

first_equal : (r s : Ordering) → ordering_then r s ≡ Equal → r ≡ Equal
first_equal Less s e = absurd (cc)
first_equal Equal s e = refl
first_equal Greater s e = absurd (cc)

same_kinds : (a b : Member) → same_kind (kind_of a) (kind_of b) ≡ is_eq (nat_cmp (kind_place a) (kind_place b))
same_kinds (CounterMember r) (CounterMember s) = refl
same_kinds (CounterMember r) (GaugeMember s) = refl
same_kinds (CounterMember r) (HistogramMember s) = refl
same_kinds (GaugeMember r) (CounterMember s) = refl
same_kinds (GaugeMember r) (GaugeMember s) = refl
same_kinds (GaugeMember r) (HistogramMember s) = refl
same_kinds (HistogramMember r) (CounterMember s) = refl
same_kinds (HistogramMember r) (GaugeMember s) = refl
same_kinds (HistogramMember r) (HistogramMember s) = refl

and_flipped : (a b : Bool) → (a && b) ≡ (b && a)
and_flipped true true = refl
and_flipped true false = refl
and_flipped false true = refl
and_flipped false false = refl

-- one group: neither goes before the other
same_is : (a b : Member) → same_group a b ≡ is_eq (compare_groups a b)
same_is a b =
    and_flipped (same_kind (kind_of a) (kind_of b)) (same_text (member_name a) (member_name b))
    ∙ both_tied (same_text (member_name a) (member_name b)) (same_kind (kind_of a) (kind_of b)) (names a b) (nat_cmp (kind_place a) (kind_place b))
    (texts_ties (member_name a) (member_name b)) (same_kinds a b)

group_order : IsTotalOrder compare_groups
group_order = then_total (on_texts member_name) (on_total kind_place nat_cmp_total)

-- neither is less
abbrev goes_before : Member → Member → Bool
goes_before a b = is_lt (compare_groups a b)

-- no kind before it
abbrev KindsRise : List Member → Type 0
KindsRise [] = Unit {0}
KindsRise (m ∷ ms) = AllByRecursion (λ n. is_lt (nat_cmp (kind_place n) (kind_place m)) ≡ false) ms × KindsRise ms

lt_when : (r s : Ordering) → r ≡ Less → is_lt (ordering_then (ordering_reverse r) s) ≡ false
lt_when Less s e = refl
lt_when Equal s e = absurd (cc)
lt_when Greater s e = absurd (cc)

less_is : (r : Ordering) → is_lt r ≡ true → r ≡ Less
less_is Less e = refl
less_is Equal e = absurd (cc)
less_is Greater e = absurd (cc)

-- what is behind by name is not before as a group
behind_by_name : (x y : Member) → is_before y x ≡ true → goes_before x y ≡ false
behind_by_name x y e =
    ap (λ r. is_lt (ordering_then r (nat_cmp (kind_place x) (kind_place y)))) (nat_list_cmp_total.antisymm (member_name x) (member_name y))
    ∙ lt_when (names y x) (nat_cmp (kind_place x) (kind_place y)) (less_is (names y x) e)

not_less : (r s : Ordering) → is_lt r ≡ false → is_lt s ≡ false → is_lt (ordering_then r s) ≡ false
not_less Less s p q = p
not_less Equal s p q = q
not_less Greater s p q = refl

rises_placed_by_group : (x : Member) (ys : List Member) → AllByRecursion (λ n. is_lt (nat_cmp (kind_place n) (kind_place x)) ≡ false) ys
    → Rises goes_before ys → Rises goes_before (inserted is_before x ys)
rises_placed_by_group x [] k r = (tt, tt)
rises_placed_by_group x (y ∷ ys) k r =
    let P : Bool → Type 0 = λ b. Rises goes_before (if b then y ∷ inserted is_before x ys else x ∷ y ∷ ys) in
    let cases : (b : Bool) → is_before y x ≡ b → P b =
    λ b. elim b as (λ b. is_before y x ≡ b → P b) [
      | true ↦ λ e. (
        all_placed is_before (λ z. goes_before z y ≡ false) x ys (behind_by_name x y e) r.0,
        rises_placed_by_group x ys k.1 r.1,
      )
      | false ↦ λ e.
          let h : goes_before y x ≡ false = not_less (names y x) (nat_cmp (kind_place y) (kind_place x)) e k.0 in
          ((h, all_behind goes_before (ranks_by group_order (λ (m : Member). m)) x y ys h r.0), r)
    ] in
    cases (is_before y x) refl

rises_by_group : (ms : List Member) → KindsRise ms → Rises goes_before (in_order is_before ms)
rises_by_group [] k = tt
rises_by_group (m ∷ ms) k =
    rises_placed_by_group m (in_order is_before ms)
    (all_in_order is_before (λ n. is_lt (nat_cmp (kind_place n) (kind_place m)) ≡ false) ms k.0) (rises_by_group ms k.1)

-- a group goes before all that are not in it and not before it
less_or_same : (r : Ordering) → is_lt (ordering_reverse r) ≡ false → is_eq r ≡ false → r ≡ Less
less_or_same Less p q = refl
less_or_same Equal p q = absurd (cc)
less_or_same Greater p q = absurd (cc)

-- the groups of members that rise
abbrev GroupsOf : List Member → List Group → Type 0
GroupsOf ms gs = AllByRecursion (λ g. g.first ∷ g.others ≡ filter (same_group g.first) ms) gs

abbrev GroupsRise : List Group → Type 0
GroupsRise [] = Unit {0}
GroupsRise (g ∷ gs) = AllByRecursion (λ h. compare_groups g.first h.first ≡ Less) gs × GroupsRise gs

same_after : (m n x : Member) → compare_groups m n ≡ Equal → same_group m x ≡ same_group n x
same_after m n x e = same_is m x ∙ ap is_eq (group_order.congr m n x e) ∙ sym (same_is n x)

filter_alike : (p q : Member → Bool) (ms : List Member) → ((x : Member) → p x ≡ q x) → filter p ms ≡ filter q ms
filter_alike p q [] e = refl
filter_alike p q (m ∷ ms) e =
    ap (λ b. if b then m ∷ filter p ms else filter p ms) (e m) ∙ ap (λ l. if q m then m ∷ l else l) (filter_alike p q ms e)

none_picked : (p : Member → Bool) (ms : List Member) → AllByRecursion (λ x. p x ≡ false) ms → filter p ms ≡ []
none_picked p [] a = refl
none_picked p (m ∷ ms) a = passed_over p m ms a.0 ∙ none_picked p ms a.1

not_same : (m x : Member) → compare_groups m x ≡ Less → same_group m x ≡ false
not_same m x e = same_is m x ∙ ap is_eq e

not_same_back : (m x : Member) → compare_groups m x ≡ Less → same_group x m ≡ false
not_same_back m x e = same_is x m ∙ ap is_eq (group_order.antisymm x m ∙ ap ordering_reverse e)

others_stay : (m : Member) (ms : List Member) (gs : List Group) → AllByRecursion (λ h. compare_groups m h.first ≡ Less) gs
    → GroupsOf ms gs → GroupsOf (m ∷ ms) gs
others_stay m ms [] l a = tt
others_stay m ms (g ∷ gs) l a = (
  a.0 ∙ sym (passed_over (same_group g.first) m ms (not_same_back m g.first l.0)),
  others_stay m ms gs l.1 a.1,
)

less_alike : (m n : Member) (gs : List Group) → compare_groups m n ≡ Equal
    → AllByRecursion (λ h. compare_groups n h.first ≡ Less) gs → AllByRecursion (λ h. compare_groups m h.first ≡ Less) gs
less_alike m n [] e a = tt
less_alike m n (g ∷ gs) e a = (group_order.congr m n g.first e ∙ a.0, less_alike m n gs e a.1)

less_through : (m n : Member) (gs : List Group) → compare_groups m n ≡ Less
    → AllByRecursion (λ h. compare_groups n h.first ≡ Less) gs → AllByRecursion (λ h. compare_groups m h.first ≡ Less) gs
less_through m n [] e a = tt
less_through m n (g ∷ gs) e a = (group_order.trans m n g.first e a.0, less_through m n gs e a.1)

equal_after : (m n x : Member) → compare_groups m n ≡ Less → compare_groups n x ≡ Equal → compare_groups m x ≡ Less
equal_after m n x e q =
    group_order.antisymm m x ∙ ap ordering_reverse (sym (group_order.congr n x m q)) ∙ ap ordering_reverse (group_order.antisymm n m ∙ ap ordering_reverse e)

-- what goes before one goes before all that are not before that one
all_less : (m n : Member) (ms : List Member) → compare_groups m n ≡ Less → AllByRecursion (λ x. goes_before x n ≡ false) ms
    → AllByRecursion (λ x. same_group m x ≡ false) ms
all_less m n [] e a = tt
all_less m n (x ∷ xs) e a = (
  (let cases : (b : Bool) → is_eq (compare_groups n x) ≡ b → compare_groups m x ≡ Less =
      λ b. elim b as (λ b. is_eq (compare_groups n x) ≡ b → compare_groups m x ≡ Less) [
        | true ↦ λ q. equal_after m n x e (equal_is (compare_groups n x) q)
        | false ↦ λ q. group_order.trans m n x e (less_or_same (compare_groups n x) (ap is_lt (sym (group_order.antisymm x n)) ∙ a.0) q)
      ] in
      not_same m x (cases (is_eq (compare_groups n x)) refl)),
  all_less m n xs e a.1,
)

own : (r : Ordering) → r ≡ ordering_reverse r → r ≡ Equal
own Less e = absurd (cc)
own Equal e = refl
own Greater e = absurd (cc)

self_same : (m : Member) → same_group m m ≡ true
self_same m = same_is m m ∙ ap is_eq (own (compare_groups m m) (group_order.antisymm m m))

abbrev Grouped : List Member → List Group → Type 0
Grouped ms gs = GroupsOf ms gs × GroupsRise gs

grouping : (m : Member) (ms : List Member) → Rises goes_before (m ∷ ms) → Grouped (m ∷ ms) (grouped_with m (groups_of ms))
grouping m [] r = ((sym (picked_first (same_group m) m [] (self_same m)), tt), (tt, tt))
grouping m (n ∷ ns) r =
    let ms : List Member = n ∷ ns in
    let g = first_group n (groups_of ns) in
    let front : Group = record { first = n; others = g.0 } in
    let below : Grouped ms (front ∷ g.1.0) = subst (Grouped ms) g.1.1 (grouping n ns r.1) in
    let Goal : List Group → Type 0 = λ gs. Grouped (m ∷ ms) (grouped_with m gs) in
    let Joined : Bool → Type 0 = λ b.
    Grouped (m ∷ ms) (if b then (record { first = m; others = n ∷ g.0 }) ∷ g.1.0 else (record { first = m; others = [] }) ∷ front ∷ g.1.0) in
    let cases : (b : Bool) → same_group m n ≡ b → Joined b =
    λ b. elim b as (λ b. same_group m n ≡ b → Joined b) [
      | true ↦ λ e.
          let q : compare_groups m n ≡ Equal = equal_is (compare_groups m n) (sym (same_is m n) ∙ e) in
          let later : AllByRecursion (λ h. compare_groups m h.first ≡ Less) g.1.0 = less_alike m n g.1.0 q below.1.0 in (
            (
              ap (λ l. m ∷ l) (below.0.0 ∙ filter_alike (same_group n) (same_group m) ms (λ x. sym (same_after m n x q)))
                  ∙ sym (picked_first (same_group m) m ms (self_same m)),
              others_stay m ms g.1.0 later below.0.1,
            ),
            (later, below.1.1),
          )
      | false ↦ λ e.
          let q : compare_groups m n ≡ Less =
          less_or_same (compare_groups m n) (ap is_lt (sym (group_order.antisymm n m)) ∙ r.0.0) (sym (same_is m n) ∙ e) in
          let later : AllByRecursion (λ h. compare_groups m h.first ≡ Less) (front ∷ g.1.0) = (q, less_through m n g.1.0 q below.1.0) in (
            (
              sym (picked_first (same_group m) m ms (self_same m)
                  ∙ ap (λ l. m ∷ l) (none_picked (same_group m) ms (not_same m n q, all_less m n ns q r.1.0))),
              others_stay m ms (front ∷ g.1.0) later below.0,
            ),
            (later, below.1),
          )
    ] in
    subst Goal (sym g.1.1) (cases (same_group m n) refl)

grouped : (ms : List Member) → Rises goes_before ms → Grouped ms (groups_of ms)
grouped [] r = (tt, tt)
grouped (m ∷ ms) r = grouping m ms r

-- of one kind
at_kind : {X : Type 0} (f : X → Member) (i j : ℕ) → ((x : X) → kind_place (f x) ≡ i) → is_lt (nat_cmp i j) ≡ false → (xs : List X)
    → AllByRecursion (λ n. is_lt (nat_cmp (kind_place n) j) ≡ false) (map f xs)
at_kind f i j each e [] = tt
at_kind f i j each e (x ∷ xs) = (ap (λ k. is_lt (nat_cmp k j)) (each x) ∙ e, at_kind f i j each e xs)

kinds_before : {X : Type 0} (f : X → Member) (i : ℕ) → ((x : X) → kind_place (f x) ≡ i) → is_lt (nat_cmp i i) ≡ false → (xs : List X)
    (rest : List Member) → AllByRecursion (λ n. is_lt (nat_cmp (kind_place n) i) ≡ false) rest → KindsRise rest → KindsRise (map f xs ++ rest)
kinds_before f i each e [] rest a k = k
kinds_before f i each e (x ∷ xs) rest a k = (
  subst (λ p. AllByRecursion (λ n. is_lt (nat_cmp (kind_place n) p) ≡ false) (map f xs ++ rest)) (sym (each x))
      (all_joined (λ n. is_lt (nat_cmp (kind_place n) i) ≡ false) (map f xs) rest (at_kind f i i each e xs) a),
  kinds_before f i each e xs rest a k,
)

kinds_rise : (view : FlushView) → KindsRise (members view)
kinds_rise view =
    let cs = view.counters in let gs = view.gauges in let hs = view.histograms in
    let last : KindsRise (map HistogramMember hs) =
    subst KindsRise (append-nil (map HistogramMember hs)) (kinds_before HistogramMember 2 (λ x. refl) refl hs [] tt tt) in
    kinds_before CounterMember 0 (λ x. refl) refl cs (map GaugeMember gs ++ map HistogramMember hs)
    (all_joined (λ n. is_lt (nat_cmp (kind_place n) 0) ≡ false) (map GaugeMember gs) (map HistogramMember hs)
    (at_kind GaugeMember 1 0 (λ x. refl) refl gs) (at_kind HistogramMember 2 0 (λ x. refl) refl hs))
    (kinds_before GaugeMember 1 (λ x. refl) refl gs (map HistogramMember hs) (at_kind HistogramMember 2 1 (λ x. refl) refl hs) last)

-- of one name none is before the other
not_before : (f x y : Member) → is_before y x ≡ true → same_group f y ≡ true → same_group f x ≡ true → ⊥
not_before f x y e p q =
    let one : names f y ≡ Equal =
    first_equal (names f y) (nat_cmp (kind_place f) (kind_place y)) (equal_is (compare_groups f y) (sym (same_is f y) ∙ p)) in
    let other : names f x ≡ Equal =
    first_equal (names f x) (nat_cmp (kind_place f) (kind_place x)) (equal_is (compare_groups f x) (sym (same_is f x) ∙ q)) in
    let k : is_before y x ≡ false = ap is_lt (sym (nat_list_cmp_total.congr (member_name f) (member_name y) (member_name x) one) ∙ other) in
    cc

in_view : (view : FlushView) (gs : List Group) → GroupsOf (in_order is_before (members view)) gs → GroupsOf (members view) gs
in_view view [] a = tt
in_view view (g ∷ gs) a = (
  a.0 ∙ keeps_picked is_before (same_group g.first) (not_before g.first) (members view),
  in_view view gs a.1,
)

all_grouped : (view : FlushView) → Grouped (in_order is_before (members view)) (text_groups view)
all_grouped view = grouped (in_order is_before (members view)) (rises_by_group (members view) (kinds_rise view))

-- a group has all members of its name and kind
pub group_is_whole : (view : FlushView) → All (λ g. g.first ∷ g.others ≡ filter (same_group g.first) (members view)) (text_groups view)
group_is_whole view =
    All-from_recursion (λ g. g.first ∷ g.others ≡ filter (same_group g.first) (members view)) (text_groups view)
    (in_view view (text_groups view) (all_grouped view).0)

firsts_later : (g : Group) (gs : List Group) → AllByRecursion (λ h. compare_groups g.first h.first ≡ Less) gs
    → AllByRecursion (λ m. compare_groups g.first m ≡ Less) (map (λ h. h.first) gs)
firsts_later g [] a = tt
firsts_later g (h ∷ hs) a = (a.0, firsts_later g hs a.1)

strictly : (gs : List Group) → GroupsRise gs → IsStrictlySortedBy compare_groups (map (λ g. g.first) gs)
unfolding IsStrictlySortedBy
strictly [] a = tt
strictly (g ∷ gs) a = (firsts_later g gs a.0, strictly gs a.1)

-- each group goes before those behind it
pub groups_rise : (view : FlushView) → IsStrictlySortedBy compare_groups (map (λ g. g.first) (text_groups view))
groups_rise view = strictly (text_groups view) (all_grouped view).1

abbrev all_members : List Group → List Member
all_members gs = flat_map (λ g. g.first ∷ g.others) gs

members_with : (m : Member) (gs : List Group) → all_members (grouped_with m gs) ≡ m ∷ all_members gs
members_with m [] = refl
members_with m (g ∷ gs) =
    elim (same_group m g.first) as (λ b. all_members (if b then (record { first = m; others = g.first ∷ g.others }) ∷ gs
    else (record { first = m; others = [] }) ∷ g ∷ gs) ≡ m ∷ all_members (g ∷ gs)) [ true ↦ refl | false ↦ refl ]

members_of_groups : (ms : List Member) → all_members (groups_of ms) ≡ ms
members_of_groups [] = refl
members_of_groups (m ∷ ms) = members_with m (groups_of ms) ∙ ap (λ l. m ∷ l) (members_of_groups ms)

placed_permutes : {X : Type 0} (lt : X → X → Bool) (x : X) (ys : List X) → IsPermutation (x ∷ ys) (inserted lt x ys)
placed_permutes lt x [] = IsPermutation-refl (x ∷ [])
placed_permutes lt x (y ∷ ys) =
    elim (lt y x) as (λ b. IsPermutation (x ∷ y ∷ ys) (if b then y ∷ inserted lt x ys else x ∷ y ∷ ys)) [
      | true ↦ IsPermutation-trans (x ∷ y ∷ ys) (y ∷ x ∷ ys) (y ∷ inserted lt x ys)
          (IsPermutation-sym (y ∷ x ∷ ys) (x ∷ y ∷ ys) (IsPermutation-middle (y ∷ []) x ys))
          (IsPermutation-cons y (x ∷ ys) (inserted lt x ys) (placed_permutes lt x ys))
      | false ↦ IsPermutation-refl (x ∷ y ∷ ys)
    ]

in_order_permutes : {X : Type 0} (lt : X → X → Bool) (xs : List X) → IsPermutation xs (in_order lt xs)
in_order_permutes lt [] = IsPermutation-refl []
in_order_permutes lt (x ∷ xs) =
    IsPermutation-trans (x ∷ xs) (x ∷ in_order lt xs) (inserted lt x (in_order lt xs))
    (IsPermutation-cons x xs (in_order lt xs) (in_order_permutes lt xs)) (placed_permutes lt x (in_order lt xs))

-- the groups have the members of the view
pub groups_have_all : (view : FlushView) → IsPermutation (members view) (flat_map (λ g. g.first ∷ g.others) (text_groups view))
groups_have_all view =
    subst (IsPermutation (members view)) (sym (members_of_groups (in_order is_before (members view))))
    (in_order_permutes is_before (members view))
