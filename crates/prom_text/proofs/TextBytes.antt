-- Every byte of the text.
use Rattle.std.proofs.Common.{◌≡◌, ℕ, Bool, true, false, ◌==◌, ◌&&◌, ◌||◌, if◌then◌else◌, List, [], ◌∷◌, ◌++◌, codes, refl, ap, ◌∙◌}
use Rattle.std.proofs.lemmas.Bool.{eq-eqb}
use Rattle.std.specs.List.{AllByRecursion, list_all, list_any, flat_map}
use Rattle.std.specs.Fmt.{decimal}
use Rattle.stat_defs.specs.declared.metrics.Tag.{Tag}
use Rattle.stat_defs.specs.declared.metrics.Tagged.{Tagged}
use Rattle.stat_defs.specs.declared.bins.Bound.{Bound}
use Rattle.stat_defs.specs.declared.views.HistRow.{HistRow}
use Rattle.stat_defs.specs.declared.views.FlushView.{FlushView}
use Rattle.loglinear_bins.specs.Counts.{total, count_at_most, sum_of}
use Rattle.text_parts.specs.Decimals.{halves, twentieths}
use Rattle.prom_text.specs.Labels.{printed_name, bound_label}
use Rattle.prom_text.specs.Members.{Member, CounterMember, GaugeMember, HistogramMember, members, tagged_of, member_name, kind_word, is_before, in_order, same_group, Group, grouped_with, groups_of, text_groups}
use Rattle.prom_text.specs.Prometheus.{sample, labels_of, bucket_line, bound_line, histogram_lines, member_lines, type_line, group_text, prom_text}
use Rattle.prom_text.specs.Values.{is_text_byte, is_value_byte}
use Rattle.text_parts.proofs.Rising.{all_joined}
use Rattle.prom_text.proofs.Order.{all_in_order}
use Rattle.prom_text.proofs.Bytes.{Holds, HoldsOfTags, all_given, all_name, all_sample, all_decimal, all_signed, all_halves, all_twentieths, all_labels_of, all_flat}

all_bound_label : (P : ℕ → Type 0) → Holds P → (bound : List ℕ) → AllByRecursion P bound → AllByRecursion P (bound_label bound)
all_bound_label P h bound a =
    all_joined P (codes "le=\"") (bound ++ codes "\"") (all_given P h (codes "le=\"") refl)
    (all_joined P bound (codes "\"") a (all_given P h (codes "\"") refl))

all_bucket : (P : ℕ → Type 0) → Holds P → (tagged : Tagged) (bound : List ℕ) (count : ℕ) → HoldsOfTags P tagged.tags
    → AllByRecursion P bound → AllByRecursion P (bucket_line tagged bound count)
all_bucket P h tagged bound count v a =
    all_sample P h (printed_name tagged.extracted ++ codes "_bucket") (labels_of tagged ++ bound_label bound ∷ []) (decimal count)
    (all_joined P (printed_name tagged.extracted) (codes "_bucket") (all_name P h tagged.extracted) (all_given P h (codes "_bucket") refl))
    (all_joined (AllByRecursion P) (labels_of tagged) (bound_label bound ∷ []) (all_labels_of P h tagged v) (all_bound_label P h bound a, tt))
    (all_decimal P h count)

all_bounds : (P : ℕ → Type 0) → Holds P → (row : HistRow) (bounds : List Bound) → HoldsOfTags P row.tagged.tags
    → AllByRecursion (λ bound. AllByRecursion P (bound_line row bound)) bounds
all_bounds P h row [] v = tt
all_bounds P h row (bound ∷ bounds) v = (
  all_bucket P h row.tagged (halves bound.halves) (count_at_most row.cumulative bound.halves) v (all_halves P h bound.halves),
  all_bounds P h row bounds v,
)

all_suffixed : (P : ℕ → Type 0) → Holds P → (tagged : Tagged) (suffix value : List ℕ) → HoldsOfTags P tagged.tags
    → AllByRecursion P suffix → AllByRecursion P value → AllByRecursion P (sample (printed_name tagged.extracted ++ suffix) (labels_of tagged) value)
all_suffixed P h tagged suffix value v s a =
    all_sample P h (printed_name tagged.extracted ++ suffix) (labels_of tagged) value
    (all_joined P (printed_name tagged.extracted) suffix (all_name P h tagged.extracted) s) (all_labels_of P h tagged v) a

all_histogram : (P : ℕ → Type 0) → Holds P → (row : HistRow) → HoldsOfTags P row.tagged.tags
    → AllByRecursion P (histogram_lines row)
all_histogram P h row v =
    let last = bucket_line row.tagged (codes "+Inf") (total row.cumulative) in
    let sum = sample (printed_name row.tagged.extracted ++ codes "_sum") (labels_of row.tagged) (twentieths (sum_of row.cumulative)) in
    let count = sample (printed_name row.tagged.extracted ++ codes "_count") (labels_of row.tagged) (decimal (total row.cumulative)) in
    all_joined P (flat_map (bound_line row) row.bounds) (last ++ (sum ++ count))
    (all_flat P (bound_line row) row.bounds (all_bounds P h row row.bounds v))
    (all_joined P last (sum ++ count)
    (all_bucket P h row.tagged (codes "+Inf") (total row.cumulative) v (all_given P h (codes "+Inf") refl))
    (all_joined P sum count
    (all_suffixed P h row.tagged (codes "_sum") (twentieths (sum_of row.cumulative)) v (all_given P h (codes "_sum") refl)
    (all_twentieths P h (sum_of row.cumulative)))
    (all_suffixed P h row.tagged (codes "_count") (decimal (total row.cumulative)) v (all_given P h (codes "_count") refl)
    (all_decimal P h (total row.cumulative)))))

all_lines : (P : ℕ → Type 0) → Holds P → (member : Member) → HoldsOfTags P (tagged_of member).tags → AllByRecursion P (member_lines member)
all_lines P h (CounterMember row) v =
    all_sample P h (printed_name row.tagged.extracted) (labels_of row.tagged) (decimal row.total)
    (all_name P h row.tagged.extracted) (all_labels_of P h row.tagged v) (all_decimal P h row.total)
all_lines P h (GaugeMember row) v =
    all_sample P h (printed_name row.tagged.extracted) (labels_of row.tagged) _
    (all_name P h row.tagged.extracted) (all_labels_of P h row.tagged v) (all_signed P h row.value)
all_lines P h (HistogramMember row) v = all_histogram P h row v

all_word : (P : ℕ → Type 0) → Holds P → (member : Member) → AllByRecursion P (kind_word member)
all_word P h (CounterMember row) = all_given P h (codes "counter") refl
all_word P h (GaugeMember row) = all_given P h (codes "gauge") refl
all_word P h (HistogramMember row) = all_given P h (codes "histogram") refl

all_type : (P : ℕ → Type 0) → Holds P → (member : Member) → AllByRecursion P (type_line member)
all_type P h member =
    all_joined P (codes "# TYPE ") (member_name member ++ (32 ∷ (kind_word member ++ 10 ∷ []))) (all_given P h (codes "# TYPE ") refl)
    (all_joined P (member_name member) (32 ∷ (kind_word member ++ 10 ∷ [])) (all_name P h (tagged_of member).extracted)
    (h.at 32 refl, all_joined P (kind_word member) (10 ∷ []) (all_word P h member) (h.at 10 refl, tt)))

-- of the tags of members
abbrev OfMembers : (ℕ → Type 0) → List Member → Type 0
OfMembers P ms = AllByRecursion (λ member. HoldsOfTags P (tagged_of member).tags) ms

abbrev OfGroups : (ℕ → Type 0) → List Group → Type 0
OfGroups P gs = AllByRecursion (λ group. OfMembers P (group.first ∷ group.others)) gs

all_grouped : (P : ℕ → Type 0) (m : Member) (gs : List Group) → HoldsOfTags P (tagged_of m).tags → OfGroups P gs
    → OfGroups P (grouped_with m gs)
all_grouped P m [] v a = ((v, tt), tt)
all_grouped P m (g ∷ gs) v a =
    elim (same_group m g.first) as (λ b. OfGroups P (if b then (record { first = m; others = g.first ∷ g.others }) ∷ gs
    else (record { first = m; others = [] }) ∷ g ∷ gs)) [
      | true ↦ ((v, a.0), a.1)
      | false ↦ ((v, tt), a)
    ]

all_groups : (P : ℕ → Type 0) (ms : List Member) → OfMembers P ms → OfGroups P (groups_of ms)
all_groups P [] a = tt
all_groups P (m ∷ ms) a = all_grouped P m (groups_of ms) a.0 (all_groups P ms a.1)

each_line : (P : ℕ → Type 0) → Holds P → (ms : List Member) → OfMembers P ms → AllByRecursion (λ m. AllByRecursion P (member_lines m)) ms
each_line P h [] a = tt
each_line P h (m ∷ ms) a = (all_lines P h m a.0, each_line P h ms a.1)

each_group : (P : ℕ → Type 0) → Holds P → (gs : List Group) → OfGroups P gs → AllByRecursion (λ g. AllByRecursion P (group_text g)) gs
each_group P h [] a = tt
each_group P h (g ∷ gs) a = (
  all_joined P (type_line g.first) (flat_map member_lines (g.first ∷ g.others)) (all_type P h g.first)
      (all_flat P member_lines (g.first ∷ g.others) (each_line P h (g.first ∷ g.others) a.0)),
  each_group P h gs a.1,
)

all_text : (P : ℕ → Type 0) → Holds P → (view : FlushView) → OfMembers P (members view) → AllByRecursion P (prom_text view)
all_text P h view a =
    all_flat P group_text (text_groups view) (each_group P h (text_groups view) (all_groups P (in_order is_before (members view))
    (all_in_order is_before (λ member. HoldsOfTags P (tagged_of member).tags) (members view) a)))

left_true : (a b : Bool) → a ≡ true → (a || b) ≡ true
left_true true b h = refl
left_true false b h = absurd (cc)

right_true : (a b : Bool) → b ≡ true → (a || b) ≡ true
right_true true b h = refl
right_true false b h = h

weakened : {X : Type 0} (q : X → ℕ → Bool) (y : X) (xs ys : List X)
    → AllByRecursion (λ x. (b : ℕ) → q x b ≡ true → list_any (λ z. q z b) ys ≡ true) xs
    → AllByRecursion (λ x. (b : ℕ) → q x b ≡ true → list_any (λ z. q z b) (y ∷ ys) ≡ true) xs
weakened q y [] ys a = tt
weakened q y (x ∷ xs) ys a = ((λ b e. right_true (q y b) (list_any (λ z. q z b) ys) (a.0 b e)), weakened q y xs ys a.1)

-- what passes at one passes at some
at_some : {X : Type 0} (q : X → ℕ → Bool) (xs : List X)
    → AllByRecursion (λ x. (b : ℕ) → q x b ≡ true → list_any (λ z. q z b) xs ≡ true) xs
at_some q [] = tt
at_some q (x ∷ xs) = ((λ b e. left_true (q x b) (list_any (λ z. q z b) xs) e), weakened q x xs xs (at_some q xs))

abbrev is_of_value : List ℕ → ℕ → Bool
is_of_value value b = list_any (λ c. c == b) value

abbrev is_of_tag : Tag → ℕ → Bool
is_of_tag tag b = is_of_value tag.value b

abbrev is_of_member : Member → ℕ → Bool
is_of_member member b = list_any (λ tag. is_of_tag tag b) (tagged_of member).tags

through : (P : ℕ → Type 0) (value bs : List ℕ)
    → AllByRecursion (λ c. (b : ℕ) → (c == b) ≡ true → is_of_value value b ≡ true) bs
    → ((b : ℕ) → is_of_value value b ≡ true → P b) → AllByRecursion P bs
through P value [] a f = tt
through P value (b ∷ bs) a f = (f b (a.0 b (eq-eqb b b refl)), through P value bs a.1 f)

of_value : (P : ℕ → Type 0) (value : List ℕ) → ((b : ℕ) → is_of_value value b ≡ true → P b) → AllByRecursion P value
of_value P value f = through P value value (at_some (λ c b. c == b) value) f

of_tags : (P : ℕ → Type 0) (tags others : List Tag)
    → AllByRecursion (λ tag. (b : ℕ) → is_of_tag tag b ≡ true → list_any (λ z. is_of_tag z b) others ≡ true) tags
    → ((b : ℕ) → list_any (λ z. is_of_tag z b) others ≡ true → P b) → AllByRecursion (λ tag. AllByRecursion P tag.value) tags
of_tags P [] others a f = tt
of_tags P (tag ∷ tags) others a f = (of_value P tag.value (λ b e. f b (a.0 b e)), of_tags P tags others a.1 f)

of_members : (P : ℕ → Type 0) (ms others : List Member)
    → AllByRecursion (λ m. (b : ℕ) → is_of_member m b ≡ true → list_any (λ z. is_of_member z b) others ≡ true) ms
    → ((b : ℕ) → list_any (λ z. is_of_member z b) others ≡ true → P b) → OfMembers P ms
of_members P [] others a f = tt
of_members P (m ∷ ms) others a f = (
  record { values = of_tags P (tagged_of m).tags (tagged_of m).tags (at_some is_of_tag (tagged_of m).tags) (λ b e. f b (a.0 b e)) },
  of_members P ms others a.1 f,
)

all_pass : (p : ℕ → Bool) (text : List ℕ) → AllByRecursion (λ b. p b ≡ true) text → list_all p text ≡ true
all_pass p [] a = refl
all_pass p (b ∷ bs) a = ap (λ t. t && list_all p bs) a.0 ∙ all_pass p bs a.1

-- each byte is one of the text's own or one of a tag's value
pub text_bytes : (view : FlushView) → list_all (λ b. is_text_byte b || is_value_byte view b) (prom_text view) ≡ true
text_bytes view =
    let P : ℕ → Type 0 = λ b. (is_text_byte b || is_value_byte view b) ≡ true in
    all_pass (λ b. is_text_byte b || is_value_byte view b) (prom_text view)
    (all_text P (record { at = λ b e. left_true (is_text_byte b) (is_value_byte view b) e }) view
    (of_members P (members view) (members view) (at_some is_of_member (members view))
    (λ b e. right_true (is_text_byte b) (is_value_byte view b) e)))
