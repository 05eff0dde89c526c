-- Members that are written one behind another give the text of their groups.
use Rattle.std.proofs.Common.{◌≡◌, ℕ, true, false, not, if◌then◌else◌, Some, None, List, [], ◌∷◌, ◌++◌, refl, sym, ap, ◌∙◌, append_assoc, append-nil}
use Rattle.std.proofs.lemmas.List.{append_cancel_left}
use Rattle.std.specs.List.{flat_map}
use Rattle.prom_text.specs.Members.{Member, Group, same_group, grouped_with, groups_of}
use Rattle.prom_text.specs.Prometheus.{type_line, member_lines, group_text}
use Rattle.prom_text.specs.Rows.{text_from}

-- a member is the first of the group that it goes to
pub first_group : (m : Member) (gs : List Group)
    → (others : List Member) × ((rest : List Group) × (grouped_with m gs ≡ (record { first = m; others = others }) ∷ rest))
first_group m [] = ([], ([], refl))
first_group m (g ∷ gs) =
    elim (same_group m g.first) as (λ b. (others : List Member) × ((rest : List Group)
    × ((if b then (record { first = m; others = g.first ∷ g.others }) ∷ gs else (record { first = m; others = [] }) ∷ g ∷ gs)
    ≡ (record { first = m; others = others }) ∷ rest))) [
      | true ↦ (g.first ∷ g.others, (gs, refl))
      | false ↦ ([], (g ∷ gs, refl))
    ]

in_one_group : (tm lm tn ln on r t : List ℕ) → (tn ++ (ln ++ on)) ++ r ≡ tn ++ (ln ++ t)
    → (tm ++ (lm ++ (ln ++ on))) ++ r ≡ tm ++ (lm ++ (ln ++ t))
in_one_group tm lm tn ln on r t e =
    let k : (ln ++ on) ++ r ≡ ln ++ t = append_cancel_left tn ((ln ++ on) ++ r) (ln ++ t) (sym (append_assoc tn (ln ++ on) r) ∙ e) in
    append_assoc tm (lm ++ (ln ++ on)) r ∙ ap (λ l. tm ++ l) (append_assoc lm (ln ++ on) r ∙ ap (λ l. lm ++ l) k)

in_two_groups : (tm lm x y : List ℕ) → x ≡ y → (tm ++ (lm ++ [])) ++ x ≡ tm ++ (lm ++ y)
in_two_groups tm lm x y e = ap (λ l. (tm ++ l) ++ x) (append-nil lm) ∙ append_assoc tm lm x ∙ ap (λ l. tm ++ (lm ++ l)) e

-- the text of the groups that a member goes to
text_with : (m : Member) (ms : List Member)
    → flat_map group_text (grouped_with m (groups_of ms)) ≡ type_line m ++ (member_lines m ++ text_from (Some m) ms)
text_with m [] = append-nil (type_line m ++ (member_lines m ++ []))
text_with m (n ∷ ns) =
    let g = first_group n (groups_of ns) in
    let F : List Group → List ℕ = λ gs. flat_map group_text gs in
    let tail : List ℕ = text_from (Some n) ns in
    let inner : (type_line n ++ (member_lines n ++ flat_map member_lines g.0)) ++ F g.1.0 ≡ type_line n ++ (member_lines n ++ tail) =
    sym (ap F g.1.1) ∙ text_with n ns in
    ap (λ gs. F (grouped_with m gs)) g.1.1
    ∙ (elim (same_group m n) as (λ b.
    F (if b then (record { first = m; others = n ∷ g.0 }) ∷ g.1.0 else (record { first = m; others = [] }) ∷ (record { first = n; others = g.0 }) ∷ g.1.0)
    ≡ type_line m ++ (member_lines m ++ (((if not b then type_line n else []) ++ member_lines n) ++ tail))) [
      | true ↦ in_one_group (type_line m) (member_lines m) (type_line n) (member_lines n) (flat_map member_lines g.0) (F g.1.0) tail inner
      | false ↦ in_two_groups (type_line m) (member_lines m) ((type_line n ++ (member_lines n ++ flat_map member_lines g.0)) ++ F g.1.0)
          ((type_line n ++ member_lines n) ++ tail) (inner ∙ sym (append_assoc (type_line n) (member_lines n) tail))
    ])

pub text_of_groups : (ms : List Member) → text_from None ms ≡ flat_map group_text (groups_of ms)
text_of_groups [] = refl
text_of_groups (m ∷ ms) = append_assoc (type_line m) (member_lines m) (text_from (Some m) ms) ∙ sym (text_with m ms)
