-- Keys are compared as the definitions compare them, and keys that compare as the same are equal.
use Rattle.std.proofs.Common.{◌≡◌, Bool, true, false, ◌&&◌, refl, sym, true≢false, nat_eq}
use Rattle.std.specs.Cmp.Lexicographic.{pointwise, same_text as text_of_eq}
use Rattle.std.proofs.lemmas.Cmp.{nat_list_eq_equiv}
use Rattle.stat_defs.specs.declared.events.Key.{Key}
use Rattle.stat_defs.specs.declared.ids.Kind.{Kind}
use Rattle.stat_defs.specs.declared.ids.Kind.TheVariants.{Counter, Gauge, Histogram, Text}
use Rattle.stat_defs.specs.declared.ids.Mode.{Mode}
use Rattle.stat_defs.specs.declared.ids.Mode.TheVariants.{Uninit, Accumulate, Never}
use Rattle.stat_defs.specs.contracts.ids.KindPartialEq.TheImpl as kind_eq
use Rattle.stat_defs.specs.contracts.ids.ModePartialEq.TheImpl as mode_eq
use Rattle.stat_defs.specs.contracts.events.KeyPartialEq.TheImpl as key_eq
use Rattle.stat_defs.specs.Keys.{same_kind, same_mode, same_key}

-- the derived comparisons are those of the definitions
pub kind_eq-is : (a b : Kind) → kind_eq.eq-value.it a b ≡ same_kind a b
kind_eq-is Counter Counter = refl
kind_eq-is Counter Gauge = refl
kind_eq-is Counter Histogram = refl
kind_eq-is Counter Text = refl
kind_eq-is Gauge Counter = refl
kind_eq-is Gauge Gauge = refl
kind_eq-is Gauge Histogram = refl
kind_eq-is Gauge Text = refl
kind_eq-is Histogram Counter = refl
kind_eq-is Histogram Gauge = refl
kind_eq-is Histogram Histogram = refl
kind_eq-is Histogram Text = refl
kind_eq-is Text Counter = refl
kind_eq-is Text Gauge = refl
kind_eq-is Text Histogram = refl
kind_eq-is Text Text = refl

pub mode_eq-is : (a b : Mode) → mode_eq.eq-value.it a b ≡ same_mode a b
mode_eq-is Uninit Uninit = refl
mode_eq-is Uninit Accumulate = refl
mode_eq-is Uninit Never = refl
mode_eq-is Accumulate Uninit = refl
mode_eq-is Accumulate Accumulate = refl
mode_eq-is Accumulate Never = refl
mode_eq-is Never Uninit = refl
mode_eq-is Never Accumulate = refl
mode_eq-is Never Never = refl

pub key_eq-is : (a b : Key) → key_eq.eq-value.it a b ≡ same_key a b
key_eq-is a b = λ i. pointwise nat_eq a.label b.label
    && (kind_eq-is a.kind b.kind i && (mode_eq-is a.mode b.mode i && pointwise nat_eq a.name b.name))

-- what compares as the same is equal
pub same_kind-is : (a b : Kind) → same_kind a b ≡ true → a ≡ b
same_kind-is Counter Counter h = refl
same_kind-is Gauge Gauge h = refl
same_kind-is Histogram Histogram h = refl
same_kind-is Text Text h = refl
same_kind-is _ _ h = absurd (true≢false (sym h))

pub same_mode-is : (a b : Mode) → same_mode a b ≡ true → a ≡ b
same_mode-is Uninit Uninit h = refl
same_mode-is Accumulate Accumulate h = refl
same_mode-is Never Never h = refl
same_mode-is _ _ h = absurd (true≢false (sym h))

both : (x y : Bool) → (x && y) ≡ true → (x ≡ true) × (y ≡ true)
both true y h = (refl, h)
both false y h = absurd (true≢false (sym h))

pub same_key-is : (a b : Key) → same_key a b ≡ true → a ≡ b
same_key-is a b h =
    let first = both (pointwise nat_eq a.label b.label) (same_kind a.kind b.kind && (same_mode a.mode b.mode && pointwise nat_eq a.name b.name)) h in
    let second = both (same_kind a.kind b.kind) (same_mode a.mode b.mode && pointwise nat_eq a.name b.name) first.1 in
    let third = both (same_mode a.mode b.mode) (pointwise nat_eq a.name b.name) second.1 in
    let label = text_of_eq a.label b.label (sym first.0) in
    let kind = same_kind-is a.kind b.kind second.0 in
    let mode = same_mode-is a.mode b.mode third.0 in
    let name = text_of_eq a.name b.name (sym third.1) in
    λ i. record { label = label i; kind = kind i; mode = mode i; name = name i }

-- each is the same as itself, and the order does not matter
same_kind-refl : (a : Kind) → same_kind a a ≡ true
same_kind-refl Counter = refl
same_kind-refl Gauge = refl
same_kind-refl Histogram = refl
same_kind-refl Text = refl

same_mode-refl : (a : Mode) → same_mode a a ≡ true
same_mode-refl Uninit = refl
same_mode-refl Accumulate = refl
same_mode-refl Never = refl

pub same_key-refl : (a : Key) → same_key a a ≡ true
same_key-refl a = λ i. nat_list_eq_equiv.refl a.label i
    && (same_kind-refl a.kind i && (same_mode-refl a.mode i && nat_list_eq_equiv.refl a.name i))

pub same_kind-sym : (a b : Kind) → same_kind a b ≡ same_kind b a
same_kind-sym Counter Counter = refl
same_kind-sym Gauge Gauge = refl
same_kind-sym Histogram Histogram = refl
same_kind-sym Text Text = refl
same_kind-sym _ _ = refl

pub same_mode-sym : (a b : Mode) → same_mode a b ≡ same_mode b a
same_mode-sym Uninit Uninit = refl
same_mode-sym Accumulate Accumulate = refl
same_mode-sym Never Never = refl
same_mode-sym _ _ = refl
