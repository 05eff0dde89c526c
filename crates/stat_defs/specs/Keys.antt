-- Keys of metrics, and what a worker's seat holds under them (Envoy's design note on statistics: a thread's own cache).
use Rattle.std.specs.Prelude.{ℕ, ◌&&◌, ◌==◌, nat_eq, Bool, true, false, Option, List, find}
use Rattle.std.specs.List.{list_any, IsDistinct}
use Rattle.std.specs.Cmp.Lexicographic.{pointwise}
use Rattle.stat_defs.specs.declared.ids.Kind.{Kind}
use Rattle.stat_defs.specs.declared.ids.Kind.TheVariants.{Counter, Gauge, Histogram, Text}
use Rattle.stat_defs.specs.declared.ids.Mode.{Mode}
use Rattle.stat_defs.specs.declared.ids.Mode.TheVariants.{Uninit, Accumulate, Never}
use Rattle.stat_defs.specs.declared.ids.ScopeId.{ScopeId}
use Rattle.stat_defs.specs.declared.events.Key.{Key}
use Rattle.stat_defs.specs.declared.history.Verdict.{Verdict}

abbrev pub same_text : List ℕ → List ℕ → Bool
same_text a b = pointwise nat_eq a b

abbrev pub same_kind : Kind → Kind → Bool
same_kind Counter Counter = true
same_kind Gauge Gauge = true
same_kind Histogram Histogram = true
same_kind Text Text = true
same_kind _ _ = false

abbrev pub same_mode : Mode → Mode → Bool
same_mode Uninit Uninit = true
same_mode Accumulate Accumulate = true
same_mode Never Never = true
same_mode _ _ = false

abbrev pub same_key : Key → Key → Bool
same_key a b = same_text a.label b.label
    && (same_kind a.kind b.kind && (same_mode a.mode b.mode && same_text a.name b.name))

-- what a seat holds under a key: the verdict, and the number of the scope that it was found through
pub record Held : Type 0 where
  pub key : Key
  pub scope : ℕ
  pub verdict : Verdict

abbrev pub held_under : Key → List Held → Option Held
held_under key held = find (λ h. same_key h.key key) held

-- no key is held twice
abbrev pub HoldsOnce : List Held → Type 0
HoldsOnce held = IsDistinct (λ one other. same_key one.key other.key) held

-- the scope of what is held is one of these
abbrev pub is_through : List ScopeId → Held → Bool
is_through scopes held = list_any (λ s. s.0 == held.scope) scopes
