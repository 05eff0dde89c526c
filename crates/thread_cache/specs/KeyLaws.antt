-- Keys of the table are told apart as keys are, and a query finds the key that it asks for.
use Rattle.std.specs.Prelude.{◌≡◌, ℕ, Bool, true, ◌&&◌, List, [], ◌∷◌, nat_eq}
use Rattle.std.proofs.Common.{◌∙◌, ap, sym}
use Rattle.std.specs.Cmp.Lexicographic.{pointwise, nat_list_eq_equiv}
use Rattle.stat_defs.specs.declared.events.Key.{Key}
use Rattle.stat_defs.specs.declared.ids.Kind.{Kind}
use Rattle.stat_defs.specs.declared.ids.Mode.{Mode}
use Rattle.stat_defs.specs.contracts.ids.KindPartialEq.TheImpl as kind_eq
use Rattle.stat_defs.specs.contracts.ids.ModePartialEq.TheImpl as mode_eq
use Rattle.stat_defs.specs.Keys.{same_kind, same_mode}
use Rattle.stat_defs.proofs.KeyLemmas.{kind_eq-is, mode_eq-is, same_kind-sym, same_mode-sym, same_key-is}
use Rattle.thread_cache.specs.contracts.key.CacheKeyPartialEq.TheImpl as key_eq
use Rattle.thread_cache.specs.declared.key.CacheKey.{CacheKey}
use Rattle.thread_cache.specs.declared.query.Query.{Query}
use Rattle.thread_cache.specs.Keys.{asked, key_of}
use Rattle.thread_cache.specs.Held.{is_at}

abbrev pub eq : CacheKey → CacheKey → Bool
eq = key_eq.eq-value.it

kinds : (a b : Kind) → kind_eq.eq-value.it a b ≡ same_kind b a
kinds a b = kind_eq-is a b ∙ same_kind-sym a b

modes : (a b : Mode) → mode_eq.eq-value.it a b ≡ same_mode b a
modes a b = mode_eq-is a b ∙ same_mode-sym a b

texts : (a b : List ℕ) → pointwise nat_eq a b ≡ pointwise nat_eq b a
texts a b = nat_list_eq_equiv.symm a b

-- a key of the table finds what its key finds
pub finds_as : (key at : CacheKey) → eq key at ≡ is_at (key_of key) at
finds_as key at = λ i. texts key.label at.label i
    && (kinds key.kind at.kind i && (modes key.mode at.mode i && texts key.name at.name i))

-- a query is hashed as a key that it finds
pub hashed_as : (query : Query) (key : CacheKey) → is_at (asked query) key ≡ true
    → query.label.now ∷ query.name.now ∷ [] ≡ key.label ∷ key.name ∷ []
hashed_as query key is = ap (λ (k : Key). k.label ∷ k.name ∷ []) (sym (same_key-is (key_of key) (asked query) is))

-- it finds the keys that are equal to one that it finds, and no other
pub found_as : (query : Query) (key other : CacheKey) → is_at (asked query) key ≡ true → is_at (asked query) other
    ≡ eq key other
found_as query key other is = ap (λ (k : Key). is_at k other) (sym (same_key-is (key_of key) (asked query) is)) ∙ sym
    (finds_as key other)
