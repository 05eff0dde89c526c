-- A tally as a book.
use Rattle.std.proofs.Common.{◌≡◌, ℕ, List, [], ◌∷◌, ◌++◌, map, refl, ap, ◌∙◌, Result, Ok, Err, MatchResult}
use Rattle.std.proofs.lemmas.List.{map-append}
use Rattle.stat_defs.specs.Books.{releases_in}
use Rattle.threads_bench.specs.Tallies.{entry_of}

pub no-releases : (words : List ℕ) → releases_in (map entry_of words) ≡ 0
no-releases [] = refl
no-releases (n ∷ ns) = no-releases ns

pub pushed : {T E : Type 0} (r : Result T E) (n : ℕ) (old new : List ℕ) → MatchResult r (λ _. new ≡ old ++ n ∷ []) (λ _. new ≡ old)
    → MatchResult r (λ _. map entry_of new ≡ map entry_of old ++ entry_of n ∷ []) (λ _. map entry_of new ≡ map entry_of old)
pushed (Ok x) n old new e = ap (map entry_of) e ∙ map-append entry_of old (n ∷ [])
pushed (Err x) n old new e = ap (map entry_of) e
