-- Labels that all differ, with one more; prefixes without their final dot.
use Rattle.std.proofs.Common.{◌≡◌, ◌≢◌, ℕ, zero, suc, ◌<◌, ◌-◌, ◌==◌, Bool, true, false, List, [], ◌∷◌, ◌++◌, length, take, get_or, sym, arith}
use Rattle.std.specs.Prelude.{if◌then◌else◌}
use Rattle.std.specs.List.{AllPairs, ends_with}
use Rattle.std.specs.Cmp.Lexicographic.{other_text}
use Rattle.std.proofs.lemmas.Bool.{or_parts}
use Rattle.std.proofs.lemmas.List.Quantifiers.{all_pairs_push}
use Rattle.std.proofs.lemmas.List.{length-take}
use Rattle.std.proofs.lemmas.List.Elements.{All-take}
use Rattle.std.proofs.lemmas.List.Sums.{AllPass-from_list_all, list_all-from_AllPass}
use lib.Pointwise.{pointwise}
use Rattle.stat_defs.specs.declared.configs.ScopeSpec.{ScopeSpec}
use Rattle.stat_defs.specs.Names.{is_name_byte, IsScopePrefix, without_dot}
use Rattle.boot_file.specs.Scopes.{is_taken}

none_alike : (found : List ScopeSpec) (label : List ℕ) → is_taken found label ≡ false
    → (k : ℕ) (d : ScopeSpec) → k < length found → (get_or found k d).label ≢ label
none_alike [] label e k d h = absurd (omega arith)
none_alike (s ∷ ss) label e zero d h =
    other_text s.label label (sym (or_parts (pointwise ◌==◌ s.label label) (is_taken ss label) e).0)
none_alike (s ∷ ss) label e (suc k) d h =
    none_alike ss label (or_parts (pointwise ◌==◌ s.label label) (is_taken ss label) e).1 k d (omega arith)

pub different : (found : List ScopeSpec) (s : ScopeSpec) → is_taken found s.label ≡ false
    → AllPairs (λ one other. one.label ≢ other.label) found → AllPairs (λ one other. one.label ≢ other.label) (found ++ s ∷ [])
different found s e pairs =
    all_pairs_push (λ one other. one.label ≢ other.label) found s pairs (none_alike found s.label e)

dotless_by : (b : Bool) (text : List ℕ) → IsScopePrefix text → IsScopePrefix (if b then take (length text - 1) text else text)
dotless_by true text h =
    let n = length-take (length text - 1) text in
    let short = h.short in
    record {
      short = omega arith;
      bytes = list_all-from_AllPass is_name_byte (take (length text - 1) text)
          (All-take (λ b. is_name_byte b ≡ true) (length text - 1) text (AllPass-from_list_all is_name_byte text h.bytes));
    }
dotless_by false text h = h

pub dotless_prefix : (text kept : List ℕ) → kept ≡ without_dot text → IsScopePrefix text → IsScopePrefix kept
dotless_prefix text kept e h = rw e (dotless_by (ends_with ◌==◌ text (46 ∷ [])) text h)
