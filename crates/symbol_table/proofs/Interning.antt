-- The name that was interned: how many numbers it has, and its text.
use Rattle.std.proofs.Common.{◌≡◌, ℕ, ◌+◌, ◌<◌, ◌≤◌, ◌==◌, List, length, map as list_map, All, take, get_or, ◌++◌, ◌∷◌, [], ap, sym, ◌∙◌, subst, arith}
use Rattle.std.specs.Borrow.{Bor}
use Rattle.std.specs.List.{join_with_byte}
use Rattle.std.proofs.lemmas.List.{take_more, map-append}
use Rattle.std.proofs.lemmas.List.Sums.{count_by-le-length}
use Rattle.std.proofs.lemmas.List.Splits.{length-slice_split, join_with_byte-slice_split}
use Rattle.stat_defs.specs.Names.{IsFullName, tokens}
use Rattle.stat_name.specs.StoredName.{IsName}
use Rattle.symbol_table.specs.Table.{Table, Holds, token_in, text_in, Interns}
use Rattle.symbol_table.proofs.DrawingLemmas.{drawn_length, tokens_back}

-- a full name has 1 to 512 tokens
pub token_count : (name : List ℕ) → IsFullName name → (1 ≤ length (tokens name)) × (length (tokens name) ≤ 512)
token_count name full =
    let cuts = length-slice_split (λ (b : ℕ). b == 46) name in
    let few = count_by-le-length (λ (b : ℕ). b == 46) name in
    let short = full.short in
    (omega arith, omega arith)

abbrev pub token_at : List (Bor (List ℕ)) → ℕ → List ℕ
token_at parts i = (get_or parts i (record { ref_ptr = (0, 0); now = [] })).now

-- one token more of a name's
pub tokens_more : (parts : List (Bor (List ℕ))) (i : ℕ) → i < length parts
    → list_map (λ (x : Bor (List ℕ)). x.now) (take i parts) ++ token_at parts i ∷ [] ≡ list_map (λ (x : Bor (List ℕ)). x.now) (take (i + 1) parts)
tokens_more parts i below =
    sym (map-append (λ (x : Bor (List ℕ)). x.now) (take i parts) (get_or parts i (record { ref_ptr = (0, 0); now = [] }) ∷ []))
    ∙ ap (list_map (λ (x : Bor (List ℕ)). x.now)) (sym (take_more parts i (record { ref_ptr = (0, 0); now = [] }) below))

module _ (old new : Table) (name : List ℕ) (parts : List (List ℕ)) (numbers : List ℕ) (cut : parts ≡ tokens name) (i : Interns old parts new numbers) where
  pub interned : Interns old (tokens name) new numbers
  interned = subst (λ (ts : List (List ℕ)). Interns old ts new numbers) cut i

  pub interned_name : IsFullName name → All (λ n. 0 < n) numbers → IsName numbers
  interned_name full each = let few = token_count name full in let length_is = drawn_length (Holds old) (tokens name) numbers interned.drawn in record {
    some = omega (arith, length_is, few.0);
    few = omega (arith, length_is, few.1);
    each = each;
  }

  pub interned_text : text_in new numbers ≡ name
  interned_text =
      let back : list_map (token_in new) numbers ≡ tokens name = subst (λ (t : Table). list_map (token_in t) numbers ≡ tokens name) (sym interned.counted_are) (tokens_back old (tokens name) numbers interned.drawn) in
      ap (join_with_byte 46) back ∙ join_with_byte-slice_split 46 name
