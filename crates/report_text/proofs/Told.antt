-- Symbols with their tokens, one after another.
use Rattle.std.proofs.Common.{◌≡◌, ℕ, ◌+◌, ◌<◌, min, List, ◌++◌, length, get_or, map, take, sym, ap, ◌∙◌, append_assoc}
use Rattle.std.proofs.Common.{arith}
use Rattle.std.specs.Borrow.{Bor}
use Rattle.std.specs.List.{flat_map, zip}
use Rattle.std.proofs.lemmas.List.{get_or-map, length-map, take_all}
use Rattle.std.proofs.lemmas.Slice.Zip.{length-zip, get_or-zip}
use Rattle.text_parts.proofs.Lines.{lines_next}
use Rattle.flush_view.specs.Symbols.{symbol_told}

-- the tokens that these borrow
abbrev pub texts_of : List (Bor (List ℕ)) → List (List ℕ)
texts_of cut = map (λ token. token.now) cut

module _ (numbers : List ℕ) (cut : List (Bor (List ℕ))) where
  -- one symbol more was told
  pub told_next : (i : ℕ) (number : Bor ℕ) (token : Bor (Bor (List ℕ))) (old text new : List ℕ) → i < length numbers
      → i < length cut
      → ((d : ℕ) → number.now ≡ get_or numbers i d) → ((d : Bor (List ℕ)) → token.now ≡ get_or cut i d)
      → text ≡ old ++ flat_map symbol_told (take i (zip numbers (texts_of cut)))
      → new ≡ text ++ symbol_told (number.now, token.now.now)
      → new ≡ old ++ flat_map symbol_told (take (i + 1) (zip numbers (texts_of cut)))
  told_next i number token old text new few short is_number is_token so_far put =
      let few_texts : i < length (texts_of cut) = omega (arith, short, length-map cut (λ (t : Bor (List ℕ)). t.now)) in
      let within : i < length (zip numbers (texts_of cut)) =
      omega (arith, few, few_texts, length-zip numbers (texts_of cut)) in
      let is_text : token.now.now ≡ get_or (texts_of cut) i token.now.now =
      ap (λ (t : Bor (List ℕ)). t.now) (is_token token.now)
      ∙ sym (get_or-map (λ (t : Bor (List ℕ)). t.now) cut i token.now token.now.now short) in
      let is : (number.now, token.now.now) ≡ get_or (zip numbers (texts_of cut)) i (number.now, token.now.now) =
      (λ k. (is_number number.now k, is_text k))
      ∙ sym (get_or-zip numbers (texts_of cut) i (number.now, token.now.now) few few_texts) in
      put ∙ ap (λ l. l ++ symbol_told (number.now, token.now.now)) so_far
      ∙ append_assoc old (flat_map symbol_told (take i (zip numbers (texts_of cut))))
      (symbol_told (number.now, token.now.now))
      ∙ ap (λ l. old ++ l) (sym (lines_next symbol_told (zip numbers (texts_of cut)) i
      (number.now, token.now.now) within is))

  -- all symbols were told
  pub told_all : (i : ℕ) (old text : List ℕ) → i ≡ min (length numbers) (length cut)
      → text ≡ old ++ flat_map symbol_told (take i (zip numbers (texts_of cut)))
      → text ≡ old ++ flat_map symbol_told (zip numbers (texts_of cut))
  told_all i old text past so_far =
      so_far
      ∙ ap (λ l. old ++ flat_map symbol_told l)
      (take_all i (zip numbers (texts_of cut))
      (omega (arith, past, length-zip numbers (texts_of cut), length-map cut (λ (t : Bor (List ℕ)). t.now))))
