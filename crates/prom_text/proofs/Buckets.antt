-- A bucket's line in the parts in which it is written.
use Rattle.std.proofs.Common.{◌≡◌, ℕ, List, [], ◌∷◌, ◌++◌, sym, ap, ◌∙◌, append_assoc, append-nil, codes}
use Rattle.std.specs.List.{flat_map, join_by}
use Rattle.std.specs.Fmt.{decimal}
use Rattle.stat_defs.specs.declared.metrics.Tagged.{Tagged}
use Rattle.stat_defs.specs.declared.views.HistRow.{HistRow}
use Rattle.prom_text.specs.Labels.{printed_name, bound_label}
use Rattle.prom_text.specs.Prometheus.{labels_of, bucket_line, bound_line}
use Rattle.prom_text.specs.Rows.{bucket_begin, bucket_end, bucket_lines}

-- a separator before each is one behind each
moved : (sep x : List ℕ) (xs : List (List ℕ))
    → flat_map (λ y. sep ++ y) (xs ++ x ∷ []) ≡ sep ++ (flat_map (λ y. y ++ sep) xs ++ x)
moved sep x [] = append-nil (sep ++ x)
moved sep x (y ∷ ys) = ap (λ l. (sep ++ y) ++ l) (moved sep x ys) ∙ simp append_assoc

-- joined with a last one: a separator behind each before it
pub joined_with_last : (sep x : List ℕ) (xs : List (List ℕ))
    → join_by (λ y. y) sep (xs ++ x ∷ []) ≡ flat_map (λ y. y ++ sep) xs ++ x
joined_with_last sep x [] = append-nil x
joined_with_last sep x (y ∷ ys) = ap (λ l. y ++ l) (moved sep x ys) ∙ simp append_assoc

regrouped : (name word labels le bound end rest : List ℕ)
    → (name ++ word) ++ (123 ∷ (((labels ++ (le ++ (bound ++ end))) ++ 125 ∷ []) ++ rest))
    ≡ (name ++ ((word ++ 123 ∷ []) ++ (labels ++ le))) ++ (bound ++ ((end ++ 125 ∷ []) ++ rest))
regrouped name word labels le bound end rest = simp append_assoc

pub bucket_parts : (tagged : Tagged) (bound : List ℕ) (count : ℕ)
    → bucket_line tagged bound count ≡ bucket_begin tagged ++ (bound ++ bucket_end count)
bucket_parts tagged bound count =
    ap (λ l. (printed_name tagged.extracted ++ codes "_bucket") ++ (123 ∷ ((l ++ 125 ∷ []) ++ (32 ∷ (decimal count ++ 10 ∷ [])))))
    (joined_with_last (codes ",") (bound_label bound) (labels_of tagged))
    ∙ regrouped (printed_name tagged.extracted) (codes "_bucket") (flat_map (λ y. y ++ codes ",") (labels_of tagged)) (codes "le=\"")
    bound (codes "\"") (32 ∷ (decimal count ++ 10 ∷ []))

four : (old a b c : List ℕ) → ((old ++ a) ++ b) ++ c ≡ old ++ (a ++ (b ++ c))
four old a b c = simp append_assoc

-- a line that was put in its parts
pub bucket_put : (tagged : Tagged) (bound : List ℕ) (count : ℕ) (old begun bounded new : List ℕ)
    → begun ≡ old ++ bucket_begin tagged → bounded ≡ begun ++ bound → new ≡ bounded ++ bucket_end count
    → new ≡ old ++ bucket_line tagged bound count
bucket_put tagged bound count old begun bounded new a b c =
    c ∙ ap (λ l. l ++ bucket_end count) (b ∙ ap (λ l. l ++ bound) a)
    ∙ four old (bucket_begin tagged) bound (bucket_end count) ∙ ap (λ l. old ++ l) (sym (bucket_parts tagged bound count))

-- the line of all values behind those of the bounds
pub last_put : (row : HistRow) (count : ℕ) (old begun bounded new : List ℕ) → begun ≡ bucket_begin row.tagged
    → bounded ≡ old ++ flat_map (bound_line row) row.bounds → new ≡ bounded ++ (begun ++ (codes "+Inf" ++ bucket_end count))
    → new ≡ old ++ bucket_lines row count
last_put row count old begun bounded new a b c =
    c ∙ ap (λ l. bounded ++ (l ++ (codes "+Inf" ++ bucket_end count))) a
    ∙ ap (λ l. bounded ++ l) (sym (bucket_parts row.tagged (codes "+Inf") count))
    ∙ ap (λ l. l ++ bucket_line row.tagged (codes "+Inf") count) b
    ∙ append_assoc old (flat_map (bound_line row) row.bounds) (bucket_line row.tagged (codes "+Inf") count)
