-- What a step and a join leave of a seat, and of what it knows.
use Rattle.std.proofs.Common.{◌≡◌, ℕ, zero, suc, ◌+◌, ◌-◌, ◌<◌, List, [], ◌∷◌, ◌++◌, length, map, refl, sym, ap, ◌∙◌, arith}
use Rattle.std.specs.List.{range_with_len}
use Rattle.std.proofs.lemmas.List.{map-append, map-id}
use Rattle.std.proofs.lemmas.List.FromFn.{map-range_with_len_more}
use Rattle.atomic_table.specs.Seated.{TableId}
use Rattle.atomic_table.specs.Table.{Me}
use Rattle.seat_parts.specs.declared.Parts.{Parts}
use Rattle.seat_parts.specs.Parts.{first_or, others_of, own_changed, dealt, undealt, joined}
use Rattle.seat_parts.proofs.Cuts.{after-own}
use Rattle.metric_words.specs.Known.{known_of, new_known, own_after, all_of, with_parts}

module _ {P : Type 0} (blank : P) where
  abbrev Sat : Type 0
  Sat = Me (Unit {0}) (Parts P)

  own-first : (ps : List P) → 0 < length ps → ps ≡ first_or blank ps ∷ others_of ps
  own-first [] h = absurd (omega arith)
  own-first (p ∷ ps) h = refl

  pub known-parts : (bank : TableId) (m : Sat) → 0 < length m.0.parts → m.0.parts ≡ all_of (known_of blank bank m)
  known-parts bank m h = own-first m.0.parts h

  pub known-after : (f : P → P) (bank bank' : TableId) (m m' : Sat) → 0 < length m.0.parts → bank' ≡ bank → m' ≡ (own_changed f m.0, m.1)
      → (known_of blank bank' m' ≡ own_after f (known_of blank bank m)) × (length m'.0.parts ≡ length m.0.parts) × (length m'.1 ≡ length m.1)
  known-after f bank bank' m m' h b e = let a = after-own f blank m m' h e in
      ((λ i. record { bank = b i; own = a.1 i; taken = a.2 i }), a.0, a.3)

  pub behind-own : (ps qs : List P) → 0 < length ps → (first_or blank (ps ++ qs) ≡ first_or blank ps) × (others_of (ps ++ qs) ≡ others_of ps ++ qs) × (0 < length (ps ++ qs))
  behind-own [] qs h = absurd (omega arith)
  behind-own (p ∷ ps) qs h = (refl, refl, omega arith)

  -- a seat that took in one with these parts
  pub known-joined : (bank bank' : TableId) (m m' : Sat) (w : Parts P) (qs : List P) → 0 < length m.0.parts → bank' ≡ bank → m' ≡ (joined m.0 w, m.1) → w.parts ≡ qs
      → (known_of blank bank' m' ≡ with_parts qs (known_of blank bank m)) × (0 < length m'.0.parts) × (length m'.1 ≡ length m.1)
  known-joined bank bank' m m' w qs h b e is = let a = behind-own m.0.parts w.parts h in (
    (λ i. record { bank = b i; own = (ap (λ z. first_or blank z.0.parts) e ∙ a.0) i; taken = (ap (λ z. others_of z.0.parts) e ∙ (a.1 ∙ ap (λ ps. others_of m.0.parts ++ ps) is)) i }),
    (let n = ap (λ z. length z.0.parts) e in let k = a.2 in omega arith),
    ap (λ z. length z.1) e,
  )

range-more : (a n : ℕ) → range_with_len a (n + 1) ≡ range_with_len a n ++ (a + n) ∷ []
range-more a n = sym (map-id (range_with_len a (n + 1))) ∙ (map-range_with_len_more (λ k. k) a n (a + n) refl ∙ ap (λ l. l ++ (a + n) ∷ []) (map-id (range_with_len a n)))

pub numbers-push : {A : Type 0} (number : A → ℕ) (xs all : List A) (x : A) (n : ℕ) → map number xs ≡ range_with_len 1 n → all ≡ xs ++ x ∷ [] → number x ≡ 1 + n → map number all ≡ range_with_len 1 (n + 1)
numbers-push number xs all x n is e at =
    ap (map number) e ∙ (map-append number xs (x ∷ []) ∙ (ap (λ z. z ++ number x ∷ []) is ∙ (ap (λ k. range_with_len 1 n ++ k ∷ []) at ∙ sym (range-more 1 n))))

-- A new bank's seats are cut off one by one, of numbered parts `part`, of which `rest` says those that are left.
module _ {P : Type 0} (blank : P) (part : ℕ → P) (rest : ℕ → ℕ → List P) where
  abbrev pub me_of : List P → Me (Unit {0}) (Parts P)
  me_of ps = (record { parts = ps }, [])

  cut-list : ((seat n : ℕ) → rest seat (suc n) ≡ part seat ∷ rest (suc seat) n) → (seat n : ℕ) → 0 < n → rest seat n ≡ part seat ∷ rest (seat + 1) (n - 1)
  cut-list next seat zero h = absurd (omega arith)
  cut-list next seat (suc n) h = let e : suc seat ≡ seat + 1 = omega arith in let f : n ≡ suc n - 1 = omega arith in next seat n ∙ (λ i. part seat ∷ rest (e i) (f i))

  pub cut : ((seat n : ℕ) → rest seat (suc n) ≡ part seat ∷ rest (suc seat) n) → (m : Me (Unit {0}) (Parts P)) (seat n seat' n' : ℕ) → m ≡ (record { parts = rest seat n }, []) → 0 < n → seat' ≡ seat + 1 → n' ≡ n - 1
      → ((dealt m.0, []) ≡ me_of (part seat ∷ [])) × ((undealt m.0, m.1) ≡ me_of (rest seat' n'))
  cut next m seat n seat' n' e h es en = let c = e ∙ ap me_of (cut-list next seat n h) in
      (ap (λ z. (dealt z.0, [])) c, ap (λ z. (undealt z.0, z.1)) c ∙ (λ i. me_of (rest (sym es i) (sym en i))))

  -- a seat that was cut off
  pub known-new : (number : P → ℕ) (bank t : TableId) (m : Me (Unit {0}) (Parts P)) (seat : ℕ) → number (part seat) ≡ seat → t ≡ bank → m ≡ me_of (part seat ∷ [])
      → (length m.0.parts ≡ 1) × (length m.1 ≡ 0) × (first_or blank m.0.parts ≡ part seat) × (known_of blank t m ≡ new_known bank (part (number (first_or blank m.0.parts))))
  known-new number bank t m seat same b e = let own : first_or blank m.0.parts ≡ part seat = ap (λ z. first_or blank z.0.parts) e in (
    ap (λ z. length z.0.parts) e,
    ap (λ z. length z.1) e,
    own,
    (λ i. record { bank = b i; own = (own ∙ ap part (sym (ap number own ∙ same))) i; taken = others_of (e i).0.parts }),
  )
