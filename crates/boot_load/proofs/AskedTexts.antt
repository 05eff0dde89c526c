-- The patterns that a configuration asks for, and those of its parts.
use Rattle.std.proofs.Common.{ℕ, ◌≡◌, ◌<◌, ◌≤◌, ◌+◌, List, [], ◌∷◌, ◌++◌, Some, Ok, Err, length, take, slice_get, zero, suc, refl, sym, ap, ◌∙◌, append_assoc, length-append, add-one, arith}
use Rattle.std.specs.List.{flat_map}
use Rattle.std.proofs.lemmas.Option.{same_Some, none-some, slice_get-get_or}
use Rattle.tag_rules.specs.Making.{Memory, after_making}
use Rattle.tag_rules.specs.Building.{IsCutAt, Builds}
use Rattle.tag_rules.specs.declared.fault.TagFault.{TagFault}
use Rattle.tag_rules.specs.declared.fault.TagFault.TheVariants as tag
use Rattle.boot_load.specs.Asked.{Asked, texts_of, told_by, asked_by}
use Rattle.boot_load.specs.Build.{IsPatternRefused, FailsToBuild, BuildsAll, HasPathIn, IsTold}
use Rattle.boot_load.specs.declared.fault.LoadFault.{LoadFault}
use Rattle.boot_load.specs.declared.fault.LoadFault.TheVariants as load

texts-append : (one two : List Asked) → texts_of (one ++ two) ≡ texts_of one ++ texts_of two
texts-append [] two = refl
texts-append (a ∷ one) two = ap (λ l. a.text ∷ l) (texts-append one two)

texts-told_by : (path : List ℕ) (texts : List (List ℕ)) → texts_of (told_by path texts) ≡ texts
texts-told_by path [] = refl
texts-told_by path (text ∷ texts) = ap (λ l. text ∷ l) (texts-told_by path texts)

told_by-append : (path : List ℕ) (one two : List (List ℕ)) → told_by path (one ++ two) ≡ told_by path one ++ told_by path two
told_by-append path [] two = refl
told_by-append path (text ∷ one) two = ap (λ l. (record { path = path; text = text }) ∷ l) (told_by-append path one two)

-- what is asked for before and after the refused text
record IsAt (all : List Asked) (path text : List ℕ) (texts_before : List (List ℕ)) : Type 0 where
  done : List Asked
  rest : List Asked
  order : all ≡ done ++ (record { path = path; text = text }) ∷ rest
  texts_are : texts_of done ≡ texts_before

-- a text among the first ones of a list
cut_texts : (ts rest : List (List ℕ)) (k : ℕ) (x : List ℕ) → k < length ts → slice_get (ts ++ rest) k ≡ Some x
    → (more : List (List ℕ)) × (ts ≡ take k ts ++ x ∷ more) × (take k (ts ++ rest) ≡ take k ts)
cut_texts [] rest k x few g = absurd (omega (arith, few))
cut_texts (t ∷ ts) rest zero x few g = (ts, ap (λ y. y ∷ ts) (same_Some t x g), refl)
cut_texts (t ∷ ts) rest (suc k) x few g =
    let later = cut_texts ts rest k x (omega (arith, few)) g in
    (later.0, ap (λ l. t ∷ l) later.1, ap (λ l. t ∷ l) later.2)

-- a text behind the first ones of a list
skip_texts : (ts rest : List (List ℕ)) (k : ℕ) (x : List ℕ) → length ts ≤ k → slice_get (ts ++ rest) k ≡ Some x
    → (j : ℕ) × (k ≡ length ts + j) × (slice_get rest j ≡ Some x) × (take k (ts ++ rest) ≡ ts ++ take j rest)
skip_texts [] rest k x some g = (k, omega arith, g, refl)
skip_texts (t ∷ ts) rest zero x some g = absurd (omega (arith, some))
skip_texts (t ∷ ts) rest (suc k) x some g =
    let later = skip_texts ts rest k x (omega (arith, some)) g in
    (later.0, omega (arith, later.1), later.2, ap (λ l. t ∷ l) later.3)

module _ {A : Type 0} (texts : A → List (List ℕ)) where
  -- the texts that the members ask for
  texts-asked_by : (paths : List (List ℕ)) (members : List A) → length paths ≡ length members → texts_of (asked_by texts paths members) ≡ flat_map texts members
  texts-asked_by [] [] e = refl
  texts-asked_by [] (member ∷ members) e = absurd (omega (arith, e))
  texts-asked_by (path ∷ paths) [] e = absurd (omega (arith, e))
  texts-asked_by (path ∷ paths) (member ∷ members) e =
      texts-append (told_by path (texts member)) (asked_by texts paths members)
      ∙ ap (λ l. l ++ texts_of (asked_by texts paths members)) (texts-told_by path (texts member))
      ∙ ap (λ l. texts member ++ l) (texts-asked_by paths members (omega (arith, e)))

  -- the text at a place among those of the member i is asked for under the path i
  at_place : (paths : List (List ℕ)) (members : List A) (i at : ℕ) (path text : List ℕ) → length paths ≡ length members
      → slice_get paths i ≡ Some path → slice_get (flat_map texts members) at ≡ Some text
      → length (flat_map texts (take i members)) ≤ at → at < length (flat_map texts (take (suc i) members))
      → IsAt (asked_by texts paths members) path text (take at (flat_map texts members))
  at_place paths [] i at path text e p m begins ends = absurd (none-some text m)
  at_place [] (n ∷ members) i at path text e p m begins ends = absurd (omega (arith, e))
  at_place (q ∷ paths) (n ∷ members) zero at path text e p m begins ends =
      let cut = cut_texts (texts n) (flat_map texts members) at text (omega (arith, ends, length-append (texts n) [])) m in
      let here : told_by q (texts n) ≡ told_by path (take at (texts n) ++ text ∷ cut.0) =
      (λ i. told_by (same_Some q path p i) (cut.1 i)) in
      record {
        done = told_by path (take at (texts n));
        rest = told_by path cut.0 ++ asked_by texts paths members;
        order = ap (λ l. l ++ asked_by texts paths members) (here ∙ told_by-append path (take at (texts n)) (text ∷ cut.0))
            ∙ append_assoc (told_by path (take at (texts n))) (told_by path (text ∷ cut.0)) (asked_by texts paths members);
        texts_are = texts-told_by path (take at (texts n)) ∙ sym cut.2;
      }
  at_place (q ∷ paths) (n ∷ members) (suc i) at path text e p m begins ends =
      let skip = skip_texts (texts n) (flat_map texts members) at text
      (omega (arith, begins, length-append (texts n) (flat_map texts (take i members)))) m in
      let later = at_place paths members i skip.0 path text (omega (arith, e)) p skip.2
      (omega (arith, begins, skip.1, length-append (texts n) (flat_map texts (take i members))))
      (omega (arith, ends, skip.1, length-append (texts n) (flat_map texts (take (suc i) members)))) in
      record {
        done = told_by q (texts n) ++ later.done;
        rest = later.rest;
        order = ap (λ l. told_by q (texts n) ++ l) later.order ∙ sym (append_assoc (told_by q (texts n)) later.done _);
        texts_are = texts-append (told_by q (texts n)) later.done ∙ ap (λ l. l ++ texts_of later.done) (texts-told_by q (texts n))
            ∙ ap (λ l. texts n ++ l) later.texts_are ∙ sym skip.3;
      }

  refused_at : (paths : List (List ℕ)) (members : List A) (old new : Memory) (i : ℕ) (path : List ℕ)
      → length paths ≡ length members → slice_get paths i ≡ Some path → IsCutAt texts members old new i
      → IsPatternRefused (asked_by texts paths members) path old new
  refused_at paths members old new i path e p is =
      let at = at_place paths members i is.cut.at path is.cut.refused e p is.cut.text is.begins (rw add-one at is.ends) in
      record {
        done = at.done;
        text = is.cut.refused;
        rest = at.rest;
        order = at.order;
        made = is.cut.made ∙ ap (λ l. old.made ++ l) (sym at.texts_are);
        refused = is.cut.refuses;
      }

  place_within : (members : List A) (i : ℕ) → length (flat_map texts (take i members)) < length (flat_map texts (take (suc i) members))
      → i < length members
  place_within [] i more = absurd (omega (arith, more))
  place_within (n ∷ members) zero more = omega arith
  place_within (n ∷ members) (suc i) more =
      let later = place_within members i (omega (
        arith,
        more,
        length-append (texts n) (flat_map texts (take i members)),
        length-append (texts n) (flat_map texts (take (suc i) members)),
      )) in
      omega (arith, later)

  -- the member whose pattern is bad has a path
  pub has_path : {B : Type 0} (paths : List (List ℕ)) (members : List A) (setting : B) (old new : Memory) (fault : TagFault)
      → length paths ≡ length members → Builds texts members setting old new (Err fault) → HasPathIn paths fault
  has_path paths members setting old new (tag.BadPattern i) e is =
      let within : i < length members = place_within members i (omega (arith, is.begins, rw add-one at is.ends)) in
      (_, slice_get-get_or paths i [] (omega (arith, e, within)))
  has_path paths members setting old new tag.NoMemory e built = tt

  -- a build, with its fault told by paths
  pub told_build : {B : Type 0} (paths : List (List ℕ)) (members : List A) (setting : B) (old new : Memory) (fault : TagFault) (told : LoadFault)
      → length paths ≡ length members → Builds texts members setting old new (Err fault) → IsTold paths fault told
      → FailsToBuild (asked_by texts paths members) old new told
  told_build paths members setting old new (tag.BadPattern i) told e built is = rw (is.2) (refused_at paths members old new i is.0 e is.1 built)
  told_build paths members setting old new tag.NoMemory told e built is = rw (is, built.made) (record { count = refl; last = refl })

  pub whole_build : {B : Type 0} (paths : List (List ℕ)) (members : List A) (setting made : B) (old new : Memory)
      → length paths ≡ length members → Builds texts members setting old new (Ok made) → BuildsAll (asked_by texts paths members) setting old new (Ok made)
  whole_build paths members setting made old new e built = (built.0, built.1 ∙ ap (λ l. after_making l old) (sym (texts-asked_by paths members e)))

-- what was refused in a part was refused in the whole
pub refused_first : (one two : List Asked) (path : List ℕ) (old new : Memory) → IsPatternRefused one path old new → IsPatternRefused (one ++ two) path old new
refused_first one two path old new is = record {
  done = is.done;
  text = is.text;
  rest = is.rest ++ two;
  order = ap (λ l. l ++ two) is.order ∙ append_assoc is.done _ two;
  made = is.made;
  refused = is.refused;
}

pub refused_later : (one two : List Asked) (path : List ℕ) (old mid new : Memory) → mid ≡ after_making (texts_of one) old
    → IsPatternRefused two path mid new → IsPatternRefused (one ++ two) path old new
refused_later one two path old mid new e is = record {
  done = one ++ is.done;
  text = is.text;
  rest = is.rest;
  order = ap (λ l. one ++ l) is.order ∙ sym (append_assoc one is.done _);
  made = (rw e at is.made) ∙ append_assoc old.made (texts_of one) (texts_of is.done) ∙ ap (λ l. old.made ++ l) (sym (texts-append one is.done));
  refused = rw e at is.refused;
}

-- a part that failed, in the whole
pub first_failed : (one two : List Asked) (old new : Memory) (fault : LoadFault) → FailsToBuild one old new fault → FailsToBuild (one ++ two) old new fault
first_failed one two old new (load.BadPattern path) h = refused_first one two path old new h
first_failed one two old new load.NoMemory h = h
first_failed one two old new load.TooBig h = h
first_failed one two old new (load.Faulty fault) h = h
first_failed one two old new load.OpenFailed h = h
first_failed one two old new (load.ReadFailed count) h = h

pub later_failed : (one two : List Asked) (old mid new : Memory) (fault : LoadFault) → mid ≡ after_making (texts_of one) old
    → FailsToBuild two mid new fault → FailsToBuild (one ++ two) old new fault
later_failed one two old mid new (load.BadPattern path) e h = refused_later one two path old mid new e h
later_failed one two old mid new load.NoMemory e h =
    record { count = h.count ∙ ap (λ (m : Memory). m.count) e; last = h.last ∙ ap (λ (m : Memory). m.last) e }
later_failed one two old mid new load.TooBig e h = h
later_failed one two old mid new (load.Faulty fault) e h = h
later_failed one two old mid new load.OpenFailed e h = h
later_failed one two old mid new (load.ReadFailed count) e h = h
