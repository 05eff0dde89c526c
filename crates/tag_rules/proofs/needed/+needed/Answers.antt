use Rattle.std.proofs.Common.{◌≡◌, ◌+◌, ◌++◌, map, Option, IfSome, Vec, ℕ, Global, ap, ◌∙◌, sym, subst, arith, inl, inr}
use Rattle.std.specs.Prelude.{slice_index_or}
use Rattle.std.proofs.lemmas.Bool.{cases_lt}
use Rattle.std.proofs.lemmas.List.{get_or_default, map-append}
use Rattle.std.proofs.lemmas.Option.{IfSome_then}
use Rattle.regex_extract.specs.Needles.{needles_of}
use Rattle.regex_hir.specs.Meaning.{meaning, cat_all}
use Rattle.regex_hir.proofs.MeaningLemmas.{meaning-Concat, meaning-Alternation}
use Rattle.tag_rules.proofs.NeededFacts.{AllNeed, needs_part, needs_branches, needs_more, holds_right}
use Rattle.tag_rules.specs.Starts.{Needs}
use Rattle.tag_rules.proofs.needed.+needed.Goals as goal

pub needed_in-returns-in_ok-edge_in-in-Concat : goal.needed_in-returns-in_ok-edge_in-in-Concat
needed_in-returns-in_ok-edge_in-in-Concat t c =
    let P = λ (found : Option (Vec (Vec ℕ Global) Global)).
    IfSome found (λ needles. Needs (meaning c.args.hir.now) (needles_of needles)) in
    let parts : IfSome c.in_ok-within-in-Concat.within (λ needles. Needs (cat_all (map meaning c.in-Concat.parts.items)) (needles_of needles)) =
    rw c.deref-in-Concat.ensures.value at c.in_ok-within-in-Concat.ensures in
    let within : P c.in_ok-within-in-Concat.within = rw (ap meaning c.in-Concat.is ∙ meaning-Concat c.in-Concat.parts) parts in
    elim c.cheaper.ensures [
      | inl old ↦ subst P (sym old) c.in_ok-edge_in-in-Concat.ensures
      | inr new ↦ subst P (sym new) within
    ]

pub needed_of_parts-loop-part-preserved : goal.needed_of_parts-loop-part-preserved
needed_of_parts-loop-part-preserved t c =
    let all = c.args.parts.now in
    let P = λ (found : Option (Vec (Vec ℕ Global) Global)).
    IfSome found (λ needles. Needs (cat_all (map meaning all)) (needles_of needles)) in
    let more : P c.in_ok-needed_in.field-0 = IfSome_then c.in_ok-needed_in.field-0 c.in_ok-needed_in.ensures
    (λ needles needs. needs_part all c.loop-part.part-index c.part-item.result (needles_of needles) c.loop-part-test.true
    (subst (λ part. Needs (meaning part) (needles_of needles)) c.part-item.is needs)) in
    elim c.cheaper-found.ensures [
      | inl old ↦ subst P (sym old) c.loop-part.invariant
      | inr new ↦ subst P (sym new) more
    ]

pub needed_in-returns-in-Alternation : goal.needed_in-returns-in-Alternation
needed_in-returns-in-Alternation t c =
    let branches = rw c.deref-in-Alternation.ensures.value at c.needed_of_branches.ensures in
    rw (ap meaning c.in-Alternation.is ∙ meaning-Alternation c.in-Alternation.branches) branches

pub needed_of_branches-loop-branch-preserved : goal.needed_of_branches-loop-branch-preserved
needed_of_branches-loop-branch-preserved t c =
    let all = c.args.branches.now in
    let at = c.loop-branch.branch-index in
    let old = needles_of c.loop-branch.all in
    let new = needles_of c.in-Some.more in
    let joined : needles_of c.append.new.self ≡ old ++ new =
    ap (map (λ (needle : Vec ℕ Global). needle.items)) c.in_ok-append.ensures.items ∙ map-append _ c.loop-branch.all.items c.in-Some.more.items in
    let more : Needs (meaning c.branch-item.result) new = rw c.in-Some.is at c.in_ok-more.ensures in
    subst (AllNeed all (at + 1)) (sym joined) (λ k d below. elim (cases_lt k at) [
      | inl lt ↦ needs_more all at old new c.loop-branch.invariant k d lt
      | inr ge ↦
          let same : at ≡ k = omega (arith, below, ge) in
          let item = c.branch-item.is ∙ get_or_default all at c.branch-item.result d c.loop-branch-test.true in
          subst (λ i. Needs (meaning (slice_index_or all i d)) (old ++ new)) same
          (subst (λ branch. Needs (meaning branch) (old ++ new)) item
          (λ hay bytes i j m. holds_right hay old new (more hay bytes i j m)))
    ])

pub needed_of_branches-returns : goal.needed_of_branches-returns
needed_of_branches-returns t c = needs_branches c.args.branches.now (needles_of c.loop-branch.all)
    (λ k d below. c.loop-branch.invariant k d (omega (arith, below, c.loop-branch-test.false)))
