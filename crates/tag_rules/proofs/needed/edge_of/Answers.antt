use Rattle.std.proofs.Common.{Option, IfSome, Vec, ℕ, Global, sym, subst, inl, inr}
use Rattle.std.proofs.lemmas.Option.{IfSome_then}
use Rattle.regex_extract.specs.Needles.{needles_of}
use Rattle.regex_hir.specs.Meaning.{meaning}
use Rattle.tag_rules.specs.Starts.{Needs}
use Rattle.tag_rules.proofs.needed.edge_of.Goals as goal

pub returns : goal.returns
returns c =
    let P = λ (found : Option (Vec (Vec ℕ Global) Global)).
    IfSome found (λ needles. Needs (meaning c.args.hir.now) (needles_of needles)) in
    let first : P c.in_ok-first.first = IfSome_then c.in_ok-first.first c.in_ok-first.ensures.starts
    (λ needles starts. λ hay bytes i j m. let found = starts hay bytes i j m in
    (i, (found.0, found.1.numbered, found.1.occurs))) in
    let last : P c.in_ok-last.last = IfSome_then c.in_ok-last.last c.in_ok-last.ensures.ends
    (λ needles ends. λ hay bytes i j m. let found = ends hay bytes i j m in
    (found.1, (found.0, found.2.numbered, found.2.occurs))) in
    elim c.cheaper.ensures [
      | inl old ↦ subst P (sym old) first
      | inr new ↦ subst P (sym new) last
    ]
