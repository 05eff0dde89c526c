use Rattle.std.proofs.Common.{◌≡◌, IfOk, ap, sym, ◌∙◌, subst}
use Rattle.std.specs.Str.{IsUtf8}
use Rattle.stat_defs.specs.Books.{BookHistory}
use Rattle.tag_rules.specs.Admission.{admits}
use Rattle.tag_rules.proofs.Readable.{name_is_text}
use Rattle.stat_book.specs.Calls.{rules_of}
use Rattle.stat_book.specs.BookKept.{shown}
use Rattle.stat_book.proofs.Deciding.{admits_are}
use Rattle.stat_book.proofs.book.Book.admits.Goals as goal

pub admits-requires : goal.admits-requires
admits-requires c = subst IsUtf8 (sym c.bytes.ensures) (name_is_text c.args.name.now c.requires)

pub returns : goal.returns
returns c =
    let name = c.args.name.now in
    let same = (λ i. admits (c.self.invariant.matcher i) (c.bytes.ensures i)) ∙ (sym (admits_are (shown c.self.inside) name) ∙ ap (λ (v : BookHistory). (rules_of v).admits name) c.self.view_is) in
    subst (λ b. IfOk c.admits.result (λ admitted. admitted ≡ b)) same c.admits.ensures
