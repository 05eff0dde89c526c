use Rattle.std.proofs.Common.{arith, ◌≡◌, ◌∙◌, ◌++◌, ap, length, subst}
use Rattle.thread_tests.specs.Noting.{AreNoted}
use Rattle.thread_tests.proofs.Noted.{noted}
use Rattle.thread_tests.proofs.names.add_named.Goals as goal

pub returns-clause-changes : goal.returns-clause-changes
returns-clause-changes c =
    let n = noted c.note.result c.len-before.result (length c.note.new.self.entries.items) c.add_some.new.book.changes.items c.note.new.self.changes.items c.note.ensures.changes in
    let before : c.len-before.result ≡ length c.args.book.now.entries.items = (let e = c.len-before.ensures in omega arith) in
    (n.0, n.1 ∙ ap (λ l. l ++ n.0) c.add_some.ensures.changes, subst (λ k. AreNoted k (length c.note.new.self.entries.items) n.0) before n.2)
