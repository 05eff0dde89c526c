use Rattle.std.proofs.Common.{◌≡◌, ◌<◌, List, ◌++◌, length, All, ap, sym, ◌∙◌, subst}
use Rattle.stat_defs.specs.declared.history.NameOp.{NameOp}
use Rattle.stat_defs.specs.Changes.{id_of, GoesOnLater}
use Rattle.book_state.specs.declared.limits.TheConstants.{MAX_METRICS}
use Rattle.name_changes.specs.Changes.{newest_from, newest}
use Rattle.locked_book.specs.Sharing.{part_of}
use Rattle.admin_side.proofs.Following.{newest-both}
use Rattle.admin_side.proofs.Brought.{names-read, all-read}
use Rattle.admin_side.proofs.known_names.KnownNames.bring_up.Goals as goal

pub invariant_of-self-2 : goal.invariant_of-self-2
invariant_of-self-2 c =
    let was = c.self.inside in let p = part_of c.args.seat.now in let q = part_of c.read_changes.new.self in let fresh = c.deref.result.now in
    let r = c.in_ok-count.ensures.reads in
    let had : GoesOnLater was.list p.names = subst (λ (l : List NameOp). GoesOnLater l p.names) (sym c.self.view_is) c.requires.known in
    let all : was.list ++ fresh ≡ q.names = all-read was.list fresh was.count c.in_ok-count.count _ _ p q had c.self.invariant.count c.new-fresh.ensures.items c.deref.ensures.value r in
    let now : c.apply.new.self ≡ q.names = c.in_ok-apply.ensures.ok ∙ all in record {
      count = sym r.number ∙ (ap (λ (l : List NameOp). length l) (sym (names-read was.count c.in_ok-count.count _ _ p q r)) ∙ sym (ap (λ (l : List NameOp). length l) now));
      at = c.newest_of-self-inside.ensures
          ∙ (ap (newest_from was.at) (c.deref-2.ensures.value ∙ sym c.deref.ensures.value)
          ∙ (ap (λ n. newest_from n fresh) c.self.invariant.at ∙ (sym (newest-both 0 was.list fresh) ∙ ap newest (sym c.in_ok-apply.ensures.ok))));
      small = subst (λ (l : List NameOp). All (λ x. id_of x < MAX_METRICS) l) (sym now) c.in_ok-count.ensures.metrics;
    }
