use Rattle.std.proofs.Common.{◌≡◌, ◌++◌, ◌∷◌, ℕ, suc, ◌+◌, List, fold, drop, ap, sym, ◌∙◌, subst, arith, append_assoc}
use Rattle.std.proofs.lemmas.List.{drop_more}
use Rattle.stat_defs.specs.declared.history.Entry.{Entry}
use Rattle.book_state.specs.Stored.{StateView, after_entry}
use Rattle.name_changes.specs.Changes.{changes_by}
use Rattle.flush_view.specs.Replaying.{AreNext}
use Rattle.flush_view.specs.Walk.{changes_behind}
use Rattle.flush_view.proofs.log_names.changes_of.Goals as goal

pub loop-entry-preserved : goal.loop-entry-preserved
loop-entry-preserved c =
    let log = c.args.log.now in
    let i = c.loop-entry.entry-index in
    let at = c.loop-entry.at in
    let book = c.loop-entry.book in
    let e = c.entry-item.result in
    let holds = c.loop-entry.invariant in
    let place = holds.at in
    let rest : List Entry = drop (i + 1) log in
    let cons : drop i log ≡ e ∷ rest =
    drop_more log i e c.loop-entry-test.true ∙ ap (λ (x : Entry). x ∷ rest) (sym c.entry-item.is) in
    let applied : c.apply.new.self ≡ after_entry book e = c.in_ok-apply.ensures.ok in
    let next : at + 1 ≡ suc at = omega arith in
    let steps : AreNext book (e ∷ rest) = subst (λ (l : List Entry). AreNext book l) cons holds.next in
    record {
      at = omega (arith, place);
      next = subst (λ (v : StateView). AreNext v rest) (sym applied) steps.1;
      same = ap (λ (v : StateView). fold after_entry v rest) applied
          ∙ sym (ap (λ (l : List Entry). fold after_entry book l) cons) ∙ holds.same;
      changes =
          (λ j. c.in_ok-push_changes.ensures j ++ changes_behind (applied j) (at + 1) rest)
          ∙ append_assoc c.loop-entry.changes.items (changes_by book.state (at + 1) e.call e.reply)
          (changes_behind (after_entry book e) (at + 1) rest)
          ∙ ap (λ (n : ℕ). c.loop-entry.changes.items
          ++ (changes_by book.state n e.call e.reply ++ changes_behind (after_entry book e) n rest)) next
          ∙ sym (ap (λ (l : List Entry). c.loop-entry.changes.items ++ changes_behind book at l) cons)
          ∙ holds.changes;
    }
