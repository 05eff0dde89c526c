use Rattle.std.proofs.Common.{ap, sym, arith, ◌≡◌, ◌∙◌, ◌+◌, ◌-◌, ◌*◌, ℕ, List, [], ◌∷◌, ◌++◌, None, length, take, drop, length-append}
use Rattle.std.proofs.lemmas.Option.{get_or_from_slice_get}
use Rattle.stat_defs.specs.declared.history.NameOp.{NameOp}
use Rattle.stat_defs.specs.Changes.{at_of}
use Rattle.book_lock.specs.Naming.{code_of, words_of}
use Rattle.book_lock.specs.History.{stored_all}
use Rattle.book_lock.specs.Locked.{own_part}
use Rattle.book_lock.proofs.Standing.{words-append}
use Rattle.book_lock.proofs.Wording.{stored-more, done-more-to, own-done, one-change-more, words-so-far}
use Rattle.book_lock.proofs.words.store_names.Goals as goal

pub store_change-requires-clause-next : goal.store_change-requires-clause-next
store_change-requires-clause-next g c = let m = c.args.place.now.me in let xs : List NameOp = g.B.Booked.changed c.args.book.now in let h = c.requires.holds in let i = c.loop-k.invariant in
    let from = c.args.found in let k = c.loop-k.k in let ws : List ℕ = words_of (take (k - from) (drop from xs)) in
    let s = own-done (stored_all (2 * from) ws) m c.loop-k.place.me ((0, None) ∷ []) h.0 i.4 in
    let names = ap (λ q. length q.names) s.2 in let stored = ap (λ q. length q.stored) s.2 in let long = length-append (own_part m.0).stored ws in let none = ap length h.3 in
    let count : c.changes-count.result ≡ length xs = c.changes-count.ensures in let low = i.2 in let high = i.3 in
    let so-far = words-so-far xs from k low (omega arith) in let found = c.requires.found in omega arith

pub loop-k-preserved : goal.loop-k-preserved
loop-k-preserved g c = let m = c.args.place.now.me in let xs : List NameOp = g.B.Booked.changed c.args.book.now in let h = c.requires.holds in let i = c.loop-k.invariant in
    let from = c.args.found in let k = c.loop-k.k in let ws : List ℕ = words_of (take (k - from) (drop from xs)) in
    let count : c.changes-count.result ≡ length xs = c.changes-count.ensures in let low = i.2 in let high = i.3 in let test = c.loop-k-test.true in
    let so-far = words-so-far xs from k low (omega arith) in let op = c.change-change.result in
    let more : words_of (take (k + 1 - from) (drop from xs)) ≡ ws ++ at_of op ∷ code_of op ∷ [] =
    ap words_of (one-change-more xs from k op low (omega arith) (get_or_from_slice_get xs k op op c.change-change.ensures)) ∙ words-append (take (k - from) (drop from xs)) (op ∷ []) in
    let place : 2 * k ≡ 2 * from + length ws = omega arith in (
      c.store_change.ensures.table.0 ∙ i.0,
      c.store_change.ensures.table.1 ∙ i.1,
      omega arith,
      omega arith,
      done-more-to (stored_all (2 * from) ws) (stored_all (2 * k) (at_of op ∷ code_of op ∷ [])) (stored_all (2 * from) (words_of (take (k + 1 - from) (drop from xs)))) m c.loop-k.place.me c.store_change.new.place.me ((0, None) ∷ []) ((0, None) ∷ [])
          i.4 c.store_change.ensures.told (λ p. stored-more (2 * from) (2 * k) ws (at_of op ∷ code_of op ∷ []) p place ∙ ap (λ l. stored_all (2 * from) l p) (sym more)),
    )
