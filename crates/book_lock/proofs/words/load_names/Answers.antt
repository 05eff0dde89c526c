use Rattle.std.proofs.Common.{rules, ap, sym, arith, ◌≡◌, ◌∙◌, ◌+◌, ◌-◌, ◌*◌, ℕ, List, [], ◌∷◌, ◌++◌, length, take, drop, append_assoc}
use Rattle.std.proofs.lemmas.Option.{get_or_from_slice_get}
use Rattle.std.specs.Prelude.{slice_get}
use Rattle.stat_defs.specs.declared.history.NameOp.{NameOp}
use Rattle.stat_defs.specs.Changes.{at_of}
use Rattle.book_lock.specs.Naming.{code_of, words_of}
use Rattle.book_lock.specs.History.{read_all}
use Rattle.book_lock.specs.Locked.{own_part}
use Rattle.book_lock.proofs.Standing.{words-append}
use Rattle.book_lock.proofs.Wording.{read-more, done-more-to, own-done, one-change-more, words-so-far}
use Rattle.book_lock.proofs.words.load_names.Goals as goal

pub loop-k-preserved : goal.loop-k-preserved
loop-k-preserved g c = let m = c.args.place.now.me in let xs : List NameOp = (own_part m.0).names in let r = c.requires.rests in let i = c.loop-k.invariant in
    let from = c.args.from in let k = c.loop-k.k in let ws : List ℕ = words_of (take (k - from) (drop from xs)) in
    let count : c.args.count ≡ length xs = c.requires.count.1 in let low = i.2 in let high = i.3 in let test = c.loop-k-test.true in
    let so-far = words-so-far xs from k low (omega arith) in let op = c.load_change-change.result in
    let s = own-done (read_all (2 * from) ws) m c.loop-k.place.me [] r.0 i.6 in
    let there = sym (ap (λ q. slice_get q.names k) s.2) ∙ c.load_change-change.ensures.change in
    let one : take (k + 1 - from) (drop from xs) ≡ take (k - from) (drop from xs) ++ op ∷ [] = one-change-more xs from k op low (omega arith) (get_or_from_slice_get xs k op op there) in
    let more : words_of (take (k + 1 - from) (drop from xs)) ≡ ws ++ at_of op ∷ code_of op ∷ [] = ap words_of one ∙ words-append (take (k - from) (drop from xs)) (op ∷ []) in
    let place : 2 * k ≡ 2 * from + length ws = omega arith in (
      c.load_change-change.ensures.table.0 ∙ i.0,
      c.load_change-change.ensures.table.1 ∙ i.1,
      omega arith,
      omega arith,
      search rules,
      c.push_reserved.ensures.items ∙ (ap (λ l. l ++ op ∷ []) i.5 ∙ (append_assoc c.args.into.now.items (take (k - from) (drop from xs)) (op ∷ []) ∙ ap (λ l. c.args.into.now.items ++ l) (sym one))),
      done-more-to (read_all (2 * from) ws) (read_all (2 * k) (at_of op ∷ code_of op ∷ [])) (read_all (2 * from) (words_of (take (k + 1 - from) (drop from xs)))) m c.loop-k.place.me c.load_change-change.new.place.me [] []
          i.6 c.load_change-change.ensures.told (λ p. read-more (2 * from) (2 * k) ws (at_of op ∷ code_of op ∷ []) p place ∙ ap (λ l. read_all (2 * from) l p) (sym more)),
    )
