use Rattle.std.proofs.Common.{ap, sym, arith, ◌∙◌, ◌∷◌, [], ◌*◌, suc, None, length, length-append}
use Rattle.book_lock.specs.History.{stored_word, stored_all}
use Rattle.book_lock.specs.Locked.{in_box, names_in_box, own_part}
use Rattle.book_lock.proofs.Keeps.{allows-store, free-as}
use Rattle.book_lock.proofs.Wording.{stored-two, done-more, own-done, words-as}
use Rattle.book_lock.proofs.words.store_change.Goals as goal

pub store-requires : goal.store-requires
store-requires g c = let m = c.args.place.now.me in let h = c.requires.holds in let t = c.requires.table.1 in let r = c.requires.room in let n = c.requires.next in
    (c.requires.table.0, omega arith, allows-store (in_box g.B.Booked.history) (names_in_box g.B.Booked.changed) _ _ _ _ _ m ((0, None) ∷ []) _ (2 * c.args.k) _ h.0 h.1 h.2 (omega arith) (sym n) (omega arith))

pub store-requires-2 : goal.store-requires-2
store-requires-2 g c = let m = c.args.place.now.me in let m1 = c.store.new.seat.me in let h = c.requires.holds in let t = c.requires.table.1 in let r = c.requires.room in let n = c.requires.next in
    let k = 2 * c.args.k in let a = c.at_word.result in let p = own_part m.0 in
    let e1 = free-as (stored_word k a) m m1 ((0, None) ∷ []) h.1 (c.store.ensures.2 k (omega arith)) in
    let s = own-done (stored_word k a) m m1 ((0, None) ∷ []) h.0 e1 in
    let names = ap (λ q. length q.names) s.2 in let stored = ap (λ q. length q.stored) s.2 in let room = ap (λ q. q.room) s.2 in let long = length-append p.stored (a ∷ []) in
    (c.store.ensures.0 ∙ c.requires.table.0, omega arith, allows-store (in_box g.B.Booked.history) (names_in_box g.B.Booked.changed) _ _ _ _ _ m1 ((0, None) ∷ []) _ (suc k) _ s.0 s.1 (ap (λ q. q.holds) s.2 ∙ h.2) (omega arith) (omega arith) (omega arith))

pub returns-clause-told : goal.returns-clause-told
returns-clause-told g c = let m = c.args.place.now.me in let m1 = c.store.new.seat.me in let m2 = c.store-2.new.seat.me in let h = c.requires.holds in
    let k = 2 * c.args.k in let a = c.at_word.result in let b = c.code_word.result in
    let e1 = free-as (stored_word k a) m m1 ((0, None) ∷ []) h.1 (c.store.ensures.2 k (omega arith)) in
    let e2 = done-more (stored_word k a) (stored_word (suc k) b) (stored_all k (a ∷ b ∷ [])) m m1 m2 ((0, None) ∷ []) e1 (c.store-2.ensures.2 (suc k) (omega arith)) (stored-two k a b) in
    words-as (stored_all k) m.0 m2 ((0, None) ∷ []) a _ b _ c.at_word.ensures c.code_word.ensures e2
