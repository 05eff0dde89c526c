use Rattle.std.proofs.Common.{◌≡◌, rules, false, ◌∷◌, ◌++◌, [], nat_eq, refl, ap, sym, subst, ◌∙◌}
use Rattle.std.specs.List.{list_any}
use Rattle.book_state.specs.Bearing.{has, NoDoubles}
use Rattle.book_state.specs.Numbers.{AreApart}
use Rattle.book_state.proofs.Apart.{asked}
use Rattle.book_state.proofs.Finds.{apart_push, bearers_apart}
use Rattle.book_state.proofs.numbers.NumberSet.insert.Goals as goal

pub invariant_of-self-then-is_err : goal.invariant_of-self-then-is_err
invariant_of-self-then-is_err c =
    let few = c.in-Few.few.items in
    let number = c.args.number in
    let apart = subst AreApart c.in-Few.is c.self.invariant in
    let new : has number few ≡ false =
    sym (asked few number) ∙ (sym (c.contains.ensures.value ∙ ap (list_any (λ y. nat_eq y number)) c.as_slice.ensures.value) ∙ c.if-contains.false) in
    let all : c.in_ok-index-in-Few.index.keys ≡ few ++ number ∷ [] = search rules in
    subst AreApart (sym c.index_by.ensures) (subst NoDoubles (sym all) (apart_push number few apart new))

pub invariant_of-self-else-is_err : goal.invariant_of-self-else-is_err
invariant_of-self-else-is_err c =
    let few = c.in-Few.few.items in
    let number = c.args.number in
    let apart = subst AreApart c.in-Few.is c.self.invariant in
    let new : has number few ≡ false =
    sym (asked few number) ∙ (sym (c.contains.ensures.value ∙ ap (list_any (λ y. nat_eq y number)) c.as_slice.ensures.value) ∙ c.if-contains.false) in
    let all : c.try_push.new.self.items ≡ few ++ number ∷ [] = search rules in
    subst NoDoubles (sym all) (apart_push number few apart new)

pub invariant_of-self-in-Many : goal.invariant_of-self-in-Many
invariant_of-self-in-Many c =
    let keys = c.in-Many.index.keys in
    let apart = subst AreApart c.in-Many.is c.self.invariant in
    subst NoDoubles (sym c.in_ok-insert-in-Many.ensures.keys)
    (bearers_apart c.args.number keys (has c.args.number keys) refl apart)
