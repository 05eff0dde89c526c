use Rattle.std.proofs.Common.{◌≡◌, List, Option, Some, IfSome, unwrap_or, option_map, ap, sym, ◌∙◌, subst}
use Rattle.stat_defs.specs.Keys.{Held, held_under}
use Rattle.stat_defs.specs.declared.events.Key.{Key}
use Rattle.stat_book.specs.Finds.{scope_number}
use Rattle.thread_cache.specs.Keys.{asked}
use Rattle.thread_cache.specs.Held.{CacheState, held_with}
use Rattle.book_access.specs.Calling.{Calls}
use Rattle.book_access.specs.Making.{FindsKey}
use Rattle.book_seat.specs.Deciding.{held_in_log, JudgesKey, CallsInVain}
use Rattle.book_seat.specs.SeatKept.{IsKept}
use Rattle.book_seat.proofs.Sitting.{kept_of, stays_of}
use Rattle.book_seat.proofs.CallLemmas.{find_told}
use Rattle.seat_history.specs.declared.known.LogKnown.{LogKnown}
use Rattle.book_access.specs.Calling.{WorksUnder}
use Rattle.book_seat.proofs.Sitting.{sits_of}
use Rattle.book_seat.proofs.Results.{err_so}
use Rattle.book_seat.proofs.Stepping as s
use Rattle.book_seat.proofs.seat.BookSeat.find_anew.Goals as goal

pub returns-in_err-key-clause-err : goal.returns-in_err-key-clause-err
returns-in_err-key-clause-err g c =
    let K = g.A.KnowsLog.known in
    err_so c.from_residual.result (CallsInVain (K c.args.self.now) (K c.args.self.now)) c.waits_in_vain.ensures

pub returns-in_err-reserve-clause-err : goal.returns-in_err-reserve-clause-err
returns-in_err-reserve-clause-err g c =
    let K = g.A.KnowsLog.known in let old = c.self.inside in let es = old.cache.entries in let p = K old.access in let is = ap K c.self.view_is in
    let sits = sits_of p es old.tag c.self.invariant (subst WorksUnder (sym is) c.requires.works) in
    err_so c.from_residual-in_err-reserve.result (CallsInVain (K c.args.self.now) p) (subst (λ (x : LogKnown). CallsInVain x p) is (s.vain_same p es old.tag sits))

pub invariant_of-self-in_err-answer : goal.invariant_of-self-in_err-answer
invariant_of-self-in_err-answer g c =
    let K = g.A.KnowsLog.known in let old = c.self.inside in let es = old.cache.entries in let p = K old.access in let is = ap K c.self.view_is in
    let sits = sits_of p es old.tag c.self.invariant (subst WorksUnder (sym is) c.requires.works) in
    let q = K c.find.new.self in
    subst (λ (hs : List Held). IsKept q hs old.tag) (sym (ap (λ (s : CacheState). s.entries) c.in_ok-reserve.ensures.reserved))
    (kept_of q es old.tag (s.vain_sits p es old.tag sits q c.in_err-answer.ensures.err))

pub returns-in_err-answer-clause-err : goal.returns-in_err-answer-clause-err
returns-in_err-answer-clause-err g c =
    let K = g.A.KnowsLog.known in let old = c.self.inside in let es = old.cache.entries in let p = K old.access in let is = ap K c.self.view_is in
    let sits = sits_of p es old.tag c.self.invariant (subst WorksUnder (sym is) c.requires.works) in
    let q = K c.find.new.self in
    err_so c.from_residual-in_err-answer.result (CallsInVain (K c.args.self.now) q) (subst (λ (x : LogKnown). CallsInVain x q) is (s.vain_call p es old.tag sits q c.in_err-answer.ensures.err))

pub invariant_of-self-2 : goal.invariant_of-self-2
invariant_of-self-2 g c =
    let K = g.A.KnowsLog.known in let old = c.self.inside in let es = old.cache.entries in let p = K old.access in let is = ap K c.self.view_is in
    let sits = sits_of p es old.tag c.self.invariant (subst WorksUnder (sym is) c.requires.works) in
    let key = asked c.args.query.now in let answer = c.in_ok-answer.answer in let q = K c.find.new.self in
    let told = subst (λ (k : Key). Calls (FindsKey k answer) p q) c.in_ok-key.ensures c.in_ok-answer.ensures.step in
    let entries_are = ap (λ (s : CacheState). s.entries) c.in_ok-reserve.ensures.reserved in
    let room_is = ap (λ (s : CacheState). s.room) c.in_ok-reserve.ensures.reserved ∙ ap Some c.in_ok-key.ensures in
    let free = sits.seated.held key ∙ s.none_mapped (λ (h : Held). h.verdict) _ (ap (λ (x : LogKnown). held_in_log x key) is ∙ c.requires.free) in
    let all = find_told p q es c.hold.new.cache.entries old.tag sits key answer told free
    (λ held k. subst (λ (r : Option Key). IfSome r (λ room. (k : Key) → held_under k c.hold.new.cache.entries
    ≡ held_with (record { key = room; scope = unwrap_or (option_map scope_number answer.scope) 0; verdict = answer.verdict }) c.reserve.new.self.entries k)) room_is (c.hold.ensures.held held) k
    ∙ (λ i. held_with (record { key = key; scope = unwrap_or (option_map scope_number answer.scope) 0; verdict = answer.verdict }) (entries_are i) k))
    (λ passed. ap (λ (s : CacheState). s.entries) (c.hold.ensures.passed passed) ∙ entries_are) in
    kept_of q c.hold.new.cache.entries old.tag all.sits

pub returns-clause-judged : goal.returns-clause-judged
returns-clause-judged g c =
    let K = g.A.KnowsLog.known in let old = c.self.inside in let es = old.cache.entries in let p = K old.access in let is = ap K c.self.view_is in
    let sits = sits_of p es old.tag c.self.invariant (subst WorksUnder (sym is) c.requires.works) in
    let key = asked c.args.query.now in let answer = c.in_ok-answer.answer in let q = K c.find.new.self in
    let told = subst (λ (k : Key). Calls (FindsKey k answer) p q) c.in_ok-key.ensures c.in_ok-answer.ensures.step in
    let entries_are = ap (λ (s : CacheState). s.entries) c.in_ok-reserve.ensures.reserved in
    let room_is = ap (λ (s : CacheState). s.room) c.in_ok-reserve.ensures.reserved ∙ ap Some c.in_ok-key.ensures in
    let free = sits.seated.held key ∙ s.none_mapped (λ (h : Held). h.verdict) _ (ap (λ (x : LogKnown). held_in_log x key) is ∙ c.requires.free) in
    let all = find_told p q es c.hold.new.cache.entries old.tag sits key answer told free
    (λ held k. subst (λ (r : Option Key). IfSome r (λ room. (k : Key) → held_under k c.hold.new.cache.entries
    ≡ held_with (record { key = room; scope = unwrap_or (option_map scope_number answer.scope) 0; verdict = answer.verdict }) c.reserve.new.self.entries k)) room_is (c.hold.ensures.held held) k
    ∙ (λ i. held_with (record { key = key; scope = unwrap_or (option_map scope_number answer.scope) 0; verdict = answer.verdict }) (entries_are i) k))
    (λ passed. ap (λ (s : CacheState). s.entries) (c.hold.ensures.passed passed) ∙ entries_are) in
    subst (λ (x : LogKnown). JudgesKey key answer.verdict x q) is
    (record { judges = all.judged; held = all.held; stays = stays_of 0 p q c.hold.new.cache.entries old.tag all.keeps all.sits })
