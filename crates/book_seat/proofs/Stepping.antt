-- What each call makes of the log that a working seat knows, and what the seat keeps behind it.
use Rattle.std.proofs.Common.{◌≡◌, ℕ, ◌≤◌, ◌<◌, true, false, Option, option_map, Some, None, List, [], ◌∷◌, Result, Ok, Err, IfOk, OnOk, OnErr, refl, ap, sym, ◌∙◌, subst, arith, inl, inr, All, length}
use Rattle.stat_defs.specs.Books.{BookHistory}
use Rattle.stat_defs.specs.Keys.{Held, held_under}
use Rattle.stat_defs.specs.declared.history.Entry.{Entry}
use Rattle.stat_defs.specs.declared.history.Swept.{Swept}
use Rattle.stat_defs.specs.declared.history.Verdict.TheVariants as verdict
use Rattle.book_state.specs.Follows.{tag_of}
use Rattle.book_state.specs.State.{State, held_in, names_in}
use Rattle.book_state.specs.Step.{effect, overdue_in}
use Rattle.book_state.proofs.Lists.{not_some}
use Rattle.book_state.proofs.OwnCalls.{held_ended}
use Rattle.book_state.proofs.SeatStays.{seat_tag}
use Rattle.stat_book.specs.Calls.{rules_of, state_of, Logged}
use Rattle.stat_defs.specs.declared.history.Acked.{Acked}
use Rattle.stat_defs.specs.declared.history.Call.TheVariants as call
use Rattle.stat_defs.specs.declared.history.Reply.TheVariants as reply
use Rattle.stat_defs.specs.declared.history.Verdict.{Verdict}
use Rattle.stat_defs.specs.declared.ids.MetricId.{MetricId}
use Rattle.stat_defs.specs.declared.events.Key.{Key}
use Rattle.thread_cache.specs.Held.{held_without}
use Rattle.seat_history.specs.declared.known.LogKnown.{LogKnown}
use Rattle.seat_history.specs.History.{loaded}
use Rattle.book_access.specs.Calling.{known_state, Calls}
use Rattle.book_access.specs.Making.{IsAsFound, AnswersCall, LogsCall, AcksAll, SweepsBook}
use Rattle.book_seat.specs.Growing.{MakesNothing, StaysAtWork}
use Rattle.book_seat.specs.Deciding.{held_in_log, CallsBook, SetsText, CallsInVain}
use Rattle.book_seat.specs.Polling.{tag_in, Acknowledges, Polls, PollsInVain}
use Rattle.book_seat.specs.SeatKept.{IsKept}
use Rattle.book_seat.proofs.Sitting.{IsSeated, Sits, kept_of, stays_of}
use Rattle.book_seat.proofs.PartLemmas.{same_number, last_known, legal_after, fewest_after, seated_there, one_own}
use Rattle.book_seat.proofs.CallLemmas as l
use Rattle.book_seat.proofs.EntryLemmas.{cut_grows}
use Rattle.book_seat.proofs.Followed.{grows_loaded, polled_none, polled_ack}
use Rattle.book_seat.proofs.Results.{if_ok, on_ok, on_err, either_way}

module _ (p : LogKnown) (es : List Held) (tag : ℕ) (sits : Sits p es tag) where
  -- no call
  pub stays_same : (n : ℕ) → StaysAtWork n p p
  stays_same n = stays_of n p p es tag (l.same_keeps n p) sits

  pub vain_same : CallsInVain p p
  vain_same = record { none = inl refl; stays = stays_same 0 }

  module _ (q : LogKnown) where
    -- a call that left the book as it was
    pub vain_sits : Calls IsAsFound p q → Sits q es tag
    vain_sits under = l.none_sits p q es es tag sits under refl

    pub vain_call : Calls IsAsFound p q → CallsInVain p q
    vain_call under = record { none = inr under; stays = stays_of 0 p q es tag (l.none_keeps 0 p q under) (vain_sits under) }

    pub vain_told : {T E : Type 0} (r : Result T E) → OnErr r (Calls IsAsFound p q) → OnErr r (CallsInVain p q)
    vain_told r is = on_err r (Calls IsAsFound p q) (CallsInVain p q) vain_call is

    -- an opening
    module _ {E : Type 0} (r : Result Verdict E) (label prefix : List ℕ) (step : IfOk r (λ v. Calls (AnswersCall (call.OpenScope label prefix) v) p q)) where
      pub open_told : IfOk r (λ v. CallsBook 1 (call.OpenScope label prefix) v p q)
      open_told = if_ok r (λ v. Calls (AnswersCall (call.OpenScope label prefix) v) p q) (λ v. CallsBook 1 (call.OpenScope label prefix) v p q)
          (λ v under. record { calls = under; stays = stays_of 1 p q es tag (l.open_keeps p q label prefix v under) (l.open_sits p q es tag sits label prefix v under) }) step

      pub open_kept : OnErr r (Calls IsAsFound p q) → IsKept q es tag
      open_kept err = either_way r (λ v. Calls (AnswersCall (call.OpenScope label prefix) v) p q) (Calls IsAsFound p q) (IsKept q es tag)
          (λ v under. kept_of q es tag (l.open_sits p q es tag sits label prefix v under)) (λ under. kept_of q es tag (vain_sits under)) step err

    -- a release
    module _ {E : Type 0} (r : Result Verdict E) (label : List ℕ) (step : IfOk r (λ v. Calls (AnswersCall (call.Release label) v) p q)) where
      pub release_told : IfOk r (λ v. CallsBook 0 (call.Release label) v p q)
      release_told = if_ok r (λ v. Calls (AnswersCall (call.Release label) v) p q) (λ v. CallsBook 0 (call.Release label) v p q)
          (λ v under. record { calls = under; stays = stays_of 0 p q es tag (l.release_keeps p q label v under) (l.release_sits p q es tag sits label v under) }) step

      pub release_kept : OnErr r (Calls IsAsFound p q) → IsKept q es tag
      release_kept err = either_way r (λ v. Calls (AnswersCall (call.Release label) v) p q) (Calls IsAsFound p q) (IsKept q es tag)
          (λ v under. kept_of q es tag (l.release_sits p q es tag sits label v under)) (λ under. kept_of q es tag (vain_sits under)) step err

    -- what is held under a key, where the cache stayed
    held_same : Sits q es tag → (key : Key) → held_in_log q key ≡ held_in_log p key
    held_same after key = ap (λ (o : Option Held). option_map (λ (h : Held). h.verdict) o) (sym (after.seated.held key) ∙ sits.seated.held key)

    -- a text that is set
    module _ {T E : Type 0} (r : Result T E) (id : MetricId) (text : List ℕ) (step : OnOk r (Calls (LogsCall (call.SetText id text) reply.TextSet) p q)) where
      pub text_kept : OnErr r (Calls IsAsFound p q) → IsKept q es tag
      text_kept err = either_way r (λ v. Calls (LogsCall (call.SetText id text) reply.TextSet) p q) (Calls IsAsFound p q) (IsKept q es tag)
          (λ v under. kept_of q es tag (l.text_sits_ p q es tag sits id text under)) (λ under. kept_of q es tag (vain_sits under)) step err

      pub text_told : OnOk r (SetsText text (verdict.Accepted id) p q)
      text_told = on_ok r (Calls (LogsCall (call.SetText id text) reply.TextSet) p q) (SetsText text (verdict.Accepted id) p q)
          (λ under. let after = l.text_sits_ p q es tag sits id text under in
          record { sets = under; held = held_same after; stays = stays_of 0 p q es tag (l.text_keeps p q id text under) after }) step

    -- an acknowledgement
    module _ (es' : List Held) (acked : Acked) (acks : Calls (AcksAll acked) p q) (dropped : (key : Key) → held_under key es' ≡ held_without acked.scopes (held_under key es)) where
      pub ack_told : Acknowledges p q × StaysAtWork 0 p q
      ack_told = (l.ack_acknowledges p q acked acks, stays_of 0 p q es' acked.tag (l.ack_keeps p q es es' tag sits acked acks dropped) (l.ack_sits p q es es' tag sits acked acks dropped))

      pub ack_kept : IsKept q es' acked.tag
      ack_kept = kept_of q es' acked.tag (l.ack_sits p q es es' tag sits acked acks dropped)

    -- the end, after which the seat holds nothing
    pub end_kept : (es' : List Held) → Calls (LogsCall call.End reply.Ended) p q → es' ≡ [] → IsKept q es' tag
    end_kept es' under none = record {
      held = λ key. ap (held_under key) (none ∙ sym ended_held);
      tagged = there.tagged ∙ sym ended_tag;
      legal = legal_after M p q under mine under.makes.logged own_are;
      fewest = fewest_after M p q under mine under.makes.logged own_are;
    } where
      M : ℕ → BookHistory → BookHistory → Type 0
      M = LogsCall call.End reply.Ended

      mine : List Entry
      mine = record { seat = p.number; call = call.End; reply = reply.Ended } ∷ []

      own_are : All (λ (e : Entry). e.seat ≡ p.number) mine
      own_are = one_own M p q under call.End reply.Ended under.makes

      there : IsSeated under.found p.number es tag
      there = seated_there M p q under mine under.makes.logged own_are es tag sits.seated

      state_is : known_state q ≡ effect (rules_of under.found) p.number call.End reply.Ended (state_of under.found)
      state_is = ap state_of (last_known M p q under mine under.makes.logged own_are) ∙ under.makes.step.after

      number_is : q.number ≡ p.number
      number_is = same_number M p q under mine under.makes.logged own_are

      ended_held : held_in (known_state q) q.number ≡ []
      ended_held = ap (λ (n : ℕ). held_in (known_state q) n) number_is ∙ (ap (λ (s : State). held_in s p.number) state_is ∙ held_ended (rules_of under.found) (state_of under.found) p.number)

      ended_tag : tag_in q ≡ tag_of (state_of under.found) p.number
      ended_tag = ap (λ (n : ℕ). tag_of (known_state q) n) number_is ∙ (ap (λ (s : State). tag_of s p.number) state_is
          ∙ seat_tag (rules_of under.found) (state_of under.found) p.number p.number call.End reply.Ended refl)

    -- a poll
    module _ (n : ℕ) (rises : p.seen ≤ n) where
      pub poll_none : q ≡ loaded n p → n ≤ tag → Polls false p q
      poll_none is few = subst (λ (x : LogKnown). Polls false p x) (sym is) (record {
        releases = n;
        rises = rises;
        makes = ((let tagged = sits.seated.tagged in omega (arith, tagged, few)), refl);
        due = polled_none p n tag sits.legal sits.fewest rises sits.seated.tagged few;
        stays = stays_of 0 p (loaded n p) es tag (l.loaded_keeps n p) (l.loaded_sits n p es tag sits rises);
      })

      pub poll_acks : tag < n → Acknowledges (loaded n p) q → StaysAtWork 0 (loaded n p) q → Polls true p q
      poll_acks due acks stays = record {
        releases = n;
        rises = rises;
        makes = ((let tagged = sits.seated.tagged in omega (arith, tagged, due)), acks);
        due = polled_ack p q n rises acks;
        stays = record { works = stays.works; legal = stays.legal; opened = stays.opened };
      }

      pub poll_vain : CallsInVain (loaded n p) q → PollsInVain p q
      poll_vain vain = record {
        left = grows_loaded p q n MakesNothing rises (cut_grows (loaded n p) q MakesNothing refl vain.none);
        stays = record { works = vain.stays.works; legal = vain.stays.legal; opened = vain.stays.opened };
      }

-- nothing is mapped to nothing
pub none_mapped : {A B : Type 0} (f : A → B) (o : Option A) → option_map f o ≡ None → o ≡ None
none_mapped f None is = refl
none_mapped f (Some x) is = absurd (not_some (f x) (sym is))

-- what a sweep tells, as one record
pub sweeps_book : {E : Type 0} (r : Result Swept E) (seat : ℕ) (old new : BookHistory) → IfOk r (λ swept. Logged old seat call.Sweep (reply.Swept (length swept.gone)) new)
    → IfOk r (λ swept. swept.list ≡ names_in (state_of old)) → IfOk r (λ swept. swept.gone ≡ overdue_in (state_of old)) → IfOk r (λ swept. SweepsBook swept seat old new)
sweeps_book (Ok x) seat old new step list gone = record { step = step; list = list; gone = gone }
sweeps_book (Err x) seat old new step list gone = tt
