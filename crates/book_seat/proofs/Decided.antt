-- What each event comes to.
use Rattle.std.proofs.Common.{ℕ, List, refl, ◌∙◌, arith, inl}
use Rattle.stat_defs.specs.declared.events.Event.{Event}
use Rattle.stat_defs.specs.declared.events.Event.TheVariants as event
use Rattle.stat_defs.specs.declared.events.GaugeOp.{GaugeOp}
use Rattle.stat_defs.specs.declared.events.Key.{Key}
use Rattle.stat_defs.specs.declared.history.Call.TheVariants as call
use Rattle.stat_defs.specs.declared.history.Verdict.{Verdict}
use Rattle.stat_defs.specs.declared.ids.Kind.TheVariants as kind
use Rattle.stat_defs.specs.declared.ids.Mode.{Mode}
use Rattle.stat_defs.specs.declared.ids.Mode.TheVariants.{Uninit}
use Rattle.book_state.specs.Follows.{key_in}
use Rattle.seat_history.specs.declared.known.LogKnown.{LogKnown}
use Rattle.book_seat.specs.Growing.{StaysAtWork}
use Rattle.book_seat.specs.Naming.{HoldsVerdict}
use Rattle.book_seat.specs.Deciding.{CallsBook, JudgesKey, SetsText, CallsInVain, AddsEvent, DecidesEvent, IsCutOff, CutsEvent}
use Rattle.book_seat.proofs.EntryLemmas.{answered_grows, inc_grows, gauge_grows, rec_grows, text_grows, cut_grows, cut_text}
use Rattle.book_seat.proofs.NamedMetrics.{names_own, names_in_room}

stays_more : (p q : LogKnown) → StaysAtWork 0 p q → StaysAtWork 1 p q
stays_more p q stays = record { works = stays.works; legal = stays.legal; opened = (let few = stays.opened in omega (arith, few)) }

stays_then : (p m q : LogKnown) → StaysAtWork 0 p m → StaysAtWork 0 m q → StaysAtWork 0 p q
stays_then p m q first second = record { works = second.works; legal = second.legal; opened = (let few = first.opened in let more = second.opened in omega (arith, few, more)) }

decided : (p q : LogKnown) (e : Event) (v : Verdict) → AddsEvent p e v q → HoldsVerdict q e v → StaysAtWork 1 p q → DecidesEvent e v p q
decided p q e v added held stays = record { added = added; held = held; names = names_own q stays.legal e v held; in_room = names_in_room q stays.legal e v held; stays = stays }

module _ (p q : LogKnown) (label name : List ℕ) (v : Verdict) where
  pub inc_decides : (n : ℕ) → JudgesKey (key_in label kind.Counter Uninit name) v p q → DecidesEvent (event.Inc label name n) v p q
  inc_decides n j = decided p q (event.Inc label name n) v (inc_grows p q label name v n j.judges) j.held (stays_more p q j.stays)

  pub gauge_decides : (mode : Mode) (op : GaugeOp) (n : ℕ) → JudgesKey (key_in label kind.Gauge mode name) v p q → DecidesEvent (event.Gauge label name mode op n) v p q
  gauge_decides mode op n j = decided p q (event.Gauge label name mode op n) v (gauge_grows p q label name v mode op n j.judges) j.held (stays_more p q j.stays)

  pub rec_decides : (n : ℕ) → JudgesKey (key_in label kind.Histogram Uninit name) v p q → DecidesEvent (event.Rec label name n) v p q
  rec_decides n j = decided p q (event.Rec label name n) v (rec_grows p q label name v n j.judges) j.held (stays_more p q j.stays)

pub open_decides : (p q : LogKnown) (label prefix : List ℕ) (v : Verdict) → CallsBook 1 (call.OpenScope label prefix) v p q → DecidesEvent (event.OpenScope label prefix) v p q
open_decides p q label prefix v o = decided p q (event.OpenScope label prefix) v (answered_grows p q (call.OpenScope label prefix) v o.calls) tt o.stays

pub release_decides : (p q : LogKnown) (label : List ℕ) (v : Verdict) → CallsBook 0 (call.Release label) v p q → DecidesEvent (event.Release label) v p q
release_decides p q label v r = decided p q (event.Release label) v (answered_grows p q (call.Release label) v r.calls) tt (stays_more p q r.stays)

module _ (p m q : LogKnown) (label name text : List ℕ) (v : Verdict) (judged : JudgesKey (key_in label kind.Text Uninit name) v p m) where
  abbrev key : Key
  key = key_in label kind.Text Uninit name

  pub text_decides : SetsText text v m q → DecidesEvent (event.SetText label name text) v p q
  text_decides sets = decided p q (event.SetText label name text) v (text_grows p m q label name text v judged.judges sets.sets)
      (λ is_one. sets.held key ∙ judged.held is_one) (stays_more p q (stays_then p m q judged.stays sets.stays))

  pub text_cut : CallsInVain m q → CutsEvent (event.SetText label name text) p q
  text_cut vain = record { left = cut_text p m q label name text v judged.judges vain.none; stays = stays_then p m q judged.stays vain.stays }

-- an event for which there was no memory at all
pub none_decided : (p q : LogKnown) (e : Event) → CallsInVain p q → CutsEvent e p q
none_decided p q e vain = record { left = cut_grows p q (IsCutOff e) (inl refl) vain.none; stays = vain.stays }
