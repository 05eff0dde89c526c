-- What a call under the lock leaves of its seat's part.
use Rattle.std.proofs.Common.{◌≡◌, ◌≢◌, ℕ, ◌≤◌, ◌+◌, List, [], ◌∷◌, ◌++◌, refl, ap, sym, ◌∙◌, subst, arith, append_assoc, append-nil, All}
use Rattle.std.proofs.lemmas.List.Elements.{All-nil, All-cons, All-weaker}
use Rattle.stat_defs.specs.Books.{BookHistory, releases_in}
use Rattle.stat_defs.specs.Keys.{Held}
use Rattle.stat_defs.specs.declared.history.Call.{Call}
use Rattle.stat_defs.specs.declared.history.Entry.{Entry}
use Rattle.stat_defs.specs.declared.history.Reply.{Reply}
use Rattle.book_state.specs.State.{State}
use Rattle.book_state.specs.Log.{empty, replay_from}
use Rattle.book_state.specs.Follows.{Own, own}
use Rattle.book_state.specs.Laws.{own_entry}
use Rattle.book_state.proofs.Growing.{replayed_on, own_more, own_one, none_own}
use Rattle.stat_book.specs.Calls.{rules_of, state_of, IsLegal, Logged, openings_by}
use Rattle.stat_book.proofs.CallerLemmas.{openings_after}
use Rattle.seat_history.specs.declared.known.LogKnown.{LogKnown}
use Rattle.seat_history.specs.History.{entries_by, first_history, known_history, found_log, left_log}
use Rattle.book_access.specs.Calling.{known_state, Calls}
use Rattle.seat_history.proofs.Logs.{past-goes-on, by-append, by-own, by-others, releases-rise}
use Rattle.book_access.specs.Making.{IsAsFound}
use Rattle.book_access.proofs.Called.{seat_found, openings_found}
use Rattle.book_seat.specs.Growing.{Grows}
use Rattle.book_seat.proofs.Sitting.{IsSeated}
use Rattle.book_seat.proofs.SeatLemmas.{found_sits}

-- the log that was found has these further entries of the seat's number
module _ (Makes : ℕ → BookHistory → BookHistory → Type 0) (p q : LogKnown) (under : Calls Makes p q) (mine : List Entry)
    (logged : under.last ≡ record under.found { log = under.found.log ++ mine }) (own_are : All (λ e. e.seat ≡ p.number) mine) where
  abbrev others : List Entry
  others = under.finds.log.0

  q_is : q ≡ left_log under.last.log (found_log under.found.log p)
  q_is = under.leaves

  pub same_number : q.number ≡ p.number
  same_number = ap (λ (z : LogKnown). z.number) q_is

  pub same_first : first_history q ≡ first_history p
  same_first = ap first_history q_is

  pub knows : q.known ≡ under.last.log
  knows = ap (λ (z : LogKnown). z.known) q_is

  pub sees : q.seen ≡ releases_in under.last.log
  sees = ap (λ (z : LogKnown). z.seen) q_is

  log_is : under.last.log ≡ under.found.log ++ mine
  log_is = ap (λ (h : BookHistory). h.log) logged

  pub seen_grows : p.seen ≤ q.seen
  seen_grows = let a = under.finds.releases in let b = releases-rise under.found.log under.last.log mine log_is in let e = sees in omega (arith, a, b, e)

  pub last_known : known_history q ≡ under.last
  last_known = λ i. record { config = config_is i; workers = workers_is i; log = knows i } where
    config_is : q.config ≡ under.last.config
    config_is = ap (λ (z : LogKnown). z.config) q_is ∙ (sym under.finds.config ∙ sym (ap (λ (h : BookHistory). h.config) logged))

    workers_is : q.workers ≡ under.last.workers
    workers_is = ap (λ (z : LogKnown). z.workers) q_is ∙ (sym under.finds.workers ∙ sym (ap (λ (h : BookHistory). h.workers) logged))

  pub knows_more : q.known ≡ p.known ++ (others ++ mine)
  knows_more = knows ∙ (log_is ∙ (ap (λ (l : List Entry). l ++ mine) under.finds.log.1 ∙ append_assoc p.known others mine))

  pub made_more : q.made ≡ p.made ++ entries_by p.number (others ++ mine)
  made_more =
      ap (λ (z : LogKnown). z.made) q_is
      ∙ ap (λ (l : List Entry). p.made ++ l)
      (past-goes-on under.found.log under.last.log mine log_is
      ∙ sym (by-append p.number others mine ∙ (ap (λ (l : List Entry). l ++ entries_by p.number mine) (by-others p.number others under.finds.log.2) ∙ by-own p.number mine own_are)))

  found_is : under.found ≡ record (known_history p) { log = p.known ++ others }
  found_is = λ i. record { config = under.finds.config i; workers = under.finds.workers i; log = under.finds.log.1 i }

  none_first : All (λ (entry : Entry). p.number ≢ entry.seat) others
  none_first = All-weaker (λ (entry : Entry). entry.seat ≢ p.number) (λ entry. p.number ≢ entry.seat) (λ entry other same. other (sym same)) others under.finds.log.2

  -- its own entries among these are those behind the ones that it found
  pub own_there : own (rules_of (known_history p)) p.number (known_state p) (others ++ mine) ≡ own (rules_of under.found) p.number (state_of under.found) mine
  own_there =
      own_more (rules_of (known_history p)) (known_state p) p.number others mine
      ∙ (ap (λ (l : List Own). l ++ own (rules_of (known_history p)) p.number (replay_from (rules_of (known_history p)) (known_state p) others) mine)
      (none_own (rules_of (known_history p)) (known_state p) p.number others none_first)
      ∙ (ap (λ (s : State). own (rules_of (known_history p)) p.number s mine) (sym (replayed_on (rules_of (known_history p)) (empty p.workers) p.known others))
      ∙ ap (λ (h : BookHistory). own (rules_of h) p.number (state_of h) mine) (sym found_is)))

  pub call_grows : (Asks : List Own → Type 0) → Asks (own (rules_of under.found) p.number (state_of under.found) mine) → Grows p Asks q
  call_grows Asks asked = record {
    number = same_number;
    first = same_first;
    more = others ++ mine;
    known = knows_more;
    made = made_more;
    seen = seen_grows;
    asked = subst Asks (sym own_there) asked;
  }

  pub seated_there : (cached : List Held) (tag : ℕ) → IsSeated (known_history p) p.number cached tag → IsSeated under.found p.number cached tag
  seated_there cached tag is = found_sits (known_history p) under.found p.number cached tag (seat_found p under.found under.finds) is

  pub seated_after : (cached : List Held) (tag : ℕ) → IsSeated under.last p.number cached tag → IsSeated (known_history q) q.number cached tag
  seated_after cached tag is = subst (λ (n : ℕ). IsSeated (known_history q) n cached tag) (sym same_number)
      (subst (λ (h : BookHistory). IsSeated h p.number cached tag) (sym last_known) is)

  pub legal_after : IsLegal (known_history q)
  legal_after = subst IsLegal (sym last_known) under.legal

  pub fewest_after : releases_in q.known ≤ q.seen
  fewest_after = let e = ap releases_in knows in let f = sees in omega (arith, e, f)

  pub openings_more : (n : ℕ) → openings_by p.number under.last.log ≤ openings_by p.number under.found.log + n → openings_by p.number q.known ≤ openings_by p.number p.known + n
  openings_more n few = let e = ap (openings_by p.number) knows in let f = openings_found p under.found under.finds in omega (arith, e, f, few)

-- one entry
module _ (Makes : ℕ → BookHistory → BookHistory → Type 0) (p q : LogKnown) (under : Calls Makes p q) (c : Call) (r : Reply)
    (l : Logged under.found p.number c r under.last) where
  abbrev entry : Entry
  entry = record { seat = p.number; call = c; reply = r }

  pub one_own : All (λ (e : Entry). e.seat ≡ p.number) (entry ∷ [])
  one_own = All-cons (λ (e : Entry). e.seat ≡ p.number) entry [] refl (All-nil (λ (e : Entry). e.seat ≡ p.number))

  abbrev pub the_own : Own
  the_own = own_entry (rules_of under.found) (state_of under.found) entry

  -- after it the seat knows the state
  pub after_own : the_own.after ≡ known_state q
  after_own = sym l.step.after ∙ ap state_of (sym (last_known Makes p q under (entry ∷ []) l.logged one_own))

  pub one_grows : (Asks : List Own → Type 0) → Asks (the_own ∷ []) → Grows p Asks q
  one_grows Asks asked = call_grows Makes p q under (entry ∷ []) l.logged one_own Asks (subst Asks (sym (own_one (rules_of under.found) (state_of under.found) entry)) asked)

  pub one_opens : openings_by p.number q.known ≤ openings_by p.number p.known + 1
  one_opens = openings_more Makes p q under (entry ∷ []) l.logged one_own 1 (openings_after under.found under.last p.number c r l p.number)

-- none
module _ (p q : LogKnown) (under : Calls IsAsFound p q) where
  none_logged : under.last ≡ record under.found { log = under.found.log ++ [] }
  none_logged = under.makes ∙ λ i. record { config = under.found.config; workers = under.found.workers; log = sym (append-nil under.found.log) i }

  none_own_are : All (λ (e : Entry). e.seat ≡ p.number) []
  none_own_are = All-nil (λ (e : Entry). e.seat ≡ p.number)

  pub none_grows : (Asks : List Own → Type 0) → Asks [] → Grows p Asks q
  none_grows Asks asked = call_grows IsAsFound p q under [] none_logged none_own_are Asks asked

  pub none_seated : (cached : List Held) (tag : ℕ) → IsSeated (known_history p) p.number cached tag → IsSeated (known_history q) q.number cached tag
  none_seated cached tag is = seated_after IsAsFound p q under [] none_logged none_own_are cached tag
      (subst (λ (h : BookHistory). IsSeated h p.number cached tag) (sym under.makes) (seated_there IsAsFound p q under [] none_logged none_own_are cached tag is))

  pub none_legal : IsLegal (known_history q)
  none_legal = legal_after IsAsFound p q under [] none_logged none_own_are

  pub none_fewest : releases_in q.known ≤ q.seen
  none_fewest = fewest_after IsAsFound p q under [] none_logged none_own_are

  pub none_first_ : first_history q ≡ first_history p
  none_first_ = same_first IsAsFound p q under [] none_logged none_own_are

  pub none_number : q.number ≡ p.number
  none_number = same_number IsAsFound p q under [] none_logged none_own_are

  pub none_opens : openings_by p.number q.known ≤ openings_by p.number p.known
  none_opens = let few = openings_more IsAsFound p q under [] none_logged none_own_are 0 (let e = ap (λ (h : BookHistory). openings_by p.number h.log) under.makes in omega (arith, e)) in omega (arith, few)
