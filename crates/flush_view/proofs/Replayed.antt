-- The replay of a legal log through the stored state.
use Rattle.std.proofs.Common.{◌≡◌, ℕ, zero, suc, List, [], ◌∷◌, ◌++◌, fold, take, drop, ◌+◌, zero-add, refl, ap, sym, ◌∙◌, subst, arith}
use Rattle.std.specs.List.{AllByRecursion}
use Rattle.stat_defs.specs.declared.configs.MatchSpec.{MatchSpec}
use Rattle.stat_defs.specs.declared.configs.TagSpec.{TagSpec}
use Rattle.stat_defs.specs.declared.history.Entry.{Entry}
use Rattle.tag_rules.specs.Tagging.{tagged}
use Rattle.book_state.specs.State.{NameRules, State}
use Rattle.book_state.specs.Step.{effect}
use Rattle.book_state.specs.Log.{empty, replay, replay_from, Run}
use Rattle.book_state.specs.Stored.{StateView, IsLawfulCall, after_entry, drawing}
use Rattle.book_state.proofs.Entering.{same_effect, drawn}
use Rattle.stat_book.specs.Calls.{name_rules}
use Rattle.flush_view.specs.Replaying.{AreNext, first_state, state_after}

pub tags_drawn : (matcher : MatchSpec) (tags : List TagSpec) → (name_rules matcher tags).tagged ≡ tagged tags
unfolding name_rules
tags_drawn matcher tags = refl

module _ (rules : NameRules) where
  -- a step of the rules is one of the stored state
  pub same_step : (v : StateView) (e : Entry) → rules.tagged ≡ tagged v.tags
      → effect rules e.seat e.call e.reply v.state ≡ (after_entry v e).state
  same_step v e tags = same_effect rules (drawing v.tags) (tags ∙ sym (drawn v.tags)) e.seat e.call e.reply v.state

  next_from : (v : StateView) → rules.tagged ≡ tagged v.tags → (log : List Entry) → Run rules v.state log
      → AllByRecursion (λ e. IsLawfulCall e.call) log → AreNext v log
  next_from v tags [] run lawful = tt
  next_from v tags (e ∷ log) run lawful = (
    record { rules = rules; tags = tags; allowed = run.0; lawful = lawful.0 },
    next_from (after_entry v e) tags log (subst (λ (s : State). Run rules s log) (same_step v e tags) run.1) lawful.1,
  )

  replayed_from : (v : StateView) → rules.tagged ≡ tagged v.tags → (log : List Entry)
      → (fold after_entry v log).state ≡ replay_from rules v.state log
  replayed_from v tags [] = refl
  replayed_from v tags (e ∷ log) =
      replayed_from (after_entry v e) tags log ∙ ap (λ (s : State). replay_from rules s log) (sym (same_step v e tags))

  module _ (tags : List TagSpec) (workers : ℕ) (drawn_by : rules.tagged ≡ tagged tags) where
    pub all_next : (log : List Entry) → Run rules (empty workers) log → AllByRecursion (λ e. IsLawfulCall e.call) log
        → AreNext (first_state tags workers) log
    all_next log run lawful = next_from (first_state tags workers) drawn_by log run lawful

    pub state_replayed : (log : List Entry) → (state_after tags workers log).state ≡ replay rules workers log
    state_replayed log = replayed_from (first_state tags workers) drawn_by log

pub tags_stay : (v : StateView) (log : List Entry) → (fold after_entry v log).tags ≡ v.tags
tags_stay v [] = refl
tags_stay v (e ∷ log) = tags_stay (after_entry v e) log

next_front : (v : StateView) (xs ys : List Entry) → AreNext v (xs ++ ys) → AreNext v xs
next_front v [] ys next = tt
next_front v (x ∷ xs) ys next = (next.0, next_front (after_entry v x) xs ys next.1)

next_behind : (v : StateView) (xs ys : List Entry) → AreNext v (xs ++ ys) → AreNext (fold after_entry v xs) ys
next_behind v [] ys next = next
next_behind v (x ∷ xs) ys next = next_behind (after_entry v x) xs ys next.1

folded : (v : StateView) (xs ys : List Entry)
    → fold after_entry v (xs ++ ys) ≡ fold after_entry (fold after_entry v xs) ys
folded v [] ys = refl
folded v (x ∷ xs) ys = folded (after_entry v x) xs ys

parted : (from : ℕ) (n : ℕ) (log : List Entry)
    → take from log ++ (take n (drop from log) ++ drop n (drop from log)) ≡ log
parted zero n log = whole n log where
  whole : (n : ℕ) (log : List Entry) → take n log ++ drop n log ≡ log
  whole zero log = refl
  whole (suc n) [] = refl
  whole (suc n) (e ∷ log) = ap (λ (l : List Entry). e ∷ l) (whole n log)
parted (suc from) n [] = none n where
  none : (n : ℕ) → ◌≡◌ {A = List Entry} (take n [] ++ drop n []) []
  none zero = refl
  none (suc n) = refl
parted (suc from) n (e ∷ log) = ap (λ (l : List Entry). e ∷ l) (parted from n log)

-- the entries of a log from one place to another are the next ones
pub next_between : (v : StateView) (log : List Entry) (from n : ℕ) → AreNext v log
    → AreNext (fold after_entry v (take from log)) (take n (drop from log))
next_between v log from n next =
    next_front (fold after_entry v (take from log)) (take n (drop from log)) (drop n (drop from log))
    (next_behind v (take from log) (take n (drop from log) ++ drop n (drop from log))
    (subst (AreNext v) (sym (parted from n log)) next))

joined : (from n : ℕ) (log : List Entry) → take from log ++ take n (drop from log) ≡ take (from + n) log
joined zero n log = ap (λ (k : ℕ). take k log) (sym (zero-add n))
joined (suc from) n [] = none n ∙ sym (none (suc from + n)) where
  none : (m : ℕ) → ◌≡◌ {A = List Entry} (take m []) []
  none zero = refl
  none (suc m) = refl
joined (suc from) n (e ∷ log) =
    let same : suc (from + n) ≡ suc from + n = omega arith in
    ap (λ (l : List Entry). e ∷ l) (joined from n log) ∙ ap (λ (k : ℕ). take k (e ∷ log)) same

pub applied_between : (v : StateView) (log : List Entry) (from n : ℕ)
    → fold after_entry (fold after_entry v (take from log)) (take n (drop from log))
    ≡ fold after_entry v (take (from + n) log)
applied_between v log from n =
    sym (folded v (take from log) (take n (drop from log)))
    ∙ ap (λ (l : List Entry). fold after_entry v l) (joined from n log)
