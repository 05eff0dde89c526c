-- A walk through the log of a report goes on by an entry.
use Rattle.std.proofs.Common.{◌≡◌, ◌≤◌, ◌<◌, ℕ, suc, Some, List, [], ◌∷◌, ◌++◌, take, drop, length, slice_get, get_or, refl, ap, sym, ◌∙◌, arith, length-append}
use Rattle.std.proofs.Math.Seq.{take-append_seam, drop-append_seam}
use Rattle.stat_defs.specs.declared.configs.Config.{Config}
use Rattle.stat_defs.specs.declared.history.Entry.{Entry}
use Rattle.stat_defs.specs.declared.history.NameOp.{NameOp}
use Rattle.stat_defs.specs.declared.reports.Report.{Report}
use Rattle.tag_rules.specs.Tagging.{tagged}
use Rattle.book_state.specs.Log.{empty}
use Rattle.book_state.specs.State.{NameRules, State}
use Rattle.book_state.specs.Step.{effect}
use Rattle.book_state.specs.Stored.{StateView, after_entry}
use Rattle.book_state.proofs.Lists.{get_read}
use Rattle.book_state.proofs.Safety.{empty_run}
use Rattle.name_changes.specs.Changes.{changes_by, changes_from}
use Rattle.flush_view.specs.Before.{Before, before_of}
use Rattle.flush_view.specs.Showing.{IsShowable}
use Rattle.flush_view.specs.Views.{view_rules, ends_in}
use Rattle.flush_view.specs.Walk.{changes_told, followed, state_at, changes_behind}
use Rattle.flush_view.proofs.Lefts.{StandsAt, stands_at, step_left, changes_many}
use Rattle.flush_view.proofs.Replayed.{same_step}

-- an entry that was read stands at its place
pub read_entry : (shown log : List Entry) (at : ℕ) (e : Entry) → shown ≡ log → at < length log → e ≡ get_or shown at e
    → slice_get log at ≡ Some e
read_entry shown log at e is within read =
    get_read log at e within (read ∙ ap (λ (l : List Entry). get_or l at e) is)

module _ (config : Config) (report : Report) (showable : IsShowable config report) (at : ℕ) (e : Entry)
    (read : slice_get report.log at ≡ Some e) (changes : List NameOp)
    (are : changes ≡ changes_from (view_rules config).names (state_at config report at) at (drop at report.log)) where
  abbrev rules : NameRules
  rules = (view_rules config).names

  abbrev s : State
  s = state_at config report at

  stands : StandsAt rules (empty (ends_in report.log)) report.log at e
  stands =
      stands_at rules (empty (ends_in report.log)) report.log at e (empty_run (ends_in report.log)) showable.legal.steps read

  abbrev own : List NameOp
  own = changes_by s (suc at) e.call e.reply

  abbrev later : List NameOp
  later = changes_from rules (effect rules e.seat e.call e.reply s) (suc at) (drop (suc at) report.log)

  split : changes ≡ own ++ later
  split = are ∙ ap (λ (l : List Entry). changes_from rules s at l) stands.behind

  many : length own ≡ changes_told e.reply
  many = changes_many rules e.seat e.call e.reply s (suc at) stands.may

  -- there are as many changes as the entry makes
  pub enough : changes_told e.reply ≤ length changes
  enough = let long = ap (λ (l : List NameOp). length l) split in let parts = length-append own later in
      omega (arith, long, parts, many)

  first : take (changes_told e.reply) changes ≡ own
  first = ap (λ (l : List NameOp). take (changes_told e.reply) l) split
      ∙ ap (λ (k : ℕ). take k (own ++ later)) (sym many) ∙ take-append_seam own later

  -- the others are those of the entries behind it
  pub others : drop (changes_told e.reply) changes
      ≡ changes_from rules (state_at config report (suc at)) (suc at) (drop (suc at) report.log)
  others = ap (λ (l : List NameOp). drop (changes_told e.reply) l) split
      ∙ ap (λ (k : ℕ). drop k (own ++ later)) (sym many) ∙ drop-append_seam own later
      ∙ ap (λ (t : State). changes_from rules t (suc at) (drop (suc at) report.log)) (sym stands.after)

  -- and what is known is what is known behind it
  pub known : (lefts : Before) → lefts ≡ before_of s
      → followed lefts e (take (changes_told e.reply) changes) ≡ before_of (state_at config report (suc at))
  known lefts is =
      (λ i. followed (is i) e (first i))
      ∙ step_left rules e.seat e.call e.reply s (suc at) stands.run stands.may
      ∙ ap (λ (t : State). before_of t) (sym stands.after)

-- the changes that are drawn while a stored state follows a log are those of the log
module _ (rules : NameRules) where
  pub drawn_changes : (v : StateView) (at : ℕ) (log : List Entry) → rules.tagged ≡ tagged v.tags
      → changes_behind v at log ≡ changes_from rules v.state at log
  drawn_changes v at [] tags = refl
  drawn_changes v at (e ∷ log) tags =
      ap (λ (l : List NameOp). changes_by v.state (suc at) e.call e.reply ++ l)
      (drawn_changes (after_entry v e) (suc at) log tags
      ∙ ap (λ (t : State). changes_from rules t (suc at) log) (sym (same_step rules v e tags)))
