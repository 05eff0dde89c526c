-- A walk through the log of a report, for what is known of metrics before the sweep of each flush. This project's own.
use Rattle.std.specs.Prelude.{◌≡◌, ◌≤◌, ℕ, suc, option_map, None, Some, List, [], ◌∷◌, ◌++◌, fold, take, drop, length}
use Rattle.stat_defs.specs.declared.configs.Config.{Config}
use Rattle.stat_defs.specs.declared.history.Call.{Call}
use Rattle.stat_defs.specs.declared.history.Call.TheVariants as call
use Rattle.stat_defs.specs.declared.history.Entry.{Entry}
use Rattle.stat_defs.specs.declared.history.NameOp.{NameOp}
use Rattle.stat_defs.specs.declared.history.NameOp.TheVariants as op
use Rattle.stat_defs.specs.declared.history.Reply.{Reply}
use Rattle.stat_defs.specs.declared.history.Reply.TheVariants as reply
use Rattle.stat_defs.specs.declared.reports.FlushRecord.{FlushRecord}
use Rattle.stat_defs.specs.declared.reports.Report.{Report}
use Rattle.book_state.specs.Log.{replay}
use Rattle.book_state.specs.State.{State}
use Rattle.book_state.specs.Step.{change_at}
use Rattle.book_state.specs.Stored.{StateView, after_entry}
use Rattle.name_changes.specs.Changes.{changes_by, changes_from}
use Rattle.flush_view.specs.declared.walk.Walk.{Walk}
use Rattle.flush_view.specs.Before.{Before, before_of}
use Rattle.flush_view.specs.Views.{view_rules, ends_in}

-- A metric that is made has the empty text; of one that is gone nothing is known any more.
abbrev pub changed_left : Before → NameOp → Before
changed_left lefts (op.Made at id kind) = lefts ++ Some [] ∷ []
changed_left lefts (op.Gone at id) = change_at (λ left. None) id.0 lefts

-- a text that is set replaces that of a metric that is not gone
abbrev pub left_after : Call → Before → Before
left_after (call.SetText id text) lefts = change_at (option_map (λ old. text)) id.0 lefts
left_after _ lefts = lefts

-- how many changes an entry makes, as its reply says
abbrev pub changes_told : Reply → ℕ
changes_told (reply.Made id numbers) = 1
changes_told (reply.Swept n) = n
changes_told _ = 0

-- what is known after an entry that made these changes
abbrev pub followed : Before → Entry → List NameOp → Before
followed lefts entry changes = left_after entry.call (fold changed_left lefts changes)

-- the book after so many entries of a report's log
abbrev pub state_at : Config → Report → ℕ → State
state_at config report n = replay (view_rules config).names (ends_in report.log) (take n report.log)

-- The walk has come to its place: it has what is known of the metrics there, and the changes that are still to come.
pub record IsThere (config : Config) (walk : Walk) : Type 0 where
  pub within : walk.at ≤ length walk.report.now.log
  pub lefts : walk.lefts.items ≡ before_of (state_at config walk.report.now walk.at)
  pub changes : walk.changes.now ≡ changes_from (view_rules config).names (state_at config walk.report.now walk.at)
      walk.at (drop walk.at walk.report.now.log)

-- it went on to this place
pub record GoesTo (config : Config) (place : ℕ) (old new : Walk) : Type 0 where
  pub there : IsThere config new
  pub at : new.at ≡ place
  pub report : new.report ≡ old.report

-- none of the flushes stands before this place, and each stands at or behind the one before it
abbrev pub AreRising : ℕ → List FlushRecord → Type 0
AreRising from [] = Unit {0}
AreRising from (flush ∷ flushes) = (from ≤ flush.at) × AreRising flush.at flushes

-- the changes of further entries of a stored state's log, where the log is so long before them
abbrev pub changes_behind : StateView → ℕ → List Entry → List NameOp
changes_behind state at [] = []
changes_behind state at (entry ∷ entries) =
    changes_by state.state (suc at) entry.call entry.reply ++ changes_behind (after_entry state entry) (suc at) entries
