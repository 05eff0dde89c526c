-- What the views of a report keep. This project's own.
use Rattle.std.specs.Prelude.{◌≡◌, ℕ, true}
use Rattle.stat_defs.specs.declared.configs.Config.{Config}
use Rattle.stat_defs.specs.declared.reports.Report.{Report}
use Rattle.flush_view.specs.declared.progress.Progress.{Progress}
use Rattle.flush_view.specs.declared.report_views.ReportViews.TheInside.{Inside}
use Rattle.flush_view.specs.Kept.{HasFollowed, ordered_metrics, befores_of}
use Rattle.flush_view.specs.Replaying.{AreNext, first_state}
use Rattle.flush_view.specs.Showing.{ViewHistory, IsShowable}
use Rattle.flush_view.specs.Views.{ends_in}

abbrev pub shown : Inside → ViewHistory
shown v = record { config = v.config.now; report = v.report.now; given = v.given; whole = v.whole }

-- all is ready for the view of flush k
pub record IsReady (config : Config) (report : Report) (k : ℕ) (progress : Progress) : Type 0 where
  pub showable : IsShowable config report
  pub next : AreNext (first_state config.tags (ends_in report.log)) report.log
  pub followed : HasFollowed config report k progress

-- the metrics are those of the whole log, and what is known before each sweep is kept; where no call was cut short, all
-- is ready for the next view
pub record Kept (v : Inside) : Type 0 where
  pub metrics : v.metrics.items ≡ ordered_metrics v.config.now v.report.now
  pub befores : v.befores.items ≡ befores_of v.config.now v.report.now
  pub buckets : v.buckets.now ≡ v.config.now.buckets
  pub ready : v.whole ≡ true → IsReady v.config.now v.report.now v.given v.progress
