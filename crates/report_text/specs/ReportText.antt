-- The text of a whole report. This project's own; the texts of its flushes are those of StatsD, of Prometheus, and of
-- Envoy's admin page.
use Rattle.std.specs.Prelude.{ℕ, List}
use Rattle.stat_defs.specs.declared.configs.Config.{Config}
use Rattle.stat_defs.specs.declared.reports.Report.{Report}
use Rattle.statsd_text.specs.Statsd.{statsd_text}
use Rattle.prom_text.specs.Prometheus.{prom_text}
use Rattle.admin_read.specs.Admin.{admin_text}
use Rattle.flush_view.specs.Views.{view_rules}
use Rattle.flush_view.specs.Output.{ViewText, output}
use Rattle.output_options.specs.declared.Format.{Format}
use Rattle.output_options.specs.declared.Format.TheVariants.{Statsd, Prom, Admin}
use Rattle.output_options.specs.declared.OutputOptions.{OutputOptions}

-- how a flush is written; the StatsD lines have this prefix
abbrev pub view_text : List ℕ → Format → ViewText
view_text prefix Statsd = statsd_text prefix
view_text prefix Prom = prom_text
view_text prefix Admin = admin_text

-- what is written of a report
abbrev pub report_text : OutputOptions → Config → Report → List ℕ
report_text options config report =
    output (view_text config.statsd_prefix options.format) (view_rules config) options.symbols report
