use Rattle.std.proofs.Common.{◌≡◌, ◌∙◌, ℕ, List, map, length, ap, sym, string_bytes, arith}
use Rattle.std.proofs.lemmas.List.{length-map}
use Rattle.stat_defs.specs.declared.history.Entry.{Entry}
use Rattle.stat_defs.specs.declared.reports.Report.{Report}
use Rattle.name_changes.specs.Changes.{names_in_log}
use Rattle.ledger.specs.Ledger.{plan_of}
use Rattle.run_report.proofs.FilesOpened.{a_file_each}
use Rattle.run_report.proofs.FilesRun.{reported}
use Rattle.run_report.proofs.running.run_names.Goals as goal

pub run_files-requires-clause-files : goal.run_files-requires-clause-files
run_files-requires-clause-files g c _ _ =
    let names = c.args.names.now in
    let opened = a_file_each g.F.Shelf.state g.F.S.Source.state (g.F.Shelf.holds c.args.shelf.now)
    (map string_bytes names) c.args.shelf.now c.open_files.new.shelf c.in_ok-files.field-0 c.in_ok-files.ensures in (
      omega (arith, opened, length-map names string_bytes, c.requires.some),
      omega (arith, opened, length-map names string_bytes, c.requires.few),
    )

pub returns-clause-report : goal.returns-clause-report
returns-clause-report g c =
    reported g.F.Shelf.state g.F.S.Source.state (g.F.Shelf.holds c.args.shelf.now) c.args.setup.config.now
    (map string_bytes c.args.names.now) c.args.shelf.now c.open_files.new.shelf c.in_ok-files.field-0
    c.in_ok-files.ensures c.in_ok-made.made.report c.in_ok-made.ensures.report c.with_ends.result
    (rw c.deref.ensures.value at c.with_ends.ensures)

pub returns-clause-names : goal.returns-clause-names
returns-clause-names g c =
    let names = c.args.names.now in
    let rules = (plan_of c.args.setup.config.now).rules in
    let workers : length c.in_ok-files.field-0.files.items ≡ length names =
    a_file_each g.F.Shelf.state g.F.S.Source.state (g.F.Shelf.holds c.args.shelf.now) (map string_bytes names)
    c.args.shelf.now c.open_files.new.shelf c.in_ok-files.field-0 c.in_ok-files.ensures
    ∙ length-map names string_bytes in
    c.in_ok-made.ensures.names
    ∙ ap (λ (n : ℕ). names_in_log rules n c.in_ok-made.made.report.log) workers
    ∙ ap (λ (r : Report). names_in_log rules (length names) r.log) (sym c.with_ends.ensures)
