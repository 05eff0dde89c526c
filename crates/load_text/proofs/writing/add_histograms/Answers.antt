use Rattle.std.proofs.Common.{◌++◌, ◌∙◌, ap, codes, length}
use Rattle.std.specs.List.{flat_map}
use Rattle.loglinear_bins.specs.Counts.{total}
use Rattle.load_text.specs.Summary.{all_bins, bin_line, pair_line}
use Rattle.load_text.proofs.Appending.{two}
use Rattle.load_text.proofs.writing.add_histograms.Goals as goal

pub returns : goal.returns
returns c =
    let t = c.args.text.now.items in let rows = c.args.rows.now in
    let head = c.in_ok-pair_line.ensures ∙ (λ i. pair_line (codes "histograms") (length rows) (codes "values") ((c.from-values.ensures ∙ c.count.ensures.total ∙ ap total c.in_ok-bins.ensures) i)) in
    two t (pair_line (codes "histograms") (length rows) (codes "values") (total (all_bins rows))) (flat_map bin_line (all_bins rows))
    c.add_line.new.text.items c.add_bins.new.text.items
    (c.in_ok-add_line.ensures ∙ ap (λ l. t ++ l) head)
    (c.in_ok-add_bins.ensures ∙ ap (λ l. c.add_line.new.text.items ++ flat_map bin_line l) (c.items.ensures ∙ c.in_ok-pairs.ensures.all ∙ c.in_ok-bins.ensures))
