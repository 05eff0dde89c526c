use Rattle.std.proofs.Common.{◌++◌, ◌∙◌, ap, codes, length, sum_by}
use Rattle.load_text.specs.Summary.{pair_line, word_in, units_of, words_of, histogram_lines}
use Rattle.load_text.proofs.Appending.{three}
use Rattle.load_text.proofs.writing.add_view.Goals as goal

pub returns : goal.returns
returns c =
    let t = c.args.text.now.items in let view = c.args.view.now in
    let counters = c.in_ok-pair_line.ensures ∙ (λ i. pair_line (codes "counters") (length (c.items-counters.ensures i)) (codes "units")
    ((c.units_of.ensures ∙ ap (sum_by (λ row. row.total)) c.items-counters.ensures) i)) in
    let gauges = c.in_ok-pair_line-2.ensures ∙ (λ i. pair_line (codes "gauges") (length (c.items-gauges.ensures i)) (codes "sum")
    ((c.words_of.ensures ∙ ap (sum_by word_in) c.items-gauges.ensures) i)) in
    three t (pair_line (codes "counters") (length view.counters) (codes "units") (units_of view))
    (pair_line (codes "gauges") (length view.gauges) (codes "sum") (words_of view)) (histogram_lines view.histograms)
    c.add_line.new.text.items c.add_line-2.new.text.items c.add_histograms.new.text.items
    (c.in_ok-add_line.ensures ∙ ap (λ l. t ++ l) counters)
    (c.in_ok-add_line-2.ensures ∙ ap (λ l. c.add_line.new.text.items ++ l) gauges)
    (c.in_ok-add_histograms.ensures ∙ ap (λ rows. c.add_line-2.new.text.items ++ histogram_lines rows) c.items.ensures)
