-- The bins of two lists of values together.
use Rattle.std.proofs.Common.{◌≡◌, ℕ, ◌^◌, ◌<◌, List, ◌++◌, All, sym, ◌∙◌}
use Rattle.std.proofs.lemmas.List.Elements.{All-append}
use Rattle.loglinear_bins.specs.Counts.{merged, bins_of}
use Rattle.loglinear_bins.proofs.Adding.{AreBinsOf-merged}
use Rattle.loglinear_bins.proofs.Values.{AreBinsOf-bins_of, IsBinList-bins_of}
use Rattle.loglinear_bins.proofs.SameBins.{same_bins, merged_rises}

pub merged_values : (values more : List ℕ) → All (λ v. v < 2 ^ 64) values → All (λ v. v < 2 ^ 64) more → merged (bins_of values) (bins_of more) ≡ bins_of (values ++ more)
merged_values values more small low =
    let one = IsBinList-bins_of values small in
    let two = IsBinList-bins_of more low in
    let all = IsBinList-bins_of (values ++ more) (All-append (λ v. v < 2 ^ 64) values more small low) in
    let counts = AreBinsOf-merged (bins_of values) (bins_of more) values more (AreBinsOf-bins_of values) (AreBinsOf-bins_of more) in
    let together = AreBinsOf-bins_of (values ++ more) in
    same_bins (merged (bins_of values) (bins_of more)) (bins_of (values ++ more)) (merged_rises (bins_of values) (bins_of more) one two.lawful) all
    (λ bin. counts.each bin ∙ sym (together.each bin))
