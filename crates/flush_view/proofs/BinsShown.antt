-- The bins of a row are those of lawful parts.
use Rattle.std.proofs.Common.{◌==◌, ℕ, Bool, true, false, cond, List, [], ◌∷◌, ◌++◌}
use Rattle.std.specs.Prelude.{filter}
use Rattle.std.specs.List.{flat_map, AllByRecursion}
use Rattle.stat_defs.specs.declared.reports.FlushRecord.{FlushRecord}
use Rattle.stat_defs.specs.declared.reports.Part.{Part}
use Rattle.loglinear_bins.specs.Counts.{AreLawful}
use Rattle.flush_view.specs.Showing.{HasLawfulParts}
use Rattle.flush_view.specs.Views.{is_part_on, parts_on}

abbrev pub AllLawful : List Part → Type 0
AllLawful parts = AllByRecursion (λ part. AreLawful part.bins) parts

module _ (id : ℕ) where
  of_id : (parts : List Part) → AllLawful parts → AllLawful (filter (is_part_on id) parts)
  of_id [] lawful = tt
  of_id (part ∷ parts) lawful = by_case (part.id.0 == id) (of_id parts lawful.1) where
    by_case : (b : Bool) → AllLawful (filter (is_part_on id) parts)
        → AllLawful (cond b (part ∷ filter (is_part_on id) parts) (filter (is_part_on id) parts))
    by_case true rest = (lawful.0, rest)
    by_case false rest = rest

  both_lawful : (one other : List Part) → AllLawful one → AllLawful other → AllLawful (one ++ other)
  both_lawful [] other a b = b
  both_lawful (part ∷ one) other a b = (a.0, both_lawful one other a.1 b)

  pub flush_lawful : (flush : FlushRecord) → HasLawfulParts flush → AllLawful (parts_on id flush)
  flush_lawful flush lawful = of_id flush.parts lawful

  pub flushes_lawful : (flushes : List FlushRecord) → AllByRecursion HasLawfulParts flushes
      → AllLawful (flat_map (parts_on id) flushes)
  flushes_lawful [] lawful = tt
  flushes_lawful (flush ∷ flushes) lawful =
      both_lawful (parts_on id flush) (flat_map (parts_on id) flushes)
      (flush_lawful flush lawful.0) (flushes_lawful flushes lawful.1)
