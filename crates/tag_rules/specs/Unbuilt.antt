-- Why a configuration's patterns were not built. This project's own.
use Rattle.std.specs.Prelude.{ℕ, ◌⊎◌, List, []}
use Rattle.std.specs.List.{flat_map}
use Rattle.stat_defs.specs.declared.configs.Config.{Config}
use Rattle.tag_rules.specs.declared.fault.TagFault.{TagFault}
use Rattle.tag_rules.specs.declared.fault.TagFault.TheVariants.{BadPattern, NoMemory}
use Rattle.tag_rules.specs.Admission.{patterns_of}
use Rattle.tag_rules.specs.Building.{IsCutAt, rule_texts, pattern_texts, setting_texts}
use Rattle.tag_rules.specs.Making.{Memory, after_making}

-- what a maker that was not called yet remembers
abbrev pub no_memory : Memory
no_memory = record { count = 0; last = []; made = [] }

-- the maker's memory once all tag rules were built
abbrev pub behind_tags : Config → Memory
behind_tags config = after_making (flat_map rule_texts config.tags) no_memory

-- a pattern of the member at that place was refused by a maker that had made these ones
abbrev pub IsRefusedAt : {A : Type 0} → (A → List (List ℕ)) → List A → Memory → ℕ → Type 0
IsRefusedAt texts members before i = (after : Memory) × IsCutAt texts members before after i

-- a pattern of the tag rules was refused
abbrev pub HasNoRules : Config → TagFault → Type 0
HasNoRules config NoMemory = Unit {0}
HasNoRules config (BadPattern i) = IsRefusedAt rule_texts config.tags no_memory i

-- a pattern of the bucket settings was refused
abbrev pub HasNoBuckets : Config → TagFault → Type 0
HasNoBuckets config NoMemory = Unit {0}
HasNoBuckets config (BadPattern i) = IsRefusedAt setting_texts config.buckets no_memory i

-- what a store needs: a pattern of the tag rules was refused, or one of the matcher behind them
abbrev pub HasNoStore : Config → TagFault → Type 0
HasNoStore config NoMemory = Unit {0}
HasNoStore config (BadPattern i) = IsRefusedAt rule_texts config.tags no_memory i
    ⊎ IsRefusedAt pattern_texts (patterns_of config.matcher) (behind_tags config) i

-- what views need: a pattern of the tag rules was refused, or one of the bucket settings behind them
abbrev pub HasNoViews : Config → TagFault → Type 0
HasNoViews config NoMemory = Unit {0}
HasNoViews config (BadPattern i) = IsRefusedAt rule_texts config.tags no_memory i
    ⊎ IsRefusedAt setting_texts config.buckets (behind_tags config) i
