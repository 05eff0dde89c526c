-- What `check` writes. This project's own.
use Rattle.std.specs.Prelude.{ℕ, List, ◌++◌, length, codes}
use Rattle.std.specs.Fmt.{decimal}
use Rattle.stat_defs.specs.declared.configs.Config.{Config}
use Rattle.tag_rules.specs.Admission.{patterns_of}

-- `ok: T tag rules, P patterns, B bucket settings, S scopes`
abbrev pub totals_line : ℕ → ℕ → ℕ → ℕ → List ℕ
totals_line tags patterns buckets scopes =
    codes "ok: " ++ (decimal tags ++ (codes " tag rules, " ++ (decimal patterns ++ (codes " patterns, "
    ++ (decimal buckets ++ (codes " bucket settings, " ++ (decimal scopes ++ codes " scopes\n")))))))

-- the line on a bootstrap that says this: the tag rules in force, the matcher's patterns, and the scopes with `root`
abbrev pub loaded_line : Config → List ℕ
loaded_line config =
    totals_line (length config.tags) (length (patterns_of config.matcher)) (length config.buckets)
    (length config.scopes)
