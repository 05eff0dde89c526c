use Rattle.std.proofs.Common.{◌≡◌, ◌∷◌, ◌++◌, ℕ, List}
use Rattle.stat_defs.specs.declared.ids.Mode.{Mode}
use Rattle.stat_defs.specs.declared.ids.Mode.TheVariants.{Uninit, Accumulate, Never}
use Rattle.event_script.specs.Grammar.{mode_word}
use Rattle.event_script.proofs.EventLines.{no_mode, has_mode}
use Rattle.event_script.proofs.parts.mode_first.Goals as goal

pub returns-in-Some : goal.returns-in-Some
returns-in-Some c = has_mode Uninit c.args.text.now _ c.in-Some.ensures

pub returns-in-Some-behind_four : goal.returns-in-Some-behind_four
returns-in-Some-behind_four c = has_mode Accumulate c.args.text.now _ c.in-Some-behind_four.ensures

pub returns-in-Some-behind : goal.returns-in-Some-behind
returns-in-Some-behind c = has_mode Never c.args.text.now _ c.in-Some-behind.ensures

pub returns : goal.returns
returns c = no_mode c.args.text.now none
  where
    none : (mode : Mode) (rest : List ℕ) → c.args.text.now ≡ mode_word mode ++ 32 ∷ rest → ⊥
    none Uninit rest is = c.in_default.ensures rest is
    none Accumulate rest is = c.in_default-behind_four.ensures rest is
    none Never rest is = c.in_default-behind.ensures rest is
