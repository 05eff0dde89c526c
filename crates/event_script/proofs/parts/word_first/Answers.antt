use Rattle.std.proofs.Common.{◌≡◌, ◌∷◌, ◌++◌, ℕ, List}
use Rattle.event_script.specs.declared.words.Word.{Word}
use Rattle.event_script.specs.declared.words.Word.TheVariants.{Inc, Add, Sub, Set, Rec, Text, Open, Release}
use Rattle.event_script.specs.EventIn.{word_bytes}
use Rattle.event_script.proofs.EventLines.{no_word, has_word}
use Rattle.event_script.proofs.parts.word_first.Goals as goal

pub returns-in-Some : goal.returns-in-Some
returns-in-Some c = has_word Inc c.args.text.now _ c.in-Some.ensures

pub returns-in-Some-behind_four : goal.returns-in-Some-behind_four
returns-in-Some-behind_four c = has_word Add c.args.text.now _ c.in-Some-behind_four.ensures

pub returns-in-Some-behind_four-2 : goal.returns-in-Some-behind_four-2
returns-in-Some-behind_four-2 c = has_word Sub c.args.text.now _ c.in-Some-behind_four-2.ensures

pub returns-in-Some-behind_four-3 : goal.returns-in-Some-behind_four-3
returns-in-Some-behind_four-3 c = has_word Set c.args.text.now _ c.in-Some-behind_four-3.ensures

pub returns-in-Some-behind_four-4 : goal.returns-in-Some-behind_four-4
returns-in-Some-behind_four-4 c = has_word Rec c.args.text.now _ c.in-Some-behind_four-4.ensures

pub returns-in-Some-behind : goal.returns-in-Some-behind
returns-in-Some-behind c = has_word Text c.args.text.now _ c.in-Some-behind.ensures

pub returns-in-Some-behind-2 : goal.returns-in-Some-behind-2
returns-in-Some-behind-2 c = has_word Open c.args.text.now _ c.in-Some-behind-2.ensures

pub returns-in-Some-behind-3 : goal.returns-in-Some-behind-3
returns-in-Some-behind-3 c = has_word Release c.args.text.now _ c.in-Some-behind-3.ensures

pub returns : goal.returns
returns c = no_word c.args.text.now none
  where
    none : (w : Word) (rest : List ℕ) → c.args.text.now ≡ word_bytes w ++ 32 ∷ rest → ⊥
    none Inc rest is = c.in_default.ensures rest is
    none Add rest is = c.in_default-behind_four.ensures rest is
    none Sub rest is = c.in_default-behind_four-2.ensures rest is
    none Set rest is = c.in_default-behind_four-3.ensures rest is
    none Rec rest is = c.in_default-behind_four-4.ensures rest is
    none Text rest is = c.in_default-behind.ensures rest is
    none Open rest is = c.in_default-behind-2.ensures rest is
    none Release rest is = c.in_default-behind-3.ensures rest is
