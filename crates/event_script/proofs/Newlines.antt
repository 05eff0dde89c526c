-- No newline stands in a line that says an event.
use Rattle.std.proofs.Common.{◌≡◌, ◌<◌, ◌^◌, ℕ, Bool, true, nat_lt, List, [], ◌∷◌, ◌++◌, codes, refl, sym, subst, arith}
use Rattle.std.specs.List.{list_all}
use Rattle.std.specs.Fmt.{decimal}
use Rattle.std.proofs.lemmas.Fmt.{decimal_is_IsNumeral}
use Rattle.stat_defs.specs.declared.events.Event.{Event}
use Rattle.stat_defs.specs.declared.events.Event.TheVariants as event
use Rattle.stat_defs.specs.declared.events.GaugeOp.{GaugeOp}
use Rattle.stat_defs.specs.declared.events.GaugeOp.TheVariants.{Add, Sub, Set}
use Rattle.stat_defs.specs.declared.ids.Mode.{Mode}
use Rattle.stat_defs.specs.declared.ids.Mode.TheVariants.{Uninit, Accumulate, Never}
use Rattle.stat_defs.specs.Names.{IsLabel, IsLocalName, is_label_byte, is_name_byte, is_printable_byte}
use Rattle.event_script.specs.Grammar.{Lacks, IsLineOf, IsMetricLine, op_word, mode_word}
use Rattle.event_script.proofs.Splits.{lacks_all, lacks_cons, lacks_first, lacks_rest}
use Rattle.event_script.proofs.LineParts.{digits_lack}

lacks_both : (xs ys : List ℕ) → Lacks 10 xs → Lacks 10 ys → Lacks 10 (xs ++ ys)
lacks_both [] ys first second = second
lacks_both (x ∷ xs) ys first second = lacks_cons 10 x (xs ++ ys) (lacks_first 10 x xs first) (lacks_both xs ys (lacks_rest 10 x xs first) second)

-- a part, a space and what stands behind it
behind_space : (part rest : List ℕ) → Lacks 10 part → Lacks 10 rest → Lacks 10 (part ++ 32 ∷ rest)
behind_space part rest first second = lacks_both part (32 ∷ rest) first (lacks_cons 10 32 rest (omega arith) second)

abbrev is_word_byte : ℕ → Bool
is_word_byte b = nat_lt 10 b

word_lacks : (word : List ℕ) → list_all is_word_byte word ≡ true → Lacks 10 word
word_lacks word all = lacks_all is_word_byte 10 word refl all

op_lacks : (op : GaugeOp) → Lacks 10 (op_word op)
op_lacks Add = word_lacks (codes "add") refl
op_lacks Sub = word_lacks (codes "sub") refl
op_lacks Set = word_lacks (codes "set") refl

mode_lacks : (mode : Mode) → Lacks 10 (mode_word mode)
mode_lacks Uninit = word_lacks (codes "uninit") refl
mode_lacks Accumulate = word_lacks (codes "acc") refl
mode_lacks Never = word_lacks (codes "never") refl

number_lacks : (n : ℕ) → n < 2 ^ 64 → Lacks 10 (decimal n)
number_lacks n small = digits_lack (decimal n) (decimal_is_IsNumeral n small).0.1

label_lacks : (label : List ℕ) → IsLabel label → Lacks 10 label
label_lacks label is = lacks_all is_label_byte 10 label refl is.bytes

name_lacks : (name : List ℕ) → IsLocalName name → Lacks 10 name
name_lacks name is = lacks_all is_name_byte 10 name refl is.bytes

metric_lacks : (word tail line label name : List ℕ) → IsMetricLine word tail line label name → Lacks 10 word → Lacks 10 tail → Lacks 10 line
metric_lacks word tail line label name is first last =
    subst (Lacks 10) (sym is.parts) (behind_space word (label ++ 32 ∷ (name ++ 32 ∷ tail)) first
    (behind_space label (name ++ 32 ∷ tail) (label_lacks label is.label_fits) (behind_space name tail (name_lacks name is.name_fits) last)))

pub lacks_newline : (line : List ℕ) (e : Event) → IsLineOf line e → Lacks 10 line
lacks_newline line (event.Inc label name n) is = metric_lacks (codes "inc") (decimal n) line label name is.metric (word_lacks (codes "inc") refl) (number_lacks n (omega (arith, is.n_fits)))
lacks_newline line (event.Gauge label name mode op n) is =
    metric_lacks (op_word op) (mode_word mode ++ 32 ∷ decimal n) line label name is.metric (op_lacks op) (behind_space (mode_word mode) (decimal n) (mode_lacks mode) (number_lacks n (omega (arith, is.n_fits))))
lacks_newline line (event.Rec label name v) is = metric_lacks (codes "rec") (decimal v) line label name is.metric (word_lacks (codes "rec") refl) (number_lacks v is.v_fits)
lacks_newline line (event.SetText label name text) is =
    metric_lacks (codes "text") text line label name is.metric (word_lacks (codes "text") refl) (lacks_all is_printable_byte 10 text refl is.text_fits)
lacks_newline line (event.OpenScope label prefix) is =
    subst (Lacks 10) (sym is.parts) (behind_space (codes "open") (label ++ 32 ∷ is.given) (word_lacks (codes "open") refl)
    (behind_space label is.given (label_lacks label is.label_fits) (name_lacks is.given is.given_fits)))
lacks_newline line (event.Release label) is = subst (Lacks 10) (sym is.parts) (behind_space (codes "release") label (word_lacks (codes "release") refl) (label_lacks label is.label_fits))
