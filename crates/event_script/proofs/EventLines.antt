-- What is found in a line is what the line says.
use Rattle.std.proofs.Common.{◌≡◌, ◌≢◌, ◌<◌, ◌^◌, ◌-◌, ℕ, true, false, nat_lt, Bool, cond, Option, None, Some, option_map, List, [], ◌∷◌, ◌++◌, codes, refl, sym, ap, ◌∙◌, subst, arith}
use Rattle.std.specs.List.{find, list_all}
use Rattle.std.specs.Str.{bytes_eq}
use Rattle.std.specs.Fmt.{decimal}
use Rattle.std.proofs.lemmas.Slice.Eq.{bytes_eq-Decides}
use Rattle.stat_defs.specs.declared.events.Event.{Event}
use Rattle.stat_defs.specs.declared.events.Event.TheVariants as event
use Rattle.stat_defs.specs.declared.events.GaugeOp.{GaugeOp}
use Rattle.stat_defs.specs.declared.events.GaugeOp.TheVariants as op
use Rattle.stat_defs.specs.declared.ids.Mode.{Mode}
use Rattle.stat_defs.specs.declared.ids.Mode.TheVariants.{Uninit, Accumulate, Never}
use Rattle.stat_defs.specs.declared.events.TheConstants.{MAX_LABEL_BYTES, MAX_NAME_BYTES}
use Rattle.stat_defs.specs.Names.{IsLabel, IsLocalName, is_label_byte, is_name_byte, is_printable_byte}
use Rattle.event_script.specs.declared.words.Word.{Word}
use Rattle.event_script.specs.declared.words.Word.TheVariants as word
use Rattle.event_script.specs.Grammar.{Lacks, IsMetricLine, IsLineOf, mode_word, op_word, given_prefix}
use Rattle.event_script.specs.EventIn.{part_then, read_label, read_name, read_number, read_readout, modes, read_mode, words, read_word, word_bytes, metric_in, inc_in, gauge_in, rec_in, readout_in, open_in, release_in, behind_word, event_in}
use Rattle.event_script.specs.FirstLine.{HasPart, LacksPart}
use Rattle.event_script.proofs.Splits.{lacks_all, label_lacks, name_lacks}
use Rattle.event_script.proofs.LineParts.{has_part, lacks_part}
use Rattle.event_script.proofs.PartThen.{map_some, then_at, then_some, text_is, text_reads, number_is, number_reads}

-- a find gives what passes
find_passes : {X : Type 0} (test : X → Bool) (xs : List X) (x : X) → find test xs ≡ Some x → test x ≡ true
find_passes test [] x e = absurd cc
find_passes test (y ∷ ys) x e = by (λ is. find_passes test ys x is) (test y) refl e
  where
    by : (find test ys ≡ Some x → test x ≡ true) → (b : Bool) → test y ≡ b → cond b (Some y) (find test ys) ≡ Some x → test x ≡ true
    by behind true is e = let same : y ≡ x = cc in subst (λ z. test z ≡ true) same is
    by behind false is e = behind e

pub word_is : (text : List ℕ) (w : Word) → read_word text ≡ Some w → text ≡ word_bytes w
word_is text w e = (bytes_eq-Decides text (word_bytes w)).0 (find_passes (λ v. bytes_eq text (word_bytes v)) words w e)

pub mode_is : (text : List ℕ) (mode : Mode) → read_mode text ≡ Some mode → text ≡ mode_word mode
mode_is text mode e = (bytes_eq-Decides text (mode_word mode)).0 (find_passes (λ v. bytes_eq text (mode_word v)) modes mode e)

-- words have no spaces
abbrev is_letter : ℕ → Bool
is_letter b = nat_lt 32 b

mode_lacks : (byte : ℕ) (mode : Mode) → is_letter byte ≡ false → Lacks byte (mode_word mode)
mode_lacks byte Uninit none = lacks_all is_letter byte (codes "uninit") none refl
mode_lacks byte Accumulate none = lacks_all is_letter byte (codes "acc") none refl
mode_lacks byte Never none = lacks_all is_letter byte (codes "never") none refl

word_lacks : (byte : ℕ) (w : Word) → is_letter byte ≡ false → Lacks byte (word_bytes w)
word_lacks byte word.Inc none = lacks_all is_letter byte (codes "inc") none refl
word_lacks byte word.Add none = lacks_all is_letter byte (codes "add") none refl
word_lacks byte word.Sub none = lacks_all is_letter byte (codes "sub") none refl
word_lacks byte word.Set none = lacks_all is_letter byte (codes "set") none refl
word_lacks byte word.Rec none = lacks_all is_letter byte (codes "rec") none refl
word_lacks byte word.Text none = lacks_all is_letter byte (codes "text") none refl
word_lacks byte word.Open none = lacks_all is_letter byte (codes "open") none refl
word_lacks byte word.Release none = lacks_all is_letter byte (codes "release") none refl

word_reads : (w : Word) → read_word (word_bytes w) ≡ Some w
word_reads word.Inc = refl
word_reads word.Add = refl
word_reads word.Sub = refl
word_reads word.Set = refl
word_reads word.Rec = refl
word_reads word.Text = refl
word_reads word.Open = refl
word_reads word.Release = refl

mode_reads : (mode : Mode) → read_mode (mode_word mode) ≡ Some mode
mode_reads Uninit = refl
mode_reads Accumulate = refl
mode_reads Never = refl

label_is : (text label : List ℕ) → read_label text ≡ Some label → (text ≡ label) × IsLabel label
label_is text label e = let is = text_is is_label_byte MAX_LABEL_BYTES text label e in (is.0, record { not_empty = is.1; short = is.2; bytes = is.3 })

name_is : (text name : List ℕ) → read_name text ≡ Some name → (text ≡ name) × IsLocalName name
name_is text name e = let is = text_is is_name_byte MAX_NAME_BYTES text name e in (is.0, record { not_empty = is.1; short = is.2; bytes = is.3 })

label_reads : (label : List ℕ) → IsLabel label → read_label label ≡ Some label
label_reads label is = text_reads is_label_byte MAX_LABEL_BYTES label is.not_empty is.short is.bytes

name_reads : (name : List ℕ) → IsLocalName name → read_name name ≡ Some name
name_reads name is = text_reads is_name_byte MAX_NAME_BYTES name is.not_empty is.short is.bytes

readout_is : (text readout : List ℕ) → read_readout text ≡ Some readout → (text ≡ readout) × (list_all is_printable_byte readout ≡ true)
readout_is text readout e = by (list_all is_printable_byte text) refl e
  where
    by : (b : Bool) → list_all is_printable_byte text ≡ b → cond b (Some text) None ≡ Some readout → (text ≡ readout) × (list_all is_printable_byte readout ≡ true)
    by true all e = let same : text ≡ readout = cc in rw (← same) (refl, all)
    by false all e = absurd cc

-- a label and a name come off
metric_at : (more : List ℕ → List ℕ → List ℕ → Option Event) (label name tail : List ℕ) → IsLabel label → IsLocalName name
    → metric_in more (label ++ 32 ∷ (name ++ 32 ∷ tail)) ≡ more label name tail
metric_at more label name tail label_fits name_fits =
    then_at read_label (λ l. part_then read_name (λ m. more l m)) label (name ++ 32 ∷ tail) label (label_lacks label label_fits) (label_reads label label_fits)
    ∙ then_at read_name (λ m. more label m) name tail name (name_lacks name name_fits) (name_reads name name_fits)

-- they were found
metric_some : (more : List ℕ → List ℕ → List ℕ → Option Event) (word rest line : List ℕ) (e : Event) → line ≡ word ++ 32 ∷ rest → metric_in more rest ≡ Some e
    → (label : List ℕ) × (name : List ℕ) × (tail : List ℕ) × IsMetricLine word tail line label name × (more label name tail ≡ Some e)
metric_some more word rest line e begins is =
    let l = then_some read_label (λ l. part_then read_name (λ m. more l m)) rest e is in
    let m = then_some read_name (λ m. more l.2 m) l.1 e l.5 in
    let label = label_is l.0 l.2 l.4 in
    let name = name_is m.0 m.2 m.4 in (
      l.2,
      m.2,
      m.1,
      record {
        label_fits = label.1;
        name_fits = name.1;
        parts = begins ∙ ap (λ r. word ++ 32 ∷ r) (l.3 ∙ (λ i. label.0 i ++ 32 ∷ (m.3 ∙ ap (λ x. x ++ 32 ∷ m.1) name.0) i));
      },
      m.5,
    )

-- what stands behind the word of each kind
abbrev inc_more : List ℕ → List ℕ → List ℕ → Option Event
inc_more label name rest = option_map (λ n. event.Inc label name n) (read_number (2 ^ 32 - 1) rest)

abbrev gauge_more : GaugeOp → List ℕ → List ℕ → List ℕ → Option Event
gauge_more op label name = part_then read_mode (λ mode rest. option_map (λ n. event.Gauge label name mode op n) (read_number (2 ^ 63 - 1) rest))

abbrev rec_more : List ℕ → List ℕ → List ℕ → Option Event
rec_more label name rest = option_map (λ v. event.Rec label name v) (read_number (2 ^ 64 - 1) rest)

abbrev text_more : List ℕ → List ℕ → List ℕ → Option Event
text_more label name rest = option_map (λ readout. event.SetText label name readout) (read_readout rest)

gauge_right : (op : GaugeOp) (rest label name : List ℕ) (mode : Mode) (n : ℕ) → IsLabel label → IsLocalName name → n < 2 ^ 63
    → gauge_in op (label ++ 32 ∷ (name ++ 32 ∷ (mode_word mode ++ 32 ∷ decimal n))) ≡ Some (event.Gauge label name mode op n)
gauge_right op rest label name mode n label_fits name_fits n_fits =
    metric_at (gauge_more op) label name (mode_word mode ++ 32 ∷ decimal n) label_fits name_fits
    ∙ then_at read_mode (λ m rest. option_map (λ k. event.Gauge label name m op k) (read_number (2 ^ 63 - 1) rest)) (mode_word mode) (decimal n) mode (mode_lacks 32 mode refl) (mode_reads mode)
    ∙ ap (option_map (λ k. event.Gauge label name mode op k)) (number_reads (2 ^ 63 - 1) n (omega (arith, n_fits)) (omega (arith, n_fits)))

-- what a line says is found in it
pub found_in : (line : List ℕ) (e : Event) → IsLineOf line e → event_in line ≡ Some e
found_in line (event.Inc label name n) is =
    rw is.metric.parts (metric_at inc_more label name (decimal n) is.metric.label_fits is.metric.name_fits
    ∙ ap (option_map (λ k. event.Inc label name k)) (number_reads (2 ^ 32 - 1) n (omega (arith, is.n_fits)) (omega (arith, is.n_fits))))
found_in line (event.Gauge label name mode op.Add n) is =
    rw is.metric.parts (gauge_right op.Add line label name mode n is.metric.label_fits is.metric.name_fits is.n_fits)
found_in line (event.Gauge label name mode op.Sub n) is =
    rw is.metric.parts (gauge_right op.Sub line label name mode n is.metric.label_fits is.metric.name_fits is.n_fits)
found_in line (event.Gauge label name mode op.Set n) is =
    rw is.metric.parts (gauge_right op.Set line label name mode n is.metric.label_fits is.metric.name_fits is.n_fits)
found_in line (event.Rec label name v) is =
    rw is.metric.parts (metric_at rec_more label name (decimal v) is.metric.label_fits is.metric.name_fits
    ∙ ap (option_map (λ k. event.Rec label name k)) (number_reads (2 ^ 64 - 1) v (omega (arith, is.v_fits)) is.v_fits))
found_in line (event.SetText label name text) is =
    rw is.metric.parts (metric_at text_more label name text is.metric.label_fits is.metric.name_fits ∙ rw is.text_fits refl)
found_in line (event.OpenScope label prefix) is =
    rw is.parts (then_at read_label (λ l rest. option_map (λ given. event.OpenScope l (given_prefix given)) (read_name rest)) label is.given label (label_lacks label is.label_fits) (label_reads label is.label_fits)
    ∙ ap (option_map (λ given. event.OpenScope label (given_prefix given))) (name_reads is.given is.given_fits) ∙ ap (λ p. Some (event.OpenScope label p)) (sym is.means))
found_in line (event.Release label) is = rw is.parts (ap (option_map (λ l. event.Release l)) (label_reads label is.label_fits))

-- what is found in a line is what it says
module _ (line rest : List ℕ) (e : Event) where
  inc_found : line ≡ codes "inc" ++ 32 ∷ rest → inc_in rest ≡ Some e → IsLineOf line e
  inc_found begins is =
      let m = metric_some inc_more (codes "inc") rest line e begins is in
      let n = map_some (λ n. event.Inc m.0 m.1 n) (read_number (2 ^ 32 - 1) m.2) e m.4 in
      let number = number_is (2 ^ 32 - 1) m.2 n.0 n.1 in
      subst (IsLineOf line) (sym n.2) (record { n_fits = omega (arith, number.1); metric = subst (λ tail. IsMetricLine (codes "inc") tail line m.0 m.1) number.0 m.3 })

  gauge_found : (op : GaugeOp) → line ≡ op_word op ++ 32 ∷ rest → gauge_in op rest ≡ Some e → IsLineOf line e
  gauge_found op begins is =
      let m = metric_some (gauge_more op) (op_word op) rest line e begins is in
      let w = then_some read_mode (λ mode rest. option_map (λ n. event.Gauge m.0 m.1 mode op n) (read_number (2 ^ 63 - 1) rest)) m.2 e m.4 in
      let n = map_some (λ n. event.Gauge m.0 m.1 w.2 op n) (read_number (2 ^ 63 - 1) w.1) e w.5 in
      let number = number_is (2 ^ 63 - 1) w.1 n.0 n.1 in
      let tail : m.2 ≡ mode_word w.2 ++ 32 ∷ decimal n.0 = w.3 ∙ (λ i. mode_is w.0 w.2 w.4 i ++ 32 ∷ number.0 i) in
      subst (IsLineOf line) (sym n.2) (record { n_fits = omega (arith, number.1); metric = subst (λ t. IsMetricLine (op_word op) t line m.0 m.1) tail m.3 })

  rec_found : line ≡ codes "rec" ++ 32 ∷ rest → rec_in rest ≡ Some e → IsLineOf line e
  rec_found begins is =
      let m = metric_some rec_more (codes "rec") rest line e begins is in
      let n = map_some (λ n. event.Rec m.0 m.1 n) (read_number (2 ^ 64 - 1) m.2) e m.4 in
      let number = number_is (2 ^ 64 - 1) m.2 n.0 n.1 in
      subst (IsLineOf line) (sym n.2) (record { v_fits = omega (arith, number.1); metric = subst (λ tail. IsMetricLine (codes "rec") tail line m.0 m.1) number.0 m.3 })

  text_found : line ≡ codes "text" ++ 32 ∷ rest → readout_in rest ≡ Some e → IsLineOf line e
  text_found begins is =
      let m = metric_some text_more (codes "text") rest line e begins is in
      let t = map_some (λ readout. event.SetText m.0 m.1 readout) (read_readout m.2) e m.4 in
      let readout = readout_is m.2 t.0 t.1 in
      subst (IsLineOf line) (sym t.2) (record { text_fits = readout.1; metric = subst (λ tail. IsMetricLine (codes "text") tail line m.0 m.1) readout.0 m.3 })

  open_found : line ≡ codes "open" ++ 32 ∷ rest → open_in rest ≡ Some e → IsLineOf line e
  open_found begins is =
      let l = then_some read_label (λ label rest. option_map (λ given. event.OpenScope label (given_prefix given)) (read_name rest)) rest e is in
      let g = map_some (λ given. event.OpenScope l.2 (given_prefix given)) (read_name l.1) e l.5 in
      let label = label_is l.0 l.2 l.4 in
      let given = name_is l.1 g.0 g.1 in
      subst (IsLineOf line) (sym g.2) (record {
        label_fits = label.1;
        given = g.0;
        given_fits = given.1;
        means = refl;
        parts = begins ∙ ap (λ r. codes "open" ++ 32 ∷ r) (l.3 ∙ (λ i. label.0 i ++ 32 ∷ given.0 i));
      })

  release_found : line ≡ codes "release" ++ 32 ∷ rest → release_in rest ≡ Some e → IsLineOf line e
  release_found begins is =
      let l = map_some (λ label. event.Release label) (read_label rest) e is in
      let label = label_is rest l.0 l.1 in
      subst (IsLineOf line) (sym l.2) (record { label_fits = label.1; parts = begins ∙ ap (λ r. codes "release" ++ 32 ∷ r) label.0 })

  behind_found : (w : Word) → line ≡ word_bytes w ++ 32 ∷ rest → behind_word w rest ≡ Some e → IsLineOf line e
  behind_found word.Inc begins is = inc_found begins is
  behind_found word.Add begins is = gauge_found op.Add begins is
  behind_found word.Sub begins is = gauge_found op.Sub begins is
  behind_found word.Set begins is = gauge_found op.Set begins is
  behind_found word.Rec begins is = rec_found begins is
  behind_found word.Text begins is = text_found begins is
  behind_found word.Open begins is = open_found begins is
  behind_found word.Release begins is = release_found begins is

pub line_says : (line : List ℕ) (e : Event) → event_in line ≡ Some e → IsLineOf line e
line_says line e is =
    let w = then_some read_word behind_word line e is in
    behind_found line w.1 e w.2 (w.3 ∙ ap (λ p. p ++ 32 ∷ w.1) (word_is w.0 w.2 w.4)) w.5

-- no word stands first
pub no_word : (text : List ℕ) → ((w : Word) (rest : List ℕ) → text ≢ word_bytes w ++ 32 ∷ rest) → LacksPart read_word text
no_word text none = lacks_part read_word text (λ part rest w parted reads. none w rest (parted ∙ ap (λ p. p ++ 32 ∷ rest) (word_is part w reads)))

pub no_mode : (text : List ℕ) → ((mode : Mode) (rest : List ℕ) → text ≢ mode_word mode ++ 32 ∷ rest) → LacksPart read_mode text
no_mode text none = lacks_part read_mode text (λ part rest mode parted reads. none mode rest (parted ∙ ap (λ p. p ++ 32 ∷ rest) (mode_is part mode reads)))

pub has_word : (w : Word) (text rest : List ℕ) → text ≡ word_bytes w ++ 32 ∷ rest → HasPart read_word text w rest
has_word w text rest is = has_part read_word text (word_bytes w) rest w is (word_lacks 32 w refl) (word_lacks 10 w refl) (word_reads w)

pub has_mode : (mode : Mode) (text rest : List ℕ) → text ≡ mode_word mode ++ 32 ∷ rest → HasPart read_mode text mode rest
has_mode mode text rest is = has_part read_mode text (mode_word mode) rest mode is (mode_lacks 32 mode refl) (mode_lacks 10 mode refl) (mode_reads mode)

-- an event's line begins with a word
pub begins : (line : List ℕ) (e : Event) → IsLineOf line e → (w : Word) × (rest : List ℕ) × (line ≡ word_bytes w ++ 32 ∷ rest)
begins line e is =
    let w = then_some read_word behind_word line e (found_in line e is) in
    (w.2, w.1, w.3 ∙ ap (λ p. p ++ 32 ∷ w.1) (word_is w.0 w.2 w.4))
