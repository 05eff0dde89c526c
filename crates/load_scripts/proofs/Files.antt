-- The text of a script is a file of its events.
use Rattle.std.proofs.Common.{◌≡◌, ◌<◌, ◌≤◌, ◌+◌, ◌*◌, ◌/◌, ◌%◌, ◌^◌, ◌==◌, ℕ, zero, suc, Bool, true, false, cond, List, [], ◌∷◌, ◌++◌, length, refl, ap, subst, arith, codes, All, length-append}
use Rattle.std.proofs.lemmas.List.Elements.{All-nil, All-cons}
use Rattle.std.specs.Fmt.{decimal}
use Rattle.std.proofs.lemmas.Fmt.{length-decimal-le}
use Rattle.stat_defs.specs.Names.{IsLabel, IsLocalName}
use Rattle.stat_defs.specs.declared.events.Event.{Event}
use Rattle.stat_defs.specs.declared.events.Event.TheVariants.{Inc, Gauge, Rec}
use Rattle.stat_defs.specs.declared.events.GaugeOp.TheVariants.{Add}
use Rattle.stat_defs.specs.declared.ids.Mode.TheVariants.{Accumulate}
use Rattle.stat_defs.specs.declared.reports.FileEnd.TheVariants.{Whole}
use Rattle.event_script.specs.Grammar.{IsLawful, IsLineOf, line_for, lines_for}
use Rattle.event_script.specs.Script.{File}
use Rattle.event_script.specs.declared.limits.TheConstants.{MAX_LINE_BYTES, MAX_EVENTS}
use Rattle.event_script.proofs.Written.{file_read}
use Rattle.load_scripts.specs.declared.limits.TheConstants.{MAX_SCRIPTS, MAX_SCRIPT_EVENTS}
use Rattle.load_scripts.specs.Load.{next_state, drawn, event_by, event_at, events_behind, script_events, script_text, counter_name, histogram_name, gauge_name}
use Rattle.load_scripts.proofs.Lawful.{named, root}

-- what a line of a script is: the line of its event, which is short
pub record IsShort (e : Event) : Type 0 where
  pub says : IsLineOf (line_for e) e
  pub short : length (line_for e) < 60

decimal_short : (n : ℕ) → n < 2 ^ 63 → length (decimal n) ≤ 20
decimal_short n small = length-decimal-le 20 n (omega arith) (omega (arith, small)) (omega (arith, small))

-- a word, the label, a name and a number
long_metric : (letter n v : ℕ) → n < 2 ^ 63 → v < 2 ^ 63
    → length (codes "root" ++ 32 ∷ ((letter ∷ decimal n) ++ 32 ∷ decimal v)) ≤ 47
long_metric letter n v few small = let a = decimal_short n few in let b = decimal_short v small in
    let c = length-append (decimal n) (32 ∷ decimal v) in omega arith

pub line_by : (script r : ℕ) → script < 2 ^ 32 → r < 2 ^ 31 → IsShort (event_by script r)
line_by script r few small = pick (r % 4 == 2) (r % 4 == 3)
  where
    pick : (recorded moved : Bool) → IsShort (cond recorded (Rec (codes "root") (histogram_name (r / 4 % 16)) (r / 2048 % 100000))
        (cond moved (Gauge (codes "root") (gauge_name script) Accumulate Add (r / 2048 % 1000)) (Inc (codes "root") (counter_name (r / 4 % 512)) (r / 2048 % 1000))))
    pick true moved = record {
      says = record { v_fits = omega arith; metric = record { label_fits = root; name_fits = named 104 (r / 4 % 16) refl (omega arith); parts = refl } };
      short = (let l = long_metric 104 (r / 4 % 16) (r / 2048 % 100000) (omega arith) (omega arith) in omega arith);
    }
    pick false true = record {
      says = record { n_fits = omega arith; metric = record { label_fits = root; name_fits = named 103 script refl (omega (arith, few)); parts = refl } };
      short = (let a = decimal_short script (omega (arith, few)) in let b = decimal_short (r / 2048 % 1000) (omega arith) in
          let c = length-append (decimal script) (32 ∷ (codes "acc" ++ 32 ∷ decimal (r / 2048 % 1000))) in omega arith);
    }
    pick false false = record {
      says = record { n_fits = omega arith; metric = record { label_fits = root; name_fits = named 99 (r / 4 % 512) refl (omega arith); parts = refl } };
      short = (let l = long_metric 99 (r / 4 % 512) (r / 2048 % 1000) (omega arith) (omega arith) in omega arith);
    }

pub drawn_small : (x : ℕ) → drawn (next_state x) < 2 ^ 31
drawn_small x = omega arith

lawful_events : (script x n : ℕ) → script < 2 ^ 32 → All IsLawful (events_behind script x n)
lawful_events script x zero few = All-nil IsLawful
lawful_events script x (suc n) few = let y = next_state x in let l = line_by script (drawn y) few (drawn_small x) in
    All-cons IsLawful (event_at script y) (events_behind script y n) (line_for (event_at script y), (omega (arith, l.short), l.says)) (lawful_events script y n few)

pub many_events : (script x n : ℕ) → length (events_behind script x n) ≡ n
many_events script x zero = refl
many_events script x (suc n) = ap suc (many_events script (next_state x) n)

short_text : (script x n : ℕ) → script < 2 ^ 32 → length (lines_for (events_behind script x n)) ≤ 60 * n
short_text script x zero few = omega arith
short_text script x (suc n) few = let y = next_state x in let e = event_at script y in
    let l = line_by script (drawn y) few (drawn_small x) in let s = l.short in let m = short_text script y n few in
    let a = length-append (line_for e ++ 10 ∷ []) (lines_for (events_behind script y n)) in let b = length-append (line_for e) (10 ∷ []) in omega arith

pub script_is_file : (script n : ℕ) → script ≤ MAX_SCRIPTS → n ≤ MAX_SCRIPT_EVENTS → File (script_text script n) (script_events script n) Whole
script_is_file script n few small = let few' : script < 2 ^ 32 = omega (arith, few) in
    file_read (script_events script n) (lawful_events script script n few') (omega (arith, small, many_events script script n)) (omega (arith, small, short_text script script n few'))
