-- The events of a script are lawful.
use Rattle.std.proofs.Common.{◌≡◌, ◌<◌, ◌≤◌, ◌+◌, ◌/◌, ◌%◌, ◌^◌, ◌==◌, ◌&&◌, ℕ, Bool, true, false, cond, List, [], ◌∷◌, ◌++◌, length, refl, arith, codes}
use Rattle.std.proofs.lemmas.Bool.{le-leb}
use Rattle.std.specs.List.{list_all}
use Rattle.std.specs.Fmt.{decimal}
use Rattle.std.specs.Str.Parse.{AllDigits}
use Rattle.std.proofs.lemmas.Fmt.{decimal_is_IsNumeral, length-decimal-le}
use Rattle.std.proofs.lemmas.Str.Parse.{tells_digits}
use Rattle.stat_defs.specs.Names.{IsLabel, IsLocalName, is_name_byte}
use Rattle.stat_defs.specs.Events.{IsLawfulEvent}
use Rattle.stat_defs.specs.declared.events.Event.TheVariants.{Inc, Gauge, Rec}
use Rattle.stat_defs.specs.declared.events.GaugeOp.TheVariants.{Add}
use Rattle.stat_defs.specs.declared.ids.Mode.TheVariants.{Accumulate}
use Rattle.load_scripts.specs.Load.{event_by, counter_name, histogram_name, gauge_name}

digits_named : (ds : List ℕ) → AllDigits 10 ds → list_all is_name_byte ds ≡ true
digits_named [] all = refl
digits_named (c ∷ cs) all = let parts = tells_digits.parts c cs all in
    rw (le-leb 33 c (omega (arith, parts.0.0)), le-leb c 126 (omega (arith, parts.0.1))) (digits_named cs parts.1)

-- a printable byte, and a number behind it
pub named : (letter n : ℕ) → is_name_byte letter ≡ true → n < 2 ^ 63 → IsLocalName (letter ∷ decimal n)
named letter n printable small = record {
  not_empty = omega arith;
  short = (let l = length-decimal-le 20 n (omega arith) (omega (arith, small)) (omega (arith, small)) in omega arith);
  bytes = rw printable (digits_named (decimal n) (decimal_is_IsNumeral n (omega (arith, small))).0.1);
}

pub root : IsLabel (codes "root")
root = record { not_empty = omega arith; short = omega arith; bytes = refl }

pub lawful_by : (script r : ℕ) → script < 2 ^ 32 → r < 2 ^ 31 → IsLawfulEvent (event_by script r)
lawful_by script r few small = pick (r % 4 == 2) (r % 4 == 3)
  where
    pick : (recorded moved : Bool) → IsLawfulEvent (cond recorded (Rec (codes "root") (histogram_name (r / 4 % 16)) (r / 2048 % 100000))
        (cond moved (Gauge (codes "root") (gauge_name script) Accumulate Add (r / 2048 % 1000)) (Inc (codes "root") (counter_name (r / 4 % 512)) (r / 2048 % 1000))))
    pick true moved = (root, named 104 (r / 4 % 16) refl (omega arith), omega arith)
    pick false true = (root, named 103 script refl (omega (arith, few)), omega arith)
    pick false false = (root, named 99 (r / 4 % 512) refl (omega arith), omega arith)
