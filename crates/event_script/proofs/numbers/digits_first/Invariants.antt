use Rattle.std.proofs.Common.{◌≡◌, ◌≤◌, take}
use Rattle.std.specs.Str.Parse.{AllDigits, digits_value}
use Rattle.event_script.proofs.numbers.digits_first.Given as goal

abbrev pub invariant-loop-at : goal.invariant-loop-at
invariant-loop-at l = record {
  digits : AllDigits 10 (take l.at l.text);
  value : digits_value 10 (take l.at l.text) ≡ l.n;
  most : l.n ≤ l.most;
}
