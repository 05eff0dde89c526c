-- Words that were sorted, with words behind them.
use Rattle.std.proofs.Common.{◌≡◌, ◌&&◌, ◌||◌, Bool, true, false, List, [], ◌∷◌, ◌++◌, Option, Some, None, is_some, refl, ap, ◌∙◌, append_assoc}
use Rattle.std.specs.Prelude.{option_map, option_and_then, if◌then◌else◌}
use Rattle.std.proofs.lemmas.List.{append-nil}
use Rattle.clap.specs.Words.{Text}
use Rattle.command_words.specs.Sorted.{Sorted, only_operands, with_format, with_operand, with_run, with_symbols}
use Rattle.command_words.proofs.Turns.{Flag, symbols, run}
use Rattle.command_words.proofs.Held.{used_before, with_flag}

abbrev pub either_name : Option Text → Option Text → Option Text
either_name None o = o
either_name (Some v) o = Some v

abbrev pub merged : (a b c d : Bool) (x y : Option Text) → List Text → Option Sorted
merged a b c d x y operands = if (a && b) || ((c && d) || (is_some x && is_some y)) then None
    else Some (record { symbols = a || b; run = c || d; format = either_name x y; operands = operands })

-- what both say together; None where an option stands in both
abbrev pub join : Sorted → Sorted → Option Sorted
join s q = merged s.symbols q.symbols s.run q.run s.format q.format (s.operands ++ q.operands)

abbrev pub joined : Sorted → Option Sorted → Option Sorted
joined s o = option_and_then (join s) o

-- the flag in front of other words
abbrev pub flag_before : Flag → Sorted → Option Sorted
flag_before symbols rest = with_symbols rest
flag_before run rest = with_run rest

nothing_more : (a c : Bool) (x : Option Text) (os : List Text) → merged a false c false x None os ≡ Some (record { symbols = a; run = c; format = x; operands = os })
nothing_more true true None os = refl
nothing_more true false None os = refl
nothing_more false true None os = refl
nothing_more false false None os = refl
nothing_more true true (Some v) os = refl
nothing_more true false (Some v) os = refl
nothing_more false true (Some v) os = refl
nothing_more false false (Some v) os = refl

pub join_nothing : (s : Sorted) → join s (only_operands []) ≡ Some s
join_nothing s =
    ap (λ (os : List Text). merged s.symbols false s.run false s.format None os) (append-nil s.operands)
    ∙ nothing_more s.symbols s.run s.format s.operands

pub join_operand : (s q : Sorted) (v : Text) → join (record s { operands = s.operands ++ v ∷ [] }) q ≡ join s (with_operand v q)
join_operand s q v =
    ap (λ (os : List Text). merged s.symbols q.symbols s.run q.run s.format q.format os) (append_assoc s.operands (v ∷ []) q.operands)

pub joined_operand : (s : Sorted) (o : Option Sorted) (v : Text)
    → joined (record s { operands = s.operands ++ v ∷ [] }) o ≡ joined s (option_map (with_operand v) o)
joined_operand s None v = refl
joined_operand s (Some q) v = join_operand s q v

symbols_once : (b c d : Bool) (x y : Option Text) (os : List Text) → merged true b c d x y os ≡ (if b then None else merged false true c d x y os)
symbols_once true c d x y os = refl
symbols_once false c d x y os = refl

run_once : (a b d : Bool) (x y : Option Text) (os : List Text) → merged a b true d x y os ≡ (if d then None else merged a b false true x y os)
run_once true true true x y os = refl
run_once true true false x y os = refl
run_once true false true x y os = refl
run_once true false false x y os = refl
run_once false b true x y os = refl
run_once false b false x y os = refl

run_twice : (a b : Bool) (x y : Option Text) (os : List Text) → merged a b true true x y os ≡ None
run_twice true true x y os = refl
run_twice true false x y os = refl
run_twice false b x y os = refl

never : (p q : Bool) (r : Sorted) → (if p || (q || true) then None else Some r) ≡ None
never true q r = refl
never false true r = refl
never false false r = refl

format_once : (a b c d : Bool) (v : Text) (y : Option Text) (os : List Text)
    → merged a b c d (Some v) y os ≡ (if is_some y then None else merged a b c d None (Some v) os)
format_once a b c d v None os = refl
format_once a b c d v (Some u) os = never (a && b) (c && d) _

-- a flag that was not used yet, and may not stand again
pub joined_flag : (f : Flag) (s : Sorted) (o : Option Sorted) → used_before f s ≡ false → joined (with_flag f s) o ≡ joined s (option_and_then (flag_before f) o)
joined_flag f s None e = refl
joined_flag symbols s (Some q) e = symbols_once q.symbols s.run q.run s.format q.format _ ∙ by q.symbols
  where
    by : (b : Bool) → (if b then None else merged false true s.run q.run s.format q.format (s.operands ++ q.operands))
        ≡ joined s (if b then None else Some (record q { symbols = true }))
    by true = refl
    by false = rw e refl
joined_flag run s (Some q) e = run_once s.symbols q.symbols q.run s.format q.format _ ∙ by q.run
  where
    by : (b : Bool) → (if b then None else merged s.symbols q.symbols false true s.format q.format (s.operands ++ q.operands))
        ≡ joined s (if b then None else Some (record q { run = true }))
    by true = refl
    by false = rw e refl

-- a flag that was used
pub joined_twice : (f : Flag) (s : Sorted) (o : Option Sorted) → used_before f s ≡ true → joined s (option_and_then (flag_before f) o) ≡ None
joined_twice f s None e = refl
joined_twice symbols s (Some q) e = by q.symbols
  where
    by : (b : Bool) → joined s (if b then None else Some (record q { symbols = true })) ≡ None
    by true = refl
    by false = rw e refl
joined_twice run s (Some q) e = by q.run
  where
    by : (b : Bool) → joined s (if b then None else Some (record q { run = true })) ≡ None
    by true = refl
    by false = rw e (run_twice s.symbols q.symbols s.format q.format _)

-- and the same of `--format`
pub joined_format : (s : Sorted) (o : Option Sorted) (v : Text) → s.format ≡ None
    → joined (record s { format = Some v }) o ≡ joined s (option_and_then (with_format v) o)
joined_format s None v e = refl
joined_format s (Some q) v e = format_once s.symbols q.symbols s.run q.run v q.format _ ∙ by (is_some q.format)
  where
    by : (b : Bool) → (if b then None else merged s.symbols q.symbols s.run q.run None (Some v) (s.operands ++ q.operands))
        ≡ joined s (if b then None else Some (record q { format = Some v }))
    by true = refl
    by false = rw e refl

pub joined_again : (s : Sorted) (o : Option Sorted) (u v : Text) → s.format ≡ Some u → joined s (option_and_then (with_format v) o) ≡ None
joined_again s None u v e = refl
joined_again s (Some q) u v e = by (is_some q.format)
  where
    by : (b : Bool) → joined s (if b then None else Some (record q { format = Some v })) ≡ None
    by true = refl
    by false = rw e (format_once s.symbols q.symbols s.run q.run u (Some v) _)
