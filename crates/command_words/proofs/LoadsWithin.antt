-- A load that words say is within its limits.
use Rattle.std.proofs.Common.{◌≡◌, ◌≤◌, ◌&&◌, ◌||◌, ℕ, Bool, true, false, cond, nat_le, Option, Some, None, option_map, is_some, List, [], ◌∷◌, codes, refl, sym, ap, ◌∙◌, subst}
use Rattle.std.specs.Option.{option_and_then}
use Rattle.std.specs.Str.{bytes_eq}
use Rattle.std.specs.Str.Parse.{digits_value}
use Rattle.std.specs.Fmt.{decimal}
use Rattle.std.specs.List.{filter_map}
use Rattle.std.proofs.lemmas.Bool.{leb-true}
use Rattle.output_options.specs.declared.OutputOptions.{OutputOptions}
use Rattle.load_scripts.specs.declared.limits.TheConstants.{MAX_SCRIPTS, MAX_SCRIPT_EVENTS}
use Rattle.command_words.specs.Command.{Command, Run, Replay, Check, Bins, Load, Reporting, number_in, running, replaying, reporting_in, check_of, check_in, bins_of, bins_in, load_of, load_in, are_values, value_in, has_output_options, is_name, command_named, command}
use Rattle.command_words.specs.Sorted.{Sorted, sorted}

number_within : (least most : ℕ) (word : List ℕ) (n : ℕ) → number_in least most word ≡ Some n → n ≤ most
number_within least most word n e =
    by (bytes_eq word (decimal value)) (nat_le least value) (nat_le value most) refl e
  where
    value : ℕ
    value = digits_value 10 word

    by : (a b c : Bool) → nat_le value most ≡ c → cond (a && (b && c)) (Some value) None ≡ Some n → n ≤ most
    by true true true le is = let same : value ≡ n = cc in subst (λ (k : ℕ). k ≤ most) same (leb-true value most le)
    by true true false le is = absurd cc
    by true false c le is = absurd cc
    by false b c le is = absurd cc

-- two numbers that were read
abbrev loaded : Bool → Option ℕ → Option ℕ → Option Command
loaded run o p = option_and_then (λ scripts. option_map (λ events. Load run scripts events) p) o

both_read : (run also : Bool) (o p : Option ℕ) (w n : ℕ) → loaded run o p ≡ Some (Load also w n) → (o ≡ Some w) × (p ≡ Some n)
both_read run also None p w n e = absurd cc
both_read run also (Some s) None w n e = absurd cc
both_read run also (Some s) (Some m) w n e = (cc, cc)

abbrev IsWithin : ℕ → ℕ → Type 0
IsWithin w n = (w ≤ MAX_SCRIPTS) × (n ≤ MAX_SCRIPT_EVENTS)

load_in_within : (run also : Bool) (operands : List (List ℕ)) (w n : ℕ) → load_in run operands ≡ Some (Load also w n) → IsWithin w n
load_in_within run also [] w n e = absurd cc
load_in_within run also (a ∷ []) w n e = absurd cc
load_in_within run also (a ∷ b ∷ []) w n e =
    let read = both_read run also (number_in 1 MAX_SCRIPTS a) (number_in 1 MAX_SCRIPT_EVENTS b) w n e in
    (number_within 1 MAX_SCRIPTS a w read.0, number_within 1 MAX_SCRIPT_EVENTS b n read.1)
load_in_within run also (a ∷ b ∷ c ∷ operands) w n e = absurd cc

load_of_within : (s : Sorted) (also : Bool) (w n : ℕ) → load_of s ≡ Some (Load also w n) → IsWithin w n
load_of_within s also w n e = by (has_output_options s) e
  where
    by : (b : Bool) → cond b None (load_in s.run s.operands) ≡ Some (Load also w n) → IsWithin w n
    by true is = absurd cc
    by false is = load_in_within s.run also s.operands w n is

no_run : (o : Option Reporting) (also : Bool) (w n : ℕ) → option_map running o ≡ Some (Load also w n) → ⊥
no_run None also w n e = cc
no_run (Some asked) also w n e = cc

no_replay : (o : Option Reporting) (also : Bool) (w n : ℕ) → option_map replaying o ≡ Some (Load also w n) → ⊥
no_replay None also w n e = cc
no_replay (Some asked) also w n e = cc

no_check : (s : Sorted) (also : Bool) (w n : ℕ) → check_of s ≡ Some (Load also w n) → ⊥
no_check s also w n e = by (has_output_options s || s.run) s.operands e
  where
    inside : (b : Bool) (boot : List ℕ) → cond b (Some (Check boot)) None ≡ Some (Load also w n) → ⊥
    inside true boot is = cc
    inside false boot is = cc

    by : (b : Bool) (operands : List (List ℕ)) → cond b None (check_in operands) ≡ Some (Load also w n) → ⊥
    by true operands is = cc
    by false [] is = cc
    by false (boot ∷ []) is = inside (is_name boot) boot is
    by false (boot ∷ next ∷ operands) is = cc

no_bins : (s : Sorted) (also : Bool) (w n : ℕ) → bins_of s ≡ Some (Load also w n) → ⊥
no_bins s also w n e = by (has_output_options s || s.run) (are_values s.operands) e
  where
    by : (b c : Bool) → cond b None (cond c (Some (Bins (filter_map value_in s.operands))) None) ≡ Some (Load also w n) → ⊥
    by true c is = cc
    by false true is = cc
    by false false is = cc

named_within : (name : List ℕ) (s : Sorted) (also : Bool) (w n : ℕ) → command_named name s ≡ Some (Load also w n) → IsWithin w n
named_within name s also w n e =
    by (bytes_eq name (codes "run")) (bytes_eq name (codes "replay")) (bytes_eq name (codes "check")) (bytes_eq name (codes "bins"))
    (bytes_eq name (codes "load")) e
  where
    by : (a b c d f : Bool)
        → cond a (option_map running (reporting_in s)) (cond b (option_map replaying (reporting_in s)) (cond c (check_of s)
        (cond d (bins_of s) (cond f (load_of s) None)))) ≡ Some (Load also w n) → IsWithin w n
    by true b c d f is = absurd (no_run (reporting_in s) also w n is)
    by false true c d f is = absurd (no_replay (reporting_in s) also w n is)
    by false false true d f is = absurd (no_check s also w n is)
    by false false false true f is = absurd (no_bins s also w n is)
    by false false false false true is = load_of_within s also w n is
    by false false false false false is = absurd cc

pub load_within : (words : List (List ℕ)) (also : Bool) (w n : ℕ) → command words ≡ Some (Load also w n)
    → (w ≤ MAX_SCRIPTS) × (n ≤ MAX_SCRIPT_EVENTS)
load_within [] also w n e = absurd cc
load_within (name ∷ words) also w n e = by (sorted words) e
  where
    by : (o : Option Sorted) → option_and_then (command_named name) o ≡ Some (Load also w n) → IsWithin w n
    by None is = absurd cc
    by (Some s) is = named_within name s also w n is
