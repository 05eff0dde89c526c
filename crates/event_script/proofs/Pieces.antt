-- Bytes that a pull puts behind those that are held.
use Rattle.std.proofs.Common.{◌≡◌, ◌≤◌, ◌+◌, ℕ, List, ◌++◌, length, take, refl, sym, ap, ◌∙◌, arith}
use Rattle.std.proofs.lemmas.List.{append-nil, length-take-le, take-append-le}
use Rattle.std.proofs.Math.Seq.{take-append-add}
use Rattle.stat_defs.specs.Faults.{Rose}
use Rattle.stats_io.specs.States.{SourceState}
use Rattle.stats_io.specs.Pull.{FitsRoom, Pulls}
use Rattle.stats_io.specs.declared.source.Pull.{Pull}
use Rattle.stats_io.specs.declared.source.Pull.TheVariants as pull
use Rattle.event_script.specs.Window.{AddsPull, count_of}

pub pulled_bytes : (held room into post : List ℕ) (end count : ℕ) → take end room ≡ held → end ≤ length room → count ≤ length into
    → take (end + count) (take end room ++ (into ++ post)) ≡ held ++ take count into
pulled_bytes held room into post end count is within few =
    let long : length (take end room) ≡ end = length-take-le end room within in
    ap (λ n. take (n + count) (take end room ++ (into ++ post))) (sym long)
    ∙ take-append-add (take end room) (into ++ post) count
    ∙ ap (λ l. take end room ++ l) (take-append-le count into post few)
    ∙ ap (λ l. l ++ take count into) is

-- what a pull put to that place
pub adds_pull : (before after : SourceState) (room into post : List ℕ) (at most : ℕ) (p : Pull) → at ≤ length room → length into ≡ most → FitsRoom p most → Pulls before after p into
    → (p ≡ pull.Failed → Rose before.faults after.faults) → AddsPull before after (take at room) (take (at + count_of p) (take at room ++ (into ++ post))) p most
adds_pull before after room into post at most (pull.Bytes k) within long fits pulls rose =
    let few : k ≤ length into = omega (arith, fits.1, long) in
    record {
      got = take k into;
      appended = pulled_bytes (take at room) room into post at k refl within few;
      counted = length-take-le k into few;
      some = fits.0;
      few = fits.1;
      consumed = pulls;
    }
adds_pull before after room into post at most pull.End within long fits pulls rose =
    (pulled_bytes (take at room) room into post at 0 refl within (omega arith) ∙ append-nil (take at room), pulls.0, pulls.1)
adds_pull before after room into post at most pull.Failed within long fits pulls rose =
    (pulled_bytes (take at room) room into post at 0 refl within (omega arith) ∙ append-nil (take at room), pulls, rose refl)
