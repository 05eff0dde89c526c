-- Scripts that are being applied, one after another.
use Rattle.std.proofs.Common.{◌≡◌, ◌<◌, ◌≤◌, ◌+◌, ◌*◌, ℕ, zero, suc, List, [], ◌∷◌, ◌++◌, length, map, refl, sym, ap, ◌∙◌, subst, arith, append-nil, length-append}
use Rattle.std.specs.List.{flat_map, range_with_len}
use Rattle.std.proofs.Math.Nat.{mul-le-mul_right}
use Rattle.std.proofs.lemmas.Grind.{flat_map-append}
use Rattle.std.proofs.lemmas.List.{map-append}
use Rattle.std.proofs.lemmas.List.FromFn.{map-range_with_len_more}
use Rattle.stat_defs.specs.declared.events.Event.{Event}
use Rattle.stat_defs.specs.declared.history.Verdict.{Verdict}
use Rattle.load_scripts.specs.Load.{script_events, scripts}
use Rattle.load_scripts.proofs.Files.{many_events}
use Rattle.plain_store.specs.declared.worker.TheConstants.{MAX_EVENTS}
use Rattle.plain_store.specs.Store.{StoreHistory}
use Rattle.replay_files.specs.Applying.{AreApplied}
use Rattle.replay_files.specs.FileRun.{all_verdicts}
use Rattle.replay_files.proofs.AppliedEvents.{none_applied, both_applied, more_events}
use Rattle.load_report.specs.LoadRun.{all_script_events, AreScriptsApplied}

pub no_scripts : (n : ℕ) (earlier : StoreHistory) (verdicts : List (List Verdict)) → verdicts ≡ []
    → AreScriptsApplied earlier 0 n verdicts earlier
no_scripts n earlier verdicts none =
    subst (λ (vss : List (List Verdict)). AreScriptsApplied earlier 0 n vss earlier) (sym none)
    (record { are_applied = none_applied earlier; a_verdict_each = refl })

-- how many events the scripts from this one on have
many_from : (n first count : ℕ)
    → length (flat_map (λ es. es) (map (λ script. script_events script n) (range_with_len first count))) ≡ count * n
many_from n first zero = omega arith
many_from n first (suc count) =
    let others : List Event =
    flat_map (λ es. es) (map (λ script. script_events script n) (range_with_len (first + 1) count)) in
    let long = length-append (script_events first n) others in
    let this = many_events first first n in
    let rest = many_from n (first + 1) count in omega (arith, long, this, rest)

-- the scripts behind the earlier events leave room for one more
pub room_for_script : (count done n : ℕ) (earlier later : StoreHistory) (verdicts : List (List Verdict))
    → AreScriptsApplied earlier done n verdicts later → done < count
    → length earlier.worker.events + count * n ≤ MAX_EVENTS → length later.worker.events + n ≤ MAX_EVENTS
room_for_script count done n earlier later verdicts so few room =
    let more = more_events earlier later (all_script_events done n) (all_verdicts verdicts) so.are_applied in
    let many = many_from n 1 done in
    let below : suc done ≤ count = omega (arith, few) in
    let least = mul-le-mul_right n below in omega (arith, more, many, least, room)

-- one script more
pub one_script_more : (done n : ℕ) (earlier later latest : StoreHistory) (told more : List (List Verdict))
    (given : List Verdict) → AreScriptsApplied earlier done n told later
    → AreApplied later (script_events (done + 1) n) given latest → more ≡ told ++ given ∷ []
    → AreScriptsApplied earlier (done + 1) n more latest
one_script_more done n earlier later latest told more given so now is =
    let these : List Event = script_events (done + 1) n in
    let one_more : scripts (done + 1) n ≡ scripts done n ++ these ∷ [] =
    map-range_with_len_more (λ (script : ℕ). script_events script n) 1 done (done + 1) (omega arith) in
    let events : all_script_events (done + 1) n ≡ all_script_events done n ++ these =
    ap (λ (ess : List (List Event)). flat_map (λ es. es) ess) one_more
    ∙ flat_map-append (λ (es : List Event). es) (scripts done n) (these ∷ [])
    ∙ ap (λ (es : List Event). all_script_events done n ++ es) (append-nil these) in
    let verdicts : all_verdicts more ≡ all_verdicts told ++ given =
    ap (λ (vss : List (List Verdict)). all_verdicts vss) is
    ∙ flat_map-append (λ (vs : List Verdict). vs) told (given ∷ [])
    ∙ ap (λ (vs : List Verdict). all_verdicts told ++ vs) (append-nil given) in
    let applied : AreApplied earlier (all_script_events done n ++ these) (all_verdicts told ++ given) latest =
    both_applied earlier later latest (all_script_events done n) these (all_verdicts told) given so.are_applied now in
    record {
      are_applied = subst (λ (es : List Event). AreApplied earlier es (all_verdicts more) latest) (sym events)
          (subst (λ (vs : List Verdict). AreApplied earlier (all_script_events done n ++ these) vs latest)
          (sym verdicts) applied);
      a_verdict_each = ap (λ (vss : List (List Verdict)). map length vss) is ∙ map-append length told (given ∷ [])
          ∙ (λ i. so.a_verdict_each i ++ now.a_verdict_each i ∷ [])
          ∙ sym (map-append length (scripts done n) (these ∷ []))
          ∙ ap (λ (ess : List (List Event)). map length ess) (sym one_more);
    }
