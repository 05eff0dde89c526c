-- The events of a file are lawful, and there are no more than a file may have.
use Rattle.std.proofs.Common.{◌≡◌, ◌≤◌, ◌+◌, ℕ, Option, List, [], ◌∷◌, length, take, sym, subst, arith, inl, inr, ⊎_elim}
use Rattle.std.specs.List.{zip, AllZip, AllByRecursion}
use Rattle.std.proofs.lemmas.Bool.{cases_lt}
use Rattle.stat_defs.specs.declared.events.Event.{Event}
use Rattle.stat_defs.specs.declared.reports.FileEnd.{FileEnd}
use Rattle.stat_defs.specs.declared.reports.FileEnd.TheVariants as file
use Rattle.stat_defs.specs.declared.reports.WorkerEnd.{WorkerEnd}
use Rattle.stats_io.specs.declared.pulling.Pulled.{Pulled}
use Rattle.stats_io.specs.declared.pulling.Pulled.TheVariants.{End, Failed}
use Rattle.event_script.specs.declared.limits.TheConstants.{MAX_EVENTS, MAX_FILE_BYTES}
use Rattle.event_script.specs.Grammar.{IsLawful}
use Rattle.event_script.specs.FileEvents.{AreEventsOf}
use Rattle.event_script.specs.Script.{LinesGive, FileFrom}

-- lawful, and no more with those before than a file may have
abbrev AreFewMore : ℕ → List Event → Type 0
AreFewMore given events = (given + length events ≤ MAX_EVENTS) × AllByRecursion IsLawful events

abbrev pub AreOfFile : List Event → Type 0
AreOfFile events = (length events ≤ MAX_EVENTS) × AllByRecursion IsLawful events

no_more : (given : ℕ) (events : List Event) → given ≤ MAX_EVENTS → events ≡ [] → AreFewMore given events
no_more given events few none = subst (λ (l : List Event). AreFewMore given l) (sym none) (omega (arith, few), tt)

lines_few : (stop : Pulled) (number given : ℕ) (lines : List (List ℕ)) (events : List Event) (end : FileEnd)
    → given ≤ MAX_EVENTS
    → LinesGive number given lines stop events end → AreFewMore given events
lines_few stop number given [] events end few gives = no_more given events few gives.0
lines_few stop number given (l ∷ ls) events end few (inl long) = no_more given events few long.1
lines_few stop number given (l ∷ ls) events end few (inr (short, inl passed)) =
    lines_few stop (number + 1) given ls events end few passed.1
lines_few stop number given (l ∷ ls) events end few (inr (short, inr (inl (e, is, inl gives)))) =
    let below = gives.1 in
    let rest = lines_few stop (number + 1) (given + 1) ls gives.0 end (omega (arith, below)) gives.3 in
    let count = rest.0 in
    subst (λ (es : List Event). AreFewMore given es) (sym gives.2) (omega (arith, count), ((l, (short, is)), rest.1))
lines_few stop number given (l ∷ ls) events end few (inr (short, inr (inl (e, is, inr many)))) =
    no_more given events few many.1
lines_few stop number given (l ∷ ls) events end few (inr (short, inr (inr none))) = no_more given events few none.1

bytes_few : (bytes : List ℕ) (stop : Pulled) (events : List Event) (end : FileEnd)
    → FileFrom 1 0 0 bytes stop events end → AreOfFile events
bytes_few bytes stop events end from =
    let whole : AreFewMore 0 events = ⊎_elim
    (λ big. lines_few _ 1 0 _ events end (omega arith) (from.1 big))
    (λ fits. lines_few _ 1 0 _ events end (omega arith) (from.0 fits))
    (cases_lt MAX_FILE_BYTES (0 + length bytes)) in
    let count = whole.0 in
    (omega (arith, count), whole.1)

few_lawful : (content : Option (List ℕ)) (end : FileEnd) (taken : ℕ) (events : List Event)
    → AreEventsOf content end taken events → AreOfFile events
few_lawful content file.NotOpened taken events run =
    let none = no_more 0 events (omega arith) run in
    let count = none.0 in
    (omega (arith, count), none.1)
few_lawful content file.ReadFault taken events run = bytes_few (take taken run.0) Failed events _ run.3
few_lawful content file.Whole taken events run = bytes_few run.0 End events _ run.2
few_lawful content file.TooBig taken events run = bytes_few run.0 End events _ run.2
few_lawful content file.TooMany taken events run = bytes_few run.0 End events _ run.2
few_lawful content (file.BadLine n) taken events run = bytes_few run.0 End events _ run.2
few_lawful content (file.LineTooLong n) taken events run = bytes_few run.0 End events _ run.2

pub files_few : (contents : List (Option (List ℕ))) (ends : List WorkerEnd) (events : List (List Event))
    → length events ≡ length ends
    → AllZip (λ content file. AreEventsOf content file.0.end file.0.taken file.1) contents (zip ends events)
    → AllByRecursion AreOfFile events
files_few contents ends [] same runs = tt
files_few contents [] (es ∷ events) same runs = absurd (omega (arith, same))
files_few [] (end ∷ ends) (es ∷ events) same runs = absurd runs
files_few (content ∷ contents) (end ∷ ends) (es ∷ events) same runs =
    (few_lawful content end.end end.taken es runs.0, files_few contents ends events (omega (arith, same)) runs.1)
