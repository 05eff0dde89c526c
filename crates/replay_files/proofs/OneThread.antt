-- The report of a store on one thread is the ledger of its events.
use Rattle.std.proofs.Common.{◌≡◌, ◌==◌, ◌&&◌, ℕ, suc, not, cond, nat_le, Bool, true, false, List, [], ◌∷◌, ◌++◌, length, drop, length-append, append_assoc, refl, ap, sym, ◌∙◌, subst, arith}
use Rattle.std.specs.Prelude.{count_by}
use Rattle.std.specs.List.{zip, list_all, AllByRecursion}
use Rattle.std.proofs.lemmas.Bool.Decides.{Decides-eqb}
use Rattle.std.proofs.lemmas.List.{append_cancel_left}
use Rattle.std.proofs.lemmas.List.Elements.{recursion_from_All}
use Rattle.std.proofs.lemmas.List.Folds.{list_all-append}
use Rattle.std.proofs.lemmas.List.Sums.{sum_by-append}
use Rattle.std.proofs.Math.Seq.{drop-append_seam}
use Rattle.stat_defs.specs.declared.configs.Config.{Config}
use Rattle.stat_defs.specs.declared.configs.ScopeSpec.{ScopeSpec}
use Rattle.stat_defs.specs.declared.events.Event.{Event}
use Rattle.stat_defs.specs.declared.history.Call.TheVariants as call
use Rattle.stat_defs.specs.declared.history.Entry.{Entry}
use Rattle.stat_defs.specs.declared.history.Reply.TheVariants as reply
use Rattle.stat_defs.specs.declared.history.Verdict.{Verdict}
use Rattle.stat_defs.specs.declared.ids.Kind.TheVariants.{Counter}
use Rattle.stat_defs.specs.declared.ids.MetricId.{MetricId}
use Rattle.stat_defs.specs.declared.reports.LastFlush.{LastFlush}
use Rattle.stat_defs.specs.declared.reports.Reading.{Reading}
use Rattle.stat_defs.specs.declared.reports.Report.{Report}
use Rattle.stat_defs.specs.declared.reports.WorkerEnd.{WorkerEnd}
use Rattle.book_state.specs.Log.{openings, is_sweep, fits_seat, replay}
use Rattle.book_state.specs.SeatLaws.{is_end}
use Rattle.book_state.specs.Follows.{Follows}
use Rattle.book_state.proofs.Lists.{both, count_cons}
use Rattle.ledger.specs.Work.{Work, Recording, verdicts_in, units_of}
use Rattle.ledger.specs.Gauges.{gauge_word}
use Rattle.ledger.specs.Flushes.{ids_made, Fits, flushed}
use Rattle.ledger.specs.Ledger.{RunPlan, HasHistory, AreSwept, Account, AreShown, last_flush_alone, plan_of}
use Rattle.ledger.proofs.OneWorker.{accounts}
use Rattle.ledger.proofs.PartLists.{all, nothing_left}
use Rattle.ledger.proofs.WorkLists.{zip_events, zip_verdicts}
use Rattle.ledger.proofs.WorkedParts.{one_rises, none_falls, no_pairs}
use Rattle.plain_store.specs.Store.{new_store, Finishes}
use Rattle.replay_files.specs.Applying.{with_applied}
use Rattle.replay_files.specs.FileRun.{report_with}

abbrev is_swept : Entry → Bool
is_swept entry = is_sweep entry.call

abbrev is_mine : Entry → Bool
is_mine entry = entry.seat == 1

abbrev is_no_end : Entry → Bool
is_no_end entry = not (is_end entry.call)

-- an entry of the worker is no sweep
not_swept : (entry : Entry) → fits_seat 1 entry ≡ true → is_mine entry ≡ true
    → ◌≡◌ {A = ℕ} (cond (is_swept entry) 1 0) 0
not_swept entry fits mine = by_case (is_swept entry) fits where
  by_case : (t : Bool) → cond t (entry.seat == 0) (nat_le 1 entry.seat && nat_le entry.seat 1) ≡ true
      → ◌≡◌ {A = ℕ} (cond t 1 0) 0
  by_case true fits =
      let zero_seat = (Decides-eqb entry.seat 0).0 fits in
      let one_seat = (Decides-eqb entry.seat 1).0 mine in absurd (omega (arith, zero_seat, one_seat))
  by_case false fits = refl

none_swept : (entries : List Entry) → list_all (fits_seat 1) entries ≡ true → list_all is_mine entries ≡ true
    → count_by is_swept entries ≡ 0
none_swept [] fits mine = refl
none_swept (entry ∷ entries) fits mine =
    let fit = both (fits_seat 1 entry) (list_all (fits_seat 1) entries) fits in
    let are_mine = both (is_mine entry) (list_all is_mine entries) mine in
    let this = not_swept entry fit.0 are_mine.0 in
    let others = none_swept entries fit.1 are_mine.1 in
    let count = count_cons is_swept entry entries in omega (arith, this, others, count)

-- no opening is one
openings_not_swept : (id : ℕ) (scopes : List ScopeSpec) (rest : List Entry)
    → count_by is_swept (openings id scopes ++ rest) ≡ count_by is_swept rest
openings_not_swept id [] rest = refl
openings_not_swept id (scope ∷ scopes) rest = openings_not_swept (suc id) scopes rest

module _ (config : Config) (events : List Event) (verdicts : List Verdict) (entries : List Entry) (given : LastFlush)
    (finishes : Finishes (with_applied (new_store config) events verdicts entries) given) where
  abbrev plan : RunPlan
  plan = last_flush_alone (plan_of config)

  abbrev log : List Entry
  log = openings 0 config.scopes ++ entries

  abbrev ends : Entry
  ends = record { seat = 1; call = call.End; reply = reply.Ended }

  abbrev sweep : Entry
  sweep = record { seat = 0; call = call.Sweep; reply = reply.Swept finishes.swept.0 }

  abbrev work : Work
  work = zip events verdicts

  is_log : given.log ≡ openings 0 config.scopes ++ (entries ++ ends ∷ sweep ∷ [])
  is_log = finishes.swept.1 ∙ append_assoc log (ends ∷ []) (sweep ∷ [])
      ∙ append_assoc (openings 0 config.scopes) entries (ends ∷ sweep ∷ [])

  -- the last sweep is the only one
  one_sweep : list_all is_mine entries ≡ true → count_by is_swept given.log ≡ 1
  one_sweep mine =
      let tail : List Entry = entries ++ ends ∷ sweep ∷ [] in
      let same : finishes.legal.rest ≡ tail =
      append_cancel_left (openings 0 config.scopes) finishes.legal.rest tail (sym finishes.legal.begins ∙ is_log) in
      let fits : list_all (fits_seat 1) tail ≡ true =
      subst (λ (l : List Entry). list_all (fits_seat 1) l ≡ true) same finishes.legal.seats in
      let parts = both (list_all (fits_seat 1) entries) (list_all (fits_seat 1) (ends ∷ sweep ∷ []))
      (sym (list_all-append (fits_seat 1) entries (ends ∷ sweep ∷ [])) ∙ fits) in
      let none = none_swept entries parts.0 mine in
      let whole : count_by is_swept given.log ≡ count_by is_swept tail =
      ap (λ (l : List Entry). count_by is_swept l) is_log ∙ openings_not_swept 0 config.scopes tail in
      let sum = sum_by-append (λ (entry : Entry). cond (is_swept entry) 1 0) entries (ends ∷ sweep ∷ []) in
      omega (arith, whole, sum, none)

  behind_last : drop given.last.at given.log ≡ sweep ∷ []
  behind_last =
      let at : given.last.at ≡ length (log ++ ends ∷ []) =
      (let long = length-append log (ends ∷ []) in let place = finishes.at in omega (arith, place, long)) in
      ap (λ (n : ℕ). drop n given.log) at ∙ ap (λ (l : List Entry). drop (length (log ++ ends ∷ [])) l) finishes.swept.1
      ∙ drop-append_seam (log ++ ends ∷ []) (sweep ∷ [])

  module _ (of_files : List (List Verdict)) (file_ends : List WorkerEnd) where
    abbrev report : Report
    report = report_with of_files file_ends given

    pub history : length verdicts ≡ length events → HasHistory plan (work ∷ []) report
    history each = record {
      legal = finishes.legal;
      follows = (
        subst (λ (es : List Event). Follows plan.rules 1 1 es (verdicts_in work) given.log)
            (sym (zip_events events verdicts each))
            (subst (λ (vs : List Verdict). Follows plan.rules 1 1 events vs given.log)
            (sym (zip_verdicts events verdicts each)) (finishes.follows refl)),
        tt,
      );
    }

    pub swept : list_all is_mine entries ≡ true → AreSwept plan report
    swept mine = record {
      number = refl;
      sweeps = one_sweep mine;
      rising = one_rises given.last.at;
      ended = ap (λ (l : List Entry). list_all is_no_end l) behind_last;
    }

    pub account : Account plan (work ∷ []) report
    account =
        let shown = finishes.accounts refl in
        accounts plan work [] given.last report refl tt
        (subst (λ (segs : List (List Recording)). Fits plan.rules given.log true segs given.last)
        (sym (all work [] given.last shown.fits.parts)) shown.fits)
        (units_of_all (ids_made Counter (replay plan.rules 1 given.log)) shown.units)
        (nothing_left work [] given.last shown.fits.parts)
        (recursion_from_All (λ (reading : Reading). reading.word ≡ gauge_word reading.id.0 work) given.last.gauges
        shown.words)
      where
        units_of_all : (ids : List MetricId)
            → ((id : ℕ) → flushed id (given.last ∷ []) ≡ units_of id (work ∷ []))
            → AllByRecursion (λ id. flushed id.0 (given.last ∷ []) ≡ units_of id.0 (work ∷ [])) ids
        units_of_all [] units = tt
        units_of_all (id ∷ ids) units = (units id.0, units_of_all ids units)

    pub shown : AreShown plan (work ∷ []) report
    shown = record {
      number = refl;
      never_falls = none_falls;
      each = tt;
      rising = no_pairs;
    }
