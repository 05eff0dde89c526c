-- A replay of the same events has one report.
use Rattle.std.proofs.Common.{◌≡◌, ℕ, ◌+◌, ◌<◌, ◌≤◌, ◌==◌, cond, Bool, true, false, Option, List, [], ◌∷◌, ◌++◌, map, length, take, refl, ap, sym, ◌∙◌, subst, arith, append-nil}
use Rattle.std.specs.Prelude.{sum_by}
use Rattle.std.specs.List.{zip, flat_map, AllByRecursion}
use Rattle.std.proofs.lemmas.List.Sums.{sum_by-cons}
use Rattle.stat_defs.specs.declared.ids.MetricId.{MetricId}
use Rattle.stat_defs.specs.declared.ids.Kind.TheVariants.{Counter, Gauge}
use Rattle.stat_defs.specs.declared.events.Event.{Event}
use Rattle.stat_defs.specs.declared.history.Entry.{Entry}
use Rattle.stat_defs.specs.declared.history.Verdict.{Verdict}
use Rattle.stat_defs.specs.declared.metrics.Metric.{Metric}
use Rattle.stat_defs.specs.declared.reports.Delta.{Delta}
use Rattle.stat_defs.specs.declared.reports.Reading.{Reading}
use Rattle.stat_defs.specs.declared.reports.Part.{Part}
use Rattle.stat_defs.specs.declared.reports.WorkerEnd.{WorkerEnd}
use Rattle.stat_defs.specs.declared.reports.FlushRecord.{FlushRecord}
use Rattle.stat_defs.specs.declared.reports.ReadRecord.{ReadRecord}
use Rattle.stat_defs.specs.declared.reports.Report.{Report}
use Rattle.stat_defs.specs.Keys.{same_kind}
use Rattle.merge_round.specs.Rounds.{ArePartsOf}
use Rattle.book_state.specs.State.{State, metrics_of, ids_from}
use Rattle.book_state.specs.Log.{replay}
use Rattle.book_state.specs.Follows.{Follows}
use Rattle.ledger.specs.Work.{Work, events_in, verdicts_in, work_of, units_of, recordings}
use Rattle.ledger.specs.Gauges.{movers, all_moves, word_of_moves, GaugeFits}
use Rattle.ledger.specs.Segments.{taken_from, bins_by_worker}
use Rattle.ledger.specs.Flushes.{ids_made, ids_not_gone, id_of_delta, id_of_reading, delta_on, flushed}
use Rattle.ledger.specs.Ledger.{RunPlan, ReplayLedger}
use Rattle.ledger.specs.OneReport.{without_ends}
use Rattle.ledger.proofs.Lists.{nil_cons, cons_same, head_same, tail_same, none_of, one_of, number_apart, number_same}
use Rattle.ledger.proofs.WorkLists.{lengths, events_back, verdicts_back}
use Rattle.ledger.proofs.Words.{one_mover}
use Rattle.ledger.proofs.PartLists.{one_list}
use Rattle.ledger.proofs.OneLog.{one_log}

both_all : {X : Type 0} (P Q R : X → Type 0) → ((x : X) → P x → Q x → R x) → (xs : List X) → AllByRecursion P xs → AllByRecursion Q xs → AllByRecursion R xs
both_all P Q R f [] p q = tt
both_all P Q R f (x ∷ xs) p q = (f x p.0 q.0, both_all P Q R f xs p.1 q.1)

split_same : {X : Type 0} (v w r q : List X) → length v ≡ length w → v ++ r ≡ w ++ q → (v ≡ w) × (r ≡ q)
split_same [] [] r q l e = (refl, e)
split_same [] (y ∷ w) r q l e = absurd (omega (arith, l))
split_same (x ∷ v) [] r q l e = absurd (omega (arith, l))
split_same (x ∷ v) (y ∷ w) r q l e =
    let rest = split_same v w r q (omega (arith, l)) (tail_same x y (v ++ r) (w ++ q) e) in
    (cons_same x y v w (head_same x y (v ++ r) (w ++ q) e) rest.0, rest.1)

unflat : {X : Type 0} (vs ws : List (List X)) → lengths vs ≡ lengths ws → flat_map (λ x. x) vs ≡ flat_map (λ x. x) ws → vs ≡ ws
unflat [] [] l e = refl
unflat [] (w ∷ ws) l e = absurd (nil_cons (length w) (lengths ws) l)
unflat (v ∷ vs) [] l e = absurd (nil_cons (length v) (lengths vs) (sym l))
unflat (v ∷ vs) (w ∷ ws) l e =
    let parts = split_same v w (flat_map (λ x. x) vs) (flat_map (λ x. x) ws) (head_same (length v) (length w) (lengths vs) (lengths ws) l) e in
    cons_same v w vs ws parts.0 (unflat vs ws (tail_same (length v) (length w) (lengths vs) (lengths ws) l) parts.1)

-- the numbers of metrics rise
abbrev Rising : ℕ → List MetricId → Type 0
Rising lo [] = Unit {0}
Rising lo (i ∷ is) = (lo ≤ i.0) × Rising (i.0 + 1) is

rising_lower : (lo hi : ℕ) → lo ≤ hi → (is : List MetricId) → Rising hi is → Rising lo is
rising_lower lo hi low [] rising = tt
rising_lower lo hi low (i ∷ is) rising = ((let a = rising.0 in omega (arith, a, low)), rising.1)

rising_if : (n : ℕ) (t : Bool) (is : List MetricId) → Rising (n + 1) is → Rising n (cond t (record { 0 = n } ∷ is) is)
rising_if n true is rising = (omega arith, rising)
rising_if n false is rising = rising_lower n (n + 1) (omega arith) is rising

rising_from : (p : Metric → Bool) (n : ℕ) (metrics : List Metric) → Rising n (ids_from p n metrics)
rising_from p n [] = tt
rising_from p n (metric ∷ metrics) = rising_if n (p metric) (ids_from p (n + 1) metrics) (rising_from p (n + 1) metrics)

-- deltas with the same sums are the same
abbrev sum_on : ℕ → List Delta → ℕ
sum_on id ds = sum_by (delta_on id) ds

off : (a id n : ℕ) → (a ≡ id → ⊥) → cond (a == id) n 0 ≡ 0
off a id n other = ap (λ (b : Bool). cond b n 0) (number_apart a id other)

on : (a id n : ℕ) → a ≡ id → cond (a == id) n 0 ≡ n
on a id n same = ap (λ (b : Bool). cond b n 0) (number_same a id same)

none_on : (lo id : ℕ) (ds : List Delta) → Rising lo (map id_of_delta ds) → id < lo → sum_on id ds ≡ 0
none_on lo id [] rising below = refl
none_on lo id (d ∷ ds) rising below =
    let low = rising.0 in
    let whole = sum_by-cons (delta_on id) d ds in
    let head = off d.id.0 id d.n (λ same. omega (arith, low, below, same)) in
    let rest = none_on (d.id.0 + 1) id ds rising.1 (omega (arith, low, below)) in
    omega (arith, whole, head, rest)

rest_sums : (lo : ℕ) (d e : Delta) (ds es : List Delta) (is : List MetricId) → Rising lo is → d.id.0 < lo → e.id.0 < lo
    → AllByRecursion (λ i. sum_on i.0 (d ∷ ds) ≡ sum_on i.0 (e ∷ es)) is → AllByRecursion (λ i. sum_on i.0 ds ≡ sum_on i.0 es) is
rest_sums lo d e ds es [] rising dl el all = tt
rest_sums lo d e ds es (i ∷ is) rising dl el all =
    let low = rising.0 in
    let wd = sum_by-cons (delta_on i.0) d ds in
    let we = sum_by-cons (delta_on i.0) e es in
    let hd = off d.id.0 i.0 d.n (λ same. omega (arith, low, dl, same)) in
    let he = off e.id.0 i.0 e.n (λ same. omega (arith, low, el, same)) in
    let same = all.0 in
    (omega (arith, wd, we, hd, he, same), rest_sums (i.0 + 1) d e ds es is rising.1 (omega (arith, low, dl)) (omega (arith, low, el)) all.1)

delta_same : (i j : MetricId) (m n : ℕ) → i ≡ j → m ≡ n → ◌≡◌ {A = Delta} (record { id = i; n = m }) (record { id = j; n = n })
delta_same i j m n e f = cc

id_number : (i j : MetricId) → i ≡ j → i.0 ≡ j.0
id_number i j e = ap (λ (x : MetricId). x.0) e

deltas_same : (lo : ℕ) (is : List MetricId) (ds es : List Delta) → Rising lo is → map id_of_delta ds ≡ is → map id_of_delta es ≡ is
    → AllByRecursion (λ i. sum_on i.0 ds ≡ sum_on i.0 es) is → ds ≡ es
deltas_same lo [] [] [] rising dis eis all = refl
deltas_same lo [] (d ∷ ds) es rising dis eis all = absurd (nil_cons d.id (map id_of_delta ds) (sym dis))
deltas_same lo [] [] (e ∷ es) rising dis eis all = absurd (nil_cons e.id (map id_of_delta es) (sym eis))
deltas_same lo (i ∷ is) [] es rising dis eis all = absurd (nil_cons i is dis)
deltas_same lo (i ∷ is) (d ∷ ds) [] rising dis eis all = absurd (nil_cons i is eis)
deltas_same lo (i ∷ is) (d ∷ ds) (e ∷ es) rising dis eis all =
    let di = head_same d.id i (map id_of_delta ds) is dis in
    let ei = head_same e.id i (map id_of_delta es) is eis in
    let dn = id_number d.id i di in
    let en = id_number e.id i ei in
    let ds_are = tail_same d.id i (map id_of_delta ds) is dis in
    let es_are = tail_same e.id i (map id_of_delta es) is eis in
    let wd = sum_by-cons (delta_on i.0) d ds in
    let we = sum_by-cons (delta_on i.0) e es in
    let hd = on d.id.0 i.0 d.n dn in
    let he = on e.id.0 i.0 e.n en in
    let rd = none_on (i.0 + 1) i.0 ds (subst (λ (l : List MetricId). Rising (i.0 + 1) l) (sym ds_are) rising.1) (omega arith) in
    let re = none_on (i.0 + 1) i.0 es (subst (λ (l : List MetricId). Rising (i.0 + 1) l) (sym es_are) rising.1) (omega arith) in
    let same = all.0 in
    let n : d.n ≡ e.n = omega (arith, wd, we, hd, he, rd, re, same) in
    cons_same d e ds es (delta_same d.id e.id d.n e.n (di ∙ sym ei) n)
    (deltas_same (i.0 + 1) is ds es rising.1 ds_are es_are (rest_sums (i.0 + 1) d e ds es is rising.1 (omega (arith, dn)) (omega (arith, en)) all.1))

-- readings of gauges that one worker moves are the same
reading_same : (i j : MetricId) (m n : ℕ) → i ≡ j → m ≡ n → ◌≡◌ {A = Reading} (record { id = i; word = m }) (record { id = j; word = n })
reading_same i j m n e f = cc

readings_same : (work : Work) (is : List MetricId) (rs qs : List Reading) → map id_of_reading rs ≡ is → map id_of_reading qs ≡ is
    → AllByRecursion (λ r. GaugeFits r.id.0 r.word (work ∷ [])) rs → AllByRecursion (λ r. GaugeFits r.id.0 r.word (work ∷ [])) qs → rs ≡ qs
readings_same work [] [] [] ri qi fr fq = refl
readings_same work [] (r ∷ rs) qs ri qi fr fq = absurd (nil_cons r.id (map id_of_reading rs) (sym ri))
readings_same work [] [] (q ∷ qs) ri qi fr fq = absurd (nil_cons q.id (map id_of_reading qs) (sym qi))
readings_same work (i ∷ is) [] qs ri qi fr fq = absurd (nil_cons i is ri)
readings_same work (i ∷ is) (r ∷ rs) [] ri qi fr fq = absurd (nil_cons i is qi)
readings_same work (i ∷ is) (r ∷ rs) (q ∷ qs) ri qi fr fq =
    let same : r.id ≡ q.id = head_same r.id i (map id_of_reading rs) is ri ∙ sym (head_same q.id i (map id_of_reading qs) is qi) in
    let words : r.word ≡ q.word = fr.0.one_mover (one_mover r.id.0 work) ∙ ap (λ (x : MetricId). word_of_moves (all_moves (movers x.0 (work ∷ [])))) same ∙ sym (fq.0.one_mover (one_mover q.id.0 work)) in
    cons_same r q rs qs (reading_same r.id q.id r.word q.word same words)
    (readings_same work is rs qs (tail_same r.id i (map id_of_reading rs) is ri) (tail_same q.id i (map id_of_reading qs) is qi) fr.1 fq.1)

flush_same : (a b : ℕ) (ds es : List Delta) (rs qs : List Reading) (ps os : List Part) → a ≡ b → ds ≡ es → rs ≡ qs → ps ≡ os
    → ◌≡◌ {A = FlushRecord} (record { at = a; deltas = ds; gauges = rs; parts = ps }) (record { at = b; deltas = es; gauges = qs; parts = os })
flush_same a b ds es rs qs ps os e f g h = cc

module _ (plan : RunPlan) (events : List (List Event)) where
  abbrev report_with : List (List Verdict) → FlushRecord → List Entry → List ReadRecord → List WorkerEnd → Report
  report_with verdicts flush log reads ends = record { verdicts = verdicts; flushes = flush ∷ []; log = log; reads = reads; ends = ends }

  abbrev Is : List (Option (List ℕ)) → Report → Type 0
  Is contents report = ReplayLedger contents events plan report

  abbrev work_with : List (List Verdict) → Work
  work_with verdicts = flat_map work_of (zip events verdicts)

  -- with one list of verdicts and one log there is one flush
  same_flush : (contents other : List (Option (List ℕ))) (verdicts : List (List Verdict)) (f g : FlushRecord) (log : List Entry) (reads others : List ReadRecord) (ends more : List WorkerEnd) → f.at ≡ g.at
      → Is contents (report_with verdicts f log reads ends) → Is other (report_with verdicts g log others more) → f ≡ g
  same_flush contents other verdicts f g log reads others ends more at a b =
      let work : Work = work_with verdicts in
      let s : State = replay plan.rules 1 log in
      let fa = a.account.flushes.0 in
      let fb = b.account.flushes.0 in
      let sums : AllByRecursion (λ i. sum_on i.0 f.deltas ≡ sum_on i.0 g.deltas) (ids_made Counter s) =
      both_all (λ i. flushed i.0 (f ∷ []) ≡ units_of i.0 (work ∷ [])) (λ i. flushed i.0 (g ∷ []) ≡ units_of i.0 (work ∷ [])) (λ i. sum_on i.0 f.deltas ≡ sum_on i.0 g.deltas)
      (λ i p q. omega (arith, p, q)) (ids_made Counter s) a.account.units b.account.units in
      let rising : Rising 0 (ids_made Counter s) = rising_from (λ metric. same_kind metric.kind Counter) 0 (metrics_of s) in
      let deltas : f.deltas ≡ g.deltas = deltas_same 0 (ids_made Counter s) f.deltas g.deltas rising fa.deltas fb.deltas sums in
      let ids : map id_of_reading g.gauges ≡ ids_not_gone Gauge (replay plan.rules 1 (take f.at log)) =
      subst (λ (k : ℕ). map id_of_reading g.gauges ≡ ids_not_gone Gauge (replay plan.rules 1 (take k log))) (sym at) fb.gauges in
      let gauges : f.gauges ≡ g.gauges = readings_same work (ids_not_gone Gauge (replay plan.rules 1 (take f.at log))) f.gauges g.gauges fa.gauges ids a.account.words b.account.words in
      let all_f : take (taken_from 1 f) (recordings work) ≡ recordings work = sym (append-nil (take (taken_from 1 f) (recordings work))) ∙ a.account.values.0 in
      let all_g : take (taken_from 1 g) (recordings work) ≡ recordings work = sym (append-nil (take (taken_from 1 g) (recordings work))) ∙ b.account.values.0 in
      let parts : f.parts ≡ g.parts = one_list (bins_by_worker (recordings work ∷ [])) f.parts g.parts
      (subst (λ (l : List (ℕ × ℕ)). ArePartsOf (bins_by_worker (l ∷ [])) f.parts) all_f fa.parts)
      (subst (λ (l : List (ℕ × ℕ)). ArePartsOf (bins_by_worker (l ∷ [])) g.parts) all_g fb.parts) in
      flush_same f.at g.at f.deltas g.deltas f.gauges g.gauges f.parts g.parts at deltas gauges parts

  same_parts : (contents other : List (Option (List ℕ))) (verdicts verdicts' : List (List Verdict)) (f g : FlushRecord) (log log' : List Entry) (reads others : List ReadRecord) (ends more : List WorkerEnd)
      → Is contents (report_with verdicts f log reads ends) → Is other (report_with verdicts' g log' others more) → (verdicts ≡ verdicts') × (f ≡ g) × (log ≡ log') × (reads ≡ others)
  same_parts contents other verdicts verdicts' f g log log' reads others ends more a b =
      let each = a.read.a_verdict_each in
      let each' = b.read.a_verdict_each in
      let flat : events_in (work_with verdicts) ≡ events_in (work_with verdicts') = events_back events verdicts each ∙ sym (events_back events verdicts' each') in
      let follows' = subst (λ (es : List Event). Follows plan.rules 1 1 es (verdicts_in (work_with verdicts')) log') (sym flat) b.history.follows.0 in
      let got = one_log plan.rules plan.scopes (events_in (work_with verdicts)) (verdicts_in (work_with verdicts)) (verdicts_in (work_with verdicts')) log log' f.at g.at
      a.history.legal a.history.follows.0 a.swept.sweeps a.account.flushes.0.sweep a.swept.ended
      b.history.legal follows' b.swept.sweeps b.account.flushes.0.sweep b.swept.ended in
      let same : verdicts ≡ verdicts' = unflat verdicts verdicts' (each ∙ sym each') (sym (verdicts_back events verdicts each) ∙ got.1 ∙ verdicts_back events verdicts' each') in
      let b' : Is other (report_with verdicts g log others more) =
      subst (λ (v : List (List Verdict)). Is other (report_with v g log others more)) (sym same) (subst (λ (l : List Entry). Is other (report_with verdicts' g l others more)) (sym got.0) b) in
      (same, same_flush contents other verdicts f g log reads others ends more got.2 a b', got.0, none_of reads a.shown.number ∙ sym (none_of others b.shown.number))

  report_same : (v w : List (List Verdict)) (fs gs : List FlushRecord) (l m : List Entry) (r q : List ReadRecord) → v ≡ w → fs ≡ gs → l ≡ m → r ≡ q
      → ◌≡◌ {A = Report} (record { verdicts = v; flushes = fs; log = l; reads = r; ends = [] }) (record { verdicts = w; flushes = gs; log = m; reads = q; ends = [] })
  report_same v w fs gs l m r q e f g h = cc

  pub one_report : (contents others : List (Option (List ℕ))) (one other : Report) → Is contents one → Is others other → without_ends one ≡ without_ends other
  one_report contents others one other a b =
      let f = one_of one.flushes a.swept.number in
      let g = one_of other.flushes b.swept.number in
      let a' : Is contents (report_with one.verdicts f.0 one.log one.reads one.ends) = subst (λ (l : List FlushRecord). Is contents (record one { flushes = l })) f.1 a in
      let b' : Is others (report_with other.verdicts g.0 other.log other.reads other.ends) = subst (λ (l : List FlushRecord). Is others (record other { flushes = l })) g.1 b in
      let same = same_parts contents others one.verdicts other.verdicts f.0 g.0 one.log other.log one.reads other.reads one.ends other.ends a' b' in
      report_same one.verdicts other.verdicts one.flushes other.flushes one.log other.log one.reads other.reads same.0
      (f.1 ∙ ap (λ (x : FlushRecord). x ∷ []) same.1 ∙ sym g.1) same.2 same.3
