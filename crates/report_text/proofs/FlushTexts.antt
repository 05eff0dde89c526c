-- The texts of flushes, one behind another.
use Rattle.std.proofs.Common.{◌≡◌, ℕ, zero, suc, ◌+◌, ◌<◌, ◌≤◌, ◌==◌, Bool, true, false, nat_lt, if◌then◌else◌, Option}
use Rattle.std.proofs.Common.{Err, List, [], ◌∷◌, ◌++◌, length, drop, slice_get, codes, refl, sym, ap, ◌∙◌, subst}
use Rattle.std.proofs.Common.{append_assoc, append-nil, inl, inr, arith}
use Rattle.std.proofs.lemmas.Bool.{cases_lt}
use Rattle.std.proofs.lemmas.Bool.Decides.{nat_tests}
use Rattle.std.proofs.lemmas.List.{drop_all}
use Rattle.stat_defs.specs.declared.history.Entry.{Entry}
use Rattle.stat_defs.specs.declared.reports.FlushRecord.{FlushRecord}
use Rattle.stat_defs.specs.declared.views.FlushView.{FlushView}
use Rattle.stats_io.specs.States.{SinkState}
use Rattle.stats_io.specs.Push.{WritesWhole}
use Rattle.text_parts.specs.declared.fault.TextFault.{TextFault}
use Rattle.text_parts.specs.Answer.{IsTextAnswer}
use Rattle.text_parts.proofs.Following.{answer_next, answer_first}
use Rattle.flush_view.specs.Showing.{ViewHistory, after_view}
use Rattle.flush_view.specs.Views.{ViewRules, view, views, views_behind}
use Rattle.flush_view.specs.Output.{ViewText, flush_sections}
use Rattle.flush_view.proofs.EachView.{each}
use Rattle.report_text.specs.Parts.{joined, flush_head, flush_text}

-- the text of the last view, and that of one before another
last_section : (text : ViewText) (k i : ℕ) (vs : List FlushView) → suc i ≡ length vs
    → joined (flush_sections text k (drop i vs)) ≡ flush_text text k true (slice_get vs i)
    ++ joined (flush_sections text (suc k) (drop (suc i) vs))
last_section text k i [] e = absurd (omega arith)
last_section text k zero (v ∷ []) e = sym (append_assoc (codes "# last\n") (text v) [])
last_section text k zero (v ∷ w ∷ vs) e = absurd (omega arith)
last_section text k (suc i) (v ∷ vs) e = last_section text k i vs (omega arith)

more_section : (text : ViewText) (k i : ℕ) (vs : List FlushView) → suc i < length vs
    → joined (flush_sections text k (drop i vs)) ≡ flush_text text k false (slice_get vs i)
    ++ joined (flush_sections text (suc k) (drop (suc i) vs))
more_section text k i [] h = absurd (omega arith)
more_section text k zero (v ∷ []) h = absurd (omega arith)
more_section text k zero (v ∷ w ∷ vs) h =
    sym (append_assoc (flush_head k false) (text v) (joined (flush_sections text (suc k) (w ∷ vs))))
more_section text k (suc i) (v ∷ vs) h = more_section text k i vs (omega arith)

length_views : (rules : ViewRules) (log : List Entry) (earlier flushes : List FlushRecord)
    → length (views_behind rules log earlier flushes) ≡ length flushes
length_views rules log earlier [] = refl
length_views rules log earlier (flush ∷ flushes) = ap suc (length_views rules log (earlier ++ flush ∷ []) flushes)

module _ (text : ViewText) (rules : ViewRules) (log : List Entry) (flushes : List FlushRecord) where
  section_step : (i : ℕ) (last : Bool) → i < length flushes → last ≡ (i + 1 == length flushes)
      → joined (flush_sections text (suc i) (drop i (views rules log flushes)))
      ≡ flush_text text (i + 1) last (view rules log flushes i)
      ++ joined (flush_sections text (suc (i + 1)) (drop (i + 1) (views rules log flushes)))
  section_step i last within is =
      let vs : List FlushView = views rules log flushes in
      let many : length vs ≡ length flushes = length_views rules log [] flushes in
      let shown : slice_get vs i ≡ view rules log flushes i = each rules log [] flushes i in
      let next : suc i ≡ i + 1 = omega arith in
      elim (cases_lt (suc i) (length flushes)) [
        | inl more ↦
            let no : (i + 1 == length flushes) ≡ false = grind (arith, nat_tests) in
            more_section text (suc i) i vs (omega (arith, many))
            ∙ (λ j. flush_text text (next j) (sym (is ∙ no) j) (shown j)
            ++ joined (flush_sections text (suc (next j)) (drop (next j) vs)))
        | inr less ↦
            let yes : (i + 1 == length flushes) ≡ true = grind (arith, nat_tests) in
            last_section text (suc i) i vs (omega (arith, many))
            ∙ (λ j. flush_text text (next j) (sym (is ∙ yes) j) (shown j)
            ++ joined (flush_sections text (suc (next j)) (drop (next j) vs)))
      ]

  -- one flush more was written of those in front
  pub flush_next : (i : ℕ) (last : Bool) (done whole : List ℕ) → i < length flushes → last ≡ (i + 1 == length flushes)
      → done ++ joined (flush_sections text (suc i) (drop i (views rules log flushes))) ≡ whole
      → (done ++ flush_text text (i + 1) last (view rules log flushes i))
      ++ joined (flush_sections text (suc (i + 1)) (drop (i + 1) (views rules log flushes))) ≡ whole
  flush_next i last done whole within is so_far =
      append_assoc done (flush_text text (i + 1) last (view rules log flushes i))
      (joined (flush_sections text (suc (i + 1)) (drop (i + 1) (views rules log flushes))))
      ∙ ap (λ l. done ++ l) (sym (section_step i last within is)) ∙ so_far

  -- no flush is left
  pub flushes_done : (i : ℕ) (done whole : List ℕ) → length flushes ≤ i
      → done ++ joined (flush_sections text (suc i) (drop i (views rules log flushes))) ≡ whole → done ≡ whole
  flushes_done i done whole past so_far =
      sym (append-nil done)
      ∙ ap (λ (l : List FlushView). done ++ joined (flush_sections text (suc i) l))
      (sym (drop_all i (views rules log flushes) (subst (λ n. n ≤ i) (sym (length_views rules log [] flushes)) past)))
      ∙ so_far

  -- the flushes in front were written, and the one in turn was not
  pub flush_cut : (x y z : SinkState) (i : ℕ) (last : Bool) (shown : Option FlushView) (done whole : List ℕ)
      (fault : TextFault)
      → i < length flushes → last ≡ (i + 1 == length flushes) → shown ≡ view rules log flushes i
      → done ++ joined (flush_sections text (suc i) (drop i (views rules log flushes))) ≡ whole
      → WritesWhole x y done → IsTextAnswer {T = Unit {0}} y z (flush_text text (i + 1) last shown) (Err fault)
      → IsTextAnswer {T = Unit {0}} x z whole (Err fault)
  flush_cut x y z i last shown done whole fault within is shows so_far written cut =
      subst (λ (l : List ℕ). IsTextAnswer {T = Unit {0}} x z l (Err fault))
      (flush_next i last done whole within is so_far)
      (answer_first x z (done ++ flush_text text (i + 1) last (view rules log flushes i))
      (joined (flush_sections text (suc (i + 1)) (drop (i + 1) (views rules log flushes)))) fault
      (answer_next {T = Unit {0}} x y z done (flush_text text (i + 1) last (view rules log flushes i))
      (Err fault) written
      (subst (λ (v : Option FlushView). IsTextAnswer {T = Unit {0}} y z (flush_text text (i + 1) last v)
      (Err fault)) shows cut)))

-- one view more was given
pub after_given : (views : ViewHistory) (n : ℕ) → n < length views.report.flushes → views.given ≡ n
    → (after_view views).given ≡ n + 1
after_given views n within is =
    let yes : nat_lt views.given (length views.report.flushes) ≡ true = grind (arith, nat_tests) in
    ap (λ b. if b then suc views.given else views.given) yes ∙ omega (arith, is)
