use Rattle.std.proofs.Common.{◌≡◌, ℕ, ◌+◌, Result, Ok, Err, OnErr, List, map, ap, sym, ◌∙◌, subst, arith}
use Rattle.std.specs.Borrow.{Bor}
use Rattle.stat_defs.specs.Names.{tokens}
use Rattle.stat_name.specs.StoredName.{IsName}
use Rattle.symbol_table.specs.Table.{Table, Interns, uses_at, times, text_in, uncounted_all}
use Rattle.symbol_table.proofs.Adding.{interns_uses, all_undone}
use Rattle.symbol_table.proofs.Interning.{interned, interned_name, interned_text}
use Rattle.symbol_table.proofs.table.SymbolTable.intern.Goals as goal

on_err : {A E : Type 0} (r : Result A E) (P : Type 0) → P → OnErr r P
on_err (Ok x) P h = tt
on_err (Err e) P h = h

pub share_or_drop-requires : goal.share_or_drop-requires
share_or_drop-requires c = λ n.
    let cut : map (λ (x : Bor (List ℕ)). x.now) c.deref.result.now ≡ tokens c.args.name.now = ap (map (λ (x : Bor (List ℕ)). x.now)) c.deref.ensures.value ∙ c.in_ok-parts.ensures in
    let uses = interns_uses c.args.self.now c.intern_all.new.self (tokens c.args.name.now) c.in_ok-drawn.drawn.items
    (interned c.args.self.now c.intern_all.new.self c.args.name.now _ c.in_ok-drawn.drawn.items cut c.in_ok-drawn.ensures.interned) n in
    let same : times n c.deref-2.result.now ≡ times n c.in_ok-drawn.drawn.items = ap (times n) c.deref-2.ensures.value in
    omega (arith, uses, same)

pub returns-in_err-numbers-clause-err : goal.returns-in_err-numbers-clause-err
returns-in_err-numbers-clause-err c =
    let cut : map (λ (x : Bor (List ℕ)). x.now) c.deref.result.now ≡ tokens c.args.name.now = ap (map (λ (x : Bor (List ℕ)). x.now)) c.deref.ensures.value ∙ c.in_ok-parts.ensures in
    let back : c.share_or_drop.new.self ≡ uncounted_all c.intern_all.new.self c.in_ok-drawn.drawn.items = c.in_err-numbers.ensures.dropped ∙ ap (uncounted_all c.intern_all.new.self) c.deref-2.ensures.value in
    let undone : c.share_or_drop.new.self ≡ c.args.self.now =
    all_undone c.args.self.now c.intern_all.new.self c.share_or_drop.new.self (tokens c.args.name.now) c.in_ok-drawn.drawn.items c.is_table.ensures c.in_err-numbers.ensures.table
    (interned c.args.self.now c.intern_all.new.self c.args.name.now _ c.in_ok-drawn.drawn.items cut c.in_ok-drawn.ensures.interned) back in
    on_err c.from_residual-in_err-numbers.result _ undone

pub of-requires : goal.of-requires
of-requires c =
    let cut : map (λ (x : Bor (List ℕ)). x.now) c.deref.result.now ≡ tokens c.args.name.now = ap (map (λ (x : Bor (List ℕ)). x.now)) c.deref.ensures.value ∙ c.in_ok-parts.ensures in
    let same = c.in_ok-numbers.ensures.shared ∙ c.deref-2.ensures.value in
    subst IsName (sym same) (interned_name c.args.self.now c.intern_all.new.self c.args.name.now _ c.in_ok-drawn.drawn.items cut c.in_ok-drawn.ensures.interned c.requires.name c.in_ok-drawn.ensures.from_one)

pub returns-clause-interned : goal.returns-clause-interned
returns-clause-interned c =
    let cut : map (λ (x : Bor (List ℕ)). x.now) c.deref.result.now ≡ tokens c.args.name.now = ap (map (λ (x : Bor (List ℕ)). x.now)) c.deref.ensures.value ∙ c.in_ok-parts.ensures in
    let same = c.of.ensures ∙ (c.in_ok-numbers.ensures.shared ∙ c.deref-2.ensures.value) in
    subst (λ (t : Table). Interns c.args.self.now (tokens c.args.name.now) t c.of.result) (sym c.in_ok-numbers.ensures.kept)
    (subst (Interns c.args.self.now (tokens c.args.name.now) c.intern_all.new.self) (sym same)
    (interned c.args.self.now c.intern_all.new.self c.args.name.now _ c.in_ok-drawn.drawn.items cut c.in_ok-drawn.ensures.interned))

pub returns-clause-text : goal.returns-clause-text
returns-clause-text c =
    let cut : map (λ (x : Bor (List ℕ)). x.now) c.deref.result.now ≡ tokens c.args.name.now = ap (map (λ (x : Bor (List ℕ)). x.now)) c.deref.ensures.value ∙ c.in_ok-parts.ensures in
    let same = c.of.ensures ∙ (c.in_ok-numbers.ensures.shared ∙ c.deref-2.ensures.value) in
    (λ i. text_in (c.in_ok-numbers.ensures.kept i) (same i))
    ∙ interned_text c.args.self.now c.intern_all.new.self c.args.name.now _ c.in_ok-drawn.drawn.items cut c.in_ok-drawn.ensures.interned

pub returns-clause-uses : goal.returns-clause-uses
returns-clause-uses c = λ n.
    let cut : map (λ (x : Bor (List ℕ)). x.now) c.deref.result.now ≡ tokens c.args.name.now = ap (map (λ (x : Bor (List ℕ)). x.now)) c.deref.ensures.value ∙ c.in_ok-parts.ensures in
    let same = c.of.ensures ∙ (c.in_ok-numbers.ensures.shared ∙ c.deref-2.ensures.value) in
    ap (λ (t : Table). uses_at t n) c.in_ok-numbers.ensures.kept
    ∙ (interns_uses c.args.self.now c.intern_all.new.self (tokens c.args.name.now) c.in_ok-drawn.drawn.items
    (interned c.args.self.now c.intern_all.new.self c.args.name.now _ c.in_ok-drawn.drawn.items cut c.in_ok-drawn.ensures.interned) n
    ∙ ap (λ (l : List ℕ). uses_at c.args.self.now n + times n l) (sym same))
