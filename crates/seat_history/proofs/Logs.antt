-- Logs that go on, and a seat's entries in them.
use Rattle.std.proofs.Common.{◌≡◌, ◌≢◌, ℕ, ◌+◌, ◌≤◌, List, [], ◌∷◌, ◌++◌, length, sym, refl, ap, ◌∙◌, arith, eqb, eq-eqb, ne_eqb, append-nil, append_assoc, length-append, All, cond}
use Rattle.std.proofs.lemmas.List.Elements.{All-nil, All-head, All-tail, All-append, All-weaker, filter-append}
use Rattle.std.proofs.lemmas.List.Sums.{sum_by-append}
use Rattle.std.proofs.lemmas.List.{drop-append-le}
use Rattle.std.proofs.Math.Seq.{drop-append_seam, drop-length}
use Rattle.stat_defs.specs.declared.history.Entry.{Entry}
use Rattle.stat_defs.specs.Books.{is_released, releases_in}
use Rattle.seat_history.specs.History.{GoesOn, past, entries_by}

pub goes-on-not : (P : Entry → Type 0) (log : List Entry) → GoesOn P log log
goes-on-not P log = ([], sym (append-nil log), All-nil P)

pub goes-on-same : (P : Entry → Type 0) (known log log' : List Entry) → log' ≡ log → GoesOn P known log → GoesOn P known log'
goes-on-same P known log log' e g = (g.0, e ∙ g.1, g.2)

pub goes-on-far : (P : Entry → Type 0) (known log log' : List Entry) → GoesOn P known log → GoesOn P log log' → GoesOn P known log'
goes-on-far P known log log' g h = (g.0 ++ h.0, h.1 ∙ (ap (λ xs. xs ++ h.0) g.1 ∙ append_assoc known g.0 h.0), All-append P g.0 h.0 g.2 h.2)

pub goes-on-weaker : (P Q : Entry → Type 0) → ((x : Entry) → P x → Q x) → (known log : List Entry) → GoesOn P known log → GoesOn Q known log
goes-on-weaker P Q up known log g = (g.0, g.1, All-weaker P Q up g.0 g.2)

pub past-goes-on : (known log more : List Entry) → log ≡ known ++ more → past known log ≡ more
past-goes-on known log more e = ap (past known) e ∙ drop-append_seam known more

pub past-none : (log : List Entry) → past log log ≡ []
past-none log = drop-length log

pub past-longer : (first log log' more : List Entry) → length first ≤ length log → log' ≡ log ++ more → past first log' ≡ past first log ++ more
past-longer first log log' more h e = ap (past first) e ∙ drop-append-le (length first) log more h

pub longer-than : (known log more : List Entry) → log ≡ known ++ more → length known ≤ length log
longer-than known log more e = let a = ap length e in let b = length-append known more in omega arith

pub by-append : (k : ℕ) (xs ys : List Entry) → entries_by k (xs ++ ys) ≡ entries_by k xs ++ entries_by k ys
by-append k xs ys = filter-append (λ e. eqb e.seat k) xs ys

pub by-own : (k : ℕ) (xs : List Entry) → All (λ e. e.seat ≡ k) xs → entries_by k xs ≡ xs
by-own k [] a = refl
by-own k (e ∷ es) a = let own : e.seat ≡ k = All-head (λ e. e.seat ≡ k) e es a in
    ap (λ b. cond b (e ∷ entries_by k es) (entries_by k es)) (eq-eqb e.seat k own) ∙ ap (λ ys. e ∷ ys) (by-own k es (All-tail (λ e. e.seat ≡ k) e es a))

pub by-others : (k : ℕ) (xs : List Entry) → All (λ e. e.seat ≢ k) xs → entries_by k xs ≡ []
by-others k [] a = refl
by-others k (e ∷ es) a = let other : e.seat ≢ k = All-head (λ e. e.seat ≢ k) e es a in
    ap (λ b. cond b (e ∷ entries_by k es) (entries_by k es)) (ne_eqb e.seat k other) ∙ by-others k es (All-tail (λ e. e.seat ≢ k) e es a)

pub releases-append : (xs ys : List Entry) → releases_in (xs ++ ys) ≡ releases_in xs + releases_in ys
releases-append xs ys = sum_by-append (λ (e : Entry). cond (is_released e.reply) 1 0) xs ys

pub releases-rise : (log log' more : List Entry) → log' ≡ log ++ more → releases_in log ≤ releases_in log'
releases-rise log log' more e = let a = ap releases_in e in let b = releases-append log more in omega arith
