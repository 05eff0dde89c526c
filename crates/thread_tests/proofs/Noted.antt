-- A book of the tests that notes a change of names.
use Rattle.std.proofs.Common.{◌≡◌, ℕ, ◌+◌, ◌*◌, ◌<◌, ◌≤◌, List, [], ◌∷◌, ◌++◌, length, sym, refl, ap, ◌∙◌, subst, arith, Result, Ok, Err, MatchResult, append-nil, All}
use Rattle.std.proofs.lemmas.List.Elements.{All-nil, All-cons, All-weaker}
use Rattle.stat_defs.specs.declared.history.Entry.{Entry}
use Rattle.stat_defs.specs.declared.history.NameOp.{NameOp}
use Rattle.stat_defs.specs.Changes.{at_of, id_of}
use Rattle.book_lock.specs.declared.view.LockPart.{LockPart}
use Rattle.book_lock.specs.Naming.{MayName}
use Rattle.thread_tests.specs.Noting.{AreNoted}

noted_none : (before after : ℕ) → AreNoted before after []
noted_none before after = record { late = All-nil _; within = All-nil _; rising = tt; first = All-nil _ }

noted_one : (before after : ℕ) (op : NameOp) → at_of op ≡ after → id_of op ≡ 0 → before < after → AreNoted before after (op ∷ [])
noted_one before after op at id lt = record {
  late = All-cons (λ c. before < at_of c) op [] (omega (arith, at, lt)) (All-nil _);
  within = All-cons (λ c. at_of c ≤ after) op [] (omega (arith, at)) (All-nil _);
  rising = (All-nil _, tt);
  first = All-cons (λ c. id_of c ≡ 0) op [] id (All-nil _);
}

pub noted : {E : Type 0} (r : Result Unit E) (before after : ℕ) (old new : List NameOp)
    → MatchResult r (λ _. (op : NameOp) × (new ≡ old ++ op ∷ []) × (at_of op ≡ after) × (id_of op ≡ 0) × (before < after)) (λ _. new ≡ old)
    → (more : List NameOp) × (new ≡ old ++ more) × AreNoted before after more
noted (Ok x) before after old new m = (m.0 ∷ [], m.1, noted_one before after m.0 m.2 m.3 m.4)
noted (Err x) before after old new m = ([], m ∙ sym (append-nil old), noted_none before after)

-- a seat that found a log and changes may leave what was noted behind them
pub may_note : (q : LockPart) (log log' : List Entry) (names names' more : List NameOp) → q.room ≡ 4 → q.seat.known ≡ log → q.names ≡ names → names' ≡ names ++ more → length names' ≤ 4 → AreNoted (length log) (length log') more → MayName q log' names'
may_note q log log' names names' more room known same is few n = let long = ap length known in record {
  more = more;
  goes_on = is ∙ ap (λ (l : List NameOp). l ++ more) (sym same);
  few = omega (arith, room, few);
  late = All-weaker (λ c. length log < at_of c) (λ c. length q.seat.known < at_of c) (λ c h. omega (arith, h, long)) more n.late;
  within = n.within;
  rising = n.rising;
  small = All-weaker (λ c. id_of c ≡ 0) (λ c. 2 * id_of c < q.room) (λ c h. omega (arith, h, room)) more n.first;
}

pub all_seat : (more : List Entry) (a b : ℕ) → a ≡ b → All (λ e. e.seat ≡ a) more → All (λ e. e.seat ≡ b) more
all_seat more a b is each = All-weaker (λ e. e.seat ≡ a) (λ e. e.seat ≡ b) (λ e own. own ∙ is) more each
