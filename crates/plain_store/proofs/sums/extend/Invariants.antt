use Rattle.std.proofs.Common.{◌≡◌, ◌⊎◌, ℕ, ◌≤◌, get_or, vec_len}
use Rattle.plain_store.proofs.sums.extend.Given as goal

abbrev pub invariant-loop-i : goal.invariant-loop-i
invariant-loop-i l =
    ((id : ℕ) → get_or l.words.items id 0 ≡ get_or l.fn.words.items id 0)
    × (vec_len l.words ≡ l._i)
    × ((l._i ≤ l.n) ⊎ (l.words ≡ l.fn.words))
