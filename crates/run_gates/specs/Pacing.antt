-- How workers count their events together, which pace the rounds of a run. This project's own.
use Rattle.std.specs.Prelude.{ℕ, zero, suc, ◌+◌, ◌*◌, ◌^◌, ◌%◌, ◌<◌, ◌≤◌, ◌==◌, if◌then◌else◌, max}

-- packets of 2 to this power events, one of each worker, are at most the events of a round, or one event of each
abbrev pub IsShared : ℕ → ℕ → ℕ → Type 0
IsShared workers every bits = workers * 2 ^ bits ≤ max every workers

-- and no greater packets, up to the greatest, are that few together
pub record IsGreatest (workers every bits : ℕ) : Type 0 where
  pub few : bits ≤ 6
  pub above : (more : ℕ) → bits < more → more ≤ 6 → every < workers * 2 ^ more

-- the events that a worker adds before its event of this number: a packet, where it has done whole packets so far
abbrev pub added : ℕ → ℕ → ℕ
added bits zero = 0
added bits (suc zero) = 0
added bits (suc done) = if done % 2 ^ bits == 0 then 2 ^ bits else 0

-- all events that it has added then
abbrev pub counted : ℕ → ℕ → ℕ
counted bits zero = 0
counted bits (suc done) = counted bits done + added bits (suc done)

-- before an event a worker has added no more events than it has done, and all of them but fewer than a packet
pub record NeverEarly : Type 0 where
  pub not_above : (bits done : ℕ) → counted bits (suc done) ≤ done
  pub not_far_below : (bits done : ℕ) → done < counted bits (suc done) + 2 ^ bits
