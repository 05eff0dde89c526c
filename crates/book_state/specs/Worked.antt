-- Worked logs, computed from the definitions. This project's own.
use Rattle.std.specs.Prelude.{◌≡◌, ◌⊎◌, ℕ, true, List, [], ◌∷◌, ◌++◌, map, codes}
use Rattle.stat_defs.specs.declared.ids.Kind.TheVariants.{Counter}
use Rattle.stat_defs.specs.declared.ids.Mode.TheVariants.{Uninit}
use Rattle.stat_defs.specs.declared.metrics.Life.{Life}
use Rattle.stat_defs.specs.declared.metrics.Life.TheVariants.{Live, Retired, Gone}
use Rattle.stat_defs.specs.declared.events.Key.{Key}
use Rattle.stat_defs.specs.declared.events.Event.{Event}
use Rattle.stat_defs.specs.declared.events.Event.TheVariants as event
use Rattle.stat_defs.specs.declared.history.Verdict.{Verdict}
use Rattle.stat_defs.specs.declared.history.Verdict.TheVariants as verdict
use Rattle.stat_defs.specs.declared.history.Call.TheVariants as call
use Rattle.stat_defs.specs.declared.history.Reply.TheVariants as reply
use Rattle.stat_defs.specs.declared.history.Entry.{Entry}
use Rattle.stat_defs.specs.declared.configs.ScopeSpec.{ScopeSpec}
use Rattle.book_state.specs.State.{NameRules, Held, symbols_in}
use Rattle.book_state.specs.Step.{Allowed}
use Rattle.book_state.specs.Log.{openings, replay, Legal, held_by}
use Rattle.book_state.specs.Follows.{Follows}

-- all names are admitted, and no tags are drawn
abbrev pub plain : NameRules
plain = record { admits = λ name. true; tagged = λ name. record { extracted = name; tags = [] } }

-- no scope is configured but `root`
abbrev pub root_alone : List ScopeSpec
root_alone = record { label = codes "root"; prefix = [] } ∷ []

abbrev pub counter : List ℕ → List ℕ → Key
counter label name = record { label = label; kind = Counter; mode = Uninit; name = name }

abbrev pub opens : ℕ → List ℕ → List ℕ → ℕ → Entry
opens seat label prefix id = record {
  seat = seat;
  call = call.OpenScope label prefix;
  reply = reply.Opened
      (record { 0 = id });
}

abbrev pub releases : ℕ → List ℕ → ℕ → Entry
releases seat label id = record { seat = seat; call = call.Release label; reply = reply.Released (record { 0 = id }) }

abbrev pub makes : ℕ → List ℕ → List ℕ → ℕ → List ℕ → Entry
makes seat label name id numbers = record {
  seat = seat;
  call = call.Find (counter label name);
  reply = reply.Made
      (record { 0 = id }) numbers;
}

abbrev pub finds : ℕ → List ℕ → List ℕ → ℕ → Entry
finds seat label name id = record {
  seat = seat;
  call = call.Find (counter label name);
  reply = reply.Found
      (record { 0 = id });
}

abbrev pub finds_no_scope : ℕ → List ℕ → List ℕ → Entry
finds_no_scope seat label name = record { seat = seat; call = call.Find (counter label name); reply = reply.NoScope }

abbrev pub acks : ℕ → ℕ → Entry
acks seat tag = record { seat = seat; call = call.Ack; reply = reply.Acked tag }

abbrev pub sweeps : ℕ → Entry
sweeps gone = record { seat = 0; call = call.Sweep; reply = reply.Swept gone }

abbrev pub ends : ℕ → Entry
ends seat = record { seat = seat; call = call.End; reply = reply.Ended }

-- the lives of the metrics after a log
abbrev pub lives : ℕ → List Entry → List Life
lives workers log = map (λ row. row.metric.life) (replay plain workers log).metrics

-- worker 1 releases the scope of metric 0 and acknowledges, and worker 2 does not
abbrev pub to_first_sweep : List Entry
to_first_sweep = openings 0 root_alone
    ++ opens 1 (codes "s") (codes "t") 1
    ∷ makes 1 (codes "s") (codes "u") 0 (1 ∷ 2 ∷ [])
    ∷ releases 1 (codes "s") 1
    ∷ acks 1 1
    ∷ sweeps 0
    ∷ []

-- a metric is made meanwhile, and worker 2 acknowledges
abbrev pub to_second_sweep : List Entry
to_second_sweep = to_first_sweep
    ++ makes 1 (codes "root") (codes "w") 1 (3 ∷ [])
    ∷ acks 2 1
    ∷ sweeps 1
    ∷ []

pub record SweepWaits : Type 0 where
  pub retired : lives 2 to_first_sweep ≡ Retired 1 ∷ []
  pub gone : lives 2 to_second_sweep ≡ Gone ∷ Live ∷ []
  -- the tokens of the name that is gone are free: 1 may be drawn, and so may 2, and no other number
  pub one : Legal plain root_alone 2 (to_second_sweep ++ makes 1 (codes "root") (codes "x") 2 (1 ∷ []) ∷ [])
  pub two : Legal plain root_alone 2 (to_second_sweep ++ makes 1 (codes "root") (codes "x") 2 (2 ∷ []) ∷ [])
  pub no_other : (numbers : List ℕ)
      → Allowed plain 1 (call.Find (counter (codes "root") (codes "x"))) (reply.Made (record { 0 = 2 }) numbers)
      (replay plain 2 to_second_sweep)
      → (numbers ≡ 1 ∷ []) ⊎ (numbers ≡ 2 ∷ [])

-- both workers acknowledge the release after metric 0 was found again
abbrev pub found_again : List Entry
found_again = openings 0 root_alone
    ++ opens 1 (codes "s") (codes "t") 1
    ∷ makes 1 (codes "s") (codes "u") 0 (1 ∷ 2 ∷ [])
    ∷ releases 1 (codes "s") 1
    ∷ opens 1 (codes "s2") (codes "t") 2
    ∷ finds 1 (codes "s2") (codes "u") 0
    ∷ acks 1 1
    ∷ acks 2 1
    ∷ sweeps 0
    ∷ []

pub record RetiredFoundAgain : Type 0 where
  pub legal : Legal plain root_alone 2 found_again
  pub live : lives 2 found_again ≡ Live ∷ []

-- two scopes of one prefix, of which the first is released
abbrev pub shared_events : List Event
shared_events = event.OpenScope (codes "p") (codes "cluster.c")
    ∷ event.OpenScope (codes "q") (codes "cluster.c")
    ∷ event.Inc (codes "p") (codes "n") 1
    ∷ event.Inc (codes "q") (codes "n") 2
    ∷ event.Release (codes "p")
    ∷ event.Inc (codes "q") (codes "n") 4
    ∷ []

abbrev pub shared_verdicts : List Verdict
shared_verdicts = verdict.Opened (record { 0 = 1 })
    ∷ verdict.Opened (record { 0 = 2 })
    ∷ verdict.Accepted (record { 0 = 0 })
    ∷ verdict.Accepted (record { 0 = 0 })
    ∷ verdict.Released (record { 0 = 1 })
    ∷ verdict.Accepted (record { 0 = 0 })
    ∷ []

abbrev pub to_shared_end : List Entry
to_shared_end = openings 0 root_alone
    ++ opens 1 (codes "p") (codes "cluster.c") 1
    ∷ opens 1 (codes "q") (codes "cluster.c") 2
    ∷ makes 1 (codes "p") (codes "n") 0 (1 ∷ 2 ∷ 3 ∷ [])
    ∷ finds 1 (codes "q") (codes "n") 0
    ∷ releases 1 (codes "p") 1
    ∷ acks 1 1
    ∷ []

abbrev pub shared : List Entry
shared = to_shared_end ++ ends 1 ∷ sweeps 0 ∷ []

abbrev pub held_through_q : Held
held_through_q = record {
  key = counter (codes "q") (codes "n");
  scope = 2;
  verdict = verdict.Accepted
      (record { 0 = 0 });
}

pub record SymbolsShared : Type 0 where
  pub legal : Legal plain root_alone 1 shared
  pub follows : Follows plain 1 1 shared_events shared_verdicts shared
  pub held : held_by plain 1 1 to_shared_end ≡ held_through_q ∷ []
  pub live : lives 1 shared ≡ Live ∷ []
  pub symbols : symbols_in (replay plain 1 shared) ≡ (codes "cluster", 1) ∷ (codes "c", 2) ∷ (codes "n", 3) ∷ []

-- the scope is released, and its counter is looked for once more
abbrev pub released_events : List Event
released_events = event.OpenScope (codes "s") (codes "t")
    ∷ event.Inc (codes "s") (codes "u") 1
    ∷ event.Release (codes "s")
    ∷ event.Inc (codes "s") (codes "u") 1
    ∷ []

abbrev pub released_verdicts : List Verdict
released_verdicts = verdict.Opened (record { 0 = 1 })
    ∷ verdict.Accepted (record { 0 = 0 })
    ∷ verdict.Released (record { 0 = 1 })
    ∷ verdict.NoScope
    ∷ []

abbrev pub swept_last : List Entry
swept_last = openings 0 root_alone
    ++ opens 1 (codes "s") (codes "t") 1
    ∷ makes 1 (codes "s") (codes "u") 0 (1 ∷ 2 ∷ [])
    ∷ releases 1 (codes "s") 1
    ∷ acks 1 1
    ∷ finds_no_scope 1 (codes "s") (codes "u")
    ∷ ends 1
    ∷ sweeps 1
    ∷ []

pub record GoneInLastSweep : Type 0 where
  pub legal : Legal plain root_alone 1 swept_last
  pub follows : Follows plain 1 1 released_events released_verdicts swept_last
  pub gone : lives 1 swept_last ≡ Gone ∷ []
  pub no_symbols : symbols_in (replay plain 1 swept_last) ≡ []
