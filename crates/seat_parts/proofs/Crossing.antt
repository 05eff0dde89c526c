-- Threads may share a seat: `atomic_table` says that a seat may go to another thread, and not that a `&` to it may.
use denote.RattleType.{RattleType}
use denote.Param.Send.{IsSend, IsSync, part_keyless}
use Rattle.atomic_table.specs.contracts.shared.Seat.{the_row}
use Rattle.atomic_table.proofs.Sent.{seat_keyless}

seat_send : (S V : RattleType) → IsSend S → IsSend (the_row S V)
seat_send S V s = record { owned = λ d vs. ((λ vss. (tt, ((λ uss. (tt, tt)), tt))), seat_keyless S s V.coded.code d.table_id d.id d.me); leaving = λ k f vs. tt }

pub seat_sync : (S V : RattleType) → IsSend S → IsSync (the_row S V)
seat_sync S V s = record { shared = λ d b o κ q. part_keyless (the_row S V) (seat_send S V s) q d b o }
