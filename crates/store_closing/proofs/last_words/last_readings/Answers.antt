use Rattle.std.proofs.Common.{flat_map}
use Rattle.std.specs.Prelude.{All}
use Rattle.std.specs.List.{AllByRecursion}
use Rattle.std.proofs.lemmas.Result.{IfOk-weaker}
use Rattle.metric_words.specs.GaugeLedger.{gauge_known, gauge_all}
use Rattle.flush_words.specs.Ends.{IsLastWord}
use Rattle.run_ledger.specs.Accounts.{LeftBy}
use Rattle.store_closing.proofs.Words.{left_words}
use Rattle.store_closing.proofs.last_words.last_readings.Goals as goal

pub returns-clause-words : goal.returns-clause-words
returns-clause-words c = λ workers reader are idle idle'.
    let k = gauge_known c.take_gauges.new.seat in
    IfOk-weaker c.load_last.result (λ list. All (IsLastWord k) list.items) (λ list. AllByRecursion (λ r. LeftBy r.id.0 workers r.word) list.items)
    (λ list all. left_words k (gauge_known c.args.seat) (flat_map gauge_all c.args.others.items) workers reader list.items c.take_gauges.ensures c.requires.alone are idle idle' all)
    c.load_last.ensures.words
