use Rattle.load_report.proofs.applying.tell_verdict.Goals as goal

pub returns-clause-told : goal.returns-clause-told
returns-clause-told c = record {
  verdict = c.in_ok-verdict.verdict;
  applied = c.in_ok-verdict.ensures.ok;
  told = c.push_reserved.ensures.items;
}
