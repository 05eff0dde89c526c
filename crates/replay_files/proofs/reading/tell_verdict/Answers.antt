use Rattle.replay_files.proofs.reading.tell_verdict.Goals as goal

pub returns : goal.returns
returns c = record {
  verdict = c.in_ok-verdict.verdict;
  applied = c.in_ok-verdict.ensures.ok;
  told = c.in_ok-push.ensures.items;
}
