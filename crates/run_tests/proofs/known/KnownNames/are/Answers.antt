use Rattle.run_tests.proofs.known.KnownNames.are.Goals as goal

pub next-requires : goal.next-requires
next-requires c = tt
