use Rattle.erm_core_met.proofs.numbers_are_of_commits.Goals as goal

pub returns-clause-decided : goal.returns-clause-decided
returns-clause-decided g c seat t sound m drawn decided = sound.common.decided.decided seat t m drawn decided

pub returns-clause-running : goal.returns-clause-running
returns-clause-running g c seat sound undecided may = sound.common.decided.running seat undecided may
