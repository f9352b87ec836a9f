use Rattle.erm_world.proofs.Commits.{tells_commits}
use Rattle.erm_world.proofs.laws.histories_tell_commits.Goals as goal

pub returns : goal.returns
returns c = tells_commits
