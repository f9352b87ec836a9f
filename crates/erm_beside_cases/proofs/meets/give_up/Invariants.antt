use Rattle.std.specs.List.{All}
use Rattle.erm_node.specs.Sound.{sound_law}
use Rattle.erm_shared_session.specs.Stands.{Stands}
use Rattle.erm_beside_cases.proofs.meets.give_up.Given as goal

-- the sessions of the jobs that are left stand
abbrev pub invariant-loop-job : goal.invariant-loop-job
invariant-loop-job g l = All (λ j. Stands sound_law l.table j.session.session) l.jobs.items

abbrev pub decreases-loop-job : goal.decreases-loop-job
decreases-loop-job g l = goal.left-loop-job g l
