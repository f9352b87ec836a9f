-- For whom, or for what, a settle waits, as the world answers it.
use Rattle.erm_precommit.specs.declared.answer.Wait as answer
use Rattle.erm_precommit.specs.declared.answer.Wait.TheVariants as found
use Rattle.erm_world.specs.declared.stops.Wait.{Wait}
use Rattle.erm_world.specs.declared.stops.Wait.TheVariants as wait

abbrev pub wait_of : answer.Wait → Wait
wait_of (found.Ring flushed) = wait.Ring flushed
wait_of (found.Seat seat seen) = wait.Seat seat seen
