use Rattle.erm_client.proofs.laws.refusals_tell.Goals as goal
use Rattle.erm_client.proofs.Leaving.{ending_end, others_leave}
use Rattle.erm_client.proofs.Telling.{answers_refuse, memory_leaves, stopped_now}

pub returns : goal.returns
returns c = record { answered = answers_refuse; ended = ending_end; left = others_leave; stopped = stopped_now; undone = memory_leaves }
