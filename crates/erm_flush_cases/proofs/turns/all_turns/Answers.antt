use Rattle.erm_plain.specs.Logs.{plain_log}
use Rattle.erm_flush_cases.proofs.Ready.{empty_is_ready}
use Rattle.erm_flush_cases.proofs.turns.all_turns.Goals as goal

pub flush_all-first-requires-clause-ready : goal.flush_all-first-requires-clause-ready
flush_all-first-requires-clause-ready c = λ fine. empty_is_ready (plain_log c.args.world.now) c.args.disk.now.steps c.requires.empty
