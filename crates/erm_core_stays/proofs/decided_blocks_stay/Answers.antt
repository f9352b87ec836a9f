use Rattle.erm_core_stays.proofs.Blocks.{blocks_behind, blocks_stay, run_blocks}
use Rattle.erm_core_stays.proofs.decided_blocks_stay.Goals as goal

pub returns-clause-event : goal.returns-clause-event
returns-clause-event c core d seat from to kind ts sound e lie = blocks_stay core d seat kind sound e ts from to lie

pub returns-clause-run : goal.returns-clause-run
returns-clause-run c core d es from to ts sound run lie = run_blocks c.events_keep_sound.ensures es core d sound run ts from to lie

pub returns-clause-behind : goal.returns-clause-behind
returns-clause-behind c core from mid to ts us first second = blocks_behind core ts us from mid to first second
