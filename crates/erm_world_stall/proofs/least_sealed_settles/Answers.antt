use Rattle.erm_world_stall.proofs.Down.{reads, room, settles}
use Rattle.erm_world_stall.proofs.least_sealed_settles.Goals as goal

pub returns-clause-settles : goal.returns-clause-settles
returns-clause-settles c v t seat stamp w least refused = settles v t seat stamp w least refused

pub returns-clause-room : goal.returns-clause-room
returns-clause-room c v t seat stamp w least up refused = room v t seat stamp w least up refused

pub returns-clause-reads : goal.returns-clause-reads
returns-clause-reads c v t seat oid other seen none refused = reads v t seat oid other seen none refused
