use Rattle.erm_core_stall.proofs.Nobody.{active_goes, pending_goes, ring_goes, sealed_goes, sealing_goes, somebody}
use Rattle.erm_core_stall.proofs.nothing_stalls.Goals as goal

pub returns-clause-somebody : goal.returns-clause-somebody
returns-clause-somebody c core p sound up = somebody core sound p up

pub returns-clause-sealing : goal.returns-clause-sealing
returns-clause-sealing c core p sound h = sealing_goes core sound p h

pub returns-clause-sealed : goal.returns-clause-sealed
returns-clause-sealed c core p stamp sound quiet least room = sealed_goes core sound p stamp quiet least room

pub returns-clause-ring : goal.returns-clause-ring
returns-clause-ring c core p stamp sound quiet least full = ring_goes core sound p stamp quiet least full

pub returns-clause-active : goal.returns-clause-active
returns-clause-active c core p sound quiet none other up = active_goes core sound p quiet none other up

pub returns-clause-pending : goal.returns-clause-pending
returns-clause-pending c core p sound quiet none only least = pending_goes core sound p quiet none only least
