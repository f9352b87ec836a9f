use Rattle.erm_bad_reports.proofs.OfFlushed.{flushes_alone, flushes_first_alone}
use Rattle.erm_bad_reports.proofs.OfNearStamps.{near_alone, newer_alone}
use Rattle.erm_bad_reports.proofs.OfStampParts.{ascends_alone, begins_alone, draws_alone, fall_alone, least_alone, sealed_alone, stops_alone}
use Rattle.erm_bad_reports.proofs.OfStampsOfTwo.{differ_alone}
use Rattle.erm_bad_reports.proofs.OfUntold.{begun_alone, untold_after_alone, untold_before_alone}
use Rattle.erm_bad_reports.proofs.laws.parts_of_stamps_are_needed.Goals as goal

pub returns-clause-least : goal.returns-clause-least
returns-clause-least c = least_alone

pub returns-clause-begun : goal.returns-clause-begun
returns-clause-begun c = begun_alone

pub returns-clause-sealed : goal.returns-clause-sealed
returns-clause-sealed c = sealed_alone

pub returns-clause-begins : goal.returns-clause-begins
returns-clause-begins c = begins_alone

pub returns-clause-draws : goal.returns-clause-draws
returns-clause-draws c = draws_alone

pub returns-clause-ascends : goal.returns-clause-ascends
returns-clause-ascends c = ascends_alone

pub returns-clause-flushes : goal.returns-clause-flushes
returns-clause-flushes c = flushes_alone

pub returns-clause-flushes_first : goal.returns-clause-flushes_first
returns-clause-flushes_first c = flushes_first_alone

pub returns-clause-differ : goal.returns-clause-differ
returns-clause-differ c = differ_alone

pub returns-clause-begins_ascend : goal.returns-clause-begins_ascend
returns-clause-begins_ascend c = fall_alone

pub returns-clause-stops : goal.returns-clause-stops
returns-clause-stops c = stops_alone

pub returns-clause-untold_after : goal.returns-clause-untold_after
returns-clause-untold_after c = untold_after_alone

pub returns-clause-untold_before : goal.returns-clause-untold_before
returns-clause-untold_before c = untold_before_alone

pub returns-clause-begins_newer : goal.returns-clause-begins_newer
returns-clause-begins_newer c = newer_alone

pub returns-clause-ascends_near : goal.returns-clause-ascends_near
returns-clause-ascends_near c = near_alone
