use Rattle.erm_recover.proofs.Recovering.{both_told}
use Rattle.erm_recover.proofs.recovery.read_slots.Goals as goal

pub returns-clause-shown : goal.returns-clause-shown
returns-clause-shown g c =
    both_told g.T.RowLaw.law.meets c.respects_rows.ensures.meets _ _ _ (record { slot0 = c.in_ok-slot0.slot0; slot1 = c.in_ok-slot1.slot1 }) c.read_slot_of.new.rows c.read_slot_of-2.new.rows
    c.in_ok-slot0.ensures.told c.in_ok-slot1.ensures.told c.in_ok-slot0.ensures.read c.in_ok-slot1.ensures.read c.in_ok-check_base.ensures.based
