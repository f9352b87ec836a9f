use Rattle.std.proofs.Common.{refl, inl}
use Rattle.erm_replica.specs.Stream.{start_checkpoint}
use Rattle.erm_replica.proofs.Bases.{base_read, no_early}
use Rattle.erm_replica.proofs.front.base_of.Goals as goal

pub returns-then-is_start-clause-found : goal.returns-then-is_start-clause-found
returns-then-is_start-clause-found c = (start_checkpoint, record { form = refl; first = refl; is = inl refl }, c.is_start.ensures.yes c.if-is_start.true, refl, c.clear_rows.ensures)

pub returns-then-has_slot-clause-given : goal.returns-then-has_slot-clause-given
returns-then-has_slot-clause-given c = λ checkpoint is e.
    let early = c.has_slot.ensures.yes c.if-has_slot.true in
    absurd (no_early c.one_slot.ensures.words c.args.words.now checkpoint early.0 (c.is_start.ensures.no c.if-is_start.false) is e c.requires.size early.1)

pub returns-clause-found : goal.returns-clause-found
returns-clause-found c = base_read c.args.words.now c.read_slot.new.rows c.read_slot.result c.read_slot.ensures.found (c.has_slot.ensures.no c.if-has_slot.false) c.if-words-ne2.false c.if-words-ne0.false
