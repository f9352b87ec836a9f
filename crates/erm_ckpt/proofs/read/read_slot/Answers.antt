use Rattle.std.proofs.Common.{sym, ◌∙◌, subst}
use Rattle.erm_model.specs.Rows.{rows_of}
use Rattle.erm_block.proofs.Found.{Some-then_some}
use Rattle.erm_ckpt.specs.Checkpoint.{Checkpoint, rows_of_checkpoint}
use Rattle.erm_ckpt.proofs.OneSlot.{same_standing}
use Rattle.erm_ckpt.proofs.read.read_slot.Goals as goal

pub returns-clause-given : goal.returns-clause-given
returns-clause-given g c = λ checkpoint stands meets.
    let found = c.in_ok-slot.ensures.found in
    let same = same_standing c.args.words.now checkpoint found.checkpoint stands found.stands in
    let moved = subst (λ (x : Checkpoint). g.T.RowLaw.law.meets (rows_of_checkpoint x)) same meets in
    let tested = (c.respects_rows.ensures.meets (rows_of c.parse_slot.new.rows) (rows_of_checkpoint found.checkpoint) found.rows_are).1 moved in
    Some-then_some c.test.result c.in_ok-slot.slot c.then_some.result c.then_some.ensures (c.test.ensures.1 tested)
    ∙ sym c.in_ok-slot.was ∙ c.parse_slot.ensures.given checkpoint stands
