use Rattle.erm_desk.proofs.Stepped.{clear_steps}
use Rattle.erm_rule.specs.Books.{book}
use Rattle.erm_desk_checkpoint.proofs.seat.StepSeatLogView.flushed_to.Goals as goal

pub returns-clause-keeps : goal.returns-clause-keeps
returns-clause-keeps g c = (
  c.flushed_to.ensures.keeps.0,
  c.flushed_to.ensures.keeps.1,
  clear_steps g.L.RowLaw.law c.args.end (book c.args.self.now.seat.pass.now) (book c.flushed_to.new.self.pass.now) c.flushed_to.ensures.flushes.took,
)
