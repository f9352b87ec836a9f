use Rattle.erm_rule.specs.Books.{book}
use Rattle.erm_desk_checkpoint.proofs.Steps.{row_steps}
use Rattle.erm_desk_checkpoint.proofs.seat.StepSeatPinnedLog.row_at.Goals as goal

pub returns-clause-keeps : goal.returns-clause-keeps
returns-clause-keeps g c = (
  c.row_at.ensures.keeps.0,
  c.row_at.ensures.keeps.1,
  row_steps g.L.RowLaw.law (book c.args.self.now.seat.pass.now) (book c.row_at.new.self.pass.now) c.args.oid c.row_at.result c.row_at.ensures.reads c.row_at.ensures.waits,
)
