use Rattle.erm_rule.specs.Books.{book}
use Rattle.erm_desk_checkpoint.proofs.Steps.{end_steps}
use Rattle.erm_desk_checkpoint.proofs.seat.StepSeatPinnedLog.unpin.Goals as goal

pub returns-clause-keeps : goal.returns-clause-keeps
returns-clause-keeps g c = (
  c.unpin.ensures.keeps.0,
  c.unpin.ensures.keeps.1,
  end_steps g.L.RowLaw.law (book c.args.self.now.seat.pass.now) (book c.unpin.new.self.pass.now) c.unpin.ensures.unpins,
)
