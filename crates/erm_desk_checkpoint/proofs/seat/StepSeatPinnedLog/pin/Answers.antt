use Rattle.erm_rule.specs.Books.{book}
use Rattle.erm_desk_checkpoint.proofs.Steps.{pin_steps}
use Rattle.erm_desk_checkpoint.proofs.seat.StepSeatPinnedLog.pin.Goals as goal

pub returns-clause-keeps : goal.returns-clause-keeps
returns-clause-keeps g c = (
  c.pin.ensures.keeps.0,
  c.pin.ensures.keeps.1,
  pin_steps g.L.RowLaw.law (book c.args.self.now.seat.pass.now) (book c.pin.new.self.pass.now) c.pin.result c.pin.ensures.pins,
)
