use Rattle.erm_desk.proofs.Stepped.{look_steps}
use Rattle.erm_rule.specs.Books.{book}
use Rattle.erm_desk_checkpoint.proofs.seat.StepSeatLogView.gather.Goals as goal

pub returns-clause-keeps : goal.returns-clause-keeps
returns-clause-keeps g c = (
  c.gather.ensures.keeps.0,
  c.gather.ensures.keeps.1,
  look_steps g.L.RowLaw.law c.gather.result c.gather.new.words (book c.args.self.now.seat.pass.now) (book c.gather.new.self.pass.now) c.gather.ensures.gathers.took,
)
