use Rattle.erm_make.proofs.Drawing.{draw-is, state_after-more}
use Rattle.erm_make.proofs.draws.Draws.draw.Goals as goal

pub returns-clause-state : goal.returns-clause-state
returns-clause-state c = λ n e. state_after-more c.args.self.now.state n e

pub returns-clause-drawn : goal.returns-clause-drawn
returns-clause-drawn c = λ n e. draw-is c.args.self.now.state n e
