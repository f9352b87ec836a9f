use Rattle.erm_rule.specs.Books.{book}
use Rattle.erm_desk.proofs.PinKept.{at_cleared}
use Rattle.erm_desk.proofs.seat.FlushSeatLogView.flushed_to.Goals as goal

pub returns-clause-stands : goal.returns-clause-stands
returns-clause-stands g c = (
  c.clear.ensures.fits,
  c.turns_go_on.ensures.again c.args.end (book c.args.self.now.pass.now) (book c.clear.new.p) c.requires.may c.clear.ensures.cleared,
  at_cleared c.args.end (book c.args.self.now.pass.now) (book c.clear.new.p) c.args.self.now.pin c.requires.may.held c.clear.ensures.cleared c.requires.stands.2,
)
