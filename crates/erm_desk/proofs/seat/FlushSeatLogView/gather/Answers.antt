use Rattle.erm_desk.specs.declared.seat.FlushSeat.{FlushSeat}
use Rattle.erm_desk.proofs.Looking.{may_clear}
use Rattle.erm_rule.specs.Books.{book}
use Rattle.erm_desk.proofs.PinKept.{at_after}
use Rattle.erm_desk.proofs.seat.FlushSeatLogView.gather.Goals as goal

pub returns-clause-may : goal.returns-clause-may
returns-clause-may g c = may_clear (λ (x : FlushSeat g.row.L.Denot). book x.pass.now) (book c.args.self.now.pass.now) c.gather.result c.gather.new.words _ c.requires.stands.1 c.gather.ensures.gathers

pub returns-clause-stands : goal.returns-clause-stands
returns-clause-stands g c = (
  c.gather.ensures.fits,
  c.turns_go_on.ensures.anew c.gather.result c.gather.new.words (book c.args.self.now.pass.now) (book c.gather.new.p) c.requires.stands.1 c.gather.ensures.gathers,
  at_after c.gather.result c.gather.new.words (book c.args.self.now.pass.now) (book c.gather.new.p) c.args.self.now.pin c.requires.stands.1 c.gather.ensures.gathers c.requires.stands.2,
)
