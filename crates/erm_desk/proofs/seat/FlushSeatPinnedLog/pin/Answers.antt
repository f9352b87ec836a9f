use Rattle.std.proofs.Common.{refl}
use Rattle.erm_machine.specs.declared.limits.TheConstants.{FLUSH_SEAT}
use Rattle.erm_rule.specs.Books.{book}
use Rattle.erm_rule.specs.Views.{part_of}
use Rattle.erm_seats.specs.Calls.{begun_part}
use Rattle.erm_desk.proofs.PinKept.{may_same}
use Rattle.erm_desk.proofs.seat.FlushSeatPinnedLog.pin.Goals as goal

pub returns-clause-stands : goal.returns-clause-stands
returns-clause-stands g c =
    let v = (book c.args.self.now.pass.now).view in
    let w = (book c.pin-self.new.p).view in
    let did = c.pin-self.ensures.begun in
    (c.pin-self.ensures.fits, may_same v w (begun_part FLUSH_SEAT did.announced c.pin-self.result (part_of v FLUSH_SEAT)) did.view_is refl c.requires.stands.1, λ active. c.pin-self.ensures.place)
