use Rattle.std.proofs.Common.{refl}
use Rattle.erm_machine.specs.declared.limits.TheConstants.{FLUSH_SEAT}
use Rattle.erm_pin.specs.Pins.{unpinned_part}
use Rattle.erm_rule.specs.Books.{book}
use Rattle.erm_rule.specs.Views.{part_of}
use Rattle.erm_desk.proofs.PinKept.{at_ended, may_same}
use Rattle.erm_desk.proofs.seat.FlushSeatPinnedLog.unpin.Goals as goal

pub returns-clause-stands : goal.returns-clause-stands
returns-clause-stands g c =
    let b = book c.args.self.now.pass.now in
    let e = book c.unpin.new.p in
    let did = c.unpin.ensures.unpinned in (
      c.unpin.ensures.fits,
      may_same b.view e.view (unpinned_part (part_of b.view FLUSH_SEAT)) did.view_is refl c.requires.stands.1,
      at_ended b e c.args.self.now.pin c.requires.stands.1.held did,
    )
