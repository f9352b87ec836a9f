use Rattle.std.proofs.Common.{refl}
use Rattle.erm_machine.specs.declared.limits.TheConstants.{FLUSH_SEAT}
use Rattle.erm_pin.specs.Pins.{looked_part}
use Rattle.erm_rule.specs.Books.{book}
use Rattle.erm_rule.specs.Views.{part_of}
use Rattle.erm_desk.proofs.PinKept.{at_looked, may_same, pin_active}
use Rattle.erm_desk.proofs.seat.FlushSeatPinnedLog.row_at.Goals as goal

pub returns-in-Ok-clause-stands : goal.returns-in-Ok-clause-stands
returns-in-Ok-clause-stands g c =
    let b = book c.args.self.now.pass.now in
    let e = book c.row_at.new.p in
    let did = c.in-Ok.ensures.looked in (
      c.in-Ok.ensures.fits,
      may_same b.view e.view (looked_part did.task did.notes (part_of b.view FLUSH_SEAT)) did.view_is refl c.requires.stands.1,
      at_looked b e c.args.self.now.pin c.requires.stands.1.held did c.requires.stands.2,
    )

pub returns-in-Ok-clause-reads : goal.returns-in-Ok-clause-reads
returns-in-Ok-clause-reads g c =
    let pin = c.requires.pinned in
    record {
      place = c.args.self.now.pin;
      place_is = c.requires.stands.2 (pin_active (book c.args.self.now.pass.now).view pin.0.pinned pin.1.end.pin pin.2);
      took = c.in-Ok.ensures.row;
      looked = c.in-Ok.ensures.looked;
      loads = c.in-Ok.ensures.loads;
    }

pub returns-in-Err-clause-stands : goal.returns-in-Err-clause-stands
returns-in-Err-clause-stands g c =
    let b = book c.args.self.now.pass.now in
    let e = book c.row_at.new.p in
    let did = c.in-Err.ensures.looked in (
      c.in-Err.ensures.fits,
      may_same b.view e.view (looked_part did.task did.notes (part_of b.view FLUSH_SEAT)) did.view_is refl c.requires.stands.1,
      at_looked b e c.args.self.now.pin c.requires.stands.1.held did c.requires.stands.2,
    )

pub returns-in-Err-clause-waits : goal.returns-in-Err-clause-waits
returns-in-Err-clause-waits g c =
    let pin = c.requires.pinned in
    record {
      place = c.args.self.now.pin;
      place_is = c.requires.stands.2 (pin_active (book c.args.self.now.pass.now).view pin.0.pinned pin.1.end.pin pin.2);
      took = c.in-Err.ensures.wait;
      looked = c.in-Err.ensures.looked;
      loads = c.in-Err.ensures.loads;
    }
