use Rattle.std.proofs.Common.{ap, ◌∙◌}
use Rattle.erm_machine.specs.declared.place.Place.{Place}
use Rattle.erm_machine.specs.Life.{store_begin}
use Rattle.erm_seat.specs.Parts.{part_of}
use Rattle.erm_seat.proofs.seat.SeatState.store_begin.Goals as goal

pub returns-then-value-ne0-clause-turn : goal.returns-then-value-ne0-clause-turn
returns-then-value-ne0-clause-turn c =
    ap (λ (pl : Place). store_begin c.args.seat c.args.value (part_of c.args.self.now) pl) c.in-Active.is
    ∙ c.raise_begin.ensures.turn c.in-Active.tail c.if-value-ne0.true
