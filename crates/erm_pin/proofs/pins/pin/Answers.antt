use Rattle.erm_pin.proofs.Pinning.{pinned_now, place_now}
use Rattle.erm_pin.proofs.pins.pin.Goals as goal

pub returns-clause-pinned : goal.returns-clause-pinned
returns-clause-pinned g c = pinned_now c.args.p.now.me.0.view c.begin_steps.new.p.me.0.view c.in-Ok.place c.requires.unpinned c.in-Ok.ensures.begun

pub returns-clause-place : goal.returns-clause-place
returns-clause-place g c = place_now c.args.p.now.me.0.view c.begin_steps.new.p.me.0.view c.in-Ok.place c.requires.unpinned c.in-Ok.ensures.begun
