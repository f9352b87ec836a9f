use Rattle.std.proofs.Common.{refl, sym}
use Rattle.erm_core.specs.Cores.{core_of}
use Rattle.erm_core_ready.specs.Next.{acts, flushes, looks, seals, settles}
use Rattle.erm_core_ready.proofs.ready.Goals as goal

pub returns-then-fits : goal.returns-then-fits
returns-then-fits c =
    let core = core_of c.args.state.now in
    let least = c.in-Some-least_sealed.least in
    let is = c.in-Some-least_sealed.ensures in
    settles least.stamp (c.in_default.ensures) is.1 (c.nothing_stalls.ensures.sealed core least.seat least.stamp c.requires.sound (c.in_default.ensures) is.1 (sym (c.if-fits.ensures)))

pub returns-else-fits : goal.returns-else-fits
returns-else-fits c =
    let core = core_of c.args.state.now in
    let least = c.in-Some-least_sealed.least in
    let is = c.in-Some-least_sealed.ensures in
    let full = sym (c.if-fits.ensures) in
    flushes least.seat least.stamp (c.in_default.ensures) is.1 full refl (c.nothing_stalls.ensures.ring core least.seat least.stamp c.requires.sound (c.in_default.ensures) is.1 full)

pub returns-in-Some : goal.returns-in-Some
returns-in-Some c = seals c.in-Some.ensures (c.nothing_stalls.ensures.sealing (core_of c.args.state.now) c.in-Some.seat c.requires.sound c.in-Some.ensures)

pub returns-in-Some-acting : goal.returns-in-Some-acting
returns-in-Some-acting c =
    let quiet = c.in_default.ensures in
    let none = c.in_default-least_sealed.ensures in
    let is = c.in-Some-acting.ensures in
    acts quiet none is (c.nothing_stalls.ensures.active (core_of c.args.state.now) c.in-Some-acting.seat c.requires.sound quiet none is.1 is.0)

pub returns-in-Some-earliest : goal.returns-in-Some-earliest
returns-in-Some-earliest c =
    let quiet = c.in_default.ensures in
    let none = c.in_default-least_sealed.ensures in
    let only = c.in_default-acting.ensures in
    let is = c.in-Some-earliest.ensures in
    looks quiet none only is (c.nothing_stalls.ensures.pending (core_of c.args.state.now) c.in-Some-earliest.found.seat c.requires.sound quiet none only is)
