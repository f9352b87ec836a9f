use Rattle.std.proofs.Common.{◌≡◌, ◌≤◌, ℕ, ◌+◌, sym, subst, arith}
use Rattle.erm_machine.specs.declared.limits.TheConstants.{ANNOUNCERS}
use Rattle.erm_rule.proofs.Telling.{is_held}
use Rattle.erm_cut.specs.Calls.{HasLoaded}
use Rattle.erm_cut.specs.Took.{TookHorizon}
use Rattle.erm_cut.proofs.Loads.{seat_here, ready_tail, tail_loaded, has_looking, ready_begin, begin_loaded}
use Rattle.erm_cut.proofs.horizons.horizon.Goals as goal
use Rattle.erm_cut.proofs.Took.{horizon_goes_on, horizon_starts}

pub load_tail-least-requires-clause-ready : goal.load_tail-least-requires-clause-ready
load_tail-least-requires-clause-ready g c = ready_tail c.args.p.now.me.0.view c.args.who c.requires.active c.requires.claimed

pub loop-seat-init : goal.loop-seat-init
loop-seat-init g c = record {
  fits = c.load_tail-least.ensures.fits;
  loaded = tail_loaded c.args.p.now.me.0.view c.args.who c.requires.active c.requires.claimed c.load_tail-least.result _ c.load_tail-least.ensures.told.told;
  took = horizon_starts g.L.RowLaw.law c.args.who c.load_tail-least.result c.args.p.now.me.0 c.load_tail-least.new.p.me.0 c.load_tail-least.ensures.booked;
}

pub load_begin-requires-clause-held : goal.load_begin-requires-clause-held
load_begin-requires-clause-held g c =
    is_held c.loop-seat.p.me.0.view c.args.who _
    (has_looking c.args.p.now.me.0.view c.args.who c.requires.active c.requires.claimed c.loop-seat.seat c.loop-seat.least c.loop-seat.p.me.0.view c.loop-seat.invariant.loaded c.loop-seat-test.true)

pub load_begin-requires-clause-seat : goal.load_begin-requires-clause-seat
load_begin-requires-clause-seat g c = seat_here c.loop-seat.seat c.loop-seat.auto.seat c.loop-seat-test.true

pub load_begin-requires-clause-ready : goal.load_begin-requires-clause-ready
load_begin-requires-clause-ready g c =
    ready_begin c.args.p.now.me.0.view c.args.who c.requires.active c.requires.claimed c.loop-seat.seat c.loop-seat.least c.loop-seat.p.me.0.view c.loop-seat.invariant.loaded c.loop-seat-test.true

pub loop-seat-preserved : goal.loop-seat-preserved
loop-seat-preserved g c = record {
  fits = c.load_begin.ensures.fits;
  loaded =
      subst (λ (n : ℕ). HasLoaded c.args.p.now.me.0.view c.args.who (c.loop-seat.seat + 1) n c.load_begin.new.p.me.0.view) (sym c.lower-least.ensures)
      (begin_loaded c.args.p.now.me.0.view c.args.who c.requires.active c.requires.claimed c.loop-seat.seat c.loop-seat.least c.loop-seat.p.me.0.view c.loop-seat.invariant.loaded c.loop-seat-test.true c.load_begin.result c.load_begin.new.p.me.0.view c.load_begin.ensures.told.told);
  took =
      horizon_goes_on g.L.RowLaw.law c.args.who c.loop-seat.seat c.loop-seat.least c.load_begin.result c.lower-least.result c.args.p.now.me.0 c.loop-seat.p.me.0 c.load_begin.new.p.me.0
      c.loop-seat.invariant.took c.load_begin.ensures.booked c.lower-least.ensures;
}

-- all begin words are loaded
last_seat : (seat : ℕ) → ANNOUNCERS ≤ seat → (1 ≤ ANNOUNCERS → seat ≤ ANNOUNCERS) → seat ≡ ANNOUNCERS
last_seat seat least most = let below : seat ≤ ANNOUNCERS = most (omega arith) in omega (arith, least, below)

pub returns-clause-found : goal.returns-clause-found
returns-clause-found g c =
    subst (λ (n : ℕ). HasLoaded c.args.p.now.me.0.view c.args.who n c.loop-seat.least c.loop-seat.p.me.0.view)
    (last_seat c.loop-seat.seat c.loop-seat-test.false c.loop-seat.auto.seat-end) c.loop-seat.invariant.loaded

pub returns-clause-took : goal.returns-clause-took
returns-clause-took g c =
    subst (λ (n : ℕ). TookHorizon g.L.RowLaw.law c.args.who n c.loop-seat.least c.args.p.now.me.0 c.loop-seat.p.me.0)
    (last_seat c.loop-seat.seat c.loop-seat-test.false c.loop-seat.auto.seat-end) c.loop-seat.invariant.took
