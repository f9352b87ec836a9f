use Rattle.std.proofs.Common.{sym, ◌∙◌, refl}
use Rattle.erm_precommit.proofs.Standing.{held}
use Rattle.erm_precommit.proofs.Starts.{start_ready, start_room, start_went, start_stands, start_comes, full_went, full_stands, full_waits}
use Rattle.erm_precommit.proofs.settling.start.Goals as goal

pub load_flushed-flushed-requires-clause-held : goal.load_flushed-flushed-requires-clause-held
load_flushed-flushed-requires-clause-held g c = held c.args.p.now.me.0.view c.args.who c.requires.sealed

pub load_flushed-flushed-requires-clause-ready : goal.load_flushed-flushed-requires-clause-ready
load_flushed-flushed-requires-clause-ready g c = start_ready c.args.pre.now c.args.p.now.me.0.view c.args.who c.requires.sealed c.requires.starts c.requires.kept

pub returns-then-fits_ring-clause-went : goal.returns-then-fits_ring-clause-went
returns-then-fits_ring-clause-went g c =
    start_went c.args.pre.now c.args.p.now.me.0.view c.args.who c.requires.sealed c.requires.starts c.requires.kept c.load_flushed-flushed.result _ c.load_flushed-flushed.ensures.told.told (sym c.fits_ring.ensures ∙ c.if-fits_ring.true)

pub returns-then-fits_ring-clause-stands : goal.returns-then-fits_ring-clause-stands
returns-then-fits_ring-clause-stands g c =
    start_stands c.args.pre.now c.args.p.now.me.0.view c.args.who c.requires.sealed c.requires.starts c.requires.kept c.load_flushed-flushed.result _ c.load_flushed-flushed.ensures.told.told (sym c.fits_ring.ensures ∙ c.if-fits_ring.true)

pub returns-then-fits_ring-clause-began : goal.returns-then-fits_ring-clause-began
returns-then-fits_ring-clause-began g c =
    start_comes c.args.pre.now c.args.p.now.me.0.view c.args.who c.requires.sealed c.requires.starts c.requires.kept c.load_flushed-flushed.result _ c.load_flushed-flushed.ensures.told.told (sym c.fits_ring.ensures ∙ c.if-fits_ring.true)

pub returns-else-fits_ring-clause-went : goal.returns-else-fits_ring-clause-went
returns-else-fits_ring-clause-went g c =
    full_went c.args.pre.now c.args.p.now.me.0.view c.args.who c.requires.sealed c.requires.starts c.requires.kept c.load_flushed-flushed.result _ c.load_flushed-flushed.ensures.told.told (sym c.fits_ring.ensures ∙ c.if-fits_ring.false)

pub returns-else-fits_ring-clause-stands : goal.returns-else-fits_ring-clause-stands
returns-else-fits_ring-clause-stands g c =
    full_stands c.args.pre.now c.args.p.now.me.0.view c.args.who c.requires.sealed c.requires.starts c.requires.kept c.load_flushed-flushed.result _ c.load_flushed-flushed.ensures.told.told (sym c.fits_ring.ensures ∙ c.if-fits_ring.false)

pub returns-else-fits_ring-clause-full : goal.returns-else-fits_ring-clause-full
returns-else-fits_ring-clause-full g c =
    full_waits c.args.pre.now c.args.p.now.me.0.view c.args.who c.requires.sealed c.requires.starts c.requires.kept c.load_flushed-flushed.result _ c.load_flushed-flushed.ensures.told.told (sym c.fits_ring.ensures ∙ c.if-fits_ring.false)

pub returns-else-fits_ring-clause-took_full : goal.returns-else-fits_ring-clause-took_full
returns-else-fits_ring-clause-took_full g c = (
  (full_waits c.args.pre.now c.args.p.now.me.0.view c.args.who c.requires.sealed c.requires.starts c.requires.kept c.load_flushed-flushed.result _ c.load_flushed-flushed.ensures.told.told (sym c.fits_ring.ensures ∙ c.if-fits_ring.false)).full,
  (c.args.p.now.me.0, refl, c.load_flushed-flushed.ensures.booked),
)

pub returns-then-fits_ring-clause-took : goal.returns-then-fits_ring-clause-took
returns-then-fits_ring-clause-took g c = record {
  flushed = c.load_flushed-flushed.result;
  room =
      start_room c.args.pre.now c.args.p.now.me.0.view c.args.who c.requires.sealed c.requires.starts c.requires.kept c.load_flushed-flushed.result _ c.load_flushed-flushed.ensures.told.told (sym c.fits_ring.ensures ∙ c.if-fits_ring.true);
  step = c.load_flushed-flushed.ensures.booked;
}
