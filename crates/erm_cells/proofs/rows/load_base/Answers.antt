use Rattle.std.proofs.Common.{ap, refl, subst, sym, ◌∙◌}
use Rattle.erm_rule.specs.declared.view.View.{View}
use Rattle.erm_rule.specs.Hands.{IsKnown}
use Rattle.erm_rule.specs.Views.{part_of}
use Rattle.erm_rule.proofs.Telling.{is_held}
use Rattle.erm_cells.specs.Hands.{newest_claimed}
use Rattle.erm_cells.proofs.Loading.{base_goes_on, copied_held, copied_object, copied_ready, did_base, load_starts}
use Rattle.erm_cells.proofs.rows.load_base.Goals as goal
use Rattle.erm_rule.proofs.Wents.{went_none, went_step}

pub loop-k-init : goal.loop-k-init
loop-k-init g c = (c.requires.fits, load_starts c.args.p.now.me.0.view _ _ refl, went_none _ _ _ _)

pub load_copied-requires-clause-held : goal.load_copied-requires-clause-held
load_copied-requires-clause-held g c = is_held c.loop-k.p.me.0.view c.args.who _ (copied_held c.args.p.now.me.0.view c.args.who c.requires.active c.requires.known c.requires.copies c.loop-k.p.me.0.view c.loop-k.k c.loop-k-test.true c.loop-k.row c.loop-k.invariant.1)

pub load_copied-requires-clause-known : goal.load_copied-requires-clause-known
load_copied-requires-clause-known g c = subst IsKnown (sym c.loop-k.invariant.1.same) c.requires.known

pub load_copied-requires-clause-object : goal.load_copied-requires-clause-object
load_copied-requires-clause-object g c = copied_object c.args.p.now.me.0.view c.args.who c.requires.active c.requires.known c.requires.copies c.loop-k.p.me.0.view c.loop-k.k c.loop-k-test.true c.loop-k.row c.loop-k.invariant.1

pub load_copied-requires-clause-cell : goal.load_copied-requires-clause-cell
load_copied-requires-clause-cell g c = ap (λ (u : View). (newest_claimed (part_of u c.args.who)).cell) c.loop-k.invariant.1.same ∙ c.requires.cell

pub load_copied-requires-clause-ready : goal.load_copied-requires-clause-ready
load_copied-requires-clause-ready g c = copied_ready c.args.p.now.me.0.view c.args.who c.requires.active c.requires.known c.requires.copies c.loop-k.p.me.0.view c.loop-k.k c.loop-k-test.true c.loop-k.row c.loop-k.invariant.1

pub loop-k-preserved : goal.loop-k-preserved
loop-k-preserved g c = (c.load_copied.ensures.fits, base_goes_on c.args.p.now.me.0.view c.args.who c.requires.active c.requires.known c.requires.copies c.loop-k.p.me.0.view c.loop-k.k c.loop-k-test.true c.loop-k.row c.loop-k.invariant.1 c.load_copied.result c.load_copied.new.p.me.0.view c.load_copied.ensures.told.told, went_step _ _ _ _ _ _ _ _ c.loop-k.invariant.2 tt c.load_copied.ensures.booked)

pub returns-clause-loaded : goal.returns-clause-loaded
returns-clause-loaded g c = did_base c.args.p.now.me.0.view c.args.who c.requires.active c.requires.known c.requires.copies c.loop-k.p.me.0.view c.loop-k.row c.loop-k.k c.loop-k-test.false c.loop-k.invariant.1

pub returns-clause-loads : goal.returns-clause-loads
returns-clause-loads g c = c.loop-k.invariant.2
