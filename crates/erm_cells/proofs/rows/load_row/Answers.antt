use Rattle.std.proofs.Common.{ap, refl, subst, sym, ◌∙◌}
use Rattle.std.proofs.lemmas.Bool.{lt-ltb}
use Rattle.erm_rule.specs.declared.view.View.{View}
use Rattle.erm_rule.specs.Hands.{IsKnown, in_hand}
use Rattle.erm_rule.specs.Views.{part_of}
use Rattle.erm_rule.proofs.Telling.{is_held}
use Rattle.erm_cells.proofs.Loading.{did_load, load_goes_on, load_held, load_object, load_ready, load_starts}
use Rattle.erm_cells.proofs.rows.load_row.Goals as goal
use Rattle.erm_rule.proofs.Wents.{went_none, went_step}

pub loop-k-init : goal.loop-k-init
loop-k-init g c = (c.requires.fits, load_starts c.args.p.now.me.0.view _ _ refl, went_none _ _ _ _)

pub load_walked-requires-clause-held : goal.load_walked-requires-clause-held
load_walked-requires-clause-held g c = is_held c.loop-k.p.me.0.view c.args.who _ (load_held c.args.p.now.me.0.view c.args.who c.requires.active c.requires.known c.requires.registered c.loop-k.p.me.0.view c.loop-k.k c.loop-k-test.true c.loop-k.row c.loop-k.invariant.1)

pub load_walked-requires-clause-known : goal.load_walked-requires-clause-known
load_walked-requires-clause-known g c = subst IsKnown (sym c.loop-k.invariant.1.same) c.requires.known

pub load_walked-requires-clause-object : goal.load_walked-requires-clause-object
load_walked-requires-clause-object g c = load_object c.args.p.now.me.0.view c.args.who c.requires.active c.requires.known c.requires.registered c.loop-k.p.me.0.view c.loop-k.k c.loop-k-test.true c.loop-k.row c.loop-k.invariant.1

pub load_walked-requires-clause-cell : goal.load_walked-requires-clause-cell
load_walked-requires-clause-cell g c = ap (λ (u : View). (in_hand (part_of u c.args.who).task).cell) c.loop-k.invariant.1.same ∙ c.requires.cell

pub load_walked-requires-clause-word : goal.load_walked-requires-clause-word
load_walked-requires-clause-word g c = lt-ltb c.loop-k.k 16 c.loop-k-test.true

pub load_walked-requires-clause-ready : goal.load_walked-requires-clause-ready
load_walked-requires-clause-ready g c = load_ready c.args.p.now.me.0.view c.args.who c.requires.active c.requires.known c.requires.registered c.loop-k.p.me.0.view c.loop-k.k c.loop-k-test.true c.loop-k.row c.loop-k.invariant.1

pub loop-k-preserved : goal.loop-k-preserved
loop-k-preserved g c = (c.load_walked.ensures.fits, load_goes_on c.args.p.now.me.0.view c.args.who c.requires.active c.requires.known c.requires.registered c.loop-k.p.me.0.view c.loop-k.k c.loop-k-test.true c.loop-k.row c.loop-k.invariant.1 c.load_walked.result c.load_walked.new.p.me.0.view c.load_walked.ensures.told.told, went_step _ _ _ _ _ _ _ _ c.loop-k.invariant.2 tt c.load_walked.ensures.booked)

pub returns-clause-loaded : goal.returns-clause-loaded
returns-clause-loaded g c = did_load c.args.p.now.me.0.view c.args.who c.requires.active c.requires.known c.requires.registered c.loop-k.p.me.0.view c.loop-k.row c.loop-k.k c.loop-k-test.false c.loop-k.invariant.1

pub returns-clause-loads : goal.returns-clause-loads
returns-clause-loads g c = c.loop-k.invariant.2
