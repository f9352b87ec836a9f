use Rattle.std.proofs.Common.{◌≡◌, refl, sym, subst}
use Rattle.std.proofs.lemmas.Bool.{lt-ltb}
use Rattle.erm_machine.specs.declared.limits.TheConstants.{FLUSH_SEAT}
use Rattle.erm_rule.specs.declared.view.View.{View}
use Rattle.erm_rule.specs.Hands.{IsKnown, in_hand}
use Rattle.erm_rule.specs.Views.{part_of}
use Rattle.erm_rule.proofs.Telling.{is_held}
use Rattle.erm_rule.proofs.Wents.{went_none, went_step}
use Rattle.erm_pin.proofs.RowWords.{row_goes_on, row_held, row_loaded, row_object, row_ready, row_starts}
use Rattle.erm_pin.proofs.loading.load_pinned.Goals as goal

pub loop-k-init : goal.loop-k-init
loop-k-init g c = (c.requires.fits, row_starts c.args.p.now.me.0 c.requires.active c.requires.known c.requires.found _ refl, went_none _ _ _ _)

pub load_walked-requires-clause-held : goal.load_walked-requires-clause-held
load_walked-requires-clause-held g c = is_held c.loop-k.p.me.0.view FLUSH_SEAT _ (row_held c.args.p.now.me.0 c.requires.active c.requires.known c.requires.found c.loop-k.k c.loop-k.row c.loop-k.p.me.0 c.loop-k.invariant.1)

pub load_walked-requires-clause-known : goal.load_walked-requires-clause-known
load_walked-requires-clause-known g c = subst IsKnown (sym c.loop-k.invariant.1.same) c.requires.known

pub load_walked-requires-clause-object : goal.load_walked-requires-clause-object
load_walked-requires-clause-object g c = row_object c.args.p.now.me.0 c.requires.active c.requires.known c.requires.found c.loop-k.k c.loop-k.row c.loop-k.p.me.0 c.loop-k.invariant.1

pub load_walked-requires-clause-cell : goal.load_walked-requires-clause-cell
load_walked-requires-clause-cell g c = subst (λ (v : View). (in_hand (part_of v FLUSH_SEAT).task).cell ≡ c.args.cell) (sym c.loop-k.invariant.1.same) c.requires.cell

pub load_walked-requires-clause-ready : goal.load_walked-requires-clause-ready
load_walked-requires-clause-ready g c = row_ready c.args.p.now.me.0 c.requires.active c.requires.known c.requires.found c.loop-k.k c.loop-k.row c.loop-k.p.me.0 c.loop-k.invariant.1

pub loop-k-preserved : goal.loop-k-preserved
loop-k-preserved g c = (
  c.load_walked.ensures.fits,
  row_goes_on c.args.p.now.me.0 c.requires.active c.requires.known c.requires.found c.loop-k.k c.loop-k.row c.loop-k.p.me.0 c.loop-k.invariant.1 g.L.RowLaw.law c.load_walked.result
      c.load_walked.new.p.me.0 c.loop-k-test.true c.load_walked.ensures.booked,
  went_step _ _ _ _ _ _ _ _ c.loop-k.invariant.2 tt c.load_walked.ensures.booked,
)

pub returns-clause-same : goal.returns-clause-same
returns-clause-same g c = c.loop-k.invariant.1.same

pub returns-clause-row : goal.returns-clause-row
returns-clause-row g c = row_loaded c.args.p.now.me.0 c.requires.active c.requires.known c.requires.found c.loop-k.k c.loop-k.row c.loop-k.p.me.0 c.loop-k.invariant.1 c.loop-k-test.false

pub returns-clause-loads : goal.returns-clause-loads
returns-clause-loads g c = c.loop-k.invariant.2

pub load_walked-requires-clause-word : goal.load_walked-requires-clause-word
load_walked-requires-clause-word g c = lt-ltb c.loop-k.k 16 c.loop-k-test.true
