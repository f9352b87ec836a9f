use Rattle.std.proofs.Common.{refl}
use Rattle.std.proofs.lemmas.Bool.{lt-ltb}
use Rattle.erm_rule.proofs.Telling.{is_held}
use Rattle.erm_rule.proofs.Wents.{went_none, went_step}
use Rattle.erm_safe_reads.proofs.Loaded.{did_load_safe, safe_cell, safe_goes_on, safe_held, safe_known, safe_object, safe_ready, safe_starts}
use Rattle.erm_safe_reads.proofs.rows.load_safe_row.Goals as goal

pub loop-k-init : goal.loop-k-init
loop-k-init g c = (c.requires.fits, safe_starts c.args.p.now.me.0 c.args.who _ refl, went_none _ _ _ _)

pub load_walked-requires-clause-held : goal.load_walked-requires-clause-held
load_walked-requires-clause-held g c =
    is_held c.loop-k.p.me.0.view c.args.who _
    (safe_held c.args.p.now.me.0 c.args.who c.args.cell c.requires.known c.requires.active c.requires.found c.loop-k.p.me.0 c.loop-k.k c.loop-k-test.true c.loop-k.row c.loop-k.invariant.1)

pub load_walked-requires-clause-known : goal.load_walked-requires-clause-known
load_walked-requires-clause-known g c =
    safe_known c.args.p.now.me.0 c.args.who c.args.cell c.requires.known c.requires.active c.requires.found c.loop-k.p.me.0 c.loop-k.k c.loop-k-test.true c.loop-k.row c.loop-k.invariant.1

pub load_walked-requires-clause-object : goal.load_walked-requires-clause-object
load_walked-requires-clause-object g c =
    safe_object c.args.p.now.me.0 c.args.who c.args.cell c.requires.known c.requires.active c.requires.found c.loop-k.p.me.0 c.loop-k.k c.loop-k-test.true c.loop-k.row c.loop-k.invariant.1

pub load_walked-requires-clause-cell : goal.load_walked-requires-clause-cell
load_walked-requires-clause-cell g c =
    safe_cell c.args.p.now.me.0 c.args.who c.args.cell c.requires.known c.requires.active c.requires.found c.loop-k.p.me.0 c.loop-k.k c.loop-k-test.true c.loop-k.row c.loop-k.invariant.1

pub load_walked-requires-clause-word : goal.load_walked-requires-clause-word
load_walked-requires-clause-word g c = lt-ltb c.loop-k.k 16 c.loop-k-test.true

pub load_walked-requires-clause-ready : goal.load_walked-requires-clause-ready
load_walked-requires-clause-ready g c =
    safe_ready c.args.p.now.me.0 c.args.who c.args.cell c.requires.known c.requires.active c.requires.found c.loop-k.p.me.0 c.loop-k.k c.loop-k-test.true c.loop-k.row c.loop-k.invariant.1

pub loop-k-preserved : goal.loop-k-preserved
loop-k-preserved g c = (
  c.load_walked.ensures.fits,
  safe_goes_on c.args.p.now.me.0 c.args.who c.args.cell c.requires.known c.requires.active c.requires.found c.loop-k.p.me.0 c.loop-k.k c.loop-k-test.true c.loop-k.row c.loop-k.invariant.1 g.L.RowLaw.law
      c.load_walked.result c.load_walked.new.p.me.0 c.load_walked.ensures.booked,
  went_step _ _ _ _ _ _ _ _ c.loop-k.invariant.2 tt c.load_walked.ensures.booked,
)

pub returns-clause-loaded : goal.returns-clause-loaded
returns-clause-loaded g c =
    did_load_safe c.args.p.now.me.0 c.args.who c.args.cell c.requires.known c.requires.active c.requires.found c.loop-k.p.me.0 c.loop-k.row c.loop-k.k c.loop-k-test.false c.loop-k.invariant.1

pub returns-clause-loads : goal.returns-clause-loads
returns-clause-loads g c = c.loop-k.invariant.2
