use Rattle.std.proofs.Common.{◌≡◌, ℕ, refl, subst, arith}
use Rattle.erm_rule.proofs.Telling.{is_held}
use Rattle.erm_cells.proofs.Storing.{did_store, row_goes_on, row_held, row_owns, row_place, row_ready, row_starts}
use Rattle.std.specs.Prelude.{slice_index}
use Rattle.erm_machine.specs.declared.version.CellWord.TheVariants as word
use Rattle.erm_rule.specs.Views.{part_of}
use Rattle.erm_cells.specs.Placed.{place_of}
use Rattle.erm_cells.specs.Took.{TookStores}
use Rattle.erm_cells.proofs.Took.{stores_more}
use Rattle.erm_cells.proofs.rows.store_row.Goals as goal

pub loop-k-init : goal.loop-k-init
loop-k-init g c = (c.requires.fits, row_starts c.args.p.now.me.0.view c.args.who c.args.cell c.args.row.now c.requires.active c.requires.known c.requires.may c.told-row c.args.p.now.me.0.view refl, refl)

pub store_placed-requires-clause-held : goal.store_placed-requires-clause-held
store_placed-requires-clause-held g c = is_held c.loop-k.p.me.0.view c.args.who _ (row_held c.args.p.now.me.0.view c.args.who c.args.cell c.args.row.now c.requires.active c.requires.known c.requires.may c.told-row c.loop-k.p.me.0.view c.loop-k.k c.loop-k-test.true c.loop-k.invariant.1)

pub store_placed-requires-clause-known : goal.store_placed-requires-clause-known
store_placed-requires-clause-known g c = c.loop-k.invariant.1.known

pub store_placed-requires-clause-owned : goal.store_placed-requires-clause-owned
store_placed-requires-clause-owned g c = row_owns c.args.p.now.me.0.view c.args.who c.args.cell c.args.row.now c.requires.active c.requires.known c.requires.may c.told-row c.loop-k.p.me.0.view c.loop-k.k c.loop-k-test.true c.loop-k.invariant.1

pub store_placed-requires-clause-ready : goal.store_placed-requires-clause-ready
store_placed-requires-clause-ready g c = row_ready c.args.p.now.me.0.view c.args.who c.args.cell c.args.row.now c.requires.active c.requires.known c.requires.may c.told-row c.loop-k.p.me.0.view c.loop-k.k c.loop-k-test.true c.loop-k.invariant.1

pub loop-k-preserved : goal.loop-k-preserved
loop-k-preserved g c = (
  c.store_placed.ensures.fits,
  row_goes_on c.args.p.now.me.0.view c.args.who c.args.cell c.args.row.now c.requires.active c.requires.known c.requires.may c.told-row c.loop-k.p.me.0.view c.loop-k.k c.loop-k-test.true c.loop-k.invariant.1 c.store_placed.new.p.me.0.view (c.store_placed.ensures.told.0, c.store_placed.ensures.told.1.told),
  stores_more g.L.RowLaw.law c.args.who (place_of c.args.cell (part_of c.args.p.now.me.0.view c.args.who)) c.args.cell (λ n. word.Row n) (λ n. slice_index c.args.row.now n) c.loop-k.k (part_of c.loop-k.p.me.0.view c.args.who) c.args.p.now.me.0 c.loop-k.p.me.0 c.store_placed.new.p.me.0
      (row_place c.args.p.now.me.0.view c.args.who c.args.cell c.args.row.now c.requires.active c.requires.known c.requires.may c.told-row c.loop-k.p.me.0.view c.loop-k.k c.loop-k-test.true c.loop-k.invariant.1)
      c.loop-k.invariant.2 (word.Row c.loop-k.k) refl (slice_index c.args.row.now c.loop-k.k) refl c.store_placed.ensures.booked,
)

pub returns-clause-stored : goal.returns-clause-stored
returns-clause-stored g c = did_store c.args.p.now.me.0.view c.args.who c.args.cell c.args.row.now c.requires.active c.requires.known c.requires.may c.told-row c.loop-k.p.me.0.view c.loop-k.k (omega arith) c.loop-k.invariant.1

pub returns-clause-stores : goal.returns-clause-stores
returns-clause-stores g c =
    let full : c.loop-k.k ≡ 16 = omega arith in
    subst (λ (n : ℕ). TookStores g.L.RowLaw.law c.args.who (place_of c.args.cell (part_of c.args.p.now.me.0.view c.args.who)) c.args.cell (λ k. word.Row k) (λ k. slice_index c.args.row.now k) n c.args.p.now.me.0 c.loop-k.p.me.0) full c.loop-k.invariant.2
