use Rattle.std.proofs.Common.{◌<◌, arith}
use Rattle.erm_model.specs.declared.limits.TheConstants.{TABLE_CELLS}
use Rattle.erm_rule.proofs.Telling.{is_held}
use Rattle.erm_cells.proofs.Heads.{has}
use Rattle.erm_cut.proofs.OffChain.{object_found, cell_found, ready_swap, starts_detaching, held_here, count_within, room, count_room, object_here, cell_here, ready_detached, detaches_next, did_detach, spare_is, one_less}
use Rattle.erm_cut.proofs.detaching.detach.Goals as goal
use Rattle.erm_cut.proofs.Swaps.{swap_goes_on, swap_taken, took_detach}

pub swap_link-link-requires-clause-held : goal.swap_link-link-requires-clause-held
swap_link-link-requires-clause-held g c = is_held c.args.p.now.me.0.view c.args.who _ (has c.args.p.now.me.0.view c.args.who c.requires.active)

pub swap_link-link-requires-clause-object : goal.swap_link-link-requires-clause-object
swap_link-link-requires-clause-object g c = object_found c.args.p.now.me.0.view c.args.who c.requires.active c.args.cell c.requires.known c.requires.found

pub swap_link-link-requires-clause-cell : goal.swap_link-link-requires-clause-cell
swap_link-link-requires-clause-cell g c = cell_found c.args.p.now.me.0.view c.args.who c.requires.active c.args.cell c.requires.known c.requires.found

pub swap_link-link-requires-clause-ready : goal.swap_link-link-requires-clause-ready
swap_link-link-requires-clause-ready g c = ready_swap c.args.p.now.me.0.view c.args.who c.requires.active c.args.cell c.requires.known c.requires.found

pub loop-link-init : goal.loop-link-init
loop-link-init g c = record {
  fits = c.swap_link-link.ensures.fits;
  walk = starts_detaching c.args.p.now.me.0.view c.args.who c.requires.active c.args.cell c.requires.known c.requires.found c.swap_link-link.result _ c.swap_link-link.ensures.told.told c.args.spare.now c.requires.spare;
  took = swap_taken g.L.RowLaw.law c.args.who c.args.p.now.me.0 c.requires.active c.args.cell c.requires.known c.requires.found c.swap_link-link.result c.swap_link-link.new.p.me.0 c.swap_link-link.ensures.booked;
}

pub push-requires : goal.push-requires
push-requires g c =
    room c.args.p.now.me.0.view c.args.who c.requires.active c.loop-link.link c.loop-link.count c.loop-link.spare c.loop-link.p.me.0.view c.loop-link.invariant.walk c.loop-link-test.true

pub load_detached-link-requires-clause-held : goal.load_detached-link-requires-clause-held
load_detached-link-requires-clause-held g c =
    is_held c.loop-link.p.me.0.view c.args.who _
    (held_here c.args.p.now.me.0.view c.args.who c.requires.active c.loop-link.link c.loop-link.count c.loop-link.spare c.loop-link.p.me.0.view c.loop-link.invariant.walk)

pub load_detached-link-requires-clause-known : goal.load_detached-link-requires-clause-known
load_detached-link-requires-clause-known g c = c.loop-link.invariant.walk.known

pub load_detached-link-requires-clause-object : goal.load_detached-link-requires-clause-object
load_detached-link-requires-clause-object g c =
    object_here c.args.p.now.me.0.view c.args.who c.requires.active c.loop-link.link c.loop-link.count c.loop-link.spare c.loop-link.p.me.0.view c.loop-link.invariant.walk c.loop-link-test.true

pub load_detached-link-requires-clause-cell : goal.load_detached-link-requires-clause-cell
load_detached-link-requires-clause-cell g c =
    cell_here c.args.p.now.me.0.view c.args.who c.requires.active c.loop-link.link c.loop-link.count c.loop-link.spare c.loop-link.p.me.0.view c.loop-link.invariant.walk c.loop-link-test.true c.linked_cell-older.result c.linked_cell-older.ensures

pub load_detached-link-requires-clause-ready : goal.load_detached-link-requires-clause-ready
load_detached-link-requires-clause-ready g c =
    ready_detached c.args.p.now.me.0.view c.args.who c.requires.active c.loop-link.link c.loop-link.count c.loop-link.spare c.loop-link.p.me.0.view c.loop-link.invariant.walk c.loop-link-test.true

pub overflow_add-count : goal.overflow_add-count
overflow_add-count g c =
    let few : c.loop-link.count < TABLE_CELLS =
    count_room c.args.p.now.me.0.view c.args.who c.requires.active c.loop-link.link c.loop-link.count c.loop-link.spare c.loop-link.p.me.0.view c.loop-link.invariant.walk c.loop-link-test.true in
    omega (arith, few)

pub loop-link-smaller : goal.loop-link-smaller
loop-link-smaller g c =
    one_less c.loop-link.count
    (count_room c.args.p.now.me.0.view c.args.who c.requires.active c.loop-link.link c.loop-link.count c.loop-link.spare c.loop-link.p.me.0.view c.loop-link.invariant.walk c.loop-link-test.true)

pub loop-link-preserved : goal.loop-link-preserved
loop-link-preserved g c = record {
  fits = c.load_detached-link.ensures.fits;
  walk =
      detaches_next c.args.p.now.me.0.view c.args.who c.requires.active c.loop-link.link c.loop-link.count c.loop-link.spare c.loop-link.p.me.0.view c.loop-link.invariant.walk c.loop-link-test.true
      c.load_detached-link.result c.load_detached-link.new.p.me.0.view c.load_detached-link.ensures.told.told c.linked_cell-older.result c.push.new.self c.linked_cell-older.ensures c.push.ensures;
  took =
      swap_goes_on g.L.RowLaw.law c.args.who c.args.p.now.me.0 c.requires.active c.loop-link.link c.loop-link.count c.loop-link.spare c.loop-link.p.me.0 c.loop-link.invariant.walk c.loop-link.invariant.took c.loop-link-test.true
      c.load_detached-link.result c.load_detached-link.new.p.me.0 c.load_detached-link.ensures.booked;
}

pub reverse_end-requires : goal.reverse_end-requires
reverse_end-requires g c =
    count_within c.args.p.now.me.0.view c.args.who c.requires.active c.loop-link.link c.loop-link.count c.loop-link.spare c.loop-link.p.me.0.view c.loop-link.invariant.walk

pub returns-clause-detached : goal.returns-clause-detached
returns-clause-detached g c =
    did_detach c.args.p.now.me.0.view c.args.who c.requires.active c.loop-link.link c.loop-link.count c.loop-link.spare c.loop-link.p.me.0.view c.loop-link.invariant.walk c.loop-link-test.false

pub returns-clause-spare : goal.returns-clause-spare
returns-clause-spare g c =
    spare_is c.args.p.now.me.0.view c.args.who c.requires.active c.loop-link.link c.loop-link.count c.loop-link.spare c.loop-link.p.me.0.view c.loop-link.invariant.walk c.loop-link-test.false c.reverse_end.new.self c.reverse_end.ensures

pub returns-clause-took : goal.returns-clause-took
returns-clause-took g c =
    took_detach g.L.RowLaw.law c.args.who c.args.p.now.me.0 c.requires.active c.loop-link.link c.loop-link.count c.loop-link.spare c.loop-link.p.me.0 c.loop-link.invariant.walk c.loop-link.invariant.took c.loop-link-test.false
