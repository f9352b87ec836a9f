use Rattle.std.proofs.Common.{refl}
use Rattle.erm_rule.proofs.Telling.{held_part, is_held, changed_here}
use Rattle.erm_seats.proofs.Sealing.{not_vacant, ready_seal, sealing_view, still_lawful, ready_draw, drawn_view, ready_store, did_seal}
use Rattle.erm_seats.proofs.life.seal_steps.Goals as goal

pub store_state-requires-clause-ready : goal.store_state-requires-clause-ready
store_state-requires-clause-ready g c =
    let v = c.args.p.now.me.0.view in
    ready_seal v c.args.who _ (held_part v c.args.who (not_vacant _ c.requires.active)) c.requires.session c.requires.active c.requires.rests

pub add_tail-stamp-requires-clause-held : goal.add_tail-stamp-requires-clause-held
add_tail-stamp-requires-clause-held g c =
    let v = c.args.p.now.me.0.view in
    let has = held_part v c.args.who (not_vacant _ c.requires.active) in
    is_held _ c.args.who _
    (changed_here v c.args.who _ _ _ has (sealing_view v c.args.who _ has c.requires.session c.requires.active c.requires.rests _ _ c.store_state.ensures.told.1.told))

pub add_tail-stamp-requires-clause-lawful : goal.add_tail-stamp-requires-clause-lawful
add_tail-stamp-requires-clause-lawful g c =
    let v = c.args.p.now.me.0.view in
    let has = held_part v c.args.who (not_vacant _ c.requires.active) in
    still_lawful v c.args.who _ has c.requires.session c.args.size c.requires.least c.requires.greatest _
    (sealing_view v c.args.who _ has c.requires.session c.requires.active c.requires.rests _ _ c.store_state.ensures.told.1.told) g.L.RowLaw.law c.requires.lawful

pub add_tail-stamp-requires-clause-ready : goal.add_tail-stamp-requires-clause-ready
add_tail-stamp-requires-clause-ready g c =
    let v = c.args.p.now.me.0.view in
    let has = held_part v c.args.who (not_vacant _ c.requires.active) in
    ready_draw v c.args.who _ has c.requires.session c.args.size c.requires.least c.requires.greatest _
    (sealing_view v c.args.who _ has c.requires.session c.requires.active c.requires.rests _ _ c.store_state.ensures.told.1.told)

pub store_state-requires-2-clause-held : goal.store_state-requires-2-clause-held
store_state-requires-2-clause-held g c =
    let v = c.args.p.now.me.0.view in
    let has = held_part v c.args.who (not_vacant _ c.requires.active) in
    let sealing = sealing_view v c.args.who _ has c.requires.session c.requires.active c.requires.rests _ _ c.store_state.ensures.told.1.told in
    is_held _ c.args.who _
    (changed_here v c.args.who _ _ _ has (drawn_view v c.args.who _ has c.requires.session c.args.size c.requires.least c.requires.greatest _ sealing c.add_tail-stamp.result _ c.add_tail-stamp.ensures.told.told))

pub store_state-requires-2-clause-ready : goal.store_state-requires-2-clause-ready
store_state-requires-2-clause-ready g c =
    let v = c.args.p.now.me.0.view in
    let has = held_part v c.args.who (not_vacant _ c.requires.active) in
    let sealing = sealing_view v c.args.who _ has c.requires.session c.requires.active c.requires.rests _ _ c.store_state.ensures.told.1.told in
    ready_store v c.args.who _ has c.requires.session c.args.size c.add_tail-stamp.result _
    (drawn_view v c.args.who _ has c.requires.session c.args.size c.requires.least c.requires.greatest _ sealing c.add_tail-stamp.result _ c.add_tail-stamp.ensures.told.told)

pub returns-clause-sealed : goal.returns-clause-sealed
returns-clause-sealed g c =
    let v = c.args.p.now.me.0.view in
    let has = held_part v c.args.who (not_vacant _ c.requires.active) in
    did_seal v c.args.who c.requires.session c.requires.active c.args.size c.requires.least c.requires.greatest c.add_tail-stamp.result _ _ _ _
    (sealing_view v c.args.who _ has c.requires.session c.requires.active c.requires.rests _ _ c.store_state.ensures.told.1.told) c.add_tail-stamp.ensures.told.told c.store_state-2.ensures.told.1.told

pub returns-clause-took : goal.returns-clause-took
returns-clause-took g c = record {
  first = c.store_state.ensures.booked.0;
  last = c.store_state-2.ensures.booked.0;
  took = (c.add_tail-stamp.new.p.me.0, (c.store_state.new.p.me.0, (c.args.p.now.me.0, refl, c.store_state.ensures.booked.1), c.add_tail-stamp.ensures.booked), c.store_state-2.ensures.booked.1);
}
