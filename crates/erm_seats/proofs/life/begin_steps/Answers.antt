use Rattle.std.proofs.Common.{sym, ap, ◌∙◌, refl}
use Rattle.erm_machine.specs.Seat.{is_vacant}
use Rattle.erm_rule.proofs.Numbered.{known_after}
use Rattle.erm_rule.proofs.Telling.{held_part, is_held, changed_here}
use Rattle.erm_seats.proofs.Beginning.{first_past, ready_first, stopped_view, loaded_view, ready_announce, announced_view, ready_second, stopped_tail, did_begin}
use Rattle.erm_seats.proofs.life.begin_steps.Goals as goal

pub load_tail-tail-requires-clause-ready : goal.load_tail-tail-requires-clause-ready
load_tail-tail-requires-clause-ready g c =
    ready_first c.args.p.now.me.0.view c.args.who _ (held_part c.args.p.now.me.0.view c.args.who (ap is_vacant c.requires.idle)) c.requires.number c.requires.idle

pub returns-then-is_refused-clause-stopped : goal.returns-then-is_refused-clause-stopped
returns-then-is_refused-clause-stopped g c =
    let v = c.args.p.now.me.0.view in
    let refused = sym c.is_refused.ensures ∙ c.if-is_refused.true in (
      (stopped_tail c.args.who c.load_tail-tail.result refused).0,
      (stopped_tail c.args.who c.load_tail-tail.result refused).1,
      stopped_view v c.args.who _ (held_part v c.args.who (ap is_vacant c.requires.idle)) c.requires.number c.requires.idle c.load_tail-tail.result _ c.load_tail-tail.ensures.told.told refused,
      first_past v c.args.who c.load_tail-tail.result _ c.load_tail-tail.ensures.told.told,
      known_after v c.args.who _ _ _ c.load_tail-tail.ensures.told.told,
    )

pub store_begin-requires-clause-held : goal.store_begin-requires-clause-held
store_begin-requires-clause-held g c =
    let v = c.args.p.now.me.0.view in
    let has = held_part v c.args.who (ap is_vacant c.requires.idle) in
    let is = loaded_view v c.args.who _ has c.requires.number c.requires.idle c.load_tail-tail.result _ c.load_tail-tail.ensures.told.told (sym c.is_refused.ensures ∙ c.if-is_refused.false) in
    is_held _ c.args.who _ (changed_here v c.args.who _ _ _ has is)

pub store_begin-requires-clause-ready : goal.store_begin-requires-clause-ready
store_begin-requires-clause-ready g c =
    let v = c.args.p.now.me.0.view in
    let has = held_part v c.args.who (ap is_vacant c.requires.idle) in
    ready_announce v c.args.who _ has c.requires.number c.load_tail-tail.result _
    (loaded_view v c.args.who _ has c.requires.number c.requires.idle c.load_tail-tail.result _ c.load_tail-tail.ensures.told.told (sym c.is_refused.ensures ∙ c.if-is_refused.false))

pub load_tail-requires-clause-held : goal.load_tail-requires-clause-held
load_tail-requires-clause-held g c =
    let v = c.args.p.now.me.0.view in
    let has = held_part v c.args.who (ap is_vacant c.requires.idle) in
    let loaded = loaded_view v c.args.who _ has c.requires.number c.requires.idle c.load_tail-tail.result _ c.load_tail-tail.ensures.told.told (sym c.is_refused.ensures ∙ c.if-is_refused.false) in
    is_held _ c.args.who _
    (changed_here v c.args.who _ _ _ has (announced_view v c.args.who _ has c.requires.number c.load_tail-tail.result _ _ _ loaded c.store_begin.ensures.told.1.told))

pub load_tail-requires-clause-ready : goal.load_tail-requires-clause-ready
load_tail-requires-clause-ready g c =
    let v = c.args.p.now.me.0.view in
    let has = held_part v c.args.who (ap is_vacant c.requires.idle) in
    let loaded = loaded_view v c.args.who _ has c.requires.number c.requires.idle c.load_tail-tail.result _ c.load_tail-tail.ensures.told.told (sym c.is_refused.ensures ∙ c.if-is_refused.false) in
    ready_second v c.args.who _ has c.requires.number c.load_tail-tail.result _
    (announced_view v c.args.who _ has c.requires.number c.load_tail-tail.result _ _ _ loaded c.store_begin.ensures.told.1.told)

pub returns-clause-begun : goal.returns-clause-begun
returns-clause-begun g c =
    let v = c.args.p.now.me.0.view in
    let has = held_part v c.args.who (ap is_vacant c.requires.idle) in
    let low = sym c.is_refused.ensures ∙ c.if-is_refused.false in
    let loaded = loaded_view v c.args.who _ has c.requires.number c.requires.idle c.load_tail-tail.result _ c.load_tail-tail.ensures.told.told low in
    did_begin v c.args.who c.requires.idle c.requires.number c.load_tail-tail.result c.load_tail.result low _ _ _ c.load_tail-tail.ensures.told.told
    (announced_view v c.args.who _ has c.requires.number c.load_tail-tail.result _ _ _ loaded c.store_begin.ensures.told.1.told) c.load_tail.ensures.told.told

pub returns-then-is_refused-clause-took_stop : goal.returns-then-is_refused-clause-took_stop
returns-then-is_refused-clause-took_stop g c = (sym c.is_refused.ensures ∙ c.if-is_refused.true, (c.args.p.now.me.0, refl, c.load_tail-tail.ensures.booked))

pub returns-clause-took : goal.returns-clause-took
returns-clause-took g c = record {
  announced = c.load_tail-tail.result;
  word = c.store_begin.ensures.booked.0;
  low = sym c.is_refused.ensures ∙ c.if-is_refused.false;
  took = (c.store_begin.new.p.me.0, (c.load_tail-tail.new.p.me.0, (c.args.p.now.me.0, refl, c.load_tail-tail.ensures.booked), c.store_begin.ensures.booked.1), c.load_tail.ensures.booked);
}
