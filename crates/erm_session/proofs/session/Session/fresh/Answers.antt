use Rattle.std.proofs.Common.{arith, inl, inr, refl}
use Rattle.erm_rule.proofs.Telling.{is_held}
use Rattle.erm_session.proofs.Looks.{held_there}
use Rattle.erm_session.proofs.Makes.{has_numbers, known_first, known_then, makes_object, ready_add, ready_load, refused_first, refused_then, session_first, session_then, writes_first, writes_then}
use Rattle.erm_session.proofs.Saved.{shows_same}
use Rattle.erm_session.proofs.session.Session.fresh.Goals as goal
use Rattle.erm_session.proofs.Took.{object_still}
use Rattle.erm_rule.proofs.Wents.{went_one}

pub load_counter-seen-requires-clause-held : goal.load_counter-seen-requires-clause-held
load_counter-seen-requires-clause-held g c = held_there c.args.self.now _ c.requires.stands

pub load_counter-seen-requires-clause-ready : goal.load_counter-seen-requires-clause-ready
load_counter-seen-requires-clause-ready g c = ready_load c.args.self.now _ c.requires.stands c.requires.active

pub returns-then-seen-from-clause-known : goal.returns-then-seen-from-clause-known
returns-then-seen-from-clause-known g c = known_first c.args.self.now _ c.requires.stands c.requires.active c.load_counter-seen.result _ c.load_counter-seen.ensures.told.told

pub returns-then-seen-from-clause-stands : goal.returns-then-seen-from-clause-stands
returns-then-seen-from-clause-stands g c = session_first c.args.self.now _ c.requires.stands c.requires.active c.load_counter-seen.result _ c.load_counter-seen.ensures.told.told (omega (arith, c.from.ensures, c.if-seen-from.true))

pub returns-then-seen-from-clause-refused : goal.returns-then-seen-from-clause-refused
returns-then-seen-from-clause-refused g c = refused_first c.args.self.now _ c.requires.stands c.requires.active c.load_counter-seen.result _ c.load_counter-seen.ensures.told.told (omega (arith, c.from.ensures, c.if-seen-from.true))

pub add_counter-found-requires-clause-held : goal.add_counter-found-requires-clause-held
add_counter-found-requires-clause-held g c =
    is_held _ c.args.self.now.seat _ (has_numbers c.args.self.now _ c.requires.stands c.requires.active c.load_counter-seen.result _ c.load_counter-seen.ensures.told.told (omega (arith, c.from.ensures, c.if-seen-from.false)))

pub add_counter-found-requires-clause-ready : goal.add_counter-found-requires-clause-ready
add_counter-found-requires-clause-ready g c = ready_add c.args.self.now _ c.requires.stands c.requires.active c.load_counter-seen.result _ c.load_counter-seen.ensures.told.told (omega (arith, c.from.ensures, c.if-seen-from.false))

pub returns-then-found-from-clause-known : goal.returns-then-found-from-clause-known
returns-then-found-from-clause-known g c =
    known_then c.args.self.now _ c.requires.stands c.requires.active c.load_counter-seen.result _ c.load_counter-seen.ensures.told.told (omega (arith, c.from.ensures, c.if-seen-from.false)) c.add_counter-found.result _
    c.add_counter-found.ensures.told.told

pub returns-then-found-from-clause-stands : goal.returns-then-found-from-clause-stands
returns-then-found-from-clause-stands g c =
    session_then c.args.self.now _ c.requires.stands c.requires.active c.load_counter-seen.result _ c.load_counter-seen.ensures.told.told (omega (arith, c.from.ensures, c.if-seen-from.false)) c.add_counter-found.result _
    c.add_counter-found.ensures.told.told

pub returns-then-found-from-clause-refused : goal.returns-then-found-from-clause-refused
returns-then-found-from-clause-refused g c =
    refused_then c.args.self.now _ c.requires.stands c.requires.active c.load_counter-seen.result _ c.load_counter-seen.ensures.told.told (omega (arith, c.from.ensures, c.if-seen-from.false)) c.add_counter-found.result _
    c.add_counter-found.ensures.told.told (omega (arith, c.from-2.ensures, c.if-found-from.true))

pub returns-clause-known : goal.returns-clause-known
returns-clause-known g c =
    known_then c.args.self.now _ c.requires.stands c.requires.active c.load_counter-seen.result _ c.load_counter-seen.ensures.told.told (omega (arith, c.from.ensures, c.if-seen-from.false)) c.add_counter-found.result _
    c.add_counter-found.ensures.told.told

pub returns-clause-stands : goal.returns-clause-stands
returns-clause-stands g c =
    session_then c.args.self.now _ c.requires.stands c.requires.active c.load_counter-seen.result _ c.load_counter-seen.ensures.told.told (omega (arith, c.from.ensures, c.if-seen-from.false)) c.add_counter-found.result _
    c.add_counter-found.ensures.told.told

pub returns-clause-made : goal.returns-clause-made
returns-clause-made g c =
    makes_object c.args.self.now _ c.requires.stands c.requires.active c.load_counter-seen.result _ c.load_counter-seen.ensures.told.told (omega (arith, c.from.ensures, c.if-seen-from.false)) c.add_counter-found.result _
    c.add_counter-found.ensures.told.told (omega (arith, c.from-2.ensures, c.if-found-from.false))

pub returns-then-seen-from-clause-took_none : goal.returns-then-seen-from-clause-took_none
returns-then-seen-from-clause-took_none g c = inl (c.args.p.now.me.0, refl, c.load_counter-seen.ensures.booked)

pub returns-then-seen-from-clause-still : goal.returns-then-seen-from-clause-still
returns-then-seen-from-clause-still g c = went_one _ _ _ _ _ _ _ tt c.load_counter-seen.ensures.booked

pub returns-then-found-from-clause-took_none : goal.returns-then-found-from-clause-took_none
returns-then-found-from-clause-took_none g c = inr (c.load_counter-seen.result, (c.load_counter-seen.new.p.me.0, (c.args.p.now.me.0, refl, c.load_counter-seen.ensures.booked), c.add_counter-found.ensures.booked))

pub returns-then-found-from-clause-still : goal.returns-then-found-from-clause-still
returns-then-found-from-clause-still g c =
    object_still g.L.RowLaw.law c.args.self.now.seat c.add_counter-found.result c.args.p.now.me.0 c.add_counter-found.new.p.me.0
    (c.load_counter-seen.result, (c.load_counter-seen.new.p.me.0, (c.args.p.now.me.0, refl, c.load_counter-seen.ensures.booked), c.add_counter-found.ensures.booked))

pub returns-clause-took : goal.returns-clause-took
returns-clause-took g c = (c.load_counter-seen.result, (c.load_counter-seen.new.p.me.0, (c.args.p.now.me.0, refl, c.load_counter-seen.ensures.booked), c.add_counter-found.ensures.booked))

pub returns-clause-still : goal.returns-clause-still
returns-clause-still g c = object_still g.L.RowLaw.law c.args.self.now.seat c.add_counter-found.result c.args.p.now.me.0 c.add_counter-found.new.p.me.0 (returns-clause-took g c)

pub returns-then-seen-from-clause-saves : goal.returns-then-seen-from-clause-saves
returns-then-seen-from-clause-saves g c = λ still.
    shows_same c.args.self.now.stage c.args.self.now.saves.points _ _ (writes_first c.args.self.now _ c.requires.stands c.requires.active c.load_counter-seen.result _ c.load_counter-seen.ensures.told.told (omega (arith, c.from.ensures, c.if-seen-from.true)))

pub returns-then-found-from-clause-saves : goal.returns-then-found-from-clause-saves
returns-then-found-from-clause-saves g c = λ still.
    shows_same c.args.self.now.stage c.args.self.now.saves.points _ _
    (writes_then c.args.self.now _ c.requires.stands c.requires.active c.load_counter-seen.result _ c.load_counter-seen.ensures.told.told (omega (arith, c.from.ensures, c.if-seen-from.false)) c.add_counter-found.result _
    c.add_counter-found.ensures.told.told)

pub returns-clause-saves : goal.returns-clause-saves
returns-clause-saves g c = λ still.
    shows_same c.args.self.now.stage c.args.self.now.saves.points _ _
    (writes_then c.args.self.now _ c.requires.stands c.requires.active c.load_counter-seen.result _ c.load_counter-seen.ensures.told.told (omega (arith, c.from.ensures, c.if-seen-from.false)) c.add_counter-found.result _
    c.add_counter-found.ensures.told.told)
