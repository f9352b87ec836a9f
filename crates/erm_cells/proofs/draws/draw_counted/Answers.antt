use Rattle.std.proofs.Common.{sym, ◌∙◌, inl, inr, refl}
use Rattle.erm_rule.proofs.Telling.{is_held}
use Rattle.erm_cells.proofs.Heads.{has}
use Rattle.erm_cells.proofs.Drawing.{ready_load, refused_first, has_pool, ready_add, refused_then, did_count}
use Rattle.erm_cells.proofs.draws.draw_counted.Goals as goal

pub load_counter-seen-requires-clause-held : goal.load_counter-seen-requires-clause-held
load_counter-seen-requires-clause-held g c = is_held c.args.p.now.me.0.view c.args.who _ (has c.args.p.now.me.0.view c.args.who c.requires.active)

pub load_counter-seen-requires-clause-ready : goal.load_counter-seen-requires-clause-ready
load_counter-seen-requires-clause-ready g c = ready_load c.args.p.now.me.0.view c.args.who c.requires.active c.requires.draws c.requires.bare

pub returns-then-not-is_cell-clause-refused : goal.returns-then-not-is_cell-clause-refused
returns-then-not-is_cell-clause-refused g c = refused_first c.args.p.now.me.0.view c.args.who c.requires.active c.requires.draws c.requires.bare c.load_counter-seen.result _ c.load_counter-seen.ensures.told.told (sym c.is_cell.ensures ∙ c.if-not-is_cell.true)

pub add_counter-found-requires-clause-held : goal.add_counter-found-requires-clause-held
add_counter-found-requires-clause-held g c = is_held _ c.args.who _ (has_pool c.args.p.now.me.0.view c.args.who c.requires.active c.requires.draws c.requires.bare c.load_counter-seen.result _ c.load_counter-seen.ensures.told.told (sym c.is_cell.ensures ∙ c.if-not-is_cell.false))

pub add_counter-found-requires-clause-ready : goal.add_counter-found-requires-clause-ready
add_counter-found-requires-clause-ready g c = ready_add c.args.p.now.me.0.view c.args.who c.requires.active c.requires.draws c.requires.bare c.load_counter-seen.result _ c.load_counter-seen.ensures.told.told (sym c.is_cell.ensures ∙ c.if-not-is_cell.false)

pub returns-then-not-is_cell-2-clause-refused : goal.returns-then-not-is_cell-2-clause-refused
returns-then-not-is_cell-2-clause-refused g c = refused_then c.args.p.now.me.0.view c.args.who c.requires.active c.requires.draws c.requires.bare c.load_counter-seen.result _ c.load_counter-seen.ensures.told.told (sym c.is_cell.ensures ∙ c.if-not-is_cell.false) c.add_counter-found.result _ c.add_counter-found.ensures.told.told (sym c.is_cell-2.ensures ∙ c.if-not-is_cell-2.true)

pub returns-clause-counted : goal.returns-clause-counted
returns-clause-counted g c = did_count c.args.p.now.me.0.view c.args.who c.requires.active c.requires.draws c.requires.bare c.load_counter-seen.result _ c.load_counter-seen.ensures.told.told (sym c.is_cell.ensures ∙ c.if-not-is_cell.false) c.add_counter-found.result _ c.add_counter-found.ensures.told.told (sym c.is_cell-2.ensures ∙ c.if-not-is_cell-2.false)

pub returns-then-not-is_cell-clause-took_none : goal.returns-then-not-is_cell-clause-took_none
returns-then-not-is_cell-clause-took_none g c = inl (c.args.p.now.me.0, refl, c.load_counter-seen.ensures.booked)

pub returns-then-not-is_cell-2-clause-took_none : goal.returns-then-not-is_cell-2-clause-took_none
returns-then-not-is_cell-2-clause-took_none g c = inr (c.load_counter-seen.result, (c.load_counter-seen.new.p.me.0, (c.args.p.now.me.0, refl, c.load_counter-seen.ensures.booked), c.add_counter-found.ensures.booked))

pub returns-clause-took : goal.returns-clause-took
returns-clause-took g c = (c.load_counter-seen.result, (c.load_counter-seen.new.p.me.0, (c.args.p.now.me.0, refl, c.load_counter-seen.ensures.booked), c.add_counter-found.ensures.booked))
