use Rattle.std.proofs.Common.{sym, ◌∙◌, refl}
use Rattle.erm_rule.proofs.Telling.{is_held}
use Rattle.erm_cells.proofs.Heads.{has, ready_entry, did_enter, has_walks, object_in_hand, cell_in_hand, ready_walk, did_walk}
use Rattle.erm_cells.proofs.calls.find_head.Goals as goal
use Rattle.erm_rule.specs.Hands.{in_hand}
use Rattle.erm_rule.specs.Views.{part_of}

pub load_entry-entry-requires-clause-held : goal.load_entry-entry-requires-clause-held
load_entry-entry-requires-clause-held g c = is_held c.args.p.now.me.0.view c.args.who _ (has c.args.p.now.me.0.view c.args.who c.requires.active)

pub load_entry-entry-requires-clause-ready : goal.load_entry-entry-requires-clause-ready
load_entry-entry-requires-clause-ready g c = ready_entry c.args.p.now.me.0.view c.args.who c.requires.active c.args.oid c.requires.starts

pub returns-then-owner_of-ne0-clause-found : goal.returns-then-owner_of-ne0-clause-found
returns-then-owner_of-ne0-clause-found g c = ((λ e. c.if-owner_of-ne0.true (c.owner_of.ensures ∙ e)), did_enter c.args.p.now.me.0.view c.args.who c.requires.active c.args.oid c.load_entry-entry.result _ c.requires.object c.requires.starts c.load_entry-entry.ensures.told.told)

pub load_walked-stamp-requires-clause-held : goal.load_walked-stamp-requires-clause-held
load_walked-stamp-requires-clause-held g c = is_held _ c.args.who _ (has_walks c.args.p.now.me.0.view c.args.who c.requires.active c.args.oid c.load_entry-entry.result _ (did_enter c.args.p.now.me.0.view c.args.who c.requires.active c.args.oid c.load_entry-entry.result _ c.requires.object c.requires.starts c.load_entry-entry.ensures.told.told) (sym c.owner_of.ensures ∙ c.if-owner_of-ne0.false))

pub load_walked-stamp-requires-clause-known : goal.load_walked-stamp-requires-clause-known
load_walked-stamp-requires-clause-known g c = (did_enter c.args.p.now.me.0.view c.args.who c.requires.active c.args.oid c.load_entry-entry.result _ c.requires.object c.requires.starts c.load_entry-entry.ensures.told.told).known

pub load_walked-stamp-requires-clause-object : goal.load_walked-stamp-requires-clause-object
load_walked-stamp-requires-clause-object g c = object_in_hand c.args.p.now.me.0.view c.args.who c.requires.active c.args.oid c.load_entry-entry.result _ (did_enter c.args.p.now.me.0.view c.args.who c.requires.active c.args.oid c.load_entry-entry.result _ c.requires.object c.requires.starts c.load_entry-entry.ensures.told.told) (sym c.owner_of.ensures ∙ c.if-owner_of-ne0.false) c.requires.object

pub load_walked-stamp-requires-clause-cell : goal.load_walked-stamp-requires-clause-cell
load_walked-stamp-requires-clause-cell g c = cell_in_hand c.args.p.now.me.0.view c.args.who c.requires.active c.args.oid c.load_entry-entry.result _ (did_enter c.args.p.now.me.0.view c.args.who c.requires.active c.args.oid c.load_entry-entry.result _ c.requires.object c.requires.starts c.load_entry-entry.ensures.told.told) (sym c.owner_of.ensures ∙ c.if-owner_of-ne0.false) c.head_of.result c.head_of.ensures

pub load_walked-stamp-requires-clause-ready : goal.load_walked-stamp-requires-clause-ready
load_walked-stamp-requires-clause-ready g c = ready_walk c.args.p.now.me.0.view c.args.who c.requires.active c.args.oid c.load_entry-entry.result _ (did_enter c.args.p.now.me.0.view c.args.who c.requires.active c.args.oid c.load_entry-entry.result _ c.requires.object c.requires.starts c.load_entry-entry.ensures.told.told) (sym c.owner_of.ensures ∙ c.if-owner_of-ne0.false)

pub returns-clause-found : goal.returns-clause-found
returns-clause-found g c = did_walk c.args.p.now.me.0.view c.args.who c.requires.active c.args.oid c.load_entry-entry.result _ (did_enter c.args.p.now.me.0.view c.args.who c.requires.active c.args.oid c.load_entry-entry.result _ c.requires.object c.requires.starts c.load_entry-entry.ensures.told.told) (sym c.owner_of.ensures ∙ c.if-owner_of-ne0.false) c.load_walked-stamp.result _ c.requires.object c.load_walked-stamp.ensures.told.told

pub returns-then-owner_of-ne0-clause-took : goal.returns-then-owner_of-ne0-clause-took
returns-then-owner_of-ne0-clause-took g c = (c.args.p.now.me.0, refl, c.load_entry-entry.ensures.booked)

pub returns-clause-took : goal.returns-clause-took
returns-clause-took g c = (
  in_hand (part_of c.load_entry-entry.new.p.me.0.view c.args.who).task,
  (c.load_entry-entry.new.p.me.0, (c.args.p.now.me.0, refl, c.load_entry-entry.ensures.booked), c.load_walked-stamp.ensures.booked),
)
