use Rattle.std.proofs.Common.{ℕ, sym, subst}
use Rattle.erm_rule.proofs.Courses.{goes_step}
use Rattle.erm_rule.proofs.Telling.{is_held}
use Rattle.erm_cells.specs.Calls.{DidEnter}
use Rattle.erm_cells.proofs.Heads.{has}
use Rattle.erm_entries.specs.Calls.{DidReload}
use Rattle.erm_entries.proofs.Loads.{ready_load, did_load, did_reload}
use Rattle.erm_entries.proofs.Spelled.{entry_again}
use Rattle.erm_entries.proofs.loading.load.Goals as goal
use Rattle.erm_machine.specs.declared.event.Kind.TheVariants.{LoadEntry}
use Rattle.erm_rule.specs.Steps.{Booked}

pub load_entry-word-requires-clause-held : goal.load_entry-word-requires-clause-held
load_entry-word-requires-clause-held g c = is_held c.args.p.now.me.0.view c.args.who _ (has c.args.p.now.me.0.view c.args.who c.requires.active)

pub load_entry-word-requires-clause-ready : goal.load_entry-word-requires-clause-ready
load_entry-word-requires-clause-ready g c = ready_load c.args.p.now.me.0.view c.args.who c.requires.active c.args.oid c.requires.starts

pub returns-clause-spelled : goal.returns-clause-spelled
returns-clause-spelled g c = entry_again c.of.result c.load_entry-word.result c.of.ensures.entry

pub returns-clause-loaded : goal.returns-clause-loaded
returns-clause-loaded g c starts =
    subst (λ (n : ℕ). DidEnter c.args.p.now.me.0.view c.args.who c.args.oid n c.load_entry-word.new.p.me.0.view) (sym c.of.ensures.spelled)
    (did_load c.args.p.now.me.0.view c.args.who c.requires.active c.args.oid c.requires.starts c.requires.object c.load_entry-word.result _ c.load_entry-word.ensures.told.told starts)

pub returns-clause-reloaded : goal.returns-clause-reloaded
returns-clause-reloaded g c cleared =
    subst (λ (n : ℕ). DidReload c.args.p.now.me.0.view c.args.who c.args.oid n c.load_entry-word.new.p.me.0.view) (sym c.of.ensures.spelled)
    (did_reload c.args.p.now.me.0.view c.args.who c.requires.active c.args.oid c.requires.starts c.requires.object c.load_entry-word.result _ c.load_entry-word.ensures.told.told cleared)

pub returns-clause-goes : goal.returns-clause-goes
returns-clause-goes g c = goes_step _ c.args.p.now.me.0 _ _ _ _ c.load_entry-word.ensures.booked

pub returns-clause-booked : goal.returns-clause-booked
returns-clause-booked g c =
    subst (λ (n : ℕ). Booked g.L.RowLaw.law c.args.p.now.me.0 c.args.who (LoadEntry c.args.oid) n c.load_entry-word.new.p.me.0) (sym c.of.ensures.spelled) c.load_entry-word.ensures.booked
