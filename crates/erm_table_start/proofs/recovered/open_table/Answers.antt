use Rattle.std.proofs.Common.{ℕ, List, length, ap, ◌∙◌, subst}
use Rattle.erm_model.specs.Rows.{rows_of}
use Rattle.erm_rule.specs.declared.view.Opening.{Opening}
use Rattle.erm_start.specs.Recovered.{IsFirstObject}
use Rattle.erm_start.proofs.First.{new_unreached}
use Rattle.erm_table_start.proofs.Opened.{log_in, stands_in, world_in}
use Rattle.erm_table_start.proofs.recovered.open_table.Goals as goal

pub first_object-first-requires : goal.first_object-first-requires
first_object-first-requires c = ap (λ (l : List (List ℕ)). length l) c.deref.ensures.value ∙ c.requires.rows

pub open-requires-clause-rows : goal.open-requires-clause-rows
open-requires-clause-rows c = c.args.rows.ok.0 ∙ c.requires.rows

pub open-requires-clause-unreached : goal.open-requires-clause-unreached
open-requires-clause-unreached c oid above =
    let first = subst (λ (l : List (List ℕ)). IsFirstObject (rows_of l) c.first_object-first.result) c.deref.ensures.value c.first_object-first.ensures in
    new_unreached c.zero_rows_are_not_reached.ensures (rows_of c.args.rows.items) c.first_object-first.result c.requires.meets first oid above

pub returns-clause-stands : goal.returns-clause-stands
returns-clause-stands c = stands_in c.open.result c.standing_worlds_have_laws.ensures c.open.ensures.stands

pub returns-clause-opened : goal.returns-clause-opened
returns-clause-opened c =
    let o : Opening = record { sessions = c.args.sessions; tail = c.args.tail; run = c.args.run; first = c.first_object-first.result; rows = c.args.rows } in
    let first = subst (λ (l : List (List ℕ)). IsFirstObject (rows_of l) c.first_object-first.result) c.deref.ensures.value c.first_object-first.ensures in
    world_in o c.requires.rows c.open.result first (stands_in c.open.result c.standing_worlds_have_laws.ensures c.open.ensures.stands) c.open.ensures.opened c.open.ensures.sessions

pub returns-clause-log : goal.returns-clause-log
returns-clause-log c =
    let o : Opening = record { sessions = c.args.sessions; tail = c.args.tail; run = c.args.run; first = c.first_object-first.result; rows = c.args.rows } in
    log_in o c.requires.rows c.open.result c.open.ensures.opened c.open.ensures.sessions
