use Rattle.std.proofs.Common.{ℕ, List, length, refl, ap, ◌∙◌, subst}
use Rattle.erm_model.specs.Rows.{rows_of}
use Rattle.erm_start.specs.Recovered.{IsFirstObject}
use Rattle.erm_run_at_once.proofs.Ends.{opened_left}
use Rattle.erm_run_at_once.proofs.run.run_opened_log.Goals as goal

pub first_object-first-requires : goal.first_object-first-requires
first_object-first-requires g c = ap (λ (l : List (List ℕ)). length l) c.deref.ensures.value ∙ c.requires.opened.2.many

pub make_room-requires-clause-seats : goal.make_room-requires-clause-seats
make_room-requires-clause-seats g c = λ l m. (c.requires.script.each l m).session

pub run_in_room-requires-clause-may : goal.run_in_room-requires-clause-may
run_in_room-requires-clause-may g c κs within =
    let o = c.requires.opened in
    (o.0, o.1, c.args.names.now, record { opens = o.2; is_script = c.requires.script; has_room = c.in-Ok.ensures })

pub returns-in-Err-clause-ended : goal.returns-in-Err-clause-ended
returns-in-Err-clause-ended g c =
    let first = subst (λ (l : List (List ℕ)). IsFirstObject (rows_of l) c.first_object-first.result) c.deref.ensures.value c.first_object-first.ensures in
    λ before state was. opened_left c.ends_have_laws.ensures.left before (g.D.Disk.told c.args.disk) state c.args.opened was c.first_object-first.result first c.args.names.now c.args.script.now (g.D.Disk.told c.args.disk) refl

pub returns-in-Err-clause-untold : goal.returns-in-Err-clause-untold
returns-in-Err-clause-untold g c =
    let first = subst (λ (l : List (List ℕ)). IsFirstObject (rows_of l) c.first_object-first.result) c.deref.ensures.value c.first_object-first.ensures in
    λ before state was. opened_left c.ends_have_laws.ensures.left before (g.D.Disk.told c.args.disk) state c.args.opened was c.first_object-first.result first c.args.names.now c.args.script.now (g.D.Disk.told c.args.disk) refl

pub run_in_room-requires-clause-first : goal.run_in_room-requires-clause-first
run_in_room-requires-clause-first g c κs within = subst (λ (l : List (List ℕ)). IsFirstObject (rows_of l) c.first_object-first.result) c.deref.ensures.value c.first_object-first.ensures
