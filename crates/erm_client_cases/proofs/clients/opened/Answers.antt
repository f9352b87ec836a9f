use Rattle.std.proofs.Common.{List, ℕ, subst}
use Rattle.std.proofs.lemmas.Result.{IfOk-weaker}
use Rattle.erm_model.specs.Rows.{rows_of}
use Rattle.erm_node.specs.Sound.{IsSound}
use Rattle.erm_start.specs.Recovered.{IsFirstObject}
use Rattle.erm_start.proofs.First.{new_unreached}
use Rattle.erm_client_cases.proofs.clients.opened.Goals as goal

pub open-requires-clause-unreached : goal.open-requires-clause-unreached
open-requires-clause-unreached g c oid above =
    let sound = subst (λ (l : List (List ℕ)). IsSound (rows_of l)) c.deref.ensures.value (c.sound.ensures.0 search) in
    let first = subst (λ (l : List (List ℕ)). IsFirstObject (rows_of l) c.first_object.result) c.deref-2.ensures.value c.first_object.ensures in
    new_unreached c.zero_rows_are_not_reached.ensures (rows_of c.in_ok-rows.rows.items) c.first_object.result sound first oid above

pub returns : goal.returns
returns g c = IfOk-weaker c.open.result _ _ (λ t opened. (_, opened)) c.open.ensures
