use Rattle.std.proofs.Common.{Result, Ok, Err, OnErr, List, [], ◌∷◌, ◌++◌, get_or, map, ap, ◌∙◌}
use Rattle.std.proofs.lemmas.List.{map-append}
use Rattle.erm_model.specs.declared.history.VersionWritten.{VersionWritten}
use Rattle.erm_plain.specs.Saves.{lists_of}
use Rattle.erm_plain.proofs.Held.{means_at, means_set, means_still}
use Rattle.erm_plain.proofs.savepoints.Savepoints.save.Goals as goal

on_err : {A E : Type 0} (P : Type 0) (r : Result A E) → P → OnErr r P
on_err P (Ok a) p = tt
on_err P (Err e) p = p

pub returns-in_err-push-clause-err : goal.returns-in_err-push-clause-err
returns-in_err-push-clause-err c =
    on_err _ _ (means_still lists_of c.self.inside.held.items c.args.self.now c.self.view_is c.args.seat [] c.requires c.index_mut.result.now c.push.new.self c.index_mut.ensures.value
    (ap (λ vs. map (λ v. v.items) vs) c.in_err-push.ensures.items))

pub returns-clause-ok : goal.returns-clause-ok
returns-clause-ok c =
    let now = c.args.self.now in
    let at = means_at lists_of c.self.inside.held.items now c.self.view_is c.args.seat [] c.requires c.index_mut.result.now c.index_mut.ensures.value in
    means_set lists_of c.self.inside.held.items now c.self.view_is c.args.seat [] c.requires c.push.new.self _
    (ap (λ vs. map (λ v. v.items) vs) c.in_ok-push.ensures.items ∙ map-append (λ v. v.items) c.index_mut.result.now.items (c.in_ok-copy.copy ∷ [])
    ∙ ap (λ (xs : List (List VersionWritten)). xs ++ c.in_ok-copy.copy.items ∷ []) at
    ∙ ap (λ (claims : List VersionWritten). get_or now c.args.seat [] ++ claims ∷ []) c.in_ok-copy.ensures)
