use Rattle.std.proofs.Common.{List, [], map, take, ap, sym, ◌∙◌}
use Rattle.std.proofs.lemmas.List.{take-map}
use Rattle.erm_model.specs.declared.history.VersionWritten.{VersionWritten}
use Rattle.erm_plain.specs.Saves.{lists_of}
use Rattle.erm_plain.proofs.Held.{means_at, means_set}
use Rattle.erm_plain.proofs.savepoints.Savepoints.cut.Goals as goal

pub returns : goal.returns
returns c =
    let now = c.args.self.now in
    let at = means_at lists_of c.self.inside.held.items now c.self.view_is c.args.seat [] c.requires c.index_mut.result.now c.index_mut.ensures.value in
    means_set lists_of c.self.inside.held.items now c.self.view_is c.args.seat [] c.requires c.truncate.new.self _
    (ap (λ vs. map (λ v. v.items) vs) c.truncate.ensures.items ∙ sym (take-map (λ v. v.items) c.args.held c.index_mut.result.now.items) ∙ ap (λ (xs : List (List VersionWritten)). take c.args.held xs) at)
