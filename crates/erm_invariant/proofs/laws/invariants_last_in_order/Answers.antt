use Rattle.std.proofs.lemmas.List.Elements.{All-map}
use Rattle.std.proofs.lemmas.List.Sorted.{All-permutation}
use Rattle.erm_model.specs.Committed.{Committed}
use Rattle.erm_invariant.specs.Invariant.{Keeps}
use Rattle.erm_invariant.proofs.laws.invariants_last_in_order.Goals as goal

pub returns : goal.returns
returns g c invariant commits order opening m holds keep serial runs =
    let Invariant = g.I.Invariant.holds invariant in
    let in_order = All-permutation (λ (d : Committed). Keeps Invariant d.steps) commits order serial.same keep in
    c.invariants_last.ensures invariant opening m _ holds (All-map (Keeps Invariant) (λ (d : Committed). d.steps) order in_order) runs.run
