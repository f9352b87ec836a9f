-- Three texts that were added one after another.
use Rattle.std.proofs.Common.{◌≡◌, ℕ, List, ◌++◌, ap, ◌∙◌, append_assoc}
use Rattle.std.specs.Prelude.{Result, Ok, Err, OnOk}

pub joined : {A E : Type 0} (r : Result A E) (old a b d first second third : List ℕ) → first ≡ old ++ a → second ≡ first ++ b → OnOk r (third ≡ second ++ d)
    → OnOk r (third ≡ old ++ (a ++ b ++ d))
joined (Err e) old a b d first second third first_is second_is third_is = tt
joined (Ok x) old a b d first second third first_is second_is third_is =
    third_is ∙ ap (λ (t : List ℕ). t ++ d) (second_is ∙ ap (λ (t : List ℕ). t ++ b) first_is ∙ append_assoc old a b) ∙ append_assoc old (a ++ b) d
