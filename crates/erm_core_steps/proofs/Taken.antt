-- A step that is taken, from what the core step says of it.
use Rattle.std.proofs.Common.{◌≡◌, ℕ, Some, sym, ap, ◌∙◌}
use Rattle.erm_machine.specs.declared.event.Answer.{Answer}
use Rattle.erm_machine.specs.declared.event.Kind.{Kind}
use Rattle.erm_machine.specs.declared.event.Kind.TheVariants as kind
use Rattle.erm_machine.specs.Core.{Core, spot_of, word_at}
use Rattle.erm_machine.specs.Step.{after_event, core_step, step_to, told}
use Rattle.erm_model.specs.RowTransaction.{Law}
use Rattle.erm_core.specs.Kinds.{event_at}
use Rattle.erm_sound.specs.Kept.{Keeps}
use Rattle.erm_core_steps.specs.Steps.{IsTaken, IsUnpromised}

-- what a step tells and leads to, where it is taken
pub record Stepped (c d : Core) (seat : ℕ) (k : Kind) (a : Answer) : Type 0 where
  pub answer : a ≡ told k (word_at c (spot_of seat k))
  pub after : after_event c seat k ≡ Some d

pub stepped_to : (c d : Core) (seat : ℕ) (k : Kind) (a : Answer) → ◌≡◌ {A = Answer × Core} (a, d) (core_step c (event_at seat k)) → IsTaken c seat k → Stepped c d seat k a
stepped_to c d seat k a step taken =
    let told_is : Answer = told k (word_at c (spot_of seat k)) in
    let both : ◌≡◌ {A = Answer × Core} (a, d) (told_is, taken.0) = step ∙ ap (step_to c told_is) taken.1 in
    record {
      answer = ap (λ (r : Answer × Core). r.0) both;
      after = taken.1 ∙ sym (ap (λ (r : Answer × Core). Some r.1) both);
    }

-- a step that neither draws a range nor decides keeps every law
pub keeps_free : (law : Law) (c : Core) (seat : ℕ) (k : Kind) → IsUnpromised k → Keeps law c seat k
keeps_free law c seat (kind.AddTail size) free = absurd free
keeps_free law c seat (kind.Decide at header) free = absurd free
keeps_free law c seat _ free = record { draws = tt; decides = tt }
