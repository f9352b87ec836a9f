-- What of a state is the opening's stays the opening's after every step.
use Rattle.std.proofs.Common.{◌≡◌, ℕ, Some, refl, sym, ◌∙◌}
use Rattle.erm_machine.specs.declared.event.Counter.TheVariants.{Objects, Cells}
use Rattle.erm_machine.specs.declared.event.Kind.{Kind}
use Rattle.erm_machine.specs.declared.event.Kind.TheVariants as kind
use Rattle.erm_machine.specs.declared.part.Part.{Part}
use Rattle.erm_machine.specs.Core.{Core, Shared}
use Rattle.erm_machine.specs.Sound.{Sound}
use Rattle.erm_machine.specs.Step.{after_event, shared_after}
use Rattle.erm_machine.proofs.OpeningRows.{HasVersion, first_stays, installs_version, rows_stay}
use Rattle.erm_machine.proofs.QuietKinds.{keeps_log}
use Rattle.erm_rule.specs.declared.view.Opening.{Opening}
use Rattle.erm_rule.specs.Rule.{IsOpened}

same_opening : (p : ℕ) (k : Kind) (found : ℕ) (x : Part) (s : Shared) → (shared_after p k found x s).opening ≡ s.opening
same_opening p (kind.AddTail size) found x s = refl
same_opening p k found x s = (keeps_log p k found x s tt).opening

same_run : (p : ℕ) (k : Kind) (found : ℕ) (x : Part) (s : Shared) → (shared_after p k found x s).run ≡ s.run
same_run p (kind.AddCounter Objects) found x s = refl
same_run p (kind.AddCounter Cells) found x s = refl
same_run p k found x s = refl

-- an object that is installed has a version
has_version : (c : Core) (p : ℕ) (k : Kind) (d : Core) → Sound c → after_event c p k ≡ Some d → HasVersion k c.shared
has_version c p (kind.Install oid head) d sound e = installs_version c p oid head d sound e
has_version c p _ d sound e = tt

pub stays_opened : (o : Opening) (c : Core) (p : ℕ) (k : Kind) (found : ℕ) (x : Part) (d : Core) → Sound c → after_event c p k ≡ Some d → IsOpened o c.shared →
    IsOpened o (shared_after p k found x c.shared)
stays_opened o c p k found x d sound e is = record {
  tail = same_opening p k found x c.shared ∙ is.tail;
  run = same_run p k found x c.shared ∙ is.run;
  first = first_stays p k found x c.shared ∙ is.first;
  rows = λ oid known. is.rows oid known ∙ sym (rows_stay p k found x c.shared oid (has_version c p k d sound e));
}
