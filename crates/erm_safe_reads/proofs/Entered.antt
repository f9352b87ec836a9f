-- The load of an entry by a safe snapshot.
use Rattle.std.proofs.Common.{◌≡◌, ℕ, true, Some, refl, sym}
use Rattle.erm_machine.specs.declared.event.Kind.TheVariants as kind
use Rattle.erm_machine.specs.declared.part.Part.{Part}
use Rattle.erm_machine.specs.declared.task.Task.{Task}
use Rattle.erm_machine.specs.declared.task.Task.TheVariants as task
use Rattle.erm_machine.specs.Core.{Object, Shared}
use Rattle.erm_machine.specs.Reading.{head_version, load_entry}
use Rattle.erm_machine.specs.Seat.{is_active, is_safe, is_sealed, with_task}
use Rattle.erm_machine.specs.Settling.{load_read_entry}
use Rattle.erm_machine.specs.Step.{part_after}
use Rattle.erm_machine.specs.Words.{head_of}
use Rattle.erm_rule.specs.declared.view.View.{View}
use Rattle.erm_rule.specs.Steps.{Ready, Told}
use Rattle.erm_rule.specs.Views.{part_of}
use Rattle.erm_cells.proofs.After.{after_known}
use Rattle.erm_cells.proofs.Heads.{has}
use Rattle.erm_cells.proofs.Views.{active_unsealed, other_branch, ready_at, told_is, when_true}
use Rattle.erm_safe_reads.specs.Calls.{DidEnterSafe}

safe_guard : (seat oid found : ℕ) (o : Object) (x : Part) (t : Task) → is_safe t ≡ true → is_active x.place ≡ true
    → load_entry seat oid found o x t ≡ Some (with_task (task.SafeWalks (head_version oid found o)) x)
safe_guard seat oid found o x task.Safe safe active = when_true _ _ active
safe_guard seat oid found o x (task.SafeWalks version) safe active = when_true _ _ active
safe_guard seat oid found o x (task.SafePassed version) safe active = when_true _ _ active
safe_guard seat oid found o x (task.SafeFound version) safe active = when_true _ _ active
safe_guard seat oid found o x _ safe active = absurd (cc)

module _ (v : View) (who oid : ℕ) (active : is_active (part_of v who).place ≡ true) (safe : is_safe (part_of v who).task ≡ true) where
  abbrev x : Part
  x = part_of v who

  abbrev entered : ℕ → Object → Part
  entered entry o = with_task (task.SafeWalks (head_version oid entry o)) x

  after_entry : (entry : ℕ) (s : Shared) → part_after who (kind.LoadEntry oid) entry s x ≡ Some (entered entry (s.objects oid))
  after_entry entry s =
      other_branch (is_sealed x.place) (load_read_entry who oid entry x x.task) (load_entry who oid entry (s.objects oid) x x.task) _ (active_unsealed x.place active)
      (safe_guard who oid entry (s.objects oid) x x.task safe active)

  pub enter_ready : Ready v who (kind.LoadEntry oid)
  enter_ready =
      ready_at v who (kind.LoadEntry oid) x (has v who active) (λ c. entered (c.shared.objects oid).entry (c.shared.objects oid))
      (λ c sound. after_entry (c.shared.objects oid).entry c.shared)

  pub did_enter : (entry cell : ℕ) (w : View) → cell ≡ head_of entry → Told v who (kind.LoadEntry oid) entry w → DidEnterSafe v who oid cell w
  did_enter entry cell w is told = record {
    version = head_version oid entry (told.before.shared.objects oid);
    oid_is = refl;
    cell_is = sym is;
    view_is = told_is v who (kind.LoadEntry oid) entry w x (entered entry (told.before.shared.objects oid)) (has v who active) told (after_entry entry told.before.shared);
    known = after_known v who (kind.LoadEntry oid) entry w told;
  }
