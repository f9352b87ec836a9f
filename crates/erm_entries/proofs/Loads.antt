-- Loads of an entry: where a call may start, and once its owner was found clear.
use Rattle.std.proofs.Common.{◌≡◌, ℕ, ◌<◌, Bool, true, Some, None, refl, sym, ap, ◌∙◌}
use Rattle.std.specs.Prelude.{if◌then◌else◌}
use Rattle.std.proofs.lemmas.Bool.{eq-eqb}
use Rattle.erm_machine.specs.declared.event.Kind.TheVariants as kind
use Rattle.erm_machine.specs.declared.limits.TheConstants.{OBJECT_LIMIT}
use Rattle.erm_machine.specs.declared.part.Part.{Part}
use Rattle.erm_machine.specs.declared.task.Task.{Task}
use Rattle.erm_machine.specs.declared.task.Task.TheVariants as task
use Rattle.erm_machine.specs.Core.{Object, Shared}
use Rattle.erm_machine.specs.Reading.{head_version, entered, load_entry}
use Rattle.erm_machine.specs.Seat.{with_task, is_active, is_sealed}
use Rattle.erm_machine.specs.Settling.{load_read_entry}
use Rattle.erm_machine.specs.Step.{part_after}
use Rattle.erm_rule.specs.declared.view.View.{View}
use Rattle.erm_rule.specs.Steps.{Ready, Told}
use Rattle.erm_rule.specs.Views.{part_of, with_part}
use Rattle.erm_cells.specs.Calls.{starts_anew, DidEnter}
use Rattle.erm_cells.proofs.After.{after_known, entry_still}
use Rattle.erm_cells.proofs.Heads.{has}
use Rattle.erm_cells.proofs.Views.{active_unsealed, when_true, both, other_branch, ready_at, told_is}
use Rattle.erm_entries.specs.Calls.{MayLoad, DidReload}

-- what a load leads to
abbrev pub loaded : ℕ → ℕ → ℕ → Object → Task → Task
loaded who oid entry o (task.Cleared cleared) = task.Walks (head_version oid entry o) None
loaded who oid entry o t = entered who oid entry o

-- where a call may start, an entry may be loaded
pub may_load : (oid : ℕ) (t : Task) → starts_anew t ≡ true → MayLoad oid t
may_load oid (task.Cleared cleared) starts = absurd (cc)
may_load oid _ starts = starts

load_guard : (who oid found : ℕ) (o : Object) (x : Part) (t : Task) → MayLoad oid t → is_active x.place ≡ true → load_entry who oid found o x t ≡ Some (with_task (loaded who oid found o t) x)
load_guard who oid found o x (task.Cleared cleared) same active =
    when_true _ _ active
    ∙ ap (λ (b : Bool). Some (with_task (if b then task.Walks (head_version oid found o) None else entered who oid found o) x)) (eq-eqb oid cleared (sym same))
load_guard who oid found o x task.Safe starts active = absurd (cc)
load_guard who oid found o x (task.SafeWalks version) starts active = absurd (cc)
load_guard who oid found o x (task.SafePassed version) starts active = absurd (cc)
load_guard who oid found o x (task.SafeFound version) starts active = absurd (cc)
load_guard who oid found o x _ starts active = when_true _ _ (both _ _ active starts)

anew : (who oid entry : ℕ) (o : Object) (t : Task) → starts_anew t ≡ true → loaded who oid entry o t ≡ entered who oid entry o
anew who oid entry o (task.Cleared cleared) starts = absurd (cc)
anew who oid entry o _ starts = refl

module _ (v : View) (who : ℕ) (active : is_active (part_of v who).place ≡ true) (oid : ℕ) (may : MayLoad oid (part_of v who).task) where
  abbrev x : Part
  x = part_of v who

  after_load : (entry : ℕ) (s : Shared) → part_after who (kind.LoadEntry oid) entry s x ≡ Some (with_task (loaded who oid entry (s.objects oid) x.task) x)
  after_load entry s =
      other_branch (is_sealed x.place) (load_read_entry who oid entry x x.task) (load_entry who oid entry (s.objects oid) x x.task) _ (active_unsealed x.place active)
      (load_guard who oid entry (s.objects oid) x x.task may active)

  pub ready_load : Ready v who (kind.LoadEntry oid)
  ready_load =
      ready_at v who (kind.LoadEntry oid) x (has v who active) (λ c. with_task (loaded who oid (c.shared.objects oid).entry (c.shared.objects oid) x.task) x)
      (λ c sound. after_load (c.shared.objects oid).entry c.shared)

  module _ (known : oid < OBJECT_LIMIT) (entry : ℕ) (w : View) (told : Told v who (kind.LoadEntry oid) entry w) where
    abbrev o : Object
    o = told.before.shared.objects oid

    loaded_is : w ≡ with_part who (with_task (loaded who oid entry o x.task) x) v
    loaded_is = told_is v who (kind.LoadEntry oid) entry w x (with_task (loaded who oid entry o x.task) x) (has v who active) told (after_load entry told.before.shared)

    pub did_load : starts_anew x.task ≡ true → DidEnter v who oid entry w
    did_load starts = record {
      object = o;
      view_is = loaded_is ∙ ap (λ (t : Task). with_part who (with_task t x) v) (anew who oid entry o x.task starts);
      known = after_known v who (kind.LoadEntry oid) entry w told;
      met = entry_still v who oid entry w told known;
    }

    pub did_reload : x.task ≡ task.Cleared oid → DidReload v who oid entry w
    did_reload cleared = record {
      version = head_version oid entry o;
      oid_is = refl;
      cell_is = refl;
      view_is = loaded_is ∙ ap (λ (t : Task). with_part who (with_task (loaded who oid entry o t) x) v) cleared;
      known = after_known v who (kind.LoadEntry oid) entry w told;
      met = entry_still v who oid entry w told known;
    }
