-- A commit installs a claim: the last step is the store of the entry.
use Rattle.std.proofs.Common.{◌≡◌, ℕ, ◌^◌, ◌<◌, Bool, true, false, length, Option, Some, None, refl, sym, ap, ◌∙◌, subst, arith}
use Rattle.std.specs.Prelude.{if◌then◌else◌}
use Rattle.std.proofs.lemmas.Bool.{eq-eqb, lt-ltb, and_parts}
use Rattle.erm_machine.specs.declared.event.Kind.TheVariants as kind
use Rattle.erm_machine.specs.declared.limits.TheConstants.{OBJECT_LIMIT}
use Rattle.erm_machine.specs.declared.part.Part.{Part}
use Rattle.erm_machine.specs.declared.place.Place.{Place}
use Rattle.erm_machine.specs.declared.place.Place.TheVariants.{Decided}
use Rattle.erm_machine.specs.declared.task.Task.{Task}
use Rattle.erm_machine.specs.declared.version.Version.{Version}
use Rattle.erm_machine.specs.Core.{Object, newest, version_at, claim_at, own_words}
use Rattle.erm_machine.specs.Seat.{is_decided, is_vacant, end_of}
use Rattle.erm_machine.specs.Settling.{adds_version, install_new, release_old, install}
use Rattle.erm_machine.specs.Step.{added, installed}
use Rattle.erm_machine.proofs.Objects.{at_push-new, length_installed}
use Rattle.erm_rule.specs.declared.view.View.{View}
use Rattle.erm_rule.specs.Steps.{Ready, Told}
use Rattle.erm_rule.specs.Views.{part_in, part_of}
use Rattle.erm_rule.proofs.Telling.{held_part}
use Rattle.erm_cells.specs.Hands.{ended_by, cleared_by}
use Rattle.erm_cells.proofs.Views.{when_true, both, first_branch, ready_at, told_is}
use Rattle.erm_entries.specs.Ends.{newest_version, IsNextInstall, installed_part, DidInstall}
use Rattle.erm_entries.proofs.Stores.{now_known, object_after, free_head}

-- a decided seat isn't vacant
decided_taken : (pl : Place) → is_decided pl ≡ true → is_vacant pl ≡ false
decided_taken (Decided tail stamp) e = refl
decided_taken _ e = absurd (cc)

abbrev end_of_install : Part → ℕ × ℕ × ℕ × ℕ
end_of_install x = (length x.current.reads, ended_by x.task, 8, cleared_by x.task)

after_install : (x : Part) (oid head : ℕ) → IsNextInstall x oid head → install oid head x x.task ≡ Some (installed_part x)
after_install x oid head next =
    ap (λ (t : Task). install oid head x t) next.task_is
    ∙ first_branch (adds_version x) (install_new oid head x (end_of_install x)) (release_old oid head x (end_of_install x)) (Some (installed_part x)) next.commits
    (when_true _ (installed_part x)
    (both _ _ (both _ _ (both _ _ (both _ _ (both _ _ next.commits (eq-eqb (length x.current.reads) (length x.current.reads) refl)) (lt-ltb _ _ next.within)) refl) (eq-eqb oid _ (sym next.oid_is))) next.own))

module _ (v : View) (who oid head : ℕ) (next : IsNextInstall (part_of v who) oid head) where
  abbrev x : Part
  x = part_of v who

  pub has_install : part_in v who ≡ Some x
  has_install = held_part v who (decided_taken x.place (and_parts (is_decided x.place) _ next.commits).0)

  pub ready_install : Ready v who (kind.Install oid head)
  ready_install = ready_at v who (kind.Install oid head) x has_install (λ c. installed_part x) (λ c sound. after_install x oid head next)

  module _ (known : oid < OBJECT_LIMIT) (found : ℕ) (w : View) (told : Told v who (kind.Install oid head) found w) where
    abbrev new : Version
    new = record { cell = head; words = own_words (claim_at x.current (ended_by x.task)).own }

    added_is : added head x (end_of x.task) ≡ Some new
    added_is =
        ap (λ (t : Task). added head x (end_of t)) next.task_is
        ∙ ap (λ (b : Bool). if b then Some new else None) next.commits

    object_is : told.after.shared.objects oid ≡ installed head (Some new) (told.before.shared.objects oid)
    object_is = object_after v who x has_install oid head known found w told ∙ ap (λ (m : Option Version). installed head m (told.before.shared.objects oid)) added_is

    newest_new : (o : Object) → version_at (installed head (Some new) o) (newest (installed head (Some new) o)) ≡ new
    newest_new o = at_push-new head new o (newest (installed head (Some new) o)) (let n = length_installed head new o in omega (arith, n))

    newest_is : newest_version told.after oid ≡ new
    newest_is = ap (λ (o : Object). version_at o (newest o)) object_is ∙ newest_new (told.before.shared.objects oid)

    small : head < 2 ^ 24
    small =
        let fits = told.sound_after.common.claims.objects oid known in
        let some = fits.some in
        subst (λ (z : Version). z.cell < 2 ^ 24) newest_is (fits.cells (newest (told.after.shared.objects oid)) (omega (arith, some)))

    pub did_install : DidInstall v who oid head w
    did_install = record {
      view_is = told_is v who (kind.Install oid head) found w x (installed_part x) has_install told (after_install x oid head next);
      known = now_known v who x has_install oid head known found w told;
      is_head = free_head v who x has_install oid head known found w told small;
      words = ap (λ (z : Version). z.words) newest_is;
    }
