-- Finding a head: the entry is loaded, and then the stamp of the version in hand.
use Rattle.std.proofs.Common.{◌≡◌, ℕ, ◌<◌, Bool, true, false, Some, None, refl, sym, ap, ◌∙◌, subst, eqb}
use Rattle.std.specs.Prelude.{if◌then◌else◌}
use Rattle.std.proofs.lemmas.Bool.{eq-eqb, lt-ltb}
use Rattle.erm_machine.specs.declared.event.Kind.TheVariants as kind
use Rattle.erm_machine.specs.declared.limits.TheConstants.{OBJECT_LIMIT}
use Rattle.erm_machine.specs.declared.part.Part.{Part}
use Rattle.erm_machine.specs.declared.task.Task.{Task}
use Rattle.erm_machine.specs.declared.task.Task.TheVariants as task
use Rattle.erm_machine.specs.declared.version.CellWord.TheVariants as word
use Rattle.erm_machine.specs.declared.version.VersionAt.{VersionAt}
use Rattle.erm_machine.specs.Core.{Core, Object, Shared, spot_of, version_word, word_at}
use Rattle.erm_machine.specs.Reading.{head_version, entered, load_entry, load_walked_stamp}
use Rattle.erm_machine.specs.Seat.{with_task, is_active, is_sealed, same_version}
use Rattle.erm_machine.specs.Settling.{load_read_entry}
use Rattle.erm_machine.specs.Step.{part_after}
use Rattle.erm_machine.specs.Words.{head_of, owner_of}
use Rattle.erm_rule.specs.declared.view.View.{View}
use Rattle.erm_rule.specs.Hands.{in_hand, walk_kind}
use Rattle.erm_rule.specs.Steps.{Ready, Told}
use Rattle.erm_rule.specs.Views.{part_in, part_of, with_part}
use Rattle.erm_rule.proofs.Telling.{held_part, changed_here, part_of-changed}
use Rattle.erm_cells.specs.Calls.{starts_anew, walked, DidEnter, DidWalk}
use Rattle.erm_cells.proofs.After.{after_known, after_is, entry_still}
use Rattle.erm_cells.proofs.Views.{active_taken, active_unsealed, when_true, both, first_branch, other_branch, ready_at, told_is, told_next}

entry_guard : (seat oid found : ℕ) (o : Object) (x : Part) (t : Task) → starts_anew t ≡ true → is_active x.place ≡ true → load_entry seat oid found o x t ≡ Some (with_task (entered seat oid found o) x)
entry_guard seat oid found o x (task.Cleared cleared) starts active = absurd (cc)
entry_guard seat oid found o x task.Safe starts active = absurd (cc)
entry_guard seat oid found o x (task.SafeWalks version) starts active = absurd (cc)
entry_guard seat oid found o x (task.SafePassed version) starts active = absurd (cc)
entry_guard seat oid found o x (task.SafeFound version) starts active = absurd (cc)
entry_guard seat oid found o x _ starts active = when_true _ _ (both _ _ active starts)

pub same_self : (v : VersionAt) → same_version v v ≡ true
same_self v = both _ _ (both _ _ (eq-eqb v.oid v.oid refl) (eq-eqb v.place v.place refl)) (eq-eqb v.cell v.cell refl)

-- an entry that nobody owns
free_entered : (seat oid entry : ℕ) (o : Object) → owner_of entry ≡ 0 → entered seat oid entry o ≡ task.Walks (head_version oid entry o) (Some entry)
free_entered seat oid entry o none = by_test (eqb (owner_of entry) 0) (eq-eqb _ _ none)
  where
    by_test : (b : Bool) → b ≡ true → (if b then task.Walks (head_version oid entry o) (Some entry) else (if eqb (owner_of entry) seat then task.Claimed (head_version oid entry o) else task.Owned oid (owner_of entry)))
        ≡ task.Walks (head_version oid entry o) (Some entry)
    by_test true e = refl
    by_test false e = absurd (cc)

module _ (v : View) (who : ℕ) (active : is_active (part_of v who).place ≡ true) where
  abbrev x : Part
  x = part_of v who

  pub has : part_in v who ≡ Some x
  has = held_part v who (active_taken x.place active)

  -- the entry
  after_entry : (oid found : ℕ) (s : Shared) → starts_anew x.task ≡ true → part_after who (kind.LoadEntry oid) found s x ≡ Some (with_task (entered who oid found (s.objects oid)) x)
  after_entry oid found s starts =
      other_branch (is_sealed x.place) (load_read_entry who oid found x x.task) (load_entry who oid found (s.objects oid) x x.task) _ (active_unsealed x.place active)
      (entry_guard who oid found (s.objects oid) x x.task starts active)

  pub ready_entry : (oid : ℕ) → starts_anew x.task ≡ true → Ready v who (kind.LoadEntry oid)
  ready_entry oid starts =
      ready_at v who (kind.LoadEntry oid) x has (λ c. with_task (entered who oid (c.shared.objects oid).entry (c.shared.objects oid)) x)
      (λ c sound. after_entry oid (c.shared.objects oid).entry c.shared starts)

  pub did_enter : (oid entry : ℕ) (w : View) → oid < OBJECT_LIMIT → starts_anew x.task ≡ true → Told v who (kind.LoadEntry oid) entry w → DidEnter v who oid entry w
  did_enter oid entry w below starts told = record {
    object = told.before.shared.objects oid;
    view_is = told_is v who (kind.LoadEntry oid) entry w x (with_task (entered who oid entry (told.before.shared.objects oid)) x) has told (after_entry oid entry told.before.shared starts);
    known = after_known v who (kind.LoadEntry oid) entry w told;
    met = entry_still v who oid entry w told below;
  }

  -- the head in hand
  module _ (oid entry : ℕ) (u : View) (enter : DidEnter v who oid entry u) (free : owner_of entry ≡ 0) where
    abbrev head : VersionAt
    head = head_version oid entry enter.object

    abbrev walks : Part
    walks = with_task (task.Walks head (Some entry)) x

    here : u ≡ with_part who walks v
    here = enter.view_is ∙ ap (λ (t : Task). with_part who (with_task t x) v) (free_entered who oid entry enter.object free)

    pub has_walks : part_in u who ≡ Some walks
    has_walks = changed_here v who u walks x has here

    part_is : part_of u who ≡ walks
    part_is = part_of-changed v who u walks x has here

    pub object_in_hand : oid < OBJECT_LIMIT → (in_hand (part_of u who).task).oid < OBJECT_LIMIT
    object_in_hand known = subst (λ (z : Part). (in_hand z.task).oid < OBJECT_LIMIT) (sym part_is) known

    pub cell_in_hand : (cell : ℕ) → cell ≡ head_of entry → (in_hand (part_of u who).task).cell ≡ cell
    cell_in_hand cell is = ap (λ (z : Part). (in_hand z.task).cell) part_is ∙ sym is

    after_walk : (found : ℕ) (s : Shared) → part_after who (kind.LoadCell head word.Stamp) found s walks ≡ Some (with_task (walked head entry found x) x)
    after_walk found s =
        first_branch (is_active x.place) (load_walked_stamp found head walks walks.task) None _ active
        (when_true (same_version head head) (with_task (walked head entry found x) x) (same_self head))

    pub ready_walk : Ready u who (walk_kind (part_of u who) word.Stamp)
    ready_walk =
        subst (λ (z : Part). Ready u who (walk_kind z word.Stamp)) (sym part_is)
        (ready_at u who (kind.LoadCell head word.Stamp) walks has_walks (λ c. with_task (walked head entry (word_at c (spot_of who (kind.LoadCell head word.Stamp))) x) x)
        (λ c sound. after_walk (word_at c (spot_of who (kind.LoadCell head word.Stamp))) c.shared))

    plain_entry : oid < OBJECT_LIMIT → entry ≡ head_of entry
    plain_entry below = subst (λ n. owner_of n ≡ 0 → n ≡ head_of n) enter.met (enter.known.sound.common.claims.objects oid below).plain free

    pub did_walk : (stamp : ℕ) (w : View) → oid < OBJECT_LIMIT → Told u who (walk_kind (part_of u who) word.Stamp) stamp w → DidWalk v who oid entry stamp w
    did_walk stamp w below told =
        let same : Told u who (kind.LoadCell head word.Stamp) stamp w = subst (λ (z : Part). Told u who (walk_kind z word.Stamp) stamp w) part_is told in
        record {
          version = head;
          oid_is = refl;
          cell_is = refl;
          unowned = free;
          plain = plain_entry below;
          view_is = told_next v who (kind.LoadCell head word.Stamp) stamp u w walks x (with_task (walked head entry stamp x) x) has here same (after_walk stamp same.before.shared);
          known = after_known u who (kind.LoadCell head word.Stamp) stamp w same;
          stamp_is =
              ap (λ (c : Core). word_at c (version_word head word.Stamp)) (sym (after_is u who (kind.LoadCell head word.Stamp) stamp w same (both _ true (lt-ltb oid OBJECT_LIMIT below) refl))) ∙ same.met;
        }
