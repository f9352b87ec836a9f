-- An exchange that met another entry than the one seen: one with an owner is as if loaded, and the head of one without is passed.
use Rattle.std.proofs.Common.{◌≡◌, ◌≢◌, ℕ, ◌<◌, ◌≤◌, Bool, true, ◌&&◌, Some, refl, sym, ap, ◌∙◌, subst, eqb}
use Rattle.std.specs.Prelude.{if◌then◌else◌, not}
use Rattle.std.proofs.lemmas.Bool.{eq-eqb, lt-ltb, ne_eqb}
use Rattle.erm_machine.specs.declared.event.Kind.TheVariants as kind
use Rattle.erm_machine.specs.declared.limits.TheConstants.{OBJECT_LIMIT}
use Rattle.erm_machine.specs.declared.part.Part.{Part}
use Rattle.erm_machine.specs.declared.task.Task.{Task}
use Rattle.erm_machine.specs.declared.task.Task.TheVariants as task
use Rattle.erm_machine.specs.declared.version.CellWord.TheVariants as word
use Rattle.erm_machine.specs.declared.version.VersionAt.{VersionAt}
use Rattle.erm_machine.specs.Core.{Core, Object, Shared, spot_of, version_word, word_at}
use Rattle.erm_machine.specs.Reading.{entered, head_version, load_walked_stamp, lost}
use Rattle.erm_machine.specs.Seat.{is_active, same_version, with_task}
use Rattle.erm_machine.specs.Snapshot.{InHand}
use Rattle.erm_machine.specs.Step.{part_after}
use Rattle.erm_machine.specs.Words.{head_of, owner_of}
use Rattle.erm_rule.specs.declared.view.View.{View}
use Rattle.erm_rule.specs.Hands.{in_hand, walk_kind}
use Rattle.erm_rule.specs.Steps.{Ready, Told}
use Rattle.erm_rule.specs.Views.{part_in, part_of, with_part}
use Rattle.erm_rule.proofs.Telling.{changed_here, part_of-changed}
use Rattle.erm_cells.specs.Calls.{DidEnter, DidLose}
use Rattle.erm_cells.proofs.After.{after_is, after_known}
use Rattle.erm_cells.proofs.Heads.{has, same_self}
use Rattle.erm_cells.proofs.Views.{both, choose, first_branch, ready_at, told_next, when_true}
use Rattle.erm_rows.specs.Claims.{DidMeetOtherHead}

-- an entry with an owner is as if loaded
lost_owned : (seat oid entry : ℕ) (v : VersionAt) (o : Object) → owner_of entry ≢ 0 → lost seat oid entry v o ≡ entered seat oid entry o
lost_owned seat oid entry v o some =
    ap (λ (b : Bool). if b && not (eqb (head_of entry) v.cell) then task.Passed (head_version oid entry o) else entered seat oid entry o) (ne_eqb _ _ some)

pub enters_lost : (v : View) (who oid seen entry : ℕ) (u : View) → owner_of entry ≢ 0 → DidLose v who oid seen entry u → DidEnter v who oid entry u
enters_lost v who oid seen entry u some l = record {
  object = l.object;
  view_is = l.view_is ∙ ap (λ (t : Task). with_part who (with_task t (part_of v who)) v) (lost_owned who oid entry l.version l.object some);
  known = l.known;
  met = l.met;
}

-- the head of one without
module _ (v : View) (who : ℕ) (active : is_active (part_of v who).place ≡ true) (oid seen entry : ℕ) (below : oid < OBJECT_LIMIT) (u : View) (l : DidLose v who oid seen entry u)
    (free : owner_of entry ≡ 0) (other : entry ≢ seen) (plain_seen : seen ≡ head_of seen) where
  abbrev x : Part
  x = part_of v who

  abbrev head : VersionAt
  head = head_version oid entry l.object

  abbrev passes : Part
  passes = with_task (task.Passed head) x

  plain : entry ≡ head_of entry
  plain = subst (λ n. owner_of n ≡ 0 → n ≡ head_of n) l.met (l.known.sound.common.claims.objects oid below).plain free

  apart : head_of entry ≢ l.version.cell
  apart same = other (plain ∙ same ∙ l.cell_is ∙ sym plain_seen)

  here : u ≡ with_part who passes v
  here =
      l.view_is
      ∙ ap (λ (t : Task). with_part who (with_task t x) v)
      (choose (eqb (owner_of entry) 0 && not (eqb (head_of entry) l.version.cell)) (task.Passed head) (entered who oid entry l.object) (both _ _ (eq-eqb _ _ free) (ap not (ne_eqb _ _ apart))))

  pub has_passes : part_in u who ≡ Some passes
  has_passes = changed_here v who u passes x (has v who active) here

  part_is : part_of u who ≡ passes
  part_is = part_of-changed v who u passes x (has v who active) here

  pub object_passed : (in_hand (part_of u who).task).oid < OBJECT_LIMIT
  object_passed = subst (λ (z : Part). (in_hand z.task).oid < OBJECT_LIMIT) (sym part_is) below

  pub cell_passed : (cell : ℕ) → cell ≡ head_of entry → (in_hand (part_of u who).task).cell ≡ cell
  cell_passed cell is = ap (λ (z : Part). (in_hand z.task).cell) part_is ∙ sym is

  after_load : (found : ℕ) (s : Shared) → part_after who (kind.LoadCell head word.Stamp) found s passes ≡ Some passes
  after_load found s =
      first_branch (is_active x.place) (load_walked_stamp found head passes passes.task) _ _ active
      (when_true (same_version head head) passes (same_self head))

  pub ready_passed : Ready u who (walk_kind (part_of u who) word.Stamp)
  ready_passed =
      subst (λ (z : Part). Ready u who (walk_kind z word.Stamp)) (sym part_is)
      (ready_at u who (kind.LoadCell head word.Stamp) passes has_passes (λ c. passes)
      (λ c sound. after_load (word_at c (spot_of who (kind.LoadCell head word.Stamp))) c.shared))

  pub did_meet : (stamp : ℕ) (w : View) → Told u who (walk_kind (part_of u who) word.Stamp) stamp w → DidMeetOtherHead v who oid seen stamp w
  did_meet stamp w told =
      let same : Told u who (kind.LoadCell head word.Stamp) stamp w = subst (λ (z : Part). Told u who (walk_kind z word.Stamp) stamp w) part_is told in
      let before : same.before.seats who ≡ passes = same.is_view who passes has_passes in
      let newer : InHand same.before.shared x.current.begin (task.Passed head) =
      subst (λ (z : Part). InHand same.before.shared z.current.begin z.task) before (same.sound.own who).snapshot.in_hand in
      record {
        between = u;
        entry = entry;
        lost = l;
        other = other;
        unowned = free;
        plain = plain;
        version = head;
        oid_is = refl;
        cell_is = refl;
        view_is = told_next v who (kind.LoadCell head word.Stamp) stamp u w passes x passes (has v who active) here same (after_load stamp same.before.shared);
        known = after_known u who (kind.LoadCell head word.Stamp) stamp w same;
        stamp_is =
            ap (λ (c : Core). word_at c (version_word head word.Stamp)) (sym (after_is u who (kind.LoadCell head word.Stamp) stamp w same (both _ true (lt-ltb oid OBJECT_LIMIT below) refl))) ∙ same.met;
        newer = subst (λ (n : ℕ). x.current.begin ≤ n) same.met newer.1;
      }
