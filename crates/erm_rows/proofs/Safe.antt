-- A read of a safe snapshot: the head is in hand, then the version found, and then its row.
use Rattle.std.proofs.Common.{◌≡◌, ℕ, true, List, sym, ap, ◌∙◌, subst}
use Rattle.erm_machine.specs.declared.part.Part.{Part}
use Rattle.erm_machine.specs.declared.task.Task.TheVariants as task
use Rattle.erm_machine.specs.declared.version.VersionAt.{VersionAt}
use Rattle.erm_machine.specs.Seat.{is_active, with_task}
use Rattle.erm_rule.specs.declared.view.Book.{Book}
use Rattle.erm_rule.specs.declared.view.View.{View}
use Rattle.erm_rule.specs.Hands.{in_hand}
use Rattle.erm_rule.specs.Views.{part_of, with_part}
use Rattle.erm_rule.proofs.Parts.{with_part-again}
use Rattle.erm_rule.proofs.Telling.{part_of-changed}
use Rattle.erm_cells.proofs.Heads.{has}
use Rattle.erm_safe_reads.specs.Calls.{DidEnterSafe, DidLoadSafeRow, DidReachSafe, IsSafeFound, IsSafeRow, IsSafeWalking}
use Rattle.erm_rows.specs.Safe.{DidReadSafe}

module _ (b : Book) (who oid : ℕ) (active : is_active (part_of b.view who).place ≡ true) (head : ℕ) (u : View) (entered : DidEnterSafe b.view who oid head u) where
  abbrev x : Part
  x = part_of b.view who

  abbrev a : Part
  a = with_task (task.SafeWalks entered.version) x

  a_is : part_of u who ≡ a
  a_is = part_of-changed b.view who u a x (has b.view who active) entered.view_is

  pub active_entered : is_active (part_of u who).place ≡ true
  active_entered = ap (λ (z : Part). is_active z.place) a_is ∙ active

  pub walks_entered : IsSafeWalking (part_of u who).task head
  walks_entered = subst (λ (z : Part). IsSafeWalking z.task head) (sym a_is) entered.cell_is

  pub begin_entered : (begin : ℕ) → x.current.begin ≡ begin → (part_of u who).current.begin ≡ begin
  begin_entered begin is = ap (λ (z : Part). z.current.begin) a_is ∙ is

  module _ (cell : ℕ) (w : View) (reach : DidReachSafe u who cell w) where
    abbrev y : Part
    y = with_task (task.SafeFound reach.version) x

    found_is : w ≡ with_part who y b.view
    found_is =
        reach.view_is
        ∙ ap (λ (z : Part). with_part who (with_task (task.SafeFound reach.version) z) u) a_is
        ∙ ap (λ (t : View). with_part who y t) entered.view_is
        ∙ with_part-again who a y b.view

    y_is : part_of w who ≡ y
    y_is = part_of-changed b.view who w y x (has b.view who active) found_is

    pub active_reached : is_active (part_of w who).place ≡ true
    active_reached = ap (λ (z : Part). is_active z.place) y_is ∙ active

    pub found_reached : IsSafeFound (part_of w who).task cell
    found_reached = subst (λ (z : Part). IsSafeFound z.task cell) (sym y_is) reach.cell_is

    object_is : reach.version.oid ≡ oid
    object_is = reach.oid_is ∙ ap (λ (z : Part). (in_hand z.task).oid) a_is ∙ entered.oid_is

    pub did_read_safe : (m : Book) → m.view ≡ w → (row : List ℕ) (e : Book) → DidLoadSafeRow m who row e → DidReadSafe b who oid row e
    did_read_safe m same row e loaded =
        let there : part_of m.view who ≡ y = ap (λ (t : View). part_of t who) same ∙ y_is in
        record {
          version = reach.version;
          oid_is = object_is;
          view_is = loaded.view_is ∙ same ∙ found_is;
          known = loaded.known;
          state = loaded.state;
          stands = λ c is.
              subst (λ (v : VersionAt). IsSafeRow x.current.begin v row c) (ap (λ (z : Part). in_hand z.task) there)
              (subst (λ (n : ℕ). IsSafeRow n (in_hand (part_of m.view who).task) row c) (ap (λ (z : Part). z.current.begin) there) (loaded.stands c is));
        }
