-- A read of a safe snapshot of a session of the word table, beside others.
use Rattle.std.proofs.Common.{◌≡◌, ℕ, ◌<◌, true, List, Some, refl, sym, ap, ◌∙◌, subst, arith}
use Rattle.erm_model.specs.declared.limits.TheConstants.{OID_LIMIT}
use Rattle.erm_model.specs.History.{IsNewestBelow}
use Rattle.erm_machine.specs.declared.part.Part.{Part}
use Rattle.erm_machine.specs.declared.task.Task.TheVariants as task
use Rattle.erm_machine.specs.Core.{Core}
use Rattle.erm_machine.specs.Decided.{history_of}
use Rattle.erm_machine.specs.Lawful.{opening_rows}
use Rattle.erm_machine.specs.Seat.{is_active, is_safe, with_task}
use Rattle.erm_machine.proofs.Backs.{safe_snapshot}
use Rattle.erm_core_safe.specs.Passed.{ArePassed}
use Rattle.erm_core_safe.proofs.Passing.{safe_passes}
use Rattle.erm_cells.proofs.Heads.{has}
use Rattle.erm_rows.specs.Safe.{DidReadSafe}
use Rattle.erm_rule.specs.declared.view.Book.{Book}
use Rattle.erm_rule.specs.Books.{IsBookOf}
use Rattle.erm_rule.specs.Views.{part_in, part_of}
use Rattle.erm_rule.proofs.Telling.{part_of-changed}
use Rattle.erm_safe_reads.specs.Calls.{IsSafeRow, stamp_of}
use Rattle.erm_table_world.proofs.SafeReading.{IsAtRest, SafeRows}
use Rattle.erm_beside.specs.Calls.{Passes}
use Rattle.erm_beside.specs.Later.{IsLater}
use Rattle.erm_lone.proofs.Later.{world_same}
use Rattle.erm_world.specs.World.{View, work_at}
use Rattle.erm_own_view.specs.Own.{own_view}
use Rattle.erm_own_view.specs.SafeStamps.{HasRowBelow}
use Rattle.erm_own_view.proofs.Own.{own_passes}
use Rattle.erm_shared_session.proofs.SnapshotLooks.{Snaps, own_begin, own_tasked}

module _ (seat tail flushed : ℕ) (b e : Book) (start : e.start ≡ b.start) (held : part_in b.view seat ≡ Some (part_of b.view seat)) (rests : IsAtRest (part_of b.view seat))
    (oid : ℕ) (row : List ℕ) (did : DidReadSafe b seat oid row e) where
  abbrev x : Part
  x = part_of b.view seat

  abbrev own : View
  own = own_view seat tail flushed b

  snaps : Snaps x
  snaps = record { active = rests.active; snapshot = safe_snapshot x.task rests.safe }

  set : part_of e.view seat ≡ with_task (task.SafeFound did.version) x
  set = part_of-changed b.view seat e.view (with_task (task.SafeFound did.version) x) x held did.view_is

  read_same : own_view seat tail flushed e ≡ own
  read_same = own_tasked seat tail flushed b snaps e start held (task.SafeFound did.version) refl (sym rests.safe) set

  pub read_passes : Passes seat own (own_view seat tail flushed e)
  read_passes = subst (λ (v : View). Passes seat own v) (sym read_same) (own_passes seat tail flushed tail flushed b (omega arith) (omega arith))

  pub read_later : IsLater (own.session seat) ((own_view seat tail flushed e).session seat)
  read_later = subst (λ (v : View). IsLater (own.session seat) (v.session seat)) (sym read_same) ((world_same own own refl).session seat)

  held_after : part_in e.view seat ≡ Some (part_of e.view seat)
  held_after = has e.view seat (ap (λ (y : Part). is_active y.place) set ∙ rests.active)

  -- in each state of the book its begin stamp is passed, and the row is the newest below it
  pub row_there : SafeRows → oid < OID_LIMIT → (c : Core) → IsBookOf e c → HasRowBelow c (work_at own seat).begin oid row
  row_there rows within c is =
      let here : c.seats seat ≡ with_task (task.SafeFound did.version) x = is.is_view seat (part_of e.view seat) held_after ∙ set in
      let safe : is_safe (c.seats seat).task ≡ true = ap (λ (y : Part). is_safe y.task) here in
      let begin : (c.seats seat).current.begin ≡ x.current.begin = ap (λ (y : Part). y.current.begin) here in
      let shown : (c.seats seat).current.begin ≡ (work_at own seat).begin = begin ∙ sym (own_begin seat tail flushed b snaps) in
      let known : did.version.oid < OID_LIMIT = subst (λ (n : ℕ). n < OID_LIMIT) (sym did.oid_is) within in
      let found : IsSafeRow (c.seats seat).current.begin did.version row c = subst (λ (n : ℕ). IsSafeRow n did.version row c) (sym begin) (did.stands c is) in
      let newest = rows c seat did.version row is.sound safe known found in
      record {
        passed = subst (λ (n : ℕ). ArePassed n c) shown (safe_passes c seat is.sound safe);
        stamp = stamp_of c did.version;
        newest =
            subst (λ (n : ℕ). IsNewestBelow (history_of c.seats) (opening_rows c.shared) n (work_at own seat).begin (stamp_of c did.version) row) did.oid_is
            (subst (λ (n : ℕ). IsNewestBelow (history_of c.seats) (opening_rows c.shared) did.version.oid n (stamp_of c did.version) row) shown newest);
      }
