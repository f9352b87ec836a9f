-- What a flusher's calls leave lasts: the sessions stay, and a row read as of a pin is the newest below it of what they have committed.
use Rattle.std.proofs.Common.{◌≡◌, ℕ, List, Option, Some, IfSome, refl, sym, ap, ◌∙◌, subst}
use Rattle.std.specs.Prelude.{is_some}
use Rattle.erm_model.specs.History.{History, IsNewestBelow}
use Rattle.erm_model.specs.RowTransaction.{Law}
use Rattle.erm_model.specs.Rows.{Rows}
use Rattle.erm_machine.specs.declared.limits.TheConstants.{FLUSH_SEAT}
use Rattle.erm_machine.specs.Core.{Core}
use Rattle.erm_core_turns.specs.Turns.{Flushes, log_of}
use Rattle.erm_core_turns.proofs.LogIs.{Lists, More}
use Rattle.erm_core_turns.proofs.RowsAt.{newest_row, pin_is}
use Rattle.erm_core_turns.proofs.Turns.{opening_same, session_same}
use Rattle.erm_core_view.specs.Views.{IsQuiet, view_of}
use Rattle.erm_sound.specs.Kept.{SoundUnder}
use Rattle.erm_world.specs.Laws.{IsSerializable}
use Rattle.erm_world.specs.Log.{IsRowAsPinned, Log}
use Rattle.erm_world.specs.Whole.{KeepsSessions}
use Rattle.erm_world.specs.World.{Opening, View, history_of}
use Rattle.erm_core_steps.specs.Pinned.{IsNewestRow}
use Rattle.erm_core_steps.proofs.Histories.{history_kept}

pub sessions_kept : (sessions : ℕ) (c d : Core) → IsQuiet sessions c → Flushes c d → KeepsSessions (view_of sessions c) (view_of sessions d)
sessions_kept sessions c d quiet stays = record {
  session = λ seat is. session_same sessions c d quiet stays seat is.1;
  opening = opening_same sessions c d stays;
  tail = stays.shared.tail;
  saves = λ seat is. refl;
}

-- the row was read where the world had this view and this log, and its sessions are kept up to a state
module _ (law : Law) (lists : Lists law) (more : More law) (view : View) (log : Log) (sessions : ℕ) (d : Core) (sound : SoundUnder law d) (quiet : IsQuiet sessions d)
    (is : IsSerializable law (view_of sessions d)) (keeps : KeepsSessions view (view_of sessions d)) where
  pub row_lasts : (oid : ℕ) (row : List ℕ) → IfSome log.pinned (IsNewestRow view oid row) → IsRowAsPinned log (log_of sessions d) oid row
  row_lasts oid row newest same front rest e pinned =
      let some = ap is_some pinned in
      let bound : ℕ = (d.seats FLUSH_SEAT).current.begin in
      let pin : log.pinned ≡ Some bound = sym same ∙ pin_is law lists more sessions d sound quiet is some in
      let found : IsNewestRow view oid row bound = subst (λ (o : Option ℕ). IfSome o (IsNewestRow view oid row)) pin newest in
      let history = sym (history_kept view (view_of sessions d) keeps) in
      let rows = sym (ap (λ (o : Opening). o.rows) keeps.opening) in
      let kept = subst (λ (h : History). IsNewestBelow h view.opening.rows oid bound found.stamp row) history found.newest in
      newest_row law lists more sessions d sound quiet is some oid found.stamp row
      (subst (λ (opening : Rows). IsNewestBelow (history_of (view_of sessions d)) opening oid bound found.stamp row) rows kept)
      front rest e pinned
