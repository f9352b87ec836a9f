-- An end: the session keeps no transaction.
use Rattle.std.proofs.Common.{◌≡◌, ℕ, ◌≤◌, true, List, [], vec_capacity, Vec, Some, refl, sym, subst}
use Rattle.std.specs.declared.alloc.Global.{Global}
use Rattle.erm_machine.specs.declared.attempt.Decision.TheVariants.{Abort}
use Rattle.erm_machine.specs.declared.limits.TheConstants.{READ_LIMIT, WRITE_LIMIT}
use Rattle.erm_machine.specs.declared.part.Part.{Part}
use Rattle.erm_machine.specs.declared.task.Task.{Task}
use Rattle.erm_machine.specs.declared.task.Task.TheVariants as task
use Rattle.erm_machine.specs.Seat.{end_of}
use Rattle.erm_rule.specs.declared.view.View.{View}
use Rattle.erm_rule.specs.Views.{part_of}
use Rattle.erm_rule.proofs.Telling.{part_of-changed}
use Rattle.erm_cells.specs.Calls.{starts_anew}
use Rattle.erm_cells.specs.Spare.{SpareIs}
use Rattle.erm_cells.proofs.Heads.{has}
use Rattle.erm_ends.specs.Ends.{left_part, released_all, AreClaims, AreReads, DidAbort, MayAbort}
use Rattle.erm_precommit.specs.declared.pre.KeptClaim.{KeptClaim}
use Rattle.erm_precommit.specs.declared.pre.KeptRead.{KeptRead}
use Rattle.erm_rows.specs.declared.active.Active.{Active}
use Rattle.erm_session.specs.declared.room.Room.{Room}
use Rattle.erm_session.specs.declared.session.Session.{Session}
use Rattle.erm_session.specs.declared.session.Stage.{Stage}
use Rattle.erm_session.specs.declared.session.Stage.TheVariants as stage
use Rattle.erm_session.specs.Saves.{HasSaves}
use Rattle.erm_session.specs.Session.{HasRoom, IsKept, IsOpen, IsSession, StageIs}

-- where a call may start anew an active transaction may begin to end
ends_anew : (t : Task) → starts_anew t ≡ true → end_of t ≡ Some (0, 0, 0, 0)
ends_anew task.Rest e = refl
ends_anew (task.Owned oid owner) e = refl
ends_anew (task.Walks version head) e = refl
ends_anew (task.Passed version) e = refl
ends_anew (task.Found version stamp head) e = refl
ends_anew (task.Registered version) e = refl
ends_anew (task.Overtaken version overwriter) e = refl
ends_anew (task.Rated version) e = refl
ends_anew task.Numbers e = refl
ends_anew t e = absurd (cc)

-- the stage of a session whose transaction is active
pub active_stage : (s : Session) (t : Active) (x : Part) → IsKept s x → s.stage ≡ stage.Active t → StageIs (stage.Active t) x
active_stage s t x kept e = subst (λ (a : Stage). StageIs a x) e kept.stage

-- its end may begin
pub may_abort : (s : Session) (t : Active) (x : Part) (reads : List KeptRead) (claims : List KeptClaim) → IsKept s x → s.stage ≡ stage.Active t
    → reads ≡ t.reads.value.items → claims ≡ t.claims.value.items → MayAbort reads claims x
may_abort s t x reads claims kept e reads_are claims_are =
    let at = active_stage s t x kept e in
    record {
      active = at.0;
      ends = ends_anew x.task at.1;
      reads_kept = subst (λ (l : List KeptRead). AreReads l x.current) (sym reads_are) (record { count = at.2.read_count; each = at.2.reads });
      claims_kept = subst (λ (l : List KeptClaim). AreClaims l x.current) (sym claims_are) (record { count = at.2.claim_count; each = at.2.claims });
    }

-- the transaction is over, and the session keeps no rows of it
module _ (s : Session) (t : Active) (v : View) (kept : IsKept s (part_of v s.seat)) (stage_is : s.stage ≡ stage.Active t)
    (after : Stage) (after_is : after ≡ stage.Idle) (room : Room) (spare : List ℕ) (rows_read rows_claimed : Vec (List ℕ) Global) where
  abbrev x : Part
  x = part_of v s.seat

  abbrev y : Part
  y = left_part Abort (released_all x)

  abbrev n : Session
  n = record s { stage = after; room = Some room; spare = spare; rows_read = rows_read; rows_claimed = rows_claimed }

  pub ended_session : (w : View) → DidAbort v s.seat w → SpareIs spare (part_of w s.seat)
      → rows_read.items ≡ [] → vec_capacity rows_read ≡ vec_capacity s.rows_read → rows_claimed.items ≡ [] → vec_capacity rows_claimed ≡ vec_capacity s.rows_claimed
      → IsSession n (part_of w s.seat)
  ended_session w did spare_is no_read room_read no_claimed room_claimed =
      let is : part_of w s.seat ≡ y = part_of-changed v s.seat w y x (has v s.seat (active_stage s t x kept stage_is).0) did.view_is in
      subst (λ (z : Part). IsSession n z) (sym is)
      (record {
        kept = record {
          session = kept.session;
          run = kept.run;
          low = kept.low;
          number = kept.number;
          stage = subst (λ (a : Stage). StageIs a y) (sym after_is) refl;
          room = subst (λ (a : Stage). HasRoom a (Some room)) (sym after_is) tt;
          spare = subst (λ (z : Part). SpareIs spare z) is spare_is;
          room_read = subst (λ (m : ℕ). READ_LIMIT ≤ m) (sym room_read) kept.room_read;
          room_claimed = subst (λ (m : ℕ). WRITE_LIMIT ≤ m) (sym room_claimed) kept.room_claimed;
          block = kept.block;
        };
        rows_read = no_read;
        rows_claimed = no_claimed;
        window = subst (λ (a : Stage). IsOpen a y) (sym after_is) tt;
        saves = subst (λ (a : Stage). HasSaves a s.saves y) (sym after_is) tt;
      })
