-- What a session keeps follows its seat's part through its transaction.
use Rattle.std.proofs.Common.{◌≡◌, ℕ, ◌≤◌, Bool, true, false, ◌&&◌, length, map, leb, ltb, Option, None, Some, refl, sym, ap, ◌∙◌, subst}
use Rattle.std.specs.Prelude.{if◌then◌else◌, vec_capacity}
use Rattle.erm_cells.specs.Calls.{starts_anew}
use Rattle.erm_cells.specs.Spare.{SpareIs}
use Rattle.erm_ends.specs.Ends.{DidAbort}
use Rattle.erm_machine.specs.declared.attempt.Attempt.{Attempt}
use Rattle.erm_machine.specs.declared.attempt.Claim.{Claim}
use Rattle.erm_machine.specs.declared.attempt.Read.{Read}
use Rattle.erm_machine.specs.declared.limits.TheConstants.{READ_LIMIT, WRITE_LIMIT}
use Rattle.erm_machine.specs.declared.part.Part.{Part}
use Rattle.erm_machine.specs.Seat.{is_active}
use Rattle.erm_machine.specs.Words.{is_session}
use Rattle.erm_model.specs.declared.limits.TheConstants.{LAST_RUN}
use Rattle.erm_model.specs.declared.outcome.Phase.TheVariants as phase
use Rattle.erm_precommit.specs.declared.pre.Pre.{Pre}
use Rattle.erm_rows.specs.declared.active.Active.{Active}
use Rattle.erm_rows.specs.Active.{IsActive, closed_window}
use Rattle.erm_rule.specs.declared.view.View.{View}
use Rattle.erm_rule.specs.Hands.{IsKnown}
use Rattle.erm_session.specs.declared.room.Room.{Room}
use Rattle.erm_session.specs.declared.session.Session.{Session}
use Rattle.erm_session.specs.declared.session.Stage.{Stage}
use Rattle.erm_session.specs.declared.session.Stage.TheVariants as stage
use Rattle.erm_session.specs.Calls.{EndsWhere}
use Rattle.erm_savepoints.specs.Saves.{KeptSaves}
use Rattle.erm_session.specs.Saves.{HasSaves}
use Rattle.erm_session.specs.Session.{HasRoom, IsKept, IsOpen, IsSession, StageIs, has_closed, phase_of}
use Rattle.erm_session.proofs.Saved.{saves_on, saves_stay}

-- the seat's part after a step in the course of its transaction: it may start a call again
pub record Goes (x y : Part) : Type 0 where
  pub place : y.place ≡ x.place
  pub starts : starts_anew y.task ≡ true
  pub number : y.number ≡ x.number
  pub run : y.run ≡ x.run
  pub current : y.current.number ≡ x.current.number

-- nothing was done
pub goes_same : (x : Part) → starts_anew x.task ≡ true → Goes x x
goes_same x starts = record { place = refl; starts = starts; number = refl; run = refl; current = refl }

-- the transaction kept follows
pub stage_on : (t u : Active) (x y : Part) → StageIs (stage.Active t) x → Goes x y → IsActive u y → StageIs (stage.Active u) y
stage_on t u x y is goes acts = (ap is_active goes.place ∙ is.0, goes.starts, acts, goes.current ∙ is.3 ∙ sym goes.number)

-- an active stage
module _ (g : Stage) (x : Part) (is : StageIs g x) (t : Active) (at : g ≡ stage.Active t) where
  pub active_so : StageIs (stage.Active t) x
  active_so = subst (λ (h : Stage). StageIs h x) at is

  pub active_at : is_active x.place ≡ true
  active_at = active_so.0

  pub starts_at : starts_anew x.task ≡ true
  starts_at = active_so.1

-- an active session
module _ (s : Session) (x : Part) (is : IsKept s x) (t : Active) (at : s.stage ≡ stage.Active t) where
  stands : StageIs (stage.Active t) x
  stands = subst (λ (g : Stage). StageIs g x) at is.stage

  pub active : is_active x.place ≡ true
  active = stands.0

  pub starts : starts_anew x.task ≡ true
  starts = stands.1

  pub kept : IsActive t x
  kept = stands.2

  -- its seat went on, and what is kept of its transaction stays
  pub stage_goes : (y : Part) → Goes x y → IsActive t y → StageIs s.stage y
  stage_goes y goes acts = subst (λ (g : Stage). StageIs g y) (sym at) (stage_on t t x y stands goes acts)

-- there is room
pub has_room : (s : Stage) (room : Room) → HasRoom s (Some room)
has_room stage.Idle room = tt
has_room (stage.Active t) room = tt
has_room (stage.Sealed t) room = tt
has_room (stage.Pending begin next) room = tt
has_room (stage.Safe begin) room = tt

-- a session that isn't idle needs no room for its next transaction
pub room_at : (s : Stage) (room : Option Room) → phase_of s ≡ phase.Active → HasRoom s room
room_at (stage.Active t) room e = tt
room_at stage.Idle room e = absurd (cc)
room_at (stage.Sealed t) room e = absurd (cc)
room_at (stage.Pending begin next) room e = absurd (cc)
room_at (stage.Safe begin) room e = absurd (cc)

-- what a session keeps, where its seat went on and its transaction kept follows
pub goes_on : (s new : Session) (x y : Part) → IsKept s x → Goes x y → StageIs new.stage y → phase_of new.stage ≡ phase.Active → SpareIs new.spare y → new.seat ≡ s.seat → new.run ≡ s.run → new.number ≡ s.number
    → READ_LIMIT ≤ vec_capacity new.rows_read → WRITE_LIMIT ≤ vec_capacity new.rows_claimed → length new.block.items ≡ length s.block.items → IsKept new y
goes_on s new x y is goes stage_is active_is spare seat run number room_read room_claimed block = record {
  session = ap is_session seat ∙ is.session;
  run = run ∙ is.run ∙ sym goes.run;
  low = subst (λ (n : ℕ). n ≤ LAST_RUN) (sym run) is.low;
  number = number ∙ is.number ∙ sym goes.number;
  stage = stage_is;
  room = room_at new.stage new.room active_is;
  spare = spare;
  room_read = room_read;
  room_claimed = room_claimed;
  block = block ∙ is.block;
}

-- a window that isn't told as closed is open
not_told : {X : Type 0} (b : Bool) (z : X) → (if b then Some z else None) ≡ None → b ≡ false
not_told true z e = absurd (cc)
not_told false z e = refl

pub open_now : (t : Active) (y : Part) → IsActive t y → closed_window t ≡ None → has_closed y.current ≡ false
open_now t y is none = rw (sym is.succ, sym is.pred) (not_told (ltb 0 t.succ && leb t.succ t.pred) (t.succ, t.pred) none)

-- it stays so where the transaction, and so its running numbers, are as before
pub open_still : (g h : Stage) (x y : Part) → phase_of g ≡ phase.Active → IsOpen g x → y.current.succ ≡ x.current.succ → y.current.pred ≡ x.current.pred → IsOpen h y
open_still (stage.Active t) (stage.Active u) x y at window succ pred = rw (succ, pred) window
open_still (stage.Active t) stage.Idle x y at window succ pred = tt
open_still (stage.Active t) (stage.Sealed u) x y at window succ pred = tt
open_still (stage.Active t) (stage.Pending begin next) x y at window succ pred = tt
open_still (stage.Active t) (stage.Safe begin) x y at window succ pred = tt
open_still stage.Idle h x y at window succ pred = absurd (cc)
open_still (stage.Sealed u) h x y at window succ pred = absurd (cc)
open_still (stage.Pending begin next) h x y at window succ pred = absurd (cc)
open_still (stage.Safe begin) h x y at window succ pred = absurd (cc)

-- an idle session has none
pub open_idle : (s : Stage) (x : Part) → phase_of s ≡ phase.Idle → IsOpen s x
open_idle stage.Idle x e = tt
open_idle (stage.Active t) x e = absurd (cc)
open_idle (stage.Sealed t) x e = absurd (cc)
open_idle (stage.Pending begin next) x e = absurd (cc)
open_idle (stage.Safe begin) x e = absurd (cc)

-- a session with these rows
pub with_rows : (s : Session) (x : Part) → IsKept s x → s.rows_read.items ≡ map (λ (r : Read). r.row) x.current.reads
    → s.rows_claimed.items ≡ map (λ (w : Claim). w.row) x.current.writes → IsOpen s.stage x → HasSaves s.stage s.saves x → IsSession s x
with_rows s x is rows_read rows_claimed window saves = record { kept = is; rows_read = rows_read; rows_claimed = rows_claimed; window = window; saves = saves }

-- a transaction is as before, but for what it gave up
pub record SameWork (x y : Part) : Type 0 where
  pub same : y.current ≡ record x.current { given_up = y.current.given_up }

pub same_current : (x y : Part) → y.current ≡ x.current → SameWork x y
same_current x y e = record { same = subst (λ (t : Attempt). t ≡ record x.current { given_up = t.given_up }) (sym e) refl }

-- a session whose transaction is so
pub same_rows : (s new : Session) (x y : Part) → IsSession s x → phase_of s.stage ≡ phase.Active → IsKept new y → SameWork x y → new.rows_read.items ≡ s.rows_read.items
    → new.rows_claimed.items ≡ s.rows_claimed.items → new.saves ≡ s.saves → IsSession new y
same_rows s new x y is active_is kept work rows_read rows_claimed saves = record {
  kept = kept;
  saves = subst (λ (n : KeptSaves). HasSaves new.stage n y) (sym saves) (saves_on s.stage new.stage s.saves s.saves x y active_is is.saves (saves_stay s.saves x y (ap (λ (n : Attempt). n.writes) work.same)));
  window = open_still s.stage new.stage x y active_is is.window (ap (λ (n : Attempt). n.succ) work.same) (ap (λ (n : Attempt). n.pred) work.same);
  rows_read = rows_read ∙ is.rows_read ∙ ap (λ (n : Attempt). map (λ (r : Read). r.row) n.reads) (sym work.same);
  rows_claimed = rows_claimed ∙ is.rows_claimed ∙ ap (λ (n : Attempt). map (λ (w : Claim). w.row) n.writes) (sym work.same);
}

-- a call was refused, and the transaction goes on or was aborted
pub ends_where : (b : Bool) (cause : View → Type 0) (who : ℕ) (between w : View) → cause between → (b ≡ true → DidAbort between who w) → (b ≡ false → w ≡ between) → EndsWhere b cause who w
ends_where true cause who between w did ended stays = record { between = between; refused = did; aborted = ended refl }
ends_where false cause who between w did ended stays = subst cause (sym (stays refl)) did

pub known_where : (b : Bool) (who : ℕ) (between w : View) → IsKnown between → (b ≡ true → DidAbort between who w) → (b ≡ false → w ≡ between) → IsKnown w
known_where true who between w known ended stays = (ended refl).known
known_where false who between w known ended stays = subst IsKnown (sym (stays refl)) known

-- a stage in a phase is of that form
pub not_active : (s : Stage) → phase_of s ≡ phase.Active → ((t : Active) → s ≡ stage.Active t → ⊥) → ⊥
not_active (stage.Active t) at none = none t refl
not_active stage.Idle at none = absurd (cc)
not_active (stage.Sealed t) at none = absurd (cc)
not_active (stage.Pending begin next) at none = absurd (cc)
not_active (stage.Safe begin) at none = absurd (cc)

pub not_sealed : (s : Stage) → phase_of s ≡ phase.Sealed → ((t : Pre) → s ≡ stage.Sealed t → ⊥) → ⊥
not_sealed (stage.Sealed t) at none = none t refl
not_sealed stage.Idle at none = absurd (cc)
not_sealed (stage.Active t) at none = absurd (cc)
not_sealed (stage.Pending begin next) at none = absurd (cc)
not_sealed (stage.Safe begin) at none = absurd (cc)
