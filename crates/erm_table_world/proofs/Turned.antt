-- What a call of the flush seat leaves of the whole world.
use Rattle.std.proofs.Common.{◌≡◌, ℕ, ◌+◌, List, get_or, Option, Some, None, IfSome, refl, sym, ap, subst, arith}
use Rattle.std.specs.List.{slice_get}
use Rattle.std.specs.Prelude.{◌==◌, ◌-◌, if◌then◌else◌, [], IsSome}
use Rattle.atomic_table.specs.declared.shared.Seat.{Seat}
use Rattle.erm_core_steps.proofs.Aborts.{no_flusher}
use Rattle.erm_core_steps.proofs.Lasting.{sessions_kept}
use Rattle.erm_core_steps.proofs.Quiet.{session_of_few}
use Rattle.erm_machine.specs.declared.part.Part.{Part}
use Rattle.erm_model.specs.declared.limits.TheConstants.{TABLE_CELLS}
use Rattle.erm_model.specs.RowTransaction.{Law}
use Rattle.erm_rule.specs.declared.view.Book.{Book}
use Rattle.erm_rule.specs.Books.{book}
use Rattle.erm_rule.specs.Steps.{Fits}
use Rattle.erm_rule.specs.Went.{core_of}
use Rattle.erm_session.specs.Session.{IsSession}
use Rattle.erm_world.specs.declared.gathered.Gathered.{Gathered}
use Rattle.erm_world.specs.declared.gathered.Gathered.TheVariants.{Empty, Unfilled, Words}
use Rattle.erm_world.specs.Log.{Gathers, Log}
use Rattle.erm_world.specs.Whole as whole
use Rattle.erm_world.specs.World.{Opening}
use Rattle.erm_world.specs.World as world
use Rattle.erm_table_world.specs.declared.table_world.TableWorld.{TableWorld}
use Rattle.erm_table_world.specs.Flusher.{pin_in}
use Rattle.erm_table_world.specs.Logs.{KeepsSessions}
use Rattle.erm_table_world.specs.Saves.{saves_by, saves_in}
use Rattle.erm_table_world.specs.Stands.{AreSessions, Stands, table_log, table_view, world_view}
use Rattle.erm_table_world.specs.Turns.{StandsForSome, Turned}

-- the world after such a call, which keeps this place of a pin
abbrev pub after_turn : {L : Type 0} → TableWorld L → Seat (Unit {0}) Book → ℕ → TableWorld L
after_turn w pass pin = record w { pass = pass; pin = pin }

pub for_some : {L : Type 0} (law : Law) (w : TableWorld L) → Stands law w → StandsForSome law (book w.pass)
for_some law w stands = (w.count, stands.at)

module _ {L : Type 0} (law : Law) (w : TableWorld L) (stands : Stands law w) (pass : Seat (Unit {0}) Book) (fits : Fits w.table.words.shared.table_id pass)
    (turned : Turned law w.count (book w.pass) (book pass)) where
  sessions_stay : AreSessions w.sessions.items (core_of (book pass))
  sessions_stay k d within =
      let old = stands.sessions k d within in
      let count = stands.count in
      let session = session_of_few w.count (k + 1) (core_of (book w.pass)) stands.at.quiet (omega arith) (omega (arith, within, count)) in
      record {
        seat_is = old.seat_is;
        is = subst (IsSession (get_or w.sessions.items k d)) (sym (turned.flushes.others (k + 1) (no_flusher (k + 1) session))) old.is;
      }

  pub turn_stands : (pin : ℕ) → IfSome (pin_in (book pass)) (λ place. pin ≡ place) → Stands law (after_turn w pass pin)
  turn_stands pin kept = record {
    fits = fits;
    at = turned.at;
    count = stands.count;
    sessions = sessions_stay;
    pin = kept;
  }

  saves_stay : (q : ℕ) → world.IsSession (table_view w) q → saves_in w.sessions.items (core_of (book pass)) q ≡ saves_in w.sessions.items (core_of (book w.pass)) q
  saves_stay q session =
      let is_of_one = session_of_few w.count q (core_of (book w.pass)) stands.at.quiet session.0 session.1 in
      ap (λ (x : Part). if q == 0 then [] else saves_by (slice_get w.sessions.items (q - 1)) x) (turned.flushes.others q (no_flusher q is_of_one))

  pub turn_keeps : (pin : ℕ) → IfSome (pin_in (book pass)) (λ place. pin ≡ place) → KeepsSessions law w (after_turn w pass pin)
  turn_keeps pin kept = record {
    stands = λ _. turn_stands pin kept;
    sessions =
        let kept = sessions_kept w.count (core_of (book w.pass)) (core_of (book pass)) stands.at.quiet turned.flushes in
        record { session = kept.session; opening = ap (λ (o : Opening). record o { cuts = TABLE_CELLS }) kept.opening; tail = kept.tail; saves = saves_stay };
  }

  -- where the pin stays, so does the place that is kept
  pinned_still : (table_log (after_turn w pass w.pin)).pinned ≡ (table_log w).pinned → IfSome (pin_in (book pass)) (λ place. w.pin ≡ place)
  pinned_still same = subst (λ (o : Option ℕ). IfSome o (λ place. w.pin ≡ place)) (sym same) stands.pin

  pub still_stands : (table_log (after_turn w pass w.pin)).pinned ≡ (table_log w).pinned → Stands law (after_turn w pass w.pin)
  still_stands same = turn_stands w.pin (pinned_still same)

  pub still_keeps : (table_log (after_turn w pass w.pin)).pinned ≡ (table_log w).pinned → KeepsSessions law w (after_turn w pass w.pin)
  still_keeps same = turn_keeps w.pin (pinned_still same)

-- a gather leaves the pin
pub gathers_pinned : (found : Gathered) (l m : Log) (words : List ℕ) → Gathers found l m words → m.pinned ≡ l.pinned
gathers_pinned (Empty at) l m words did = ap (λ (log : Log). log.pinned) did.0
gathers_pinned (Unfilled at) l m words did = ap (λ (log : Log). log.pinned) did.0
gathers_pinned (Words at count) l m words did = ap (λ (log : Log). log.pinned) did.gathered

-- a pin that is there is at the place that was kept
pub some_pin : (o : Option ℕ) (pin : ℕ) → IsSome o → IfSome o (λ place. pin ≡ place) → o ≡ Some pin
some_pin (Some place) pin some is = ap (λ (n : ℕ). Some n) (sym is)
some_pin None pin some is = absurd (let no = some in cc)

-- a pin at a place that is kept, and no pin
pub pinned_there : (o : Option ℕ) (pin : ℕ) → o ≡ Some pin → IfSome o (λ place. pin ≡ place)
pinned_there o pin is = subst (λ (x : Option ℕ). IfSome x (λ place. pin ≡ place)) (sym is) refl

pub unpinned_there : (o : Option ℕ) (pin : ℕ) → o ≡ None → IfSome o (λ place. pin ≡ place)
unpinned_there o pin is = subst (λ (x : Option ℕ). IfSome x (λ place. pin ≡ place)) (sym is) tt

-- what a flusher's calls leave of the view as that of a world they leave of the state's
pub table_kept : {L : Type 0} (p q : TableWorld L) → whole.KeepsSessions (world_view p) (world_view q) → whole.KeepsSessions (table_view p) (table_view q)
table_kept p q keeps = record {
  session = keeps.session;
  opening = ap (λ (o : Opening). record o { cuts = 0 }) keeps.opening;
  tail = keeps.tail;
  saves = λ seat is. refl;
}
