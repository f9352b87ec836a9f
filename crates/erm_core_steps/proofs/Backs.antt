-- A way back: of each claim sixteen words are stored, and one that no write had set counts as not set.
use Rattle.std.proofs.Common.{◌≡◌, ℕ, suc, ◌<◌, ◌==◌, true, Option, None, Some, List, length, set, get_or, take, refl, sym, ap, ◌∙◌, subst, arith}
use Rattle.std.specs.Prelude.{nat_eq}
use Rattle.std.specs.Cmp.Lexicographic.{pointwise}
use Rattle.std.specs.List.{slice_get}
use Rattle.std.proofs.lemmas.Bool.{and_from, lt-ltb}
use Rattle.std.proofs.lemmas.Bool.Decides.{Decides-eqb}
use Rattle.std.proofs.lemmas.List.{take_all}
use Rattle.std.proofs.lemmas.Slice.Eq.{slice_eq-Decides}
use Rattle.erm_model.specs.declared.TheConstants.{ROW_WORDS}
use Rattle.erm_model.specs.declared.history.VersionWritten.{VersionWritten}
use Rattle.erm_machine.specs.declared.attempt.Claim.{Claim}
use Rattle.erm_machine.specs.declared.attempt.OwnCell.{OwnCell}
use Rattle.erm_machine.specs.declared.event.Kind.TheVariants as kind
use Rattle.erm_machine.specs.declared.part.Part.{Part}
use Rattle.erm_machine.specs.declared.place.Place.{Place}
use Rattle.erm_machine.specs.declared.place.Place.TheVariants.{Active}
use Rattle.erm_machine.specs.declared.task.Task.{Task}
use Rattle.erm_machine.specs.declared.task.Task.TheVariants as task
use Rattle.erm_machine.specs.Core.{Core, claim_at}
use Rattle.erm_machine.specs.Decided.{written_of}
use Rattle.erm_machine.specs.Reading.{has_base, without_row}
use Rattle.erm_machine.specs.Seat.{is_active, is_own, is_rest, last_claim, may_start, with_current}
use Rattle.erm_machine.specs.Sound.{Sound}
use Rattle.erm_machine.specs.Step.{after_event, run_from}
use Rattle.erm_machine.specs.Written.{CellFits, copied, copied_at}
use Rattle.erm_machine.proofs.Guards.{either_way}
use Rattle.erm_machine.proofs.Holders.{stands_in}
use Rattle.erm_core_calls.proofs.Moving.{met, stepped, taken}
use Rattle.erm_core_view.specs.Steps.{MayWrite, stores_from}
use Rattle.erm_core_view.specs.Views.{IsQuiet, session_of, view_of, work_of}
use Rattle.erm_core_view.proofs.Chained.{unsaved}
use Rattle.erm_core_view.proofs.Moved.{changes_one}
use Rattle.erm_core_view.proofs.Parts.{current_stands}
use Rattle.erm_core_view.proofs.Rows.{stores_claim}
use Rattle.erm_core_view.proofs.Words.{undo_shows}
use Rattle.erm_world.specs.Calls.{Works}
use Rattle.erm_world.specs.Saves.{undone, with_claims}
use Rattle.erm_world.specs.World.{IsSession, Session, View, Work, work_at}
use Rattle.erm_world.specs.World as world
use Rattle.erm_world.proofs.Halfway.{claim_back, halfway, halfway-set}
use Rattle.erm_world.proofs.Saves.{works_then}
use Rattle.erm_core_steps.specs.Steps.{IsTaken}
use Rattle.erm_core_steps.proofs.Aborts.{no_flusher}
use Rattle.erm_core_steps.proofs.Early.{quiet_since, works_work}
use Rattle.erm_core_steps.proofs.Quiet.{IsActive}
use Rattle.erm_core_steps.proofs.Stamps.{work_is}
use Rattle.erm_core_steps.proofs.Unseen.{others_stay}
use Rattle.erm_core_turns.proofs.Turns.{part_stepped}

-- THE WORDS of a row are stored: the claim has the row, and counts as set.
pub stored_claim : (sessions seat place cell : ℕ) (row : List ℕ) (b d : Core) → Sound b → MayWrite (b.seats seat) place cell → length row ≡ ROW_WORDS
    → run_from b (stores_from seat place cell 0 row) ≡ d
    → Works (view_of sessions b) seat
    (with_claims (set (work_at (view_of sessions b) seat).claims place (record (written_of (claim_at (b.seats seat).current place)) { row = row; is_set = true })) (work_at (view_of sessions b) seat))
    (view_of sessions d)
stored_claim sessions seat place cell row b d sound may words is =
    let u = work_at (view_of sessions b) seat in
    subst
    (λ (to : Core). Works (view_of sessions b) seat
    (with_claims (set u.claims place (record (written_of (claim_at (b.seats seat).current place)) { row = row; is_set = true })) u) (view_of sessions to))
    is (stores_claim sessions seat place cell row b sound may words)

-- A CLAIM that has the row of the version overwritten counts as not set. Its own cell has this row too.
rests_copied : (pl : Place) (u : Task) → is_active pl ≡ true → u ≡ task.Rest → copied pl u ≡ 16
rests_copied (Active tail) u active rests = ap (copied (Active tail)) rests
rests_copied _ u active rests = absurd (cc)

copied_all : (x : Part) (place : ℕ) → is_active x.place ≡ true → x.task ≡ task.Rest → copied_at x place ≡ 16
copied_all x place active rests = either_way (λ (n : ℕ). n ≡ 16) (place == last_claim x.current) (copied x.place x.task) 16 (λ _. rests_copied x.place x.task active rests) (λ _. refl)

same_rows : (xs ys : List ℕ) → xs ≡ ys → pointwise nat_eq xs ys ≡ true
same_rows xs ys is = (slice_eq-Decides Decides-eqb xs ys (pointwise nat_eq xs ys) refl).1 is

cell_has : (base : List ℕ) (o : Option OwnCell) (cell : ℕ) → is_own cell o ≡ true → ((own : OwnCell) → o ≡ Some own → own.words.row ≡ base) → has_base base o ≡ true
cell_has base None cell own rows = absurd (cc)
cell_has base (Some own) cell is rows = same_rows own.words.row base (rows own refl)

-- it may count so
pub record MayUnset (c : Core) (seat place cell : ℕ) : Type 0 where
  pub active : is_active (c.seats seat).place ≡ true
  pub rests : (c.seats seat).task ≡ task.Rest
  pub within : place < length (c.seats seat).current.writes
  pub own : is_own cell (claim_at (c.seats seat).current place).own ≡ true
  pub row : (claim_at (c.seats seat).current place).row ≡ (claim_at (c.seats seat).current place).base

module _ (seat place cell : ℕ) (c : Core) (sound : Sound c) (may : MayUnset c seat place cell) where
  abbrev x : Part
  x = c.seats seat

  abbrev w : Claim
  w = claim_at x.current place

  cell_rows : (own : OwnCell) → w.own ≡ Some own → own.words.row ≡ w.base
  cell_rows own is =
      let fits : CellFits (copied_at x place) w own = (sound.own seat).written.cells place may.within own is in
      let row = ((sound.own seat).written.rows x.current w (current_stands x) (stands_in x.current place may.within)).size in
      let size = fits.size in
      let all : copied_at x place ≡ 16 = copied_all x place may.active may.rests in
      let fronts : take 16 own.words.row ≡ take 16 w.row = subst (λ (n : ℕ). take n own.words.row ≡ take n w.row) all fits.row in
      sym (take_all 16 own.words.row (omega (arith, size))) ∙ fronts ∙ take_all 16 w.row (omega (arith, row)) ∙ may.row

  abbrev unset_part : Part
  unset_part = with_current (without_row place x.current) x

  unset_steps : after_event c seat (kind.Unset place) ≡ Some (stepped c seat (kind.Unset place) unset_part)
  unset_steps =
      taken c seat (kind.Unset place) unset_part tt refl
      (met _ _ _ refl
      (and_from _ _ (and_from _ _ (and_from _ _ may.active (ap is_rest may.rests)) (lt-ltb place (length x.current.writes) may.within)) (cell_has w.base w.own cell may.own cell_rows)))

  pub unset_taken : IsTaken c seat (kind.Unset place)
  unset_taken = (_, unset_steps)

  -- the session goes on then
  pub unset_at : (d : Core) → after_event c seat (kind.Unset place) ≡ Some d → d.seats seat ≡ unset_part
  unset_at d e = part_stepped c d seat (kind.Unset place) unset_part unset_steps e

-- and its work is that with the claim undone
pub unset_shows : (sessions seat place : ℕ) (c d : Core) → Sound c → IsActive seat c → after_event c seat (kind.Unset place) ≡ Some d
    → Works (view_of sessions c) seat
    (with_claims (set (work_at (view_of sessions c) seat).claims place (undone (written_of (claim_at (c.seats seat).current place)))) (work_at (view_of sessions c) seat)) (view_of sessions d)
unset_shows sessions seat place c d sound at e =
    let y : Part = c.seats seat in
    let change = changes_one sessions seat c d (kind.Unset place) sound tt e in
    let tail = change.tail in
    let left : Work → Work = λ u. with_claims (set u.claims place (undone (written_of (claim_at y.current place)))) u in
    let shown : Work → Session = λ u. record { over = (session_of y).over; stand = world.active (left u) } in
    let now : work_of y.current ≡ work_at (view_of sessions c) seat = sym (work_is sessions seat c at) in
    record {
      own = undo_shows seat place c d e ∙ ap shown now;
      others = change.others;
      opening = change.opening;
      tail = omega (arith, tail);
      flushed = change.flushed;
      pinned = change.pinned (no_flusher seat at.session);
      given_up = refl;
      saves = unsaved sessions seat c d (shown (work_at (view_of sessions c) seat));
    }

pub quiet_unset : (sessions seat place cell : ℕ) (b d : Core) → Sound b → Sound d → IsQuiet sessions b → IsSession (view_of sessions b) seat → IsActive seat b → MayUnset b seat place cell
    → after_event b seat (kind.Unset place) ≡ Some d → IsQuiet sessions d
quiet_unset sessions seat place cell b d sound after quiet session at may e =
    let shows = unset_shows sessions seat place b d sound at e in
    let is = unset_at seat place cell b sound may d e in
    quiet_since sessions seat b d quiet session after (others_stay b d seat (kind.Unset place) tt e) shows.opening shows.tail shows.flushed (ap (λ (y : Part). is_active y.place) is ∙ may.active)
    (ap (λ (y : Part). may_start y.task) is ∙ ap may_start may.rests)

-- ONE CLAIM AFTER ANOTHER. Where those before a place have gone back, one more has: its row is stored, and it counts as set or not, as it did.
pub back_once : (v u t : View) (seat place : ℕ) (w : Work) (saved : List VersionWritten) (d r : VersionWritten) → place < length w.claims → r ≡ claim_back (slice_get saved place) (get_or w.claims place d)
    → Works v seat (with_claims (halfway saved w.claims place) w) u → Works u seat (with_claims (set (work_at u seat).claims place r) (work_at u seat)) t
    → Works v seat (with_claims (halfway saved w.claims (suc place)) w) t
back_once v u t seat place w saved d r within is first second =
    let now : work_at u seat ≡ with_claims (halfway saved w.claims place) w = works_work v u seat (with_claims (halfway saved w.claims place) w) first in
    let goes : with_claims (set (work_at u seat).claims place r) (work_at u seat) ≡ with_claims (halfway saved w.claims (suc place)) w =
    ap (λ (x : Work). with_claims (set x.claims place r) x) now
    ∙ ap (λ (c : VersionWritten). with_claims (set (halfway saved w.claims place) place c) w) is
    ∙ ap (λ (claims : List VersionWritten). with_claims claims w) (halfway-set saved w.claims place d within)
    in
    works_then v u t seat (with_claims (halfway saved w.claims place) w) (with_claims (halfway saved w.claims (suc place)) w) first
    (subst (λ (x : Work). Works u seat x t) goes second)
