-- A session that has cut the chain of an object.
use Rattle.std.proofs.Common.{◌≡◌, ℕ, List, refl, sym, ap, subst, inr}
use Rattle.std.specs.Prelude.{IfOk, OnOk, Result, Ok, Err}
use Rattle.erm_cells.specs.Calls.{starts_anew}
use Rattle.erm_cells.specs.Spare.{SpareIs}
use Rattle.erm_cells.proofs.Heads.{has}
use Rattle.erm_machine.specs.declared.part.Part.{Part}
use Rattle.erm_machine.specs.declared.task.Task.{Task}
use Rattle.erm_model.specs.declared.outcome.Phase.TheVariants as phase
use Rattle.erm_model.specs.declared.row_stop.RowStop.{RowStop}
use Rattle.erm_model.specs.RowTransaction.{Law}
use Rattle.erm_rows.specs.declared.active.Active.{Active}
use Rattle.erm_rows.specs.Claims.{tidied_part}
use Rattle.erm_rows.specs.Tidies.{DidTidy}
use Rattle.erm_rows.proofs.Kept.{kept_same}
use Rattle.erm_rule.specs.declared.view.Book.{Book}
use Rattle.erm_rule.specs.declared.view.View.{View}
use Rattle.erm_rule.specs.Views.{part_of}
use Rattle.erm_rule.proofs.Telling.{part_of-changed}
use Rattle.erm_session.specs.declared.session.Session.{Session}
use Rattle.erm_session.specs.declared.session.Stage.TheVariants as stage
use Rattle.erm_session.specs.Calls.{ClaimsObject, IsUnclaimed, TidiesObject, now_claimed}
use Rattle.erm_session.specs.Session.{IsSession, phase_of}
use Rattle.erm_session.specs.Took.{TookAnyClaim, TookAnyTidy}
use Rattle.erm_session.proofs.Goes.{active, goes_on, kept, same_current, same_rows, stage_goes, Goes}

module _ (s : Session) (v : View) (is : IsSession s (part_of v s.seat)) (t : Active) (at : s.stage ≡ stage.Active t) (count : ℕ) (w : View) (did : DidTidy v s.seat count w) where
  abbrev x : Part
  x = part_of v s.seat

  abbrev y : Part
  y = tidied_part did.cut.found.tail did.cut.done.cut x

  y_is : part_of w s.seat ≡ y
  y_is = part_of-changed v s.seat w y x (has v s.seat (active s x is.kept t at)) did.view_is

  goes : Goes x (part_of w s.seat)
  goes = subst (λ (z : Part). Goes x z) (sym y_is) (record { place = refl; starts = ap (λ (u : Task). starts_anew u) did.rests; number = refl; run = refl; current = refl })

  pub tidied_session : phase_of s.stage ≡ phase.Active → (spare : List ℕ) → SpareIs spare (part_of w s.seat) → IsSession (record s { spare = spare }) (part_of w s.seat)
  tidied_session on spare spare_is =
      let same = ap (λ (z : Part). z.current) y_is in
      same_rows s (record s { spare = spare }) x (part_of w s.seat) is on
      (goes_on s (record s { spare = spare }) x (part_of w s.seat) is.kept goes (stage_goes s x is.kept t at (part_of w s.seat) goes (kept_same t x (part_of w s.seat) (sym same) (kept s x is.kept t at))) on spare_is refl refl refl
      is.kept.room_read is.kept.room_claimed refl) (same_current x (part_of w s.seat) same) refl refl refl

  pub tidied_writes : (part_of w s.seat).current.writes ≡ x.current.writes
  tidied_writes = ap (λ (z : Part). z.current.writes) y_is

-- where the object wasn't claimed it is now
pub claims_too : (v : View) (who oid : ℕ) (w : View) → IsUnclaimed (part_of v who) oid → (r : Result ℕ RowStop) → OnOk r (ClaimsObject v who oid w) → IfOk r (λ cut. TidiesObject v who oid cut w)
claims_too v who oid w none (Ok cut) did = now_claimed none did
claims_too v who oid w none (Err why) did = tt

pub took_too : (law : Law) (who oid : ℕ) (b e : Book) → IsUnclaimed (part_of b.view who) oid → (r : Result ℕ RowStop) → IfOk r (λ cut. TookAnyClaim law who oid cut b e) → IfOk r (λ cut. TookAnyTidy law who oid cut b e)
took_too law who oid b e none (Ok cut) took = inr (none, took)
took_too law who oid b e none (Err why) took = tt
