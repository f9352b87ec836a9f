-- Reads as the view tells them.
use Rattle.std.proofs.Common.{◌≡◌, ◌<◌, ℕ, List, length, ap, ◌∙◌, sym, subst, refl}
use Rattle.std.specs.Prelude.{Result, Ok, Err, OnOk}
use Rattle.std.proofs.lemmas.List.{length-map}
use Rattle.erm_machine.specs.Core.{Core}
use Rattle.erm_machine.specs.Decided.{read_of}
use Rattle.erm_core_view.specs.Views.{view_of}
use Rattle.erm_core_view.proofs.Shown.{work_active}
use Rattle.erm_core_view.proofs.Snapshots.{starts_new}
use Rattle.erm_core_steps.proofs.Quiet.{IsActive}
use Rattle.erm_model.specs.declared.limits.TheConstants.{READ_LIMIT}
use Rattle.erm_model.specs.declared.outcome.Phase.TheVariants as phase
use Rattle.erm_model.specs.declared.row_stop.RowStop.{RowStop}
use Rattle.erm_model.specs.declared.row_stop.RowStop.TheVariants as stop
use Rattle.erm_world.specs.Calls.{DidNotRead, DidRead, IsNew, Works, first}
use Rattle.erm_world.specs.World.{IsSession, Opening, Session, View, Work, phase_at, phase_of, work_at}
use Rattle.erm_core_steps.specs.Reads.{DidRegister, IsExcluded}
use Rattle.erm_core_steps.proofs.Early.{done_before, shut_before}

-- a session whose transaction went on
pub still_session : (v t : View) (seat : ℕ) (w : Work) → Works v seat w t → IsSession v seat → IsSession t seat
still_session v t seat w works session = subst (λ (o : Opening). IsSession (record v { opening = o }) seat) (sym works.opening) session

pub still_active : (v t : View) (seat : ℕ) (w : Work) → Works v seat w t → phase_at t seat ≡ phase.Active
still_active v t seat w works = ap (λ (s : Session). phase_of s.stand) works.own

-- a version is read, and the transaction goes on
pub read_goes_on : (v between t : View) (seat oid : ℕ) (row : List ℕ) → IsNew (work_at v seat) oid → length (work_at v seat).reads < READ_LIMIT
    → DidRegister v seat oid row between → t ≡ between → DidRead v seat oid row t
read_goes_on v between t seat oid row new few did same =
    subst (λ (u : View). DidRead v seat oid row u) (sym same) (first did.stamp new.unclaimed new.unread few did.shows)

-- or is excluded
pub read_excluded : (v between t : View) (seat oid : ℕ) (row : List ℕ) (why : RowStop) → IsNew (work_at v seat) oid → length (work_at v seat).reads < READ_LIMIT
    → DidRegister v seat oid row between → IsExcluded between seat t why → DidNotRead v seat oid why t
read_excluded v between t seat oid row (stop.Excluded succ pred) new few did (aborted, shut) =
    (new, few, did.clear, (record { oid = oid; stamp = did.stamp; row = row }, refl, done_before v between t seat _ did.shows aborted, shut_before v between seat _ succ pred did.shows shut))
read_excluded v between t seat oid row why new few did excluded = absurd excluded

-- as many reads as the view shows
pub reads_shown : (sessions seat : ℕ) (c : Core) (v : View) → IsActive seat c → view_of sessions c ≡ v → length (work_at v seat).reads ≡ length (c.seats seat).current.reads
reads_shown sessions seat c v at same =
    let x = c.seats seat in
    ap (λ (u : View). length (work_at u seat).reads) (sym same) ∙ ap (λ (w : Work). length w.reads) (work_active x.place x.task x.current at.active (starts_new x.task x.current at.starts))
    ∙ length-map x.current.reads read_of

-- what holds of an answer holds under a premise as well
pub where_ok_too : {A E : Type 0} (P Q : Type 0) (r : Result A E) → OnOk r Q → OnOk r (P → Q)
where_ok_too P Q (Ok value) holds = λ _. holds
where_ok_too P Q (Err error) holds = tt
