-- Sessions after their workers.
use Rattle.std.specs.Prelude.{◌≡◌, ℕ, ◌+◌, ◌<◌, ◌≤◌, false, List, length, Some, None}
use Rattle.std.specs.List.{slice_get}
use Rattle.erm_model.specs.declared.outcome.Phase.TheVariants.{Active, Sealed}
use Rattle.erm_model.specs.RowTransaction.{Law}
use Rattle.erm_script.specs.declared.script.ScriptLine.{ScriptLine}
use Rattle.erm_rule.specs.declared.rule.Table.{Table}
use Rattle.erm_rule.specs.declared.view.Opening.{Opening}
use Rattle.erm_rule.specs.Openings.{start_of}
use Rattle.erm_shared_session.specs.declared.session.TableSession.{TableSession}
use Rattle.erm_shared_session.specs.Stands.{Ends, Stands, own_of, seat_of}
use Rattle.erm_world.specs.World.{View, phase_at}
use Rattle.erm_threads.specs.declared.job.Done.{Done}
use Rattle.erm_threads.specs.Work.{DidSome, DidWork}
use Rattle.erm_engine.specs.Opened.{opened_view}

-- A session of this seat after its worker stands, and has no transaction in progress. It did its work, from the world as it was opened, in each world in
-- which all may end as far as it knows, or some of it, where memory ran out.
pub record HasWorked {L : Type 0} (law : Law) (table : Table L) (o : Opening) (seat : ℕ) (lines : List ScriptLine) (d : Done (TableSession L)) : Type 0 where
  pub stands : Stands law table d.session
  pub seat_is : seat_of d.session ≡ seat
  pub rests : phase_at (own_of d.session) seat ≡ Active → ⊥
  pub most : length d.answers.items ≤ length lines
  pub did : d.lacked ≡ false → (f : View) → Ends law d.session f → DidWork f seat lines d.answers.items d.closed (opened_view (start_of o)) (own_of d.session)
  pub some : (f : View) → Ends law d.session f → DidSome f seat lines d.answers.items d.closed (opened_view (start_of o)) (own_of d.session)

-- so has each session with its lines, in the order of the seats, from 1 on
pub record AreWorked {L : Type 0} (law : Law) (table : Table L) (o : Opening) (parts : List (List ScriptLine)) (done : List (Done (TableSession L))) : Type 0 where
  pub many : length done ≡ length parts
  pub each : (k : ℕ) (lines : List ScriptLine) (d : Done (TableSession L)) → slice_get parts k ≡ Some lines → slice_get done k ≡ Some d → HasWorked law table o (k + 1) lines d

-- so has each, whatever its lines were
abbrev pub HaveWorked : {L : Type 0} → Law → Table L → Opening → List (Done (TableSession L)) → Type 0
HaveWorked law table o done = (parts : List (List ScriptLine)) × AreWorked law table o parts done

-- Where memory sufficed, a session of this seat answered fewer lines than it has, or is sealed behind them and wasn't closed, only where this is so.
pub record IsWholeUnless {L : Type 0} (so : Type 0) (seat : ℕ) (lines : List ScriptLine) (d : Done (TableSession L)) : Type 0 where
  pub all : d.lacked ≡ false → length d.answers.items < length lines → so
  pub decided : d.lacked ≡ false → d.closed ≡ None → phase_at (own_of d.session) seat ≡ Sealed → so

-- so it is with each session with its lines, in the order of the seats, from 1 on
abbrev pub AreWholeUnless : {L : Type 0} → Type 0 → List (List ScriptLine) → List (Done (TableSession L)) → Type 0
AreWholeUnless {L} so parts done = (k : ℕ) (lines : List ScriptLine) (d : Done (TableSession L)) → slice_get parts k ≡ Some lines → slice_get done k ≡ Some d → IsWholeUnless so (k + 1) lines d
