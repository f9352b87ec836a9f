-- Each clause of what a report at once owes to its answers, together.
use Rattle.std.proofs.Common.{◌≡◌, ℕ, List, Some, slice_get}
use Rattle.erm_report.specs.declared.answer.Answer.{Answer}
use Rattle.erm_report.specs.declared.answer.Answer.TheVariants as answer
use Rattle.erm_script.specs.declared.script.ScriptLine.{ScriptLine}
use Rattle.erm_good_report.specs.GoodReport.{places_of}
use Rattle.erm_good_report.specs.Opening.{Opening}
use Rattle.erm_good_report.specs.Phases.{Closed}
use Rattle.erm_good_report.specs.Refusals.{HasCause, HasRefusalCause, IsOwn}
use Rattle.erm_good_report.specs.Transactions.{Transaction, transactions_of}
use Rattle.erm_good_report.proofs.Places.{none_untold}
use Rattle.erm_lines.specs.Executions.{IsOpeningOf}
use Rattle.erm_world.specs.World.{View}
use Rattle.erm_good_at_once.specs.CutReports.{moment_in}
use Rattle.erm_lines_at_once.specs.Parts.{IsRunInPart, RunsInPartAreSerialWithSnapshots, RunsInPartHavePhases, RunsInPartHaveSafeSnapshots, RunsInPartHaveSnapshots, RunsInPartHaveStamps, RunsInPartRise}
use Rattle.erm_lines_at_once.proofs.Parts.{in_part}
use Rattle.erm_causes_at_once.specs.Laws.{RefusesForOthersIn, RunsInPartAreInReach, RunsInPartHaveCauses, RunsInPartRefuseForOthers, RunsInPartTellLog, RunsInPartTellSaves}
use Rattle.erm_limits_at_once.specs.Laws.{RefusesForRoomIn, RunsInPartRefuseForRoom}
use Rattle.erm_owes_at_once.specs.Laws.{RunsAtOnceOwe, RunsInPartOwe}

module _ (opening : Opening) (whole script : List ScriptLine) (answers : List Answer) (told : List Transaction)
    (others : RefusesForOthersIn opening whole script answers told) (room : RefusesForRoomIn opening whole script answers told) where
  refused : (i : ℕ) (l : ScriptLine) (a : Answer) → slice_get script i ≡ Some l → slice_get answers i ≡ Some a → (t : Transaction) → IsOwn (moment_in opening whole script answers told i l) l.command a t
      → HasRefusalCause (moment_in opening whole script answers told i l) l.command t a
  refused i l (answer.WaitSeat seat seen) at answered t own = others i l (answer.WaitSeat seat seen) at answered tt t own
  refused i l (answer.WaitRing flushed) at answered t own = others i l (answer.WaitRing flushed) at answered tt t own
  refused i l (answer.Owned seat number) at answered t own = others i l (answer.Owned seat number) at answered tt t own
  refused i l (answer.Newer stamp) at answered t own = others i l (answer.Newer stamp) at answered tt t own
  refused i l (answer.Committed stamp succ pred) at answered t own = others i l (answer.Committed stamp succ pred) at answered tt t own
  refused i l (answer.Excluded stamp succ pred) at answered t own = others i l (answer.Excluded stamp succ pred) at answered tt t own
  refused i l (answer.ExcludedEarly succ pred) at answered t own = others i l (answer.ExcludedEarly succ pred) at answered tt t own
  refused i l answer.ReadsFull at answered t own = room i l answer.ReadsFull at answered tt t own
  refused i l answer.WritesFull at answered t own = room i l answer.WritesFull at answered tt t own
  refused i l (answer.CellsFull drawn) at answered t own = room i l (answer.CellsFull drawn) at answered tt t own
  refused i l (answer.OidsFull drawn) at answered t own = room i l (answer.OidsFull drawn) at answered tt t own
  refused i l a at answered t own = tt

-- THE LAWS of such executions, but that of the serial order
pub record PartLaws : Type 0 where
  pub phases : RunsInPartHavePhases
  pub stamps : RunsInPartHaveStamps
  pub rise : RunsInPartRise
  pub snapshots : RunsInPartHaveSnapshots
  pub safe : RunsInPartHaveSafeSnapshots
  pub causes : RunsInPartHaveCauses
  pub others : RunsInPartRefuseForOthers
  pub logs : RunsInPartTellLog
  pub saves : RunsInPartTellSaves
  pub reach : RunsInPartAreInReach
  pub room : RunsInPartRefuseForRoom

module _ (laws : PartLaws) (v f : View) (whole part : List ScriptLine) (answers : List Answer) (closed : List Closed) (opening : Opening) (run : IsRunInPart v whole part answers closed f)
    (of : IsOpeningOf v opening) where
  abbrev told : List Transaction
  told = transactions_of v.opening.sessions (places_of part answers closed)

  -- each refusal has its cause
  have_causes : (i : ℕ) (l : ScriptLine) (a : Answer) → slice_get part i ≡ Some l → slice_get answers i ≡ Some a → HasCause (moment_in opening whole part answers told i l) l.command a
  have_causes i l a at answered =
      let log = laws.logs v f whole part answers closed opening run of told i l a at answered in record {
        own = λ t own.
            refused opening whole part answers told (laws.others v f whole part answers closed opening run of) (laws.room v f whole part answers closed opening run of) i l a at answered t own;
        saves = λ t current. laws.saves v f whole part answers closed opening run of told i l a at answered t current;
        log = log.0;
        unfilled = log.1;
      }

pub owe_in_part : PartLaws → RunsInPartAreSerialWithSnapshots → RunsInPartOwe
owe_in_part laws serial v f whole part answers closed opening run of few = record {
  phases = laws.phases v f whole part answers closed opening run of;
  stamps = laws.stamps v f whole part answers closed opening run of;
  rise = laws.rise v f whole part answers closed opening run of;
  snapshots = laws.snapshots v f whole part answers closed opening run of;
  serial = serial v f whole part answers closed opening run of few;
  causes = laws.causes v f whole part answers closed opening run of;
  refusals = have_causes laws v f whole part answers closed opening run of;
  reach = laws.reach v f whole part answers closed opening run of;
  safe = laws.safe v f whole part answers closed opening run of;
}

-- so do whole ones
pub owe : PartLaws → RunsAtOnceOwe
owe laws v f script answers closed opening run of =
    let part : IsRunInPart v script script answers closed f = in_part v f script answers closed run in
    let causes = have_causes laws v f script script answers closed opening part of in (
      record {
        phases = laws.phases v f script script answers closed opening part of;
        stamps = laws.stamps v f script script answers closed opening part of;
        snapshots = laws.snapshots v f script script answers closed opening part of;
        causes = laws.causes v f script script answers closed opening part of;
        refusals = record {
          each = causes;
          reach = laws.reach v f script script answers closed opening part of;
          untold = none_untold opening script answers (transactions_of v.opening.sessions (places_of script answers closed)) causes;
        };
        safe = laws.safe v f script script answers closed opening part of;
      },
      laws.rise v f script script answers closed opening part of,
    )
