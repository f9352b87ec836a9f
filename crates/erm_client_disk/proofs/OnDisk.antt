-- Programs that ran on a disk whose log was just opened.
use Rattle.std.proofs.Common.{◌≡◌, ℕ, ◌≤◌, ◌++◌, Bool, true, false, List, [], length, Option, Result, Ok, Err, IfOk, Vec, refl, sym, ap, subst, arith}
use Rattle.std.proofs.lemmas.List.{length-map}
use Rattle.std.specs.declared.alloc.Global.{Global}
use Rattle.std.specs.Prelude.{IfErr}
use Rattle.erm_ckpt.specs.Recovered.{State}
use Rattle.erm_client.specs.declared.transcript.Transcript.{Transcript}
use Rattle.erm_client_beside.specs.declared.ran.ProgramRun.{ProgramRun}
use Rattle.erm_client_beside.specs.declared.ran.ProgramsRan.{ProgramsRan}
use Rattle.erm_client_beside.specs.Ran.{RanBeside}
use Rattle.erm_client_disk.proofs.Files.{KeepsOthers, desk_keeps_others, opening_keeps}
use Rattle.erm_client_disk.proofs.Ran.{all_complete, all_flushed, all_open, did_for_clients, did_works, from_first, opened_each}
use Rattle.erm_client_disk.specs.Ends.{EndLaws}
use Rattle.erm_client_disk.specs.Laws.{HaveEnded}
use Rattle.erm_client_disk.specs.Leaves.{ClientsAreDone, ClientsOutlive}
use Rattle.erm_client_disk.specs.Ran.{AreShort, CountsNone, CountsRun, NoneRan, NoneStarved, WereRun, closes_of, ended_of, transcripts_of}
use Rattle.erm_client_told.specs.Starved.{DidForClient}
use Rattle.erm_client_told.specs.Told.{answers_by, parts_of}
use Rattle.erm_desk.specs.Desk.{Sees}
use Rattle.erm_disk_at_once.specs.Desks.{HasDesk, HasLogged}
use Rattle.erm_disk_run.specs.declared.log.OpenedLog.{OpenedLog}
use Rattle.erm_disk_run.specs.Opened.{WasLogOpened}
use Rattle.erm_engine.specs.Ended.{world_of}
use Rattle.erm_lines.specs.Executions.{IsOpened}
use Rattle.erm_model.specs.declared.limits.TheConstants.{SESSIONS}
use Rattle.erm_model.specs.Rows.{rows_of}
use Rattle.erm_node.specs.Sound.{sound_law}
use Rattle.erm_outside.specs.Disk.{Step}
use Rattle.erm_rule.specs.declared.view.Opening.{Opening}
use Rattle.erm_rule.specs.Openings.{start_of}
use Rattle.erm_threads.specs.Work.{DidWork}
use Rattle.erm_works.specs.Works.{Did, HaveDone}
use Rattle.erm_client_disk.proofs.Logs.{leaves_log}
use Rattle.erm_client_disk.proofs.Opened.{begun_on, is_opening, opening_on, opens_table, starts_from, told_on}
use Rattle.erm_start.specs.Recovered.{IsFirstObject}
use Rattle.erm_world.specs.Log.{place_behind}
use Rattle.erm_world.specs.World.{View}

module _ {P : Type 0} (laws : EndLaws) (promises : P → P → Transcript → Type 0) (before mid after : Option (List Step)) (faults now : ℕ) (state : State) (opened : OpenedLog)
    (was : WasLogOpened before mid state opened) (first : ℕ) (is_first : IsFirstObject (rows_of opened.rows.items) first) (programs : List P) (few : length programs ≤ SESSIONS) where
  abbrev o : Opening
  o = opening_on opened first

  abbrev v : View
  v = begun_on opened first

  module _ (failed : Bool) (runs : List (ProgramRun P)) (ran : RanBeside promises sound_law o mid faults programs after now failed runs) where
    abbrev all : List Transcript
    all = transcripts_of runs

    abbrev f : View
    f = world_of ran.have_run.core

    abbrev sees : Sees
    sees = record { book = ran.book; told = after; faults = now; failed = failed }

    abbrev has : HasDesk state opened.slots (start_of o) before mid faults sees
    has = record { table = opens_table before mid state opened was first; opens = was.disk; desk = ran.desk; tells = ran.desk.onward }

    logged : HasLogged (start_of o) (ran.desk.blocks ++ ran.desk.tried) f × (f.flushed ≡ place_behind (start_of o).tail ran.desk.blocks)
    logged = leaves_log laws.logs laws.apart o ran.book ran.have_run.tail ran.have_run.core ran.desk.blocks ran.desk.tried ran.have_run.closed ran.desk.knows_all ran.desk.flushed

    just_opened : IsOpened v
    just_opened = record { idle = λ seat within. refl; tail = refl; flushed = refl; pinned = refl; given_up = λ seat. refl; serializable = ran.begins }

    as_many : length all ≤ v.opening.sessions
    as_many = let many = ran.have_run.each.many in let same = length-map runs (λ (r : ProgramRun P). r.transcript) in omega (arith, many, same, few)

    ended : (So : Did) → HaveDone So v f (parts_of all) (answers_by all) (closes_of runs) → AreShort all
        → HaveEnded So state (start_of o) ran.desk.blocks (ran.desk.blocks ++ ran.desk.tried) v f (told_on opened first) all (closes_of runs)
    ended So works short = record {
      starts = starts_from before mid state opened was first is_first;
      view = is_opening before mid state opened was first is_first laws.maps ran.begins;
      opened = just_opened;
      from_first = from_first laws promises o failed ran.book programs runs ran.have_run;
      few = short;
      sessions = (as_many, omega arith);
      works = works;
      logged = logged.0;
      synced = logged.1;
    }

    outlive : AreShort all → ClientsOutlive before after state all
    outlive short =
        laws.outlive state opened.slots (start_of o) before mid faults sees has v f (told_on opened first) all (closes_of runs)
        (ended DidForClient (did_for_clients laws promises o failed ran.book programs runs ran.have_run) short)

    done : failed ≡ false → NoneStarved all → AreShort all → ClientsAreDone before after state all (closes_of runs)
    done sound none short =
        laws.done state opened.slots (start_of o) before mid faults sees has sound v f (told_on opened first) all (closes_of runs)
        (ended DidWork (did_works laws promises o failed ran.book programs runs ran.have_run none) short)
        (all_open laws promises o failed ran.book programs runs ran.have_run sound none) (all_complete laws promises o failed ran.book programs runs ran.have_run sound none)
        (all_flushed laws promises o failed ran.book programs runs ran.have_run sound none)

    others : KeepsOthers state before after
    others = desk_keeps_others state opened.slots (start_of o) before mid faults sees has

    pub were_run : WereRun promises before after state failed programs runs
    were_run = record {
      low = was.low;
      run_low = was.run_low;
      promised = record { many = ran.have_run.each.many; each = λ k p r at at_r. let is = ran.have_run.each.each k p r at at_r in (is.place, is.promised) };
      from_first = from_first laws promises o failed ran.book programs runs ran.have_run;
      outlive = outlive;
      slots = others.0;
      segments = others.1;
      opened = opened_each laws promises o failed ran.book programs runs ran.have_run;
      done = done;
    }

  -- where none ran
  pub none_ran : after ≡ mid → ClientsOutlive before after state [] × KeepsOthers state before after
  none_ran same = subst (λ (told : Option (List Step)). ClientsOutlive before told state [] × KeepsOthers state before told) (sym same) (
    laws.unrun state opened.slots (start_of o) before mid (opens_table before mid state opened was first) was.disk,
    opening_keeps state opened.slots (start_of o) before mid (opens_table before mid state opened was first) was.disk,
  )

-- HOW IT ENDS, whether they ran or not
module _ {P : Type 0} (laws : EndLaws) (promises : P → P → Transcript → Type 0) (mid after : Option (List Step)) (faults now : ℕ) (opened : OpenedLog) (first : ℕ)
    (is_first : IsFirstObject (rows_of opened.rows.items) first) (programs : Vec P Global) (few : length programs.items ≤ SESSIONS) where
  abbrev DidRun : Result (ProgramsRan P) (Vec P Global) → Type 0
  DidRun ran = IfOk ran (λ ran. RanBeside promises sound_law (opening_on opened first) mid faults programs.items after now ran.failed ran.programs.items)

  abbrev CameBack : Result (ProgramsRan P) (Vec P Global) → Type 0
  CameBack ran = IfErr ran (λ back. (after ≡ mid) × (now ≡ faults) × (back ≡ programs))

  pub ran_so : (ran : Result (ProgramsRan P) (Vec P Global)) → DidRun ran → IfOk (ended_of ran) (λ ran. (before : Option (List Step)) (state : State) → WasLogOpened before mid state opened
      → WereRun promises before after state ran.failed programs.items ran.programs.items)
  ran_so (Ok ran) did = λ before state was. were_run laws promises before mid after faults now state opened was first is_first programs.items few ran.failed ran.programs.items did
  ran_so (Err back) did = tt

  pub none_so : (ran : Result (ProgramsRan P) (Vec P Global)) → CameBack ran → IfErr (ended_of ran) (λ stop. (before : Option (List Step)) (state : State) → WasLogOpened before mid state opened
      → NoneRan stop programs.items before after)
  none_so (Ok ran) came = tt
  none_so (Err back) came = λ before state was.
      let left = none_ran laws promises before mid after faults now state opened was first is_first programs.items few came.0 in
      (ap (λ (x : Vec P Global). x.items) came.2, (state, was.found, left.0, left.1.0, left.1.1))

  pub counts_so : (ran : Result (ProgramsRan P) (Vec P Global)) → DidRun ran → IfOk (ended_of ran) (λ ran. CountsRun ran.failed faults now)
  counts_so (Ok ran) did = either ran.failed refl
    where
      either : (is : Bool) → ran.failed ≡ is → CountsRun is faults now
      either true fault = did.desk.rose fault
      either false sound = did.desk.sound sound
  counts_so (Err back) did = tt

  pub counts_none : (ran : Result (ProgramsRan P) (Vec P Global)) → CameBack ran → IfErr (ended_of ran) (λ stop. CountsNone stop faults now)
  counts_none (Ok ran) came = tt
  counts_none (Err back) came = came.1
