-- Transcripts, one behind another, as an execution for some of whose clients memory ran out within a line.
use Rattle.std.proofs.Common.{◌≡◌, ℕ, ◌≤◌, List, [], ◌∷◌, ◌++◌, length, map, Option, Some, None, append-nil, inl, inr, sym, ap, ◌∙◌, subst, arith}
use Rattle.std.specs.List.{slice_get}
use Rattle.std.proofs.lemmas.Option.{slice_get_cases}
use Rattle.erm_client.specs.Laws.{answers_of, lines_of}
use Rattle.erm_client_told.proofs.Cut.{merged, split}
use Rattle.erm_client_told.specs.Starved.{DidForClient, TranscriptsAreAStarvedRun}
use Rattle.erm_client_told.specs.Told.{answers_by, parts_of}
use Rattle.erm_good_report.specs.Phases.{Closes}
use Rattle.erm_joined.proofs.Closes.{ascending, closing_of}
use Rattle.erm_joined.specs.Merged.{told_when_cut}
use Rattle.erm_lines.specs.Executions.{Move, line_moves}
use Rattle.erm_lines_at_once.specs.CutRuns.{IsCutPart}
use Rattle.erm_model.specs.declared.outcome.Phase.TheVariants.{Sealed}
use Rattle.erm_report.specs.declared.answer.Answer.{Answer}
use Rattle.erm_script.specs.declared.script.Command.TheVariants as command
use Rattle.erm_script.specs.declared.script.ScriptLine.{ScriptLine}
use Rattle.erm_threads.specs.Work.{DidWork}
use Rattle.erm_worker.proofs.Parts.{among}
use Rattle.erm_worker.proofs.Short.{given_up_short}
use Rattle.erm_worker.proofs.Waits.{passes_itself}
use Rattle.erm_worker.specs.Laws.{HasOwn}
use Rattle.erm_worker.specs.Work.{GaveUp, RanShort, WasGivenUp}
use Rattle.erm_works.proofs.Closings.{decided_so}
use Rattle.erm_works.proofs.Cuts.{decided, named, own_part, sessions}
use Rattle.erm_works.proofs.Sessions.{cut_session}
use Rattle.erm_works.specs.Starved.{IsStarvedPart}
use Rattle.erm_works.specs.Works.{DidSession, DidSo}
use Rattle.erm_world.specs.Face.{Grows}
use Rattle.erm_world.specs.World.{Session, View, phase_at}

-- GIVEN UP. What had gone on in a line was given up behind it, whichever line that was.
given_up : (f : View) (seat : ℕ) (v u t : View) → (v.tail ≤ f.tail) × (v.flushed ≤ f.flushed) → Grows (v.session seat) (u.session seat) → GaveUp (phase_at u seat) seat u t
    → WasGivenUp (v.session seat) (t.session seat)
given_up f seat v u t within went gave =
    let some : ScriptLine = record { line = 0; session = seat; command = command.Abort } in
    let short : RanShort WasGivenUp f seat (some ∷ []) [] v t =
    given_up_short f seat (some ∷ []) [] v u t (record { last = v; run = passes_itself seat v; fewer = omega arith; within = within; went = went }) gave in
    subst (λ (s : Session). WasGivenUp s (t.session seat)) short.run.own short.went

-- ONE SESSION
module _ (f : View) (seat : ℕ) (v : View) (lines : List ScriptLine) (own : List Answer) (end : Option Answer) where
  worked : (it : DidSo DidForClient f seat v lines own end) → DidWork f seat lines own end v it.last → DidSession f seat v lines own end
  worked it work = record { last = it.last; at_end = it.at_end; rests = it.rests; most = it.most; did = work }

  client_part : (moves : List Move) → DidSo DidForClient f seat v lines own end → HasOwn seat moves (line_moves lines own ++ closing_of seat (told_when_cut end))
      → IsStarvedPart f seat (slice_get lines (length own)) v moves
  client_part moves it has = by it.did
    where
      by : DidForClient f seat lines own end v it.last → IsStarvedPart f seat (slice_get lines (length own)) v moves
      by (inl work) = inl (cut_session f seat v lines own end moves (worked it work) has)
      by (inr was) = inr (record {
        last = was.ran.last;
        run = among f seat moves (line_moves lines own) v was.ran.last
            (has ∙ ap (λ (o : Option Answer). line_moves lines own ++ closing_of seat (told_when_cut o)) was.unclosed ∙ append-nil (line_moves lines own)) was.ran.run;
        gave_up = subst (λ (s : Session). WasGivenUp (was.ran.last.session seat) s) it.at_end.own (given_up f seat was.ran.last was.between it.last was.ran.within was.ran.went was.gave);
        within = was.ran.within;
      })

  -- one that is told as closed was sealed, and has no line more
  work_closed : (a : Answer) (it : DidSession f seat v lines own end) → told_when_cut end ≡ Some a → Closes Sealed a × (slice_get lines (length own) ≡ None)
  work_closed a it told = elim (slice_get_cases lines (length own)).1 [
    | inl here ↦ absurd (let none = (it.did.cut here.1).0 in let no : None ≡ Some a = sym (ap told_when_cut none) ∙ told in cc)
    | inr past ↦
        let all : length own ≡ length lines = (let least = past.0 in let most = it.most in omega (arith, most, least)) in
        (decided_so (phase_at it.did.last seat) seat end it.did.last it.last a (it.did.whole all) told, past.1)
  ]

  client_closed : (a : Answer) → DidSo DidForClient f seat v lines own end → told_when_cut end ≡ Some a → Closes Sealed a × (slice_get lines (length own) ≡ None)
  client_closed a it told = by it.did
    where
      by : DidForClient f seat lines own end v it.last → Closes Sealed a × (slice_get lines (length own) ≡ None)
      by (inl work) = work_closed a (worked it work) told
      by (inr was) = absurd (let no : None ≡ Some a = sym (ap told_when_cut was.unclosed) ∙ told in cc)

part_of_cut : (f : View) (seat : ℕ) (next : Option ScriptLine) (v : View) (moves : List Move) → IsCutPart f seat next v moves → IsStarvedPart f seat next v moves
part_of_cut f seat next v moves part = inl part

-- ALL OF THEM
pub are_starved : TranscriptsAreAStarvedRun
are_starved v f all closed opened are few many works =
    let script = lines_of all in
    let parts = parts_of all in
    let answers = answers_by all in
    let its = split v all opened are few many in
    let puts = merged all are in
    record {
      opened = opened;
      ranges = its.ranges;
      few = few;
      each = puts.many;
      named = named IsStarvedPart client_part part_of_cut client_closed v f script parts answers closed (answers_of all) its works puts;
      opening = works.beyond.opening;
      ascend = ascending 1 (map told_when_cut closed);
      sessions = sessions IsStarvedPart client_part part_of_cut client_closed v f script parts answers closed (answers_of all) its works puts;
      decided = decided IsStarvedPart client_part part_of_cut client_closed v f script parts answers closed (answers_of all) its works puts;
      own = own_part IsStarvedPart client_part part_of_cut client_closed v f script parts answers closed (answers_of all) its works puts;
      ends = works.ends_so;
    }
