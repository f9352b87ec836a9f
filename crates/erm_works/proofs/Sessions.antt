-- One session: what it did is its part of an execution, whole or cut off.
use Rattle.std.proofs.Common.{◌≡◌, ℕ, List, [], ◌++◌, length, Option, Some, None, inl, inr, refl, sym, ap, ◌∙◌, subst, arith}
use Rattle.std.specs.List.{slice_get}
use Rattle.std.proofs.lemmas.List.{append-nil}
use Rattle.std.proofs.lemmas.Option.{slice_get_cases}
use Rattle.erm_model.specs.declared.outcome.Phase.{Phase}
use Rattle.erm_model.specs.declared.outcome.Phase.TheVariants.{Active, Idle, Sealed, Pending, Safe}
use Rattle.erm_report.specs.declared.answer.Answer.{Answer}
use Rattle.erm_script.specs.declared.script.ScriptLine.{ScriptLine}
use Rattle.erm_world.specs.World.{Session, View, phase_at, phase_of}
use Rattle.erm_lines.specs.Executions.{Move, line_moves}
use Rattle.erm_beside.specs.Calls.{Passes}
use Rattle.erm_lines_at_once.specs.Answers.{DidEndBeside}
use Rattle.erm_lines_at_once.specs.CutRuns.{IsCutPart, stood}
use Rattle.erm_lines_at_once.specs.Executions.{IsOwnPart}
use Rattle.erm_worker.specs.Laws.{HasOwn, IsAtEnd}
use Rattle.erm_worker.specs.Work.{RanLines, WasClosed}
use Rattle.erm_worker.proofs.Parts.{closed as closed_part, given_up as aborted_part, left as left_part, whole as whole_part}
use Rattle.erm_worker.proofs.Waits.{passes_itself, passes_phase}
use Rattle.erm_threads.specs.Work.{WasEnded}
use Rattle.erm_threads.proofs.Closed.{closed_idle}
use Rattle.erm_joined.specs.Merged.{told_when_cut}
use Rattle.erm_joined.proofs.Closes.{closing_of}
use Rattle.erm_works.specs.Works.{DidSession, IsComplete}
use Rattle.erm_works.proofs.Closings.{closing_cases}

-- it stands in the world in which all ended as it was left
pub phase_there : (f : View) (seat : ℕ) (t : View) → IsAtEnd f seat t → phase_at t seat ≡ phase_at f seat
phase_there f seat t at = ap (λ (s : Session). phase_of s.stand) at.own

-- one that wasn't closed is idle behind its last line, or is sealed and waits
unclosed_idle : (p : Phase) (seat : ℕ) (u t : View) → phase_at u seat ≡ p → (phase_at t seat ≡ Sealed → ⊥) → WasEnded p seat None u t → phase_at t seat ≡ Idle
unclosed_idle Idle seat u t is decided (none, stays) = ap (λ (x : View). phase_at x seat) stays ∙ is
unclosed_idle Active seat u t is decided (sealed, passes) = absurd (decided (passes_phase seat u t passes ∙ sealed))
unclosed_idle Sealed seat u t is decided (sealed, passes) = absurd (decided (passes_phase seat u t passes ∙ sealed))
unclosed_idle Pending seat u t is decided (sealed, passes) = absurd (decided (passes_phase seat u t passes ∙ sealed))
unclosed_idle Safe seat u t is decided (sealed, passes) = absurd (decided (passes_phase seat u t passes ∙ sealed))

pub idle_there : (f : View) (seat : ℕ) (v : View) (lines : List ScriptLine) (answers : List Answer) (ended : Option Answer) → DidSession f seat v lines answers ended
    → IsComplete f seat lines answers → phase_at f seat ≡ Idle
idle_there f seat v lines answers (Some a) it (all, decided) =
    sym (phase_there f seat it.last it.at_end) ∙ closed_idle f seat lines answers a v it.last it.did all
idle_there f seat v lines answers None it (all, decided) =
    let there = phase_there f seat it.last it.at_end in
    let did = it.did in
    sym there ∙ unclosed_idle (phase_at did.last seat) seat did.last it.last refl (λ sealed. decided (sym there ∙ sealed)) (did.whole all)

-- WHOLE. All its lines were answered, and it doesn't wait.
module _ (f : View) (seat : ℕ) (lines : List ScriptLine) (answers : List Answer) (v u t : View) (moves : List Move) (ran : RanLines f seat lines answers v u)
    (all : length answers ≡ length lines) (at : IsAtEnd f seat t) where
  module _ (decided : phase_at f seat ≡ Sealed → ⊥) where
    was_closed : (ended : Option Answer) → HasOwn seat moves (line_moves lines answers ++ closing_of seat ended) → WasClosed seat ended u t → IsOwnPart f seat v moves
    was_closed (Some a) own did = closed_part f seat lines answers a v u t moves ran all did at own
    was_closed None own did = absurd (decided (sym (phase_there f seat t at) ∙ passes_phase seat u t did.1 ∙ did.0))

    was_ended : (p : Phase) (ended : Option Answer) → HasOwn seat moves (line_moves lines answers ++ closing_of seat ended) → WasEnded p seat ended u t → IsOwnPart f seat v moves
    was_ended Idle ended own (none, stays) =
        whole_part f seat lines answers v u t moves ran all (subst (λ (x : View). Passes seat u x) (sym stays) (passes_itself seat u)) at
        (own ∙ ap (λ (o : Option Answer). line_moves lines answers ++ closing_of seat o) none ∙ append-nil (line_moves lines answers))
    was_ended Active ended own did = was_closed ended own did
    was_ended Sealed ended own did = was_closed ended own did
    was_ended Pending ended own did = was_closed ended own did
    was_ended Safe ended own did = was_closed ended own did

pub whole_session : (f : View) (seat : ℕ) (v : View) (lines : List ScriptLine) (answers : List Answer) (ended : Option Answer) (moves : List Move) → DidSession f seat v lines answers ended
    → IsComplete f seat lines answers → HasOwn seat moves (line_moves lines answers ++ closing_of seat ended) → IsOwnPart f seat v moves
whole_session f seat v lines answers ended moves it complete own =
    let did = it.did in
    was_ended f seat lines answers v did.last it.last moves did.ran complete.0 it.at_end complete.1 (phase_at did.last seat) ended own (did.whole complete.0)

-- one without lines
pub no_session : (f : View) (seat : ℕ) (v : View) (moves : List Move) → HasOwn seat moves [] → IsAtEnd f seat v → IsOwnPart f seat v moves
no_session f seat v moves own at =
    whole_part f seat [] [] v v v moves (record { last = v; run = passes_itself seat v; whole = λ _. refl; cut = λ less. absurd (omega (arith, less)) }) refl (passes_itself seat v) at own

-- CUT OFF. A whole part is one behind which nothing was done.
pub from_part : (f : View) (seat : ℕ) (next : Option ScriptLine) (v : View) (moves : List Move) → IsOwnPart f seat v moves → IsCutPart f seat next v moves
from_part f seat next v moves part = record {
  last = part.last;
  end = part.last;
  run = part.run;
  rest = stood (passes_itself seat part.last);
  ends = part.ends;
  given_up = part.given_up;
  within = part.within;
}

-- all its lines were answered, and it was closed behind them, or waits
module _ (f : View) (seat : ℕ) (lines : List ScriptLine) (answers : List Answer) (v u t : View) (moves : List Move) (ran : RanLines f seat lines answers v u)
    (all : length answers ≡ length lines) (at : IsAtEnd f seat t) where
  waits : (ended : Option Answer) → told_when_cut ended ≡ None → HasOwn seat moves (line_moves lines answers ++ closing_of seat (told_when_cut ended)) → HasOwn seat moves (line_moves lines answers)
  waits ended none own = own ∙ ap (λ (o : Option Answer). line_moves lines answers ++ closing_of seat o) none ∙ append-nil (line_moves lines answers)

  cut_closed : (ended : Option Answer) → HasOwn seat moves (line_moves lines answers ++ closing_of seat (told_when_cut ended)) → WasClosed seat ended u t → IsCutPart f seat None v moves
  cut_closed None own did = from_part f seat None v moves (whole_part f seat lines answers v u t moves ran all did.1 at (waits None refl own))
  cut_closed (Some a) own did = elim (closing_cases (phase_at u seat) a did.fits) [
    | inl aborted ↦
        aborted_part f seat lines answers v u t moves ran all (subst (λ (x : Answer). DidEndBeside seat x u t) aborted did) at
        (waits (Some a) (ap (λ (x : Answer). told_when_cut (Some x)) aborted) own)
    | inr decided ↦
        from_part f seat None v moves
        (closed_part f seat lines answers a v u t moves ran all did at (own ∙ ap (λ (o : Option Answer). line_moves lines answers ++ closing_of seat o) decided.1))
  ]

  cut_ended : (p : Phase) (ended : Option Answer) → HasOwn seat moves (line_moves lines answers ++ closing_of seat (told_when_cut ended)) → WasEnded p seat ended u t
      → IsCutPart f seat None v moves
  cut_ended Idle ended own (none, stays) =
      from_part f seat None v moves
      (whole_part f seat lines answers v u t moves ran all (subst (λ (x : View). Passes seat u x) (sym stays) (passes_itself seat u)) at (waits ended (ap told_when_cut none) own))
  cut_ended Active ended own did = cut_closed ended own did
  cut_ended Sealed ended own did = cut_closed ended own did
  cut_ended Pending ended own did = cut_closed ended own did
  cut_ended Safe ended own did = cut_closed ended own did

-- all were answered, or it was left behind the first ones
pub cut_session : (f : View) (seat : ℕ) (v : View) (lines : List ScriptLine) (answers : List Answer) (ended : Option Answer) (moves : List Move) → DidSession f seat v lines answers ended
    → HasOwn seat moves (line_moves lines answers ++ closing_of seat (told_when_cut ended)) → IsCutPart f seat (slice_get lines (length answers)) v moves
cut_session f seat v lines answers ended moves it own =
    let did = it.did in
    elim (slice_get_cases lines (length answers)).1 [
      | inl here ↦
          let cut = did.cut here.1 in
          let stays : IsAtEnd f seat did.last = subst (λ (x : View). IsAtEnd f seat x) cut.1 it.at_end in
          left_part f seat lines answers v did.last moves did.ran here.1 stays
          (own ∙ ap (λ (o : Option Answer). line_moves lines answers ++ closing_of seat (told_when_cut o)) cut.0 ∙ append-nil (line_moves lines answers))
      | inr past ↦
          let all : length answers ≡ length lines = (let least = past.0 in let most = it.most in omega (arith, most, least)) in
          subst (λ (next : Option ScriptLine). IsCutPart f seat next v moves) (sym past.1)
          (cut_ended f seat lines answers v did.last it.last moves did.ran all it.at_end (phase_at did.last seat) ended own (did.whole all))
    ]
