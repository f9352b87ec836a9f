-- What all sessions did as an execution of the whole script.
use Rattle.std.proofs.Common.{◌≡◌, ℕ, ◌+◌, ◌<◌, List, [], ◌++◌, length, Option, Some, ap, ◌∙◌, subst, arith}
use Rattle.std.specs.List.{slice_get}
use Rattle.erm_model.specs.declared.outcome.Phase.TheVariants.{Idle}
use Rattle.erm_report.specs.declared.answer.Answer.{Answer}
use Rattle.erm_script.specs.declared.script.ScriptLine.{ScriptLine}
use Rattle.erm_world.specs.World.{IsSession, Session, View, phase_at, phase_of}
use Rattle.erm_lines.specs.Executions.{Move, line_moves}
use Rattle.erm_lines_at_once.specs.Executions.{IsOwnPart, IsRunAtOnce, all_moves}
use Rattle.erm_threads.specs.Merged.{own_answers}
use Rattle.erm_threads.specs.Parts.{own_lines}
use Rattle.erm_threads.proofs.Merged.{own_all}
use Rattle.erm_joined.specs.Merged.{AreMerged, closes_from}
use Rattle.erm_joined.proofs.Closes.{ascending, closing_of, in_closes, none_closed, own_closed}
use Rattle.erm_works.specs.Runs.{WorksAreARun}
use Rattle.erm_works.specs.Works.{AreComplete, AreWorks, IsComplete, IsSplit}
use Rattle.erm_works.proofs.Moves.{no_lines}
use Rattle.erm_works.proofs.Places.{by_place, is_session, not_its, of_first, own_session, stays}
use Rattle.erm_works.proofs.Sessions.{idle_there, no_session, whole_session}

module _ (v f : View) (script : List ScriptLine) (parts : List (List ScriptLine)) (answers : List (List Answer)) (closed : List (Option Answer)) (merged : List Answer)
    (split : IsSplit v script parts) (works : AreWorks v f parts answers closed) (complete : AreComplete f parts answers) (puts : AreMerged script answers merged) where
  abbrev moves : List Move
  moves = all_moves script merged (closes_from 1 closed)

  with_part : (k : ℕ) (lines : List ScriptLine) (own : List Answer) (end : Option Answer) → slice_get parts k ≡ Some lines → slice_get answers k ≡ Some own → slice_get closed k ≡ Some end
      → IsOwnPart f (k + 1) v moves
  with_part k lines own end lines_at own_at end_at =
      let whole = subst (λ (ls : List ScriptLine). IsComplete f (k + 1) ls own) (split.own k lines lines_at) (complete k lines own lines_at own_at) in
      whole_session f (k + 1) v (own_lines (k + 1) script) own end moves (own_session v f script parts answers closed split works k lines own end lines_at own_at end_at) whole
      (own_all (k + 1) script merged (closes_from 1 closed)
      ∙ ap (λ (ms : List Move). line_moves (own_lines (k + 1) script) (own_answers (k + 1) script merged) ++ ms) (own_closed (k + 1) 1 k closed end (omega arith) end_at)
      ∙ ap (λ (as_told : List Answer). line_moves (own_lines (k + 1) script) as_told ++ closing_of (k + 1) end) (puts.own k own own_at))

  without_part : (s : ℕ) → IsSession v s → length parts < s → IsOwnPart f s v moves
  without_part s session behind =
      let many = works.as_many.1 in
      let none = none_closed s 1 closed (λ k few here. absurd (omega (arith, few, here, behind, many))) in
      no_session f s v moves
      (own_all s script merged (closes_from 1 closed)
      ∙ ap (λ (ms : List Move). line_moves (own_lines s script) (own_answers s script merged) ++ ms) none
      ∙ ap (λ (ls : List ScriptLine). line_moves ls (own_answers s script merged) ++ []) (no_lines s script (not_its v f script parts answers closed split works s behind)))
      (stays v f script parts answers closed split works s session behind)

  own_part : (s : ℕ) → IsSession v s → IsOwnPart f s v moves
  own_part s session = by_place v f script parts answers closed split works s session.0 (IsOwnPart f s v moves)
      (λ k lines own end is lines_at own_at end_at. subst (λ (x : ℕ). IsOwnPart f x v moves) is (with_part k lines own end lines_at own_at end_at))
      (λ behind. without_part s session behind)

  all_idle : (s : ℕ) → IsSession v s → phase_at f s ≡ Idle
  all_idle s session = by_place v f script parts answers closed split works s session.0 (phase_at f s ≡ Idle)
      (λ k lines own end is lines_at own_at end_at. subst (λ (x : ℕ). phase_at f x ≡ Idle) is
      (idle_there f (k + 1) v lines own end (works.each k lines own end lines_at own_at end_at) (complete k lines own lines_at own_at)))
      (λ behind. ap (λ (x : Session). phase_of x.stand) ((works.others s session behind).0 ∙ split.opened.idle s session))

  runs : IsRunAtOnce v script merged (closes_from 1 closed) f
  runs = record {
    opened = split.opened;
    ranges = split.ranges;
    few = split.few;
    each = puts.many;
    named = λ l m. let seat = split.seats l m in is_session v f script parts answers closed split works l.session seat.0 seat.1;
    opening = works.beyond.opening;
    ascend = ascending 1 closed;
    sessions = λ c m. let at = in_closes 1 closed c m in let few = at.1 in let is = at.2 in let many = works.as_many.1 in
        is_session v f script parts answers closed split works c.session (omega (arith, is)) (omega (arith, few, is, many));
    own = own_part;
    ends = works.ends_so;
    idle = λ s session. all_idle s (of_first v f script parts answers closed split works s session);
  }

pub are_a_run : WorksAreARun
are_a_run v f script parts answers closed merged split works complete puts = runs v f script parts answers closed merged split works complete puts
