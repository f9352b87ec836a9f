-- What a line that makes a savepoint, or goes back to one, was answered has its cause in its transaction's lines.
use Rattle.std.proofs.Common.{◌≡◌, ℕ, ◌+◌, ◌<◌, ◌⊎◌, List, length, take, Some, None, refl, sym, ap, ◌∙◌, subst, ⊎_elim, arith}
use Rattle.std.proofs.lemmas.Option.{slice_get_within}
use Rattle.erm_model.specs.declared.outcome.Phase.TheVariants.{Active}
use Rattle.erm_report.specs.declared.answer.Answer.{Answer}
use Rattle.erm_report.specs.declared.answer.Answer.TheVariants as answer
use Rattle.erm_script.specs.declared.script.Command.{Command}
use Rattle.erm_script.specs.declared.script.Command.TheVariants as command
use Rattle.erm_script.specs.declared.script.ScriptLine.{ScriptLine}
use Rattle.erm_world.specs.World.{IsSession, View, phase_at}
use Rattle.erm_good_report.specs.Phases.{NeedsWriter, refusal_in}
use Rattle.erm_good_report.specs.Refusals.{HasSaveCause}
use Rattle.erm_good_report.specs.Transactions.{Said, Transaction, held_of, progress_of, said_of}
use Rattle.erm_lines.specs.Answers.{DidLine}
use Rattle.erm_lines.specs.Executions.{DidLog, DidLogLine, IsCourse, Move, line_moves, said_in}
use Rattle.erm_lines.specs.Laws.{ExecutionsGoOn, ExecutionsHold, ExecutionsTell}
use Rattle.erm_lines.proofs.Moved.{active_where, moved}
use Rattle.erm_told.proofs.Runs.{AtLine, at_line, said_first}
use Rattle.erm_causes.specs.Laws.{RunsTellSaves}
use Rattle.erm_causes.proofs.Fine.{still_session}
use Rattle.erm_causes.proofs.Waits.{Commanded, allowed, commanded}

-- a session's line, where its transaction holds as many as its lines tell
line_cause : (v t : View) (seat : ℕ) (c : Command) (a : Answer) (own : Transaction) → (refusal_in a ≡ None → Commanded v seat c a t)
    → (phase_at v seat ≡ Active → held_of own ≡ length (v.saves seat)) → HasSaveCause (held_of own) c a
line_cause v t seat command.Save (answer.Saved told) own by held =
    let it = by refl in
    let same = held (active_where NeedsWriter (phase_at v seat) tt it.plain it.free) in
    (omega (arith, it.did.room, same), it.did.held_is ∙ ap (λ (n : ℕ). n + 1) (sym same))
line_cause v t seat command.Save answer.SavesFull own by held =
    let it = by refl in held (active_where NeedsWriter (phase_at v seat) tt it.plain it.free) ∙ it.did.2
line_cause v t seat (command.Back n) (answer.Back told) own by held =
    let it = by refl in
    let back = it.did.1 in
    let same = held (active_where NeedsWriter (phase_at v seat) tt it.plain it.free) in
    let within = slice_get_within (v.saves seat) back.place back.saved back.was_saved in
    (omega (arith, back.number), omega (arith, back.number, within, same))
line_cause v t seat (command.Back n) (answer.NoSave told) own by held =
    let it = by refl in
    let same : told ≡ held_of own = it.did.1 ∙ sym (held (active_where NeedsWriter (phase_at v seat) tt it.plain it.free)) in
    (same, subst (λ (k : ℕ). (n ≡ 0) ⊎ (k < n)) same it.did.2)
line_cause v t seat c a own by held = tt

-- and one of the log, which is none
log_cause : (v t : View) (c : Command) (a : Answer) (held : ℕ) → DidLog v c a t → HasSaveCause held c a
log_cause v t command.Flush a held did = tt
log_cause v t command.Checkpoint a held did = tt
log_cause v t c a held did = absurd did

module _ (tell : ExecutionsTell) (go : ExecutionsGoOn) (hold : ExecutionsHold) (v t : View) (script : List ScriptLine) (answers : List Answer) (run : IsCourse v script answers t)
    (i : ℕ) (l : ScriptLine) (a : Answer) (there : AtLine v script answers run.between i l a) (own : Transaction) (current : (progress_of l.session (take i (said_of script answers))).current ≡ Some own) where
  abbrev moves : List Move
  moves = line_moves (take i script) (take i answers)

  session_cause : DidLine there.before l a there.after → HasSaveCause (held_of own) l.command a
  session_cause did =
      let session : IsSession v l.session = still_session there.before v l.session (sym (go v there.before moves there.start).0) did.session in
      let current_is : (progress_of l.session (said_in moves)).current ≡ Some own =
      ap (λ (said : List Said). (progress_of l.session said).current) (said_first i script answers) ∙ current in
      let tells = (tell v there.before moves run.opened there.start l.session session).0 in
      line_cause there.before there.after l.session l.command a own
      (λ none. commanded there.before l.session l.command a there.after (progress_of l.session (said_in moves)).current own tells.now current_is (allowed there.before l a there.after none did))
      (λ active. hold v there.before moves run.opened there.start l.session session own current_is active)

  save_cause : HasSaveCause (held_of own) l.command a
  save_cause =
      ⊎_elim session_cause (λ (did : DidLogLine there.before l a there.after). log_cause there.before there.after l.command a (held_of own) did.did)
      (moved there.before l a there.after there.did)

pub runs_saves : ExecutionsTell → ExecutionsGoOn → ExecutionsHold → RunsTellSaves
runs_saves tell go hold v t script answers run closed opening are starts i l a at answered own current =
    save_cause tell go hold v t script answers run i l a (at_line script answers v run.between i l a run.lines at answered) own current
