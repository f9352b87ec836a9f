-- What a line at once that makes a savepoint, or goes back to one, was answered has its cause in its transaction's lines.
use Rattle.std.proofs.Common.{◌≡◌, ℕ, ◌+◌, ◌<◌, ◌⊎◌, List, length, Option, Some, None, refl, sym, ap, ◌∙◌, subst, arith}
use Rattle.std.proofs.lemmas.Option.{slice_get_within}
use Rattle.erm_model.specs.declared.outcome.Phase.TheVariants.{Active}
use Rattle.erm_model.specs.Run.{Step}
use Rattle.erm_report.specs.declared.answer.Answer.{Answer}
use Rattle.erm_report.specs.declared.answer.Answer.TheVariants as answer
use Rattle.erm_script.specs.declared.script.Command.{Command}
use Rattle.erm_script.specs.declared.script.Command.TheVariants as command
use Rattle.erm_script.specs.declared.script.ScriptLine.{ScriptLine}
use Rattle.erm_world.specs.Going.{Extends}
use Rattle.erm_world.specs.World.{View, Work, phase_at}
use Rattle.erm_maps.specs.Runs.{IsAnswered}
use Rattle.erm_good_report.specs.Phases.{FitsRefusal, NeedsWriter, need_of, refusal_in, refusal_of}
use Rattle.erm_good_report.proofs.Phases.{phase_refuses}
use Rattle.erm_good_report.specs.Refusals.{HasSaveCause}
use Rattle.erm_good_report.specs.Transactions.{Transaction, held_of}
use Rattle.erm_lines.proofs.Keeping.{NoneRuns}
use Rattle.erm_lines.proofs.Moved.{active_where}
use Rattle.erm_lines_at_once.specs.Answers.{DidAskedBeside, DidCommandBeside, DidInBeside, DidLineBeside}
use Rattle.erm_lines_at_once.proofs.Watched.{in_phase}
use Rattle.erm_told_at_once.proofs.Runs.{line_there}
use Rattle.erm_causes_at_once.specs.Laws.{RunsInPartTellSaves}

-- an answer that is no refusal by a phase is that of a command which the phase allowed
pub record Allowed (f : View) (seat : ℕ) (c : Command) (a : Answer) (v t : View) : Type 0 where
  pub free : refusal_of (phase_at v seat) c ≡ None
  pub did : DidInBeside (phase_at v seat) f seat c a v t

pub allowed_free : (f : View) (l : ScriptLine) (a : Answer) (v t : View) → DidLineBeside f l a v t → refusal_in a ≡ None → Allowed f l.session l.command a v t
allowed_free f l a v t did none = by (refusal_of (phase_at v l.session) l.command) refl did.fits did.did
  where
    by : (r : Option Answer) → refusal_of (phase_at v l.session) l.command ≡ r → FitsRefusal r l.command a → DidAskedBeside r f l.session l.command a v t → Allowed f l.session l.command a v t
    by None is fits did = record { free = is; did = did }
    by (Some r) is fits did =
        let no : None ≡ Some r = sym none ∙ ap refusal_in fits ∙ phase_refuses (need_of l.command) (phase_at v l.session) r is in cc

-- the session's own part, where its transaction holds as many as its lines tell
module _ (f : View) (seat : ℕ) (own : Transaction) (v t : View) (held : phase_at v seat ≡ Active → held_of own ≡ length (v.saves seat)) where
  save_cause : (a : Answer) → phase_at v seat ≡ Active → DidCommandBeside f seat command.Save a v t → HasSaveCause (held_of own) command.Save a
  save_cause (answer.Saved told) active (u, passes, did) =
      let same : held_of own ≡ length (u.saves seat) = held active ∙ ap length (sym passes.saves) in
      (omega (arith, did.room, same), did.held_is ∙ ap (λ (n : ℕ). n + 1) (sym same))
  save_cause answer.SavesFull active (u, passes, did) = held active ∙ ap length (sym passes.saves) ∙ did.2
  save_cause a active (u, passes, did) = absurd did

  back_cause : (n : ℕ) (a : Answer) → phase_at v seat ≡ Active → DidCommandBeside f seat (command.Back n) a v t → HasSaveCause (held_of own) (command.Back n) a
  back_cause n (answer.Back told) active (u, passes, did) =
      let same : held_of own ≡ length (u.saves seat) = held active ∙ ap length (sym passes.saves) in
      let back = did.1 in
      let within = slice_get_within (u.saves seat) back.place back.saved back.was_saved in
      (omega (arith, back.number), omega (arith, back.number, within, same))
  back_cause n (answer.NoSave told) active (u, passes, did) =
      let same : told ≡ held_of own = did.1 ∙ sym (held active ∙ ap length (sym passes.saves)) in
      (same, subst (λ (k : ℕ). (n ≡ 0) ⊎ (k < n)) same did.2)
  back_cause n a active (u, passes, did) = absurd did

  saved_cause : (a : Answer) → Allowed f seat command.Save a v t → HasSaveCause (held_of own) command.Save a
  saved_cause a it =
      in_phase (HasSaveCause (held_of own) command.Save a) f seat command.Save a v t
      (λ plain done. save_cause a (active_where NeedsWriter (phase_at v seat) tt plain it.free) done) (λ has done. absurd done) it.did

  went_cause : (n : ℕ) (a : Answer) → Allowed f seat (command.Back n) a v t → HasSaveCause (held_of own) (command.Back n) a
  went_cause n a it =
      in_phase (HasSaveCause (held_of own) (command.Back n) a) f seat (command.Back n) a v t
      (λ plain done. back_cause n a (active_where NeedsWriter (phase_at v seat) tt plain it.free) done) (λ has done. absurd done) it.did

  pub line_cause : (c : Command) (a : Answer) → (refusal_in a ≡ None → Allowed f seat c a v t) → HasSaveCause (held_of own) c a
  line_cause command.Save (answer.Saved told) it = saved_cause (answer.Saved told) (it refl)
  line_cause command.Save answer.SavesFull it = saved_cause answer.SavesFull (it refl)
  line_cause (command.Back n) (answer.Back told) it = went_cause n (answer.Back told) (it refl)
  line_cause (command.Back n) (answer.NoSave told) it = went_cause n (answer.NoSave told) (it refl)
  line_cause c a it = tt

module _ (runs : NoneRuns) (stay : (w u : Work) (steps : List Step) → Extends w u → IsAnswered w steps → IsAnswered u steps) where
  pub part_saves : RunsInPartTellSaves
  part_saves v f whole part answers closed opening run of all i l a at answered own current =
      let there = line_there runs stay v f whole part answers closed run i l a at answered in
      line_cause f l.session own there.before there.after (λ active. (there.knows.told.runs own current active).held) l.command a (allowed_free f l a there.before there.after there.did)
