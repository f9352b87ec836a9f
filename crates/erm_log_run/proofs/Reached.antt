-- The log is flushed to the place that an answer tells, or to one above it.
use Rattle.std.proofs.Common.{◌≡◌, ℕ, ◌+◌, ◌≤◌, Option, Some, None, refl, subst, ap, ◌∙◌, arith, inl, inr}
use Rattle.erm_model.specs.declared.outcome.Phase.{Phase}
use Rattle.erm_model.specs.declared.outcome.Phase.TheVariants.{Active, Idle, Sealed, Pending, Safe}
use Rattle.erm_report.specs.declared.answer.Answer.{Answer}
use Rattle.erm_report.specs.declared.answer.Answer.TheVariants as answer
use Rattle.erm_script.specs.declared.script.Command.{Command}
use Rattle.erm_script.specs.declared.script.Command.TheVariants as command
use Rattle.erm_script.specs.declared.script.ScriptLine.{ScriptLine}
use Rattle.erm_world.specs.World.{View, Work, phase_at, size_of}
use Rattle.erm_good_report.specs.Phases.{FitsRefusal, IsAnswerTo, need_of, refusal_in, refusal_of}
use Rattle.erm_good_report.proofs.Phases.{phase_refuses}
use Rattle.erm_lines.specs.Answers.{DidAskDurable, DidAsked, DidIn, DidLine}
use Rattle.erm_lines.specs.Executions.{DidLog, DidMove, move_of}
use Rattle.erm_lines.proofs.Moved.{moved}
use Rattle.erm_good_report.specs.Stamps.{place_told}
use Rattle.erm_log_run.specs.Acknowledged.{EndsAt}

-- a block has words
some_size : (w : Work) → 1 ≤ size_of w
some_size w = omega arith

-- where this place is the one told
same_place : (told place : ℕ) → Some told ≡ Some place → told ≡ place
same_place told place is = cc

-- a line of the log
log_reaches : (v t : View) (c : Command) (a : Answer) (place : ℕ) → DidLog v c a t → place_told a ≡ Some place → EndsAt a place t.flushed
log_reaches v t command.Flush (answer.Flushed p) place did told = did.0.up ∙ same_place p place told
log_reaches v t command.Flush (answer.Empty p) place did told = did.0.up ∙ same_place p place told
log_reaches v t command.Flush (answer.Unfilled p) place did told = did.0.up ∙ same_place p place told
log_reaches v t command.Checkpoint (answer.Checkpointed p) place did told = did.0.up ∙ same_place p place told
log_reaches v t command.Checkpoint (answer.Unfilled p) place did told = did.0.up ∙ same_place p place told
log_reaches v t c a place did told = absurd did

-- a commit that is durable tells a place
durable_reaches : (v t : View) (seat stamp place : ℕ) → DidAskDurable v seat (answer.Durable stamp) t → Some (stamp + 1) ≡ Some place → EndsAt (answer.Durable stamp) place t.flushed
durable_reaches v t seat stamp place did told =
    let still = ap (λ (x : View). x.flushed) did.0 in
    let last = did.1.1 in
    let ends = last.ends in
    let low = did.1.2 in
    let size = some_size last.last.work in
    let same = same_place (stamp + 1) place told in
    omega (arith, still, ends, low, size, same)

-- whether it is, is asked in each phase alike
in_durable : (p : Phase) (v t : View) (seat : ℕ) (a : Answer) → DidIn p v seat command.Durable a t → DidAskDurable v seat a t
in_durable Idle v t seat a did = did
in_durable Active v t seat a did = did
in_durable Sealed v t seat a did = did
in_durable Pending v t seat a did = did
in_durable Safe v t seat a did = did

-- in no phase a session runs a line of the log
never_flushes : (p : Phase) (v t : View) (seat : ℕ) (a : Answer) → DidIn p v seat command.Flush a t → ⊥
never_flushes Idle v t seat a did = did
never_flushes Active v t seat a did = did
never_flushes Sealed v t seat a did = did
never_flushes Pending v t seat a did = did
never_flushes Safe v t seat a did = did

never_saves : (p : Phase) (v t : View) (seat : ℕ) (a : Answer) → DidIn p v seat command.Checkpoint a t → ⊥
never_saves Idle v t seat a did = did
never_saves Active v t seat a did = did
never_saves Sealed v t seat a did = did
never_saves Pending v t seat a did = did
never_saves Safe v t seat a did = did

-- a line of a session whose phase allows it: no other one tells a place
command_reaches : (p : Phase) (v t : View) (seat : ℕ) (c : Command) (a : Answer) (place : ℕ) → IsAnswerTo c a → DidIn p v seat c a t → place_told a ≡ Some place → EndsAt a place t.flushed
command_reaches p v t seat command.Flush a place fits did told = absurd (never_flushes p v t seat a did)
command_reaches p v t seat command.Checkpoint a place fits did told = absurd (never_saves p v t seat a did)
command_reaches p v t seat command.Durable (answer.Durable stamp) place fits did told = durable_reaches v t seat stamp place (in_durable p v t seat (answer.Durable stamp) did) told
command_reaches p v t seat c (answer.Flushed q) place fits did told = absurd fits
command_reaches p v t seat c (answer.Empty q) place fits did told = absurd fits
command_reaches p v t seat c (answer.Unfilled q) place fits did told = absurd fits
command_reaches p v t seat c (answer.Checkpointed q) place fits did told = absurd fits
command_reaches p v t seat c (answer.Durable q) place fits did told = absurd fits
command_reaches p v t seat c a place fits did told = absurd (let no : None ≡ Some place = told in cc)

-- a refusal by a phase tells no place
refusal_tells_none : (r : Answer) (place : ℕ) → refusal_in r ≡ Some r → place_told r ≡ Some place → ⊥
refusal_tells_none answer.NotIdle place is told = let no : None ≡ Some place = told in cc
refusal_tells_none answer.NoTransaction place is told = let no : None ≡ Some place = told in cc
refusal_tells_none answer.IsSealed place is told = let no : None ≡ Some place = told in cc
refusal_tells_none answer.NotSealed place is told = let no : None ≡ Some place = told in cc
refusal_tells_none answer.ReadOnly place is told = let no : None ≡ Some place = told in cc
refusal_tells_none answer.NotSafe place is told = let no : None ≡ Some place = told in cc
refusal_tells_none r place is told = let no : None ≡ Some r = is in cc

line_reaches : (v t : View) (l : ScriptLine) (a : Answer) (place : ℕ) → DidLine v l a t → place_told a ≡ Some place → EndsAt a place t.flushed
line_reaches v t l a place is told = by (refusal_of (phase_at v l.session) l.command) refl is.fits is.did
  where
    by : (o : Option Answer) → refusal_of (phase_at v l.session) l.command ≡ o → FitsRefusal o l.command a → DidAsked o v l.session l.command a t → EndsAt a place t.flushed
    by None free fits did = command_reaches (phase_at v l.session) v t l.session l.command a place fits did told
    by (Some r) refused fits did =
        absurd (refusal_tells_none r place (phase_refuses (need_of l.command) (phase_at v l.session) r refused) (subst (λ (x : Answer). place_told x ≡ Some place) fits told))

-- any line
pub move_reaches : (v t : View) (l : ScriptLine) (a : Answer) (place : ℕ) → DidMove v (move_of l a) t → place_told a ≡ Some place → EndsAt a place t.flushed
move_reaches v t l a place did told = elim (moved v l a t did) [
  | inl is ↦ line_reaches v t l a place is told
  | inr is ↦ log_reaches v t l.command a place is.did told
]

-- a line of a session doesn't tell of a checkpoint
no_command : (p : Phase) (v t : View) (seat : ℕ) (c : Command) (place : ℕ) → IsAnswerTo c (answer.Checkpointed place) → DidIn p v seat c (answer.Checkpointed place) t → ⊥
no_command p v t seat command.Checkpoint place fits did = never_saves p v t seat (answer.Checkpointed place) did
no_command p v t seat c place fits did = fits

pub no_checkpoint : (v t : View) (l : ScriptLine) (place : ℕ) → DidLine v l (answer.Checkpointed place) t → ⊥
no_checkpoint v t l place is = by (refusal_of (phase_at v l.session) l.command) refl is.fits is.did
  where
    by : (o : Option Answer) → refusal_of (phase_at v l.session) l.command ≡ o → FitsRefusal o l.command (answer.Checkpointed place) → DidAsked o v l.session l.command (answer.Checkpointed place) t → ⊥
    by None free fits did = no_command (phase_at v l.session) v t l.session l.command place fits did
    by (Some r) refused fits did =
        refusal_tells_none r place (phase_refuses (need_of l.command) (phase_at v l.session) r refused) (subst (λ (x : Answer). place_told x ≡ Some place) fits refl)
