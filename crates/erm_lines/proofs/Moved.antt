-- The move of a line: it is that of a session, or of the log, which leaves the sessions.
use Rattle.std.proofs.Common.{◌≡◌, sym, ◌≢◌, ℕ, ◌<◌, ◌⊎◌, List, ◌∷◌, Some, None, refl, subst, inl, inr, arith}
use Rattle.erm_model.specs.declared.outcome.Phase.{Phase}
use Rattle.erm_model.specs.declared.outcome.Phase.TheVariants.{Active, Idle, Sealed, Pending, Safe}
use Rattle.erm_report.specs.declared.answer.Answer.{Answer}
use Rattle.erm_report.specs.declared.answer.Answer.TheVariants as answer
use Rattle.erm_script.specs.declared.script.Command.{Command}
use Rattle.erm_script.specs.declared.script.Command.TheVariants as command
use Rattle.erm_script.specs.declared.script.ScriptLine.{ScriptLine}
use Rattle.erm_world.specs.World.{View, phase_at}
use Rattle.erm_good_report.specs.Phases.{HasNoSnapshot, IsAnswerTo, Need, NeedsAny, NeedsReader, NeedsWriter, refusal_for, refusal_of}
use Rattle.erm_lines.specs.Answers.{DidAskDurable, DidAsked, DidIn, DidLine}
use Rattle.erm_lines.specs.Executions.{DidFlush, DidLog, DidLogLine, DidMove, Move, move_as, move_of, said_in}

-- it was run as one of these
pub moved : (v : View) (l : ScriptLine) (a : Answer) (u : View) → DidMove v (move_of l a) u → DidLine v l a u ⊎ DidLogLine v l a u
moved v l a u did = by l.command did
  where
    by : (c : Command) → DidMove v (move_as c l a) u → DidLine v l a u ⊎ DidLogLine v l a u
    by command.Flush is = inr is
    by command.Checkpoint is = inr is
    by c is = inl is

-- in no phase a session runs a line of the log
no_flush : (p : Phase) (v : View) (seat : ℕ) (a : Answer) (u : View) → DidIn p v seat command.Flush a u → ⊥
no_flush Idle v seat a u did = did
no_flush Active v seat a u did = did
no_flush Sealed v seat a u did = did
no_flush Pending v seat a u did = did
no_flush Safe v seat a u did = did

no_checkpoint : (p : Phase) (v : View) (seat : ℕ) (a : Answer) (u : View) → DidIn p v seat command.Checkpoint a u → ⊥
no_checkpoint Idle v seat a u did = did
no_checkpoint Active v seat a u did = did
no_checkpoint Sealed v seat a u did = did
no_checkpoint Pending v seat a u did = did
no_checkpoint Safe v seat a u did = did

-- a line of a session is run as its move
pub line_moved : (v : View) (l : ScriptLine) (a : Answer) (u : View) → DidLine v l a u → DidMove v (move_of l a) u
line_moved v l a u did = by l.command refl
  where
    asked : (c : Command) → c ≡ l.command → DidAsked (refusal_of (phase_at v l.session) c) v l.session c a u
    asked c is = subst (λ (d : Command). DidAsked (refusal_of (phase_at v l.session) d) v l.session d a u) (sym is) did.did

    by : (c : Command) → c ≡ l.command → DidMove v (move_as c l a) u
    by command.Flush is = absurd (no_flush (phase_at v l.session) v l.session a u (asked command.Flush is))
    by command.Checkpoint is = absurd (no_checkpoint (phase_at v l.session) v l.session a u (asked command.Checkpoint is))
    by c is = did

-- it says what was asked and answered
pub said_move : (l : ScriptLine) (a : Answer) (moves : List Move) → said_in (move_of l a ∷ moves) ≡ record { session = l.session; asked = Some l.command; answer = a } ∷ said_in moves
said_move l a moves = by l.command
  where
    by : (c : Command) → said_in (move_as c l a ∷ moves) ≡ record { session = l.session; asked = Some l.command; answer = a } ∷ said_in moves
    by command.Flush = refl
    by command.Checkpoint = refl
    by c = refl

-- a line of the log leaves the sessions, and what is flushed stays so
pub logged_flushes : (v t : View) (c : Command) (a : Answer) → DidLog v c a t → DidFlush v t
logged_flushes v t command.Flush (answer.Flushed place) did = did.0.flushes
logged_flushes v t command.Flush (answer.Empty place) did = did.0.flushes
logged_flushes v t command.Flush (answer.Unfilled place) did = did.0.flushes
logged_flushes v t command.Checkpoint (answer.Checkpointed place) did = did.0.flushes
logged_flushes v t command.Checkpoint (answer.Unfilled place) did = did.0.flushes
logged_flushes v t c a did = absurd did

pub log_flushes : (v t : View) (l : ScriptLine) (a : Answer) → DidLogLine v l a t → DidFlush v t
log_flushes v t l a did = logged_flushes v t l.command a did.did

-- it has an answer that its command may have
pub logged_fits : (v t : View) (c : Command) (a : Answer) → DidLog v c a t → IsAnswerTo c a
logged_fits v t command.Flush (answer.Flushed place) did = tt
logged_fits v t command.Flush (answer.Empty place) did = tt
logged_fits v t command.Flush (answer.Unfilled place) did = tt
logged_fits v t command.Checkpoint (answer.Checkpointed place) did = tt
logged_fits v t command.Checkpoint (answer.Unfilled place) did = tt
logged_fits v t c a did = absurd did

-- its session is none
pub log_of_none : (v t : View) (l : ScriptLine) (a : Answer) (seat : ℕ) → DidLogLine v l a t → 0 < seat → l.session ≢ seat
log_of_none v t l a seat did above same = omega (arith, did.session, above, same)

-- what an active session has, besides others
abbrev pub IsOfActive : Need → Type 0
IsOfActive NeedsReader = Unit {0}
IsOfActive NeedsWriter = Unit {0}
IsOfActive NeedsAny = Unit {0}
IsOfActive need = ⊥

-- a phase without a snapshot that refuses nothing that needs this is that of an active session
pub active_where : (need : Need) (phase : Phase) → IsOfActive need → HasNoSnapshot phase → refusal_for (Some need) phase ≡ None → phase ≡ Active
active_where NeedsReader Idle of plain free = absurd (cc)
active_where NeedsReader Active of plain free = refl
active_where NeedsReader Sealed of plain free = absurd (cc)
active_where NeedsReader Pending of plain free = absurd plain
active_where NeedsReader Safe of plain free = absurd plain
active_where NeedsWriter Idle of plain free = absurd (cc)
active_where NeedsWriter Active of plain free = refl
active_where NeedsWriter Sealed of plain free = absurd (cc)
active_where NeedsWriter Pending of plain free = absurd plain
active_where NeedsWriter Safe of plain free = absurd plain
active_where NeedsAny Idle of plain free = absurd (cc)
active_where NeedsAny Active of plain free = refl
active_where NeedsAny Sealed of plain free = absurd (cc)
active_where NeedsAny Pending of plain free = absurd plain
active_where NeedsAny Safe of plain free = absurd plain
active_where need phase of plain free = absurd of

-- the question whether a commit is on the disk changes nothing
pub asked_still : (v t : View) (seat : ℕ) (a : Answer) → DidAskDurable v seat a t → t ≡ v
asked_still v t seat (answer.Durable stamp) did = did.0
asked_still v t seat (answer.NotFlushed flushed) did = did.0
asked_still v t seat answer.NoReceipt did = did.0
asked_still v t seat a did = absurd did
