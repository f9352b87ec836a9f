-- Lines by what they ask.
use Rattle.std.proofs.Common.{◌≡◌, ℕ, ◌<◌, ◌≤◌, IsSome, refl, sym, subst}
use Rattle.erm_model.specs.declared.outcome.Phase.{Phase}
use Rattle.erm_model.specs.declared.outcome.Phase.TheVariants as phase
use Rattle.erm_report.specs.declared.answer.Answer.{Answer}
use Rattle.erm_script.specs.declared.script.Command.{Command}
use Rattle.erm_script.specs.declared.script.Command.TheVariants as command
use Rattle.erm_script.specs.declared.script.ScriptLine.{ScriptLine}
use Rattle.erm_world.specs.World.{IsSession, Opening, View, phase_at}
use Rattle.erm_good_report.specs.Phases.{FitsPhase, need_of, refusal_of}
use Rattle.erm_lines.specs.Answers.{DidAsked, DidIn, DidLine}
use Rattle.erm_lines.specs.Executions.{DidLog, DidLogLine, DidMove, move_as, move_of}
use Rattle.erm_lines.specs.Whole.{WasAnswered}
use Rattle.erm_lines.proofs.Watched.{durable_in}
use Rattle.erm_log_run.specs.Lines.{IsLineOf, Names}

-- a command of a session that isn't `durable` needs something of it
pub asks_session : (c : Command) → (c ≡ command.Durable → ⊥) → (c ≡ command.Flush → ⊥) → (c ≡ command.Checkpoint → ⊥) → IsSome (need_of c)
asks_session command.Durable durable flush checkpoint = absurd (durable refl)
asks_session command.Flush durable flush checkpoint = absurd (flush refl)
asks_session command.Checkpoint durable flush checkpoint = absurd (checkpoint refl)
asks_session c durable flush checkpoint = refl

-- its line names a session
pub names_session : (v : View) (c : Command) (session : ℕ) → (c ≡ command.Flush → ⊥) → (c ≡ command.Checkpoint → ⊥) → Names v c session → IsSession v session
names_session v command.Flush session flush checkpoint names = absurd (flush refl)
names_session v command.Checkpoint session flush checkpoint names = absurd (checkpoint refl)
names_session v c session flush checkpoint names = names

-- `durable` is answered in each phase
pub durable_line : (v : View) (l : ScriptLine) (a : Answer) (t : View) → IsSession v l.session → l.command ≡ command.Durable → WasAnswered v l.session command.Durable a t → DidLine v l a t
durable_line v l a t session is was = record {
  session = session;
  fits = subst (λ (c : Command). FitsPhase (phase_at v l.session) c a) (sym is) (fits (phase_at v l.session));
  did = subst (λ (c : Command). DidAsked (refusal_of (phase_at v l.session) c) v l.session c a t) (sym is) (did (phase_at v l.session));
}
  where
    fits : (p : Phase) → FitsPhase p command.Durable a
    fits phase.Idle = was.fits
    fits phase.Active = was.fits
    fits phase.Sealed = was.fits
    fits phase.Pending = was.fits
    fits phase.Safe = was.fits

    asked : DidIn (phase_at v l.session) v l.session command.Durable a t
    asked = durable_in v t l.session a (phase_at v l.session) was.did

    did : (p : Phase) → DidAsked (refusal_of p command.Durable) v l.session command.Durable a t
    did phase.Idle = asked
    did phase.Active = asked
    did phase.Sealed = asked
    did phase.Pending = asked
    did phase.Safe = asked

-- a line of the log
pub log_line : (v : View) (l : ScriptLine) (a : Answer) (t : View) (c : Command) → l.command ≡ c → l.session ≡ 0 → DidLog v c a t → DidLogLine v l a t
log_line v l a t c is none did = record { session = none; did = subst (λ (d : Command). DidLog v d a t) (sym is) did }

pub flush_moved : (v : View) (l : ScriptLine) (a : Answer) (t : View) → l.command ≡ command.Flush → DidLogLine v l a t → DidMove v (move_of l a) t
flush_moved v l a t is did = subst (λ (c : Command). DidMove v (move_as c l a) t) (sym is) did

pub checkpoint_moved : (v : View) (l : ScriptLine) (a : Answer) (t : View) → l.command ≡ command.Checkpoint → DidLogLine v l a t → DidMove v (move_of l a) t
checkpoint_moved v l a t is did = subst (λ (c : Command). DidMove v (move_as c l a) t) (sym is) did

-- a line of a world is one of the same world later
names_too : (v t : View) (c : Command) (session : ℕ) → t.opening ≡ v.opening → Names v c session → Names t c session
names_too v t command.Flush session opening names = names
names_too v t command.Checkpoint session opening names = names
names_too v t c session opening names = subst (λ (o : Opening). (0 < session) × (session ≤ o.sessions)) (sym opening) names

pub line_of_too : (v t : View) (l : ScriptLine) → t.opening ≡ v.opening → IsLineOf v l → IsLineOf t l
line_of_too v t l opening is = record { session = names_too v t l.command l.session opening is.session; table = is.table }
