-- What the lines of transcripts tell.
use Rattle.std.proofs.Common.{◌≡◌, ℕ, zero, suc, List, [], ◌∷◌, Some, inl, inr, arith}
use Rattle.erm_client.proofs.Joined.{in_either}
use Rattle.erm_client.specs.declared.transcript.Transcript.{Transcript}
use Rattle.erm_client.specs.Laws.{answers_of}
use Rattle.erm_client_disk.specs.Leaves.{told_lines}
use Rattle.erm_disk_at_once.specs.Desks.{AnswersTell, AreAcknowledged}
use Rattle.erm_good_report.specs.GoodReport.{answer_lines}
use Rattle.erm_machine.proofs.Listed.{∈-first, ∈-second}
use Rattle.erm_model.proofs.Members.{none_in_nil, ∈-behind}
use Rattle.erm_model.specs.Member.{◌∈◌}
use Rattle.erm_report.specs.declared.answer.Answer.{Answer}
use Rattle.erm_report.specs.declared.line.Line.TheVariants as line
use Rattle.erm_script.specs.declared.script.ScriptLine.{ScriptLine}
use Rattle.erm_told_log_at_once.specs.Laws.{AreFlushed}
use Rattle.erm_world.specs.World.{View}

-- an answer that is told was given
told_given : (lines : List ScriptLine) (answers : List Answer) (n : ℕ) (a : Answer) → line.Answer n a ∈ answer_lines lines answers → a ∈ answers
told_given [] answers n a there = absurd (none_in_nil (line.Answer n a) there)
told_given (l ∷ lines) [] n a there = absurd (none_in_nil (line.Answer n a) there)
told_given (l ∷ lines) (b ∷ answers) n a (zero, at) = (zero, the_answer at)
  where
    the_answer : ◌≡◌ {A = _} (Some (line.Answer l.line b)) (Some (line.Answer n a)) → ◌≡◌ {A = _} (Some b) (Some a)
    the_answer is = cc
told_given (l ∷ lines) (b ∷ answers) n a (suc k, at) = ∈-behind b answers a (told_given lines answers n a (k, at))

all_given : (all : List Transcript) (n : ℕ) (a : Answer) → line.Answer n a ∈ told_lines all → a ∈ answers_of all
all_given [] n a there = absurd (none_in_nil (line.Answer n a) there)
all_given (c ∷ all) n a there = elim (in_either (answer_lines c.lines.items c.answers.items) (told_lines all) (line.Answer n a) there) [
  | inl here ↦ ∈-first c.answers.items (answers_of all) a (told_given c.lines.items c.answers.items n a here)
  | inr later ↦ ∈-second c.answers.items (answers_of all) a (all_given all n a later)
]

pub answers_tell : (all : List Transcript) → AnswersTell (answers_of all) (told_lines all)
answers_tell all place is = all_given all is.number is.answer is.told

-- of those that tell a place none is above what is flushed
pub acknowledged : (f : View) (end : ℕ) (answers : List Answer) → f.flushed ≡ end → AreFlushed f answers → AreAcknowledged end answers
acknowledged f end answers is are a m place tells = let it = are a m place tells in let low = it.2 in (it.0, it.1, omega (arith, low, is))
