-- Stretches of a client's transcript, from one moment to a later one: what it has more, and what was so in between.
use Rattle.std.specs.Prelude.{◌≡◌, ℕ, ◌+◌, ◌≤◌, List, ◌++◌}
use Rattle.erm_client.specs.Dealings.{IsAt, begins_in, commits_told, snapshots_told}
use Rattle.erm_client.specs.declared.refusal.Refusal.{Refusal}
use Rattle.erm_client.specs.declared.refusal.Refusal.TheVariants as refusal
use Rattle.erm_client.specs.declared.transcript.Standing.{Standing}
use Rattle.erm_client.specs.declared.transcript.Standing.TheVariants as standing
use Rattle.erm_client.specs.declared.transcript.Transcript.{Transcript}
use Rattle.erm_client.specs.Transcripts.{IsRefused, IsSame, KeepsRoom}
use Rattle.erm_model.specs.Committed.{Committed}
use Rattle.erm_model.specs.Run.{Step}
use Rattle.erm_report.specs.declared.answer.Answer.{Answer}
use Rattle.erm_script.specs.declared.script.Command.{Command}
use Rattle.erm_script.specs.declared.script.ScriptLine.{ScriptLine}

-- The later one has what the earlier one has, and maybe more behind it. One that is asked no more stays as it is.
pub record Grew (c d : Transcript) : Type 0 where
  pub seat : d.seat ≡ c.seat
  pub lines : (more : List ScriptLine) × (d.lines.items ≡ c.lines.items ++ more)
  pub answers : (more : List Answer) × (d.answers.items ≡ c.answers.items ++ more)
  pub over : (c.standing ≡ standing.Open → ⊥) → IsSame c d
  pub room : KeepsRoom c d

-- In between at most so many lines were begins, just these transactions committed, and just these snapshots ended.
pub record Went (begins : ℕ) (commits snapshots : List Committed) (c d : Transcript) : Type 0 where
  pub grew : Grew c d
  pub begins_are : begins_in d ≤ begins_in c + begins
  pub commits_are : commits_told d ≡ commits_told c ++ commits
  pub snapshots_are : snapshots_told d ≡ snapshots_told c ++ snapshots

-- how a client stands once a call of it was refused so: one that was told to stop has stopped
abbrev pub StandsBehind : Refusal → Standing → Type 0
StandsBehind refusal.Stopped s = s ≡ standing.Stopped
StandsBehind why s = Unit {0}

-- In between a command was refused so, and the client stands as behind that.
pub record WasRefused (why : Refusal) (c d : Transcript) : Type 0 where
  pub before : Transcript
  pub after : Transcript
  pub asked : Command
  pub since : Grew c before
  pub refused : IsRefused before asked why after
  pub until : Grew after d
  pub standing_so : StandsBehind why d.standing

-- In between there was a moment when the transaction in progress had been answered these operations.
pub record WasAt (steps : List Step) (c d : Transcript) : Type 0 where
  pub moment : Transcript
  pub since : Grew c moment
  pub is : IsAt moment steps
  pub until : Grew moment d
