-- What tellers promise of what they do, and of what they tell.
use Rattle.std.specs.Prelude.{◌≡◌, ℕ, ◌<◌, ◌≤◌, ◌^◌, ◌⊎◌, List, [], ◌∷◌, Ok, Err, length, max, min, vec_capacity, vec_len}
use Rattle.erm_accounts.specs.Totals.{AddUpTo}
use Rattle.erm_bank.specs.declared.teller.Errand.{Errand}
use Rattle.erm_bank.specs.declared.teller.Errand.TheVariants as errand
use Rattle.erm_bank.specs.declared.teller.Teller.{Teller}
use Rattle.erm_bank.specs.declared.teller.Told.{Told}
use Rattle.erm_bank.specs.declared.teller.Told.TheVariants as told
use Rattle.erm_client.specs.Dealings.{AllCommitted, snapshots_told}
use Rattle.erm_client.specs.declared.refusal.Refusal.{Refusal}
use Rattle.erm_client.specs.declared.transcript.Transcript.{Transcript}
use Rattle.erm_client.specs.Stretches.{Went}
use Rattle.erm_client.specs.Transcripts.{IsAnswered, IsNew, IsRefused}
use Rattle.erm_model.specs.Committed.{Committed}
use Rattle.erm_model.specs.Member.{◌∈◌}
use Rattle.erm_model.specs.Run.{Step}
use Rattle.erm_report.specs.declared.answer.Answer.TheVariants as answer
use Rattle.erm_script.specs.declared.script.Command.TheVariants as command
use Rattle.erm_tellers.specs.declared.tellers.Task.{Task}
use Rattle.erm_tellers.specs.declared.tellers.Task.TheVariants as task
use Rattle.erm_tellers.specs.Denials.{HasNoTotal}
use Rattle.erm_tellers.specs.Served.{Audited, Served}
use Rattle.erm_tellers.specs.Tellers.{Audits, Serves}

-- these operations are those of a task that is among the errands
abbrev pub IsServing : List Errand → List Step → Type 0
IsServing errands steps = (asked : Task) × (errand.Serve asked ∈ errands) × Serves asked steps

-- Of these snapshots one is an audit of the customers from low to high, whose two scans add up to this total.
pub record IsShown (low high total : ℕ) (snapshots : List Committed) : Type 0 where
  pub below : high < 2 ^ 64
  pub snapshot : Committed
  pub there : snapshot ∈ snapshots
  pub current : List (ℕ × List ℕ)
  pub savings : List (ℕ × List ℕ)
  pub audits : Audits low high current savings snapshot.steps
  pub adds_up : AddUpTo current savings total

-- What an errand came to, by what is told of it, in so many tries at most. Nothing else is told of it.
abbrev pub CameTo : ℕ → Errand → Told → Transcript → Transcript → Type 0
CameTo most (errand.Serve asked) (told.Served outcome) c d = Served asked most (Ok outcome) c d
CameTo most (errand.Serve asked) told.Refused c d = (why : Refusal) × Served asked most (Err why) c d
CameTo most (errand.Audit low high) (told.Total from to total) c d = ((from ≡ low) × (to ≡ high))
    × ((both : List (ℕ × List ℕ) × List (ℕ × List ℕ)) × Audited low high most (Ok both) c d × AddUpTo both.0 both.1 total)
CameTo most (errand.Audit low high) told.NoTotal c d = (both : List (ℕ × List ℕ) × List (ℕ × List ℕ)) × Audited low high most (Ok both) c d × HasNoTotal both.0 both.1
CameTo most (errand.Audit low high) told.Refused c d = (why : Refusal) × Audited low high most (Err why) c d
CameTo most asked tells c d = ⊥

-- An errand came to what is told of it. Each transaction that committed meanwhile serves it, and the total that is told, if one is, a snapshot shows that
-- ended meanwhile.
pub record DidErrand (most : ℕ) (asked : Errand) (tells : Told) (c d : Transcript) : Type 0 where
  pub begins : ℕ
  pub commits : List Committed
  pub snapshots : List Committed
  pub went : Went begins commits snapshots c d
  pub serves : (x : Committed) → x ∈ commits → (wanted : Task) × (asked ≡ errand.Serve wanted) × Serves wanted x.steps
  pub shown : (low high total : ℕ) → tells ≡ told.Total low high total → IsShown low high total snapshots
  pub came_to : CameTo most asked tells c d

-- The first errands, one behind another, came to what is told of them, each in a stretch of its own; and there was nothing else.
abbrev pub DidAll : ℕ → List Told → List Errand → Transcript → Transcript → Type 0
DidAll most [] errands c d = d ≡ c
DidAll most (tells ∷ more) [] c d = ⊥
DidAll most (tells ∷ more) (asked ∷ others) c d = (mid : Transcript) × CameTo most asked tells c mid × DidAll most more others mid d

-- It was asked whether the last commit is on the disk, which waits until it is, whatever was answered; and nothing else was asked.
abbrev pub Waits : Transcript → Transcript → Type 0
Waits c d = ((stamp : ℕ) × IsAnswered c command.Durable (answer.Durable stamp) d) ⊎ ((why : Refusal) × IsRefused c command.Durable why d)

-- So it was from where nothing had been asked up to a wait for the disk.
pub record DidInTurn (most : ℕ) (told : List Told) (errands : List Errand) (c : Transcript) : Type 0 where
  pub start : Transcript
  pub until : Transcript
  pub fresh : IsNew start.seat start
  pub did : DidAll most told errands start until
  pub waited : Waits until c

-- THE PROMISE. The teller does his errands in turn, each in so many tries at most, and tells in its place what it came to: all of them, where there was room
-- for what he tells of them, and else as many as there was room for, at least. Then he waits for the disk. Each transaction that his client committed served a task that he was asked for; and each total that he tells one of the client's
-- snapshots shows, which ended.
pub record Promises (before after : Teller) (c : Transcript) : Type 0 where
  pub errands : after.errands ≡ before.errands
  pub tries : after.tries ≡ before.tries
  pub did : DidInTurn (max before.tries 1) after.told.items before.errands.items c
  pub all : vec_len before.errands ≤ vec_capacity before.told → length after.told.items ≡ length before.errands.items
  pub least : min (vec_len before.errands) (vec_capacity before.told) ≤ length after.told.items
  pub serves : AllCommitted (IsServing before.errands.items) c
  pub shown : (low high total : ℕ) → told.Total low high total ∈ after.told.items → IsShown low high total (snapshots_told c)

-- an errand moves money only among customers from low to high, or only looks
abbrev pub MovesWithin : ℕ → ℕ → Errand → Type 0
MovesWithin low high (errand.Serve (task.Transfer payer payee amount)) = ((low ≤ payer.customer) × (payer.customer ≤ high)) × ((low ≤ payee.customer) × (payee.customer ≤ high))
MovesWithin low high (errand.Serve asked) = ⊥
MovesWithin low high (errand.Audit from to) = Unit {0}

-- so do all errands of tellers
abbrev pub AllMoveWithin : ℕ → ℕ → List Teller → Type 0
AllMoveWithin low high tellers = (t : Teller) → t ∈ tellers → (e : Errand) → e ∈ t.errands.items → MovesWithin low high e
