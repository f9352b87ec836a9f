-- Tries, one behind another: those in vain, each of which was given up, and the last one.
use Rattle.std.specs.Prelude.{◌≡◌, ℕ, zero, suc, ◌+◌, ◌<◌, List, [], ◌∷◌, ◌++◌}
use Rattle.erm_client.specs.Dealings.{begins_by, begins_in}
use Rattle.erm_client.specs.declared.refusal.Refusal.{Refusal}
use Rattle.erm_client.specs.declared.refusal.Refusal.TheVariants as refusal
use Rattle.erm_client.specs.declared.transcript.Transcript.{Transcript}
use Rattle.erm_client.specs.Refusals.{IsByAnswer}
use Rattle.erm_client.specs.Stretches.{StandsBehind, Went}
use Rattle.erm_client.specs.Transcripts.{IsRefused}
use Rattle.erm_script.specs.declared.script.Command.{Command}
use Rattle.erm_tellers.specs.Plans.{Aborts, Did}

-- Refusals of a transaction that another session was in the way of: begun again it may go otherwise.
abbrev pub IsPassing : Refusal → Type 0
IsPassing (refusal.Owned seat number) = Unit {0}
IsPassing (refusal.Newer stamp) = Unit {0}
IsPassing (refusal.Excluded succ pred) = Unit {0}
IsPassing why = ⊥

-- and that of a snapshot
abbrev pub IsUnsafe : Refusal → Type 0
IsUnsafe (refusal.Unsafe seat stamp) = Unit {0}
IsUnsafe why = ⊥

-- A try is under way: these commands of it were done, one of which is a begin, and nothing committed or ended.
pub record IsUnderWay (done : List Command) (c d : Transcript) : Type 0 where
  pub did : Did done c d
  pub went : Went 1 [] [] c d
  pub once : begins_in d ≡ begins_in c + 1

-- A command was refused so: where that was by an answer it was asked, and the client stands as behind that.
pub record Refuses (asked : Command) (why : Refusal) (c d : Transcript) : Type 0 where
  pub refused : IsRefused c asked why d
  pub counted : IsByAnswer why → begins_in d ≡ begins_in c + begins_by asked
  pub standing_so : StandsBehind why d.standing

-- A try is held up by a refusal: of all that it asks for, by its plan, these commands in front were done, and the next one was refused so. It asked for no
-- other; and nothing committed or ended. Where the refusal was by an answer, it had begun: only where the client was told to stop, or memory ran out, it may
-- not have.
pub record IsHeldUp (IsPlan : List Command → Type 0) (why : Refusal) (c d : Transcript) : Type 0 where
  pub front : List Command
  pub asked : Command
  pub rest : List Command
  pub planned : IsPlan (front ++ asked ∷ rest)
  pub before : Transcript
  pub did : Did front c before
  pub refused : IsRefused before asked why d
  pub went : Went 1 [] [] c d
  pub begun : IsByAnswer why → begins_in d ≡ begins_in c + 1
  pub standing_so : StandsBehind why d.standing

-- A try was given up: it was held up so, and then asked for an abort. Still nothing committed or ended.
pub record GaveUp (IsPlan : List Command → Type 0) (why : Refusal) (c d : Transcript) : Type 0 where
  pub after : Transcript
  pub held_up : IsHeldUp IsPlan why c after
  pub aborts : Aborts after d
  pub went : Went 1 [] [] c d
  pub begun : IsByAnswer why → begins_in d ≡ begins_in c + 1
  pub standing_so : StandsBehind why d.standing

-- So many tries in vain: each was given up with a passing refusal.
abbrev pub TriedInVain : (List Command → Type 0) → (Refusal → Type 0) → ℕ → Transcript → Transcript → Type 0
TriedInVain IsPlan Passing zero c d = d ≡ c
TriedInVain IsPlan Passing (suc n) c d = (mid : Transcript) × (why : Refusal) × TriedInVain IsPlan Passing n c mid × Passing why × GaveUp IsPlan why mid d

-- Of so many tries at most some were in vain, and then one came to this. Where that one was in vain too, none was left: all were made.
pub record Tried (IsPlan : List Command → Type 0) (Passing : Refusal → Type 0) (CameTo : Transcript → Transcript → Type 0) (InVain : Type 0) (most : ℕ) (c d : Transcript) : Type 0 where
  pub vain : ℕ
  pub before : Transcript
  pub in_vain : TriedInVain IsPlan Passing vain c before
  pub came_to : CameTo before d
  pub few : vain < most
  pub all_tried : InVain → vain + 1 ≡ most
