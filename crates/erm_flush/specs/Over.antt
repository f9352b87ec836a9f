-- Turns over a log that others may go on writing: what one does by the log's own relations, and what that means where the log is known.
use Rattle.std.specs.Prelude.{◌≡◌, ℕ, ◌+◌, ◌<◌, Bool, false, IsTrue, List, ◌++◌, length, take, Option, IfSome, Result, Ok, Err}
use Rattle.erm_model.specs.Rows.{Rows}
use Rattle.erm_model.specs.declared.limits.TheConstants.{RING_WORDS}
use Rattle.erm_block.specs.declared.block.Block.{Block}
use Rattle.erm_flush.specs.declared.stops.FlushStop.{FlushStop}
use Rattle.erm_flush.specs.declared.stops.FlushStop.TheVariants.{Empty, Unfilled, DiskFault, Failed}
use Rattle.erm_flush.specs.Turns.{HoldsFrom, IsReady, WritesFrom}
use Rattle.erm_log_disk.specs.Writes.{Lasts, OnlyWrites}
use Rattle.erm_outside.specs.Disk.{Step, Tells}
use Rattle.erm_world.specs.declared.gathered.Gathered.{Gathered}
use Rattle.erm_world.specs.declared.gathered.Gathered.TheVariants as gathered
use Rattle.erm_world.specs.Log.{gathered_to, Log}

-- Words were gathered, and nothing else was done to the disk than to write some of them at their place in the log, and to wait.
pub record DidWrite {S : Type 0} (gathers : S → Gathered → List ℕ → S → Type 0) (at count : ℕ) (s t : S) (before after : Option (List Step)) : Type 0 where
  pub words : List ℕ
  pub room : length words ≡ RING_WORDS
  pub looks : gathers s (gathered.Words at count) words t
  pub writes : OnlyWrites at (take count words) before after

-- All of them last on the disk, and then they were told flushed.
pub record DidFlush {S : Type 0} (gathers : S → Gathered → List ℕ → S → Type 0) (flushes : S → ℕ → S → Type 0) (end : ℕ) (s t : S) (before after : Option (List Step)) : Type 0 where
  pub at : ℕ
  pub count : ℕ
  pub end_is : end ≡ at + count
  pub mid : S
  pub write : DidWrite gathers at count s mid before after
  pub lasts : Lasts at (take count write.words) before after
  pub stores : flushes mid end t

-- nothing was gathered, and nothing done to the disk
abbrev pub DidLook : {S : Type 0} → (S → Gathered → List ℕ → S → Type 0) → Gathered → S → S → (before after : Option (List Step)) → Type 0
DidLook gathers g s t before after = ((words : List ℕ) × gathers s g words t) × (after ≡ before)

-- What a turn does, by its answer, by whether the flusher had failed before and has failed after, and by the log's states before and after.
abbrev pub TurnsOver : {S : Type 0} → (S → Gathered → List ℕ → S → Type 0) → (S → ℕ → S → Type 0) → Result ℕ FlushStop → Bool → Bool → S → S
    → (before after : Option (List Step)) → Type 0
TurnsOver gathers flushes (Ok end) was now s t before after = (was ≡ false) × (now ≡ false) × DidFlush gathers flushes end s t before after
TurnsOver gathers flushes (Err (Empty at)) was now s t before after = (was ≡ false) × (now ≡ false) × DidLook gathers (gathered.Empty at) s t before after
TurnsOver gathers flushes (Err (Unfilled at)) was now s t before after = (was ≡ false) × (now ≡ false) × DidLook gathers (gathered.Unfilled at) s t before after
TurnsOver gathers flushes (Err DiskFault) was now s t before after = (was ≡ false) × IsTrue now × ((at : ℕ) × (count : ℕ) × DidWrite gathers at count s t before after)
TurnsOver gathers flushes (Err Failed) was now s t before after = IsTrue was × IsTrue now × (t ≡ s) × (after ≡ before)

-- Of a log that was known, blocks were gathered behind the place flushed, up to this place: all that are decided in order, up to a place at
-- which nothing more was to gather at some moment. Nothing else of it changed, but how far it is flushed.
pub record Gathers {S : Type 0} (stopped : S → ℕ → S → Type 0) (end : ℕ) (l m : Log) (s t : S) : Type 0 where
  pub some : l.flushed < end
  pub end_is : end ≡ gathered_to m
  pub log : m ≡ record l { tail = m.tail; gathered = m.gathered; flushed = m.flushed }
  pub more : (rest : List Block) × (m.gathered ≡ l.gathered ++ rest)
  pub stops : stopped s end t

-- They last on the disk, and the log is flushed up to there; at any moment each image has what was below the place flushed before, and
-- from there on a front of them.
pub record Flushes {S : Type 0} (sound : Rows → Type 0) (stopped : S → ℕ → S → Type 0) (end : ℕ) (l m : Log) (s t : S) (before after : Option (List Step)) : Type 0 where
  pub gathers : Gathers stopped end l m s t
  pub flushed : m.flushed ≡ end
  pub writes : Tells (WritesFrom sound l.flushed m) before after
  pub lasts : Tells (HoldsFrom sound l.flushed m) before after
  pub ready : IfSome after (IsReady m)

-- Some of their words may be written, and the log is flushed as far as before.
pub record Tries {S : Type 0} (sound : Rows → Type 0) (stopped : S → ℕ → S → Type 0) (l m : Log) (s t : S) (before after : Option (List Step)) : Type 0 where
  pub gathers : Gathers stopped (gathered_to m) l m s t
  pub flushed : m.flushed ≡ l.flushed
  pub writes : Tells (WritesFrom sound l.flushed m) before after

-- What a turn means where the log was known. It answers `Empty` only where the log ended at the place flushed, and `Unfilled` only where a
-- range that wasn't decided began there.
abbrev pub TurnsKnown : {S : Type 0} → (Rows → Type 0) → (knows awaits : S → Log → Type 0) → (ended opened stopped : S → ℕ → S → Type 0) → Result ℕ FlushStop → Log → S → S
    → (before after : Option (List Step)) → Type 0
TurnsKnown sound knows awaits ended opened stopped (Ok end) l s t before after = (m : Log) × knows t m × Flushes sound stopped end l m s t before after
TurnsKnown sound knows awaits ended opened stopped (Err (Empty at)) l s t before after = (at ≡ l.flushed) × knows t l × ended s at t × (after ≡ before)
TurnsKnown sound knows awaits ended opened stopped (Err (Unfilled at)) l s t before after = (at ≡ l.flushed) × knows t l × opened s at t × (after ≡ before)
TurnsKnown sound knows awaits ended opened stopped (Err DiskFault) l s t before after = (m : Log) × awaits t m × Tries sound stopped l m s t before after
TurnsKnown sound knows awaits ended opened stopped (Err Failed) l s t before after = (t ≡ s) × (after ≡ before)
