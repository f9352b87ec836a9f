-- How the commands end that put the log of a disk as a stream, that follow a stream, and that tell what its replica answers.
use Rattle.std.specs.Prelude.{◌≡◌, ◌≢◌, ℕ, ◌≤◌, ◌⊎◌, List, ◌++◌, length, Some}
use Rattle.erm_model.specs.declared.history.Commit.{Commit}
use Rattle.erm_ckpt.specs.Recovered.{State}
use Rattle.erm_follow.specs.declared.seen.Broken.{Broken}
use Rattle.erm_follow.specs.Follow.{Followed}
use Rattle.erm_follow_run.specs.declared.following.TheConstants.{STREAM_BYTES}
use Rattle.erm_follow_run.specs.Draining.{IsBroken}
use Rattle.erm_follow_run.specs.Ends.{FollowEnds, Ways}
use Rattle.erm_follow_run.specs.Following.{Following}
use Rattle.erm_outside.specs.Disk.{Step}
use Rattle.erm_replica.specs.Stream.{IsUnreadable, Streamed}
use Rattle.erm_replica_run.specs.Ends.{ReplicaEnds}
use Rattle.erm_replica_run.specs.Texts.{IsGood}
use Rattle.erm_ship.specs.Ends.{Around as ShipAround, ShipEnds}
use Rattle.erm_top.specs.Around.{Around, LeavesDisk, LeavesSource}
use Rattle.erm_top.specs.Runs.{NothingFailed, TellsState}

-- what disk and sink tell around a command, and what source and sink tell
abbrev pub disk_and_sink : Around → ShipAround
disk_and_sink a = record {
  told_before = a.told_before;
  told_after = a.told_after;
  disk_before = a.disk_before;
  disk_after = a.disk_after;
  written_before = a.written_before;
  written_after = a.written_after;
  sink_before = a.sink_before;
  sink_after = a.sink_after;
}

abbrev pub source_and_sink : Around → Ways
source_and_sink a = record {
  left_before = a.left_before;
  left_after = a.left_after;
  source_before = a.source_before;
  source_after = a.source_after;
  written_before = a.written_before;
  written_after = a.written_after;
  sink_before = a.sink_before;
  sink_after = a.sink_after;
}

-- What each status of `ship` means. It reads no source.
pub record ShippingEnds (status : ℕ) (a : Around) : Type 0 where
  pub ships : ShipEnds status (disk_and_sink a)
  pub source : LeavesSource a
  -- The stream of a disk that tells is put where nothing fails, unless memory runs out or the disk does not recover.
  pub complete : (steps : List Step) → a.told_before ≡ Some steps → NothingFailed a → (status ≡ 0) ⊎ (status ≡ 7) ⊎ (status ≡ 8)
  pub recovers : (state : State) → TellsState state a → status ≢ 7

-- However far bytes were followed, the next item is not one that never reads, and no commit there breaks a safe stamp.
abbrev pub ReadsWell : List ℕ → Type 0
ReadsWell bytes = (front rest : List ℕ) (s : Streamed) (f : Followed) (lines : List Commit) → bytes ≡ front ++ rest → Following front s f lines
    → (IsUnreadable s.log s.rest → ⊥) × ((by : Broken) → IsBroken s f by → ⊥)

-- What each status of `follow` means. It leaves the disk alone.
pub record FollowingEnds (status : ℕ) (a : Around) : Type 0 where
  pub follows : FollowEnds status (source_and_sink a)
  pub disk : LeavesDisk a
  -- A stream that is not too long and reads well is followed to its end where nothing fails, unless memory runs out.
  pub complete : (bytes : List ℕ) → a.left_before ≡ Some bytes → length bytes ≤ STREAM_BYTES → ReadsWell bytes → NothingFailed a → (status ≡ 0) ⊎ (status ≡ 8)

-- What each status of `replica` means. It leaves the disk alone.
pub record ReplicatingEnds (status : ℕ) (a : Around) : Type 0 where
  pub replicates : ReplicaEnds status (source_and_sink a)
  pub disk : LeavesDisk a
  -- A stream that is not too long, and at no place of which what stands is no item, is read to its end where nothing fails, unless memory runs out.
  pub complete : (bytes : List ℕ) → a.left_before ≡ Some bytes → length bytes ≤ STREAM_BYTES → IsGood bytes → NothingFailed a → (status ≡ 0) ⊎ (status ≡ 8)
