-- How the commands end that put a stream, that follow one, and that tell what its replica answers.
use Rattle.std.proofs.Common.{◌≡◌, ◌≢◌, ℕ, ◌≤◌, ◌⊎◌, List, ◌++◌, length, Option, Some, None, refl, sym, ap, subst, ◌∙◌, inl, inr, arith, length-append}
use Rattle.erm_follow_run.specs.declared.following.TheConstants.{STREAM_BYTES}
use Rattle.erm_follow_run.specs.Ends.{FollowEnds, StarvesAtOnce, TookFront, Ways}
use Rattle.erm_outside.specs.Disk.{Step}
use Rattle.erm_replica_rows.specs.Replica.{IsBadAt}
use Rattle.erm_replica_run.specs.Ends.{ReplicaEnds}
use Rattle.erm_replica_run.specs.Texts.{IsGood}
use Rattle.erm_report.specs.Texts.{line_text}
use Rattle.erm_report.specs.declared.line.Line.TheVariants as line
use Rattle.erm_ship.specs.Ends.{FailedToRead, ShipEnds}
use Rattle.erm_top.specs.Around.{Around, LeavesDisk, LeavesSource}
use Rattle.erm_top.specs.Runs.{NothingFailed}
use Rattle.erm_top.specs.Told.{Prints}
use Rattle.erm_top.specs.Streams.{FollowingEnds, ReadsWell, ReplicatingEnds, ShippingEnds, disk_and_sink, source_and_sink}
use Rattle.erm_top.proofs.Rooms.{recovers_from_some}

-- ---- putting a stream

-- a disk that tells is read where nothing fails
no_failure : (steps : List Step) (a : Around) → a.told_before ≡ Some steps → NothingFailed a → FailedToRead a.told_before a.disk_before a.disk_after → ⊥
no_failure steps a told calm (inl rose) = calm.disk rose
no_failure steps a told calm (inr none) = let bad : None ≡ Some steps = sym none ∙ told in cc

unfailed : (status : ℕ) → (status ≡ 0) ⊎ (status ≡ 5) ⊎ (status ≡ 6) ⊎ (status ≡ 7) ⊎ (status ≡ 8) → status ≢ 5 → status ≢ 6 → (status ≡ 0) ⊎ (status ≡ 7) ⊎ (status ≡ 8)
unfailed status (inl e) five six = inl e
unfailed status (inr (inl e)) five six = absurd (five e)
unfailed status (inr (inr (inl e))) five six = absurd (six e)
unfailed status (inr (inr (inr more))) five six = inr more

pub shipping_ends : (status : ℕ) (a : Around) → ShipEnds status (disk_and_sink a) → LeavesSource a → ShippingEnds status a
shipping_ends status a ends source = record {
  ships = ends;
  source = source;
  complete = λ steps told calm. unfailed status ends.known (λ e. calm.sink (ends.sink_fault e).0) (λ e. no_failure steps a told calm (ends.disk_fault e).0);
  recovers = λ state tells e. recovers_from_some state a tells (ends.no_base e).0;
}

-- memory ran out before anything was done
pub ship_starved : (a : Around) → LeavesSource a → LeavesDisk a → Prints (line_text line.NoMemory) a.written_before a.written_after a.sink_before a.sink_after → ShippingEnds 8 a
ship_starved a source still put = shipping_ends 8 a (record {
  known = inr (inr (inr (inr refl)));
  success = λ e. absurd (omega (arith, e));
  sink_fault = λ e. absurd (omega (arith, e));
  disk_fault = λ e. absurd (omega (arith, e));
  no_base = λ e. absurd (omega (arith, e));
  no_memory = λ e. put;
  still = still.told;
  disk_sound = λ e. still.sound;
  sink_sound = λ e. absurd (omega (arith, e));
}) source

-- ---- following one

abbrev pub StarvingEnds : Type 0
StarvingEnds = (a : Ways) → StarvesAtOnce a → FollowEnds 8 a

-- what was taken from the front of bytes is their front
taken_front : (front bytes : List ℕ) (before after : Option (List ℕ)) → before ≡ Some bytes → TookFront front before after → (rest : List ℕ) × (bytes ≡ front ++ rest)
taken_front front bytes before after is took =
    let here : TookFront front (Some bytes) after = subst (λ (o : Option (List ℕ)). TookFront front o after) is took in
    (here.0, here.1)

module _ (status : ℕ) (a : Around) (ends : FollowEnds status (source_and_sink a)) (bytes : List ℕ) (left : a.left_before ≡ Some bytes) (few : length bytes ≤ STREAM_BYTES) (well : ReadsWell bytes) where
  -- such a stream is not too long, and no item stops it
  not_long : status ≢ 9
  not_long e =
      let long = ends.too_long e in
      let cut = taken_front long.0 bytes a.left_before a.left_after left long.2.front in
      omega (arith, few, long.1, ap (λ (xs : List ℕ). length xs) cut.1, length-append long.0 cut.0)

  not_bad : status ≢ 11
  not_bad e =
      let bad = ends.bad e in
      let cut = taken_front bad.bytes bytes a.left_before a.left_after left bad.front in
      (well bad.bytes cut.0 bad.s bad.f bad.told.lines cut.1 bad.told.following).0 bad.bad

  not_broken : status ≢ 12
  not_broken e =
      let broken = ends.broken e in
      let cut = taken_front broken.bytes bytes a.left_before a.left_after left broken.front in
      (well broken.bytes cut.0 broken.s broken.f broken.told.lines cut.1 broken.told.following).1 broken.by broken.broken

  followed : NothingFailed a → (status ≡ 0) ⊎ (status ≡ 4) ⊎ (status ≡ 5) ⊎ (status ≡ 8) ⊎ (status ≡ 9) ⊎ (status ≡ 11) ⊎ (status ≡ 12) → (status ≡ 0) ⊎ (status ≡ 8)
  followed calm (inl e) = inl e
  followed calm (inr (inl e)) = absurd (calm.source (ends.read_fault e).0)
  followed calm (inr (inr (inl e))) = absurd (calm.sink (ends.sink_fault e).0)
  followed calm (inr (inr (inr (inl e)))) = inr e
  followed calm (inr (inr (inr (inr (inl e))))) = absurd (not_long e)
  followed calm (inr (inr (inr (inr (inr (inl e)))))) = absurd (not_bad e)
  followed calm (inr (inr (inr (inr (inr (inr e)))))) = absurd (not_broken e)

pub following_ends : (status : ℕ) (a : Around) → FollowEnds status (source_and_sink a) → LeavesDisk a → FollowingEnds status a
following_ends status a ends still = record {
  follows = ends;
  disk = still;
  complete = λ bytes left few well calm. followed status a ends bytes left few well calm ends.known;
}

pub follow_starved : StarvingEnds → (a : Around) → LeavesSource a → LeavesDisk a → Prints (line_text line.NoMemory) a.written_before a.written_after a.sink_before a.sink_after → FollowingEnds 8 a
follow_starved starves a source still put =
    following_ends 8 a (starves (source_and_sink a) (record { left = source.left; sound = source.sound; printed = put })) still

-- ---- what its replica answers

abbrev pub StarvedReplicaEnds : Type 0
StarvedReplicaEnds = (a : Ways) → StarvesAtOnce a → ReplicaEnds 8 a

module _ (stays : (bytes more : List ℕ) (place : ℕ) → IsBadAt bytes place → IsBadAt (bytes ++ more) place) where
  replicated : (status : ℕ) (a : Around) (ends : ReplicaEnds status (source_and_sink a)) (bytes : List ℕ) → a.left_before ≡ Some bytes → length bytes ≤ STREAM_BYTES → IsGood bytes → NothingFailed a
      → (status ≡ 0) ⊎ (status ≡ 4) ⊎ (status ≡ 5) ⊎ (status ≡ 8) ⊎ (status ≡ 9) ⊎ (status ≡ 11) → (status ≡ 0) ⊎ (status ≡ 8)
  replicated status a ends bytes left few good calm (inl e) = inl e
  replicated status a ends bytes left few good calm (inr (inl e)) = absurd (calm.source (ends.read_fault e).0)
  replicated status a ends bytes left few good calm (inr (inr (inl e))) = absurd (calm.sink (ends.sink_fault e).0)
  replicated status a ends bytes left few good calm (inr (inr (inr (inl e)))) = inr e
  replicated status a ends bytes left few good calm (inr (inr (inr (inr (inl e))))) =
      let long = ends.too_long e in
      let cut = taken_front long.0 bytes a.left_before a.left_after left long.2.front in
      absurd (omega (arith, few, long.1, ap (λ (xs : List ℕ). length xs) cut.1, length-append long.0 cut.0))
  replicated status a ends bytes left few good calm (inr (inr (inr (inr (inr e))))) =
      let bad = ends.bad e in
      let cut = taken_front bad.bytes bytes a.left_before a.left_after left bad.front in
      absurd (good bad.place (subst (λ (xs : List ℕ). IsBadAt xs bad.place) (sym cut.1) (stays bad.bytes cut.0 bad.place bad.bad)))

  pub replicating_ends : (status : ℕ) (a : Around) → ReplicaEnds status (source_and_sink a) → LeavesDisk a → ReplicatingEnds status a
  replicating_ends status a ends still = record {
    replicates = ends;
    disk = still;
    complete = λ bytes left few good calm. replicated status a ends bytes left few good calm ends.known;
  }

pub replica_starved : StarvedReplicaEnds → (a : Around) → LeavesSource a → LeavesDisk a → Prints (line_text line.NoMemory) a.written_before a.written_after a.sink_before a.sink_after → ReplicatingEnds 8 a
replica_starved starves a source still put = record {
  replicates = starves (source_and_sink a) (record { left = source.left; sound = source.sound; printed = put });
  disk = still;
  complete = λ bytes left few good calm. inr refl;
}
