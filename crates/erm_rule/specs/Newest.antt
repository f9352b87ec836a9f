-- The version in hand of a cut against its horizon: no version that was passed lies below it.
use Rattle.std.specs.Prelude.{◌≡◌, ℕ, ◌≤◌}
use Rattle.erm_machine.specs.declared.task.Task.{Task}
use Rattle.erm_machine.specs.declared.task.Task.TheVariants as task
use Rattle.erm_machine.specs.Core.{Core, Shared, version_at, newest}
use Rattle.erm_machine.specs.Snapshot.{NewerFrom}

-- Until the horizon is known the head is in hand; then all versions newer than the one in hand have stamps at or above the horizon,
-- and so has one that was passed.
abbrev pub NewestInHand : Shared → Task → Type 0
NewestInHand s (task.Claimed version) = version.place ≡ newest (s.objects version.oid)
NewestInHand s (task.Horizon version least next) = version.place ≡ newest (s.objects version.oid)
NewestInHand s (task.CutWalks version horizon) = NewerFrom (s.objects version.oid) version.place horizon
NewestInHand s (task.CutPassed version horizon) =
    NewerFrom (s.objects version.oid) version.place horizon × (horizon ≤ (version_at (s.objects version.oid) version.place).words.stamp)
NewestInHand s (task.CutFound version horizon) = NewerFrom (s.objects version.oid) version.place horizon
NewestInHand s t = Unit {0}

-- each cut in progress cuts behind the newest version below its horizon
abbrev pub CutsAtNewest : Core → Type 0
CutsAtNewest c = (q : ℕ) → NewestInHand c.shared (c.seats q).task
