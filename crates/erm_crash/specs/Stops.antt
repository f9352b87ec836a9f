-- What is pending at a moment at which a run may be stopped.
use Rattle.std.specs.Prelude.{ℕ, List}
use Rattle.erm_outside.specs.Disk.{Step}
use Rattle.erm_recover.specs.Waiting.{IsSettledBeyond}

-- Nothing is pending but of what the next opening waits for, by the place where recovery begins and the one recovered: the slots, segments from the one
-- to the other, and a removal that a checkpoint had begun.
abbrev pub MayStop : ℕ → ℕ → List Step → Type 0
MayStop base place now = IsSettledBeyond base place now
