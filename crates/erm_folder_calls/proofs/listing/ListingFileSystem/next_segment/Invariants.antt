use Rattle.std.proofs.Common.{◌≤◌}
use Rattle.std.specs.Prelude.{IfSome}
use Rattle.erm_folder_calls.proofs.listing.ListingFileSystem.next_segment.Given as goal

abbrev pub invariant-loop-kept : goal.invariant-loop-kept
invariant-loop-kept l = IfSome l.found (λ n. l.fn.from ≤ n)
