-- What a read of a safe snapshot leaves of a pass's book.
use Rattle.std.specs.Prelude.{◌≡◌, ℕ, List}
use Rattle.erm_machine.specs.declared.task.Task.TheVariants.{SafeFound}
use Rattle.erm_machine.specs.declared.version.VersionAt.{VersionAt}
use Rattle.erm_machine.specs.Core.{Core}
use Rattle.erm_machine.specs.Seat.{with_task}
use Rattle.erm_rule.specs.declared.view.Book.{Book}
use Rattle.erm_rule.specs.Books.{HasState, IsBookOf}
use Rattle.erm_rule.specs.Hands.{IsKnown}
use Rattle.erm_rule.specs.Views.{part_of, with_part}
use Rattle.erm_safe_reads.specs.Calls.{IsSafeRow}

-- A version of the object was found, whose row is the answer. In whatever state the book after is one of, and it is one of some, that
-- version is the newest one below the begin stamp, and has that row. Nothing is changed but the version in hand.
pub record DidReadSafe (b : Book) (who oid : ℕ) (row : List ℕ) (e : Book) : Type 0 where
  pub version : VersionAt
  pub oid_is : version.oid ≡ oid
  pub view_is : e.view ≡ with_part who (with_task (SafeFound version) (part_of b.view who)) b.view
  pub known : IsKnown e.view
  pub state : HasState e
  pub stands : (c : Core) → IsBookOf e c → IsSafeRow (part_of b.view who).current.begin version row c
