-- What the parts of a safe snapshot's read ask of a seat's part, and what they leave of a pass's view.
use Rattle.std.specs.Prelude.{◌≡◌, ℕ, List}
use Rattle.erm_machine.specs.declared.task.Task.{Task}
use Rattle.erm_machine.specs.declared.task.Task.TheVariants as task
use Rattle.erm_machine.specs.declared.version.VersionAt.{VersionAt}
use Rattle.erm_machine.specs.Core.{Core, version_at}
use Rattle.erm_machine.specs.Seat.{with_task}
use Rattle.erm_machine.specs.Snapshot.{IsNewestAt}
use Rattle.erm_rule.specs.declared.view.Book.{Book}
use Rattle.erm_rule.specs.declared.view.View.{View}
use Rattle.erm_rule.specs.Books.{HasState, IsBookOf}
use Rattle.erm_rule.specs.Hands.{IsKnown, in_hand}
use Rattle.erm_rule.specs.Views.{part_of, with_part}

-- the version in hand of a seat's call
abbrev pub hand_of : View → ℕ → VersionAt
hand_of v who = in_hand (part_of v who).task

-- the stamp of a version, and its row
abbrev pub stamp_of : Core → VersionAt → ℕ
stamp_of c version = (version_at (c.shared.objects version.oid) version.place).words.stamp

abbrev pub row_of : Core → VersionAt → List ℕ
row_of c version = (version_at (c.shared.objects version.oid) version.place).words.row

-- ENTRY. The head of the object's chain is in hand.
pub record DidEnterSafe (v : View) (who oid cell : ℕ) (w : View) : Type 0 where
  pub version : VersionAt
  pub oid_is : version.oid ≡ oid
  pub cell_is : version.cell ≡ cell
  pub view_is : w ≡ with_part who (with_task (task.SafeWalks version) (part_of v who)) v
  pub known : IsKnown w

-- a version in this cell is in hand, whose stamp is to be loaded
abbrev pub IsSafeWalking : Task → ℕ → Type 0
IsSafeWalking (task.SafeWalks version) cell = version.cell ≡ cell
IsSafeWalking t cell = ⊥

-- WALK. A version of the object was found, in this cell: in each sound state with the parts of the view after it is the newest one below
-- the begin stamp.
pub record DidReachSafe (v : View) (who cell : ℕ) (w : View) : Type 0 where
  pub version : VersionAt
  pub oid_is : version.oid ≡ (hand_of v who).oid
  pub cell_is : version.cell ≡ cell
  pub view_is : w ≡ with_part who (with_task (task.SafeFound version) (part_of v who)) v
  pub known : IsKnown w

-- the version that was found is in this cell: its row may be loaded
abbrev pub IsSafeFound : Task → ℕ → Type 0
IsSafeFound (task.SafeFound version) cell = version.cell ≡ cell
IsSafeFound t cell = ⊥

-- in this state the version is its object's newest one below the bound, and has this row
pub record IsSafeRow (bound : ℕ) (version : VersionAt) (row : List ℕ) (c : Core) : Type 0 where
  pub newest : IsNewestAt (c.shared.objects version.oid) version.place bound (stamp_of c version)
  pub row_is : row_of c version ≡ row

-- ROW. The row of the version in hand was loaded: it is so in whatever state the book after is one of, and it is one of some. The view
-- stays.
pub record DidLoadSafeRow (b : Book) (who : ℕ) (row : List ℕ) (e : Book) : Type 0 where
  pub view_is : e.view ≡ b.view
  pub known : IsKnown e.view
  pub state : HasState e
  pub stands : (c : Core) → IsBookOf e c → IsSafeRow (part_of b.view who).current.begin (hand_of b.view who) row c
