-- What finding a horizon, finding the place of a cut, and a cut leave of a pass's view.
use Rattle.std.specs.Prelude.{◌≡◌, ◌⊎◌, ℕ, ◌+◌, ◌<◌, ◌≤◌, List, [], ◌∷◌, ◌++◌, length, slice_index, Some}
use Rattle.erm_machine.specs.declared.attempt.OwnCell.{OwnCell}
use Rattle.erm_machine.specs.declared.event.Kind.TheVariants as kind
use Rattle.erm_machine.specs.declared.limits.TheConstants.{ANNOUNCERS, OBJECT_LIMIT}
use Rattle.erm_machine.specs.declared.part.Part.{Part}
use Rattle.erm_machine.specs.declared.task.Task.{Task}
use Rattle.erm_machine.specs.declared.task.Task.TheVariants as task
use Rattle.erm_machine.specs.declared.version.VersionAt.{VersionAt}
use Rattle.erm_machine.specs.Core.{Core, version_at}
use Rattle.erm_machine.specs.Life.{after_begin_word, lower}
use Rattle.erm_machine.specs.Reading.{after_cut, cut_off}
use Rattle.erm_machine.specs.Seat.{with_task}
use Rattle.erm_machine.specs.Snapshot.{NewerFrom}
use Rattle.erm_machine.specs.Sound.{Sound}
use Rattle.erm_machine.specs.Step.{after_event}
use Rattle.erm_machine.specs.Words.{begin_of}
use Rattle.erm_rule.specs.declared.view.View.{View}
use Rattle.erm_rule.specs.Hands.{IsKnown, in_hand}
use Rattle.erm_rule.specs.Views.{part_of, with_part, IsView}

-- HORIZON. The seat owns the entry of the object whose chain is to be cut, and has the head in hand.
abbrev pub IsClaimed : Task → Type 0
IsClaimed (task.Claimed version) = Unit {0}
IsClaimed t = ⊥

-- in some sound state with the view's parts the tail was this one
pub record FindsTail (v : View) (tail : ℕ) : Type 0 where
  pub core : Core
  pub sound : Sound core
  pub is_view : IsView v core
  pub tail_is : core.shared.tail ≡ tail

-- in some sound state with the view's parts, but for the own seat's, the begin word of a seat was this one
pub record FindsBegin (v : View) (who seat found : ℕ) : Type 0 where
  pub core : Core
  pub sound : Sound core
  pub part : Part
  pub is_view : IsView (with_part who part v) core
  pub begin_is : begin_of (core.seats seat).place ≡ found

-- the least of a number and of those of a list that aren't 0
abbrev pub least_of : ℕ → List ℕ → ℕ
least_of least [] = least
least_of least (found ∷ words) = least_of (lower least found) words

-- the part of a seat that has seen this tail and loads begin words up to this seat's, with the least so far
abbrev pub looking_part : (tail least next : ℕ) → Part → Part
looking_part tail least next x = record x { task = after_begin_word (in_hand x.task) least next; seen = tail }

-- The tail and the begin words of the seats from 1 on, below `next`, were loaded one after another: this is their least.
pub record HasLoaded (v : View) (who next least : ℕ) (w : View) : Type 0 where
  pub tail : ℕ
  pub begins : List ℕ
  pub found : FindsTail v tail
  pub count : length begins + 1 ≡ next
  pub loaded : (k : ℕ) → k < length begins → FindsBegin v who (k + 1) (slice_index begins k)
  pub least_is : least ≡ least_of tail begins
  pub view_is : w ≡ with_part who (looking_part tail least next (part_of v who)) v
  pub known : IsKnown w

-- the horizon is the least of the tail and of all begin words
abbrev pub DidHorizon : View → ℕ → ℕ → View → Type 0
DidHorizon v who horizon w = HasLoaded v who ANNOUNCERS horizon w

-- FINDING THE CUT. The horizon is known, and a version in this cell is in hand.
abbrev pub IsAtCut : Task → ℕ → ℕ → Type 0
IsAtCut (task.CutWalks version bound) cell horizon = (version.cell ≡ cell) × (bound ≡ horizon)
IsAtCut t cell horizon = ⊥

-- an older version of the same object, or the same one
pub record IsFrom (v w : VersionAt) : Type 0 where
  pub oid_is : w.oid ≡ v.oid
  pub older : w.place ≤ v.place

-- The newest version below the horizon is in hand, in this cell: it is the one that was in hand, or an older one, and all newer ones
-- have stamps at or above the horizon.
pub record DidFindCut (v : View) (who horizon cell : ℕ) (w : View) : Type 0 where
  pub version : VersionAt
  pub cell_is : version.cell ≡ cell
  pub from : IsFrom (in_hand (part_of v who).task) version
  pub view_is : w ≡ with_part who (with_task (task.CutFound version horizon) (part_of v who)) v
  pub known : IsKnown w
  pub newest : NewerFrom (known.core.shared.objects version.oid) version.place horizon

-- In some sound state the oldest version of the chain was in hand, and passed: it is the one that was in hand before, or an older
-- one. No version of the chain was below the horizon.
pub record HasPassedAll (v : View) (who horizon : ℕ) : Type 0 where
  pub version : VersionAt
  pub from : IsFrom (in_hand (part_of v who).task) version
  pub core : Core
  pub sound : Sound core
  pub is_view : IsView (with_part who (with_task (task.CutPassed version horizon) (part_of v who)) v) core
  pub oldest : version.place ≡ (core.shared.objects version.oid).cut
  pub none_below : (k : ℕ) → (core.shared.objects version.oid).cut ≤ k → k < length (core.shared.objects version.oid).versions
      → horizon ≤ (version_at (core.shared.objects version.oid) k).words.stamp

-- the chain ended before a version below the horizon: the call is done with its cut
pub record DidFindNone (v : View) (who horizon : ℕ) (w : View) : Type 0 where
  pub passed : HasPassedAll v who horizon
  pub view_is : w ≡ with_part who (with_task (after_cut (part_of v who)) (part_of v who)) v
  pub known : IsKnown w

-- THE CUT. The version behind which the chain is to be cut is in hand, in this cell.
abbrev pub IsFoundCut : Task → ℕ → Type 0
IsFoundCut (task.CutFound version horizon) cell = version.cell ≡ cell
IsFoundCut t cell = ⊥

-- the part of a seat that is done with its cut, by which these cells became spare ones
abbrev pub cut_part : List OwnCell → Part → Part
cut_part cut x = record x { task = after_cut x; spare = x.spare ++ cut }

-- The link of the newest version below the horizon was swapped with 0: in the state before, these were the cells of all older versions
-- that were attached, the oldest first, and in the state after the version is the oldest one that is, and still the newest below the
-- horizon. So no version is attached behind that one.
pub record HasSwapped (v : View) (who : ℕ) (version : VersionAt) (horizon : ℕ) (cut : List OwnCell) : Type 0 where
  pub task_is : (part_of v who).task ≡ task.CutFound version horizon
  pub before : Core
  pub sound : Sound before
  pub is_view : IsView v before
  pub below : (version_at (before.shared.objects version.oid) version.place).words.stamp < horizon
  pub newest : NewerFrom (before.shared.objects version.oid) version.place horizon
  pub cells_are : cut ≡ cut_off version.place (before.shared.objects version.oid)
  pub after : Core
  pub event : after_event before who (kind.SwapLink version) ≡ Some after
  pub sound_after : Sound after
  pub oldest : (after.shared.objects version.oid).cut ≡ version.place
  pub below_after : (version_at (after.shared.objects version.oid) version.place).words.stamp < horizon
  pub newest_after : NewerFrom (after.shared.objects version.oid) version.place horizon

-- the chain was cut behind the version in hand: all cells cut off, so many, are spare ones now
pub record DidDetach (v : View) (who count : ℕ) (w : View) : Type 0 where
  pub version : VersionAt
  pub horizon : ℕ
  pub cut : List OwnCell
  pub swapped : HasSwapped v who version horizon cut
  pub count_is : count ≡ length cut
  pub view_is : w ≡ with_part who (cut_part cut (part_of v who)) v
  pub known : IsKnown w

-- Where the chain is cut: nowhere, as all of it was passed and no version was below the horizon, or behind the newest one below it, which
-- the walk from the one in hand came to.
abbrev pub IsCutOf : View → ℕ → ℕ → List OwnCell → Type 0
IsCutOf v who horizon cut =
    ((cut ≡ []) × HasPassedAll v who horizon) ⊎ ((version : VersionAt) × IsFrom (in_hand (part_of v who).task) version
    × HasSwapped (with_part who (with_task (task.CutFound version horizon) (part_of v who)) v) who version horizon cut)

-- a cut: these cells, so many, were cut off and are spare ones now
pub record DidCut (v : View) (who horizon count : ℕ) (w : View) : Type 0 where
  pub cut : List OwnCell
  pub place : IsCutOf v who horizon cut
  pub count_is : count ≡ length cut
  pub view_is : w ≡ with_part who (cut_part cut (part_of v who)) v
  pub known : IsKnown w

-- LAWS. A version is attached to its object's chain, in the cell that its name says.
pub record IsInChain (c : Core) (v : VersionAt) : Type 0 where
  pub object : v.oid < OBJECT_LIMIT
  pub attached : (c.shared.objects v.oid).cut ≤ v.place
  pub within : v.place < length (c.shared.objects v.oid).versions
  pub cell : (version_at (c.shared.objects v.oid) v.place).cell ≡ v.cell
