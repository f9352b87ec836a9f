-- What a read, a settle and an end ask of a seat's part where they meet the words of a version, and what they leave of a pass's
-- view.
use Rattle.std.specs.Prelude.{◌≡◌, ℕ, ◌+◌, ◌<◌, ◌≤◌, ◌==◌, false, if◌then◌else◌, [], ◌∷◌, ◌++◌, length, Option, Some, None}
use Rattle.erm_machine.specs.declared.attempt.Attempt.{Attempt}
use Rattle.erm_machine.specs.declared.attempt.Decision.TheVariants.{Commit}
use Rattle.erm_machine.specs.declared.part.Part.{Part}
use Rattle.erm_machine.specs.declared.task.Task.{Task}
use Rattle.erm_machine.specs.declared.task.Task.TheVariants as task
use Rattle.erm_machine.specs.declared.version.Cell.{Cell}
use Rattle.erm_machine.specs.declared.version.VersionAt.{VersionAt}
use Rattle.erm_machine.specs.Core.{Core, version_at}
use Rattle.erm_machine.specs.Readers.{bit_of}
use Rattle.erm_machine.specs.Reading.{has_read}
use Rattle.erm_machine.specs.Seat.{end_of, with_pred, with_succ, with_task}
use Rattle.erm_machine.specs.Words.{without_bit}
use Rattle.erm_rule.specs.declared.view.View.{View}
use Rattle.erm_rule.specs.Hands.{IsKnown, in_hand}
use Rattle.erm_rule.specs.Views.{part_of, with_part}
use Rattle.erm_cells.specs.Hands.{ended_claim, next_cleared, next_raised, settled_claim}

-- the words of a version
abbrev pub words_of : Core → VersionAt → Cell
words_of c version = (version_at (c.shared.objects version.oid) version.place).words

-- the version in hand of a seat's call
abbrev pub hand_of : View → ℕ → VersionAt
hand_of v who = in_hand (part_of v who).task

-- READ. The version found is in this cell, and the transaction has read none of its object.
abbrev pub IsToBeRead : Attempt → Task → ℕ → Type 0
IsToBeRead t (task.Found version stamp head) cell = (version.cell ≡ cell) × (has_read version.oid t ≡ false)
IsToBeRead t u cell = ⊥

-- the version registered is in this cell
abbrev pub IsRegistered : Task → ℕ → Type 0
IsRegistered (task.Registered version) cell = version.cell ≡ cell
IsRegistered t cell = ⊥

-- the part of a seat that has registered a version with these words
abbrev pub registered_part : VersionAt → Cell → Part → Part
registered_part version words x = record x {
  task = task.Registered version;
  current = record (with_pred words.stamp x.current) {
    reads = x.current.reads ++ record { version = version; stamp = words.stamp; row = words.row } ∷ [];
  };
}

-- the stamp of the version found
abbrev pub found_stamp : Task → ℕ
found_stamp (task.Found version stamp head) = stamp
found_stamp t = 0

-- The version found was registered: it counts as read, with the stamp that was found and the row that it has, the predecessor stamp is
-- at least that stamp, and the own bit is set among its readers.
pub record DidRegister (v : View) (who : ℕ) (w : View) : Type 0 where
  pub known : IsKnown w
  pub view_is : w ≡ with_part who (registered_part (hand_of v who) (words_of known.core (hand_of v who)) (part_of v who)) v
  pub stamp_is : (words_of known.core (hand_of v who)).stamp ≡ found_stamp (part_of v who).task
  pub bit : bit_of known.core.shared who (hand_of v who).oid (hand_of v who).place ≡ 1

-- a transaction that has read a version with these words: the successor stamp of its overwriter, if it has one, counts for the
-- transaction's own
abbrev pub rated : Cell → Attempt → Attempt
rated words t = if words.overwriter == 0 then t else with_succ words.overwriter_succ words.overwriter t

-- the part of a seat that has rated a version with these words
abbrev pub rated_part : VersionAt → Cell → Part → Part
rated_part version words x = record x { task = task.Rated version; current = rated words x.current }

-- the successor stamp of the overwriter of a version with these words, if it has one
abbrev pub overwriter_succ : Cell → Option ℕ
overwriter_succ words = if words.overwriter == 0 then None else Some words.overwriter_succ

-- The version registered was rated by the words that it has: this successor stamp was found, if there is one.
pub record DidRateRead (v : View) (who : ℕ) (succ : Option ℕ) (w : View) : Type 0 where
  pub known : IsKnown w
  pub succ_is : succ ≡ overwriter_succ (words_of known.core (hand_of v who))
  pub view_is : w ≡ with_part who (rated_part (hand_of v who) (words_of known.core (hand_of v who)) (part_of v who)) v

-- SETTLE. It has passed all versions read, and has come to a version overwritten.
abbrev pub IsAtReaders : Attempt → Task → Type 0
IsAtReaders t (task.Settles reads writes) = (reads ≡ length t.reads) × (writes < length t.writes)
IsAtReaders t u = ⊥

-- the call in progress once these bits of its other readers are to be looked at
abbrev pub looking : ℕ → Task → Task
looking others (task.Settles reads writes) = if others == 0 then task.WriteClear writes else task.ReadersLeft writes others
looking others t = t

-- the bits of the version's readers were loaded, and those but the own one are to be looked at
pub record DidLoadReaders (v : View) (who others : ℕ) (w : View) : Type 0 where
  pub known : IsKnown w
  pub others_are : others ≡ without_bit (words_of known.core (settled_claim (part_of v who))).readers who
  pub view_is : w ≡ with_part who (with_task (looking others (part_of v who).task) (part_of v who)) v

-- END. A reader stamp is still to be raised.
abbrev pub IsRaising : Attempt → Task → Type 0
IsRaising t (task.Ends raised ended step cleared) = raised < length t.reads
IsRaising t u = ⊥

-- one more is raised
abbrev pub raised_once : Task → Task
raised_once (task.Ends raised ended step cleared) = task.Ends (raised + 1) ended step cleared
raised_once t = t

-- the reader stamp of the next version read is at least the own stamp
pub record DidRaise (v : View) (who : ℕ) (w : View) : Type 0 where
  pub known : IsKnown w
  pub view_is : w ≡ with_part who (with_task (raised_once (part_of v who).task) (part_of v who)) v
  pub stamp : (part_of v who).current.stamp ≤ (words_of known.core (next_raised (part_of v who))).reader_stamp

-- all reader stamps are raised, and the words of the next new version before its row are stored
abbrev pub IsMarking : Attempt → Task → Type 0
IsMarking t (task.Ends raised ended step cleared) = (raised ≡ length t.reads) × (ended < length t.writes) × (step ≡ 6)
IsMarking t u = ⊥

-- the version that it overwrites is marked
abbrev pub marked : Task → Task
marked (task.Ends raised ended step cleared) = task.Ends raised ended 8 cleared
marked t = t

-- the version overwritten has the own stamp for its overwriter's, and the own successor stamp
pub record DidMark (v : View) (who : ℕ) (w : View) : Type 0 where
  pub known : IsKnown w
  pub view_is : w ≡ with_part who (with_task (marked (part_of v who).task) (part_of v who)) v
  pub stamp : (words_of known.core (ended_claim (part_of v who))).overwriter ≡ (part_of v who).current.stamp
  pub succ : (words_of known.core (ended_claim (part_of v who))).overwriter_succ ≡ (part_of v who).current.succ

-- The own bit is still to be cleared at a version read: all claims are over, and a committed transaction has raised all reader
-- stamps. An active transaction without claims may begin so to end.
abbrev pub IsClearing : Attempt → Option (ℕ × ℕ × ℕ × ℕ) → Type 0
IsClearing t None = ⊥
IsClearing t (Some e) = (e.1 ≡ length t.writes) × (e.3 < length t.reads) × (t.decision ≡ Commit → e.0 ≡ length t.reads)

-- one more is cleared
abbrev pub cleared_once : Option (ℕ × ℕ × ℕ × ℕ) → Task
cleared_once None = task.Rest
cleared_once (Some e) = task.Ends e.0 e.1 e.2 (e.3 + 1)

-- the own bit isn't set any more among the readers of the next version read
pub record DidUnregister (v : View) (who : ℕ) (w : View) : Type 0 where
  pub known : IsKnown w
  pub view_is : w ≡ with_part who (with_task (cleared_once (end_of (part_of v who).task)) (part_of v who)) v
  pub bit : bit_of known.core.shared who (next_cleared (part_of v who)).oid (next_cleared (part_of v who)).place ≡ 0
