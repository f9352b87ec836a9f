-- Heads: what storing the words of a new version before its row leaves of a pass's view.
use Rattle.std.specs.Prelude.{◌≡◌, ℕ, zero, suc, ◌+◌, true, Option, Some, None}
use Rattle.erm_machine.specs.declared.attempt.Attempt.{Attempt}
use Rattle.erm_machine.specs.declared.attempt.Claim.{Claim}
use Rattle.erm_machine.specs.declared.attempt.OwnCell.{OwnCell}
use Rattle.erm_machine.specs.declared.part.Part.{Part}
use Rattle.erm_machine.specs.declared.task.Task.{Task}
use Rattle.erm_machine.specs.declared.task.Task.TheVariants as task
use Rattle.erm_machine.specs.declared.version.CellWord.{CellWord}
use Rattle.erm_machine.specs.declared.version.CellWord.TheVariants as word
use Rattle.erm_machine.specs.Core.{claim_at}
use Rattle.erm_machine.specs.Seat.{is_own, with_claim}
use Rattle.erm_machine.specs.Settling.{installs}
use Rattle.erm_rule.specs.declared.view.View.{View}
use Rattle.erm_rule.specs.Hands.{IsKnown}
use Rattle.erm_rule.specs.Views.{part_of, with_part}
use Rattle.erm_cells.specs.Placed.{place_of}

-- the cell is that of the next claim to be installed, no step of which is taken; the stamp is the own one, and the link names the cell
-- overwritten
abbrev pub MayStoreHead : ℕ → ℕ → Option ℕ → Part → Task → Type 0
MayStoreHead cell stamp link x (task.Ends raised ended step cleared) =
    (step ≡ 0) × (installs raised ended step x ≡ true) × (is_own cell (claim_at x.current ended).own ≡ true) × (stamp ≡ x.current.stamp)
    × (link ≡ Some (claim_at x.current ended).version.cell)
MayStoreHead cell stamp link x t = ⊥

-- the word that a step of an install stores, and its value, where the new version has this stamp and this link
abbrev pub head_word_at : ℕ → CellWord
head_word_at zero = word.Stamp
head_word_at (suc zero) = word.Link
head_word_at (suc (suc zero)) = word.Readers
head_word_at (suc (suc (suc zero))) = word.ReaderStamp
head_word_at (suc (suc (suc (suc zero)))) = word.Overwriter
head_word_at step = word.OverwriterSucc

abbrev pub head_value_at : ℕ → ℕ → CellWord → ℕ
head_value_at stamp link word.Stamp = stamp
head_value_at stamp link word.Link = link
head_value_at stamp link word.ReaderStamp = stamp
head_value_at stamp link w = 0

-- a link in a cell: one more than the cell that it names, or 0
abbrev pub link_of : Option ℕ → ℕ
link_of None = 0
link_of (Some cell) = cell + 1

-- a claim's own cell with the words of a new version that nobody has read or overwritten
abbrev pub with_own_head : Attempt → Claim → Option OwnCell → Option OwnCell
with_own_head t claim None = None
with_own_head t claim (Some own) = Some (record own {
  words = record own.words {
    stamp = t.stamp;
    link = claim.version.cell + 1;
    readers = 0;
    reader_stamp = t.stamp;
    overwriter = 0;
    overwriter_succ = 0;
  };
})

-- six steps of the install are taken
abbrev pub after_head : Task → Task
after_head (task.Ends raised ended step cleared) = task.Ends raised ended 6 cleared
after_head t = t

abbrev pub headed_part : ℕ → Part → Part
headed_part place x = record x {
  task = after_head x.task;
  current = with_claim place (record (claim_at x.current place) { own = with_own_head x.current (claim_at x.current place) (claim_at x.current place).own }) x.current;
}

-- The words before the row were stored into the cell.
pub record DidStoreHead (v : View) (who cell : ℕ) (w : View) : Type 0 where
  pub view_is : w ≡ with_part who (headed_part (place_of cell (part_of v who)) (part_of v who)) v
  pub known : IsKnown w
