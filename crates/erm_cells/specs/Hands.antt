-- The words of versions that a seat's call in progress meets, and the kinds of step that meet them.
use Rattle.std.specs.Prelude.{ℕ}
use Rattle.erm_layout.specs.declared.word.Word.{Word}
use Rattle.erm_layout.specs.declared.word.Word.TheVariants as table
use Rattle.erm_machine.specs.declared.event.Kind.{Kind}
use Rattle.erm_machine.specs.declared.event.Kind.TheVariants as kind
use Rattle.erm_machine.specs.declared.part.Part.{Part}
use Rattle.erm_machine.specs.declared.task.Task.{Task}
use Rattle.erm_machine.specs.declared.task.Task.TheVariants as task
use Rattle.erm_machine.specs.declared.version.CellWord.{CellWord}
use Rattle.erm_machine.specs.declared.version.CellWord.TheVariants as word
use Rattle.erm_machine.specs.declared.version.VersionAt.{VersionAt}
use Rattle.erm_machine.specs.Core.{claim_at}
use Rattle.erm_machine.specs.Seat.{last_claim, read_at}
use Rattle.erm_rule.specs.declared.change.Change.{Change}
use Rattle.erm_rule.specs.declared.change.Change.TheVariants as change
use Rattle.erm_rule.specs.Hands.{in_hand}

-- the word of a cell, if it is one
abbrev pub cell_word_of : Word → CellWord
cell_word_of (table.Cell cell w) = w
cell_word_of w = word.Stamp

-- the number that a change brings
abbrev pub amount : Change → ℕ
amount (change.Set n) = n
amount (change.Raise n) = n
amount c = 0

-- the place in its row of a cell's word, if it is one of the row
abbrev pub row_place_of : Word → ℕ
row_place_of (table.Cell cell (word.Row place)) = place
row_place_of w = 0

-- the version that the newest claim overwrites
abbrev pub newest_claimed : Part → VersionAt
newest_claimed x = (claim_at x.current (last_claim x.current)).version

-- the load of its reader stamp
abbrev pub rated_kind : Part → Kind
rated_kind x = kind.LoadStamp (newest_claimed x) word.ReaderStamp

-- the load of a word of its row
abbrev pub copied_kind : Part → ℕ → Kind
copied_kind x place = kind.LoadCell (newest_claimed x) (word.Row place)

-- the swap of the link of the version in hand
abbrev pub swap_kind : Part → Kind
swap_kind x = kind.SwapLink (in_hand x.task)

-- the load of the link of the version in hand, which was cut off
abbrev pub detached_kind : Part → Kind
detached_kind x = kind.LoadDetached (in_hand x.task)

-- the own bit of the version in hand is set
abbrev pub reader_kind : Part → Kind
reader_kind x = kind.SetReader (in_hand x.task)

-- how many reader stamps an end has raised
abbrev pub raised_by : Task → ℕ
raised_by (task.Ends raised ended step cleared) = raised
raised_by t = 0

-- the next version read whose reader stamp is to be raised
abbrev pub next_raised : Part → VersionAt
next_raised x = (read_at x.current (raised_by x.task)).version

abbrev pub raise_kind : Part → ℕ → Kind
raise_kind x value = kind.RaiseReader (next_raised x) value

-- SETTLE. The version read, or overwritten, whose stamps a read or a settle has come to load.
abbrev pub rated_at : Part → Task → VersionAt
rated_at x (task.ReadClear read) = (read_at x.current read).version
rated_at x (task.ReadOvertaken read overwriter) = (read_at x.current read).version
rated_at x (task.WriteClear write) = (claim_at x.current write).version
rated_at x (task.WriteMade write) = (claim_at x.current write).version
rated_at x t = in_hand t

abbrev pub rated_version : Part → VersionAt
rated_version x = rated_at x x.task

abbrev pub stamp_kind : Part → CellWord → Kind
stamp_kind x w = kind.LoadStamp (rated_version x) w

-- how many of the versions overwritten a settle has passed
abbrev pub settled_by : Task → ℕ
settled_by (task.Settles reads writes) = writes
settled_by t = 0

abbrev pub settled_claim : Part → VersionAt
settled_claim x = (claim_at x.current (settled_by x.task)).version

abbrev pub readers_kind : Part → Kind
readers_kind x = kind.LoadReaders (settled_claim x)

-- END. How many claims are over, and how many own bits are cleared.
abbrev pub ended_by : Task → ℕ
ended_by (task.Ends raised ended step cleared) = ended
ended_by t = 0

abbrev pub ended_claim : Part → VersionAt
ended_claim x = (claim_at x.current (ended_by x.task)).version

abbrev pub succ_kind : Part → ℕ → Kind
succ_kind x value = kind.StoreSucc (ended_claim x) value

abbrev pub mark_kind : Part → ℕ → Kind
mark_kind x value = kind.StoreOverwriter (ended_claim x) value

abbrev pub cleared_by : Task → ℕ
cleared_by (task.Ends raised ended step cleared) = cleared
cleared_by t = 0

abbrev pub next_cleared : Part → VersionAt
next_cleared x = (read_at x.current (cleared_by x.task)).version

abbrev pub clear_kind : Part → Kind
clear_kind x = kind.ClearReader (next_cleared x)
