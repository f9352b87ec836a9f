-- A seat's own cells by their numbers: the claim that has a cell, and the kind of step that stores a word of it.
use Rattle.std.specs.List.{position_or_len}
use Rattle.std.specs.Prelude.{◌≡◌, ℕ, true}
use Rattle.erm_layout.specs.declared.word.Word.{Word}
use Rattle.erm_layout.specs.declared.word.Word.TheVariants as table
use Rattle.erm_machine.specs.declared.attempt.Claim.{Claim}
use Rattle.erm_machine.specs.declared.event.Kind.{Kind}
use Rattle.erm_machine.specs.declared.event.Kind.TheVariants as kind
use Rattle.erm_machine.specs.declared.part.Part.{Part}
use Rattle.erm_machine.specs.declared.version.CellWord.{CellWord}
use Rattle.erm_machine.specs.Core.{claim_at}
use Rattle.erm_machine.specs.Seat.{is_own}

-- the place of the claim that has this cell for its own
abbrev pub place_of : ℕ → Part → ℕ
place_of cell x = position_or_len (λ (w : Claim). is_own cell w.own) x.current.writes

-- some claim has it
abbrev pub Owns : ℕ → Part → Type 0
Owns cell x = is_own cell (claim_at x.current (place_of cell x)).own ≡ true

-- a word of it is stored
abbrev pub own_kind : Part → ℕ → CellWord → ℕ → Kind
own_kind x cell w value = kind.StoreCell (place_of cell x) cell w value

-- the cell of a word of the table, if it is one of a cell
abbrev pub cell_of : Word → ℕ
cell_of (table.Cell cell w) = cell
cell_of w = 0
