-- How many cells are drawn: each object has one from the opening on, and each claim draws one at most.
use Rattle.std.specs.Prelude.{◌+◌, ◌≤◌, ◌⊎◌, ◌||◌, ℕ, Bool, not, count_by, is_none, length, sum_by}
use Rattle.erm_machine.specs.declared.attempt.Attempt.{Attempt}
use Rattle.erm_machine.specs.declared.attempt.Claim.{Claim}
use Rattle.erm_machine.specs.declared.limits.TheConstants.{ANNOUNCERS, OBJECT_LIMIT}
use Rattle.erm_machine.specs.declared.part.Part.{Part}
use Rattle.erm_machine.specs.Core.{Core}
use Rattle.erm_machine.specs.Facts.{total}

-- the claim has its cell, or is over
abbrev pub is_firm : Claim → Bool
is_firm w = not w.held || not (is_none w.own)

-- how many of a seat's claims are there to stay: those of its transactions that are over, and of the current one those that have
-- their cells, or are over
abbrev pub firm_in : Part → ℕ
firm_in x = sum_by (λ (t : Attempt). length t.writes) x.over + count_by is_firm x.current.writes

-- how many of all seats' are
abbrev pub firm_in_all : Core → ℕ
firm_in_all c = total firm_in ANNOUNCERS c.seats

-- There is such a claim for each cell that was drawn from the counter, or for each that can be.
abbrev pub IsCovered : Core → Type 0
IsCovered c = (c.shared.cells_drawn ≤ OBJECT_LIMIT + firm_in_all c) ⊎ (c.shared.cell_limit ≤ OBJECT_LIMIT + firm_in_all c)
