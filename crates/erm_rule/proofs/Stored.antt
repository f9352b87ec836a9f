-- A step that stores a word of a claim's own cell.
use Rattle.std.proofs.Common.{◌≡◌, ℕ, ◌<◌, ◌≤◌, ⊎_elim, true, false, length, set, Option, Some, None, refl, ap}
use Rattle.std.proofs.lemmas.Bool.{and_parts, cases_lt, eqb-true}
use Rattle.std.proofs.lemmas.List.{get_or_past}
use Rattle.erm_machine.specs.declared.attempt.Claim.{Claim}
use Rattle.erm_machine.specs.declared.attempt.OwnCell.{OwnCell}
use Rattle.erm_machine.specs.declared.part.Part.{Part}
use Rattle.erm_machine.specs.declared.task.Task.{Task}
use Rattle.erm_machine.specs.declared.task.Task.TheVariants as task
use Rattle.erm_machine.specs.declared.version.CellWord.{CellWord}
use Rattle.erm_machine.specs.declared.version.CellWord.TheVariants as word
use Rattle.erm_machine.specs.Core.{claim_at, no_claim}
use Rattle.erm_machine.specs.Reading.{with_own_word, start_row, store_row_word}
use Rattle.erm_machine.specs.Seat.{is_own, is_active}
use Rattle.erm_machine.specs.Settling.{store_head_word, store_active_word, store_cell}
use Rattle.erm_machine.proofs.Guards.{when_then, if_then}

-- a claim's own cell, by its number
pub record OwnOf (cell : ℕ) (o : Option OwnCell) : Type 0 where
  pub own : OwnCell
  pub is : o ≡ Some own
  pub cell_is : own.cell ≡ cell

pub own_of : (cell : ℕ) (o : Option OwnCell) → is_own cell o ≡ true → OwnOf cell o
own_of cell None e = absurd (cc)
own_of cell (Some own) e = record { own = own; is = refl; cell_is = eqb-true own.cell cell e }

-- a claim that has a cell is one of those that there are
pub own_within : (cell : ℕ) (x : Part) (k : ℕ) → is_own cell (claim_at x.current k).own ≡ true → k < length x.current.writes
own_within cell x k e =
    ⊎_elim (λ (within : k < length x.current.writes). within)
    (λ (past : length x.current.writes ≤ k).
    let none : is_own cell (claim_at x.current k).own ≡ false = ap (λ (w : Claim). is_own cell w.own) (get_or_past x.current.writes k no_claim past) in absurd (cc))
    (cases_lt k (length x.current.writes))

-- the claim at a place has a word of its cell changed, and no other claim's cell
pub record Stores (place cell : ℕ) (w : CellWord) (value : ℕ) (x y : Part) : Type 0 where
  pub own : is_own cell (claim_at x.current place).own ≡ true
  pub claim : Claim
  pub stored : claim.own ≡ with_own_word w value (claim_at x.current place).own
  pub writes : y.current.writes ≡ set x.current.writes place claim
  pub spare : y.spare ≡ x.spare

module _ (place cell : ℕ) where
  stores_start : (k value : ℕ) (x : Part) (t : Task) (y : Part) → start_row place cell k value x t ≡ Some y → Stores place cell (word.Row k) value x y
  stores_start k value x t y e =
      when_then (Stores place cell (word.Row k) value x) _ _ y e (λ g. record { own = (and_parts _ _ (and_parts _ _ g).0).1; claim = _; stored = refl; writes = refl; spare = refl })

  stores_row : (k value : ℕ) (x : Part) (t : Task) (y : Part) → store_row_word place cell k value x t ≡ Some y → Stores place cell (word.Row k) value x y
  stores_row k value x (task.Copies w) y e =
      when_then (Stores place cell (word.Row k) value x) _ _ y e (λ g. record { own = (and_parts _ _ (and_parts _ _ (and_parts _ _ (and_parts _ _ g).0).0).0).1; claim = _; stored = refl; writes = refl; spare = refl })
  stores_row k value x (task.Writes claim w) y e =
      when_then (Stores place cell (word.Row k) value x) _ _ y e (λ g. record { own = (and_parts _ _ (and_parts _ _ (and_parts _ _ g).0).0).1; claim = _; stored = refl; writes = refl; spare = refl })
  stores_row k value x t y e = stores_start k value x t y e

  stores_active : (w : CellWord) (value : ℕ) (x y : Part) → store_active_word place cell w value x ≡ Some y → Stores place cell w value x y
  stores_active (word.Row k) value x y e = stores_row k value x x.task y e
  stores_active _ value x y e = absurd (cc)

  stores_head : (w : CellWord) (value : ℕ) (x : Part) (t : Task) (y : Part) → store_head_word place cell w value x t ≡ Some y → Stores place cell w value x y
  stores_head w value x (task.Ends raised ended step cleared) y e =
      when_then (Stores place cell w value x) _ _ y e (λ g. record { own = (and_parts _ _ (and_parts _ _ (and_parts _ _ (and_parts _ _ g).0).0).0).1; claim = _; stored = refl; writes = refl; spare = refl })
  stores_head w value x _ y e = absurd (cc)

  pub stores : (w : CellWord) (value : ℕ) (x y : Part) → store_cell place cell w value x ≡ Some y → Stores place cell w value x y
  stores w value x y e =
      if_then (Stores place cell w value x) (is_active x.place) (store_active_word place cell w value x) (store_head_word place cell w value x x.task) y e
      (λ _ h. stores_active w value x y h) (λ _ h. stores_head w value x x.task y h)
