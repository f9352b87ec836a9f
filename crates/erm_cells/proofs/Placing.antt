-- Own cells by their numbers: the claim that has a cell, and a step that stores a word of it.
use Rattle.std.proofs.Common.{◌≡◌, ℕ, ◌<◌, ◌≤◌, Bool, true, false, length, set, Some, refl, sym, ap, ◌∙◌, subst, arith}
use Rattle.std.specs.List.{position_or_len}
use Rattle.std.proofs.lemmas.List.Folds.{position_or_len-set}
use Rattle.std.proofs.lemmas.List.Sums.{position_or_len_is}
use Rattle.erm_model.specs.declared.limits.TheConstants.{TABLE_CELLS}
use Rattle.erm_machine.specs.declared.attempt.Claim.{Claim}
use Rattle.erm_machine.specs.declared.event.Kind.TheVariants as kind
use Rattle.erm_machine.specs.declared.limits.TheConstants.{ANNOUNCERS}
use Rattle.erm_machine.specs.declared.part.Part.{Part}
use Rattle.erm_machine.specs.declared.version.CellWord.{CellWord}
use Rattle.erm_machine.specs.Cells.{own_times}
use Rattle.erm_machine.specs.Core.{Core, claim_at, no_claim}
use Rattle.erm_machine.specs.Seat.{is_own}
use Rattle.erm_machine.specs.Settling.{store_cell}
use Rattle.erm_machine.specs.Sound.{Sound}
use Rattle.erm_rule.specs.declared.view.View.{View}
use Rattle.erm_rule.specs.Hands.{IsKnown}
use Rattle.erm_rule.specs.Steps.{Ready, Told}
use Rattle.erm_rule.specs.Views.{part_in, part_of, with_part}
use Rattle.erm_rule.proofs.OnePlace.{claim_counts, own_claim_alone, own_drawn}
use Rattle.erm_rule.proofs.Stored.{own_within}
use Rattle.erm_rule.proofs.Telling.{changed_here, part_of-changed}
use Rattle.erm_cells.specs.Placed.{Owns, own_kind, place_of}
use Rattle.erm_cells.proofs.Claimed.{seat_below}
use Rattle.erm_cells.proofs.Views.{ready_at, told_next}

-- of a sound state
module _ (c : Core) (p : ℕ) (sound : Sound c) (seat : p < ANNOUNCERS) (cell : ℕ) where
  -- a claim's cell is one of those that there are
  pub own_small : (k : ℕ) → is_own cell (claim_at (c.seats p).current k).own ≡ true → cell < c.shared.cell_limit
  own_small k is = (own_drawn c.shared c.seats sound.common.cells cell p seat (claim_counts cell (c.seats p) k (own_within cell (c.seats p) k is) is)).1

  -- one claim has it
  pub place_is : (k : ℕ) → is_own cell (claim_at (c.seats p).current k).own ≡ true → place_of cell (c.seats p) ≡ k
  place_is k is =
      position_or_len_is (λ (w : Claim). is_own cell w.own) (c.seats p).current.writes k no_claim (omega (arith, within)) (λ j before. none j before (is_own cell (claim_at (c.seats p).current j).own) refl) (λ _. is)
    where
      within : k < length (c.seats p).current.writes
      within = own_within cell (c.seats p) k is

      mine : 1 ≤ own_times cell (c.seats p)
      mine = claim_counts cell (c.seats p) k within is

      none : (j : ℕ) → j < k → (b : Bool) → is_own cell (claim_at (c.seats p).current j).own ≡ b → is_own cell (claim_at (c.seats p).current j).own ≡ false
      none j before true e = absurd (let same = own_claim_alone c.shared c.seats sound.common.cells cell p seat mine j k (own_within cell (c.seats p) j e) within e is in omega (arith, before, same))
      none j before false e = e

-- of a view that is one of a sound state
module _ (v : View) (who : ℕ) (x : Part) (has : part_in v who ≡ Some x) (known : IsKnown v) (cell : ℕ) where
  same : known.core.seats who ≡ x
  same = known.is_view who x has

  seat : who < ANNOUNCERS
  seat = seat_below v who x known.in_order has

  pub known_small : Owns cell x → cell < TABLE_CELLS
  known_small owned =
      let few = own_small known.core who known.sound seat cell (place_of cell x) (subst (λ (z : Part). is_own cell (claim_at z.current (place_of cell x)).own ≡ true) (sym same) owned) in
      subst (λ n. cell < n) known.limit few

  pub known_place : (k : ℕ) → is_own cell (claim_at x.current k).own ≡ true → place_of cell x ≡ k
  known_place k is =
      subst (λ (z : Part). place_of cell z ≡ k) same (place_is known.core who known.sound seat cell k (subst (λ (z : Part). is_own cell (claim_at z.current k).own ≡ true) (sym same) is))

  pub known_owns : (k : ℕ) → is_own cell (claim_at x.current k).own ≡ true → Owns cell x
  known_owns k is = subst (λ n. is_own cell (claim_at x.current n).own ≡ true) (sym (known_place k is)) is

-- the place of a cell stays where a claim is changed and keeps its cell
pub place_kept : (cell place : ℕ) (x y : Part) (w : Claim) → y.current.writes ≡ set x.current.writes place w → is_own cell w.own ≡ is_own cell (claim_at x.current place).own
    → place_of cell y ≡ place_of cell x
place_kept cell place x y w writes keeps =
    ap (position_or_len (λ (u : Claim). is_own cell u.own)) writes ∙ position_or_len-set (λ (u : Claim). is_own cell u.own) x.current.writes place w no_claim keeps

-- A step that stores a word of the cell, by a seat whose part was changed to y before; it leaves z.
module _ (v : View) (who : ℕ) (x : Part) (has : part_in v who ≡ Some x) (u : View) (y : Part) (is : u ≡ with_part who y v) (cell : ℕ) (w : CellWord) (value place : ℕ)
    (placed : place_of cell y ≡ place) (z : Part) (guard : store_cell place cell w value y ≡ Some z) where
  has_now : part_in u who ≡ Some y
  has_now = changed_here v who u y x has is

  part_is : part_of u who ≡ y
  part_is = part_of-changed v who u y x has is

  placed_now : place_of cell (part_of u who) ≡ place
  placed_now = ap (place_of cell) part_is ∙ placed

  pub ready_placed : Ready u who (own_kind (part_of u who) cell w value)
  ready_placed =
      subst (λ n. Ready u who (kind.StoreCell n cell w value)) (sym placed_now)
      (ready_at u who (kind.StoreCell place cell w value) y has_now (λ c. z) (λ c sound. guard))

  pub owns_now : is_own cell (claim_at y.current place).own ≡ true → Owns cell (part_of u who)
  owns_now owned = subst (λ (q : Part). Owns cell q) (sym part_is) (subst (λ n. is_own cell (claim_at y.current n).own ≡ true) (sym placed) owned)

  pub placed_is : (found : ℕ) (t : View) → Told u who (own_kind (part_of u who) cell w value) found t → t ≡ with_part who z v
  placed_is found t told =
      told_next v who (kind.StoreCell place cell w value) found u t y x z has is
      (subst (λ n. Told u who (kind.StoreCell n cell w value) found t) placed_now told) guard
