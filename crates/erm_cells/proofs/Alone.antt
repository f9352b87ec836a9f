-- A claim's own cell is nobody else's.
use Rattle.std.proofs.Common.{◌≡◌, ◌≢◌, ℕ, ◌<◌, ◌≤◌, ⊎_elim, true, length, Some, subst, arith}
use Rattle.std.proofs.lemmas.Bool.{cases_eq}
use Rattle.erm_machine.specs.declared.attempt.OwnCell.{OwnCell}
use Rattle.erm_machine.specs.declared.limits.TheConstants.{ANNOUNCERS}
use Rattle.erm_machine.specs.Cells.{own_times}
use Rattle.erm_machine.specs.Core.{Core, claim_at}
use Rattle.erm_machine.specs.Seat.{is_own}
use Rattle.erm_machine.specs.Sound.{Sound}
use Rattle.erm_model.specs.Member.{◌∈◌}
use Rattle.erm_cells.specs.Calls.{IsAlone}
use Rattle.erm_rule.proofs.OnePlace.{claim_within, claim_owns, claim_counts, spare_counts, own_unchained, own_apart, own_claim_alone, own_not_spare}

module _ (c : Core) (p k : ℕ) (own : OwnCell) (sound : Sound c) (seat : p < ANNOUNCERS) (has : (claim_at (c.seats p).current k).own ≡ Some own) where
  within : k < length (c.seats p).current.writes
  within = claim_within (c.seats p) k own has

  mine : 1 ≤ own_times own.cell (c.seats p)
  mine = claim_counts own.cell (c.seats p) k within (claim_owns (c.seats p) k own has)

  none_there : (n : ℕ) → 1 ≤ n → n ≡ 0 → ⊥
  none_there n some none = omega (arith, some, none)

  elsewhere : (q : ℕ) → q ≢ p → q < ANNOUNCERS → own_times own.cell (c.seats q) ≡ 0
  elsewhere q ne below = own_apart c.shared c.seats sound.common.cells own.cell p seat mine q ne below

  owned_as : (q j : ℕ) (other : OwnCell) → (claim_at (c.seats q).current j).own ≡ Some other → other.cell ≡ own.cell → is_own own.cell (claim_at (c.seats q).current j).own ≡ true
  owned_as q j other is same = subst (λ n. is_own n (claim_at (c.seats q).current j).own ≡ true) same (claim_owns (c.seats q) j other is)

  pub is_alone : IsAlone c p own.cell
  is_alone = record {
    unchained = own_unchained c.shared c.seats sound.common.cells own.cell p seat mine;
    claims = λ q j other below ne is same.
        none_there _ (claim_counts own.cell (c.seats q) j (claim_within (c.seats q) j other is) (owned_as q j other is same)) (elsewhere q ne below);
    spares = λ q other below m same.
        ⊎_elim
        (λ (here : q ≡ p).
        own_not_spare c.shared c.seats sound.common.cells own.cell p seat mine k other within (claim_owns (c.seats p) k own has) (subst (λ n. other ∈ (c.seats n).spare) here m) same)
        (λ (ne : q ≡ p → ⊥). none_there _ (spare_counts own.cell (c.seats q) other m same) (elsewhere q ne below))
        (cases_eq q p);
    once = λ i j one two is also first second.
        own_claim_alone c.shared c.seats sound.common.cells own.cell p seat mine i j (claim_within (c.seats p) i one is) (claim_within (c.seats p) j two also)
        (owned_as p i one is first) (owned_as p j two also second);
  }
