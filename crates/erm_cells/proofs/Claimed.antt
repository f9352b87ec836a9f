-- A claim that is changed, and a seat of a view that is one of a sound state.
use Rattle.std.proofs.Common.{◌≡◌, ℕ, ◌-◌, ◌<◌, List, length, None, Some, Option, unwrap_or, refl, sym, ap, ◌∙◌, arith}
use Rattle.std.specs.Prelude.{IsSome}
use Rattle.std.proofs.lemmas.List.{get_or-set_same, length-set, set-set}
use Rattle.erm_machine.specs.declared.attempt.Attempt.{Attempt}
use Rattle.erm_machine.specs.declared.attempt.Claim.{Claim}
use Rattle.erm_machine.specs.declared.attempt.OwnCell.{OwnCell}
use Rattle.erm_machine.specs.declared.limits.TheConstants.{ANNOUNCERS}
use Rattle.erm_machine.specs.declared.part.Part.{Part}
use Rattle.erm_machine.specs.declared.place.Place.TheVariants.{Vacant}
use Rattle.erm_machine.specs.Core.{claim_at, fresh_part, no_claim}
use Rattle.erm_machine.specs.Reading.{with_cell}
use Rattle.erm_machine.specs.Seat.{with_claim, last_claim}
use Rattle.erm_machine.specs.Words.{is_seat}
use Rattle.erm_rule.specs.declared.view.View.{View}
use Rattle.erm_rule.specs.Views.{part_in, part_of, IsInOrder}
use Rattle.erm_rule.proofs.Allowed.{of_seat}
use Rattle.erm_rule.proofs.Parts.{found_among}

-- the claim that was set, and one that is set again
pub claim_set : (t : Attempt) (k : ℕ) (w : Claim) → k < length t.writes → claim_at (with_claim k w t) k ≡ w
claim_set t k w within = get_or-set_same t.writes k w no_claim within

pub claims_set : (t : Attempt) (k : ℕ) (w : Claim) → length (with_claim k w t).writes ≡ length t.writes
claims_set t k w = length-set t.writes k w

pub claim_again : (t : Attempt) (k : ℕ) (w u : Claim) → with_claim k u (with_claim k w t) ≡ with_claim k u t
claim_again t k w u = ap (λ (ws : List Claim). record t { writes = ws }) (set-set t.writes k w u)

-- the newest claim has the cell that it was given
pub newest_owns : (t : Attempt) (own : OwnCell) → 0 < length t.writes → (claim_at (with_cell own t) (last_claim (with_cell own t))).own ≡ Some own
newest_owns t own some =
    let w : Claim = record (claim_at t (last_claim t)) { own = Some own } in
    let same : last_claim (with_cell own t) ≡ last_claim t = ap (λ (n : ℕ). n - 1) (claims_set t (last_claim t) w) in
    ap (λ (n : ℕ). (claim_at (with_cell own t) n).own) same ∙ ap (λ (u : Claim). u.own) (claim_set t (last_claim t) w (omega (arith, some)))

-- a seat that a view has
some_is : (o : Option Part) → IsSome o → o ≡ Some (unwrap_or o (fresh_part Vacant 0 0))
some_is None h = absurd (cc)
some_is (Some x) h = refl

pub held_is : (v : View) (who : ℕ) → IsSome (part_in v who) → part_in v who ≡ Some (part_of v who)
held_is v who h = some_is (part_in v who) h

-- a seat of a view has words
pub seat_below : (v : View) (who : ℕ) (x : Part) → IsInOrder v → part_in v who ≡ Some x → who < ANNOUNCERS
seat_below v who x order has = let h = found_among who v.held x has in of_seat who (ap is_seat (sym h.2) ∙ order.seats h.0 h.1)
