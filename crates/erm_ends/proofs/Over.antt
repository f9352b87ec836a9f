-- Lists of claims of which the first are over.
use Rattle.std.proofs.Common.{◌≡◌, ℕ, zero, suc, ◌<◌, false, List, [], ◌∷◌, ◌++◌, length, get_or, set, map, None, refl, sym, ap, ◌∙◌, arith}
use Rattle.erm_machine.specs.declared.attempt.Claim.{Claim}
use Rattle.erm_machine.specs.declared.attempt.OwnCell.{OwnCell}
use Rattle.erm_machine.specs.Core.{no_claim}
use Rattle.erm_machine.specs.Seat.{cells_of}
use Rattle.erm_ends.specs.Ends.{cells_over, claims_over}

abbrev pub ended : Claim → Claim
ended w = record w { held = false; own = None }

pub over_length : (n : ℕ) (ws : List Claim) → length (claims_over n ws) ≡ length ws
over_length zero ws = refl
over_length (suc n) [] = refl
over_length (suc n) (w ∷ ws) = ap (λ (k : ℕ). suc k) (over_length n ws)

-- the next one isn't over yet
pub over_next : (n : ℕ) (ws : List Claim) → get_or (claims_over n ws) n no_claim ≡ get_or ws n no_claim
over_next zero ws = refl
over_next (suc n) [] = refl
over_next (suc n) (w ∷ ws) = over_next n ws

-- one more is over
pub over_more : (n : ℕ) (ws : List Claim) → n < length ws → set (claims_over n ws) n (ended (get_or (claims_over n ws) n no_claim)) ≡ claims_over (suc n) ws
over_more zero [] less = absurd (omega (arith, less))
over_more zero (w ∷ ws) less = refl
over_more (suc n) [] less = absurd (omega (arith, less))
over_more (suc n) (w ∷ ws) less = ap (λ (us : List Claim). ended w ∷ us) (over_more n ws (omega (arith, less)))

append_none : (xs : List OwnCell) → xs ++ [] ≡ xs
append_none [] = refl
append_none (x ∷ xs) = ap (λ (ys : List OwnCell). x ∷ ys) (append_none xs)

pub append_twice : (xs ys zs : List OwnCell) → (xs ++ ys) ++ zs ≡ xs ++ (ys ++ zs)
append_twice [] ys zs = refl
append_twice (x ∷ xs) ys zs = ap (λ (us : List OwnCell). x ∷ us) (append_twice xs ys zs)

pub cells_more : (n : ℕ) (ws : List Claim) → n < length ws → cells_over n ws ++ cells_of (get_or ws n no_claim).own ≡ cells_over (suc n) ws
cells_more zero [] less = absurd (omega (arith, less))
cells_more zero (w ∷ ws) less = sym (append_none (cells_of w.own))
cells_more (suc n) [] less = absurd (omega (arith, less))
cells_more (suc n) (w ∷ ws) less =
    append_twice (cells_of w.own) (cells_over n ws) (cells_of (get_or ws n no_claim).own) ∙ ap (λ (us : List OwnCell). cells_of w.own ++ us) (cells_more n ws (omega (arith, less)))

pub cells_mapped : (xs ys : List OwnCell) → map (λ (own : OwnCell). own.cell) (xs ++ ys) ≡ map (λ (own : OwnCell). own.cell) xs ++ map (λ (own : OwnCell). own.cell) ys
cells_mapped [] ys = refl
cells_mapped (x ∷ xs) ys = ap (λ (us : List ℕ). x.cell ∷ us) (cells_mapped xs ys)
