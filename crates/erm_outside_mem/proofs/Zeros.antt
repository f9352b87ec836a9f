-- A file that zeros make longer.
use Rattle.std.proofs.Common.{◌≡◌, ◌≤◌, ◌+◌, ◌-◌, ◌++◌, ℕ, zero, suc, List, [], ◌∷◌, length, take, drop, replicate, refl, ap, ◌∙◌, sym, arith, append-nil}
use Rattle.std.proofs.lemmas.List.{take-replicate, drop-replicate, take_all, drop_all}
use Rattle.erm_outside.specs.Disk.{spliced}

-- a front of it is the front of the file with as many zeros as that takes
take_zeros : (old : List ℕ) (at end : ℕ) → at ≤ end → take at (old ++ replicate (end - length old) 0) ≡ take at (old ++ replicate (at - length old) 0)
take_zeros [] at end le =
    take-replicate {X = ℕ} at (end - 0) 0 (omega arith) ∙ sym (take-replicate {X = ℕ} at (at - 0) 0 (omega arith))
take_zeros (x ∷ xs) zero end le = refl
take_zeros (x ∷ xs) (suc at) zero le = absurd (omega arith)
take_zeros (x ∷ xs) (suc at) (suc end) le =
    let longer : suc end - suc (length xs) ≡ end - length xs = omega arith in
    let shorter : suc at - suc (length xs) ≡ at - length xs = omega arith in
    rw (longer, shorter) (ap (λ ys. x ∷ ys) (take_zeros xs at end (omega arith)))

-- nothing of them lies behind its end
drop_zeros : (old : List ℕ) (end : ℕ) → drop end (old ++ replicate (end - length old) 0) ≡ drop end old
drop_zeros [] zero = refl
drop_zeros [] (suc end) =
    let none : suc end - 0 - suc end ≡ 0 = omega arith in
    drop-replicate {X = ℕ} (suc end) (suc end - 0) 0 ∙ rw none refl
drop_zeros (x ∷ xs) zero =
    let none : 0 - length (x ∷ xs) ≡ 0 = omega arith in
    rw none (append-nil (x ∷ xs))
drop_zeros (x ∷ xs) (suc end) =
    let less : suc end - suc (length xs) ≡ end - length xs = omega arith in
    rw less (drop_zeros xs end)

-- bytes copied over a file made long enough are laid into it
pub copied_is_spliced : (old bytes grown : List ℕ) (at end : ℕ) → end ≡ at + length bytes → grown ≡ old ++ replicate (end - length old) 0
    → take at grown ++ bytes ++ drop (at + length bytes) grown ≡ spliced old at bytes
copied_is_spliced old bytes grown at end e is =
    let front = take_zeros old at end (omega arith) in
    let back = drop_zeros old end in
    rw (is, ← e, front, back) refl

whole_take : (xs rest : List ℕ) (n : ℕ) → n ≡ length xs → rest ≡ [] → take n (xs ++ rest) ≡ xs
whole_take xs rest n e none = rw (none, e) (ap (λ ys. take (length xs) ys) (append-nil xs) ∙ take_all (length xs) xs (omega arith))

-- the same, of the whole vector
pub copied_to_vector : (old bytes grown copied : List ℕ) (at end size : ℕ) → end ≡ at + length bytes → grown ≡ old ++ replicate (end - length old) 0
    → copied ≡ take at grown ++ bytes ++ drop (at + length bytes) grown → size ≡ length copied → length grown ≡ size
    → take size (copied ++ drop (length copied) grown) ≡ spliced old at bytes
copied_to_vector old bytes grown copied at end size e is copy long all =
    whole_take copied (drop (length copied) grown) size long (drop_all (length copied) grown (omega arith)) ∙ copy ∙ copied_is_spliced old bytes grown at end e is
