-- The length of a row up to its last word that isn't 0.
use Rattle.std.proofs.Common.{◌≡◌, ◌≢◌, ℕ, zero, suc, ◌+◌, ◌-◌, ◌≤◌, ◌&&◌, Bool, true, false, cond, List, [], ◌∷◌, ◌++◌, length, get_or, take, replicate, refl, sym, ap, ◌∙◌, subst, add-one, arith}
use Rattle.std.proofs.Math.Dec.{eqb}
use Rattle.erm_record.specs.Stored.{stored_length}

-- the two ways of one step
longer_zero : (word rest : ℕ) → word ≡ 0 → rest ≡ 0 → (cond (eqb word 0 && eqb rest 0) 0 (rest + 1)) ≡ 0
longer_zero word rest none over = grind (arith, none, over)

longer_more : (word rest n : ℕ) → rest ≡ n → (n ≡ 0 → word ≢ 0) → (cond (eqb word 0 && eqb rest 0) 0 (rest + 1)) ≡ suc n
longer_more word rest n is last = grind (arith, is, last)

-- it is where only zeros follow, and no zero stands before
pub stored_length-is : (words : List ℕ) (n : ℕ) → n ≤ length words → ((k : ℕ) → n ≤ k → get_or words k 0 ≡ 0) → ((m : ℕ) → n ≡ m + 1 → get_or words m 0 ≢ 0) → n ≡ stored_length words
stored_length-is [] n short rest last = omega (arith, short)
stored_length-is (w ∷ ws) zero short rest last =
    let over : 0 ≡ stored_length ws = stored_length-is ws 0 (omega arith) (λ k low. rest (suc k) (omega arith)) (λ m none. absurd (omega (arith, none))) in
    sym (longer_zero w (stored_length ws) (rest 0 (omega arith)) (sym over))
stored_length-is (w ∷ ws) (suc n) short rest last =
    let over : n ≡ stored_length ws = stored_length-is ws n (omega (arith, short)) (λ k low. rest (suc k) (omega (arith, low))) (λ m is. last (suc m) (omega (arith, is))) in
    sym (longer_more w (stored_length ws) n (sym over) (λ none. last 0 (omega (arith, none))))

-- no longer than the row
pub stored_length-le : (words : List ℕ) → stored_length words ≤ length words
stored_length-le [] = omega arith
stored_length-le (w ∷ ws) = let le = stored_length-le ws in grind (arith, le)

-- the zeros behind the stored words of a longer row
one_more : (w m : ℕ) (ws : List ℕ) → m ≤ length ws → take m ws ++ replicate (length ws - m) 0 ≡ ws
    → (b : Bool) → (eqb w 0 && eqb m 0) ≡ b → take (cond b 0 (m + 1)) (w ∷ ws) ++ replicate (length (w ∷ ws) - cond b 0 (m + 1)) 0 ≡ w ∷ ws
one_more w m ws short whole true test =
    let none : w ≡ 0 = grind (arith, test) in
    let empty : m ≡ 0 = grind (arith, test) in
    let less : length ws - 0 ≡ length ws = omega arith in
    let full : length (w ∷ ws) - 0 ≡ suc (length ws) = omega arith in
    let zeros : replicate (length ws) 0 ≡ ws =
    subst (λ (k : ℕ). replicate k 0 ≡ ws) less (subst (λ (k : ℕ). take k ws ++ replicate (length ws - k) 0 ≡ ws) empty whole) in
    ap (λ (k : ℕ). replicate k 0) full ∙ ap (λ (z : ℕ). z ∷ replicate (length ws) 0) (sym none) ∙ ap (λ (l : List ℕ). w ∷ l) zeros
one_more w m ws short whole false test =
    let fewer : length (w ∷ ws) - suc m ≡ length ws - m = omega arith in
    ap (λ (k : ℕ). take k (w ∷ ws) ++ replicate (length (w ∷ ws) - k) 0) (add-one m)
    ∙ ap (λ (k : ℕ). w ∷ (take m ws ++ replicate k 0)) fewer ∙ ap (λ (l : List ℕ). w ∷ l) whole

-- a row is its stored words and zeros
pub stored_whole : (words : List ℕ) → take (stored_length words) words ++ replicate (length words - stored_length words) 0 ≡ words
stored_whole [] = refl
stored_whole (w ∷ ws) = one_more w (stored_length ws) ws (stored_length-le ws) (stored_whole ws) (eqb w 0 && eqb (stored_length ws) 0) refl
