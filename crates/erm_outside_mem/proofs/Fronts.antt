-- The front of a buffer that bytes were taken into.
use Rattle.std.proofs.Common.{◌≡◌, ◌≤◌, ◌++◌, ℕ, List, length, take, drop, min, Result, Ok, IfOk, append_assoc, refl, arith}
use Rattle.std.proofs.lemmas.List.{length-take, take_min, drop_min, drop-append-le, take-append-drop}

-- the buffer's first m places, filled with the front of xs, and the rest of the buffer
filled : (xs ys : List ℕ) (m n : ℕ) → m ≤ length ys → n ≡ min (length xs) m → (take m xs ++ drop (length xs) (take m ys)) ++ drop m ys ≡ take n xs ++ drop n ys
filled xs ys m n le e =
    let places : length (take m ys) ≡ m = omega (arith, length-take m ys) in
    let front : min m (length xs) ≡ n = omega arith in
    let middle : min (length xs) (length (take m ys)) ≡ n = omega arith in
    let taken = take_min m xs in
    let unread = drop_min (length xs) (take m ys) in
    let joined = drop-append-le n (take m ys) (drop m ys) (omega arith) in
    let whole = take-append-drop m ys in
    let grouped = append_assoc (take m xs) (drop (length xs) (take m ys)) (drop m ys) in
    cc

-- the same, of what a call says of that part
pub IfOk-filled : {E : Type 0} (xs ys part : List ℕ) (m : ℕ) (r : Result ℕ E) → m ≤ length ys → r ≡ Ok (min (length xs) (length (take m ys))) → part ≡ take (length (take m ys)) xs ++ drop (length xs) (take m ys) → IfOk r (λ n. part ++ drop m ys ≡ take n xs ++ drop n ys)
IfOk-filled xs ys part m r le was is =
    let places : length (take m ys) ≡ m = omega (arith, length-take m ys) in
    rw (was, is, places) (filled xs ys m (min (length xs) m) le refl)
