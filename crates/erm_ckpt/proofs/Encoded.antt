-- A slot's words, laid out at the front of a list.
use Rattle.std.proofs.Common.{◌≡◌, ℕ, ◌+◌, ◌-◌, ◌<◌, ◌≤◌, List, [], ◌∷◌, ◌++◌, length, set, take, drop, sym, ap, ◌∙◌, arith, length-append, length-drop, refl}
use Rattle.std.proofs.lemmas.List.{append_assoc, length-set, length-take-le, set_at, take_at, take-append-drop}
use Rattle.erm_bytes.specs.Digest.{digest_of}
use borrow.Rule.Slice.PartMut.{mid_of, put_mid}

-- the head, the rows and the count in place
abbrev pub laid : List ℕ → ℕ → ℕ → ℕ → ℕ → ℕ → List ℕ → List ℕ
laid out k stamp run first count words = set (put_mid 5 k (set (set (set (set out 0 2) 1 stamp) 2 run) 3 first) words) 4 count

-- they stand in front
laid_is : (out : List ℕ) (k stamp run first count : ℕ) (words : List ℕ) → 5 ≤ length out
    → laid out k stamp run first count words ≡ (2 ∷ stamp ∷ run ∷ first ∷ count ∷ words) ++ drop k (drop 5 out)
laid_is [] k stamp run first count words room = absurd (omega arith)
laid_is (a ∷ []) k stamp run first count words room = absurd (omega arith)
laid_is (a ∷ b ∷ []) k stamp run first count words room = absurd (omega arith)
laid_is (a ∷ b ∷ c ∷ []) k stamp run first count words room = absurd (omega arith)
laid_is (a ∷ b ∷ c ∷ d ∷ []) k stamp run first count words room = absurd (omega arith)
laid_is (a ∷ b ∷ c ∷ d ∷ e ∷ out) k stamp run first count words room = refl

-- there is room for a word more behind the rows
pub one_more_word : (out words : List ℕ) (stamp run first size : ℕ)
    → length words ≡ length (mid_of 5 (length (set (set (set (set out 0 2) 1 stamp) 2 run) 3 first) - 5) (set (set (set (set out 0 2) 1 stamp) 2 run) 3 first))
    → size + 6 ≤ length out → size < length words
one_more_word out words stamp run first size same room =
    let a : List ℕ = set out 0 2 in
    let b : List ℕ = set a 1 stamp in
    let c : List ℕ = set b 2 run in
    let d : List ℕ = set c 3 first in
    omega (
      arith,
      same,
      room,
      length-set out 0 2,
      length-set a 1 stamp,
      length-set b 2 run,
      length-set c 3 first,
      length-drop 5 d,
      length-take-le (length d - 5) (drop 5 d) (omega (arith, length-drop 5 d)),
    )

-- a word set behind the front
set_behind : (front tail : List ℕ) (n d : ℕ) → length front ≡ n → 0 < length tail → take (n + 1) (set (front ++ tail) n d) ≡ front ++ d ∷ []
set_behind front [] n d long some = absurd (omega (arith, some))
set_behind front (y ∷ ys) n d long some =
    ap (take (n + 1)) (set_at front y ys d n long ∙ sym (append_assoc front (d ∷ []) ys))
    ∙ take_at (front ++ d ∷ []) ys (n + 1) (omega (arith, length-append front (d ∷ []), long))

-- and with their digest they are the slot's words
pub slot_laid : (out words rows : List ℕ) (k stamp run first count size d : ℕ) → 5 ≤ length out → take size words ≡ rows → size < length words
    → d ≡ digest_of (take (5 + size) (laid out k stamp run first count words))
    → take (5 + size + 1) (set (laid out k stamp run first count words) (5 + size) d)
    ≡ (2 ∷ stamp ∷ run ∷ first ∷ count ∷ rows) ++ digest_of (2 ∷ stamp ∷ run ∷ first ∷ count ∷ rows) ∷ []
slot_laid out words rows k stamp run first count size d room written more digest =
    let front : List ℕ = 2 ∷ stamp ∷ run ∷ first ∷ count ∷ rows in
    let tail : List ℕ = drop size words ++ drop k (drop 5 out) in
    let parts : words ≡ rows ++ drop size words = sym (take-append-drop size words) ∙ ap (λ (ws : List ℕ). ws ++ drop size words) written in
    let whole : laid out k stamp run first count words ≡ front ++ tail =
    laid_is out k stamp run first count words room
    ∙ ap (λ (ws : List ℕ). 2 ∷ stamp ∷ run ∷ first ∷ count ∷ (ws ++ drop k (drop 5 out))) parts
    ∙ ap (λ (ws : List ℕ). 2 ∷ stamp ∷ run ∷ first ∷ count ∷ ws) (append_assoc rows (drop size words) (drop k (drop 5 out))) in
    let count_is : length rows ≡ size = ap length (sym written) ∙ length-take-le size words (omega (arith, more)) in
    let long : length front ≡ 5 + size = omega (arith, count_is) in
    let some : 0 < length tail = omega (arith, length-append (drop size words) (drop k (drop 5 out)), ap length parts, length-append rows (drop size words), count_is, more) in
    let last : d ≡ digest_of front = digest ∙ ap digest_of (ap (take (5 + size)) whole ∙ take_at front tail (5 + size) long) in
    ap (λ (ws : List ℕ). take (5 + size + 1) (set ws (5 + size) d)) whole ∙ set_behind front tail (5 + size) d long some ∙ ap (λ (w : ℕ). front ++ w ∷ []) last
