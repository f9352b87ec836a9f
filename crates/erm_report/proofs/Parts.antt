-- Lists of bytes that are cut at each byte of a kind.
use Rattle.std.proofs.Common.{◌≡◌, ◌≢◌, ℕ, ◌==◌, Bool, true, false, cond, List, [], ◌∷◌, ◌++◌, refl, ap, ◌∙◌, eq-eqb}
use Rattle.std.specs.List.{slice_split, All}
use Rattle.std.proofs.lemmas.Bool.{false≢true, ne_eqb}
use Rattle.std.proofs.lemmas.List.Elements.{All-nil, All-cons, All-head, All-tail}
use Rattle.std.proofs.lemmas.List.Splits.{slice_split_none, slice_split_at}

-- whether a byte is none of these
abbrev pub lacks : ℕ → List ℕ → Bool
lacks c [] = true
lacks c (b ∷ bs) = cond (b == c) false (lacks c bs)

-- the parts of a list that is cut at each c
unfoldable pub parts_at : ℕ → List ℕ → List (List ℕ)
parts_at c bs = slice_split (λ b. b == c) bs

unless_more : (t a b : Bool) → cond t false a ≡ true → (a ≡ true → b ≡ true) → cond t false b ≡ true
unless_more true a b h more = h
unless_more false a b h more = more h

unless_parts : (t a : Bool) → cond t false a ≡ true → (t ≡ false) × (a ≡ true)
unless_parts true a h = absurd (false≢true h)
unless_parts false a h = (refl, h)

pub lacks-append : (c : ℕ) (xs ys : List ℕ) → lacks c xs ≡ true → lacks c ys ≡ true → lacks c (xs ++ ys) ≡ true
lacks-append c [] ys p q = q
lacks-append c (x ∷ xs) ys p q = unless_more (x == c) (lacks c xs) (lacks c (xs ++ ys)) p (λ h. lacks-append c xs ys h q)

-- where no byte is c, c is lacking
pub lacks_none : (c : ℕ) (bs : List ℕ) → All (λ b. b ≢ c) bs → lacks c bs ≡ true
lacks_none c [] all = refl
lacks_none c (b ∷ bs) all =
    ap (λ t. cond t false (lacks c bs)) (ne_eqb b c (All-head (λ b. b ≢ c) b bs all)) ∙ lacks_none c bs (All-tail (λ b. b ≢ c) b bs all)

-- where c is lacking, no byte passes the test for it
none_passes : (c : ℕ) (bs : List ℕ) → lacks c bs ≡ true → All (λ b. (b == c) ≡ false) bs
none_passes c [] h = All-nil (λ b. (b == c) ≡ false)
none_passes c (b ∷ bs) h =
    let parts = unless_parts (b == c) (lacks c bs) h in
    All-cons (λ b. (b == c) ≡ false) b bs parts.0 (none_passes c bs parts.1)

-- the last part
pub parts_at-last : (c : ℕ) (bs : List ℕ) → lacks c bs ≡ true → parts_at c bs ≡ bs ∷ []
unfolding parts_at
parts_at-last c bs h = slice_split_none (λ b. b == c) bs (none_passes c bs h)

-- a part before others
pub parts_at-more : (c : ℕ) (bs rest : List ℕ) (parts : List (List ℕ)) → lacks c bs ≡ true → parts_at c rest ≡ parts → parts_at c (bs ++ c ∷ rest) ≡ bs ∷ parts
unfolding parts_at
parts_at-more c bs rest parts h e = slice_split_at (λ b. b == c) bs c rest (none_passes c bs h) (eq-eqb c c refl) ∙ ap (λ ps. bs ∷ ps) e
