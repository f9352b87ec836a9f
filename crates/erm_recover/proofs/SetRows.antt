-- Rows of a list, and those of an array.
use Rattle.std.proofs.Common.{◌≡◌, ℕ, zero, suc, ◌<◌, List, [], ◌∷◌, length, get_or, set, Bool, true, false, refl, sym, ap, ◌∙◌, subst, arith, inl, inr, get_or-set_other}
use Rattle.std.specs.Prelude.{◌==◌, ◌↔◌, IsTrue, if◌then◌else◌}
use Rattle.std.specs.Bool.{OnFalse, OnTrue}
use Rattle.std.specs.List.{All}
use Rattle.std.proofs.lemmas.List.Elements.{All-head, All-tail}
use Rattle.std.proofs.Math.Path.{fun_ext}
use Rattle.std.proofs.lemmas.Bool.{cases_eq, false≢true}
use Rattle.std.proofs.lemmas.Bool.Decides.{nat_tests}
use Rattle.std.proofs.lemmas.Grind.{get_or-set_at}
use Rattle.erm_model.specs.Rows.{Rows, rows_of, set_row}
use Rattle.erm_block.specs.Block.{Entry, IsEntry}
use Rattle.erm_block.specs.LogList.{set_rows}

pub is_same : (x i : ℕ) → x ≡ i → (x == i) ≡ true
is_same x i same = grind (arith, nat_tests)

pub is_other : (x i : ℕ) → (x ≡ i → ⊥) → (x == i) ≡ false
is_other x i other = grind (arith, nat_tests)

rows_of-at : (rows : List (List ℕ)) (i x : ℕ) (row : List ℕ) → i < length rows → get_or (set rows i row) x [] ≡ set_row (rows_of rows) i row x
rows_of-at rows i x row lt = elim (cases_eq x i) as (λ _. get_or (set rows i row) x [] ≡ set_row (rows_of rows) i row x) [
  | inl same ↦ get_or-set_at rows i x row [] same lt ∙ sym (ap (λ (t : Bool). if t then row else get_or rows x []) (is_same x i same))
  | inr other ↦ get_or-set_other rows i x row [] other ∙ sym (ap (λ (t : Bool). if t then row else get_or rows x []) (is_other x i other))
]

-- the array after an object's row is set
pub rows_of-set : (rows : List (List ℕ)) (i : ℕ) (row : List ℕ) → i < length rows → rows_of (set rows i row) ≡ set_row (rows_of rows) i row
rows_of-set rows i row lt = fun_ext (λ (x : ℕ). rows_of-at rows i x row lt)

-- the array after the rows of entries are set
pub set_rows-first : (rows : List (List ℕ)) (entry : Entry) (entries : List Entry) → entry.0 < length rows
    → set_rows entries (rows_of (set rows entry.0 entry.1)) ≡ set_rows (entry ∷ entries) (rows_of rows)
set_rows-first rows entry entries lt = ap (λ (array : Rows). set_rows entries array) (rows_of-set rows entry.0 entry.1 lt)

set-set : (list : List (List ℕ)) (k : ℕ) (x : List ℕ) → set (set list k x) k (get_or list k []) ≡ list
set-set [] k x = refl
set-set (y ∷ list) zero x = refl
set-set (y ∷ list) (suc k) x = ap (λ (rest : List (List ℕ)). y ∷ rest) (set-set list k x)

-- a row that is put back
pub put_back : (test : Bool) (now rows : List (List ℕ)) (i : ℕ) (row : List ℕ) → OnFalse test (now ≡ set rows i row) → OnFalse test (set now i (get_or rows i []) ≡ rows)
put_back true now rows i row kept = tt
put_back false now rows i row kept = ap (λ (list : List (List ℕ)). set list i (get_or rows i [])) kept ∙ set-set rows i row

-- the first of entries, and those behind
pub first_is : (entries others : List Entry) (first : Entry) → entries ≡ first ∷ others → All IsEntry entries → IsEntry first
first_is entries others first is are = All-head IsEntry first others (subst (λ (es : List Entry). All IsEntry es) is are)

pub others_are : (entries others : List Entry) (first : Entry) → entries ≡ first ∷ others → All IsEntry entries → All IsEntry others
others_are entries others first is are = All-tail IsEntry first others (subst (λ (es : List Entry). All IsEntry es) is are)

-- what is set from the first on is what is set of all
pub after_first : (rows : List (List ℕ)) (entries others : List Entry) (first : Entry) → entries ≡ first ∷ others → first.0 < length rows
    → set_rows others (rows_of (set rows first.0 first.1)) ≡ set_rows entries (rows_of rows)
after_first rows entries others first is lt = set_rows-first rows first others lt ∙ ap (λ (es : List Entry). set_rows es (rows_of rows)) (sym is)

-- a test of the rows after the others is one of the rows after all
pub test_of_all : (meets : Rows → Type 0) (test : Bool) (a b : Rows) → a ≡ b → IsTrue test ↔ meets a → IsTrue test ↔ meets b
test_of_all meets test a b same told = (λ so. subst meets same (told.0 so), λ met. told.1 (subst meets (sym same) met))

pub set_of_all : (test : Bool) (now a b : Rows) → a ≡ b → OnTrue test (now ≡ a) → OnTrue test (now ≡ b)
set_of_all true now a b same set = set ∙ same
set_of_all false now a b same set = tt

-- rows that may replace others keep the law
pub replaced : (meets : Rows → Type 0) (test : Bool) (rows : List (List ℕ)) (i : ℕ) (row : List ℕ) → i < length rows
    → OnTrue test ((array : Rows) (oid : ℕ) → meets array → array oid ≡ get_or rows i [] → meets (set_row array oid row))
    → meets (rows_of rows) → IsTrue test → meets (rows_of (set rows i row))
replaced meets true rows i row lt keeps met so = subst meets (sym (rows_of-set rows i row lt)) (keeps (rows_of rows) i met refl)
replaced meets false rows i row lt keeps met so = absurd (false≢true so)
