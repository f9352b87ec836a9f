-- A checkpoint's rows are told by what they set.
use Rattle.std.proofs.Common.{◌≡◌, ◌≢◌, ℕ, zero, suc, ◌<◌, ◌⊎◌, Bool, true, false, cond, List, [], ◌∷◌, length, get_or, replicate, refl, sym, ap, ◌∙◌, arith, inl, inr, subst}
use Rattle.std.specs.List.{All, AllPairs}
use Rattle.std.proofs.lemmas.Bool.{cases_lt}
use Rattle.std.proofs.lemmas.Bool.Decides.{nat_tests}
use Rattle.std.proofs.lemmas.List.Elements.{All-cons, All-head, All-tail}
use Rattle.std.proofs.Math.Dec.{eqb}
use Rattle.erm_model.specs.Rows.{Rows, set_row}
use Rattle.erm_model.specs.RowTransaction.{SameRows}
use Rattle.erm_record.specs.Stored.{stored_length}
use Rattle.erm_block.specs.Block.{Entry}
use Rattle.erm_block.specs.LogList.{set_rows}
use Rattle.erm_ckpt.specs.Checkpoint.{IsSaved, zero_rows}

-- rows, each with its object's number, that ascend and aren't zero
pub record Saves (entries : List Entry) : Type 0 where
  pub each : All IsSaved entries
  pub ascending : AllPairs (λ a b. a.0 < b.0) entries

set_other : (base : Rows) (n x : ℕ) (row : List ℕ) → x ≢ n → set_row base n row x ≡ base x
set_other base n x row differ = let test : eqb x n ≡ false = grind (arith, nat_tests, differ) in ap (λ (b : Bool). cond b row (base x)) test

set_same : (base : Rows) (n x : ℕ) (row : List ℕ) → x ≡ n → set_row base n row x ≡ row
set_same base n x row same = let test : eqb x n ≡ true = grind (arith, nat_tests, same) in ap (λ (b : Bool). cond b row (base x)) test

-- an object below all of them keeps its row
not_set : (es : List Entry) (base : Rows) (x : ℕ) → All (λ e. x < e.0) es → set_rows es base x ≡ base x
not_set [] base x above = refl
not_set (e ∷ es) base x above =
    let first : x < e.0 = All-head (λ (d : Entry). x < d.0) e es above in
    not_set es (set_row base e.0 e.1) x (All-tail (λ (d : Entry). x < d.0) e es above) ∙ set_other base e.0 x e.1 (λ same. omega (arith, first, same))

-- what is set of an object looks at the row before alone
agree : (es : List Entry) (a b : Rows) (x : ℕ) → a x ≡ b x → set_rows es a x ≡ set_rows es b x
agree [] a b x same = same
agree (e ∷ es) a b x same = agree es (set_row a e.0 e.1) (set_row b e.0 e.1) x (ap (λ (row : List ℕ). cond (eqb x e.0) e.1 row) same)

behind_first : (e : Entry) (es : List Entry) → Saves (e ∷ es) → All (λ d. e.0 < d.0) es
behind_first e es saves = λ k d low. saves.ascending 0 (suc k) d (omega arith) (omega (arith, low))

rest_saves : (e : Entry) (es : List Entry) → Saves (e ∷ es) → Saves es
rest_saves e es saves = record {
  each = All-tail IsSaved e es saves.each;
  ascending = λ i j d before low. saves.ascending (suc i) (suc j) d (omega (arith, before)) (omega (arith, low));
}

first_set : (e : Entry) (es : List Entry) → Saves (e ∷ es) → set_rows (e ∷ es) zero_rows e.0 ≡ e.1
first_set e es saves = not_set es (set_row zero_rows e.0 e.1) e.0 (behind_first e es saves) ∙ set_same zero_rows e.0 e.0 e.1 refl

-- a row that a checkpoint has isn't zero
not_zero : (e : Entry) → IsSaved e → e.1 ≡ replicate 16 0 → ⊥
not_zero e is zeros = omega (arith, is.some, ap stored_length zeros)

below_first : (e : Entry) (es : List Entry) (x : ℕ) → Saves (e ∷ es) → x < e.0 → set_rows (e ∷ es) zero_rows x ≡ replicate 16 0
below_first e es x saves low =
    let above = behind_first e es saves in
    not_set (e ∷ es) zero_rows x (All-cons (λ (d : Entry). x < d.0) e es low (λ k d few. let up = above k d few in omega (arith, low, up)))

either : (a b : ℕ) → (a ≡ b) ⊎ (a ≢ b)
either a b = elim (cases_lt a b) as (λ _. (a ≡ b) ⊎ (a ≢ b)) [
  | inl less ↦ inr (λ same. omega (arith, less, same))
  | inr le ↦ elim (cases_lt b a) as (λ _. (a ≡ b) ⊎ (a ≢ b)) [
    | inl more ↦ inr (λ same. omega (arith, more, same))
    | inr ge ↦ inl (omega (arith, le, ge))
  ]
]

-- what the others set, where the first two are one
rest_same : (e : Entry) (xs ys : List Entry) → Saves (e ∷ xs) → Saves (e ∷ ys) → SameRows (set_rows (e ∷ xs) zero_rows) (set_rows (e ∷ ys) zero_rows) → SameRows (set_rows xs zero_rows) (set_rows ys zero_rows)
rest_same e xs ys saves_x saves_y same x low = elim (either x e.0) as (λ _. set_rows xs zero_rows x ≡ set_rows ys zero_rows x) [
  | inl here ↦ subst (λ (n : ℕ). set_rows xs zero_rows n ≡ set_rows ys zero_rows n) (sym here) (
      not_set xs zero_rows e.0 (behind_first e xs saves_x) ∙ sym (not_set ys zero_rows e.0 (behind_first e ys saves_y)))
  | inr other ↦
      let plain : zero_rows x ≡ set_row zero_rows e.0 e.1 x = sym (set_other zero_rows e.0 x e.1 other) in
      agree xs zero_rows (set_row zero_rows e.0 e.1) x plain ∙ same x low ∙ sym (agree ys zero_rows (set_row zero_rows e.0 e.1) x plain)
]

-- rows that set the same are the same
pub same_entries : (xs ys : List Entry) → Saves xs → Saves ys → SameRows (set_rows xs zero_rows) (set_rows ys zero_rows) → xs ≡ ys
same_entries [] [] saves_x saves_y same = refl
same_entries [] (y ∷ ys) saves_x saves_y same =
    let is = All-head IsSaved y ys saves_y.each in
    absurd (not_zero y is (sym (first_set y ys saves_y) ∙ sym (same y.0 is.is.oid)))
same_entries (x ∷ xs) [] saves_x saves_y same =
    let is = All-head IsSaved x xs saves_x.each in
    absurd (not_zero x is (sym (first_set x xs saves_x) ∙ same x.0 is.is.oid))
same_entries (x ∷ xs) (y ∷ ys) saves_x saves_y same =
    let is_x = All-head IsSaved x xs saves_x.each in
    let is_y = All-head IsSaved y ys saves_y.each in
    elim (cases_lt x.0 y.0) as (λ _. x ∷ xs ≡ y ∷ ys) [
      | inl less ↦ absurd (not_zero x is_x (sym (first_set x xs saves_x) ∙ same x.0 is_x.is.oid ∙ below_first y ys x.0 saves_y less))
      | inr le ↦ elim (cases_lt y.0 x.0) as (λ _. x ∷ xs ≡ y ∷ ys) [
        | inl more ↦ absurd (not_zero y is_y (sym (first_set y ys saves_y) ∙ sym (same y.0 is_y.is.oid) ∙ below_first x xs y.0 saves_x more))
        | inr ge ↦
            let number : x.0 ≡ y.0 = omega (arith, le, ge) in
            let row : x.1 ≡ y.1 =
            sym (first_set x xs saves_x) ∙ same x.0 is_x.is.oid ∙ ap (λ (n : ℕ). set_rows (y ∷ ys) zero_rows n) number ∙ first_set y ys saves_y
            in
            let one : x ≡ y = ap (λ (n : ℕ). let e : Entry = (n, x.1) in e) number ∙ ap (λ (r : List ℕ). let e : Entry = (y.0, r) in e) row in
            let moved : Saves (y ∷ xs) = subst (λ (e : Entry). Saves (e ∷ xs)) one saves_x in
            let sets : SameRows (set_rows (y ∷ xs) zero_rows) (set_rows (y ∷ ys) zero_rows) =
            subst (λ (e : Entry). SameRows (set_rows (e ∷ xs) zero_rows) (set_rows (y ∷ ys) zero_rows)) one same
            in
            ap (λ (e : Entry). e ∷ xs) one
            ∙ ap (λ (es : List Entry). y ∷ es) (same_entries xs ys (rest_saves x xs saves_x) (rest_saves y ys saves_y) (rest_same y xs ys moved saves_y sets))
      ]
    ]
