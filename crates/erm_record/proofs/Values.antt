-- The value in a row.
use Rattle.std.proofs.Common.{◌≡◌, ℕ, ◌*◌, ◌≤◌, ◌<◌, ◌^◌, List, length, take, drop, Bool, true, false, cond, Option, Some, None, refl, subst, sym, ap, ◌∙◌, arith, length-drop, length-take, slice_index}
use Rattle.std.specs.Prelude.{nat_eq, IfSome}
use Rattle.std.specs.Cmp.Lexicographic.{pointwise}
use Rattle.std.proofs.lemmas.List.Elements.{All-take}
use Rattle.std.proofs.lemmas.Slice.Eq.{bytes_eq-Decides}
use Rattle.erm_bytes.specs.Bytes.{AreBytes, bytes_of, words_of}
use Rattle.erm_record.specs.Record.{IsValue, absent_row, bytes_in, padded, record_value, value_row}
use Rattle.erm_record.proofs.Rows.{take-padded}

record_value-told : (row : List ℕ) → record_value row ≡ cond (pointwise nat_eq (value_row (bytes_in row)) row) (Some (bytes_in row)) None
unfolding record_value
record_value-told row = refl

told_some : (row bytes : List ℕ) (b : Bool) → pointwise nat_eq (value_row (bytes_in row)) row ≡ b → cond b (Some (bytes_in row)) None ≡ Some bytes → (bytes_in row ≡ bytes) × (row ≡ value_row bytes)
told_some row bytes true passed e =
    let same : bytes_in row ≡ bytes = cc in
    (same, sym ((bytes_eq-Decides (value_row (bytes_in row)) row).0 passed) ∙ ap value_row same)
told_some row bytes false passed e = absurd (cc)

-- a row that has a value is the row of it
pub record_value-spelled : (row bytes : List ℕ) → record_value row ≡ Some bytes → (bytes_in row ≡ bytes) × (row ≡ value_row bytes)
record_value-spelled row bytes e =
    told_some row bytes (pointwise nat_eq (value_row (bytes_in row)) row) refl (sym (record_value-told row) ∙ e)

module _ (count : (words : List ℕ) → length (bytes_of words) ≡ 8 * length words) (are : (words : List ℕ) → AreBytes (bytes_of words)) (many : (n : ℕ) (bytes : List ℕ) → length (words_of n bytes) ≡ n) where
  -- and what it has is a value
  pub record_value-found : (row bytes : List ℕ) → record_value row ≡ Some bytes → IsValue bytes × (row ≡ value_row bytes)
  record_value-found row bytes e =
      let spelled = record_value-spelled row bytes e in
      let words : length row ≡ 16 = ap length spelled.1 ∙ omega (arith, many 14 (padded bytes)) in
      let short : length (bytes_in row) ≤ 112 = omega (arith, length-take (slice_index row 1) (bytes_of (drop 2 row)), count (drop 2 row), length-drop 2 row) in
      (subst IsValue spelled.0 (All-take (λ b. b < 2 ^ 8) (slice_index row 1) (bytes_of (drop 2 row)) (are (drop 2 row)), short), spelled.1)

module _ (again : (bytes : List ℕ) → IsValue bytes → bytes_of (words_of 14 (padded bytes)) ≡ padded bytes) where
  -- the row of a value has it
  pub record_value-given : (bytes : List ℕ) → IsValue bytes → record_value (value_row bytes) ≡ Some bytes
  record_value-given bytes is =
      let same : bytes_in (value_row bytes) ≡ bytes = ap (take (length bytes)) (again bytes is) ∙ take-padded bytes in
      let passed = (bytes_eq-Decides (value_row (bytes_in (value_row bytes))) (value_row bytes)).1 (ap value_row same) in
      record_value-told (value_row bytes)
      ∙ ap (λ (b : Bool). cond b (Some (bytes_in (value_row bytes))) None) passed ∙ ap Some same

-- the row of no value has none
pub record_value-absent : record_value absent_row ≡ None
record_value-absent = record_value-told absent_row

module _ (found : (row bytes : List ℕ) → record_value row ≡ Some bytes → IsValue bytes × (row ≡ value_row bytes)) (given : (bytes : List ℕ) → IsValue bytes → record_value (value_row bytes) ≡ Some bytes) where
  none_is : (row : List ℕ) (r : Option (List ℕ)) → record_value row ≡ r → ((bytes : List ℕ) → IsValue bytes → row ≡ value_row bytes → let none : Option (List ℕ) = None in none ≡ Some bytes) → let none : Option (List ℕ) = None in none ≡ r
  none_is row None e spelled = refl
  none_is row (Some bytes) e spelled = let is = found row bytes e in spelled bytes is.0 is.1

  -- what is exactly the value whose row it is, is the value in it
  pub record_value-is : (row : List ℕ) (r : Option (List ℕ)) → IfSome r (λ value. IsValue value × row ≡ value_row value) → ((bytes : List ℕ) → IsValue bytes → row ≡ value_row bytes → r ≡ Some bytes) → r ≡ record_value row
  record_value-is row None is spelled = none_is row (record_value row) refl spelled
  record_value-is row (Some value) is spelled = sym (ap record_value is.1 ∙ given value is.0)
