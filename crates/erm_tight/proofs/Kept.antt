-- A key keeps its record's object for good, and what a call of a key does to it: told by the values that other arrays would have had.
use Rattle.std.proofs.Common.{◌≡◌, ℕ, List, [], ◌∷◌, Option, Some, None, inl, inr, refl, sym, ap, ◌∙◌, subst}
use Rattle.std.specs.Prelude.{option_and_then}
use Rattle.std.proofs.Math.Path.{fun_ext}
use Rattle.std.proofs.lemmas.Bool.{cases_eq}
use Rattle.erm_model.specs.RowTransaction.{Agrees, Event, after_all}
use Rattle.erm_model.specs.Rows.{Rows, set_row}
use Rattle.erm_record.specs.Record.{IsRecord, IsValue, record_value, value_row}
use Rattle.erm_node.specs.Node.{node_of}
use Rattle.erm_node.specs.Sound.{IsSound, sound_law}
use Rattle.erm_node.specs.TreeMap.{record_in, value_in}
use Rattle.erm_tree.proofs.Records.{DifferAtRecords, IsSound-same, reached-same, record_in-same}
use Rattle.erm_told_limits.proofs.Ran.{AreReading}
use Rattle.erm_tight.proofs.Alike.{AreWriting, SameBut, after_alike, other_row, own_row, tells_alike, unwritten, written_same}

-- What records and nodes are.
pub record RowLaws : Type 0 where
  pub no_node : (row : List ℕ) → IsRecord row → node_of row ≡ None
  pub given : (bytes : List ℕ) → IsValue bytes → record_value (value_row bytes) ≡ Some bytes
  pub found : (row bytes : List ℕ) → record_value row ≡ Some bytes → IsValue bytes × (row ≡ value_row bytes)
  pub short : IsValue []
  pub long : IsValue (0 ∷ [])

none_some : (A : Type 0) (a : A) (o : Option A) → o ≡ None → o ≡ Some a → ⊥
none_some A a o none some = let no : None ≡ Some a = sym none ∙ some in cc

pub two_values : let nothing : List ℕ = [] in nothing ≡ 0 ∷ [] → ⊥
two_values is = cc

module _ (laws : RowLaws) where
  -- the row of a record set to another
  abbrev pub with_value : Rows → ℕ → List ℕ → Rows
  with_value rows x bytes = set_row rows x (value_row bytes)

  value_record : (bytes : List ℕ) → IsValue bytes → IsRecord (value_row bytes)
  value_record bytes is = inr (bytes, is, refl)

  -- two arrays that differ in one record
  pub differ : (a b : Rows) (x : ℕ) → SameBut x a b → IsRecord (a x) → IsRecord (b x) → DifferAtRecords a b
  differ a b x same first second = record {
    nodes = λ y. elim (cases_eq y x) as (λ _. node_of (b y) ≡ node_of (a y)) [
      | inl is ↦ ap (λ (z : ℕ). node_of (b z)) is ∙ laws.no_node (b x) second ∙ sym (laws.no_node (a x) first) ∙ ap (λ (z : ℕ). node_of (a z)) (sym is)
      | inr apart ↦ ap node_of (same y apart)
    ];
    records = λ y so. elim (cases_eq y x) as (λ _. IsRecord (b y)) [
      | inl is ↦ subst (λ (z : ℕ). IsRecord (b z)) (sym is) second
      | inr apart ↦ subst IsRecord (sym (same y apart)) so
    ];
  }

  pub set_differs : (rows : Rows) (x : ℕ) (bytes : List ℕ) → SameBut x rows (with_value rows x bytes)
  set_differs rows x bytes y apart = other_row rows x (value_row bytes) y apart

  pub set_record : (rows : Rows) (x : ℕ) (bytes : List ℕ) → IsValue bytes → IsRecord (with_value rows x bytes x)
  set_record rows x bytes is = subst IsRecord (sym (own_row rows x (value_row bytes) x refl)) (value_record bytes is)

  -- an array with another value of a record is sound, and agrees with events that don't read the record
  module _ (rows : Rows) (x : ℕ) (was : IsRecord (rows x)) (sound : IsSound rows) (events : List Event) (agrees : Agrees sound_law events rows) (none : AreReading events x → ⊥)
      (bytes : List ℕ) (is : IsValue bytes) where
    pub other_differs : DifferAtRecords rows (with_value rows x bytes)
    other_differs = differ rows (with_value rows x bytes) x (set_differs rows x bytes) was (set_record rows x bytes is)

    pub other_sound : IsSound (with_value rows x bytes)
    other_sound = IsSound-same rows (with_value rows x bytes) other_differs sound

    pub other_agrees : Agrees sound_law events (with_value rows x bytes)
    other_agrees = tells_alike events rows (with_value rows x bytes) rows (with_value rows x bytes) x (λ y. reached-same rows (with_value rows x bytes) other_differs y) (set_differs rows x bytes) none agrees

    -- a key whose record it is has that value there
    pub other_value : (table key : ℕ) → record_in rows table key ≡ Some x → value_in (with_value rows x bytes) table key ≡ Some bytes
    other_value table key at =
        ap (option_and_then (λ o. record_value (with_value rows x bytes o))) (record_in-same rows (with_value rows x bytes) other_differs table key ∙ at)
        ∙ ap record_value (own_row rows x (value_row bytes) x refl) ∙ laws.given bytes is

  -- a record whose value is the array's own: two arrays that differ in one record give a key that has other values in them that record
  pub told_record : (a b : Rows) (x table key : ℕ) → DifferAtRecords a b → SameBut x a b → (first second : List ℕ) → value_in a table key ≡ Some first → value_in b table key ≡ Some second → (first ≡ second → ⊥)
      → record_in a table key ≡ Some x
  told_record a b x table key differs same first second one other apart = found (record_in a table key) refl
    where
      found : (r : Option ℕ) → record_in a table key ≡ r → r ≡ Some x
      found None is = absurd (none_some (List ℕ) first (value_in a table key) (ap (option_and_then (λ o. record_value (a o))) is) one)
      found (Some o) is = elim (cases_eq o x) as (λ _. Some o ≡ Some x) [
        | inl here ↦ ap Some here
        | inr off ↦
            let in_a : record_value (a o) ≡ Some first = sym (ap (option_and_then (λ q. record_value (a q))) is) ∙ one in
            let in_b : record_value (b o) ≡ Some second =
            sym (ap (option_and_then (λ q. record_value (b q))) (record_in-same a b differs table key ∙ is)) ∙ other in
            let both : Some first ≡ Some second = sym in_a ∙ sym (ap record_value (same o off)) ∙ in_b in
            absurd (apart (cc))
      ]

  -- what events leave of two arrays that differ in one record that they don't set
  pub after_differ : (events : List Event) (a b : Rows) (x : ℕ) → SameBut x a b → IsRecord (a x) → IsRecord (b x) → (AreWriting events x → ⊥) → DifferAtRecords (after_all events a) (after_all events b)
  after_differ events a b x same first second none =
      differ (after_all events a) (after_all events b) x (after_alike events a b x same) (subst IsRecord (sym (unwritten events a x none)) first) (subst IsRecord (sym (unwritten events b x none)) second)

  -- and of two that differ in one that they set
  pub after_same : (events : List Event) (a b : Rows) (x : ℕ) → SameBut x a b → AreWriting events x → after_all events b ≡ after_all events a
  after_same events a b x same by = fun_ext (λ y. elim (cases_eq y x) as (λ _. after_all events b y ≡ after_all events a y) [
    | inl is ↦ subst (λ (z : ℕ). after_all events b z ≡ after_all events a z) (sym is) (written_same events a b x same by)
    | inr apart ↦ after_alike events a b x same y apart
  ])
