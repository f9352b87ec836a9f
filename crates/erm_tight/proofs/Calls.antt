-- What the whole calls of a key do to the records of all keys, and to that of their own.
use Rattle.std.proofs.Common.{◌≡◌, ℕ, ◌<◌, List, [], ◌∷◌, Option, Some, None, inl, inr, refl, sym, ap, ◌∙◌, subst, arith}
use Rattle.std.specs.Prelude.{MatchOption, length, option_and_then, slice_index}
use Rattle.std.specs.FinMap.{insert}
use Rattle.erm_model.specs.declared.key.Key.{Key}
use Rattle.erm_model.specs.declared.operation.Reply.{Reply}
use Rattle.erm_model.specs.declared.operation.Reply.TheVariants as reply
use Rattle.erm_model.specs.Database.{Database, at, value_at}
use Rattle.erm_model.specs.RowTransaction.{Agrees, Event, KeepsLaw, after_all, did_write}
use Rattle.erm_model.specs.Rows.{Rows, set_row}
use Rattle.erm_model.proofs.Keys.{value_at-insert_other, value_at-insert_same}
use Rattle.erm_record.specs.Record.{IsRecord, IsValue, absent_row, record_value, value_row}
use Rattle.erm_node.specs.Sound.{IsSound, levels_of, sound_law}
use Rattle.erm_node.specs.TreeMap.{map_of_rows, record_in, value_in}
use Rattle.erm_tree.specs.Change.{AreReadsThen, IsDel, IsPut, IsPutOfNew, makes_claims_writes}
use Rattle.erm_tree.specs.Insert.{new_rows, path_to}
use Rattle.erm_tree.specs.Reads.{IsOnWay}
use Rattle.erm_tree.proofs.Puts.{after_all-put}
use Rattle.erm_tree.proofs.Records.{record_in-same}
use Rattle.erm_tree.proofs.Runs.{objects_for-some}
use Rattle.erm_told_limits.proofs.Ran.{AreReading}
use Rattle.erm_tight.proofs.Alike.{AreWriting, SameBut, after_alike, other_row, own_row, reads_or_not, unwritten, writes_claim, writes_or_not}
use Rattle.erm_tight.proofs.Claims.{change_claims}
use Rattle.erm_tight.proofs.Kept.{RowLaws, after_differ, after_same, differ, other_agrees, other_sound, other_value, set_differs, set_record, told_record, two_values, with_value}
use Rattle.erm_tight.proofs.Objects.{IsNodeOr, made_object, new_are, node_has_none, put_object, set_row_of, written_object}
use Rattle.erm_tight.proofs.Ways.{put_reads, record_is, rows_then, way_no_record}
use Rattle.erm_causes.proofs.Own.{split_claims}

-- each key has the value of its record
abbrev pub MapHasValues : Type 0
MapHasValues = (rows : Rows) (table key : ℕ) → IsSound rows → table < 16 → value_at (map_of_rows rows) table key ≡ value_in rows table key

-- each key keeps its record
abbrev pub KeepsRecords : Rows → Rows → Type 0
KeepsRecords rows new = (table key oid : ℕ) → table < 16 → record_in rows table key ≡ Some oid → record_in new table key ≡ Some oid

-- on all arrays that they agree with, events are those of a put of the key
abbrev pub ArePut : ℕ → ℕ → List ℕ → List Event → Type 0
ArePut table key value events = (rows : Rows) → IsSound rows → Agrees sound_law events rows
    → IsPut rows table key (value_row value) events × KeepsLaw sound_law events rows × (map_of_rows (after_all events rows) ≡ insert (map_of_rows rows) (at table key) value)

-- another value than this
abbrev other_than : List ℕ → List ℕ
other_than [] = 0 ∷ []
other_than (x ∷ xs) = []

other_is : (value : List ℕ) → other_than value ≡ value → ⊥
other_is [] is = cc
other_is (x ∷ xs) is = cc

other_fits : IsValue [] → IsValue (0 ∷ []) → (value : List ℕ) → IsValue (other_than value)
other_fits short long [] = long
other_fits short long (x ∷ xs) = short

same_some : (X : Type 0) (a b : X) → Some a ≡ Some b → a ≡ b
same_some X a b is = cc

module _ (laws : RowLaws) where
  -- a record is set
  pub set_kept : (rows : Rows) (table key oid : ℕ) (row : List ℕ) → IsSound rows → table < 16 → record_in rows table key ≡ Some oid → IsRecord row → KeepsRecords rows (set_row rows oid row)
  set_kept rows table key oid row sound below at is t k x t_below found =
      record_in-same rows (set_row rows oid row)
      (differ laws rows (set_row rows oid row) oid (λ y apart. other_row rows oid row y apart) (record_is rows table key oid sound below at) (subst IsRecord (sym (own_row rows oid row oid refl)) is)) t k
      ∙ found

  pub same_kept : (rows new : Rows) → new ≡ rows → KeepsRecords rows new
  same_kept rows new is t k x t_below found = ap (λ (rs : Rows). record_in rs t k) is ∙ found

  module _ (values : MapHasValues) where
    -- PUT.
    module _ (table key : ℕ) (value : List ℕ) (events : List Event) (below : table < 16) (fits : IsValue value) (put : ArePut table key value events) where
      now_value : (rows : Rows) → IsSound rows → Agrees sound_law events rows → value_in (after_all events rows) table key ≡ Some value
      now_value rows sound agrees =
          let it = put rows sound agrees in
          sym (values (after_all events rows) table key it.1.meets below) ∙ ap (λ (m : Database). value_at m table key) it.2 ∙ value_at-insert_same (map_of_rows rows) table key value

      still_value : (rows : Rows) → IsSound rows → Agrees sound_law events rows → (t k : ℕ) → t < 16 → (at t k ≡ at table key → ⊥) → value_in (after_all events rows) t k ≡ value_in rows t k
      still_value rows sound agrees t k t_below apart =
          let it = put rows sound agrees in
          sym (values (after_all events rows) t k it.1.meets t_below) ∙ ap (λ (m : Database). value_at m t k) it.2 ∙ value_at-insert_other (map_of_rows rows) table key value t k apart ∙ values rows t k sound t_below

      module _ (rows : Rows) (sound : IsSound rows) (agrees : Agrees sound_law events rows) where
        unread : (x : ℕ) → IsRecord (rows x) → AreReading events x → ⊥
        unread x is by =
            way_no_record laws.no_node rows table key x sound below (put_reads table key (value_row value) rows events (record_in rows table key) (put rows sound agrees).0 x by) is

        -- another key's record stays
        module _ (t k x : ℕ) (t_below : t < 16) (found : record_in rows t k ≡ Some x) (apart : at t k ≡ at table key → ⊥) where
          was : IsRecord (rows x)
          was = record_is rows t k x sound t_below found

          abbrev set_to : List ℕ → Rows
          set_to bytes = with_value laws rows x bytes

          set_sound : (bytes : List ℕ) → IsValue bytes → IsSound (set_to bytes)
          set_sound bytes is = other_sound laws rows x was sound events agrees (unread x was) bytes is

          set_agrees : (bytes : List ℕ) → IsValue bytes → Agrees sound_law events (set_to bytes)
          set_agrees bytes is = other_agrees laws rows x was sound events agrees (unread x was) bytes is

          set_value : (bytes : List ℕ) → IsValue bytes → value_in (after_all events (set_to bytes)) t k ≡ Some bytes
          set_value bytes is = still_value (set_to bytes) (set_sound bytes is) (set_agrees bytes is) t k t_below apart ∙ other_value laws rows x was sound events agrees (unread x was) bytes is t k found

          both : SameBut x (set_to []) (set_to (0 ∷ []))
          both y other = set_differs laws rows x (0 ∷ []) y other ∙ sym (set_differs laws rows x [] y other)

          other_kept : record_in (after_all events rows) t k ≡ Some x
          other_kept = elim (writes_or_not events x) as (λ _. record_in (after_all events rows) t k ≡ Some x) [
            | inl by ↦ absurd (two_values (same_some (List ℕ) [] (0 ∷ []) (sym (set_value [] laws.short)
                ∙ ap (λ (rs : Rows). value_in rs t k) (sym (after_same laws events (set_to []) (set_to (0 ∷ [])) x both by)) ∙ set_value (0 ∷ []) laws.long)))
            | inr none ↦
                let first = set_record laws rows x [] laws.short in
                let differs = after_differ laws events (set_to []) (set_to (0 ∷ [])) x both first (set_record laws rows x (0 ∷ []) laws.long) none in
                sym (record_in-same (after_all events rows) (after_all events (set_to [])) (after_differ laws events rows (set_to []) x (set_differs laws rows x []) was first none) t k)
                ∙ told_record laws (after_all events (set_to [])) (after_all events (set_to (0 ∷ []))) x t k differs (after_alike events (set_to []) (set_to (0 ∷ [])) x both) [] (0 ∷ [])
                (set_value [] laws.short) (set_value (0 ∷ []) laws.long) two_values
          ]

        put_kept_at : (r : Option ℕ) → record_in rows table key ≡ r
            → MatchOption r (IsPutOfNew rows table key (value_row value) events) (λ oid. AreReadsThen (IsOnWay table key rows) (did_write oid (value_row value) ∷ []) events)
            → KeepsRecords rows (after_all events rows)
        put_kept_at None is of t k x t_below found =
            other_kept t k x t_below found
            (λ same. let no : None ≡ Some x = sym is ∙ ap (λ (n : ℕ). record_in rows n key) (sym (ap (λ (q : Key). q.table) same)) ∙ ap (record_in rows t) (sym (ap (λ (q : Key). q.key) same)) ∙ found in cc)
        put_kept_at (Some oid) is of t k x t_below found =
            ap (λ (rs : Rows). record_in rs t k) (rows_then (IsOnWay table key rows) rows (did_write oid (value_row value) ∷ []) events of)
            ∙ set_kept rows table key oid (value_row value) sound below is (inr (value, fits, refl)) t k x t_below found

        pub put_kept : KeepsRecords rows (after_all events rows)
        put_kept = put_kept_at (record_in rows table key) refl (put rows sound agrees).0

        -- its own key's record is one that it set
        own_set : (x : ℕ) → record_in (after_all events rows) table key ≡ Some x → AreWriting events x
        own_set x found = elim (writes_or_not events x) as (λ _. AreWriting events x) [
          | inl by ↦ by
          | inr none ↦
              let same = unwritten events rows x none in
              let was : IsRecord (rows x) = subst IsRecord same (record_is (after_all events rows) table key x (put rows sound agrees).1.meets below found) in
              let bytes = other_than value in
              let is = other_fits laws.short laws.long value in
              let rows_then = with_value laws rows x bytes in
              let now = now_value rows_then (other_sound laws rows x was sound events agrees (unread x was) bytes is) (other_agrees laws rows x was sound events agrees (unread x was) bytes is) in
              let there = record_in-same (after_all events rows) (after_all events rows_then)
              (after_differ laws events rows rows_then x (set_differs laws rows x bytes) was (set_record laws rows x bytes is) none) table key ∙ found in
              let its : value_in (after_all events rows_then) table key ≡ Some bytes =
              ap (option_and_then (λ o. record_value (after_all events rows_then o))) there ∙ ap record_value (unwritten events rows_then x none ∙ own_row rows x (value_row bytes) x refl) ∙ laws.given bytes is in
              absurd (other_is value (same_some (List ℕ) bytes value (sym its ∙ now)))
        ]

        -- which is the put's own object
        new_object : (x : ℕ) → record_in (after_all events rows) table key ≡ Some x → IsPutOfNew rows table key (value_row value) events → x ≡ put_object events
        new_object x found new =
            let made = new.made in
            let path = path_to rows (levels_of rows table) table key in
            let ws = new_rows made key (value_row value) path in
            let set = change_claims made ws x (split_claims (IsOnWay table key rows) (makes_claims_writes made ws) events new.then_all x (writes_claim events x (own_set x found))) in
            let some : 0 < length made = omega (arith, new.many, objects_for-some path) in
            let at = set_row_of (IsNodeOr (slice_index made 0)) ws rows x (new_are made key (value_row value) path) set in
            let now : record_value (after_all events rows x) ≡ Some value =
            sym (ap (option_and_then (λ o. record_value (after_all events rows o))) found) ∙ now_value rows sound agrees in
            let row_is : after_all events rows x ≡ at.0.1 =
            ap (λ (rs : Rows). rs x) (rows_then (IsOnWay table key rows) rows (makes_claims_writes made ws) events new.then_all ∙ after_all-put made ws rows) ∙ at.3 in
            elim at.1 as (λ _. x ≡ put_object events) [
              | inl first ↦ sym at.2 ∙ first ∙ sym (made_object new.then_all.reads events made ws new.then_all.only some new.then_all.split)
              | inr node ↦ absurd (node_has_none laws.found node.0 value (sym (ap record_value (row_is ∙ node.1)) ∙ now))
            ]

        object_at : (r : Option ℕ) → record_in rows table key ≡ r
            → MatchOption r (IsPutOfNew rows table key (value_row value) events) (λ oid. AreReadsThen (IsOnWay table key rows) (did_write oid (value_row value) ∷ []) events)
            → (x : ℕ) → record_in (after_all events rows) table key ≡ Some x → x ≡ put_object events
        object_at None is new x found = new_object x found new
        object_at (Some oid) is of x found = written_object of.reads events oid (value_row value) of.only of.split x (own_set x found)

        own_found : (r : Option ℕ) → record_in (after_all events rows) table key ≡ r → (x : ℕ) × (record_in (after_all events rows) table key ≡ Some x) × AreWriting events x
        own_found None is =
            let no : None ≡ Some value = sym (ap (option_and_then (λ o. record_value (after_all events rows o))) is) ∙ now_value rows sound agrees in absurd (cc)
        own_found (Some x) is = (x, is, own_set x is)

        pub put_sets : (record_in (after_all events rows) table key ≡ Some (put_object events)) × AreWriting events (put_object events)
        put_sets =
            let found = own_found (record_in (after_all events rows) table key) refl in
            let same = object_at (record_in rows table key) refl (put rows sound agrees).0 found.0 found.1 in
            (found.1 ∙ ap Some same, subst (λ (x : ℕ). AreWriting events x) same found.2)

    -- GET.
    module _ (table key : ℕ) (events : List Event) (r : Reply) (below : table < 16)
        (get : (rows : Rows) → IsSound rows → Agrees sound_law events rows → r ≡ reply.Value (value_at (map_of_rows rows) table key)) where
      got : (rows : Rows) → IsSound rows → Agrees sound_law events rows → (bytes : List ℕ) → value_in rows table key ≡ Some bytes → r ≡ reply.Value (Some bytes)
      got rows sound agrees bytes is = get rows sound agrees ∙ ap reply.Value (values rows table key sound below ∙ is)

      -- it read the key's record
      pub get_reads : (rows : Rows) → IsSound rows → Agrees sound_law events rows → (x : ℕ) → record_in rows table key ≡ Some x → AreReading events x
      get_reads rows sound agrees x found = elim (reads_or_not events x) as (λ _. AreReading events x) [
        | inl by ↦ by
        | inr none ↦
            let was = record_is rows table key x sound below found in
            let told : (bytes : List ℕ) → IsValue bytes → r ≡ reply.Value (Some bytes) = λ bytes is.
            got (with_value laws rows x bytes) (other_sound laws rows x was sound events agrees none bytes is) (other_agrees laws rows x was sound events agrees none bytes is) bytes
            (other_value laws rows x was sound events agrees none bytes is table key found) in
            let same : reply.Value (Some []) ≡ reply.Value (Some (0 ∷ [])) = sym (told [] laws.short) ∙ told (0 ∷ []) laws.long in
            absurd (cc)
      ]

  -- DEL, TIDY.
  pub del_kept : (rows : Rows) (table key : ℕ) (events : List Event) → IsSound rows → table < 16 → IsDel rows table key absent_row events → KeepsRecords rows (after_all events rows)
  del_kept rows table key events sound below del = at_record (record_in rows table key) refl del
    where
      at_record : (r : Option ℕ) → record_in rows table key ≡ r
          → MatchOption r (AreReadsThen (IsOnWay table key rows) [] events) (λ oid. AreReadsThen (IsOnWay table key rows) (did_write oid absent_row ∷ []) events) → KeepsRecords rows (after_all events rows)
      at_record None is of t k x t_below found = same_kept rows (after_all events rows) (rows_then (IsOnWay table key rows) rows [] events of) t k x t_below found
      at_record (Some oid) is of t k x t_below found =
          ap (λ (rs : Rows). record_in rs t k) (rows_then (IsOnWay table key rows) rows (did_write oid absent_row ∷ []) events of)
          ∙ set_kept rows table key oid absent_row sound below is (inl refl) t k x t_below found
