-- What a put or a del of one table does to the trees of the others.
use Rattle.std.proofs.Common.{◌≡◌, ◌≢◌, ℕ, zero, suc, ◌+◌, ◌^◌, ◌<◌, ◌≤◌, List, [], ◌∷◌, length, Bool, true, false, cond, Option, Some, None, refl, sym, ap, ◌∙◌, subst, inl, inr, arith}
use Rattle.std.specs.Prelude.{◌⊎◌, ◌==◌, MatchOption}
use Rattle.std.proofs.lemmas.Bool.Decides.{nat_tests}
use Rattle.erm_model.specs.Rows.{Rows}
use Rattle.erm_model.specs.RowTransaction.{Event, did_read, did_claim, did_write, did_make, after, after_all, made_by_all, Law, SameLaw, TellsAll, Agrees, Face, KeepsLaw}
use Rattle.erm_model.proofs.RowCalls.{after_all-append, after_all-OnlyReads, made_by_all-append}
use Rattle.erm_node.specs.Node.{Shape, node_of, node_row, is_node}
use Rattle.erm_node.specs.Sound.{IsSound, sound_law, levels_of, reached}
use Rattle.erm_node.specs.Tree.{total, same_oid, IsTree, times}
use Rattle.erm_node.specs.TreeMap.{table_entries, record_in}
use Rattle.erm_tree.specs.Change.{AreReadsThen, makes_claims_writes, IsPutOfNew, IsPut, IsDel}
use Rattle.erm_tree.specs.Insert.{path_to, new_rows, objects_for}
use Rattle.erm_tree.specs.Reads.{IsOnWay}
use Rattle.erm_tree.specs.Tables.{KeepsTables, ChangesOne, CallsChangeOne, ObjectsHaveOneTable}
use Rattle.erm_tree.proofs.Apart.{two_tables, row_kept, times_kept, record_other_table, value_other_table, reached-one}
use Rattle.erm_tree.proofs.Growth.{on_path-times}
use Rattle.erm_tree.proofs.Plans.{set_all, set_all-other, set_times-new_rows}
use Rattle.erm_tree.proofs.Puts.{after_all-put, made_by_all-put}
use Rattle.erm_tree.proofs.Records.{occurs-entries, occurs-found}
use Rattle.erm_tree.proofs.Runs.{objects_for-some}
use Rattle.erm_tree.proofs.Standing.{reached-table, levels_of-bounds}

same_number : (o x : ℕ) → 0 < same_oid o x → x ≡ o
same_number o x more = grind (arith, nat_tests)

same_oid-itself : (oid : ℕ) → same_oid oid oid ≡ 1
same_oid-itself oid = grind (arith, nat_tests)

other_oid : (oid x : ℕ) → x ≢ oid → (x == oid) ≡ false
other_oid oid x apart = grind (arith, nat_tests)

zero_or_more : (n : ℕ) → (n ≡ 0) ⊎ (0 < n)
zero_or_more zero = inl refl
zero_or_more (suc n) = inr (omega arith)

-- what events made wasn't reached
told_made : (law : Law) (es : List Event) (begun seen : Rows) → TellsAll law es begun seen → (x : ℕ) → 0 < made_by_all es x → law.reach begun x ≡ 0
told_made law [] begun seen told x more = absurd (omega arith)
told_made law (did_read oid row ∷ es) begun seen told x more = told_made law es begun seen told.1 x (omega arith)
told_made law (did_claim oid ∷ es) begun seen told x more = told_made law es begun seen told.1 x (omega arith)
told_made law (did_write oid row ∷ es) begun seen told x more = told_made law es begun (after (did_write oid row) seen) told.1 x (omega arith)
told_made law (did_make oid ∷ es) begun seen told x more =
    elim (zero_or_more (same_oid oid x)) as (λ _. law.reach begun x ≡ 0) [
      | inl none ↦ told_made law es begun seen told.1 x (omega arith)
      | inr here ↦ ap (law.reach begun) (same_number oid x here) ∙ told.0
    ]

-- no object is in the trees of two tables
pub one_table : ObjectsHaveOneTable
one_table rows table other x sound below other_below apart some = omega (arith, two_tables rows table other x sound below other_below apart)

module _ (found : (row : List ℕ) (shape : Shape) → node_of row ≡ Some shape → (is_node shape ≡ true) × (row ≡ node_row shape))
    (rows : Rows) (table key : ℕ) (row : List ℕ) (events : List Event) (sound : IsSound rows) (agrees : Agrees sound_law events rows) (keeps : KeepsLaw sound_law events rows) (below : table < 16) (fits : key < 2 ^ 64) where
  -- of what is reached, only what this table's tree reaches has another row now
  abbrev SameElse : Type 0
  SameElse = (x : ℕ) → 0 < reached rows x → times rows (levels_of rows table) table x ≡ 0 → after_all events rows x ≡ rows x

  none_made : (x : ℕ) → 0 < reached rows x → made_by_all events x ≡ 0
  none_made x there = elim (zero_or_more (made_by_all events x)) as (λ _. made_by_all events x ≡ 0) [
    | inl none ↦ none
    | inr more ↦ let fresh : reached rows x ≡ 0 = told_made sound_law events rows rows agrees x more in absurd (omega arith)
  ]

  rows_then : (fs : List Event) → AreReadsThen (IsOnWay table key rows) fs events → after_all events rows ≡ after_all fs rows
  rows_then fs is = ap (λ (es : List Event). after_all es rows) is.split ∙ after_all-append is.reads fs rows ∙ ap (after_all fs) (after_all-OnlyReads is.reads is.only rows)

  same_nothing : AreReadsThen (IsOnWay table key rows) [] events → SameElse
  same_nothing is x there off = ap (λ (rs : Rows). rs x) (rows_then [] is)

  same_set : (oid : ℕ) → record_in rows table key ≡ Some oid → AreReadsThen (IsOnWay table key rows) (did_write oid row ∷ []) events → SameElse
  same_set oid record_is is x there off =
      let some : 1 ≤ times rows (levels_of rows table) table oid = omega (arith, occurs-found (table_entries rows table) key oid record_is, occurs-entries rows (levels_of rows table) table 0 oid) in
      let apart : x ≢ oid = λ same. omega (arith, some, off, ap (λ (o : ℕ). times rows (levels_of rows table) table o) same) in
      ap (λ (rs : Rows). rs x) (rows_then (did_write oid row ∷ []) is) ∙ ap (λ (b : Bool). cond b row (rows x)) (other_oid oid x apart)

  same_new : IsPutOfNew rows table key row events → SameElse
  same_new put x there off =
      let (n, depth, few) = levels_of-bounds rows table in
      let made = put.made in
      let many : length made ≡ objects_for (path_to rows (suc n) table key) = put.many ∙ ap (λ (m : ℕ). objects_for (path_to rows m table key)) depth in
      let some : 0 < length made = omega (arith, objects_for-some (path_to rows (suc n) table key)) in
      let tree : IsTree rows (suc n) 0 table 0 (2 ^ 64) = subst (λ (m : ℕ). IsTree rows m 0 table 0 (2 ^ 64)) depth (sound.trees table below) in
      let ws = new_rows made key row (path_to rows (levels_of rows table) table key) in
      let us = new_rows made key row (path_to rows (suc n) table key) in
      let fs = makes_claims_writes made ws in
      let same : ws ≡ us = ap (λ (m : ℕ). new_rows made key row (path_to rows m table key)) depth in
      let none : total (λ o. same_oid o x) made ≡ 0 =
      omega (arith, none_made x there, ap (λ (es : List Event). made_by_all es x) put.then_all.split, made_by_all-append put.then_all.reads fs x, made_by_all-put made ws x) in
      ap (λ (rs : Rows). rs x) (rows_then fs put.then_all ∙ after_all-put made ws rows) ∙ ap (λ (vs : List (ℕ × List ℕ)). set_all vs rows x) same
      ∙ set_all-other us rows x (omega (
        arith,
        set_times-new_rows rows made key row some table n many x,
        on_path-times found rows key (suc n) 0 table 0 (2 ^ 64) tree (omega arith) fits x,
        ap (λ (m : ℕ). times rows m table x) depth,
      ))

  same_put : (r : Option ℕ) → record_in rows table key ≡ r → MatchOption r (IsPutOfNew rows table key row events) (λ oid. AreReadsThen (IsOnWay table key rows) (did_write oid row ∷ []) events) → SameElse
  same_put None is put = same_new put
  same_put (Some oid) is put = same_set oid is put

  same_del : (r : Option ℕ) → record_in rows table key ≡ r → MatchOption r (AreReadsThen (IsOnWay table key rows) [] events) (λ oid. AreReadsThen (IsOnWay table key rows) (did_write oid row ∷ []) events) → SameElse
  same_del None is del = same_nothing del
  same_del (Some oid) is del = same_set oid is del

  tables_kept : SameElse → KeepsTables rows table events
  tables_kept same =
      let new = after_all events rows in
      record {
        others = λ other other_below apart. record {
          reached = λ x. times_kept found rows new table sound below same other x other_below apart;
          same = λ x some. row_kept found rows new table sound below same other x other_below apart some;
          records = λ k. record_other_table found rows new table sound below same other k other_below apart;
          values = λ k. value_other_table found rows new table sound below same other k other_below apart;
          made = λ x more.
              let fresh : reached rows x ≡ 0 = told_made sound_law events rows rows agrees x more in
              omega (arith, fresh, reached-table rows other x other_below, times_kept found rows new table sound below same other x other_below apart);
        };
        grows = λ x.
            let reach : reached new x ≤ reached rows x + made_by_all events x = keeps.reach x in
            omega (arith, reach, reached-one found rows new table sound below same x);
      }

  KeepsTables-put : IsPut rows table key row events → KeepsTables rows table events
  KeepsTables-put put = tables_kept (same_put (record_in rows table key) refl put)

  KeepsTables-del : IsDel rows table key row events → KeepsTables rows table events
  KeepsTables-del del = tables_kept (same_del (record_in rows table key) refl del)

module _ (found : (row : List ℕ) (shape : Shape) → node_of row ≡ Some shape → (is_node shape ≡ true) × (row ≡ node_row shape)) where
  -- a put changes one table alone
  pub ChangesOne-put : ChangesOne IsPut
  ChangesOne-put rows table key row events sound agrees keeps below fits put = KeepsTables-put found rows table key row events sound agrees keeps below fits put

  -- and so does a del
  pub ChangesOne-del : ChangesOne IsDel
  ChangesOne-del rows table key row events sound agrees keeps below fits del = KeepsTables-del found rows table key row events sound agrees keeps below fits del

-- what events tell by a law they tell by one that says the same
told_same : (a b : Law) → SameLaw a b → (es : List Event) (begun seen : Rows) → TellsAll a es begun seen → TellsAll b es begun seen
told_same a b same [] begun seen told = tt
told_same a b same (did_read oid row ∷ es) begun seen told = (told.0, told_same a b same es begun seen told.1)
told_same a b same (did_claim oid ∷ es) begun seen told = (tt, told_same a b same es begun seen told.1)
told_same a b same (did_write oid row ∷ es) begun seen told = (tt, told_same a b same es begun (after (did_write oid row) seen) told.1)
told_same a b same (did_make oid ∷ es) begun seen told = (sym (same.reach begun oid) ∙ told.0, told_same a b same es begun seen told.1)

-- calls do what their events do
pub calls_change_one : {S : Type 0} (face : Face S) → SameLaw face.law sound_law → (kind : Rows → ℕ → ℕ → List ℕ → List Event → Type 0) → ChangesOne kind
    → (table key : ℕ) (row : List ℕ) (change : Rows → Rows → Type 0) → table < 16 → key < 2 ^ 64 → CallsChangeOne face (λ rows events. kind rows table key row events) change table
calls_change_one face law kind changes table key row change below fits s t done array meets agrees =
    let events = done.did.events in
    let keeps = done.did.lawful array meets agrees in
    let new = after_all events array in
    changes array table key row events ((law.meets array).0 meets) (told_same face.law sound_law law events array array agrees)
    (record { meets = (law.meets new).0 keeps.meets; reach = λ x. omega (arith, keeps.reach x, law.reach new x, law.reach array x) }) below fits (done.by array meets agrees)
