-- Of the records of keys the calls of a key claim that of their own alone.
use Rattle.std.proofs.Common.{◌≡◌, ℕ, zero, suc, ◌^◌, ◌<◌, ◌≤◌, ◌⊎◌, true, List, [], ◌∷◌, ◌++◌, length, map, Some, inl, inr, refl, sym, ap, ◌∙◌, subst, arith}
use Rattle.std.proofs.lemmas.Bool.{cases_eq}
use Rattle.std.proofs.lemmas.Bool.Decides.{nat_tests}
use Rattle.erm_model.specs.RowTransaction.{Agrees, Event, OnlyReads, TellsAll, WritesNothing, after, did_claim, did_make, did_read, did_write, made_by_all}
use Rattle.erm_model.specs.Rows.{Rows}
use Rattle.erm_model.proofs.RowCalls.{made_by_all-append}
use Rattle.erm_node.specs.Node.{Shape, node_of, node_row, is_node}
use Rattle.erm_node.specs.Sound.{IsSound, levels_of, reached, sound_law}
use Rattle.erm_node.specs.Tree.{IsTree, entries, same_oid, times, total}
use Rattle.erm_node.specs.TreeMap.{record_in, table_entries}
use Rattle.erm_tree.specs.Change.{AreReadsThen, IsPutOfNew, makes_claims_writes}
use Rattle.erm_tree.specs.Insert.{new_rows, objects_for, path_to}
use Rattle.erm_tree.specs.Reads.{IsOnWay}
use Rattle.erm_tree.specs.Tables.{AreClaiming}
use Rattle.erm_tree.proofs.Apart.{two_tables}
use Rattle.erm_tree.proofs.Growth.{on_path, on_path-times}
use Rattle.erm_tree.proofs.Planted.{on_path-occurs}
use Rattle.erm_tree.proofs.Plans.{set_times, set_times-new_rows}
use Rattle.erm_tree.proofs.Puts.{made_by_all-put}
use Rattle.erm_tree.proofs.Records.{occurs, occurs-entries, occurs-found}
use Rattle.erm_tree.proofs.Runs.{objects_for-some}
use Rattle.erm_tree.proofs.Standing.{levels_of-bounds, reached-table}
use Rattle.erm_causes.proofs.Own.{split_claims}

-- how a node's row is read back
abbrev pub NodesReadBack : Type 0
NodesReadBack = (row : List ℕ) (shape : Shape) → node_of row ≡ Some shape → (is_node shape ≡ true) × (row ≡ node_row shape)

claims_behind : (reads others : List Event) (x : ℕ) → AreClaiming others x → AreClaiming (reads ++ others) x
claims_behind [] others x by = by
claims_behind (event ∷ reads) others x by = inr (claims_behind reads others x by)

pub claims_before : (events others : List Event) (x : ℕ) → AreClaiming events x → AreClaiming (events ++ others) x
claims_before [] others x by = absurd by
claims_before (event ∷ events) others x by = elim by as (λ _. AreClaiming ((event ∷ events) ++ others) x) [ inl here ↦ inl here | inr later ↦ inr (claims_before events others x later) ]

pub joined_claims : (P : ℕ → Type 0) (others events : List Event) → AreReadsThen P others events → (x : ℕ) → AreClaiming others x → AreClaiming events x
joined_claims P others events is x by = subst (λ (es : List Event). AreClaiming es x) (sym is.split) (claims_behind is.reads others x by)

itself : (oid x : ℕ) → x ≡ oid → same_oid oid x ≡ 1
itself oid x same = grind (arith, nat_tests)

-- what is claimed with a change is of the rows that are set
sets_claim : (ws us : List (ℕ × List ℕ)) (x : ℕ) → AreClaiming (map (λ (e : ℕ × List ℕ). did_claim e.0) us ++ map (λ (e : ℕ × List ℕ). did_write e.0 e.1) ws) x → (0 < set_times us x) ⊎ (0 < set_times ws x)
sets_claim [] [] x by = absurd by
sets_claim (w ∷ ws) [] x by = elim by as (λ _. (0 < set_times [] x) ⊎ (0 < set_times (w ∷ ws) x)) [
  | inl here ↦ inr (omega (arith, itself w.0 x here))
  | inr later ↦ elim (sets_claim ws [] x later) [ inl none ↦ inl none | inr some ↦ inr (omega (arith, some)) ]
]
sets_claim ws (u ∷ us) x by = elim by as (λ _. (0 < set_times (u ∷ us) x) ⊎ (0 < set_times ws x)) [
  | inl here ↦ inl (omega (arith, itself u.0 x here))
  | inr later ↦ elim (sets_claim ws us x later) [ inl some ↦ inl (omega (arith, some)) | inr some ↦ inr some ]
]

pub change_claims : (made : List ℕ) (ws : List (ℕ × List ℕ)) (x : ℕ) → AreClaiming (makes_claims_writes made ws) x → 0 < set_times ws x
change_claims [] ws x by = elim (sets_claim ws ws x by) [ inl some ↦ some | inr some ↦ some ]
change_claims (oid ∷ made) ws x by = elim by as (λ _. 0 < set_times ws x) [ inl none ↦ absurd none | inr later ↦ change_claims made ws x later ]

pub zero_or_more : (n : ℕ) → (n ≡ 0) ⊎ (0 < n)
zero_or_more zero = inl refl
zero_or_more (suc n) = inr (omega arith)

pub same_number : (o x : ℕ) → 0 < same_oid o x → x ≡ o
same_number o x more = grind (arith, nat_tests)

-- what events made wasn't reached
told_made : (es : List Event) (begun seen : Rows) → TellsAll sound_law es begun seen → (x : ℕ) → 0 < made_by_all es x → reached begun x ≡ 0
told_made [] begun seen told x more = absurd (omega arith)
told_made (did_read oid row ∷ es) begun seen told x more = told_made es begun seen told.1 x (omega arith)
told_made (did_claim oid ∷ es) begun seen told x more = told_made es begun seen told.1 x (omega arith)
told_made (did_write oid row ∷ es) begun seen told x more = told_made es begun (after (did_write oid row) seen) told.1 x (omega arith)
told_made (did_make oid ∷ es) begun seen told x more =
    elim (zero_or_more (same_oid oid x)) as (λ _. reached begun x ≡ 0) [
      | inl none ↦ told_made es begun seen told.1 x (omega arith)
      | inr here ↦ ap (reached begun) (same_number oid x here) ∙ told.0
    ]

module _ (found : NodesReadBack) (rows : Rows) (table key : ℕ) (row : List ℕ) (events : List Event) (sound : IsSound rows) (fresh : (x : ℕ) → 0 < made_by_all events x → reached rows x ≡ 0) (below : table < 16) (fits : key < 2 ^ 64) where
  -- a put of a new key claims no record
  fresh_claims : IsPutOfNew rows table key row events → (t k x : ℕ) → t < 16 → record_in rows t k ≡ Some x → AreClaiming events x → ⊥
  fresh_claims put t k x t_below is by =
      let (n, depth, few) = levels_of-bounds rows table in
      let made = put.made in
      let many : length made ≡ objects_for (path_to rows (suc n) table key) = put.many ∙ ap (λ (m : ℕ). objects_for (path_to rows m table key)) depth in
      let some : 0 < length made = omega (arith, objects_for-some (path_to rows (suc n) table key)) in
      let tree : IsTree rows (suc n) 0 table 0 (2 ^ 64) = subst (λ (m : ℕ). IsTree rows m 0 table 0 (2 ^ 64)) depth (sound.trees table below) in
      let ws = new_rows made key row (path_to rows (levels_of rows table) table key) in
      let us = new_rows made key row (path_to rows (suc n) table key) in
      let fs = makes_claims_writes made ws in
      let same : ws ≡ us = ap (λ (m : ℕ). new_rows made key row (path_to rows m table key)) depth in
      let set : 0 < set_times us x = subst (λ (vs : List (ℕ × List ℕ)). 0 < set_times vs x) same (change_claims made ws x (split_claims (IsOnWay table key rows) fs events put.then_all x by)) in
      let there = occurs-found (table_entries rows t) k x is in
      let reached_by : 1 ≤ times rows (levels_of rows t) t x = omega (arith, there, occurs-entries rows (levels_of rows t) t 0 x) in
      let none_made : total (λ o. same_oid o x) made ≡ 0 = elim (zero_or_more (made_by_all events x)) as (λ _. total (λ o. same_oid o x) made ≡ 0) [
        | inl none ↦ omega (arith, none, ap (λ (es : List Event). made_by_all es x) put.then_all.split, made_by_all-append put.then_all.reads fs x, made_by_all-put made ws x)
        | inr more ↦ absurd (omega (arith, fresh x more, reached_by, reached-table rows t x t_below))
      ] in
      let on : 0 < on_path rows key (suc n) table x = omega (arith, set, set_times-new_rows rows made key row some table n many x, none_made) in
      let way = on_path-times found rows key (suc n) 0 table 0 (2 ^ 64) tree (omega arith) fits x in
      let deep = ap (λ (m : ℕ). times rows m table x) depth in
      elim (cases_eq t table) as (λ _. ⊥) [
        | inl here ↦ omega (
          arith,
          on,
          on_path-occurs found rows key (suc n) 0 table 0 (2 ^ 64) tree (omega arith) fits x,
          there,
          ap (λ (m : ℕ). occurs (table_entries rows m) x) here,
          ap (λ (m : ℕ). occurs (entries rows m table 0) x) depth,
          deep,
          reached-table rows table x below,
          sound.once x,
        )
        | inr other ↦ omega (arith, on, way, deep, reached_by, two_tables rows table t x sound below t_below other)
      ]

pub new_claims : NodesReadBack → (rows : Rows) (table key : ℕ) (row : List ℕ) (events : List Event) → IsSound rows → Agrees sound_law events rows → table < 16 → key < 2 ^ 64
    → IsPutOfNew rows table key row events → (t k x : ℕ) → t < 16 → record_in rows t k ≡ Some x → AreClaiming events x → ⊥
new_claims found rows table key row events sound agrees below fits put = fresh_claims found rows table key row events sound (λ x more. told_made events rows rows agrees x more) below fits put

-- where the first events of a change claim, all is made
claims_make_nothing : (us ws : List (ℕ × List ℕ)) (y : ℕ) → made_by_all (map (λ (e : ℕ × List ℕ). did_claim e.0) us ++ map (λ (e : ℕ × List ℕ). did_write e.0 e.1) ws) y ≡ 0
claims_make_nothing [] [] y = refl
claims_make_nothing [] (w ∷ ws) y = omega (arith, claims_make_nothing [] ws y)
claims_make_nothing (u ∷ us) ws y = omega (arith, claims_make_nothing us ws y)

all_made : (made : List ℕ) (ws : List (ℕ × List ℕ)) (es others : List Event) → es ++ others ≡ makes_claims_writes made ws → (x : ℕ) → AreClaiming es x → (y : ℕ) → made_by_all others y ≡ 0
all_made made ws [] others is x by y = absurd by
all_made [] ws (event ∷ es) others is x by y =
    omega (arith, made_by_all-append (event ∷ es) others y, ap (λ (fs : List Event). made_by_all fs y) is, claims_make_nothing ws ws y)
all_made (o ∷ made) ws (did_make z ∷ es) others is x by y =
    let rest : es ++ others ≡ makes_claims_writes made ws = cc in
    elim by as (λ _. made_by_all others y ≡ 0) [ inl never ↦ absurd never | inr later ↦ all_made made ws es others rest x later y ]
all_made (o ∷ made) ws (did_read z q ∷ es) others is x by y = cc
all_made (o ∷ made) ws (did_claim z ∷ es) others is x by y = cc
all_made (o ∷ made) ws (did_write z q ∷ es) others is x by y = cc

all_made_then : (reads : List Event) (made : List ℕ) (ws : List (ℕ × List ℕ)) (es others : List Event) → OnlyReads reads → es ++ others ≡ reads ++ makes_claims_writes made ws
    → (x : ℕ) → AreClaiming es x → (y : ℕ) → made_by_all others y ≡ 0
all_made_then [] made ws es others only is x by y = all_made made ws es others is x by y
all_made_then (event ∷ reads) made ws [] others only is x by y = absurd by
all_made_then (did_read z q ∷ reads) made ws (did_read n r ∷ es) others only is x by y =
    let rest : es ++ others ≡ reads ++ makes_claims_writes made ws = cc in
    elim by as (λ _. made_by_all others y ≡ 0) [ inl never ↦ absurd never | inr later ↦ all_made_then reads made ws es others only rest x later y ]
all_made_then (did_read z q ∷ reads) made ws (did_claim n ∷ es) others only is x by y = cc
all_made_then (did_read z q ∷ reads) made ws (did_write n r ∷ es) others only is x by y = cc
all_made_then (did_read z q ∷ reads) made ws (did_make n ∷ es) others only is x by y = cc
all_made_then (did_claim z ∷ reads) made ws (event ∷ es) others only is x by y = absurd only
all_made_then (did_write z q ∷ reads) made ws (event ∷ es) others only is x by y = absurd only
all_made_then (did_make z ∷ reads) made ws (event ∷ es) others only is x by y = absurd only

-- so the first events of a put of a new key claim no record
pub front_new : NodesReadBack → (rows : Rows) (table key : ℕ) (row : List ℕ) (events others : List Event) → IsSound rows → Agrees sound_law events rows → table < 16 → key < 2 ^ 64
    → IsPutOfNew rows table key row (events ++ others) → (t k x : ℕ) → t < 16 → record_in rows t k ≡ Some x → AreClaiming events x → ⊥
front_new found rows table key row events others sound agrees below fits put t k x t_below is by =
    let ws = new_rows put.made key row (path_to rows (levels_of rows table) table key) in
    let none : (y : ℕ) → made_by_all others y ≡ 0 = all_made_then put.then_all.reads put.made ws events others put.then_all.only put.then_all.split x by in
    fresh_claims found rows table key row (events ++ others) sound
    (λ y more. told_made events rows rows agrees y (omega (arith, more, made_by_all-append events others y, none y))) below fits put t k x t_below is (claims_before events others x by)

-- events that set no row claim nothing where they are the first ones of reads and one write
pub front_claims : (reads events others : List Event) (oid : ℕ) (row : List ℕ) → OnlyReads reads → WritesNothing events → events ++ others ≡ reads ++ did_write oid row ∷ [] → (x : ℕ) → AreClaiming events x → ⊥
front_claims reads [] others oid row only none is x by = by
front_claims [] (did_read y r ∷ events) others oid row only none is x by = cc
front_claims [] (did_claim y ∷ events) others oid row only none is x by = cc
front_claims [] (did_write y r ∷ events) others oid row only none is x by = none
front_claims [] (did_make y ∷ events) others oid row only none is x by = cc
front_claims (did_read z q ∷ reads) (did_read y r ∷ events) others oid row only none is x by =
    let rest : events ++ others ≡ reads ++ did_write oid row ∷ [] = cc in
    elim by as (λ _. ⊥) [ inl never ↦ never | inr later ↦ front_claims reads events others oid row only none rest x later ]
front_claims (did_read z q ∷ reads) (did_claim y ∷ events) others oid row only none is x by = cc
front_claims (did_read z q ∷ reads) (did_write y r ∷ events) others oid row only none is x by = none
front_claims (did_read z q ∷ reads) (did_make y ∷ events) others oid row only none is x by = cc
front_claims (did_claim z ∷ reads) (event ∷ events) others oid row only none is x by = only
front_claims (did_write z q ∷ reads) (event ∷ events) others oid row only none is x by = only
front_claims (did_make z ∷ reads) (event ∷ events) others oid row only none is x by = only
