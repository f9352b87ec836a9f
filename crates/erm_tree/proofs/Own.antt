-- A call stays in its own table's tree: what it meets, claims and asks for.
use Rattle.std.proofs.Common.{◌≡◌, ℕ, suc, ◌+◌, ◌^◌, ◌<◌, ◌≤◌, List, [], ◌∷◌, ◌++◌, map, length, true, false, Option, Some, None, refl, sym, ap, ◌∙◌, subst, inl, inr, arith}
use Rattle.std.specs.Prelude.{MatchOption}
use Rattle.std.proofs.lemmas.Bool.Decides.{nat_tests}
use Rattle.std.proofs.lemmas.List.{append_assoc}
use Rattle.erm_model.specs.declared.row_stop.RowStop.{RowStop}
use Rattle.erm_model.specs.Rows.{Rows}
use Rattle.erm_model.specs.RowTransaction.{Event, did_read, did_claim, did_write, did_make, ClaimedBy, made_by, made_by_all, Asked, asked_read, asked_claim, asked_make, OnlyReads, Face}
use Rattle.erm_model.proofs.RowCalls.{made_by_all-append}
use Rattle.erm_node.specs.Node.{Shape, node_of, node_row, is_node}
use Rattle.erm_node.specs.Sound.{IsSound, levels_of}
use Rattle.erm_node.specs.Tree.{total, same_oid, IsTree, times}
use Rattle.erm_node.specs.TreeMap.{table_entries, record_in}
use Rattle.erm_record.specs.Record.{value_row}
use Rattle.erm_tree.specs.Calls.{AsksReads, Reads}
use Rattle.erm_tree.specs.Change.{StopsChange, AreReadsThen, AsksDel, AsksPut, IsPutOfNew, IsPut}
use Rattle.erm_tree.specs.Insert.{path_to, new_rows, objects_for}
use Rattle.erm_tree.specs.Reads.{IsMetIn, IsOnWay}
use Rattle.erm_tree.specs.Tables.{reached_by, AreReached, AreClaiming, IsOwn, IsOwnAsked, PutsClaimOwn, PutsAskOwn, DelsClaimOwn, DelsAskOwn, RefusedStaysIn, RefusedPutsStayIn}
use Rattle.erm_tree.specs.Walk.{IsMetByNext, last_sought}
use Rattle.erm_tree.proofs.Growth.{on_path-times}
use Rattle.erm_tree.proofs.Phases.{AreClaims-made, AreClaims-rows}
use Rattle.erm_tree.proofs.Plans.{set_times, set_times-new_rows}
use Rattle.erm_tree.proofs.Records.{occurs-entries, occurs-found}
use Rattle.erm_tree.proofs.Runs.{objects_for-some}
use Rattle.erm_tree.proofs.Standing.{levels_of-bounds}
use Rattle.erm_tree.proofs.Ways.{IsMet-reached}

pub way_reached : (table key : ℕ) → AreReached (IsOnWay table key) table
way_reached table key rows x on = IsMet-reached rows false key key (levels_of rows table) table 0 (2 ^ 64) x on

pub met_reached : (table low high : ℕ) → AreReached (λ rows x. IsMetIn rows table low high x) table
met_reached table low high rows x met = IsMet-reached rows true low high (levels_of rows table) table 0 (2 ^ 64) x met

pub next_reached : (table from : ℕ) → AreReached (IsMetByNext table from) table
next_reached table from rows x (found, is, met) = met_reached table from (last_sought (2 ^ 64) found) rows x met

-- a key's record is reached
record_reached : (rows : Rows) (table key oid : ℕ) → record_in rows table key ≡ Some oid → 0 < reached_by rows table oid
record_reached rows table key oid is = omega (arith, occurs-found (table_entries rows table) key oid is, occurs-entries rows (levels_of rows table) table 0 oid)

-- events in two parts claim where one does
claims_front : (es fs : List Event) (x : ℕ) → AreClaiming es x → AreClaiming (es ++ fs) x
claims_front [] fs x claims = absurd claims
claims_front (e ∷ es) fs x claims = elim claims as (λ _. AreClaiming (e ∷ es ++ fs) x) [
  | inl here ↦ inl here
  | inr there ↦ inr (claims_front es fs x there)
]

claims_back : (es fs : List Event) (x : ℕ) → AreClaiming fs x → AreClaiming (es ++ fs) x
claims_back [] fs x claims = claims
claims_back (e ∷ es) fs x claims = inr (claims_back es fs x claims)

claims_rest : (es fs : List Event) (x : ℕ) → (AreClaiming es x → ⊥) → AreClaiming (es ++ fs) x → AreClaiming fs x
claims_rest [] fs x none claims = claims
claims_rest (e ∷ es) fs x none claims = elim claims as (λ _. AreClaiming fs x) [
  | inl here ↦ absurd (none (inl here))
  | inr there ↦ claims_rest es fs x (λ c. none (inr c)) there
]

-- reads claim nothing
reads_claim_nothing : (es : List Event) (x : ℕ) → OnlyReads es → AreClaiming es x → ⊥
reads_claim_nothing [] x only claims = claims
reads_claim_nothing (did_read oid row ∷ es) x only claims = elim claims as (λ _. ⊥) [
  | inl here ↦ here
  | inr there ↦ reads_claim_nothing es x only there
]
reads_claim_nothing (did_claim oid ∷ es) x only claims = only
reads_claim_nothing (did_write oid row ∷ es) x only claims = only
reads_claim_nothing (did_make oid ∷ es) x only claims = only

-- nor do makes
makes_claim_nothing : (made : List ℕ) (x : ℕ) → AreClaiming (map did_make made) x → ⊥
makes_claim_nothing [] x claims = claims
makes_claim_nothing (o ∷ os) x claims = elim claims as (λ _. ⊥) [
  | inl here ↦ here
  | inr there ↦ makes_claim_nothing os x there
]

same_oid-itself : (oid x : ℕ) → x ≡ oid → same_oid oid x ≡ 1
same_oid-itself oid x same = grind (arith, nat_tests)

-- what is claimed to set these rows is of these rows
claims_rows : (ws : List (ℕ × List ℕ)) (x : ℕ) → AreClaiming (map (λ w. did_claim w.0) ws) x → 0 < set_times ws x
claims_rows [] x claims = absurd claims
claims_rows (w ∷ ws) x claims = elim claims as (λ _. 0 < set_times (w ∷ ws) x) [
  | inl here ↦ omega (arith, same_oid-itself w.0 x here)
  | inr there ↦ omega (arith, claims_rows ws x there)
]

writes_rows : (ws : List (ℕ × List ℕ)) (x : ℕ) → AreClaiming (map (λ w. did_write w.0 w.1) ws) x → 0 < set_times ws x
writes_rows [] x claims = absurd claims
writes_rows (w ∷ ws) x claims = elim claims as (λ _. 0 < set_times (w ∷ ws) x) [
  | inl here ↦ omega (arith, same_oid-itself w.0 x here)
  | inr there ↦ omega (arith, writes_rows ws x there)
]

either_part : (ws : List (ℕ × List ℕ)) (x : ℕ) (es : List Event) → (AreClaiming es x → 0 < set_times ws x) → AreClaiming (es ++ map (λ w. did_write w.0 w.1) ws) x → 0 < set_times ws x
either_part ws x [] each claims = writes_rows ws x claims
either_part ws x (e ∷ es) each claims = elim claims as (λ _. 0 < set_times ws x) [
  | inl here ↦ each (inl here)
  | inr there ↦ either_part ws x es (λ c. each (inr c)) there
]

either_rows : (ws : List (ℕ × List ℕ)) (x : ℕ) → AreClaiming (map (λ w. did_claim w.0) ws ++ map (λ w. did_write w.0 w.1) ws) x → 0 < set_times ws x
either_rows ws x claims = either_part ws x (map (λ w. did_claim w.0) ws) (λ c. claims_rows ws x c) claims

-- and nothing is made as they are claimed and set
writes_made : (ws : List (ℕ × List ℕ)) (x : ℕ) → made_by_all (map (λ w. did_write w.0 w.1) ws) x ≡ 0
writes_made [] x = refl
writes_made (w ∷ ws) x = omega (arith, writes_made ws x)

makes_made : (made : List ℕ) (x : ℕ) → made_by_all (map did_make made) x ≡ total (λ o. same_oid o x) made
makes_made [] x = refl
makes_made (o ∷ os) x = omega (arith, makes_made os x)

reads_made : (es : List Event) (x : ℕ) → OnlyReads es → made_by_all es x ≡ 0
reads_made [] x only = refl
reads_made (did_read oid row ∷ es) x only = omega (arith, reads_made es x only)
reads_made (did_claim oid ∷ es) x only = absurd only
reads_made (did_write oid row ∷ es) x only = absurd only
reads_made (did_make oid ∷ es) x only = absurd only

head_same : (a b : Event) (es fs : List Event) → a ∷ es ≡ b ∷ fs → a ≡ b
head_same a b es fs same = cc

tail_same : (a b : Event) (es fs : List Event) → a ∷ es ≡ b ∷ fs → es ≡ fs
tail_same a b es fs same = cc

-- Where the first part claims nothing and the second makes nothing, first events that claim made all that is made.
front_made : (quiet rest es fs : List Event) (x : ℕ) → quiet ++ rest ≡ es ++ fs → (AreClaiming quiet x → ⊥) → made_by_all rest x ≡ 0 → AreClaiming es x → made_by_all es x ≡ made_by_all quiet x
front_made quiet rest [] fs x split none nothing claims = absurd claims
front_made [] rest (e ∷ es) fs x split none nothing claims =
    omega (arith, nothing, ap (λ (gs : List Event). made_by_all gs x) split, made_by_all-append (e ∷ es) fs x)
front_made (q ∷ quiet) rest (e ∷ es) fs x split none nothing claims =
    let head = head_same q e (quiet ++ rest) (es ++ fs) split in
    let tail = tail_same q e (quiet ++ rest) (es ++ fs) split in
    elim claims as (λ _. made_by_all (e ∷ es) x ≡ made_by_all (q ∷ quiet) x) [
      | inl here ↦ absurd (none (inl (subst (λ (g : Event). ClaimedBy g x) (sym head) here)))
      | inr there ↦ omega (arith, ap (λ (g : Event). made_by g x) head, front_made quiet rest es fs x tail (λ c. none (inr c)) nothing there)
    ]

module _ (rows : Rows) (table key : ℕ) where
  -- reads and then a write of the key's record claim it alone
  set_claims : (oid : ℕ) (row : List ℕ) (events : List Event) → record_in rows table key ≡ Some oid → AreReadsThen (IsOnWay table key rows) (did_write oid row ∷ []) events → (x : ℕ) → AreClaiming events x → 0 < reached_by rows table x
  set_claims oid row events is set x claims =
      let there = subst (λ (es : List Event). AreClaiming es x) set.split claims in
      elim (claims_rest set.reads (did_write oid row ∷ []) x (reads_claim_nothing set.reads x set.only) there) as (λ _. 0 < reached_by rows table x) [
        | inl same ↦ subst (λ (o : ℕ). 0 < reached_by rows table o) (sym same) (record_reached rows table key oid is)
        | inr none ↦ absurd none
      ]

  nothing_claims : (events : List Event) → AreReadsThen (IsOnWay table key rows) [] events → (x : ℕ) → AreClaiming events x → ⊥
  nothing_claims events reads x claims =
      claims_rest reads.reads [] x (reads_claim_nothing reads.reads x reads.only) (subst (λ (es : List Event). AreClaiming es x) reads.split claims)

  del_claims : (row : List ℕ) (events : List Event) (r : Option ℕ) → record_in rows table key ≡ r
      → MatchOption r (AreReadsThen (IsOnWay table key rows) [] events) (λ oid. AreReadsThen (IsOnWay table key rows) (did_write oid row ∷ []) events) → (x : ℕ) → AreClaiming events x → 0 < reached_by rows table x
  del_claims row events None is del x claims = absurd (nothing_claims events del x claims)
  del_claims row events (Some oid) is del x claims = set_claims oid row events is del x claims

module _ (found : (row : List ℕ) (shape : Shape) → node_of row ≡ Some shape → (is_node shape ≡ true) × (row ≡ node_row shape))
    (rows : Rows) (table key : ℕ) (row : List ℕ) (sound : IsSound rows) (below : table < 16) (fits : key < 2 ^ 64) where
  -- the rows that a put of a new key sets are of nodes on the way, or of objects made
  rows_own : (made : List ℕ) → length made ≡ objects_for (path_to rows (levels_of rows table) table key) → (x : ℕ)
      → set_times (new_rows made key row (path_to rows (levels_of rows table) table key)) x ≤ reached_by rows table x + total (λ o. same_oid o x) made
  rows_own made many x =
      let (n, depth, few) = levels_of-bounds rows table in
      let many_here : length made ≡ objects_for (path_to rows (suc n) table key) = many ∙ ap (λ (m : ℕ). objects_for (path_to rows m table key)) depth in
      let some : 0 < length made = omega (arith, objects_for-some (path_to rows (suc n) table key)) in
      let tree : IsTree rows (suc n) 0 table 0 (2 ^ 64) = subst (λ (m : ℕ). IsTree rows m 0 table 0 (2 ^ 64)) depth (sound.trees table below) in
      omega (
        arith,
        ap (λ (m : ℕ). set_times (new_rows made key row (path_to rows m table key)) x) depth,
        set_times-new_rows rows made key row some table n many_here x,
        on_path-times found rows key (suc n) 0 table 0 (2 ^ 64) tree (omega arith) fits x,
        ap (λ (m : ℕ). times rows m table x) depth,
      )

  new_claims : (events others : List Event) → IsPutOfNew rows table key row (events ++ others) → (x : ℕ) → AreClaiming events x → IsOwn rows table events x
  new_claims events others put x claims =
      let made = put.made in
      let ws = new_rows made key row (path_to rows (levels_of rows table) table key) in
      let reads = put.then_all.reads in
      let makes = map did_make made in
      let claiming = map (λ (w : ℕ × List ℕ). did_claim w.0) ws in
      let writing = map (λ (w : ℕ × List ℕ). did_write w.0 w.1) ws in
      let quiet = reads ++ makes in
      let no_reads = reads_claim_nothing reads x put.then_all.only in
      let none : AreClaiming quiet x → ⊥ = λ (c : AreClaiming quiet x). makes_claim_nothing made x (claims_rest reads makes x no_reads c) in
      let split : quiet ++ (claiming ++ writing) ≡ events ++ others = append_assoc reads makes (claiming ++ writing) ∙ sym put.then_all.split in
      let nothing : made_by_all (claiming ++ writing) x ≡ 0 = omega (arith, made_by_all-append claiming writing x, AreClaims-made claiming x (AreClaims-rows ws), writes_made ws x) in
      let all = subst (λ (es : List Event). AreClaiming es x) (sym split) (claims_front events others x claims) in
      let set : 0 < set_times ws x = either_rows ws x (claims_rest quiet (claiming ++ writing) x none all) in
      omega (
        arith,
        set,
        rows_own made put.many x,
        front_made quiet (claiming ++ writing) events others x split none nothing claims,
        made_by_all-append reads makes x,
        makes_made made x,
      )

  put_claims : (events others : List Event) (r : Option ℕ) → record_in rows table key ≡ r
      → MatchOption r (IsPutOfNew rows table key row (events ++ others)) (λ oid. AreReadsThen (IsOnWay table key rows) (did_write oid row ∷ []) (events ++ others)) → (x : ℕ) → AreClaiming events x → IsOwn rows table events x
  put_claims events others None is put x claims = new_claims events others put x claims
  put_claims events others (Some oid) is put x claims = omega (arith, set_claims rows table key oid row (events ++ others) is put x (claims_front events others x claims))

  put_asks : (events : List Event) (asked : Asked) → AsksPut table key row events rows asked → IsOwnAsked rows table events asked
  put_asks events (asked_read oid) asks = way_reached table key rows oid asks.1
  put_asks events (asked_claim oid) asks = elim asks as (λ _. IsOwn rows table events oid) [
    | inl is ↦ omega (arith, record_reached rows table key oid is)
    | inr more ↦
        let last = did_claim oid ∷ [] in
        let whole = subst (λ (es : List Event). IsPut rows table key row es) (sym (append_assoc events last more.0)) more.1 in
        omega (arith, put_claims (events ++ last) more.0 (record_in rows table key) refl whole oid (claims_back events last oid (inl refl)), made_by_all-append events last oid)
  ]
  put_asks events asked_make asks = tt

module _ (found : (row : List ℕ) (shape : Shape) → node_of row ≡ Some shape → (is_node shape ≡ true) × (row ≡ node_row shape)) where
  pub PutsClaimOwn-all : PutsClaimOwn
  PutsClaimOwn-all rows table key row events others sound below fits put x claims = put_claims found rows table key row sound below fits events others (record_in rows table key) refl put x claims

  pub PutsAskOwn-all : PutsAskOwn
  PutsAskOwn-all rows table key row events asked sound below fits asks = put_asks found rows table key row sound below fits events asked asks

pub DelsClaimOwn-all : DelsClaimOwn
DelsClaimOwn-all rows table key row events del x claims = del_claims rows table key row events (record_in rows table key) refl del x claims

pub DelsAskOwn-all : DelsAskOwn
DelsAskOwn-all rows table key events (asked_read oid) asks = way_reached table key rows oid asks
DelsAskOwn-all rows table key events (asked_claim oid) asks = omega (arith, record_reached rows table key oid asks)
DelsAskOwn-all rows table key events asked_make asks = tt

-- what looks for these objects ask for
look_asked : (objects : Rows → ℕ → Type 0) (table : ℕ) → AreReached objects table → (events : List Event) (rows : Rows) (asked : Asked) → AsksReads objects events rows asked → IsOwnAsked rows table events asked
look_asked objects table reached events rows (asked_read oid) asks = reached rows oid asks
look_asked objects table reached events rows (asked_claim oid) asks = absurd asks
look_asked objects table reached events rows asked_make asks = absurd asks

-- what was asked for is of the table whatever was made
own_more : (rows : Rows) (table : ℕ) (events : List Event) (asked : Asked) → IsOwnAsked rows table [] asked → IsOwnAsked rows table events asked
own_more rows table events (asked_read oid) own = own
own_more rows table events (asked_claim oid) own = omega (arith, own)
own_more rows table events asked_make own = tt

module _ {S : Type 0} (face : Face S) where
  -- calls that were refused after reads alone
  reads_stay : (may : RowStop → Type 0) (objects : Rows → ℕ → Type 0) (asks : List Event → Rows → Asked → Type 0) (table : ℕ)
      → ((events : List Event) (rows : Rows) (asked : Asked) → asks events rows asked → IsOwnAsked rows table events asked) → RefusedStaysIn face may (Reads face.law objects) asks table
  reads_stay may objects asks table each s t stop stopped array meets agrees = (
    λ x claims. absurd (reads_claim_nothing stopped.events x stopped.of_kind.only claims),
    each stopped.events array stopped.asked (stopped.asks_so array meets agrees),
  )

  -- a look that was refused stays in its table
  pub look_stays : (may : RowStop → Type 0) (objects : Rows → ℕ → Type 0) (table : ℕ) → AreReached objects table → RefusedStaysIn face may (Reads face.law objects) (AsksReads objects) table
  look_stays may objects table reached = reads_stay may objects (AsksReads objects) table (look_asked objects table reached)

  -- so does a del
  pub del_stays : DelsAskOwn → (table key : ℕ) → RefusedStaysIn face StopsChange (Reads face.law (IsOnWay table key)) (AsksDel table key) table
  del_stays own table key = reads_stay StopsChange (IsOnWay table key) (AsksDel table key) table (λ events rows asked asks. own_more rows table events asked (own rows table key events asked asks))

  -- and a put
  pub put_stays : PutsClaimOwn → PutsAskOwn → RefusedPutsStayIn face
  put_stays claim_own ask_own law table key value below fits s t stop stopped array meets agrees =
      let sound = (law.meets array).0 meets in
      let (others, whole) = stopped.of_kind.rest array meets agrees in (
        λ x claims. claim_own array table key (value_row value) stopped.events others sound below fits whole x claims,
        ask_own array table key (value_row value) stopped.events stopped.asked sound below fits (stopped.asks_so array meets agrees),
      )
