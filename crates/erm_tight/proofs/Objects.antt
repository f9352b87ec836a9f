-- The object of the record that a put of a key sets: the one that it writes, or the first one that it makes.
use Rattle.std.proofs.Common.{◌≡◌, ℕ, suc, ◌<◌, ◌⊎◌, Bool, true, false, cond, List, [], ◌∷◌, ◌++◌, length, Option, Some, None, inl, inr, refl, sym, ap, ◌∙◌, subst, arith}
use Rattle.std.specs.Prelude.{slice_index}
use Rattle.std.specs.Option.{option_map_or}
use Rattle.erm_model.specs.RowTransaction.{Event, OnlyReads, did_claim, did_make, did_read, did_write}
use Rattle.erm_model.specs.Rows.{Rows, set_row}
use Rattle.erm_record.specs.Record.{IsValue, record_value, value_row}
use Rattle.erm_node.specs.Node.{Shape, node_row}
use Rattle.erm_tree.specs.Change.{makes_claims_writes}
use Rattle.erm_tree.specs.Insert.{Place, handed_up, is_full, new_rows, node_rows, root_rows, rows_below}
use Rattle.erm_tree.proofs.Insertion.{Each}
use Rattle.erm_tree.proofs.Plans.{set_all, set_all-other, set_times}
use Rattle.erm_tight.proofs.Alike.{AreWriting, own_row}
use Rattle.erm_tight.proofs.Claims.{same_number, zero_or_more}

abbrev pub put_object : List Event → ℕ
put_object [] = 0
put_object (did_read oid row ∷ events) = put_object events
put_object (did_claim oid ∷ events) = put_object events
put_object (did_write oid row ∷ events) = oid
put_object (did_make oid ∷ events) = oid

object_then : (reads others : List Event) → OnlyReads reads → put_object (reads ++ others) ≡ put_object others
object_then [] others only = refl
object_then (did_read oid row ∷ reads) others only = object_then reads others only
object_then (did_claim oid ∷ reads) others only = absurd only
object_then (did_write oid row ∷ reads) others only = absurd only
object_then (did_make oid ∷ reads) others only = absurd only

writes_then : (reads others : List Event) → OnlyReads reads → (x : ℕ) → AreWriting (reads ++ others) x → AreWriting others x
writes_then [] others only x by = by
writes_then (did_read oid row ∷ reads) others only x by = writes_then reads others only x by
writes_then (did_claim oid ∷ reads) others only x by = absurd only
writes_then (did_write oid row ∷ reads) others only x by = absurd only
writes_then (did_make oid ∷ reads) others only x by = absurd only

-- one write after reads
pub written_object : (reads events : List Event) (oid : ℕ) (row : List ℕ) → OnlyReads reads → events ≡ reads ++ did_write oid row ∷ [] → (x : ℕ) → AreWriting events x → x ≡ put_object events
written_object reads events oid row only is x by =
    let here : AreWriting (did_write oid row ∷ []) x = writes_then reads (did_write oid row ∷ []) only x (subst (λ (es : List Event). AreWriting es x) is by) in
    elim here as (λ _. x ≡ put_object events) [
      | inl same ↦ same ∙ sym (ap put_object is ∙ object_then reads (did_write oid row ∷ []) only)
      | inr none ↦ absurd none
    ]

-- makes after reads
first_made : (made : List ℕ) (ws : List (ℕ × List ℕ)) → 0 < length made → put_object (makes_claims_writes made ws) ≡ slice_index made 0
first_made [] ws some = absurd (omega (arith, some))
first_made (oid ∷ made) ws some = refl

pub made_object : (reads events : List Event) (made : List ℕ) (ws : List (ℕ × List ℕ)) → OnlyReads reads → 0 < length made → events ≡ reads ++ makes_claims_writes made ws → put_object events ≡ slice_index made 0
made_object reads events made ws only some is = ap put_object is ∙ object_then reads (makes_claims_writes made ws) only ∙ first_made made ws some

-- NEW ROWS. Each is that of a node, or the first object's.
abbrev pub IsNodeOr : ℕ → ℕ × List ℕ → Type 0
IsNodeOr first w = (w.0 ≡ first) ⊎ ((shape : Shape) × (w.1 ≡ node_row shape))

each_both : (P : ℕ × List ℕ → Type 0) (xs ys : List (ℕ × List ℕ)) → Each P xs → Each P ys → Each P (xs ++ ys)
each_both P [] ys a b = b
each_both P (x ∷ xs) ys a b = (a.0, each_both P xs ys a.1 b)

by_full : (first : ℕ) (b : Bool) (xs ys : List (ℕ × List ℕ)) → Each (IsNodeOr first) xs → Each (IsNodeOr first) ys → Each (IsNodeOr first) (cond b xs ys)
by_full first true xs ys a b = a
by_full first false xs ys a b = b

nodes_are : (first : ℕ) (place : Place) (right : ℕ) (handed : Option (ℕ × ℕ)) → Each (IsNodeOr first) (option_map_or (node_rows place right) handed [])
nodes_are first place right None = tt
nodes_are first place right (Some pair) = by_full first (is_full place) _ _ (inr (_, refl), (inr (_, refl), tt)) (inr (_, refl), tt)

roots_are : (first : ℕ) (place : Place) (left right : ℕ) (handed : Option (ℕ × ℕ)) → Each (IsNodeOr first) (option_map_or (root_rows place left right) handed [])
roots_are first place left right None = tt
roots_are first place left right (Some pair) = by_full first (is_full place) _ _ (inr (_, refl), (inr (_, refl), (inr (_, refl), tt))) (inr (_, refl), tt)

below_are : (made : List ℕ) (key : ℕ) (row : List ℕ) (path : List Place) → Each (IsNodeOr (slice_index made 0)) (rows_below made key row path)
below_are made key row [] = (inl refl, tt)
below_are made key row (place ∷ below) =
    each_both (IsNodeOr (slice_index made 0)) (rows_below made key row below) (option_map_or (node_rows place (slice_index made (suc (length below)))) (handed_up made key below) []) (below_are made key row below)
    (nodes_are (slice_index made 0) place (slice_index made (suc (length below))) (handed_up made key below))

pub new_are : (made : List ℕ) (key : ℕ) (row : List ℕ) (path : List Place) → Each (IsNodeOr (slice_index made 0)) (new_rows made key row path)
new_are made key row [] = tt
new_are made key row (root ∷ below) =
    each_both (IsNodeOr (slice_index made 0)) (rows_below made key row below)
    (option_map_or (root_rows root (slice_index made (suc (length below))) (slice_index made (suc (suc (length below))))) (handed_up made key below) []) (below_are made key row below)
    (roots_are (slice_index made 0) root (slice_index made (suc (length below))) (slice_index made (suc (suc (length below)))) (handed_up made key below))

-- an object that is set has one of the rows
pub set_row_of : (P : ℕ × List ℕ → Type 0) (ws : List (ℕ × List ℕ)) (rows : Rows) (x : ℕ) → Each P ws → 0 < set_times ws x → (w : ℕ × List ℕ) × P w × (w.0 ≡ x) × (set_all ws rows x ≡ w.1)
set_row_of P [] rows x each some = absurd (omega (arith, some))
set_row_of P (w ∷ ws) rows x each some = elim (zero_or_more (set_times ws x)) as (λ _. (u : ℕ × List ℕ) × P u × (u.0 ≡ x) × (set_all (w ∷ ws) rows x ≡ u.1)) [
  | inl none ↦
      let here : x ≡ w.0 = same_number w.0 x (omega (arith, some, none)) in
      (w, each.0, sym here, set_all-other ws (set_row rows w.0 w.1) x none ∙ own_row rows w.0 w.1 x here)
  | inr more ↦ set_row_of P ws (set_row rows w.0 w.1) x each.1 more
]

-- a node's row is that of no value
node_no_value : (leaf : Bool) (pairs : List (ℕ × ℕ)) (bytes : List ℕ) → node_row (record { leaf = leaf; pairs = pairs }) ≡ value_row bytes → ⊥
unfolding node_row
node_no_value true [] bytes is = cc
node_no_value true (p ∷ pairs) bytes is = cc
node_no_value false pairs bytes is = cc

pub node_has_none : ((row bytes : List ℕ) → record_value row ≡ Some bytes → IsValue bytes × (row ≡ value_row bytes)) → (shape : Shape) (bytes : List ℕ) → record_value (node_row shape) ≡ Some bytes → ⊥
node_has_none found shape bytes is = node_no_value shape.leaf shape.pairs bytes (found (node_row shape) bytes is).1
