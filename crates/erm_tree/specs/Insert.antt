-- A key put into the tree of a table: which objects are made, and which rows are set. Insertion into a B+-tree (Bayer and
-- McCreight, 1972), with this project's choice of halves and of objects.
use Rattle.std.specs.Prelude.{◌≡◌, ℕ, zero, suc, ◌+◌, ◌-◌, ◌==◌, nat_eq, if◌then◌else◌, Bool, false, List, [], ◌∷◌, ◌++◌, length, take, drop, insert, slice_index, slice_index_or, Option, Some, None, option_and_then}
use Rattle.std.specs.List.{suffix_len}
use Rattle.std.specs.Option.{option_map_or}
use Rattle.erm_model.specs.Rows.{Rows}
use Rattle.erm_node.specs.declared.node.TheConstants.{NODE_PAIRS, LEAST_PAIRS}
use Rattle.erm_node.specs.Node.{Shape, node_row, pairs_of}
use Rattle.erm_node.specs.Sound.{levels_of}
use Rattle.erm_node.specs.Tree.{first_key}
use Rattle.erm_tree.specs.Walk.{IsRecordFor, rank}

-- a node on the way to a key: its object, and what its row says
pub record Place : Type 0 where
  pub oid : ℕ
  pub shape : Shape

-- the child for a key: that of the last pair whose key is at most it
abbrev pub child_for : ℕ → List (ℕ × ℕ) → ℕ
child_for key pairs = (slice_index_or pairs (rank key pairs - 1) (0, 0)).1

-- the nodes on the way to a key in the tree at an object, with so many levels, the root first
abbrev pub path_to : Rows → ℕ → ℕ → ℕ → List Place
path_to rows zero oid key = []
path_to rows (suc levels) oid key =
    record { oid = oid; shape = record { leaf = levels == 0; pairs = pairs_of (rows oid) } } ∷ path_to rows levels (child_for key (pairs_of (rows oid))) key

-- these are the nodes on the way to a key of a table, and this is the key's record, or there is none
pub record IsPathFor (rows : Rows) (table key : ℕ) (places : List Place) (found : Option ℕ) : Type 0 where
  pub nodes : places ≡ path_to rows (levels_of rows table) table key
  pub entry : IsRecordFor rows table key found

-- pairs with one more in its place
abbrev pub with_pair : ℕ × ℕ → List (ℕ × ℕ) → List (ℕ × ℕ)
with_pair pair pairs = insert pairs (rank pair.0 pairs) pair

-- whether a node has as many pairs as there may be
abbrev pub is_full : Place → Bool
is_full place = nat_eq (length place.shape.pairs) NODE_PAIRS

-- a node's row with other pairs
abbrev pub row_with : Place → List (ℕ × ℕ) → List ℕ
row_with place pairs = node_row (record { leaf = place.shape.leaf; pairs = pairs })

-- What a node hands to the node above as one more pair is put into it. A full one is cut into LEAST_PAIRS pairs, which stay,
-- and as many that go to a new object: it hands on the first key of these, with that object.
abbrev pub handed_on : Place → ℕ → ℕ × ℕ → Option (ℕ × ℕ)
handed_on place right pair =
    if is_full place then Some (first_key (drop LEAST_PAIRS (with_pair pair place.shape.pairs)) 0, right) else None

-- the rows that a node other than the root then has, and its right half
abbrev pub node_rows : Place → ℕ → ℕ × ℕ → List (ℕ × List ℕ)
node_rows place right pair =
    if is_full place
    then (place.oid, row_with place (take LEAST_PAIRS (with_pair pair place.shape.pairs))) ∷ (right, row_with place (drop LEAST_PAIRS (with_pair pair place.shape.pairs))) ∷ []
    else (place.oid, row_with place (with_pair pair place.shape.pairs)) ∷ []

-- The pairs of a root that was cut: both halves go to new objects, the left one from key 0 on.
abbrev pub cut_root : Place → ℕ → ℕ → ℕ × ℕ → List (ℕ × ℕ)
cut_root place left right pair = (0, left) ∷ (first_key (drop LEAST_PAIRS (with_pair pair place.shape.pairs)) 0, right) ∷ []

-- the rows that the root then has, its left half and its right half
abbrev pub root_rows : Place → ℕ → ℕ → ℕ × ℕ → List (ℕ × List ℕ)
root_rows place left right pair =
    if is_full place
    then (place.oid, node_row (record { leaf = false; pairs = cut_root place left right pair }))
    ∷ (left, row_with place (take LEAST_PAIRS (with_pair pair place.shape.pairs)))
    ∷ (right, row_with place (drop LEAST_PAIRS (with_pair pair place.shape.pairs))) ∷ []
    else (place.oid, row_with place (with_pair pair place.shape.pairs)) ∷ []

-- The pair that the last nodes of a path hand to the node above them, if they do: to the leaf comes the key with its record.
-- Of the objects made the record's is the first, and then each node that is cut takes the next.
abbrev pub handed_up : List ℕ → ℕ → List Place → Option (ℕ × ℕ)
handed_up made key [] = Some (key, slice_index made 0)
handed_up made key (place ∷ below) = option_and_then (handed_on place (slice_index made (suc (length below)))) (handed_up made key below)

-- the rows that the last nodes of a path then have, the record's first, and then from the leaf up
abbrev pub rows_below : List ℕ → ℕ → List ℕ → List Place → List (ℕ × List ℕ)
rows_below made key row [] = (slice_index made 0, row) ∷ []
rows_below made key row (place ∷ below) =
    rows_below made key row below ++ option_map_or (node_rows place (slice_index made (suc (length below)))) (handed_up made key below) []

-- all rows that are set as a key is put in at the end of a path, the root's last
abbrev pub new_rows : List ℕ → ℕ → List ℕ → List Place → List (ℕ × List ℕ)
new_rows made key row [] = []
new_rows made key row (root ∷ below) =
    rows_below made key row below
    ++ option_map_or (root_rows root (slice_index made (suc (length below))) (slice_index made (suc (suc (length below))))) (handed_up made key below) []

-- how many nodes at the end of a path are full, one above the other
abbrev pub full_run : List Place → ℕ
full_run path = suffix_len is_full path

-- How many objects are made: one for the record, one for each node that is cut, and one more for the root.
abbrev pub objects_for : List Place → ℕ
objects_for path = if full_run path == length path then full_run path + 2 else full_run path + 1
