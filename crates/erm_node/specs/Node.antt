-- Nodes of trees, and the rows that spell them. Each node has one row, and reading a row is strict: what isn't the row of a
-- node reads as none. The format is this project's own.
use Rattle.std.specs.Prelude.{ℕ, ◌-◌, ◌^◌, ◌&&◌, nat_eq, nat_lt, nat_le, if◌then◌else◌, Bool, true, false, not, List, [], ◌∷◌, ◌++◌, map, length, take, drop, replicate, zip, slice_index, Option, Some, None, option_and_then}
use Rattle.std.specs.List.{list_all}
use Rattle.std.specs.Option.{option_map_or}
use Rattle.std.specs.Cmp.Lexicographic.{pointwise}
use Rattle.erm_node.specs.declared.node.TheConstants.{LEAF, INNER, NODE_PAIRS}

-- what a node says: whether it is a leaf, and its pairs of a key and an object, which is the key's record or a child
pub record Shape : Type 0 where
  pub leaf : Bool
  pub pairs : List (ℕ × ℕ)

-- the keys of pairs
abbrev pub keys_of : List (ℕ × ℕ) → List ℕ
keys_of pairs = map (λ pair. pair.0) pairs

-- the objects of pairs
abbrev pub oids_of : List (ℕ × ℕ) → List ℕ
oids_of pairs = map (λ pair. pair.1) pairs

-- all keys are above this one
abbrev pub starts_above : ℕ → List (ℕ × ℕ) → Bool
starts_above key [] = true
starts_above key (pair ∷ pairs) = nat_lt key pair.0

-- the keys ascend strictly
abbrev pub ascends : List (ℕ × ℕ) → Bool
ascends [] = true
ascends (pair ∷ pairs) = starts_above pair.0 pairs && ascends pairs

-- how many pairs a node has at least: an inner one has two
abbrev pub fewest_pairs : Bool → ℕ
fewest_pairs leaf = if leaf then 0 else 2

-- the objects have numbers of 32 bits
abbrev pub have_32_bits : List (ℕ × ℕ) → Bool
have_32_bits pairs = list_all (λ pair. nat_lt pair.1 (2 ^ 32)) pairs

-- the rules of a node: its number of pairs, ascending keys, and numbers of 32 bits
abbrev pub is_node : Shape → Bool
is_node shape =
    nat_le (fewest_pairs shape.leaf) (length shape.pairs) && nat_le (length shape.pairs) NODE_PAIRS
    && ascends shape.pairs && have_32_bits shape.pairs

-- the number of a node's kind. The leaf without pairs has that of the row of zeros.
abbrev pub kind_of : Bool → List (ℕ × ℕ) → ℕ
kind_of true [] = 0
kind_of true (pair ∷ pairs) = LEAF
kind_of false pairs = INNER

-- words, and zeros in the places that are left
abbrev pub filled : List ℕ → List ℕ
filled words = words ++ replicate (NODE_PAIRS - length words) 0

-- the row of a node: its kind, how many pairs it has, the keys, and the objects
unfoldable pub node_row : Shape → List ℕ
node_row shape =
    kind_of shape.leaf shape.pairs ∷ length shape.pairs ∷ (filled (keys_of shape.pairs) ++ filled (oids_of shape.pairs))

-- what the places of a row say
abbrev pub shape_in : List ℕ → Shape
shape_in row = record {
  leaf = not (nat_eq (slice_index row 0) INNER);
  pairs = zip (take (slice_index row 1) (take NODE_PAIRS (drop 2 row))) (drop 9 row);
}

-- the node whose row this is: none where what its places say is no node, or spells another row
unfoldable pub node_of : List ℕ → Option Shape
node_of row = if is_node (shape_in row) && pointwise nat_eq (node_row (shape_in row)) row then Some (shape_in row) else None

-- the pairs of a row: none where it is no node
unfoldable pub pairs_of : List ℕ → List (ℕ × ℕ)
pairs_of row = option_map_or (λ shape. shape.pairs) (node_of row) []

-- the first child that a node has: a leaf has none
abbrev pub child_of : Bool → List (ℕ × ℕ) → Option ℕ
child_of leaf [] = None
child_of leaf (pair ∷ pairs) = if leaf then None else Some pair.1

-- the first child of the inner node whose row this is: none where it is that of no inner node
unfoldable pub first_child : List ℕ → Option ℕ
first_child row = option_and_then (λ shape. child_of shape.leaf shape.pairs) (node_of row)
