-- What stands on the way to a key is a node, and the entries of a tree are records; and what the calls of a key read.
use Rattle.std.proofs.Common.{◌≡◌, ℕ, zero, suc, ◌^◌, ◌<◌, ◌==◌, true, false, cond, List, [], ◌∷◌, ◌++◌, Option, Some, None, inl, inr, sym, ap, ◌∙◌, subst}
use Rattle.std.specs.Prelude.{MatchOption, nat_eq, flat_map}
use Rattle.std.specs.Map.{lookup}
use Rattle.std.proofs.lemmas.Bool.{false≢true}
use Rattle.erm_model.specs.RowTransaction.{Event, after_all, did_write}
use Rattle.erm_model.specs.Rows.{Rows}
use Rattle.erm_model.proofs.RowCalls.{after_all-append, after_all-OnlyReads}
use Rattle.erm_record.specs.Record.{IsRecord}
use Rattle.erm_node.specs.Node.{Shape, node_of, pairs_of}
use Rattle.erm_node.specs.Sound.{IsSound, levels_of}
use Rattle.erm_node.specs.Tree.{Fan, first_key, IsTree, entries}
use Rattle.erm_node.specs.TreeMap.{record_in}
use Rattle.erm_tree.specs.Change.{AreReadsThen, IsPutOfNew}
use Rattle.erm_tree.specs.Reads.{AnyOfFan, IsMet, IsOnWay}
use Rattle.erm_tree.proofs.Insertion.{Each}
use Rattle.erm_told_limits.proofs.Ran.{AreReading}
use Rattle.erm_told_limits.proofs.Reached.{change_reads_nothing}
use Rattle.erm_causes.proofs.Own.{split_reads}

-- an object's row is a node's
abbrev pub HasNode : Rows → ℕ → Type 0
HasNode rows x = (shape : Shape) × (node_of (rows x) ≡ Some shape)

module _ (rows : Rows) (low high : ℕ) where
  node_in_fan : (levels x : ℕ) → ((oid lo hi : ℕ) → IsTree rows levels 4 oid lo hi → IsMet false rows low high levels oid lo hi x → HasNode rows x) → (ps : List (ℕ × ℕ)) (hi : ℕ)
      → Fan (λ child from to. IsTree rows levels 4 child from to) ps hi → AnyOfFan (λ child from to. IsMet false rows low high levels child from to x) ps hi → HasNode rows x
  node_in_fan levels x each [] hi fan any = absurd any
  node_in_fan levels x each (p ∷ ps) hi fan any = elim any as (λ _. HasNode rows x) [
    | inl here ↦ each p.1 p.0 (first_key ps hi) fan.0 here
    | inr there ↦ node_in_fan levels x each ps hi fan.2 there
  ]

  met_node : (levels least oid lo hi x : ℕ) → IsTree rows levels least oid lo hi → IsMet false rows low high levels oid lo hi x → HasNode rows x
  met_node zero least oid lo hi x tree met = absurd (false≢true met.0)
  met_node (suc levels) least oid lo hi x tree met = elim met.2 as (λ _. HasNode rows x) [
    | inl same ↦ (record { leaf = levels == 0; pairs = pairs_of (rows oid) }, ap (λ (o : ℕ). node_of (rows o)) same ∙ tree.node)
    | inr inside ↦ node_in_fan levels x (λ c f t is so. met_node levels 4 c f t x is so) (pairs_of (rows oid)) hi tree.fan inside
  ]

-- what is on the way to a key is no record
pub way_no_record : ((row : List ℕ) → IsRecord row → node_of row ≡ None) → (rows : Rows) (table key x : ℕ) → IsSound rows → table < 16 → IsOnWay table key rows x → IsRecord (rows x) → ⊥
way_no_record no_node rows table key x sound below on is =
    let (shape, node) = met_node rows key key (levels_of rows table) 0 table 0 (2 ^ 64) x (sound.trees table below) on in
    let none = no_node (rows x) is in
    let no : None ≡ Some shape = sym none ∙ node in cc

module _ (P : ℕ → Type 0) where
  each_append : (es fs : List (ℕ × ℕ)) → Each (λ (e : ℕ × ℕ). P e.1) es → Each (λ (e : ℕ × ℕ). P e.1) fs → Each (λ (e : ℕ × ℕ). P e.1) (es ++ fs)
  each_append [] fs a b = b
  each_append (e ∷ es) fs a b = (a.0, each_append es fs a.1 b)

  each_found : (key x : ℕ) (es : List (ℕ × ℕ)) → Each (λ (e : ℕ × ℕ). P e.1) es → lookup (nat_eq key) es ≡ Some x → P x
  each_found key x [] each is = absurd (cc)
  each_found key x (e ∷ es) each is =
      elim (nat_eq key e.0) as (λ b. cond b (Some e.1) (lookup (nat_eq key) es) ≡ Some x → P x) [
        | true ↦ λ here. let same : e.1 ≡ x = cc in subst P same each.0
        | false ↦ λ there. each_found key x es each.1 there
      ] is

module _ (rows : Rows) where
  records_of_fan : (levels : ℕ) → ((oid lo hi : ℕ) → IsTree rows levels 4 oid lo hi → Each (λ (e : ℕ × ℕ). IsRecord (rows e.1)) (entries rows levels oid lo)) → (ps : List (ℕ × ℕ)) (hi : ℕ)
      → Fan (λ child from to. IsTree rows levels 4 child from to) ps hi → Each (λ (e : ℕ × ℕ). IsRecord (rows e.1)) (flat_map (λ pair. entries rows levels pair.1 pair.0) ps)
  records_of_fan levels each [] hi fan = tt
  records_of_fan levels each (p ∷ ps) hi fan =
      each_append (λ (o : ℕ). IsRecord (rows o)) (entries rows levels p.1 p.0) (flat_map (λ pair. entries rows levels pair.1 pair.0) ps)
      (each p.1 p.0 (first_key ps hi) fan.0) (records_of_fan levels each ps hi fan.2)

  records_of : (levels least oid lo hi : ℕ) → IsTree rows levels least oid lo hi → Each (λ (e : ℕ × ℕ). IsRecord (rows e.1)) (entries rows levels oid lo)
  records_of zero least oid lo hi tree = (tree, tt)
  records_of (suc levels) least oid lo hi tree = records_of_fan levels (λ c f t is. records_of levels 4 c f t is) (pairs_of (rows oid)) hi tree.fan

-- the record of a key is one
pub record_is : (rows : Rows) (table key x : ℕ) → IsSound rows → table < 16 → record_in rows table key ≡ Some x → IsRecord (rows x)
record_is rows table key x sound below is =
    each_found (λ (o : ℕ). IsRecord (rows o)) key x (entries rows (levels_of rows table) table 0) (records_of rows (levels_of rows table) 0 table 0 (2 ^ 64) (sound.trees table below)) is

-- READS.
pub put_reads : (table key : ℕ) (row : List ℕ) (rows : Rows) (events : List Event) (found : Option ℕ)
    → MatchOption found (IsPutOfNew rows table key row events) (λ oid. AreReadsThen (IsOnWay table key rows) (did_write oid row ∷ []) events)
    → (x : ℕ) → AreReading events x → IsOnWay table key rows x
put_reads table key row rows events None put = split_reads (IsOnWay table key rows) _ events put.then_all (change_reads_nothing put.made _)
put_reads table key row rows events (Some oid) put = split_reads (IsOnWay table key rows) (did_write oid row ∷ []) events put (λ x by. by)

-- what reads leave, and then others
pub rows_then : (P : ℕ → Type 0) (rows : Rows) (others events : List Event) → AreReadsThen P others events → after_all events rows ≡ after_all others rows
rows_then P rows others events is = ap (λ (es : List Event). after_all es rows) is.split ∙ after_all-append is.reads others rows ∙ ap (after_all others) (after_all-OnlyReads is.reads is.only rows)
