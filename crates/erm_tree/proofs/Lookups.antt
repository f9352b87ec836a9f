-- What look-ups of a key saw, as facts of the database map.
use Rattle.std.proofs.Common.{◌≡◌, ℕ, ◌<◌, List, Option, Some, None, sym, ap, ◌∙◌}
use Rattle.std.specs.Prelude.{option_and_then}
use Rattle.erm_model.specs.Database.{value_at}
use Rattle.erm_model.specs.Rows.{Rows}
use Rattle.erm_model.specs.RowTransaction.{did_read, Face, SameLaw, Does}
use Rattle.erm_record.specs.Record.{record_value}
use Rattle.erm_node.specs.Sound.{IsSound, sound_law}
use Rattle.erm_node.specs.TreeMap.{map_of_rows, record_in, value_in}
use Rattle.erm_tree.specs.Calls.{SawIn}
use Rattle.erm_tree.specs.Reads.{IsOnWay, IsSought}
use Rattle.erm_tree.specs.Walk.{IsRecordFor}
use Rattle.erm_tree.proofs.Calls.{SawIn-then_read, SawIn-weaker}
use Rattle.erm_tree.proofs.Meetings.{IsMetIn-node}

-- the value of a record
value_in-record : (rows : Rows) (table key : ℕ) (found : Option ℕ) → found ≡ record_in rows table key → value_in rows table key ≡ option_and_then (λ oid. record_value (rows oid)) found
value_in-record rows table key found is = ap (option_and_then (λ oid. record_value (rows oid))) (sym is)

module _ {S : Type 0} (face : Face S) (goes_on : (a b c : S) → face.follows a b → face.follows b c → face.follows a c) (law : SameLaw face.law sound_law) (table key : ℕ) where
  -- the nodes on the way to a key are among what is sought
  pub SawIn-sought : (s t : S) (fact : Rows → Type 0) → SawIn face (IsOnWay table key) s t fact → SawIn face (IsSought table key) s t fact
  SawIn-sought s t fact seen =
      SawIn-weaker face goes_on (IsOnWay table key) (IsSought table key) s t fact fact (λ array meets is. is) (λ array meets is x on. IsMetIn-node array table key key x on) seen

  -- the record of a key
  pub SawIn-record : (s t : S) (found : Option ℕ) → SawIn face (IsOnWay table key) s t (λ rows. IsRecordFor rows table key found)
      → SawIn face (IsOnWay table key) s t (λ rows. found ≡ record_in rows table key)
  SawIn-record s t found seen =
      SawIn-weaker face goes_on (IsOnWay table key) (IsOnWay table key) s t (λ rows. IsRecordFor rows table key found) (λ rows. found ≡ record_in rows table key)
      (λ array meets is. is.is) (λ array meets is x on. on) seen

  module _ (values : (rows : Rows) (t k : ℕ) → IsSound rows → t < 16 → value_at (map_of_rows rows) t k ≡ value_in rows t k) where
    -- a key without an entry has no value
    pub SawIn-no_value : (s t : S) → table < 16 → SawIn face (IsOnWay table key) s t (λ rows. IsRecordFor rows table key None)
        → SawIn face (IsSought table key) s t (λ rows. let none : Option (List ℕ) = None in none ≡ value_at (map_of_rows rows) table key)
    SawIn-no_value s t below seen =
        SawIn-weaker face goes_on (IsOnWay table key) (IsSought table key) s t (λ rows. IsRecordFor rows table key None) (λ rows. let none : Option (List ℕ) = None in none ≡ value_at (map_of_rows rows) table key)
        (λ array meets is. sym (values array table key ((law.meets array).0 meets) below ∙ value_in-record array table key None is.is)) (λ array meets is x on. IsMetIn-node array table key key x on) seen

    -- a key has the value of its record
    pub SawIn-value : (s t u : S) (oid : ℕ) (row : List ℕ) → table < 16 → SawIn face (IsOnWay table key) s t (λ rows. IsRecordFor rows table key (Some oid)) → Does face t (did_read oid row) u
        → SawIn face (IsSought table key) s u (λ rows. record_value row ≡ value_at (map_of_rows rows) table key)
    SawIn-value s t u oid row below seen does =
        let found : Rows → Type 0 = λ rows. IsRecordFor rows table key (Some oid) in
        SawIn-weaker face goes_on (IsSought table key) (IsSought table key) s u (λ rows. found rows × (rows oid ≡ row)) (λ rows. record_value row ≡ value_at (map_of_rows rows) table key)
        (λ array meets is. sym (values array table key ((law.meets array).0 meets) below ∙ value_in-record array table key (Some oid) is.0.is ∙ ap record_value is.1)) (λ array meets is x on. on)
        (SawIn-then_read face goes_on (IsSought table key) s t u found oid row (SawIn-sought s t found seen) does (λ array meets is. is.there.2))
