-- Transactions that keep a law of rows: whatever rows they may have begun on. This project's own.
use Rattle.std.specs.Prelude.{◌≡◌, ℕ, ◌+◌, ◌<◌, ◌≤◌, ◌↔◌, ◌==◌, List, map, count_by}
use Rattle.erm_model.specs.declared.history.TransactionRecord.{TransactionRecord}
use Rattle.erm_model.specs.declared.history.VersionRead.{VersionRead}
use Rattle.erm_model.specs.declared.history.VersionWritten.{VersionWritten}
use Rattle.erm_model.specs.History.{after_writes}
use Rattle.erm_model.specs.Member.{◌∈◌}
use Rattle.erm_model.specs.RowTransaction.{Law, Face}
use Rattle.erm_model.specs.Rows.{Rows}

-- how often an object stands among those that a transaction made
abbrev pub times_made : List ℕ → ℕ → ℕ
times_made made x = count_by (λ oid. oid == x) made

-- An array of rows fits a record: it meets the law, agrees with what the transaction read and with the row that each of its
-- claims found, and reaches nothing that it made. So it may have begun on it.
pub record Fits (law : Law) (t : TransactionRecord) (rows : Rows) : Type 0 where
  pub meets : law.meets rows
  pub reads : (r : VersionRead) → r ∈ t.reads → rows r.oid ≡ r.row
  pub claims : (w : VersionWritten) → w ∈ t.writes → rows w.oid ≡ w.base
  pub unreached : (x : ℕ) → 0 < times_made t.made x → law.reach rows x ≡ 0

-- A record is lawful: of every array that fits it, the rows after its writes meet the law, and reach besides only objects that it
-- made.
pub record IsLawfulRecord (law : Law) (t : TransactionRecord) : Type 0 where
  pub meets : (rows : Rows) → Fits law t rows → law.meets (after_writes t.writes rows)
  pub reach : (rows : Rows) (x : ℕ) → Fits law t rows → law.reach (after_writes t.writes rows) x ≤ law.reach rows x + times_made t.made x

-- An array of rows agrees with lists: of rows that were read and of rows that claims found, each with its object, and of objects
-- that were made, none of which it reaches.
pub record AgreesWith (law : Law) (read found : List (ℕ × List ℕ)) (made : List ℕ) (rows : Rows) : Type 0 where
  pub reads : (r : ℕ × List ℕ) → r ∈ read → rows r.0 ≡ r.1
  pub claims : (w : ℕ × List ℕ) → w ∈ found → rows w.0 ≡ w.1
  pub unreached : (x : ℕ) → 0 < times_made made x → law.reach rows x ≡ 0

-- the rows that a record says were read, each with its object
abbrev pub rows_read : TransactionRecord → List (ℕ × List ℕ)
rows_read t = map (λ r. (r.oid, r.row)) t.reads

-- the rows that a record says its claims found, each with its object
abbrev pub rows_found : TransactionRecord → List (ℕ × List ℕ)
rows_found t = map (λ w. (w.oid, w.base)) t.writes

-- an array that meets the law and agrees with a record's lists
abbrev pub AgreesWithRecord : Law → TransactionRecord → Rows → Type 0
AgreesWithRecord law t rows = law.meets rows × AgreesWith law (rows_read t) (rows_found t) t.made rows

-- A record tells of a transaction as it is now: what its face says of it is what the record says.
pub record FitsAs {S : Type 0} (face : Face S) (s : S) (t : TransactionRecord) : Type 0 where
  -- of the arrays that meet the law it may have begun on just those that fit the record
  pub fits : (rows : Rows) → face.law.meets rows → face.fits s rows ↔ Fits face.law t rows
  -- what it sees, where it began on one, are the rows after the record's writes
  pub rows : (rows : Rows) → face.law.meets rows → face.fits s rows → face.rows s rows ≡ after_writes t.writes rows
  -- it made what the record says
  pub made : (x : ℕ) → face.made s x ≡ times_made t.made x
