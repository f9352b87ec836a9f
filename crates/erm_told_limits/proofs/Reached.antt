-- What a line reads is reached by the trees of the rows that it sees.
use Rattle.std.proofs.Common.{ℕ, zero, suc, ◌^◌, ◌<◌, ◌≤◌, ◌⊎◌, List, [], ◌∷◌, ◌++◌, map, Option, Some, None, sym, ap, subst, inl, inr, arith}
use Rattle.std.specs.Prelude.{MatchOption}
use Rattle.std.proofs.lemmas.Bool.{cases_eq}
use Rattle.erm_model.specs.declared.limits.TheConstants.{TABLES}
use Rattle.erm_model.specs.declared.operation.Reply.TheVariants as reply
use Rattle.erm_model.specs.Rows.{Rows}
use Rattle.erm_model.specs.RowTransaction.{Event, asked_read, did_claim, did_make, did_read, did_write}
use Rattle.erm_node.specs.Sound.{levels_of, reached, reached_below}
use Rattle.erm_node.specs.Tree.{times}
use Rattle.erm_node.specs.TreeMap.{record_in}
use Rattle.erm_record.specs.Record.{absent_row, value_row}
use Rattle.erm_script.specs.declared.script.Command.{Command}
use Rattle.erm_script.specs.declared.script.Command.TheVariants as command
use Rattle.erm_script.specs.Script.{IsInRange}
use Rattle.erm_report.specs.declared.answer.Answer.{Answer}
use Rattle.erm_report.specs.declared.answer.Answer.TheVariants as answer
use Rattle.erm_tree.specs.Calls.{ReadsAre}
use Rattle.erm_tree.specs.Change.{AreReadsThen, IsPutOfNew, makes_claims_writes}
use Rattle.erm_tree.specs.Reads.{IsMetIn, IsOnWay}
use Rattle.erm_tree.specs.Tables.{AreReached, reached_by}
use Rattle.erm_tree.specs.Walk.{IsMetByNext, last_sought}
use Rattle.erm_lines.specs.Operations.{AsksOf, FrontOf, IsMetByScan, WholeOf}
use Rattle.erm_told_limits.proofs.Ran.{AreReading}

-- what the tree's laws say of what its calls read
pub record Ways : Type 0 where
  pub way : (table key : ℕ) → AreReached (IsOnWay table key) table
  pub met : (table low high : ℕ) → AreReached (λ rows x. IsMetIn rows table low high x) table
  pub next : (table from : ℕ) → AreReached (IsMetByNext table from) table

-- what a table's tree reaches is reached
reached_among : (rows : Rows) (n table x : ℕ) → table < n → times rows (levels_of rows table) table x ≤ reached_below rows n x
reached_among rows zero table x less = absurd (omega arith)
reached_among rows (suc n) table x less = elim (cases_eq table n) [
  | inl is ↦ omega (arith, ap (λ (k : ℕ). times rows (levels_of rows k) k x) is)
  | inr another ↦ omega (arith, reached_among rows n table x (omega arith))
]

pub reached_all : (rows : Rows) (table x : ℕ) → table < TABLES → 0 < reached_by rows table x → 0 < reached rows x
unfolding reached
reached_all rows table x less some = omega (arith, reached_among rows TABLES table x less, some)

-- reads of some objects
pub reads_are : (P : ℕ → Type 0) (events : List Event) → ReadsAre P events → (x : ℕ) → AreReading events x → P x
reads_are P [] of x by = absurd by
reads_are P (did_read oid row ∷ events) of x by = elim by as (λ _. P x) [ inl here ↦ subst P (sym here) of.0 | inr later ↦ reads_are P events of.1 x later ]
reads_are P (did_claim oid ∷ events) of x by = reads_are P events of x by
reads_are P (did_write oid row ∷ events) of x by = reads_are P events of x by
reads_are P (did_make oid ∷ events) of x by = reads_are P events of x by

reading_parts : (es fs : List Event) (x : ℕ) → AreReading (es ++ fs) x → AreReading es x ⊎ AreReading fs x
reading_parts [] fs x by = inr by
reading_parts (did_read oid row ∷ es) fs x by = elim by [
  | inl here ↦ inl (inl here)
  | inr later ↦ elim (reading_parts es fs x later) [ inl first ↦ inl (inr first) | inr second ↦ inr second ]
]
reading_parts (did_claim oid ∷ es) fs x by = reading_parts es fs x by
reading_parts (did_write oid row ∷ es) fs x by = reading_parts es fs x by
reading_parts (did_make oid ∷ es) fs x by = reading_parts es fs x by

makes_read_nothing : (made : List ℕ) (x : ℕ) → AreReading (map did_make made) x → ⊥
makes_read_nothing [] x by = by
makes_read_nothing (oid ∷ made) x by = makes_read_nothing made x by

claims_read_nothing : (rows : List (ℕ × List ℕ)) (x : ℕ) → AreReading (map (λ (entry : ℕ × List ℕ). did_claim entry.0) rows) x → ⊥
claims_read_nothing [] x by = by
claims_read_nothing (entry ∷ rows) x by = claims_read_nothing rows x by

writes_read_nothing : (rows : List (ℕ × List ℕ)) (x : ℕ) → AreReading (map (λ (entry : ℕ × List ℕ). did_write entry.0 entry.1) rows) x → ⊥
writes_read_nothing [] x by = by
writes_read_nothing (entry ∷ rows) x by = writes_read_nothing rows x by

pub change_reads_nothing : (made : List ℕ) (rows : List (ℕ × List ℕ)) (x : ℕ) → AreReading (makes_claims_writes made rows) x → ⊥
change_reads_nothing made rows x by =
    let first = map (λ (entry : ℕ × List ℕ). did_claim entry.0) rows in
    let last = map (λ (entry : ℕ × List ℕ). did_write entry.0 entry.1) rows in
    elim (reading_parts (map did_make made) (first ++ last) x by) as (λ _. ⊥) [
      | inl making ↦ makes_read_nothing made x making
      | inr changing ↦ elim (reading_parts first last x changing) as (λ _. ⊥) [ inl claiming ↦ claims_read_nothing rows x claiming | inr setting ↦ writes_read_nothing rows x setting ]
    ]

then_reads : (P : ℕ → Type 0) (others events : List Event) → AreReadsThen P others events → (x : ℕ) → (AreReading others x → ⊥) → AreReading events x → P x
then_reads P others events is x none by =
    elim (reading_parts is.reads others x (subst (λ (es : List Event). AreReading es x) is.split by)) as (λ _. P x) [
      | inl first ↦ reads_are P is.reads is.of x first
      | inr second ↦ absurd (none second)
    ]

pub put_reads : (rows : Rows) (table key : ℕ) (row : List ℕ) (events : List Event) (found : Option ℕ)
    → MatchOption found (IsPutOfNew rows table key row events) (λ oid. AreReadsThen (IsOnWay table key rows) (did_write oid row ∷ []) events) → (x : ℕ) → AreReading events x → IsOnWay table key rows x
put_reads rows table key row events None put x by = then_reads (IsOnWay table key rows) _ events put.then_all x (change_reads_nothing put.made _ x) by
put_reads rows table key row events (Some oid) put x by = then_reads (IsOnWay table key rows) (did_write oid row ∷ []) events put x (λ none. none) by

pub del_reads : (rows : Rows) (table key : ℕ) (row : List ℕ) (events : List Event) (found : Option ℕ)
    → MatchOption found (AreReadsThen (IsOnWay table key rows) [] events) (λ oid. AreReadsThen (IsOnWay table key rows) (did_write oid row ∷ []) events) → (x : ℕ) → AreReading events x → IsOnWay table key rows x
del_reads rows table key row events None del x by = then_reads (IsOnWay table key rows) [] events del x (λ none. none) by
del_reads rows table key row events (Some oid) del x by = then_reads (IsOnWay table key rows) (did_write oid row ∷ []) events del x (λ none. none) by

pub tidy_reads : (rows : Rows) (table key : ℕ) (events : List Event) (found : Option ℕ)
    → MatchOption found (AreReadsThen (IsOnWay table key rows) [] events) (λ oid. AreReadsThen (IsOnWay table key rows) (did_claim oid ∷ []) events) → (x : ℕ) → AreReading events x → IsOnWay table key rows x
tidy_reads rows table key events None tidy x by = then_reads (IsOnWay table key rows) [] events tidy x (λ none. none) by
tidy_reads rows table key events (Some oid) tidy x by = then_reads (IsOnWay table key rows) (did_claim oid ∷ []) events tidy x (λ none. none) by

module _ (ways : Ways) where
  on_way : (rows : Rows) (table key x : ℕ) → table ≤ 15 → IsOnWay table key rows x → 0 < reached rows x
  on_way rows table key x less on = reached_all rows table x (omega (arith, less)) (ways.way table key rows x on)

  on_met : (rows : Rows) (table low high x : ℕ) → table ≤ 15 → IsMetIn rows table low high x → 0 < reached rows x
  on_met rows table low high x less met = reached_all rows table x (omega (arith, less)) (ways.met table low high rows x met)

  on_next : (rows : Rows) (table from x : ℕ) → table ≤ 15 → IsMetByNext table from rows x → 0 < reached rows x
  on_next rows table from x less met = reached_all rows table x (omega (arith, less)) (ways.next table from rows x met)

  next_reads : (table from : ℕ) (a : Answer) (rows : Rows) (events : List Event) → table ≤ 15 → WholeOf (command.Next table from) a rows events → (x : ℕ) → AreReading events x → 0 < reached rows x
  next_reads table from (answer.Replied (reply.Pair found)) rows events less of x by =
      on_met rows table from (last_sought (2 ^ 64) found) x less (reads_are (λ y. IsMetIn rows table from (last_sought (2 ^ 64) found) y) events of.1 x by)
  next_reads table from a rows events less of x by = absurd of

  scan_reads : (table low high : ℕ) (rows : Rows) (events : List Event) → table ≤ 15 → ReadsAre (IsMetByScan table low high rows) events → (x : ℕ) → AreReading events x → 0 < reached rows x
  scan_reads table low high rows events less of x by =
      let met = reads_are (IsMetByScan table low high rows) events of x by in
      on_met rows table low (last_sought (2 ^ 64) met.0) x less met.2

  -- of an answered line
  pub whole_reads : (c : Command) (a : Answer) (rows : Rows) (events : List Event) → IsInRange c → WholeOf c a rows events → (x : ℕ) → AreReading events x → 0 < reached rows x
  whole_reads (command.Get table key) a rows events range of x by = on_met rows table key key x range.0 (reads_are (λ y. IsMetIn rows table key key y) events of.1 x by)
  whole_reads (command.Put table key value) a rows events range of x by = on_way rows table key x range.0.0 (put_reads rows table key (value_row value) events (record_in rows table key) of x by)
  whole_reads (command.Del table key) a rows events range of x by = on_way rows table key x range.0 (del_reads rows table key absent_row events (record_in rows table key) of x by)
  whole_reads (command.Next table from) a rows events range of x by = next_reads table from a rows events range.0 of x by
  whole_reads (command.Scan table low high) a rows events range of x by = scan_reads table low high rows events range.0.0 of.1 x by
  whole_reads (command.Tidy table key) a rows events range of x by = on_way rows table key x range.0 (tidy_reads rows table key events (record_in rows table key) of x by)
  whole_reads c a rows events range of x by = absurd of

  -- of one that was cut off
  pub front_reads : (c : Command) (rows : Rows) (events : List Event) → IsInRange c → FrontOf c rows events → (x : ℕ) → AreReading events x → 0 < reached rows x
  front_reads (command.Get table key) rows events range of x by = on_met rows table key key x range.0 (reads_are (λ y. IsMetIn rows table key key y) events of.1 x by)
  front_reads (command.Put table key value) rows events range of x by = on_way rows table key x range.0.0 (reads_are (IsOnWay table key rows) events of.0 x by)
  front_reads (command.Del table key) rows events range of x by = on_way rows table key x range.0 (reads_are (IsOnWay table key rows) events of.1 x by)
  front_reads (command.Next table from) rows events range of x by = on_next rows table from x range.0 (reads_are (IsMetByNext table from rows) events of.1 x by)
  front_reads (command.Scan table low high) rows events range of x by = scan_reads table low high rows events range.0.0 of.1 x by
  front_reads (command.Tidy table key) rows events range of x by = on_way rows table key x range.0 (reads_are (IsOnWay table key rows) events of.1 x by)
  front_reads c rows events range of x by = absurd of

  -- and what it asked to read
  pub asks_reached : (c : Command) (rows : Rows) (events : List Event) (x : ℕ) → IsInRange c → AsksOf c events rows (asked_read x) → 0 < reached rows x
  asks_reached (command.Get table key) rows events x range asks = on_met rows table key key x range.0 asks
  asks_reached (command.Put table key value) rows events x range asks = on_way rows table key x range.0.0 asks.1
  asks_reached (command.Del table key) rows events x range asks = on_way rows table key x range.0 asks
  asks_reached (command.Next table from) rows events x range asks = on_next rows table from x range.0 asks
  asks_reached (command.Scan table low high) rows events x range asks = on_met rows table low (last_sought (2 ^ 64) asks.0) x range.0.0 asks.2
  asks_reached (command.Tidy table key) rows events x range asks = on_way rows table key x range.0 asks
  asks_reached c rows events x range asks = absurd asks
