-- What a look for one key reads: a node of each level of a tree at most, and the key's record.
use Rattle.std.proofs.Common.{ℕ, zero, suc, ◌+◌, ◌^◌, ◌<◌, ◌≤◌, ◌⊎◌, ◌==◌, Bool, true, false, List, [], ◌∷◌, length, eq-eqb, inl, inr, arith}
use Rattle.std.proofs.lemmas.Bool.{cases_lt, false≢true}
use Rattle.erm_model.specs.declared.limits.TheConstants.{OID_LIMIT}
use Rattle.erm_model.specs.Rows.{Rows}
use Rattle.erm_model.specs.RowTransaction.{Event, asked_read}
use Rattle.erm_node.specs.Node.{pairs_of}
use Rattle.erm_node.specs.Sound.{IsSound, levels_of}
use Rattle.erm_node.specs.Tree.{Fan, IsTree, first_key}
use Rattle.erm_node.specs.TreeMap.{record_in}
use Rattle.erm_node.specs.declared.node.TheConstants.{LEAST_PAIRS}
use Rattle.erm_node.proofs.Levels.{inner_levels-limit, levels_of-root}
use Rattle.erm_record.specs.Record.{absent_row, value_row}
use Rattle.erm_tree.specs.Reads.{AnyOfFan, IsMet, IsOnWay, IsSought}
use Rattle.erm_report.specs.declared.answer.Answer.{Answer}
use Rattle.erm_script.specs.declared.script.Command.{Command}
use Rattle.erm_script.specs.declared.script.Command.TheVariants as command
use Rattle.erm_script.specs.Script.{IsInRange}
use Rattle.erm_good_report.specs.Refusals.{reads_of}
use Rattle.erm_lines.specs.Operations.{AsksOf, FrontOf, WholeOf}
use Rattle.erm_told_limits.proofs.Pigeons.{Has, or_left, or_right}
use Rattle.erm_told_limits.proofs.Ran.{AreReading}
use Rattle.erm_told_limits.proofs.Reached.{del_reads, put_reads, reads_are, tidy_reads}

-- all that are so stand in a list of so many at most
pub record AreIn (P : ℕ → Type 0) (most : ℕ) : Type 0 where
  pub all : List ℕ
  pub few : length all ≤ most
  pub has : (x : ℕ) → P x → Has all x

module _ (rows : Rows) (key : ℕ) (r : Bool) where
  abbrev Met : ℕ → ℕ → ℕ → ℕ → ℕ → Type 0
  Met levels x child from to = IsMet r rows key key levels child from to x

  starts_below : (levels x child from to : ℕ) → Met levels x child from to → from ≤ key
  starts_below zero x child from to met = omega (arith, met.3)
  starts_below (suc levels) x child from to met = met.1

  ends_above : (levels x child from to : ℕ) → from < to → Met levels x child from to → key < to
  ends_above zero x child from to less met = omega (arith, less, met.2, met.3)
  ends_above (suc levels) x child from to less met = met.0

  -- where one of some ranges is met, the first of them begins at or below the key
  first_below : (P : ℕ → ℕ → ℕ → Type 0) (levels x : ℕ) (pairs : List (ℕ × ℕ)) (hi : ℕ) → Fan P pairs hi → AnyOfFan (λ child from to. Met levels x child from to) pairs hi → first_key pairs hi ≤ key
  first_below P levels x [] hi fan any = absurd any
  first_below P levels x (pair ∷ pairs) hi fan any = elim any as (λ _. pair.0 ≤ key) [
    | inl here ↦ starts_below levels x pair.1 pair.0 (first_key pairs hi) here
    | inr there ↦ omega (arith, fan.1, first_below P levels x pairs hi fan.2 there)
  ]

  -- so of ranges in order one is met at most
  module _ (levels most : ℕ) where
    abbrev Inside : ℕ → ℕ → ℕ → Type 0
    Inside child from to = IsTree rows levels LEAST_PAIRS child from to

    abbrev MeetsAny : List (ℕ × ℕ) → ℕ → ℕ → Type 0
    MeetsAny pairs hi x = AnyOfFan (λ child from to. Met levels x child from to) pairs hi

    fan_step : (pair : ℕ × ℕ) (pairs : List (ℕ × ℕ)) (hi : ℕ) → Fan Inside (pair ∷ pairs) hi → AreIn (λ x. Met levels x pair.1 pair.0 (first_key pairs hi)) most → AreIn (MeetsAny pairs hi) most
        → (key < first_key pairs hi) ⊎ (first_key pairs hi ≤ key) → AreIn (MeetsAny (pair ∷ pairs) hi) most
    fan_step pair pairs hi fan child rest (inl below) = record {
      all = child.all;
      few = child.few;
      has = λ x any. elim any as (λ _. Has child.all x) [
        | inl here ↦ child.has x here
        | inr there ↦ let late = first_below Inside levels x pairs hi fan.2 there in absurd (omega (arith, below, late))
      ];
    }
    fan_step pair pairs hi fan child rest (inr above) = record {
      all = rest.all;
      few = rest.few;
      has = λ x any. elim any as (λ _. Has rest.all x) [
        | inl here ↦ let high = ends_above levels x pair.1 pair.0 (first_key pairs hi) fan.1 here in absurd (omega (arith, above, high))
        | inr there ↦ rest.has x there
      ];
    }

    fan_few : ((child from to : ℕ) → Inside child from to → AreIn (λ x. Met levels x child from to) most) → (pairs : List (ℕ × ℕ)) (hi : ℕ) → Fan Inside pairs hi → AreIn (MeetsAny pairs hi) most
    fan_few each [] hi fan = record { all = []; few = omega arith; has = λ x any. absurd any }
    fan_few each (pair ∷ pairs) hi fan =
        fan_step pair pairs hi fan (each pair.1 pair.0 (first_key pairs hi) fan.0) (fan_few each pairs hi fan.2) (cases_lt key (first_key pairs hi))

  -- of each level one node, and of the records so many
  tree_few : (records : ℕ) → ((oid from to : ℕ) → AreIn (λ x. Met zero x oid from to) records) → (levels least oid from to : ℕ) → IsTree rows levels least oid from to
      → AreIn (λ x. Met levels x oid from to) (levels + records)
  tree_few records record_few zero least oid from to tree = let some = record_few oid from to in record { all = some.all; few = omega (arith, some.few); has = some.has }
  tree_few records record_few (suc levels) least oid from to tree =
      let inside = fan_few levels (levels + records) (λ c f t part. tree_few records record_few levels LEAST_PAIRS c f t part) (pairs_of (rows oid)) to tree.fan in record {
        all = oid ∷ inside.all;
        few = omega (arith, inside.few);
        has = λ x met. elim met.2 as (λ _. Has (oid ∷ inside.all) x) [
          | inl same ↦ or_left (x == oid) _ (eq-eqb x oid same)
          | inr there ↦ or_right (x == oid) _ (inside.has x there)
        ];
      }

no_record : (rows : Rows) (key oid from to : ℕ) → AreIn (λ x. IsMet false rows key key zero oid from to x) 0
no_record rows key oid from to = record { all = []; few = omega arith; has = λ x met. absurd (false≢true met.0) }

one_record : (rows : Rows) (key oid from to : ℕ) → AreIn (λ x. IsMet true rows key key zero oid from to x) 1
one_record rows key oid from to = record { all = oid ∷ []; few = omega arith; has = λ x met. or_left (x == oid) _ (eq-eqb x oid met.1) }

levels_few : (rows : Rows) (table : ℕ) → levels_of rows table ≤ 12
levels_few rows table = omega (arith, levels_of-root rows table, inner_levels-limit rows 11 table)

module _ (rows : Rows) (sound : IsSound rows) (table key : ℕ) (known : table ≤ 15) where
  way_few : AreIn (λ x. IsOnWay table key rows x) 12
  way_few =
      let some = tree_few rows key false 0 (no_record rows key) (levels_of rows table) 0 table 0 (2 ^ 64) (sound.trees table (omega (arith, known))) in
      record { all = some.all; few = omega (arith, some.few, levels_few rows table); has = some.has }

  sought_few : AreIn (λ x. IsSought table key rows x) 13
  sought_few =
      let some = tree_few rows key true 1 (one_record rows key) (levels_of rows table) 0 table 0 (2 ^ 64) (sound.trees table (omega (arith, known))) in
      record { all = some.all; few = omega (arith, some.few, levels_few rows table); has = some.has }

-- the command seeks one key
abbrev pub SeeksKey : Command → Type 0
SeeksKey (command.Get table key) = Unit {0}
SeeksKey (command.Put table key value) = Unit {0}
SeeksKey (command.Del table key) = Unit {0}
SeeksKey (command.Tidy table key) = Unit {0}
SeeksKey c = ⊥

-- it does, or it may read all that there are
abbrev pub SeeksOrWalks : Command → Type 0
SeeksOrWalks c = SeeksKey c ⊎ (OID_LIMIT ≤ reads_of c)

-- what it reads
abbrev pub IsSoughtBy : Command → Rows → ℕ → Type 0
IsSoughtBy (command.Get table key) rows x = IsSought table key rows x
IsSoughtBy (command.Put table key value) rows x = IsOnWay table key rows x
IsSoughtBy (command.Del table key) rows x = IsOnWay table key rows x
IsSoughtBy (command.Tidy table key) rows x = IsOnWay table key rows x
IsSoughtBy c rows x = ⊥

pub are_sought : (c : Command) (rows : Rows) → IsSound rows → IsInRange c → SeeksKey c → AreIn (λ x. IsSoughtBy c rows x) (reads_of c)
are_sought (command.Get table key) rows sound range seeks = sought_few rows sound table key range.0
are_sought (command.Put table key value) rows sound range seeks = way_few rows sound table key range.0.0
are_sought (command.Del table key) rows sound range seeks = way_few rows sound table key range.0
are_sought (command.Tidy table key) rows sound range seeks = way_few rows sound table key range.0
are_sought c rows sound range seeks = absurd seeks

-- the events of an answered line read these
pub whole_sought : (c : Command) (a : Answer) (rows : Rows) (events : List Event) → SeeksKey c → WholeOf c a rows events → (x : ℕ) → AreReading events x → IsSoughtBy c rows x
whole_sought (command.Get table key) a rows events seeks of x by = reads_are (IsSought table key rows) events of.1 x by
whole_sought (command.Put table key value) a rows events seeks of x by = put_reads rows table key (value_row value) events (record_in rows table key) of x by
whole_sought (command.Del table key) a rows events seeks of x by = del_reads rows table key absent_row events (record_in rows table key) of x by
whole_sought (command.Tidy table key) a rows events seeks of x by = tidy_reads rows table key events (record_in rows table key) of x by
whole_sought c a rows events seeks of x by = absurd seeks

-- so do those of one that was cut off, and what it asked to read
pub front_sought : (c : Command) (rows : Rows) (events : List Event) → SeeksKey c → FrontOf c rows events → (x : ℕ) → AreReading events x → IsSoughtBy c rows x
front_sought (command.Get table key) rows events seeks of x by = reads_are (IsSought table key rows) events of.1 x by
front_sought (command.Put table key value) rows events seeks of x by = reads_are (IsOnWay table key rows) events of.0 x by
front_sought (command.Del table key) rows events seeks of x by = reads_are (IsOnWay table key rows) events of.1 x by
front_sought (command.Tidy table key) rows events seeks of x by = reads_are (IsOnWay table key rows) events of.1 x by
front_sought c rows events seeks of x by = absurd seeks

pub asks_sought : (c : Command) (rows : Rows) (events : List Event) (x : ℕ) → SeeksKey c → AsksOf c events rows (asked_read x) → IsSoughtBy c rows x
asks_sought (command.Get table key) rows events x seeks asks = asks
asks_sought (command.Put table key value) rows events x seeks asks = asks.1
asks_sought (command.Del table key) rows events x seeks asks = asks
asks_sought (command.Tidy table key) rows events x seeks asks = asks
asks_sought c rows events x seeks asks = absurd seeks

-- a line of an operation does the one or the other
pub front_kind : (c : Command) (rows : Rows) (events : List Event) → FrontOf c rows events → SeeksOrWalks c
front_kind (command.Get table key) rows events of = inl tt
front_kind (command.Put table key value) rows events of = inl tt
front_kind (command.Del table key) rows events of = inl tt
front_kind (command.Tidy table key) rows events of = inl tt
front_kind (command.Next table from) rows events of = inr (omega arith)
front_kind (command.Scan table low high) rows events of = inr (omega arith)
front_kind c rows events of = absurd of

pub whole_kind : (c : Command) (a : Answer) (rows : Rows) (events : List Event) → WholeOf c a rows events → SeeksOrWalks c
whole_kind (command.Get table key) a rows events of = inl tt
whole_kind (command.Put table key value) a rows events of = inl tt
whole_kind (command.Del table key) a rows events of = inl tt
whole_kind (command.Tidy table key) a rows events of = inl tt
whole_kind (command.Next table from) a rows events of = inr (omega arith)
whole_kind (command.Scan table low high) a rows events of = inr (omega arith)
whole_kind c a rows events of = absurd of
