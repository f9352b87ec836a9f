-- The events of a line are of its table: what they read and claim is reached by its tree, or made by them, and they change that tree alone.
use Rattle.std.proofs.Common.{◌≡◌, ℕ, zero, suc, ◌+◌, ◌^◌, ◌<◌, ◌⊎◌, true, List, [], ◌∷◌, ◌++◌, Option, Some, None, append-nil, inl, inr, refl, sym, ap, ◌∙◌, subst, arith}
use Rattle.std.specs.Prelude.{MatchOption}
use Rattle.std.proofs.lemmas.Bool.{cases_eq}
use Rattle.erm_model.specs.declared.limits.TheConstants.{TABLES}
use Rattle.erm_model.specs.declared.operation.Reply.TheVariants as reply
use Rattle.erm_model.specs.Rows.{Rows}
use Rattle.erm_model.specs.RowTransaction.{Agrees, Asked, Event, KeepsLaw, OnlyReads, WritesNothing, after_all, asked_claim, asked_make, asked_read, did_claim, did_make, did_read, did_write, made_by_all}
use Rattle.erm_model.proofs.RowCalls.{after_all-append, after_all-OnlyReads, after_all-WritesNothing}
use Rattle.erm_node.specs.Sound.{IsSound, sound_law}
use Rattle.erm_node.specs.TreeMap.{record_in}
use Rattle.erm_record.specs.Record.{absent_row, value_row}
use Rattle.erm_tree.specs.Calls.{AsksReads, ReadsAre}
use Rattle.erm_tree.specs.Change.{AreReadsThen, IsDel, IsPut, IsPutOfNew}
use Rattle.erm_tree.specs.Reads.{IsMetIn, IsOnWay, IsSought}
use Rattle.erm_tree.specs.Tables.{AreClaiming, AreReached, DelsAskOwn, DelsClaimOwn, IsOwn, IsOwnAsked, KeepsTables, ObjectsHaveOneTable, PutsAskOwn, PutsClaimOwn, TablesStandApart, reached_by}
use Rattle.erm_tree.specs.Walk.{IsMetByNext, last_sought}
use Rattle.erm_report.specs.declared.answer.Answer.{Answer}
use Rattle.erm_report.specs.declared.answer.Answer.TheVariants as answer
use Rattle.erm_script.specs.declared.script.Command.{Command}
use Rattle.erm_script.specs.declared.script.Command.TheVariants as command
use Rattle.erm_script.specs.Script.{IsInRange}
use Rattle.erm_good_report.specs.Transactions.{is_writer, table_of}
use Rattle.erm_lines.specs.Operations.{AsksOf, FrontOf, IsMetByScan, ReadsOnly, WholeOf}
use Rattle.erm_told_limits.proofs.Ran.{AreReading}
use Rattle.erm_told_limits.proofs.Reached.{change_reads_nothing, reads_are}

-- What the tree's laws say of its calls.
pub record TreeLaws : Type 0 where
  pub apart : TablesStandApart
  pub one : ObjectsHaveOneTable
  pub way : (table key : ℕ) → AreReached (IsOnWay table key) table
  pub met : (table low high : ℕ) → AreReached (λ rows x. IsMetIn rows table low high x) table
  pub next : (table from : ℕ) → AreReached (IsMetByNext table from) table
  pub put : PutsClaimOwn
  pub put_asks : PutsAskOwn
  pub del : DelsClaimOwn
  pub del_asks : DelsAskOwn

-- events of one table, on these rows
pub record StaysIn (table : ℕ) (rows : Rows) (events : List Event) : Type 0 where
  pub reads : (x : ℕ) → AreReading events x → 0 < reached_by rows table x
  pub claims : (x : ℕ) → AreClaiming events x → IsOwn rows table events x
  pub after : (other x : ℕ) → other < TABLES → 0 < reached_by (after_all events rows) other x
      → (0 < reached_by rows other x) ⊎ ((other ≡ table) × (0 < made_by_all events x))

-- reads claim nothing
pub no_claims : (events : List Event) → OnlyReads events → (x : ℕ) → AreClaiming events x → ⊥
no_claims [] only x by = by
no_claims (did_read oid row ∷ events) only x by = elim by as (λ _. ⊥) [ inl none ↦ none | inr later ↦ no_claims events only x later ]
no_claims (did_claim oid ∷ events) only x by = only
no_claims (did_write oid row ∷ events) only x by = only
no_claims (did_make oid ∷ events) only x by = only

-- and claims after reads are those of the others
pub claims_then : (reads others : List Event) → OnlyReads reads → (x : ℕ) → AreClaiming (reads ++ others) x → AreClaiming others x
claims_then [] others only x by = by
claims_then (did_read oid row ∷ reads) others only x by = elim by as (λ _. AreClaiming others x) [ inl none ↦ absurd none | inr later ↦ claims_then reads others only x later ]
claims_then (did_claim oid ∷ reads) others only x by = absurd only
claims_then (did_write oid row ∷ reads) others only x by = absurd only
claims_then (did_make oid ∷ reads) others only x by = absurd only

-- reads before others that read nothing
reads_then : (P : ℕ → Type 0) (reads others : List Event) → ReadsAre P reads → ((x : ℕ) → AreReading others x → ⊥) → (x : ℕ) → AreReading (reads ++ others) x → P x
reads_then P [] others of none x by = absurd (none x by)
reads_then P (did_read oid row ∷ reads) others of none x by = elim by as (λ _. P x) [
  | inl here ↦ subst P (sym here) of.0
  | inr later ↦ reads_then P reads others of.1 none x later
]
reads_then P (did_claim oid ∷ reads) others of none x by = reads_then P reads others of none x by
reads_then P (did_write oid row ∷ reads) others of none x by = reads_then P reads others of none x by
reads_then P (did_make oid ∷ reads) others of none x by = reads_then P reads others of none x by

-- reads of these objects, and then others that read nothing
pub split_reads : (P : ℕ → Type 0) (others events : List Event) → AreReadsThen P others events → ((x : ℕ) → AreReading others x → ⊥) → (x : ℕ) → AreReading events x → P x
split_reads P others events is none x by = reads_then P is.reads others is.of none x (subst (λ (es : List Event). AreReading es x) is.split by)

pub split_claims : (P : ℕ → Type 0) (others events : List Event) → AreReadsThen P others events → (x : ℕ) → AreClaiming events x → AreClaiming others x
split_claims P others events is x by = claims_then is.reads others is.only x (subst (λ (es : List Event). AreClaiming es x) is.split by)

module _ (laws : TreeLaws) where
  -- an unchanged array
  unchanged : (table : ℕ) (rows : Rows) (events : List Event) → after_all events rows ≡ rows → (other x : ℕ) → other < TABLES → 0 < reached_by (after_all events rows) other x
      → (0 < reached_by rows other x) ⊎ ((other ≡ table) × (0 < made_by_all events x))
  unchanged table rows events same other x below some = inl (subst (λ (at : Rows). 0 < reached_by at other x) same some)

  -- one whose tables stand apart
  pub apart_after : (table : ℕ) (rows : Rows) (events : List Event) → KeepsTables rows table events → (other x : ℕ) → other < TABLES → 0 < reached_by (after_all events rows) other x
      → (0 < reached_by rows other x) ⊎ ((other ≡ table) × (0 < made_by_all events x))
  apart_after table rows events keeps other x below some = elim (cases_eq other table) as (λ _. (0 < reached_by rows other x) ⊎ ((other ≡ table) × (0 < made_by_all events x))) [
    | inl is ↦ own is (zero_or_more (made_by_all events x))
    | inr another ↦ inl (omega (arith, some, (keeps.others other below another).reached x))
  ]
    where
      zero_or_more : (n : ℕ) → (n ≡ 0) ⊎ (0 < n)
      zero_or_more zero = inl refl
      zero_or_more (suc n) = inr (omega arith)

      own : other ≡ table → (made_by_all events x ≡ 0) ⊎ (0 < made_by_all events x) → (0 < reached_by rows other x) ⊎ ((other ≡ table) × (0 < made_by_all events x))
      own is (inl none) = inl (omega (arith, none, keeps.grows x, ap (λ (k : ℕ). reached_by rows k x) is, ap (λ (k : ℕ). reached_by (after_all events rows) k x) is, some))
      own is (inr made) = inr (is, made)

  -- reads of what the table's tree reaches
  pub only_reads : (table : ℕ) (objects : Rows → ℕ → Type 0) → AreReached objects table → (rows : Rows) (events : List Event) → ReadsOnly (objects rows) events → StaysIn table rows events
  only_reads table objects reached rows events of = record {
    reads = λ x by. reached rows x (reads_are (objects rows) events of.1 x by);
    claims = λ x by. absurd (no_claims events of.0 x by);
    after = unchanged table rows events (after_all-OnlyReads events of.0 rows);
  }

  put_reads : (table key : ℕ) (row : List ℕ) (rows : Rows) (events : List Event) (found : Option ℕ)
      → MatchOption found (IsPutOfNew rows table key row events) (λ oid. AreReadsThen (IsOnWay table key rows) (did_write oid row ∷ []) events)
      → (x : ℕ) → AreReading events x → IsOnWay table key rows x
  put_reads table key row rows events None put = split_reads (IsOnWay table key rows) _ events put.then_all (change_reads_nothing put.made _)
  put_reads table key row rows events (Some oid) put = split_reads (IsOnWay table key rows) (did_write oid row ∷ []) events put (λ x by. by)

  del_reads : (table key : ℕ) (row : List ℕ) (rows : Rows) (events : List Event) (found : Option ℕ)
      → MatchOption found (AreReadsThen (IsOnWay table key rows) [] events) (λ oid. AreReadsThen (IsOnWay table key rows) (did_write oid row ∷ []) events)
      → (x : ℕ) → AreReading events x → IsOnWay table key rows x
  del_reads table key row rows events None del = split_reads (IsOnWay table key rows) [] events del (λ x by. by)
  del_reads table key row rows events (Some oid) del = split_reads (IsOnWay table key rows) (did_write oid row ∷ []) events del (λ x by. by)

  pub put_stays : (table key : ℕ) (row : List ℕ) (rows : Rows) (events : List Event) → IsSound rows → Agrees sound_law events rows → KeepsLaw sound_law events rows
      → table < TABLES → key < 2 ^ 64 → IsPut rows table key row events → StaysIn table rows events
  put_stays table key row rows events sound agrees keeps below fits put = record {
    reads = λ x by. laws.way table key rows x (put_reads table key row rows events (record_in rows table key) put x by);
    claims = λ x by. laws.put rows table key row events [] sound below fits (subst (IsPut rows table key row) (sym (append-nil events)) put) x by;
    after = apart_after table rows events (laws.apart.0 rows table key row events sound agrees keeps below fits put);
  }

  pub del_stays : (table key : ℕ) (row : List ℕ) (rows : Rows) (events : List Event) → IsSound rows → Agrees sound_law events rows → KeepsLaw sound_law events rows
      → table < TABLES → key < 2 ^ 64 → IsDel rows table key row events → StaysIn table rows events
  del_stays table key row rows events sound agrees keeps below fits del = record {
    reads = λ x by. laws.way table key rows x (del_reads table key row rows events (record_in rows table key) del x by);
    claims = λ x by. omega (arith, laws.del rows table key row events del x by);
    after = apart_after table rows events (laws.apart.1 rows table key row events sound agrees keeps below fits del);
  }

  tidy_of : (table key : ℕ) (rows : Rows) (events : List Event) (found : Option ℕ) → record_in rows table key ≡ found
      → MatchOption found (AreReadsThen (IsOnWay table key rows) [] events) (λ oid. AreReadsThen (IsOnWay table key rows) (did_claim oid ∷ []) events)
      → StaysIn table rows events
  tidy_of table key rows events None is tidy = record {
    reads = λ x by. laws.way table key rows x (split_reads (IsOnWay table key rows) [] events tidy (λ y none. none) x by);
    claims = λ x by. absurd (split_claims (IsOnWay table key rows) [] events tidy x by);
    after = unchanged table rows events (ap (λ (es : List Event). after_all es rows) tidy.split ∙ ap (λ (es : List Event). after_all es rows) (append-nil tidy.reads) ∙ after_all-OnlyReads tidy.reads tidy.only rows);
  }
  tidy_of table key rows events (Some oid) is tidy = record {
    reads = λ x by. laws.way table key rows x (split_reads (IsOnWay table key rows) (did_claim oid ∷ []) events tidy (λ y none. none) x by);
    claims = λ x by.
        let here : x ≡ oid = elim (split_claims (IsOnWay table key rows) (did_claim oid ∷ []) events tidy x by) as (λ _. x ≡ oid) [ inl at ↦ at | inr none ↦ absurd none ] in
        let own : 0 < reached_by rows table oid + 0 = laws.del_asks rows table key [] (asked_claim oid) is in
        omega (arith, own, ap (λ (y : ℕ). reached_by rows table y) here);
    after = unchanged table rows events
        (ap (λ (es : List Event). after_all es rows) tidy.split ∙ after_all-append tidy.reads (did_claim oid ∷ []) rows ∙ after_all-OnlyReads tidy.reads tidy.only rows);
  }

  scan_reached : (table low high : ℕ) → AreReached (IsMetByScan table low high) table
  scan_reached table low high rows x (found, is, met) = laws.met table low (last_sought (2 ^ 64) found) rows x met

  -- an answered line's events are of its table
  pub whole_stays : (c : Command) (a : Answer) (table : ℕ) (rows : Rows) (events : List Event) → table_of c ≡ Some table → IsInRange c → IsSound rows → Agrees sound_law events rows
      → KeepsLaw sound_law events rows → WholeOf c a rows events → StaysIn table rows events
  whole_stays (command.Get k key) a table rows events named range sound agrees keeps of =
      let same : k ≡ table = cc in subst (λ (n : ℕ). StaysIn n rows events) same (only_reads k (IsSought k key) (laws.met k key key) rows events of)
  whole_stays (command.Put k key value) a table rows events named range sound agrees keeps of =
      let same : k ≡ table = cc in subst (λ (n : ℕ). StaysIn n rows events) same
      (put_stays k key (value_row value) rows events sound agrees keeps (omega (arith, range.0.0)) range.0.1 of)
  whole_stays (command.Del k key) a table rows events named range sound agrees keeps of =
      let same : k ≡ table = cc in subst (λ (n : ℕ). StaysIn n rows events) same (del_stays k key absent_row rows events sound agrees keeps (omega (arith, range.0)) range.1 of)
  whole_stays (command.Next k from) (answer.Replied (reply.Pair found)) table rows events named range sound agrees keeps of =
      let same : k ≡ table = cc in subst (λ (n : ℕ). StaysIn n rows events) same
      (only_reads k (λ rs x. IsMetIn rs k from (last_sought (2 ^ 64) found) x) (laws.met k from (last_sought (2 ^ 64) found)) rows events of)
  whole_stays (command.Scan k low high) a table rows events named range sound agrees keeps of =
      let same : k ≡ table = cc in subst (λ (n : ℕ). StaysIn n rows events) same
      (only_reads k (IsMetByScan k low high) (scan_reached k low high) rows events of)
  whole_stays (command.Tidy k key) a table rows events named range sound agrees keeps of =
      let same : k ≡ table = cc in subst (λ (n : ℕ). StaysIn n rows events) same (tidy_of k key rows events (record_in rows k key) refl of)
  whole_stays c a table rows events named range sound agrees keeps of = absurd of

  own_by_more : (table : ℕ) (rows : Rows) (events : List Event) (asked : Asked) → IsOwnAsked rows table [] asked → IsOwnAsked rows table events asked
  own_by_more table rows events (asked_read oid) own = own
  own_by_more table rows events (asked_claim oid) own = omega (arith, own)
  own_by_more table rows events asked_make own = tt

  asked_reads : (table : ℕ) (objects : Rows → ℕ → Type 0) → AreReached objects table → (rows : Rows) (events : List Event) (asked : Asked) → AsksReads objects events rows asked
      → IsOwnAsked rows table events asked
  asked_reads table objects reached rows events (asked_read oid) asks = reached rows oid asks
  asked_reads table objects reached rows events (asked_claim oid) asks = absurd asks
  asked_reads table objects reached rows events asked_make asks = absurd asks

  -- the events of one that was cut off, which set no row, are too
  pub front_stays : (c : Command) (table : ℕ) (rows : Rows) (events : List Event) → table_of c ≡ Some table → IsInRange c → IsSound rows → WritesNothing events → FrontOf c rows events
      → StaysIn table rows events
  front_stays (command.Get k key) table rows events named range sound none of =
      let same : k ≡ table = cc in subst (λ (n : ℕ). StaysIn n rows events) same (only_reads k (IsSought k key) (laws.met k key key) rows events of)
  front_stays (command.Put k key value) table rows events named range sound none of =
      let same : k ≡ table = cc in subst (λ (n : ℕ). StaysIn n rows events) same (record {
        reads = λ x by. laws.way k key rows x (reads_are (IsOnWay k key rows) events of.0 x by);
        claims = λ x by. laws.put rows k key (value_row value) events of.1.0 sound (omega (arith, range.0.0)) range.0.1 of.1.1 x by;
        after = unchanged k rows events (after_all-WritesNothing events none rows);
      })
  front_stays (command.Del k key) table rows events named range sound none of =
      let same : k ≡ table = cc in subst (λ (n : ℕ). StaysIn n rows events) same (only_reads k (IsOnWay k key) (laws.way k key) rows events of)
  front_stays (command.Next k from) table rows events named range sound none of =
      let same : k ≡ table = cc in subst (λ (n : ℕ). StaysIn n rows events) same (only_reads k (IsMetByNext k from) (laws.next k from) rows events of)
  front_stays (command.Scan k low high) table rows events named range sound none of =
      let same : k ≡ table = cc in subst (λ (n : ℕ). StaysIn n rows events) same (only_reads k (IsMetByScan k low high) (scan_reached k low high) rows events of)
  front_stays (command.Tidy k key) table rows events named range sound none of =
      let same : k ≡ table = cc in subst (λ (n : ℕ). StaysIn n rows events) same (only_reads k (IsOnWay k key) (laws.way k key) rows events of)
  front_stays c table rows events named range sound none of = absurd of

  -- and what it asked for
  pub asks_stay : (c : Command) (table : ℕ) (rows : Rows) (events : List Event) (asked : Asked) → table_of c ≡ Some table → IsInRange c → IsSound rows → AsksOf c events rows asked
      → IsOwnAsked rows table events asked
  asks_stay (command.Get k key) table rows events asked named range sound asks =
      let same : k ≡ table = cc in subst (λ (n : ℕ). IsOwnAsked rows n events asked) same (asked_reads k (IsSought k key) (laws.met k key key) rows events asked asks)
  asks_stay (command.Put k key value) table rows events asked named range sound asks =
      let same : k ≡ table = cc in subst (λ (n : ℕ). IsOwnAsked rows n events asked) same
      (laws.put_asks rows k key (value_row value) events asked sound (omega (arith, range.0.0)) range.0.1 asks)
  asks_stay (command.Del k key) table rows events asked named range sound asks =
      let same : k ≡ table = cc in subst (λ (n : ℕ). IsOwnAsked rows n events asked) same (own_by_more k rows events asked (laws.del_asks rows k key events asked asks))
  asks_stay (command.Next k from) table rows events asked named range sound asks =
      let same : k ≡ table = cc in subst (λ (n : ℕ). IsOwnAsked rows n events asked) same (asked_reads k (IsMetByNext k from) (laws.next k from) rows events asked asks)
  asks_stay (command.Scan k low high) table rows events asked named range sound asks =
      let same : k ≡ table = cc in subst (λ (n : ℕ). IsOwnAsked rows n events asked) same (asked_reads k (IsMetByScan k low high) (scan_reached k low high) rows events asked asks)
  asks_stay (command.Tidy k key) table rows events asked named range sound asks =
      let same : k ≡ table = cc in subst (λ (n : ℕ). IsOwnAsked rows n events asked) same (own_by_more k rows events asked (laws.del_asks rows k key events asked asks))
  asks_stay c table rows events asked named range sound asks = absurd asks

-- only a line that writes claims
pub whole_writes : (c : Command) (a : Answer) (rows : Rows) (events : List Event) → WholeOf c a rows events → (x : ℕ) → AreClaiming events x → is_writer c ≡ true
whole_writes (command.Get k key) a rows events of x by = absurd (no_claims events of.0 x by)
whole_writes (command.Put k key value) a rows events of x by = refl
whole_writes (command.Del k key) a rows events of x by = refl
whole_writes (command.Next k from) (answer.Replied (reply.Pair found)) rows events of x by = absurd (no_claims events of.0 x by)
whole_writes (command.Scan k low high) a rows events of x by = absurd (no_claims events of.0 x by)
whole_writes (command.Tidy k key) a rows events of x by = refl
whole_writes c a rows events of x by = absurd of

pub front_writes : (c : Command) (rows : Rows) (events : List Event) → FrontOf c rows events → (x : ℕ) → AreClaiming events x → is_writer c ≡ true
front_writes (command.Get k key) rows events of x by = absurd (no_claims events of.0 x by)
front_writes (command.Put k key value) rows events of x by = refl
front_writes (command.Del k key) rows events of x by = refl
front_writes (command.Next k from) rows events of x by = absurd (no_claims events of.0 x by)
front_writes (command.Scan k low high) rows events of x by = absurd (no_claims events of.0 x by)
front_writes (command.Tidy k key) rows events of x by = refl
front_writes c rows events of x by = absurd of

pub asks_write : (c : Command) (rows : Rows) (events : List Event) (oid : ℕ) → AsksOf c events rows (asked_claim oid) → is_writer c ≡ true
asks_write (command.Get k key) rows events oid asks = absurd asks
asks_write (command.Put k key value) rows events oid asks = refl
asks_write (command.Del k key) rows events oid asks = refl
asks_write (command.Next k from) rows events oid asks = absurd asks
asks_write (command.Scan k low high) rows events oid asks = absurd asks
asks_write (command.Tidy k key) rows events oid asks = refl
asks_write c rows events oid asks = absurd asks

-- a line that names a table in range names one that there is
pub table_below : (c : Command) (table : ℕ) → table_of c ≡ Some table → IsInRange c → table < TABLES
table_below (command.Get k key) table named range = let same : k ≡ table = cc in omega (arith, same, range.0)
table_below (command.Put k key value) table named range = let same : k ≡ table = cc in omega (arith, same, range.0.0)
table_below (command.Del k key) table named range = let same : k ≡ table = cc in omega (arith, same, range.0)
table_below (command.Next k from) table named range = let same : k ≡ table = cc in omega (arith, same, range.0)
table_below (command.Scan k low high) table named range = let same : k ≡ table = cc in omega (arith, same, range.0.0)
table_below (command.Tidy k key) table named range = let same : k ≡ table = cc in omega (arith, same, range.0)
table_below c table named range = let no : None ≡ Some table = named in cc
