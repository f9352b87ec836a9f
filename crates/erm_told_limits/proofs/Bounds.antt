-- How much the calls behind a line make and claim: no more than its command may.
use Rattle.std.proofs.Common.{◌≡◌, ℕ, ◌+◌, ◌≤◌, List, [], ◌∷◌, ◌++◌, map, Option, Some, None, append-nil, refl, sym, ap, ◌∙◌, subst, inl, inr, arith}
use Rattle.std.specs.Prelude.{MatchOption}
use Rattle.erm_model.specs.declared.limits.TheConstants.{PUT_OBJECTS, PUT_ROWS}
use Rattle.erm_model.specs.declared.operation.Reply.TheVariants as reply
use Rattle.erm_model.specs.declared.outcome.Phase.TheVariants.{Active}
use Rattle.erm_model.specs.Rows.{Rows}
use Rattle.erm_model.specs.RowTransaction.{Event, OnlyReads, asked_claim, asked_make, did_claim, did_make, did_write}
use Rattle.erm_node.specs.TreeMap.{record_in}
use Rattle.erm_record.specs.Record.{absent_row, value_row}
use Rattle.erm_tree.specs.Change.{AreFew, AreReadsThen, IsPut, IsPutOfNew, count_claims, count_makes, count_writes, makes_claims_writes}
use Rattle.erm_tree.specs.Reads.{IsOnWay}
use Rattle.erm_tree.proofs.Bounds.{AreFew-prefix}
use Rattle.erm_world.specs.World.{View, phase_at, work_at}
use Rattle.erm_report.specs.declared.answer.Answer.{Answer}
use Rattle.erm_report.specs.declared.answer.Answer.TheVariants as answer
use Rattle.erm_script.specs.declared.script.Command.{Command}
use Rattle.erm_script.specs.declared.script.Command.TheVariants as command
use Rattle.erm_good_report.specs.Refusals.{claims_of, makes_of}
use Rattle.erm_lines.specs.Operations.{AsksOf, FrontOf, Ran, WholeOf}
use Rattle.erm_told_limits.proofs.Grown.{Grew, all_active, claims-append, claims_claim, grew_all, grew_then, grew_within, makes-append, only_none, ran_parts, writes-append, writes_stay}

-- reads and then others: what the others make, claim and set
reads_then : (P : ℕ → Type 0) (others events : List Event) → AreReadsThen P others events
    → (count_makes events ≡ count_makes others) × (count_claims events ≡ count_claims others) × (count_writes events ≡ count_writes others)
reads_then P others events is =
    let none = only_none is.reads is.only in (
      ap count_makes is.split ∙ makes-append is.reads others ∙ omega (arith, none.0),
      ap count_claims is.split ∙ claims-append is.reads others ∙ omega (arith, none.1),
      ap count_writes is.split ∙ writes-append is.reads others ∙ omega (arith, none.2),
    )

makes_write_nothing : (made : List ℕ) → count_writes (map did_make made) ≡ 0
makes_write_nothing [] = refl
makes_write_nothing (oid ∷ made) = makes_write_nothing made

claims_write_nothing : (rows : List (ℕ × List ℕ)) → count_writes (map (λ (entry : ℕ × List ℕ). did_claim entry.0) rows) ≡ 0
claims_write_nothing [] = refl
claims_write_nothing (entry ∷ rows) = claims_write_nothing rows

put_few : (rows : Rows) (table key : ℕ) (row : List ℕ) (events : List Event) → IsPut rows table key row events → AreFew events
put_few rows table key row events put = AreFew-prefix rows table key row events [] (subst (λ (es : List Event). IsPut rows table key row es) (sym (append-nil events)) put)

module _ (v : View) (seat : ℕ) (t : View) (active : phase_at v seat ≡ Active) where
  -- events that make and claim so much, and set so many rows
  pub counted_grows : (events : List Event) (m k : ℕ) → count_makes events ≤ m → count_claims events + count_writes events ≤ k → Ran v seat events t → Grew (work_at v seat) (work_at t seat) m k
  counted_grows events m k makes claims ran =
      grew_within (work_at v seat) (work_at t seat) (count_makes events) (count_claims events + count_writes events) m k makes claims (grew_all v seat events t ran)

  pub only_grows : (events : List Event) → OnlyReads events → (m k : ℕ) → Ran v seat events t → Grew (work_at v seat) (work_at t seat) m k
  only_grows events only m k ran = let none = only_none events only in counted_grows events m k (omega (arith, none.0)) (omega (arith, none.1, none.2)) ran

  -- a new key's rows are claimed before they are set
  rows_grow : (made : List ℕ) (rows : List (ℕ × List ℕ)) (u : View) → phase_at u seat ≡ Active → Ran u seat (makes_claims_writes made rows) t
      → Grew (work_at u seat) (work_at t seat) (count_makes (makes_claims_writes made rows)) (count_claims (makes_claims_writes made rows))
  rows_grow made rows u there ran =
      let some = map did_make made in
      let first = map (λ (entry : ℕ × List ℕ). did_claim entry.0) rows in
      let last = map (λ (entry : ℕ × List ℕ). did_write entry.0 entry.1) rows in
      let one = ran_parts some (first ++ last) u seat t ran in
      let two = ran_parts first last one.0 seat t one.2 in
      let active_one = all_active some u seat one.0 there one.1 in
      let active_two = all_active first one.0 seat two.0 active_one two.1 in
      let making = grew_all u seat some one.0 one.1 in
      let claiming = grew_all one.0 seat first two.0 two.1 in
      let setting = writes_stay rows two.0 seat t active_two (claims_claim rows one.0 seat two.0 active_one two.1) two.2 in
      let m = makes-append some (first ++ last) in
      let n = makes-append first last in
      let k = claims-append some (first ++ last) in
      let l = claims-append first last in
      let none = makes_write_nothing made in
      let never = claims_write_nothing rows in
      grew_within (work_at u seat) (work_at t seat) ((count_makes some + count_makes first) + 0) (((count_claims some + count_writes some) + (count_claims first + count_writes first)) + 0)
      (count_makes (makes_claims_writes made rows)) (count_claims (makes_claims_writes made rows))
      (omega (arith, m, n)) (omega (arith, k, l, none, never))
      (grew_then (work_at u seat) (work_at two.0 seat) (work_at t seat) (count_makes some + count_makes first) ((count_claims some + count_writes some) + (count_claims first + count_writes first)) 0 0
      (grew_then (work_at u seat) (work_at one.0 seat) (work_at two.0 seat) (count_makes some) (count_claims some + count_writes some) (count_makes first) (count_claims first + count_writes first) making claiming)
      setting)

  new_grows : (P : ℕ → Type 0) (made : List ℕ) (rows : List (ℕ × List ℕ)) (events : List Event) → AreReadsThen P (makes_claims_writes made rows) events → AreFew events → Ran v seat events t
      → Grew (work_at v seat) (work_at t seat) PUT_OBJECTS PUT_ROWS
  new_grows P made rows events is few ran =
      let all = makes_claims_writes made rows in
      let parts = ran_parts is.reads all v seat t (subst (λ (es : List Event). Ran v seat es t) is.split ran) in
      let reading = grew_all v seat is.reads parts.0 parts.1 in
      let changing = rows_grow made rows parts.0 (all_active is.reads v seat parts.0 active parts.1) parts.2 in
      let none = only_none is.reads is.only in
      let same = reads_then P all events is in
      grew_within (work_at v seat) (work_at t seat) (count_makes is.reads + count_makes all) ((count_claims is.reads + count_writes is.reads) + count_claims all) PUT_OBJECTS PUT_ROWS
      (omega (arith, none.0, same.0, few.makes)) (omega (arith, none.1, none.2, same.1, few.claims))
      (grew_then (work_at v seat) (work_at parts.0 seat) (work_at t seat) (count_makes is.reads) (count_claims is.reads + count_writes is.reads) (count_makes all) (count_claims all) reading changing)

  put_grows : (rows : Rows) (table key : ℕ) (row : List ℕ) (events : List Event) (found : Option ℕ) → AreFew events
      → MatchOption found (IsPutOfNew rows table key row events) (λ oid. AreReadsThen (IsOnWay table key rows) (did_write oid row ∷ []) events) → Ran v seat events t
      → Grew (work_at v seat) (work_at t seat) PUT_OBJECTS PUT_ROWS
  put_grows rows table key row events None few put ran = new_grows (IsOnWay table key rows) put.made _ events put.then_all few ran
  put_grows rows table key row events (Some oid) few put ran =
      let same = reads_then (IsOnWay table key rows) (did_write oid row ∷ []) events put in
      counted_grows events PUT_OBJECTS PUT_ROWS (omega (arith, same.0)) (omega (arith, same.1, same.2)) ran

  one_grows : (P : ℕ → Type 0) (event : Event) (events : List Event) (found : Option ℕ) → count_makes (event ∷ []) ≡ 0 → count_claims (event ∷ []) + count_writes (event ∷ []) ≡ 1 → AreReadsThen P (event ∷ []) events
      → Ran v seat events t → Grew (work_at v seat) (work_at t seat) 0 1
  one_grows P event events found none one is ran =
      let same = reads_then P (event ∷ []) events is in
      counted_grows events 0 1 (omega (arith, same.0, none)) (omega (arith, same.1, same.2, one)) ran

  del_grows : (rows : Rows) (table key : ℕ) (row : List ℕ) (events : List Event) (found : Option ℕ)
      → MatchOption found (AreReadsThen (IsOnWay table key rows) [] events) (λ oid. AreReadsThen (IsOnWay table key rows) (did_write oid row ∷ []) events) → Ran v seat events t
      → Grew (work_at v seat) (work_at t seat) 0 1
  del_grows rows table key row events None del ran = let same = reads_then (IsOnWay table key rows) [] events del in counted_grows events 0 1 (omega (arith, same.0)) (omega (arith, same.1, same.2)) ran
  del_grows rows table key row events (Some oid) del ran = one_grows (IsOnWay table key rows) (did_write oid row) events None refl refl del ran

  tidy_grows : (rows : Rows) (table key : ℕ) (events : List Event) (found : Option ℕ)
      → MatchOption found (AreReadsThen (IsOnWay table key rows) [] events) (λ oid. AreReadsThen (IsOnWay table key rows) (did_claim oid ∷ []) events) → Ran v seat events t
      → Grew (work_at v seat) (work_at t seat) 0 1
  tidy_grows rows table key events None tidy ran = let same = reads_then (IsOnWay table key rows) [] events tidy in counted_grows events 0 1 (omega (arith, same.0)) (omega (arith, same.1, same.2)) ran
  tidy_grows rows table key events (Some oid) tidy ran = one_grows (IsOnWay table key rows) (did_claim oid) events None refl refl tidy ran

  next_grows : (table from : ℕ) (a : Answer) (rows : Rows) (events : List Event) → WholeOf (command.Next table from) a rows events → OnlyReads events
  next_grows table from (answer.Replied (reply.Pair found)) rows events of = of.0
  next_grows table from a rows events of = absurd of

  -- an answered line
  pub whole_grows : (c : Command) (a : Answer) (rows : Rows) (events : List Event) → WholeOf c a rows events → Ran v seat events t → Grew (work_at v seat) (work_at t seat) (makes_of c) (claims_of c)
  whole_grows (command.Get table key) a rows events of ran = only_grows events of.0 0 0 ran
  whole_grows (command.Put table key value) a rows events of ran =
      put_grows rows table key (value_row value) events (record_in rows table key) (put_few rows table key (value_row value) events of) of ran
  whole_grows (command.Del table key) a rows events of ran = del_grows rows table key absent_row events (record_in rows table key) of ran
  whole_grows (command.Next table from) a rows events of ran = only_grows events (next_grows table from a rows events of) 0 0 ran
  whole_grows (command.Scan table low high) a rows events of ran = only_grows events of.0 0 0 ran
  whole_grows (command.Tidy table key) a rows events of ran = tidy_grows rows table key events (record_in rows table key) of ran
  whole_grows c a rows events of ran = absurd of

only_counts : (events : List Event) → OnlyReads events → (m k : ℕ) → (count_makes events ≤ m) × (count_claims events ≤ k)
only_counts events only m k = let none = only_none events only in (omega (arith, none.0), omega (arith, none.1))

-- a line that was cut off
pub front_counts : (c : Command) (rows : Rows) (events : List Event) → FrontOf c rows events → (count_makes events ≤ makes_of c) × (count_claims events ≤ claims_of c)
front_counts (command.Get table key) rows events of = only_counts events of.0 0 0
front_counts (command.Put table key value) rows events of = let few = AreFew-prefix rows table key (value_row value) events of.1.0 of.1.1 in (few.makes, few.claims)
front_counts (command.Del table key) rows events of = only_counts events of.0 0 1
front_counts (command.Next table from) rows events of = only_counts events of.0 0 0
front_counts (command.Scan table low high) rows events of = only_counts events of.0 0 0
front_counts (command.Tidy table key) rows events of = only_counts events of.0 0 1
front_counts c rows events of = absurd of

-- where one more claim was refused it has claimed less than it may
put_claims : (rows : Rows) (table key : ℕ) (row : List ℕ) (events others : List Event) (oid : ℕ) (found : Option ℕ) → found ≡ Some oid
    → MatchOption found (IsPutOfNew rows table key row (events ++ others)) (λ x. AreReadsThen (IsOnWay table key rows) (did_write x row ∷ []) (events ++ others)) → count_claims events + 1 ≤ PUT_ROWS
put_claims rows table key row events others oid None is put = absurd (cc)
put_claims rows table key row events others oid (Some x) is put =
    let same = reads_then (IsOnWay table key rows) (did_write x row ∷ []) (events ++ others) put in
    let parts = claims-append events others in
    omega (arith, same.1, parts)

pub front_claims : (c : Command) (rows : Rows) (events : List Event) (oid : ℕ) → FrontOf c rows events → AsksOf c events rows (asked_claim oid) → count_claims events + 1 ≤ claims_of c
front_claims (command.Get table key) rows events oid of asks = absurd asks
front_claims (command.Put table key value) rows events oid of (inl is) = put_claims rows table key (value_row value) events of.1.0 oid (record_in rows table key) is of.1.1
front_claims (command.Put table key value) rows events oid of (inr asks) =
    let few = put_few rows table key (value_row value) (events ++ did_claim oid ∷ asks.0) asks.1 in
    let most = few.claims in
    let parts = claims-append events (did_claim oid ∷ asks.0) in
    omega (arith, most, parts)
front_claims (command.Del table key) rows events oid of asks = let none = only_none events of.0 in omega (arith, none.1)
front_claims (command.Next table from) rows events oid of asks = absurd asks
front_claims (command.Scan table low high) rows events oid of asks = absurd asks
front_claims (command.Tidy table key) rows events oid of asks = let none = only_none events of.0 in omega (arith, none.1)
front_claims c rows events oid of asks = absurd asks

-- and where one more object was refused it has made less
pub front_makes : (c : Command) (rows : Rows) (events : List Event) → FrontOf c rows events → AsksOf c events rows asked_make → count_makes events + 1 ≤ makes_of c
front_makes (command.Get table key) rows events of asks = absurd asks
front_makes (command.Put table key value) rows events of asks =
    let few = put_few rows table key (value_row value) (events ++ did_make asks.0 ∷ asks.1) asks.2 in
    let most = few.makes in
    let parts = makes-append events (did_make asks.0 ∷ asks.1) in
    omega (arith, most, parts)
front_makes (command.Del table key) rows events of asks = absurd asks
front_makes (command.Next table from) rows events of asks = absurd asks
front_makes (command.Scan table low high) rows events of asks = absurd asks
front_makes (command.Tidy table key) rows events of asks = absurd asks
front_makes c rows events of asks = absurd asks
