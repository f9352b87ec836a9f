-- What the events of an answered line do to the records of keys.
use Rattle.std.proofs.Common.{◌≡◌, ℕ, ◌^◌, ◌<◌, ◌⊎◌, List, [], ◌∷◌, ◌++◌, Option, Some, None, inl, inr, refl, sym, ap, ◌∙◌, subst, arith}
use Rattle.std.specs.Prelude.{MatchOption}
use Rattle.std.proofs.lemmas.List.Elements.{All-cons, All-nil}
use Rattle.erm_model.specs.declared.operation.Op.{Op}
use Rattle.erm_model.specs.declared.operation.Op.TheVariants as op
use Rattle.erm_model.specs.declared.operation.Reply.{Reply}
use Rattle.erm_model.specs.declared.operation.Reply.TheVariants as reply
use Rattle.erm_model.specs.RowTransaction.{Agrees, Event, KeepsLaw, OnlyReads, WritesNothing, after_all, did_claim, did_write}
use Rattle.erm_model.specs.Rows.{Rows}
use Rattle.erm_model.specs.Run.{IsReplyOn, change}
use Rattle.erm_model.proofs.RowCalls.{after_all-OnlyReads}
use Rattle.erm_record.specs.Record.{IsRecord, IsValue, absent_row, record_value, value_row}
use Rattle.erm_node.specs.Node.{node_of}
use Rattle.erm_node.specs.Sound.{IsSound, sound_law}
use Rattle.erm_node.specs.TreeMap.{map_of_rows, record_in}
use Rattle.erm_tree.specs.Change.{AreReadsThen, IsDel, IsPut, IsPutOfNew}
use Rattle.erm_tree.specs.Reads.{IsOnWay}
use Rattle.erm_tree.specs.Tables.{AreClaiming}
use Rattle.erm_tree.proofs.Settings.{one_key}
use Rattle.erm_report.specs.declared.answer.Answer.TheVariants as answer
use Rattle.erm_script.specs.declared.script.Command.{Command}
use Rattle.erm_script.specs.declared.script.Command.TheVariants as command
use Rattle.erm_script.specs.Script.{IsInRange}
use Rattle.erm_good_report.specs.Transactions.{op_of, table_of}
use Rattle.erm_lines.specs.Operations.{FrontOf, IsRightOn, IsTidy, WholeOf}
use Rattle.erm_told_limits.proofs.Ran.{AreReading}
use Rattle.erm_tight.proofs.Alike.{writes_claim}
use Rattle.erm_tight.proofs.Calls.{ArePut, KeepsRecords, MapHasValues, del_kept, get_reads, put_kept, put_sets, same_kept}
use Rattle.erm_tight.proofs.Claims.{NodesReadBack, front_claims, front_new, joined_claims, new_claims}
use Rattle.erm_tight.proofs.Kept.{RowLaws}
use Rattle.erm_tight.proofs.Objects.{put_object}
use Rattle.erm_tight.proofs.Ways.{rows_then}
use Rattle.erm_causes.proofs.Own.{no_claims, split_claims}

-- What rows, nodes and maps are.
pub record KeyLaws : Type 0 where
  pub rows : RowLaws
  pub values : MapHasValues
  pub nodes : NodesReadBack

short_value : IsValue []
short_value = (All-nil (λ (b : ℕ). b < 2 ^ 8), omega arith)

long_value : IsValue (0 ∷ [])
long_value = (All-cons (λ (b : ℕ). b < 2 ^ 8) 0 [] (omega arith) (All-nil (λ (b : ℕ). b < 2 ^ 8)), omega arith)

pub key_laws : ((row : List ℕ) → IsRecord row → node_of row ≡ None) → ((bytes : List ℕ) → IsValue bytes → record_value (value_row bytes) ≡ Some bytes)
    → ((row bytes : List ℕ) → record_value row ≡ Some bytes → IsValue bytes × (row ≡ value_row bytes)) → MapHasValues → NodesReadBack → KeyLaws
key_laws no_node given found values nodes = record { rows = record { no_node = no_node; given = given; found = found; short = short_value; long = long_value }; values = values; nodes = nodes }

-- a fact of all sound arrays that agree with events
abbrev pub OnAll : List Event → (Rows → Type 0) → Type 0
OnAll events P = (rows : Rows) → IsSound rows → Agrees sound_law events rows → P rows

-- the command overwrites the key's record where it has one
abbrev pub Overwrites : ℕ → ℕ → Command → Type 0
Overwrites table key c = ((value : List ℕ) × (c ≡ command.Put table key value)) ⊎ (c ≡ command.Del table key) ⊎ (c ≡ command.Tidy table key)

-- a key's record is read; it is there then, and claimed; it is claimed
abbrev pub ReadsRecord : List Event → ℕ → ℕ → Type 0
ReadsRecord events table key = (table < 16) × OnAll events (λ rows. (x : ℕ) → record_in rows table key ≡ Some x → AreReading events x)

abbrev pub PutsRecord : List Event → ℕ → ℕ → Type 0
PutsRecord events table key = (table < 16) × ((x : ℕ) × OnAll events (λ rows. (record_in (after_all events rows) table key ≡ Some x) × AreClaiming events x))

abbrev pub ClaimsRecord : List Event → ℕ → ℕ → Type 0
ClaimsRecord events table key = (table < 16) × OnAll events (λ rows. (x : ℕ) → record_in rows table key ≡ Some x → AreClaiming events x)

pub record WholeDid (c : Command) (events : List Event) : Type 0 where
  pub kept : OnAll events (λ rows. KeepsRecords rows (after_all events rows))
  pub gets : (table key : ℕ) → c ≡ command.Get table key → ReadsRecord events table key
  pub puts : (table key : ℕ) (value : List ℕ) → c ≡ command.Put table key value → PutsRecord events table key
  pub writes : (table key : ℕ) → (c ≡ command.Del table key) ⊎ (c ≡ command.Tidy table key) → ClaimsRecord events table key
  pub only : OnAll events (λ rows. (table key x : ℕ) → table < 16 → record_in rows table key ≡ Some x → AreClaiming events x → Overwrites table key c)

at_key : (Q : ℕ → ℕ → Type 0) (k key table other : ℕ) → k ≡ table → key ≡ other → Q k key → Q table other
at_key Q k key table other same same_key q = subst (λ (m : ℕ). Q table m) same_key (subst (λ (n : ℕ). Q n key) same q)

module _ (laws : KeyLaws) (events : List Event) where
  -- of two keys that have one record
  one_of : (rows : Rows) → IsSound rows → (k key table other x : ℕ) → k < 16 → table < 16 → record_in rows k key ≡ Some x → record_in rows table other ≡ Some x → (k ≡ table) × (key ≡ other)
  one_of rows sound k key table other x below t_below is other_is = let same = one_key rows sound k key table other x below t_below is other_is in (sym same.0, sym same.1)

  -- READS.
  reads_kept : OnAll events (λ rows. OnlyReads events) → OnAll events (λ rows. KeepsRecords rows (after_all events rows))
  reads_kept only rows sound agrees = same_kept laws.rows rows (after_all events rows) (after_all-OnlyReads events (only rows sound agrees) rows)

  next_reads : (table from : ℕ) (r : Reply) (rows : Rows) → WholeOf (command.Next table from) (answer.Replied r) rows events → OnlyReads events
  next_reads table from (reply.Pair found) rows of = of.0
  next_reads table from r rows of = absurd of

  -- PUT, DEL, TIDY.
  put_only : (k key : ℕ) (value : List ℕ) (rows : Rows) → IsSound rows → Agrees sound_law events rows → k < 16 → key < 2 ^ 64 → IsPut rows k key (value_row value) events
      → (table other x : ℕ) → table < 16 → record_in rows table other ≡ Some x → AreClaiming events x → (k ≡ table) × (key ≡ other)
  put_only k key value rows sound agrees below fits put table other x t_below is by = at_record (record_in rows k key) refl put
    where
      at_record : (r : Option ℕ) → record_in rows k key ≡ r
          → MatchOption r (IsPutOfNew rows k key (value_row value) events) (λ oid. AreReadsThen (IsOnWay k key rows) (did_write oid (value_row value) ∷ []) events) → (k ≡ table) × (key ≡ other)
      at_record None none of = absurd (new_claims laws.nodes rows k key (value_row value) events sound agrees below fits of table other x t_below is by)
      at_record (Some oid) found of = elim (split_claims (IsOnWay k key rows) (did_write oid (value_row value) ∷ []) events of x by) as (λ _. (k ≡ table) × (key ≡ other)) [
        | inl here ↦ one_of rows sound k key table other x below t_below (found ∙ ap Some (sym here)) is
        | inr none ↦ absurd none
      ]

  del_only : (k key : ℕ) (rows : Rows) → IsSound rows → k < 16 → IsDel rows k key absent_row events
      → (table other x : ℕ) → table < 16 → record_in rows table other ≡ Some x → AreClaiming events x → (k ≡ table) × (key ≡ other)
  del_only k key rows sound below del table other x t_below is by = at_record (record_in rows k key) refl del
    where
      at_record : (r : Option ℕ) → record_in rows k key ≡ r
          → MatchOption r (AreReadsThen (IsOnWay k key rows) [] events) (λ oid. AreReadsThen (IsOnWay k key rows) (did_write oid absent_row ∷ []) events) → (k ≡ table) × (key ≡ other)
      at_record None none of = absurd (split_claims (IsOnWay k key rows) [] events of x by)
      at_record (Some oid) found of = elim (split_claims (IsOnWay k key rows) (did_write oid absent_row ∷ []) events of x by) as (λ _. (k ≡ table) × (key ≡ other)) [
        | inl here ↦ one_of rows sound k key table other x below t_below (found ∙ ap Some (sym here)) is
        | inr none ↦ absurd none
      ]

  del_claims : (k key : ℕ) (rows : Rows) → IsDel rows k key absent_row events → (x : ℕ) → record_in rows k key ≡ Some x → AreClaiming events x
  del_claims k key rows del x is =
      joined_claims (IsOnWay k key rows) (did_write x absent_row ∷ []) events
      (subst (λ (r : Option ℕ). MatchOption r (AreReadsThen (IsOnWay k key rows) [] events) (λ oid. AreReadsThen (IsOnWay k key rows) (did_write oid absent_row ∷ []) events)) is del) x (inl refl)

  tidy_only : (k key : ℕ) (rows : Rows) → IsSound rows → k < 16 → IsTidy rows k key events
      → (table other x : ℕ) → table < 16 → record_in rows table other ≡ Some x → AreClaiming events x → (k ≡ table) × (key ≡ other)
  tidy_only k key rows sound below tidy table other x t_below is by = at_record (record_in rows k key) refl tidy
    where
      at_record : (r : Option ℕ) → record_in rows k key ≡ r
          → MatchOption r (AreReadsThen (IsOnWay k key rows) [] events) (λ oid. AreReadsThen (IsOnWay k key rows) (did_claim oid ∷ []) events) → (k ≡ table) × (key ≡ other)
      at_record None none of = absurd (split_claims (IsOnWay k key rows) [] events of x by)
      at_record (Some oid) found of = elim (split_claims (IsOnWay k key rows) (did_claim oid ∷ []) events of x by) as (λ _. (k ≡ table) × (key ≡ other)) [
        | inl here ↦ one_of rows sound k key table other x below t_below (found ∙ ap Some (sym here)) is
        | inr none ↦ absurd none
      ]

  tidy_claims : (k key : ℕ) (rows : Rows) → IsTidy rows k key events → (x : ℕ) → record_in rows k key ≡ Some x → AreClaiming events x
  tidy_claims k key rows tidy x is =
      joined_claims (IsOnWay k key rows) (did_claim x ∷ []) events
      (subst (λ (r : Option ℕ). MatchOption r (AreReadsThen (IsOnWay k key rows) [] events) (λ oid. AreReadsThen (IsOnWay k key rows) (did_claim oid ∷ []) events)) is tidy) x (inl refl)

  tidy_kept : (k key : ℕ) (rows : Rows) → IsTidy rows k key events → after_all events rows ≡ rows
  tidy_kept k key rows tidy = at_record (record_in rows k key) tidy
    where
      at_record : (r : Option ℕ) → MatchOption r (AreReadsThen (IsOnWay k key rows) [] events) (λ oid. AreReadsThen (IsOnWay k key rows) (did_claim oid ∷ []) events) → after_all events rows ≡ rows
      at_record None of = rows_then (IsOnWay k key rows) rows [] events of
      at_record (Some oid) of = rows_then (IsOnWay k key rows) rows (did_claim oid ∷ []) events of

  -- a put
  module _ (k key : ℕ) (value : List ℕ) (range : IsInRange (command.Put k key value)) (put : ArePut k key value events) where
    put_below : k < 16
    put_below = omega (arith, range.0.0)

    pub whole_put : WholeDid (command.Put k key value) events
    whole_put = record {
      kept = put_kept laws.rows laws.values k key value events put_below (range.1.1, range.1.0) put;
      gets = λ table other is. cc;
      puts = λ table other more is. at_key (PutsRecord events) k key table other (cc) (cc) (
        put_below,
        (
          put_object events,
          λ rows sound agrees.
              let set = put_sets laws.rows laws.values k key value events put_below (range.1.1, range.1.0) put rows sound agrees in
              (set.0, writes_claim events (put_object events) set.1),
        ),
      );
      writes = λ table other is. elim is as (λ _. ClaimsRecord events table other) [ inl no_del ↦ cc | inr no_tidy ↦ cc ];
      only = λ rows sound agrees table other x t_below is by.
          let same = put_only k key value rows sound agrees put_below range.0.1 (put rows sound agrees).0 table other x t_below is by in
          inl (value, ap (λ (n : ℕ). command.Put n key value) same.0 ∙ ap (λ (m : ℕ). command.Put table m value) same.1);
    }

  -- the events of an answered operation
  pub whole_did : (c : Command) (k : ℕ) → table_of c ≡ Some k → IsInRange c → (r : Reply) (o : Op) → op_of c ≡ Some o
      → OnAll events (λ rows. WholeOf c (answer.Replied r) rows events × KeepsLaw sound_law events rows) → OnAll events (λ rows. IsRightOn (record { op = o; reply = r }) events rows) → WholeDid c events
  whole_did (command.Get t key) k named range r o is of right =
      let same : op.Get t key ≡ o = cc in
      let below : t < 16 = omega (arith, range.0) in
      record {
        kept = reads_kept (λ rows sound agrees. (of rows sound agrees).0.0);
        gets = λ table other at. at_key (ReadsRecord events) t key table other (cc) (cc) (
          below,
          get_reads laws.rows laws.values t key events r below (λ rows sound agrees. subst (λ (p : Op). IsReplyOn (map_of_rows rows) p r) (sym same) (right rows sound agrees).reply),
        );
        puts = λ table other value at. cc;
        writes = λ table other at. elim at as (λ _. ClaimsRecord events table other) [ inl no_del ↦ cc | inr no_tidy ↦ cc ];
        only = λ rows sound agrees table other x t_below at by. absurd (no_claims events (of rows sound agrees).0.0 x by);
      }
  whole_did (command.Put t key value) k named range r o is of right =
      let same : op.Put t key value ≡ o = cc in
      whole_put t key value range (λ rows sound agrees.
      let it = of rows sound agrees in
      (it.0, it.1, subst (λ (p : Op). map_of_rows (after_all events rows) ≡ change p (map_of_rows rows)) (sym same) (right rows sound agrees).after_is))
  whole_did (command.Del t key) k named range r o is of right =
      let below : t < 16 = omega (arith, range.0) in
      record {
        kept = λ rows sound agrees. del_kept laws.rows rows t key events sound below (of rows sound agrees).0;
        gets = λ table other at. cc;
        puts = λ table other value at. cc;
        writes = λ table other at. elim at as (λ _. ClaimsRecord events table other) [
          | inl del ↦ at_key (ClaimsRecord events) t key table other (cc) (cc) (below, λ rows sound agrees. del_claims t key rows (of rows sound agrees).0)
          | inr no_tidy ↦ cc
        ];
        only = λ rows sound agrees table other x t_below at by.
            let found = del_only t key rows sound below (of rows sound agrees).0 table other x t_below at by in
            inr (inl (ap (λ (n : ℕ). command.Del n key) found.0 ∙ ap (λ (m : ℕ). command.Del table m) found.1));
      }
  whole_did (command.Next t from) k named range r o is of right = record {
    kept = reads_kept (λ rows sound agrees. next_reads t from r rows (of rows sound agrees).0);
    gets = λ table other at. cc;
    puts = λ table other value at. cc;
    writes = λ table other at. elim at as (λ _. ClaimsRecord events table other) [ inl no_del ↦ cc | inr no_tidy ↦ cc ];
    only = λ rows sound agrees table other x t_below at by. absurd (no_claims events (next_reads t from r rows (of rows sound agrees).0) x by);
  }
  whole_did (command.Scan t low high) k named range r o is of right = record {
    kept = reads_kept (λ rows sound agrees. (of rows sound agrees).0.0);
    gets = λ table other at. cc;
    puts = λ table other value at. cc;
    writes = λ table other at. elim at as (λ _. ClaimsRecord events table other) [ inl no_del ↦ cc | inr no_tidy ↦ cc ];
    only = λ rows sound agrees table other x t_below at by. absurd (no_claims events (of rows sound agrees).0.0 x by);
  }
  whole_did command.Save k named range r o is of right = let never : None ≡ Some k = named in cc
  whole_did (command.Back n) k named range r o is of right = let never : None ≡ Some k = named in cc
  whole_did c k named range r o is of right = let never : None ≡ Some o = is in cc

  -- those of an answered tidy
  pub tidy_did : (c : Command) (k : ℕ) → table_of c ≡ Some k → IsInRange c → (cells : ℕ) → op_of c ≡ None
      → OnAll events (λ rows. WholeOf c (answer.Cut cells) rows events × KeepsLaw sound_law events rows) → WholeDid c events
  tidy_did (command.Tidy t key) k named range cells is of =
      let below : t < 16 = omega (arith, range.0) in
      record {
        kept = λ rows sound agrees. same_kept laws.rows rows (after_all events rows) (tidy_kept t key rows (of rows sound agrees).0);
        gets = λ table other at. cc;
        puts = λ table other value at. cc;
        writes = λ table other at. elim at as (λ _. ClaimsRecord events table other) [
          | inl no_del ↦ cc
          | inr tidy ↦ at_key (ClaimsRecord events) t key table other (cc) (cc) (below, λ rows sound agrees. tidy_claims t key rows (of rows sound agrees).0)
        ];
        only = λ rows sound agrees table other x t_below at by.
            let found = tidy_only t key rows sound below (of rows sound agrees).0 table other x t_below at by in
            inr (inr (ap (λ (n : ℕ). command.Tidy n key) found.0 ∙ ap (λ (m : ℕ). command.Tidy table m) found.1));
      }
  tidy_did (command.Get t key) k named range cells is of = let never : Some (op.Get t key) ≡ None = is in cc
  tidy_did (command.Put t key value) k named range cells is of = let never : Some (op.Put t key value) ≡ None = is in cc
  tidy_did (command.Del t key) k named range cells is of = let never : Some (op.Del t key) ≡ None = is in cc
  tidy_did (command.Next t from) k named range cells is of = let never : Some (op.Next t from) ≡ None = is in cc
  tidy_did (command.Scan t low high) k named range cells is of = let never : Some (op.Scan t low high) ≡ None = is in cc
  tidy_did c k named range cells is of = let never : None ≡ Some k = named in cc

  -- those of a line that was cut off claim no record
  pub front_only : (c : Command) (k : ℕ) → table_of c ≡ Some k → IsInRange c → WritesNothing events → (rows : Rows) → IsSound rows → Agrees sound_law events rows → FrontOf c rows events
      → (table key x : ℕ) → table < 16 → record_in rows table key ≡ Some x → AreClaiming events x → ⊥
  front_only (command.Get t key) k named range none rows sound agrees of table other x t_below is by = no_claims events of.0 x by
  front_only (command.Put t key value) k named range none rows sound agrees of table other x t_below is by =
      let below : t < 16 = omega (arith, range.0.0) in at_record below (record_in rows t key) refl of.1.1
    where
      at_record : t < 16 → (r : Option ℕ) → record_in rows t key ≡ r
          → MatchOption r (IsPutOfNew rows t key (value_row value) (events ++ of.1.0)) (λ oid. AreReadsThen (IsOnWay t key rows) (did_write oid (value_row value) ∷ []) (events ++ of.1.0)) → ⊥
      at_record below None found put =
          front_new laws.nodes rows t key (value_row value) events of.1.0 sound agrees below range.0.1 put table other x t_below is by
      at_record below (Some oid) found put = front_claims put.reads events of.1.0 oid (value_row value) put.only none put.split x by
  front_only (command.Del t key) k named range none rows sound agrees of table other x t_below is by = no_claims events of.0 x by
  front_only (command.Next t from) k named range none rows sound agrees of table other x t_below is by = no_claims events of.0 x by
  front_only (command.Scan t low high) k named range none rows sound agrees of table other x t_below is by = no_claims events of.0 x by
  front_only (command.Tidy t key) k named range none rows sound agrees of table other x t_below is by = no_claims events of.0 x by
  front_only c k named range none rows sound agrees of table other x t_below is by = absurd of
