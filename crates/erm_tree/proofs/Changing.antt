-- Changes after look-ups: what calls did, as facts of the database map.
use Rattle.std.proofs.Common.{◌≡◌, ℕ, ◌<◌, List, [], ◌∷◌, ◌++◌, Option, Some, None, refl, sym, ap, ◌∙◌, subst, arith}
use Rattle.std.specs.Prelude.{MatchOption}
use Rattle.erm_model.specs.Rows.{Rows, set_row}
use Rattle.erm_model.specs.RowTransaction.{Event, did_write, after_all, SameLaw, Agrees, Face, Does, GoesOn, KeepsLaw, OnlyReads}
use Rattle.erm_model.proofs.RowCalls.{after_all-append, after_all-OnlyReads, made_by_all-append, Runs-append, Runs-one}
use Rattle.erm_record.specs.Record.{IsRecord, record_value}
use Rattle.erm_node.specs.Node.{node_of}
use Rattle.erm_node.specs.Sound.{IsSound, sound_law}
use Rattle.erm_node.specs.TreeMap.{record_in}
use Rattle.erm_tree.specs.Calls.{ReadsAre, SawIn, DidBy}
use Rattle.erm_tree.specs.Change.{AreReadsThen}
use Rattle.erm_tree.specs.Reads.{IsOnWay}
use Rattle.erm_tree.specs.Walk.{IsRecordFor}
use Rattle.erm_tree.proofs.Calls.{Agrees-after_reads}
use Rattle.erm_tree.proofs.Records.{IsSound-same, reached-same}
use Rattle.erm_tree.proofs.Settings.{IsSetAt, DifferAtRecords-set_row, IsSetAt-set_row}

module _ {S : Type 0} (face : Face S) (goes_on : (a b c : S) → face.follows a b → face.follows b c → face.follows a c) where
  -- a change after reads
  pub DidBy-after : (objects : Rows → ℕ → Type 0) (kind : Rows → List Event → Type 0) (s t u : S) (fact : Rows → Type 0) (change : Rows → Rows → Type 0) (fs : List Event) → SawIn face objects s t fact
      → GoesOn face t fs u → face.follows t u
      → ((array : Rows) → face.law.meets array → fact array → Agrees face.law fs array → KeepsLaw face.law fs array × change array (after_all fs array))
      → ((array : Rows) → face.law.meets array → fact array → Agrees face.law fs array → (es : List Event) → OnlyReads es → ReadsAre (objects array) es → kind array (es ++ fs))
      → DidBy face kind s u change
  DidBy-after objects kind s t u fact change fs seen on follows does by =
      let es = seen.saw.events in
      let only = seen.saw.reads in
      let whole : (array : Rows) → after_all (es ++ fs) array ≡ after_all fs array = λ array. after_all-append es fs array ∙ ap (after_all fs) (after_all-OnlyReads es only array) in
      record {
        did = record {
          events = es ++ fs;
          goes_on = record { runs = Runs-append face es fs s t u seen.saw.goes_on.runs on.runs; active = on.active; possible = on.possible };
          follows = goes_on s t u seen.saw.follows follows;
          lawful = λ array meets agrees.
              let parts = Agrees-after_reads face.law es fs array only agrees in
              let keeps = (does array meets (seen.saw.saw array meets parts.0) parts.1).0 in
              record {
                meets = subst face.law.meets (sym (whole array)) keeps.meets;
                reach = λ x. omega (arith, keeps.reach x, made_by_all-append es fs x, ap (λ (rows : Rows). face.law.reach rows x) (whole array));
              };
          did = λ array meets agrees.
              let parts = Agrees-after_reads face.law es fs array only agrees in
              subst (change array) (sym (whole array)) (does array meets (seen.saw.saw array meets parts.0) parts.1).1;
        };
        by = λ array meets agrees.
            let parts = Agrees-after_reads face.law es fs array only agrees in
            by array meets (seen.saw.saw array meets parts.0) parts.1 es only (seen.reads.of array meets parts.0);
      }

  -- nothing was changed
  pub DidBy-nothing : (objects : Rows → ℕ → Type 0) (kind : Rows → List Event → Type 0) (s t : S) (fact : Rows → Type 0) (change : Rows → Rows → Type 0) → SawIn face objects s t fact
      → ((array : Rows) → face.law.meets array → fact array → change array array)
      → ((array : Rows) → face.law.meets array → fact array → (es : List Event) → OnlyReads es → ReadsAre (objects array) es → kind array es)
      → DidBy face kind s t change
  DidBy-nothing objects kind s t fact change seen same by =
      let es = seen.saw.events in
      let only = seen.saw.reads in
      record {
        did = record {
          events = es;
          goes_on = seen.saw.goes_on;
          follows = seen.saw.follows;
          lawful = λ array meets agrees.
              let whole = after_all-OnlyReads es only array in
              record {
                meets = subst face.law.meets (sym whole) meets;
                reach = λ x. omega (arith, ap (λ (rows : Rows). face.law.reach rows x) whole);
              };
          did = λ array meets agrees. subst (change array) (sym (after_all-OnlyReads es only array)) (same array meets (seen.saw.saw array meets agrees));
        };
        by = λ array meets agrees. by array meets (seen.saw.saw array meets agrees) es only (seen.reads.of array meets agrees);
      }

  module _ (law : SameLaw face.law sound_law) (no_node : (row : List ℕ) → IsRecord row → node_of row ≡ None) (table key : ℕ) (below : table < 16) where
    -- what the events are where a key's record is set alone
    abbrev pub SetsRecord : (Rows → List Event → Type 0) → List ℕ → Rows → List Event → Type 0
    SetsRecord other row rows events = MatchOption (record_in rows table key) (other rows events) (λ oid. AreReadsThen (IsOnWay table key rows) (did_write oid row ∷ []) events)

    -- a key's record is set
    pub DidBy-set_record : (s t u : S) (oid : ℕ) (row : List ℕ) (other : Rows → List Event → Type 0) (change : Rows → Rows → Type 0) → IsRecord row
        → SawIn face (IsOnWay table key) s t (λ rows. IsRecordFor rows table key (Some oid)) → Does face t (did_write oid row) u
        → ((rows new : Rows) → IsSound rows → IsSound new → IsSetAt rows new table key (record_value row) → change rows new)
        → DidBy face (SetsRecord other row) s u change
    DidBy-set_record s t u oid row other change record_row seen does result =
        DidBy-after (IsOnWay table key) (SetsRecord other row) s t u (λ rows. IsRecordFor rows table key (Some oid)) change (did_write oid row ∷ []) seen
        (record { runs = Runs-one face t u (did_write oid row) does.step; active = does.active; possible = does.possible }) does.follows
        (λ array meets is agrees.
        let sound = (law.meets array).0 meets in
        let found = sym is.is in
        let was = is.there.0 in
        let differ = DifferAtRecords-set_row array sound no_node table key oid below found was row record_row in
        let new_sound = IsSound-same array (set_row array oid row) differ sound in (
          record {
            meets = (law.meets (set_row array oid row)).1 new_sound;
            reach = λ x. omega (arith, law.reach (set_row array oid row) x, law.reach array x, reached-same array (set_row array oid row) differ x);
          },
          result array (set_row array oid row) sound new_sound (IsSetAt-set_row array sound no_node table key oid below found was row record_row),
        ))
        (λ array meets is agrees es only of.
        subst (λ (found : Option ℕ). MatchOption found (other array (es ++ did_write oid row ∷ [])) (λ x. AreReadsThen (IsOnWay table key array) (did_write x row ∷ []) (es ++ did_write oid row ∷ []))) is.is
        (record { reads = es; only = only; of = of; split = refl }))
