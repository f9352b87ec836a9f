-- Operations on a table, by calls of the tree, as their lines are answered.
use Rattle.std.proofs.Common.{◌≡◌, ◌^◌, refl, ap, ℕ, List, [], ◌∷◌, Option, Some, Result, IfOk}
use Rattle.std.specs.FinMap.{insert, remove}
use Rattle.erm_model.specs.declared.operation.Op.TheVariants as op
use Rattle.erm_model.specs.declared.operation.Reply.TheVariants as reply
use Rattle.erm_model.specs.declared.row_stop.RowStop.{RowStop}
use Rattle.erm_model.specs.Database.{IsNextAt, at, value_at}
use Rattle.erm_model.specs.Rows.{Rows}
use Rattle.erm_model.specs.RowTransaction.{Event, IsStopped, Law, SameLaw, StopsRead, WritesNothing}
use Rattle.erm_model.specs.Run.{Step}
use Rattle.erm_model.proofs.RowCalls.{WritesNothing-OnlyReads}
use Rattle.erm_node.specs.Sound.{sound_law}
use Rattle.erm_node.specs.TreeMap.{map_of_rows}
use Rattle.erm_record.specs.Record.{absent_row, value_row}
use Rattle.erm_report.specs.declared.answer.Answer.{Answer}
use Rattle.erm_report.specs.declared.answer.Answer.TheVariants as answer
use Rattle.erm_script.specs.declared.script.Command.TheVariants as command
use Rattle.erm_tree.specs.Calls.{AsksReads, DidBy, Reads, SawIn}
use Rattle.erm_tree.specs.Change.{AsksDel, AsksPut, IsDel, IsPrefix, IsPut, StopsChange, StopsPut}
use Rattle.erm_tree.specs.Operations.{CutOffsStutter, IsAnswered, answered}
use Rattle.erm_tree.specs.Reads.{IsMetIn, IsOnWay, IsSought}
use Rattle.erm_tree.specs.Walk.{IsMetByNext, last_sought}
use Rattle.erm_world.specs.World.{View}
use Rattle.erm_lines.specs.Answers.{stop_told}
use Rattle.erm_lines.specs.Whole.{WasAnswered}
use Rattle.erm_lines.proofs.Bridge.{CallsAreRuns, RunsOn, changed, cut_off, face, runs_on, seen}
use Rattle.erm_lines.proofs.Refused.{del_fits, get_fits, next_fits, put_fits, refused}

module _ {S : Type 0} (law : Law) (view : S → View) (seat : S → ℕ) (stands : S → Type 0) (one : S → S → Type 0) (same : SameLaw law sound_law)
    (are_runs : CallsAreRuns law view seat stands one same) where
  on : (s t : S) (step : Step) → IsAnswered (face law view seat stands one same) s step.op step.reply t → seat t ≡ seat s → RunsOn law view seat stands one same s (step ∷ []) t
  on s t step did is = runs_on law view seat stands one same are_runs s t (answered step ∷ []) (t, did, refl) is

  pub get_ok : (s t : S) (table key : ℕ) (value : Option (List ℕ))
      → SawIn (face law view seat stands one same) (IsSought table key) s t (λ rows. value ≡ value_at (map_of_rows rows) table key)
      → WasAnswered (view s) (seat s) (command.Get table key) (answer.Replied (reply.Value value)) (view t)
  get_ok s t table key value did = record {
    fits = tt;
    did = (
      op.Get table key,
      refl,
      seen law view seat stands one same (IsSought table key) s t (λ rows. value ≡ value_at (map_of_rows rows) table key) (record { op = op.Get table key; reply = reply.Value value }) did
          (λ rows is. ap (λ (found : Option (List ℕ)). reply.Value found) is) (λ m. refl) (on s t (record { op = op.Get table key; reply = reply.Value value }) (value, refl, did.saw) did.saw.follows.1),
    );
  }

  pub next_ok : (s t : S) (table from : ℕ) (found : Option (ℕ × List ℕ))
      → SawIn (face law view seat stands one same) (λ rows x. IsMetIn rows table from (last_sought (2 ^ 64) found) x) s t (λ rows. IsNextAt (map_of_rows rows) table from found)
      → WasAnswered (view s) (seat s) (command.Next table from) (answer.Replied (reply.Pair found)) (view t)
  next_ok s t table from found did = record {
    fits = tt;
    did = (
      op.Next table from,
      refl,
      seen law view seat stands one same (λ rows x. IsMetIn rows table from (last_sought (2 ^ 64) found) x) s t (λ rows. IsNextAt (map_of_rows rows) table from found) (record { op = op.Next table from; reply = reply.Pair found }) did
          (λ rows is. (found, refl, is)) (λ m. refl) (on s t (record { op = op.Next table from; reply = reply.Pair found }) (found, refl, did.saw) did.saw.follows.1),
    );
  }

  pub put_ok : (s t : S) (table key : ℕ) (value : List ℕ)
      → DidBy (face law view seat stands one same) (λ rows events. IsPut rows table key (value_row value) events) s t (λ old new. map_of_rows new ≡ insert (map_of_rows old) (at table key) value)
      → WasAnswered (view s) (seat s) (command.Put table key value) (answer.Replied reply.Done) (view t)
  put_ok s t table key value did = record {
    fits = tt;
    did = (
      op.Put table key value,
      refl,
      changed law view seat stands one same (λ rows events. IsPut rows table key (value_row value) events) s t (λ old new. map_of_rows new ≡ insert (map_of_rows old) (at table key) value) (record { op = op.Put table key value; reply = reply.Done }) did
          (λ m. refl) (λ old new is. is) (on s t (record { op = op.Put table key value; reply = reply.Done }) (refl, did.did) did.did.follows.1),
    );
  }

  pub del_ok : (s t : S) (table key : ℕ)
      → DidBy (face law view seat stands one same) (λ rows events. IsDel rows table key absent_row events) s t (λ old new. map_of_rows new ≡ remove (map_of_rows old) (at table key))
      → WasAnswered (view s) (seat s) (command.Del table key) (answer.Replied reply.Done) (view t)
  del_ok s t table key did = record {
    fits = tt;
    did = (
      op.Del table key,
      refl,
      changed law view seat stands one same (λ rows events. IsDel rows table key absent_row events) s t (λ old new. map_of_rows new ≡ remove (map_of_rows old) (at table key)) (record { op = op.Del table key; reply = reply.Done }) did
          (λ m. refl) (λ old new is. is) (on s t (record { op = op.Del table key; reply = reply.Done }) (refl, did.did) did.did.follows.1),
    );
  }

  -- REFUSED.
  reads_none : (objects : Rows → ℕ → Type 0) (es : List Event) → Reads law objects es → WritesNothing es
  reads_none objects es reads = WritesNothing-OnlyReads es reads.only

  pub get_err : {E : Type 0} (r : Result Answer E) (s t : S) (table key : ℕ) (stop : RowStop)
      → CutOffsStutter (face law view seat stands one same) StopsRead (Reads law (IsSought table key)) (AsksReads (IsSought table key))
      → IsStopped (face law view seat stands one same) StopsRead (Reads law (IsSought table key)) (AsksReads (IsSought table key)) s stop t
      → IfOk r (λ a. stop_told stop ≡ Some a) → IfOk r (λ a. WasAnswered (view s) (seat s) (command.Get table key) a (view t))
  get_err r s t table key stop stutters stopped told =
      refused (view s) (seat s) (command.Get table key) (view t) r stop told (get_fits table key stop stopped.refused.named)
      (cut_off law view seat stands one same are_runs StopsRead (Reads law (IsSought table key)) (AsksReads (IsSought table key)) (AsksReads (IsSought table key)) _ s t stop stopped
      (reads_none (IsSought table key)) (λ es kind rows meets agrees. (kind.only, kind.of rows meets agrees)) (λ es rows asked asks. asks) (stutters s t stop stopped)) (λ a did. did)

  pub next_err : {E : Type 0} (r : Result Answer E) (s t : S) (table from : ℕ) (stop : RowStop)
      → CutOffsStutter (face law view seat stands one same) StopsRead (Reads law (IsMetByNext table from)) (AsksReads (IsMetByNext table from))
      → IsStopped (face law view seat stands one same) StopsRead (Reads law (IsMetByNext table from)) (AsksReads (IsMetByNext table from)) s stop t
      → IfOk r (λ a. stop_told stop ≡ Some a) → IfOk r (λ a. WasAnswered (view s) (seat s) (command.Next table from) a (view t))
  next_err r s t table from stop stutters stopped told =
      refused (view s) (seat s) (command.Next table from) (view t) r stop told (next_fits table from stop stopped.refused.named)
      (cut_off law view seat stands one same are_runs StopsRead (Reads law (IsMetByNext table from)) (AsksReads (IsMetByNext table from)) (AsksReads (IsMetByNext table from)) _ s t stop stopped
      (reads_none (IsMetByNext table from)) (λ es kind rows meets agrees. (kind.only, kind.of rows meets agrees)) (λ es rows asked asks. asks) (stutters s t stop stopped)) (λ a did. did)

  pub del_err : {E : Type 0} (r : Result Answer E) (s t : S) (table key : ℕ) (stop : RowStop)
      → CutOffsStutter (face law view seat stands one same) StopsChange (Reads law (IsOnWay table key)) (AsksDel table key)
      → IsStopped (face law view seat stands one same) StopsChange (Reads law (IsOnWay table key)) (AsksDel table key) s stop t
      → IfOk r (λ a. stop_told stop ≡ Some a) → IfOk r (λ a. WasAnswered (view s) (seat s) (command.Del table key) a (view t))
  del_err r s t table key stop stutters stopped told =
      refused (view s) (seat s) (command.Del table key) (view t) r stop told (del_fits table key stop stopped.refused.named)
      (cut_off law view seat stands one same are_runs StopsChange (Reads law (IsOnWay table key)) (AsksDel table key) (AsksDel table key) _ s t stop stopped
      (reads_none (IsOnWay table key)) (λ es kind rows meets agrees. (kind.only, kind.of rows meets agrees)) (λ es rows asked asks. asks) (stutters s t stop stopped)) (λ a did. did)

  pub put_err : {E : Type 0} (r : Result Answer E) (s t : S) (table key : ℕ) (value : List ℕ) (stop : RowStop)
      → CutOffsStutter (face law view seat stands one same) StopsPut (IsPrefix law (IsOnWay table key) (λ rows events. IsPut rows table key (value_row value) events)) (AsksPut table key (value_row value))
      → IsStopped (face law view seat stands one same) StopsPut (IsPrefix law (IsOnWay table key) (λ rows events. IsPut rows table key (value_row value) events)) (AsksPut table key (value_row value)) s stop t
      → IfOk r (λ a. stop_told stop ≡ Some a) → IfOk r (λ a. WasAnswered (view s) (seat s) (command.Put table key value) a (view t))
  put_err r s t table key value stop stutters stopped told =
      refused (view s) (seat s) (command.Put table key value) (view t) r stop told (put_fits table key value stop stopped.refused.named)
      (cut_off law view seat stands one same are_runs StopsPut (IsPrefix law (IsOnWay table key) (λ rows events. IsPut rows table key (value_row value) events)) (AsksPut table key (value_row value)) (AsksPut table key (value_row value)) _ s t stop stopped
      (λ es kind. kind.none) (λ es kind rows meets agrees. (kind.of rows meets agrees, kind.rest rows meets agrees)) (λ es rows asked asks. asks) (stutters s t stop stopped)) (λ a did. did)
