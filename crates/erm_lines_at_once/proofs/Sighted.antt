-- The looks of a safe snapshot of a session beside others: it is ready for calls of the tree, and what these tell is so of the rows below its begin
-- stamp, in each world in which all may end.
use Rattle.std.proofs.Common.{◌≡◌, ℕ, ◌^◌, List, Option, Some, refl, ap, subst, arith, Result, Ok, Err, IfOk, IfErr}
use Rattle.std.proofs.lemmas.Result.{IfOk-at_ok}
use Rattle.erm_model.specs.declared.operation.Op.{Op}
use Rattle.erm_model.specs.declared.operation.Op.TheVariants as op
use Rattle.erm_model.specs.declared.operation.Reply.{Reply}
use Rattle.erm_model.specs.declared.operation.Reply.TheVariants as reply
use Rattle.erm_model.specs.declared.row_stop.RowStop.{RowStop}
use Rattle.erm_model.specs.Database.{AreFound, IsNextAt, value_at}
use Rattle.erm_model.specs.Rows.{Rows}
use Rattle.erm_model.specs.RowTransaction.{Face, IsStopped, Law, SameLaw, StopsRead}
use Rattle.erm_model.specs.Run.{IsReplyOn}
use Rattle.erm_node.specs.Sound.{sound_law}
use Rattle.erm_node.specs.TreeMap.{map_of_rows}
use Rattle.erm_report.specs.declared.answer.Answer.TheVariants as answer
use Rattle.erm_script.specs.declared.script.Command.{Command}
use Rattle.erm_script.specs.declared.script.Command.TheVariants as command
use Rattle.erm_tree.specs.Calls.{AsksReads, IsReady, Reads, SawIn}
use Rattle.erm_tree.specs.Reads.{IsMetIn, IsSought}
use Rattle.erm_tree.specs.Walk.{last_sought}
use Rattle.erm_world.specs.Laws.{IsSerializable}
use Rattle.erm_world.specs.World.{View}
use Rattle.erm_good_report.specs.Transactions.{op_of}
use Rattle.erm_lines.specs.Operations.{IsMetByScan}
use Rattle.erm_lines.proofs.Scanning.{Scanned}
use Rattle.erm_beside.specs.Laws.{IsWithin}
use Rattle.erm_beside.specs.SafeFace.{safe_beside_face}
use Rattle.erm_beside.proofs.SafeTxns.{possible, saw_below}
use Rattle.erm_lines_at_once.specs.Answers.{WasWatchedBeside}
use Rattle.erm_lines_at_once.specs.Looks.{DidLookBeside}

module _ {S : Type 0} (law : Law) (own : S → View) (seat : S → ℕ) (stands : S → Type 0) (ends : S → View → Type 0) (one : S → S → Type 0)
    (within : (s : S) (f : View) → ends s f → IsWithin (seat s) (own s) f) (some : (s : S) → stands s → (f : View) × ends s f) (lasting : (s : S) (f : View) → ends s f → IsSerializable law f)
    (same : SameLaw law sound_law) where
  abbrev pub face : Face S
  face = safe_beside_face law own seat stands ends one

  pub ready : (s : S) → face.active s → IsReady face s
  ready s active = record {
    active = active;
    possible = possible law own seat stands ends one within some lasting s active;
    lawful = λ begun meets fits. (meets, λ x. omega arith);
  }

  looked : (objects : Rows → ℕ → Type 0) (s t : S) (fact : Rows → Type 0) (c : Command) (asked : Op) (r : Reply) → op_of c ≡ Some asked
      → SawIn face objects s t fact → ((rows : Rows) → fact rows → IsReplyOn (map_of_rows rows) asked r) → (f : View) → ends t f → DidLookBeside f (seat s) c r (own s) (own t)
  looked objects s t fact c asked r is did replies f end = record {
    passes = did.saw.follows.3;
    op = asked;
    asked = is;
    reply = λ rows sound below.
        replies rows (saw_below law own seat stands ends one within some lasting s t fact did.saw f end rows ((same.meets rows).1 sound) below);
  }

  pub got : (s t : S) (table key : ℕ) (value : Option (List ℕ)) → SawIn face (IsSought table key) s t (λ rows. value ≡ value_at (map_of_rows rows) table key) → (f : View) → ends t f
      → WasWatchedBeside f (seat s) (command.Get table key) (answer.Replied (reply.Value value)) (own s) (own t)
  got s t table key value did f end = record {
    fits = tt;
    did = looked (IsSought table key) s t (λ rows. value ≡ value_at (map_of_rows rows) table key) (command.Get table key) (op.Get table key) (reply.Value value) refl did
        (λ rows is. ap (λ (found : Option (List ℕ)). reply.Value found) is) f end;
  }

  pub found_next : (s t : S) (table from : ℕ) (found : Option (ℕ × List ℕ))
      → SawIn face (λ rows x. IsMetIn rows table from (last_sought (2 ^ 64) found) x) s t (λ rows. IsNextAt (map_of_rows rows) table from found) → (f : View) → ends t f
      → WasWatchedBeside f (seat s) (command.Next table from) (answer.Replied (reply.Pair found)) (own s) (own t)
  found_next s t table from found did f end = record {
    fits = tt;
    did = looked (λ rows x. IsMetIn rows table from (last_sought (2 ^ 64) found) x) s t (λ rows. IsNextAt (map_of_rows rows) table from found) (command.Next table from) (op.Next table from)
        (reply.Pair found) refl did (λ rows is. (found, refl, is)) f end;
  }

  pub scanned : (s t : S) (table low high : ℕ) (found : List (ℕ × List ℕ)) (told : Result (List (ℕ × List ℕ)) RowStop) → told ≡ Ok found → IfOk told (Scanned face table low high s t)
      → (f : View) → ends t f → WasWatchedBeside f (seat s) (command.Scan table low high) (answer.Replied (reply.Found found)) (own s) (own t)
  scanned s t table low high found told is was f end = record {
    fits = tt;
    did = looked (IsMetByScan table low high) s t (λ rows. AreFound (map_of_rows rows) table low high found) (command.Scan table low high) (op.Scan table low high) (reply.Found found) refl
        (IfOk-at_ok (Scanned face table low high s t) is was) (λ rows so. (found, refl, so)) f end;
  }

  -- no look is refused
  pub never_refused : (objects : Rows → ℕ → Type 0) (s t : S) (told : Result (List (ℕ × List ℕ)) RowStop) (stop : RowStop) → told ≡ Err stop
      → IfErr told (λ why. IsStopped face StopsRead (Reads law objects) (AsksReads objects) s why t) → ⊥
  never_refused objects s t told stop is cut =
      (subst (λ (r : Result (List (ℕ × List ℕ)) RowStop). IfErr r (λ why. IsStopped face StopsRead (Reads law objects) (AsksReads objects) s why t)) is cut).refused.stopped
