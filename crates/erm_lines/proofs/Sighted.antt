-- The looks of a safe snapshot: it is ready for calls of the tree, each of its reads is one of the rows below its begin stamp, and so is what
-- these calls tell.
use Rattle.std.proofs.Common.{◌≡◌, ℕ, ◌<◌, ◌^◌, List, [], ◌∷◌, Option, Some, inl, inr, refl, sym, ap, subst, arith, Result, Ok, Err, IfOk, IfErr}
use Rattle.std.proofs.lemmas.Result.{IfOk-at_ok}
use Rattle.erm_model.specs.declared.operation.Op.{Op}
use Rattle.erm_model.specs.declared.operation.Op.TheVariants as op
use Rattle.erm_model.specs.declared.operation.Reply.{Reply}
use Rattle.erm_model.specs.declared.operation.Reply.TheVariants as reply
use Rattle.erm_model.specs.declared.outcome.Phase.TheVariants.{Safe}
use Rattle.erm_model.specs.declared.row_stop.RowStop.{RowStop}
use Rattle.erm_model.specs.Database.{AreFound, IsNextAt, value_at}
use Rattle.erm_model.specs.History.{HasNewestRows, IsNewestBelow}
use Rattle.erm_model.specs.Rows.{Rows}
use Rattle.erm_model.specs.RowTransaction.{Does, Event, Face, IsPossible, IsStopped, Law, OnlyReads, Runs, SameLaw, StopsRead, TellsAll, did_claim, did_make, did_read, did_write}
use Rattle.erm_model.specs.Run.{IsReplyOn}
use Rattle.erm_node.specs.Sound.{IsSound, sound_law}
use Rattle.erm_node.specs.TreeMap.{map_of_rows}
use Rattle.erm_report.specs.declared.answer.Answer.TheVariants as answer
use Rattle.erm_script.specs.declared.script.Command.{Command}
use Rattle.erm_script.specs.declared.script.Command.TheVariants as command
use Rattle.erm_tree.specs.Calls.{AsksReads, IsReady, Reads, SawIn}
use Rattle.erm_tree.specs.Reads.{IsMetIn, IsSought}
use Rattle.erm_tree.specs.Walk.{last_sought}
use Rattle.erm_world.specs.Laws.{IsSerializable}
use Rattle.erm_world.specs.Safe.{DidSafeRead}
use Rattle.erm_world.specs.World.{Has, IsCurrent, IsSession, Stand, View, history_of, phase_at, phase_of, work_at, work_of}
use Rattle.erm_world.specs.World as world
use Rattle.erm_good_report.specs.Transactions.{op_of}
use Rattle.erm_lines.specs.Looks.{AreBelow, DidLook, safe_face}
use Rattle.erm_lines.specs.Operations.{IsMetByScan}
use Rattle.erm_lines.specs.Whole.{WasWatched}
use Rattle.erm_lines.proofs.Scanning.{Scanned}
use Rattle.erm_world.proofs.Serial.{serializable_too}

-- a session with a safe snapshot has its work in progress
current_of : (stand : Stand) → phase_of stand ≡ Safe → IsCurrent stand (work_of stand)
current_of world.idle safe = absurd (cc)
current_of (world.active w) safe = absurd (cc)
current_of (world.sealed w stamp) safe = absurd (cc)
current_of (world.snapshot s) safe = refl

begins_above : (v : View) (seat : ℕ) → IsSerializable sound_law v → IsSession v seat → phase_at v seat ≡ Safe → 0 < (work_at v seat).begin
begins_above v seat holds session safe =
    let has : Has v seat (work_at v seat) = inr (current_of (v.session seat).stand safe) in
    omega (arith, holds.opened, (holds.begins seat (work_at v seat) session has).0)

-- below each stamp there are newest rows, which are sound, and one of each object
abbrev pub FindsRows : Type 0
FindsRows = (v : View) (bound : ℕ) → IsSerializable sound_law v → 0 < bound → (rows : Rows) × IsSound rows × HasNewestRows (history_of v) v.opening.rows bound rows

abbrev pub RowsAreOne : Type 0
RowsAreOne = (v : View) (oid bound stamp other : ℕ) (row other_row : List ℕ) → IsSerializable sound_law v → IsNewestBelow (history_of v) v.opening.rows oid bound stamp row
    → IsNewestBelow (history_of v) v.opening.rows oid bound other other_row → row ≡ other_row

module _ {S : Type 0} (law : Law) (view : S → View) (seat : S → ℕ) (stands : S → Type 0) (one : S → S → Type 0) (finds : FindsRows) (rows_are_one : RowsAreOne)
    (serializable : (s : S) → stands s → IsSerializable law (view s)) where
  abbrev pub face : Face S
  face = safe_face law view seat stands one

  sound : (s : S) → face.active s → IsSerializable sound_law (view s)
  sound s active = serializable_too law sound_law (view s) active.0 (serializable s active.1)

  possible : (s : S) → face.active s → IsPossible face s
  possible s active =
      let holds = sound s active in
      let found = finds (view s) (work_at (view s) (seat s)).begin holds (begins_above (view s) (seat s) holds active.2 active.3) in
      (found.0, (active.0.meets found.0).1 found.1, found.2)

  pub ready : (s : S) → face.active s → IsReady face s
  ready s active = record { active = active; possible = possible s active; lawful = λ begun meets fits. (meets, λ x. omega arith) }

  -- what is below in the one state is below in the other, where nothing changed
  back : (s t : S) (begun : Rows) → seat t ≡ seat s → view t ≡ view s → AreBelow (view t) (seat t) begun → AreBelow (view s) (seat s) begun
  back s t begun same is below =
      subst (λ (q : ℕ). AreBelow (view s) q begun) same (subst (λ (v : View). AreBelow v (seat t) begun) is below)

  forth : (s t : S) (begun : Rows) → seat t ≡ seat s → view t ≡ view s → AreBelow (view s) (seat s) begun → AreBelow (view t) (seat t) begun
  forth s t begun same is below =
      subst (λ (q : ℕ). AreBelow (view t) q begun) (sym same) (subst (λ (v : View). AreBelow v (seat s) begun) (sym is) below)

  still_active : (s t : S) → stands t → seat t ≡ seat s → view t ≡ view s → face.active s → face.active t
  still_active s t standing same is active = (
    active.0,
    standing,
    subst (λ (q : ℕ). IsSession (view t) q) (sym same) (subst (λ (v : View). IsSession v (seat s)) (sym is) active.2),
    subst (λ (q : ℕ). phase_at (view t) q ≡ Safe) (sym same) (subst (λ (v : View). phase_at v (seat s) ≡ Safe) (sym is) active.3),
  )

  pub does : (s t : S) (oid : ℕ) (row : List ℕ) → face.active s → stands t → one s t → seat t ≡ seat s → view t ≡ view s → DidSafeRead (view s) (seat s) oid row
      → Does face s (did_read oid row) t
  does s t oid row active standing same_world same is read =
      let then = still_active s t standing same is active in record {
        step = record {
          answered = (same, is, read);
          fitted = λ begun below. back s t begun same is below;
          told = λ begun below.
              let newest = back s t begun same is below oid in
              rows_are_one (view s) oid (work_at (view s) (seat s)).begin newest.0 read.0 (begun oid) row (sound s active) newest.1 read.1;
          seen = λ begun below. refl;
          made = λ x. refl;
          once = λ x. omega arith;
          claims = λ x. (λ claimed. inl claimed, λ claimed. elim claimed as (λ _. ⊥) [ inl before ↦ before | inr now ↦ now ]);
          reads = λ x. (λ read_so. inl tt, λ read_so. tt);
        };
        active = then;
        possible = possible t then;
        follows = (same_world, same, λ before. standing, is);
      }

  -- reads in turn agree with the rows below the begin stamp
  agrees : (es : List Event) (s t : S) → OnlyReads es → Runs face s es t → (rows : Rows) → AreBelow (view s) (seat s) rows → TellsAll law es rows rows
  agrees [] s t only runs rows below = tt
  agrees (did_read oid row ∷ es) s t only (u, step, rest) rows below =
      let on = forth s u rows step.answered.0 step.answered.1 below in
      (step.told rows on, agrees es u t only rest rows on)
  agrees (did_claim oid ∷ es) s t only runs rows below = absurd only
  agrees (did_write oid row ∷ es) s t only runs rows below = absurd only
  agrees (did_make oid ∷ es) s t only runs rows below = absurd only

  looked : (objects : Rows → ℕ → Type 0) (s t : S) (fact : Rows → Type 0) (c : Command) (asked : Op) (r : Reply) → SameLaw law sound_law → op_of c ≡ Some asked
      → SawIn face objects s t fact → ((rows : Rows) → fact rows → IsReplyOn (map_of_rows rows) asked r) → DidLook (view s) (seat s) c r (view t)
  looked objects s t fact c asked r same is did replies = record {
    same = did.saw.follows.3;
    op = asked;
    asked = is;
    reply = λ rows meets below.
        replies rows (did.saw.saw rows ((same.meets rows).1 meets) (agrees did.saw.events s t did.saw.reads did.saw.goes_on.runs rows below));
  }

  pub get_ok : (s t : S) (table key : ℕ) (value : Option (List ℕ)) → SameLaw law sound_law
      → SawIn face (IsSought table key) s t (λ rows. value ≡ value_at (map_of_rows rows) table key)
      → WasWatched (view s) (seat s) (command.Get table key) (answer.Replied (reply.Value value)) (view t)
  get_ok s t table key value same did = record {
    fits = tt;
    did = looked (IsSought table key) s t (λ rows. value ≡ value_at (map_of_rows rows) table key) (command.Get table key) (op.Get table key) (reply.Value value) same refl did
        (λ rows is. ap (λ (found : Option (List ℕ)). reply.Value found) is);
  }

  pub next_ok : (s t : S) (table from : ℕ) (found : Option (ℕ × List ℕ)) → SameLaw law sound_law
      → SawIn face (λ rows x. IsMetIn rows table from (last_sought (2 ^ 64) found) x) s t (λ rows. IsNextAt (map_of_rows rows) table from found)
      → WasWatched (view s) (seat s) (command.Next table from) (answer.Replied (reply.Pair found)) (view t)
  next_ok s t table from found same did = record {
    fits = tt;
    did = looked (λ rows x. IsMetIn rows table from (last_sought (2 ^ 64) found) x) s t (λ rows. IsNextAt (map_of_rows rows) table from found) (command.Next table from) (op.Next table from)
        (reply.Pair found) same refl did (λ rows is. (found, refl, is));
  }

  pub scan_ok : (s t : S) (table low high : ℕ) (found : List (ℕ × List ℕ)) (told : Result (List (ℕ × List ℕ)) RowStop) → SameLaw law sound_law → told ≡ Ok found
      → IfOk told (Scanned face table low high s t) → WasWatched (view s) (seat s) (command.Scan table low high) (answer.Replied (reply.Found found)) (view t)
  scan_ok s t table low high found told same is scanned = record {
    fits = tt;
    did = looked (IsMetByScan table low high) s t (λ rows. AreFound (map_of_rows rows) table low high found) (command.Scan table low high) (op.Scan table low high) (reply.Found found) same refl
        (IfOk-at_ok (Scanned face table low high s t) is scanned) (λ rows is. (found, refl, is));
  }

  -- no look is refused
  pub never_refused : (objects : Rows → ℕ → Type 0) (s t : S) (told : Result (List (ℕ × List ℕ)) RowStop) (stop : RowStop) → told ≡ Err stop
      → IfErr told (λ why. IsStopped face StopsRead (Reads law objects) (AsksReads objects) s why t) → ⊥
  never_refused objects s t told stop is cut =
      (subst (λ (r : Result (List (ℕ × List ℕ)) RowStop). IfErr r (λ why. IsStopped face StopsRead (Reads law objects) (AsksReads objects) s why t)) is cut).refused.stopped
