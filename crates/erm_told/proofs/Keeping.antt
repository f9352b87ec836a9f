-- Snapshots that were told safe stay so: the rows below their begin stamps stay, and each look is on these.
use Rattle.std.proofs.Common.{◌≡◌, ℕ, ◌<◌, ◌≤◌, List, [], ◌∷◌, ◌++◌, Some, refl, sym, ap, ◌∙◌, subst, inl, inr, ⊎_elim, arith}
use Rattle.erm_model.specs.declared.operation.Op.{Op}
use Rattle.erm_model.specs.declared.operation.Op.TheVariants.{Get, Next, Scan}
use Rattle.erm_model.specs.Database.{Database}
use Rattle.erm_model.specs.History.{HasNewestRows, IsNewestBelow, IsSnapshot, IsVersion}
use Rattle.erm_model.specs.Member.{◌∈◌}
use Rattle.erm_model.specs.Rows.{Rows}
use Rattle.erm_model.specs.Run.{IsReply, IsReplyOn, RunsOne, Saving, Step, after, after_from, begins, ops_of}
use Rattle.erm_model.proofs.Runs.{RunsOne-push}
use Rattle.erm_node.specs.Sound.{IsSound}
use Rattle.erm_node.specs.TreeMap.{map_of_rows}
use Rattle.erm_safe_laws.specs.Safe.{AreReadings, IsReading}
use Rattle.erm_safe_world.specs.Moves.{IsOfNow, MovesOn}
use Rattle.erm_world.specs.Safe.{IsSafeIn}
use Rattle.erm_world.specs.World.{IsSession, IsCurrent, Opening, View, Work, history_of}
use Rattle.erm_told.specs.Snapshots.{IsKeptSafe}
use Rattle.erm_good_report.specs.Transactions.{Snapshot, looks_of}

-- whoever is at work, or begins later, begins at a safe stamp or behind
late_now : (v : View) (b begin : ℕ) → IsSafeIn v b → IsOfNow v begin → b ≤ begin
late_now v b begin safe now =
    ⊎_elim
    (λ (one : (seat : ℕ) × (w : Work) × IsSession v seat × IsCurrent (v.session seat).stand w × (w.begin ≡ begin)).
    let late = safe.begins one.0 one.1 one.2 one.3 in omega (arith, late, one.4))
    (λ (later : v.tail ≤ begin). let past = safe.past in omega (arith, past, later))
    now

-- a version below a safe stamp was there before
version_back : (v t : View) (b oid stamp : ℕ) (row : List ℕ) → MovesOn v t → IsSafeIn v b → IsSnapshot (history_of t) t.opening.rows → stamp < b
    → IsVersion (history_of t) v.opening.rows oid stamp row → IsVersion (history_of v) v.opening.rows oid stamp row
version_back v t b oid stamp row moves safe snapshots below (inl opening) = inl opening
version_back v t b oid stamp row moves safe snapshots below (inr (u, w, made, at, writes, of, is)) =
    inr (
      u,
      w,
      ⊎_elim (λ (was : u ∈ history_of v). was)
          (λ (now : IsOfNow v u.begin).
          let late = late_now v b u.begin safe now in
          let sealed = (snapshots u made).sealed in
          absurd (omega (arith, late, sealed, at, below)))
          (moves.commits u made),
      at,
      writes,
      of,
      is,
    )

newest_back : (v t : View) (b oid stamp : ℕ) (row : List ℕ) → MovesOn v t → IsSafeIn v b → IsSnapshot (history_of t) t.opening.rows
    → IsNewestBelow (history_of t) t.opening.rows oid b stamp row → IsNewestBelow (history_of v) v.opening.rows oid b stamp row
newest_back v t b oid stamp row moves safe snapshots is =
    let there = subst (λ (o : Opening). IsNewestBelow (history_of t) o.rows oid b stamp row) moves.opening is in record {
      version = version_back v t b oid stamp row moves safe snapshots there.below there.version;
      below = there.below;
      newest = λ u m makes low. there.newest u (moves.kept u m) makes low;
    }

-- so the newest rows below it are those of before
rows_back : (v t : View) (b : ℕ) (rows : Rows) → MovesOn v t → IsSafeIn v b → IsSnapshot (history_of t) t.opening.rows → HasNewestRows (history_of t) t.opening.rows b rows
    → HasNewestRows (history_of v) v.opening.rows b rows
rows_back v t b rows moves safe snapshots newest oid =
    let found = newest oid in (found.0, newest_back v t b oid found.0 (rows oid) moves safe snapshots found.1)

-- A snapshot that is kept safe, is kept so by a move.
pub kept_on : ((v t : View) (b : ℕ) → MovesOn v t → IsSafeIn v b → IsSafeIn t b) → (v t : View) (s : Snapshot) (begin : ℕ) → MovesOn v t → IsSnapshot (history_of t) t.opening.rows
    → IsKeptSafe v s begin → IsKeptSafe t s begin
kept_on stays v t s begin moves snapshots kept = record {
  stays = record {
    told = kept.stays.told;
    safe = stays v t begin moves kept.stays.safe;
    replies = λ rows sound newest. kept.stays.replies rows sound (rows_back v t begin rows moves kept.stays.safe snapshots newest);
  };
  reads = kept.reads;
}

-- and by a line that leaves its begin stamp and looks
pub kept_like : (v : View) (s r : Snapshot) (begin : ℕ) → s.begin ≡ r.begin → looks_of s ≡ looks_of r → IsKeptSafe v r begin → IsKeptSafe v s begin
kept_like v s r begin same looks kept = record {
  stays = record {
    told = same ∙ kept.stays.told;
    safe = kept.stays.safe;
    replies = λ rows sound newest. subst (λ (steps : List Step). RunsOne (map_of_rows rows) steps) (sym looks) (kept.stays.replies rows sound newest);
  };
  reads = subst AreReadings (sym looks) kept.reads;
}

-- READINGS leave the map.
reading_leaves : (op : Op) (s : Saving Database) → IsReading op → after op s ≡ s
reading_leaves (Get table key) s r = refl
reading_leaves (Next table from) s r = refl
reading_leaves (Scan table low high) s r = refl
reading_leaves op s r = absurd r

readings_leave : (steps : List Step) (s : Saving Database) → AreReadings steps → after_from (ops_of steps) s ≡ s
readings_leave [] s all = refl
readings_leave (step ∷ steps) s all = ap (after_from (ops_of steps)) (reading_leaves step.op s all.0) ∙ readings_leave steps s all.1

readings_push : (steps : List Step) (step : Step) → AreReadings steps → IsReading step.op → AreReadings (steps ++ step ∷ [])
readings_push [] step all one = (one, tt)
readings_push (first ∷ steps) step all one = (all.0, readings_push steps step all.1 one)

-- a look more
pub kept_with : (v : View) (s r : Snapshot) (begin : ℕ) (step : Step) → s.begin ≡ r.begin → looks_of s ≡ looks_of r ++ step ∷ [] → IsReading step.op
    → ((rows : Rows) → IsSound rows → HasNewestRows (history_of v) v.opening.rows begin rows → IsReplyOn (map_of_rows rows) step.op step.reply) → IsKeptSafe v r begin → IsKeptSafe v s begin
kept_with v s r begin step same looks reads reply kept = record {
  stays = record {
    told = same ∙ kept.stays.told;
    safe = kept.stays.safe;
    replies = λ rows sound newest.
        let m = map_of_rows rows in
        subst (λ (steps : List Step). RunsOne m steps) (sym looks)
        (RunsOne-push m (looks_of r) step (kept.stays.replies rows sound newest)
        (subst (λ (s : Saving Database). IsReply s step.op step.reply) (sym (readings_leave (looks_of r) (begins m) kept.reads)) (reply rows sound newest)));
  };
  reads = subst AreReadings (sym looks) (readings_push (looks_of r) step kept.reads reads);
}

-- one that was just told safe, and has looked at nothing
pub kept_new : (v : View) (s : Snapshot) (begin : ℕ) → s.begin ≡ Some begin → looks_of s ≡ [] → IsSafeIn v begin → IsKeptSafe v s begin
kept_new v s begin told looks safe = record {
  stays = record {
    told = told;
    safe = safe;
    replies = λ rows sound newest. subst (λ (steps : List Step). RunsOne (map_of_rows rows) steps) (sym looks) tt;
  };
  reads = subst AreReadings (sym looks) tt;
}
