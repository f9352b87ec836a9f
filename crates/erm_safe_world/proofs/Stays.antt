-- What a safe snapshot stands on stays, however the world moves on.
use Rattle.std.proofs.Common.{◌≡◌, ℕ, ◌<◌, ◌≤◌, ⊎_elim, List, inl, inr, sym, subst, arith}
use Rattle.erm_model.specs.declared.history.TransactionRecord.{TransactionRecord}
use Rattle.erm_model.specs.History.{History, IsNewestBelow, IsSnapshot, IsVersion}
use Rattle.erm_model.specs.Member.{◌∈◌}
use Rattle.erm_model.specs.Rows.{Rows}
use Rattle.erm_world.specs.Safe.{IsSafeIn}
use Rattle.erm_world.specs.World.{IsSession, IsCurrent, Opening, View, Work, history_of}
use Rattle.erm_safe_world.specs.Moves.{IsOfNow, MovesOn}

-- whoever is at work, or begins later, begins at a safe stamp or behind
now_late : (v : View) (b begin : ℕ) → IsSafeIn v b → IsOfNow v begin → b ≤ begin
now_late v b begin safe now =
    ⊎_elim
    (λ (one : (seat : ℕ) × (w : Work) × IsSession v seat × IsCurrent (v.session seat).stand w × (w.begin ≡ begin)).
    let late = safe.begins one.0 one.1 one.2 one.3 in let same = one.4 in omega (arith, late, same))
    (λ (later : v.tail ≤ begin). let past = safe.past in omega (arith, past, later))
    now

pub stays_safe : (v t : View) (b : ℕ) → MovesOn v t → IsSafeIn v b → IsSafeIn t b
stays_safe v t b moves safe =
    let up = moves.tail in
    let past = safe.past in
    record {
      past = omega (arith, up, past);
      history = λ r m before after.
          ⊎_elim
          (λ (was : r ∈ history_of v). safe.history r was before after)
          (λ (now : IsOfNow v r.begin). let late = now_late v b r.begin safe now in absurd (omega (arith, late, before)))
          (moves.commits r m);
      begins = λ seat w session working.
          now_late v b w.begin safe
          (moves.works seat w (subst (λ (o : Opening). (0 < seat) × (seat ≤ o.sessions)) moves.opening session) working);
    }

-- a version of a history is one of a longer one
version_stays : (h j : History) (rows : Rows) (oid stamp : ℕ) (row : List ℕ) → ((r : TransactionRecord) → r ∈ h → r ∈ j) → IsVersion h rows oid stamp row → IsVersion j rows oid stamp row
version_stays h j rows oid stamp row kept (inl opening) = inl opening
version_stays h j rows oid stamp row kept (inr made) = inr (made.0, made.1, kept made.0 made.2, made.3, made.4, made.5, made.6)

pub newest_stays : (v t : View) (b oid stamp : ℕ) (row : List ℕ) → MovesOn v t → IsSafeIn v b → IsSnapshot (history_of t) t.opening.rows
    → IsNewestBelow (history_of v) v.opening.rows oid b stamp row → IsNewestBelow (history_of t) t.opening.rows oid b stamp row
newest_stays v t b oid stamp row moves safe snapshots is =
    subst (λ (o : Opening). IsNewestBelow (history_of t) o.rows oid b stamp row) (sym moves.opening)
    (record {
      version = version_stays (history_of v) (history_of t) v.opening.rows oid stamp row moves.kept is.version;
      below = is.below;
      newest = λ u m makes low.
          ⊎_elim
          (λ (was : u ∈ history_of v). is.newest u was makes low)
          (λ (now : IsOfNow v u.begin).
          let late = now_late v b u.begin safe now in
          let sealed = (snapshots u m).sealed in
          absurd (omega (arith, late, sealed, low)))
          (moves.commits u m);
    })
