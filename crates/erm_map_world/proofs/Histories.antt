-- A history with one commit more, whose stamp is the greatest.
use Rattle.std.proofs.Common.{◌≡◌, ℕ, ◌<◌, ◌≤◌, ◌⊎◌, List, [], ◌∷◌, ◌++◌, inl, inr, sym, ap, ◌∙◌, arith}
use Rattle.erm_model.specs.declared.history.TransactionRecord.{TransactionRecord}
use Rattle.erm_model.specs.declared.history.VersionWritten.{VersionWritten}
use Rattle.erm_model.specs.History.{CountsForPred, History, IsNewestBelow, IsPredecessorStamp, IsVersion, OverwritesReadOf, OverwritesNewest, ReadsSnapshot, rank_of}
use Rattle.erm_model.specs.Member.{◌∈◌}
use Rattle.erm_model.specs.Rows.{Rows}
use Rattle.erm_model.specs.SerialOrder.{StampsDiffer}
use Rattle.erm_model.proofs.Members.{∈-push, slice_get-push}
use Rattle.erm_world.proofs.Lists.{∈-before}

module _ (h : History) (n : TransactionRecord) (last : (t : TransactionRecord) → t ∈ h → t.stamp < n.stamp) where
  pub version_kept : (rows : Rows) (oid stamp : ℕ) (row : List ℕ) → IsVersion h rows oid stamp row → IsVersion (h ++ n ∷ []) rows oid stamp row
  version_kept rows oid stamp row (inl opening) = inl opening
  version_kept rows oid stamp row (inr made) = inr (made.0, made.1, ∈-before h (n ∷ []) made.0 made.2, made.3, made.4, made.5, made.6)

  -- it is above what lies below a bound
  pub newest_kept : (rows : Rows) (oid bound stamp : ℕ) (row : List ℕ) → bound ≤ n.stamp → IsNewestBelow h rows oid bound stamp row → IsNewestBelow (h ++ n ∷ []) rows oid bound stamp row
  newest_kept rows oid bound stamp row high is = record {
    version = version_kept rows oid stamp row is.version;
    below = is.below;
    newest = λ u within makes below. elim (∈-push h n u within) as (λ _. u.stamp ≤ stamp) [
      | inl before ↦ is.newest u before makes below
      | inr e ↦ absurd (omega (arith, high, below, ap (λ (t : TransactionRecord). t.stamp) e))
    ];
  }

  overwrites_kept : (rows : Rows) (t : TransactionRecord) (w : VersionWritten) → t.stamp ≤ n.stamp → OverwritesNewest h rows t w → OverwritesNewest (h ++ n ∷ []) rows t w
  overwrites_kept rows t w high is = record {
    row = is.row;
    newest = newest_kept rows w.oid t.stamp w.stamp is.row high is.newest;
    first = is.first;
    kept = is.kept;
  }

  pub snapshot_kept : (rows : Rows) (t : TransactionRecord) → t.stamp ≤ n.stamp → ReadsSnapshot h rows t → ReadsSnapshot (h ++ n ∷ []) rows t
  snapshot_kept rows t high is = record {
    begun = is.begun;
    sealed = is.sealed;
    reads = λ r within. newest_kept rows r.oid t.begin r.stamp r.row (omega (arith, is.sealed, high)) (is.reads r within);
    writes = λ w within. overwrites_kept rows t w high (is.writes w within);
    once = is.once;
  }

  -- and counts for none at or below it
  pub pred_kept : (t : TransactionRecord) (pred : ℕ) → t.stamp ≤ n.stamp → IsPredecessorStamp h pred t → IsPredecessorStamp (h ++ n ∷ []) pred t
  pred_kept t pred high is = record {
    at_least_each = λ u counts. elim (∈-push h n u counts.0) as (λ _. u.stamp ≤ pred) [
      | inl before ↦ is.at_least_each u (before, counts.1, counts.2)
      | inr e ↦ absurd (omega (arith, high, counts.1, ap (λ (x : TransactionRecord). x.stamp) e))
    ];
    attained = elim is.attained as (λ _. (pred ≡ 0) ⊎ ((u : TransactionRecord) × CountsForPred (h ++ n ∷ []) t u × (pred ≡ u.stamp))) [
      | inl none ↦ inl none
      | inr some ↦ inr (some.0, (∈-before h (n ∷ []) some.0 some.1.0, some.1.1, some.1.2), some.2)
    ];
  }

  pub differ_push : StampsDiffer rank_of h → StampsDiffer rank_of (h ++ n ∷ [])
  differ_push differ i j a b first second same = elim (slice_get-push h n a i first) as (λ _. i ≡ j) [
    | inl x ↦ elim (slice_get-push h n b j second) as (λ _. i ≡ j) [
      | inl y ↦ differ i j a b x.1 y.1 same
      | inr y ↦ absurd (omega (arith, last a (i, x.1), same, ap (λ (t : TransactionRecord). t.stamp) y.1))
    ]
    | inr x ↦ elim (slice_get-push h n b j second) as (λ _. i ≡ j) [
      | inl y ↦ absurd (omega (arith, last b (j, y.1), same, ap (λ (t : TransactionRecord). t.stamp) x.1))
      | inr y ↦ x.0 ∙ sym y.0
    ]
  ]

-- who began where it committed has overwritten no version that another one read later
pub none_overwrites : (h : History) (rows : Rows) (t u : TransactionRecord) → ReadsSnapshot h rows t → ReadsSnapshot h rows u → t.begin ≡ t.stamp → u.begin ≡ u.stamp
    → u ∈ h → u.stamp < t.stamp → OverwritesReadOf u t → ⊥
none_overwrites h rows t u t_saw u_saw t_begin u_begin within below (r, read, (w, written, same, stamp)) =
    let most : u.stamp ≤ r.stamp = (t_saw.reads r read).newest u within (w, written, same) (omega (arith, below, t_begin)) in
    let less : w.stamp < u.begin = (u_saw.writes w written).first in
    omega (arith, most, less, stamp, u_begin)
