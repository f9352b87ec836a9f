-- What a history has below a stamp.
use Rattle.std.proofs.Common.{◌≡◌, ℕ, ◌<◌, ◌≤◌, ⊎_elim, List, nat_lt, inl, inr, arith}
use Rattle.std.proofs.lemmas.Bool.{ltb-true, lt-ltb}
use Rattle.erm_model.specs.declared.history.TransactionRecord.{TransactionRecord}
use Rattle.erm_model.specs.declared.history.VersionWritten.{VersionWritten}
use Rattle.erm_model.specs.Member.{◌∈◌}
use Rattle.erm_model.specs.History.{History, IsSnapshot, IsCertified, ReadsSnapshot, OverwritesNewest, IsMade, IsVersion, IsNewestBelow, IsSuccessorStamp, IsPredecessorStamp, CountsForPred, CountsForSucc, HasNewestRows, below}
use Rattle.erm_model.specs.Rows.{Rows}
use Rattle.erm_machine.proofs.Listed.{∈-filter, ∈-filter_from}
use Rattle.erm_core_ssn.proofs.Members.{TellsApart-filter}

module _ (h : History) (bound : ℕ) where
  -- what stands below a stamp
  pub in_below : (t : TransactionRecord) → t ∈ below bound h → (t ∈ h) × (t.stamp < bound)
  in_below t there =
      let found = ∈-filter (λ t. nat_lt t.stamp bound) t h there in
      (found.0, ltb-true t.stamp bound found.1)

  pub in_below_from : (t : TransactionRecord) → t ∈ h → t.stamp < bound → t ∈ below bound h
  in_below_from t of_t low = ∈-filter_from (λ t. nat_lt t.stamp bound) t h of_t (lt-ltb t.stamp bound low)

  -- a version below the stamp is one of the history below it
  pub version_below : (opening : Rows) (oid stamp : ℕ) (row : List ℕ) → IsVersion h opening oid stamp row → stamp < bound → IsVersion (below bound h) opening oid stamp row
  version_below opening oid stamp row version low =
      ⊎_elim
      (λ (first : (stamp ≡ 0) × (row ≡ opening oid)). inl first)
      (λ (made : IsMade h oid stamp row).
      inr (made.0, made.1, in_below_from made.0 made.2 (omega (arith, made.3)), made.3, made.4, made.5, made.6))
      version

  -- the newest version below a smaller stamp stays the newest
  newest_below : (opening : Rows) (oid limit stamp : ℕ) (row : List ℕ) → limit ≤ bound → IsNewestBelow h opening oid limit stamp row → IsNewestBelow (below bound h) opening oid limit stamp row
  newest_below opening oid limit stamp row within newest = record {
    version = version_below opening oid stamp row newest.version (omega (arith, newest.below));
    below = newest.below;
    newest = λ u of_u. newest.newest u (in_below u of_u).0;
  }

  overwrites_below : (opening : Rows) (t : TransactionRecord) (w : VersionWritten) → t.stamp < bound → OverwritesNewest h opening t w → OverwritesNewest (below bound h) opening t w
  overwrites_below opening t w low over = record {
    row = over.row;
    newest = newest_below opening w.oid t.stamp w.stamp over.row (omega arith) over.newest;
    first = over.first;
    kept = over.kept;
  }

  -- the history below a stamp is a snapshot history
  pub snapshot_below : (opening : Rows) → IsSnapshot h opening → IsSnapshot (below bound h) opening
  snapshot_below opening snapshot t there =
      let of_t = in_below t there in
      let own : ReadsSnapshot h opening t = snapshot t of_t.0 in
      record {
        begun = own.begun;
        sealed = own.sealed;
        reads = λ r of_r. newest_below opening r.oid t.begin r.stamp r.row (omega (arith, own.sealed, of_t.1)) (own.reads r of_r);
        writes = λ w of_w. overwrites_below opening t w of_t.1 (own.writes w of_w);
        once = own.once;
      }

  succ_below : (t : TransactionRecord) → t.stamp < bound → IsSuccessorStamp h (λ u. u.succ) t → IsSuccessorStamp (below bound h) (λ u. u.succ) t
  succ_below t low succ = record {
    at_most_own = succ.at_most_own;
    at_most_each = λ u counts. succ.at_most_each u ((in_below u counts.0).0, counts.1, counts.2);
    attained =
        ⊎_elim
        (λ (own : t.succ ≡ t.stamp). inl own)
        (λ (of : (u : TransactionRecord) × CountsForSucc h t u × (t.succ ≡ u.succ)).
        inr (of.0, (in_below_from of.0 of.1.0 (omega (arith, of.1.1)), of.1.1, of.1.2), of.2))
        succ.attained;
  }

  pred_below : (t : TransactionRecord) → t.stamp < bound → IsPredecessorStamp h t.pred t → IsPredecessorStamp (below bound h) t.pred t
  pred_below t low pred = record {
    at_least_each = λ u counts. pred.at_least_each u ((in_below u counts.0).0, counts.1, counts.2);
    attained =
        ⊎_elim
        (λ (none : t.pred ≡ 0). inl none)
        (λ (of : (u : TransactionRecord) × CountsForPred h t u × (t.pred ≡ u.stamp)).
        inr (of.0, (in_below_from of.0 of.1.0 (omega (arith, of.1.1)), of.1.1, of.1.2), of.2))
        pred.attained;
  }

  -- the history below a stamp is certified
  pub certified_below : IsCertified h → IsCertified (below bound h)
  certified_below certified = record {
    differ = TellsApart-filter (λ t. t.stamp) (λ t. nat_lt t.stamp bound) h certified.differ;
    succ = λ t there. succ_below t (in_below t there).1 (certified.succ t (in_below t there).0);
    pred = λ t there. pred_below t (in_below t there).1 (certified.pred t (in_below t there).0);
    window = λ t there. certified.window t (in_below t there).0;
  }

  -- the newest version of the history below a stamp is the newest below it
  pub newest_from_below : (opening rows : Rows) → HasNewestRows (below bound h) opening bound rows → HasNewestRows h opening bound rows
  newest_from_below opening rows holds oid =
      let newest = (holds oid).1 in (
        (holds oid).0,
        record {
          version =
              ⊎_elim
              (λ (first : ((holds oid).0 ≡ 0) × (rows oid ≡ opening oid)). inl first)
              (λ (made : IsMade (below bound h) oid (holds oid).0 (rows oid)).
              inr (made.0, made.1, (in_below made.0 made.2).0, made.3, made.4, made.5, made.6))
              newest.version;
          below = newest.below;
          newest = λ u of_u makes low. newest.newest u (in_below_from u of_u low) makes low;
        },
      )
