-- The newest rows below a place, from those below an earlier one.
use Rattle.std.proofs.Common.{◌≡◌, ℕ, ◌<◌, ◌≤◌, ◌⊎◌, ⊎_elim, inl, inr, refl, sym, subst, arith}
use Rattle.erm_model.specs.declared.history.TransactionRecord.{TransactionRecord}
use Rattle.erm_model.specs.declared.history.VersionWritten.{VersionWritten}
use Rattle.erm_model.specs.History.{HasNewestRows, History, IsCertified, IsSnapshot, IsVersion, after_writes}
use Rattle.erm_model.specs.Member.{◌∈◌}
use Rattle.erm_model.specs.Rows.{Rows}
use Rattle.erm_core_ssn.proofs.Chains.{one_transaction}
use Rattle.erm_core_ssn.proofs.RowsRun.{after_writes-other, after_writes-written, written_or_not}

module _ (h : History) (opening : Rows) where
  -- where none commits below a place the opening's rows are the newest
  pub newest_at_first : (at : ℕ) → 0 < at → ((u : TransactionRecord) → u ∈ h → at ≤ u.stamp) → HasNewestRows h opening at opening
  newest_at_first at positive above oid = (
    0,
    record {
      version = inl (refl, refl);
      below = positive;
      newest = λ u of_u makes low. let over = above u of_u in absurd (omega (arith, over, low));
    },
  )

  -- none commits in between
  pub newest_after_none : (at next : ℕ) (rows : Rows) → at ≤ next → ((u : TransactionRecord) → u ∈ h → u.stamp < next → u.stamp < at) → HasNewestRows h opening at rows
      → HasNewestRows h opening next rows
  newest_after_none at next rows above apart holds oid =
      let old = holds oid in (
        old.0,
        record {
          version = old.1.version;
          below = (let b = old.1.below in omega (arith, b, above));
          newest = λ u of_u makes low. old.1.newest u of_u makes (apart u of_u low);
        },
      )

  -- one transaction commits in between, first of all
  pub newest_after_commit : (snapshot : IsSnapshot h opening) (certified : IsCertified h) (t : TransactionRecord) (next : ℕ) (rows : Rows) → t ∈ h → t.stamp < next
      → ((u : TransactionRecord) → u ∈ h → u.stamp < next → (u.stamp < t.stamp) ⊎ (u.stamp ≡ t.stamp)) → HasNewestRows h opening t.stamp rows
      → HasNewestRows h opening next (after_writes t.writes rows)
  newest_after_commit snapshot certified t next rows of_t above apart holds oid =
      ⊎_elim
      (λ (w : (w : VersionWritten) × (w ∈ t.writes) × (w.oid ≡ oid)).
      let set : w.0.row ≡ after_writes t.writes rows oid =
      sym (subst (λ x. after_writes t.writes rows x ≡ w.0.row) w.2 (after_writes-written t.writes rows (snapshot t of_t).once w.0 w.1))
      in (
        t.stamp,
        record {
          version = inr (t, w.0, of_t, refl, w.1, w.2, set);
          below = above;
          newest = λ u of_u makes low.
              ⊎_elim (λ (e : u.stamp < t.stamp). omega (arith, e)) (λ (e : u.stamp ≡ t.stamp). omega (arith, e)) (apart u of_u low);
        },
      ))
      (λ (none : (w : VersionWritten) → w ∈ t.writes → w.oid ≡ oid → ⊥).
      let old = holds oid in (
        old.0,
        record {
          version = subst (λ row. IsVersion h opening oid old.0 row) (sym (after_writes-other t.writes rows oid none)) old.1.version;
          below = (let b = old.1.below in omega (arith, b, above));
          newest = λ u of_u makes low.
              ⊎_elim (λ (e : u.stamp < t.stamp). old.1.newest u of_u makes e)
              (λ (e : u.stamp ≡ t.stamp).
              let one = one_transaction h opening snapshot certified u t of_u of_t e in
              absurd (none makes.0 (subst (λ (x : TransactionRecord). makes.0 ∈ x.writes) one makes.1) makes.2))
              (apart u of_u low);
        },
      ))
      (written_or_not t.writes oid)
