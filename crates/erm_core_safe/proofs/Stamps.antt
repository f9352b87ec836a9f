-- Passed stamps are safe, and below them all is over.
use Rattle.std.proofs.Common.{◌≡◌, ◌≢◌, ℕ, ◌<◌, ◌≤◌, ⊎_elim, true, refl, sym, ap, subst, arith}
use Rattle.erm_model.specs.declared.history.TransactionRecord.{TransactionRecord}
use Rattle.erm_model.specs.History.{IsNewestBelow}
use Rattle.erm_model.specs.Member.{◌∈◌}
use Rattle.erm_model.proofs.Members.{∈-push}
use Rattle.erm_machine.specs.declared.attempt.Attempt.{Attempt}
use Rattle.erm_machine.specs.declared.attempt.Decision.TheVariants.{Undecided, Commit}
use Rattle.erm_machine.specs.declared.limits.TheConstants.{OBJECT_LIMIT}
use Rattle.erm_machine.specs.Back.{IsLeaving, IsSafeCommit}
use Rattle.erm_machine.specs.Core.{Core, version_at}
use Rattle.erm_machine.specs.Decided.{history_of}
use Rattle.erm_machine.specs.Facts.{HasBegun, HoldsBelow, all_of}
use Rattle.erm_machine.specs.Lawful.{opening_rows}
use Rattle.erm_machine.specs.Seat.{is_safe}
use Rattle.erm_machine.specs.Snapshot.{IsNewestAt}
use Rattle.erm_machine.specs.Sound.{Sound}
use Rattle.erm_machine.proofs.Histories.{history_has}
use Rattle.erm_core_si.proofs.SnapshotSafe.{nobody_holds, none_holds}
use Rattle.erm_core_si.proofs.SnapshotSteps.{current_stands}
use Rattle.erm_core_ssn.proofs.RowsHistory.{newest_below}
use Rattle.erm_model.specs.Safe.{IsSafeAt}
use Rattle.erm_core_safe.specs.Passed.{ArePassed}
use Rattle.erm_core_safe.proofs.Sessions.{commit_there, commits_session, open_there}

module _ (c : Core) (b : ℕ) (sound : Sound c) (passed : ArePassed b c) where
  -- each commit is safe
  commit_safe : (q : ℕ) (t : Attempt) → t ∈ all_of (c.seats q) → t.decision ≡ Commit → IsSafeCommit b t
  commit_safe q t m commit =
      let of = passed.sessions q (commits_session c sound q t m commit) in
      ⊎_elim (λ (over : t ∈ (c.seats q).over). of.over t over)
      (λ (is : t ≡ (c.seats q).current).
      subst (IsSafeCommit b) (sym is)
      (⊎_elim (λ (begun : HasBegun (c.seats q).place). λ _ before _. let late = of.begun begun in absurd (omega (arith, late, before)))
      (λ (leaves : IsLeaving (c.seats q).place). of.leaving leaves) (commit_there c sound q (subst (λ (u : Attempt). u.decision ≡ Commit) is commit)).0))
      (∈-push (c.seats q).over (c.seats q).current t m)

  pub stamp_safe : IsSafeAt (history_of c.seats) b
  stamp_safe u m before after =
      let has = history_has c.seats u m in
      let t = has.attempt in
      let begin = ap (λ (r : TransactionRecord). r.begin) has.is in
      let stamp = ap (λ (r : TransactionRecord). r.stamp) has.is in
      let succ = ap (λ (r : TransactionRecord). r.succ) has.is in
      let safe : b ≤ t.succ = commit_safe has.seat t has.stands has.commit has.commit (omega (arith, begin, before)) (omega (arith, stamp, after)) in
      omega (arith, safe, succ)

  pub none_below : (oid q : ℕ) → HoldsBelow (c.seats q) oid b → ⊥
  none_below oid q holds = none_holds c sound b q (λ session begun. (passed.sessions q session).begun begun) oid holds

  -- a range that isn't decided would be of one that began at the stamp or later
  open_above : (q : ℕ) → 0 < (c.seats q).current.stamp → (c.seats q).current.stamp < b → (c.seats q).current.decision ≡ Undecided → ⊥
  open_above q some low none =
      let there = open_there c sound q some none in
      let late = (passed.sessions q there.1).begun there.0 in
      let sealed = ((sound.own q).lives.sealed (c.seats q).current (current_stands (c.seats q)) some).1 in
      omega (arith, late, sealed, low)

  pub below_decided : (q : ℕ) (t : Attempt) → t ∈ all_of (c.seats q) → 0 < t.stamp → t.stamp < b → t.decision ≢ Undecided
  below_decided q t m some low =
      ⊎_elim (λ (over : t ∈ (c.seats q).over). (sound.own q).ranges.decided t over)
      (λ (is : t ≡ (c.seats q).current). λ none.
      open_above q (subst (λ (a : Attempt). 0 < a.stamp) is some) (subst (λ (a : Attempt). a.stamp < b) is low) (subst (λ (a : Attempt). a.decision ≡ Undecided) is none))
      (∈-push (c.seats q).over (c.seats q).current t m)

pub reads_snapshot : (c : Core) (p oid place stamp : ℕ) → Sound c → is_safe (c.seats p).task ≡ true → oid < OBJECT_LIMIT
    → IsNewestAt (c.shared.objects oid) place (c.seats p).current.begin stamp
    → IsNewestBelow (history_of c.seats) (opening_rows c.shared) oid (c.seats p).current.begin stamp (version_at (c.shared.objects oid) place).words.row
reads_snapshot c p oid place stamp sound safe known newest =
    newest_below c sound p (c.seats p).current oid place stamp (version_at (c.shared.objects oid) place).words.row (current_stands (c.seats p))
    (record {
      known = known;
      within = newest.within;
      stamp_is = newest.stamp_is;
      newer = newest.newer;
      apart = λ q other holds. nobody_holds c p sound safe q (λ e. other (sym e)) oid holds;
    })
    newest.below refl
