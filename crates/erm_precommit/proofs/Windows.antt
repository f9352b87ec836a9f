-- The ends of the exclusion window, once all versions are passed.
use Rattle.std.proofs.Common.{◌≡◌, ℕ, ◌<◌, ◌≤◌, ◌⊎◌, ⊎_elim, true, length, sym, ap, ◌∙◌, subst, inl, inr, arith}
use Rattle.erm_model.specs.declared.history.TransactionRecord.{TransactionRecord}
use Rattle.erm_model.specs.declared.history.VersionRead.{VersionRead}
use Rattle.erm_model.specs.declared.history.VersionWritten.{VersionWritten}
use Rattle.erm_model.specs.History.{IsPredecessorStamp, IsSuccessorStamp, Overwrites, OverwritesFrom, OverwritesReadOf, ReadsFrom}
use Rattle.erm_model.specs.Member.{◌∈◌}
use Rattle.erm_machine.specs.declared.attempt.Attempt.{Attempt}
use Rattle.erm_machine.specs.declared.part.Part.{Part}
use Rattle.erm_machine.specs.declared.place.Place.{Place}
use Rattle.erm_machine.specs.declared.place.Place.TheVariants.{Sealed}
use Rattle.erm_machine.specs.declared.task.Task.{Task}
use Rattle.erm_machine.specs.declared.task.Task.TheVariants as task
use Rattle.erm_machine.specs.Core.{Core, claim_at}
use Rattle.erm_machine.specs.Decided.{history_of, record_of, reads_rated, writes_rated, IsOpen, MayCommit, RunningFits}
use Rattle.erm_machine.specs.Seat.{is_sealed, read_at}
use Rattle.erm_machine.specs.Sound.{Sound}
use Rattle.erm_core_ssn.proofs.DecidedDecide.{all_counted, bound_own}
use Rattle.erm_core_ssn.proofs.DecidedOpen.{claim_place, read_place}
use Rattle.erm_core_ssn.proofs.DecidedSettles.{sealed_open}
use Rattle.erm_rule.specs.declared.view.View.{View}
use Rattle.erm_rule.specs.Views.{part_of, IsView}
use Rattle.erm_precommit.specs.declared.pre.Pre.{Pre}
use Rattle.erm_precommit.specs.Settle.{task_of, HasWindow, IsReady, Stands}
use Rattle.erm_precommit.proofs.Standing.{has}

pub sealed_commits : (pl : Place) (t : Task) → is_sealed pl ≡ true → MayCommit pl t
sealed_commits (Sealed tail stamp) t e = tt
sealed_commits _ t e = absurd (cc)

module _ (c : Core) (p : ℕ) (sound : Sound c) (sealed : is_sealed (c.seats p).place ≡ true)
    (passed : (c.seats p).task ≡ task.Settles (length (c.seats p).current.reads) (length (c.seats p).current.writes)) where
  abbrev own : Attempt
  own = (c.seats p).current

  opened : IsOpen own
  opened = sealed_open c p sound sealed

  running : RunningFits (history_of c.seats) c.shared.tail p (c.seats p)
  running = sound.common.decided.running p opened.1 (sealed_commits (c.seats p).place (c.seats p).task sealed)

  all_reads : (k : ℕ) → k < length own.reads → k < reads_rated (c.seats p).task (length own.reads)
  all_reads k within = subst (λ (u : Task). k < reads_rated u (length (c.seats p).current.reads)) (sym passed) within

  all_writes : (k : ℕ) → k < length own.writes → k < writes_rated (c.seats p).task (length own.writes)
  all_writes k within = subst (λ (u : Task). k < writes_rated u (length (c.seats p).current.writes)) (sym passed) within

  -- the successor stamp is the definition's
  pub successor : IsSuccessorStamp (history_of c.seats) (λ u. u.succ) (record_of p own)
  successor = record {
    at_most_own = (running.succ_own opened.0).1;
    at_most_each = λ u counts.
        let r = read_place own counts.2.0 counts.2.1 in
        running.succ_least u counts.0 counts.1 (
          r.place,
          all_reads r.place r.within,
          r.within,
          subst (λ (v : VersionRead). Overwrites u v.oid v.stamp) (sym r.is) counts.2.2,
        );
    attained = ⊎_elim (λ e. inl e)
        (λ each. inr (each.0, (each.1, subst (λ (n : ℕ). each.0.stamp < n) (bound_own c.shared.tail own opened.0) each.2, each.3), each.4))
        running.succ_attained;
  }

  -- the predecessor stamp is the definition's
  pub predecessor : IsPredecessorStamp (history_of c.seats) own.pred (record_of p own)
  predecessor = record {
    at_least_each = λ u counts. ⊎_elim (read_from u) (λ rest. ⊎_elim (overwrote u) (was_read u counts.0 counts.1) rest) counts.2;
    attained = ⊎_elim (λ e. inl e)
        (λ each. inr (
          each.0,
          (
            each.1,
            subst (λ (n : ℕ). each.0.stamp < n) (bound_own c.shared.tail own opened.0) each.2,
            subst (λ (t : Attempt). ReadsFrom (record_of p t) each.0 ⊎ OverwritesFrom (record_of p t) each.0 ⊎ OverwritesReadOf (record_of p t) each.0) (all_counted own opened.0) each.4,
          ),
          each.3,
        ))
        running.pred_attained;
  }
    where
      read_from : (u : TransactionRecord) → ReadsFrom (record_of p own) u → u.stamp ≤ own.pred
      read_from u from =
          let r = read_place own from.0 from.1 in
          let e : (read_at own r.place).stamp ≡ u.stamp = ap (λ (v : VersionRead). v.stamp) r.is ∙ from.2 in
          let h = running.pred_reads r.place r.within in omega (arith, e, h)

      overwrote : (u : TransactionRecord) → OverwritesFrom (record_of p own) u → u.stamp ≤ own.pred
      overwrote u from =
          let w = claim_place own from.0 from.1 in
          let e : (claim_at own w.place).stamp ≡ u.stamp = ap (λ (v : VersionWritten). v.stamp) w.is ∙ from.2 in
          let h = running.pred_writes w.place (all_writes w.place w.within) w.within in omega (arith, e, h)

      was_read : (u : TransactionRecord) → u ∈ history_of c.seats → u.stamp < own.stamp → OverwritesReadOf (record_of p own) u → u.stamp ≤ own.pred
      was_read u m low over =
          let w = claim_place own over.2.0 over.2.1 in
          let oid : over.0.oid ≡ (claim_at own w.place).version.oid = sym over.2.2 ∙ sym (ap (λ (v : VersionWritten). v.oid) w.is) in
          let stamp : over.0.stamp ≡ (claim_at own w.place).stamp = sym over.2.3 ∙ sym (ap (λ (v : VersionWritten). v.stamp) w.is) in
          running.pred_readers u m low (w.place, all_writes w.place w.within, w.within, (over.0, over.1, oid, stamp))

-- all versions are passed: the numbers kept are the definitions'
module _ (pre : Pre) (v : View) (who : ℕ) (stands : Stands pre v who) (passed : task_of v who ≡ task.Settles (length pre.reads.value.items) (length pre.claims.value.items)) where
  abbrev x : Part
  x = part_of v who

  passed_all : task_of v who ≡ task.Settles (length x.current.reads) (length x.current.writes)
  passed_all = passed ∙ ap (λ (n : ℕ). task.Settles n (length pre.claims.value.items)) stands.kept.read_count ∙ ap (λ (n : ℕ). task.Settles (length x.current.reads) n) stands.kept.claim_count

  window : (c : Core) → Sound c → IsView v c → HasWindow c who pre.succ pre.pred
  window c sound is =
      let here : x ≡ c.seats who = sym (is who x (has v who stands.sealed)) in
      let sealed : is_sealed (c.seats who).place ≡ true = subst (λ (z : Part). is_sealed z.place ≡ true) here stands.sealed in
      let at : (c.seats who).task ≡ task.Settles (length (c.seats who).current.reads) (length (c.seats who).current.writes) =
      subst (λ (z : Part). z.task ≡ task.Settles (length z.current.reads) (length z.current.writes)) here passed_all in
      let pred : pre.pred ≡ (c.seats who).current.pred = stands.kept.pred ∙ ap (λ (z : Part). z.current.pred) here in
      record {
        succ_is = sym (stands.kept.succ ∙ ap (λ (z : Part). z.current.succ) here);
        pred_is = sym pred;
        successor = successor c who sound sealed at;
        predecessor = subst (λ (n : ℕ). IsPredecessorStamp (history_of c.seats) n (record_of who (c.seats who).current)) (sym pred) (predecessor c who sound sealed at);
      }

  pub is_ready : IsReady v who pre.succ pre.pred
  is_ready = record { task_is = passed_all; window = window }
