-- What the machine has committed keeps the law of rows.
use Rattle.std.proofs.Common.{◌≡◌, ℕ, subst, arith}
use Rattle.erm_model.specs.declared.history.TransactionRecord.{TransactionRecord}
use Rattle.erm_model.specs.declared.history.VersionWritten.{VersionWritten}
use Rattle.erm_model.specs.History.{IsNewestBelow, IsVersion}
use Rattle.erm_model.specs.Lawful.{IsLawfulRecord}
use Rattle.erm_model.specs.Member.{◌∈◌}
use Rattle.erm_model.specs.RowTransaction.{Law}
use Rattle.erm_machine.specs.declared.limits.TheConstants.{ANNOUNCERS}
use Rattle.erm_machine.specs.declared.attempt.Attempt.{Attempt}
use Rattle.erm_machine.specs.declared.attempt.Claim.{Claim}
use Rattle.erm_machine.specs.Core.{Core}
use Rattle.erm_machine.specs.Decided.{history_of, record_of, written_of}
use Rattle.erm_machine.specs.Facts.{all_of}
use Rattle.erm_machine.specs.Lawful.{opening_rows}
use Rattle.erm_machine.proofs.Histories.{history_has}
use Rattle.erm_machine.proofs.Listed.{∈-map}
use Rattle.erm_core_ssn.specs.Laws.{KeepsLaw}
use Rattle.erm_sound.specs.Kept.{SoundUnder}
use Rattle.erm_log_list.proofs.Made.{made_new, made_once}

-- what claims found
abbrev pub FoundVersions : Core → Type 0
FoundVersions c = (seat : ℕ) (t : Attempt) (w : Claim) → t ∈ all_of (c.seats seat) → w ∈ t.writes
    → IsNewestBelow (history_of c.seats) (opening_rows c.shared) w.version.oid t.begin w.stamp w.base

module _ (law : Law) (c : Core) (under : SoundUnder law c) (found : FoundVersions c) where
  lawful_record : (u : TransactionRecord) → u ∈ history_of c.seats → IsLawfulRecord law u
  lawful_record u m =
      let by = history_has c.seats u m in
      subst (IsLawfulRecord law) by.is
      (under.lawful.lawful by.seat by.attempt by.stands ((under.sound.own by.seat).decided.positive by.attempt by.stands by.commit))

  found_base : (seat : ℕ) (t : Attempt) → t ∈ all_of (c.seats seat) → (v : VersionWritten) → v ∈ (record_of seat t).writes
      → IsVersion (history_of c.seats) (opening_rows c.shared) v.oid v.stamp v.base
  found_base seat t m v of_v =
      let from = ∈-map written_of t.writes v of_v in
      subst (λ (u : VersionWritten). IsVersion (history_of c.seats) (opening_rows c.shared) u.oid u.stamp u.base) from.2 (found seat t from.0 m from.1).version

  pub keeps_law : KeepsLaw law (history_of c.seats) (opening_rows c.shared)
  keeps_law = record {
    meets = under.lawful.opening;
    lawful = lawful_record;
    bases = λ u v m of_v.
        let by = history_has c.seats u m in
        (subst (λ (r : TransactionRecord). v ∈ r.writes → IsVersion (history_of c.seats) (opening_rows c.shared) v.oid v.stamp v.base) by.is (found_base by.seat by.attempt by.stands v)) of_v;
    new = λ x made.
        let once = made_once c under.sound ANNOUNCERS x in
        let unreached : law.reach (opening_rows c.shared) x ≡ 0 = under.lawful.below x (made_new c under.sound ANNOUNCERS x made) in
        omega (arith, once, unreached);
  }
