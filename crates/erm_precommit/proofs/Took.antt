-- A settle that waits for a seat stops at its look, and what it waits for was met.
use Rattle.std.proofs.Common.{◌≡◌, ℕ, false, [], subst}
use Rattle.erm_machine.specs.declared.event.Kind.TheVariants.{LoadFlushed, LoadState}
use Rattle.erm_machine.specs.Words.{is_clear, state_of}
use Rattle.erm_model.specs.RowTransaction.{Law}
use Rattle.erm_rule.specs.declared.view.Book.{Book}
use Rattle.erm_rule.specs.Steps.{Booked}
use Rattle.erm_rule.specs.Views.{part_of}
use Rattle.erm_rule.specs.Went.{Went, IsLoadStep}
use Rattle.erm_rule.proofs.Courses.{goes_both, goes_step, last_of, seen_last}
use Rattle.erm_rule.proofs.Wents.{took_goes, went_goes, went_more, went_none}
use Rattle.erm_precommit.specs.declared.pre.Pre.{Pre}
use Rattle.erm_precommit.specs.declared.answer.Wait.{Wait}
use Rattle.erm_precommit.specs.declared.answer.Wait.TheVariants as wait
use Rattle.erm_precommit.specs.Settle.{Stands, WasWait}
use Rattle.erm_precommit.specs.Took.{LooksAt, TookSeatWait, TookWait}

pub stopped : (law : Law) (pre : Pre) (who seat seen : ℕ) (b e : Book) → Stands pre b.view who → LooksAt (part_of b.view who).task seat → is_clear seen pre.stamp ≡ false
    → Booked law b who (LoadState seat pre.stamp) seen e → TookSeatWait law who seat seen b e
stopped law pre who seat seen b e stands looks unclear booked = record {
  at = b;
  loads = went_none law who IsLoadStep b;
  looks = looks;
  unclear = subst (λ (n : ℕ). is_clear seen n ≡ false) stands.kept.stamp unclear;
  step = subst (λ (n : ℕ). Booked law b who (LoadState seat n) seen e) stands.kept.stamp booked;
}

-- the same, after more loads
pub wait_after : (law : Law) (who seat seen : ℕ) (b m e : Book) → Went law who IsLoadStep b m → TookSeatWait law who seat seen m e → TookSeatWait law who seat seen b e
wait_after law who seat seen b m e loads took = record { at = took.at; loads = went_more law who IsLoadStep b m took.at loads took.loads; looks = took.looks; unclear = took.unclear; step = took.step }

-- what a settle waits for was met
pub was_wait : (law : Law) (who : ℕ) (why : Wait) (b e : Book) → TookWait law who why b e → WasWait b why e
was_wait law who (wait.Ring flushed) b e took =
    seen_last b (λ s. s.shared.flushed ≡ flushed) who LoadFlushed flushed e (last_of law b took.1.0 who LoadFlushed flushed e (took_goes law who [] b took.1.0 took.1.1) took.1.2) (λ c met. met)
was_wait law who (wait.Seat seat seen) b e took =
    let waits = took.waits in
    let begun = goes_both b took.first waits.at (goes_step law b who LoadFlushed took.start.flushed took.first took.start.step) (went_goes law who IsLoadStep took.first waits.at waits.loads) in
    seen_last b (λ s. state_of (s.seats seat).place ≡ seen) who _ seen e (last_of law b waits.at who _ seen e begun waits.step) (λ c met. met)
