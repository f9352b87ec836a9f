-- The place flushed never falls.
use Rattle.std.proofs.Common.{◌≡◌, ℕ, zero, suc, ◌≤◌, subst, arith}
use Rattle.erm_machine.specs.declared.event.Kind.TheVariants.{LoadFlushed}
use Rattle.erm_machine.specs.Core.{Core}
use Rattle.erm_core_flush.proofs.Stays.{flushed_rises}
use Rattle.erm_model.specs.RowTransaction.{Law}
use Rattle.erm_rule.specs.declared.view.Book.{Book}
use Rattle.erm_rule.specs.Books.{PassesIn, WasFlushed}
use Rattle.erm_rule.specs.Steps.{Booked}
use Rattle.erm_rule.proofs.Courses.{seen_once}
use Rattle.erm_session.specs.Making.{IsFlushedTo}

-- in a later state it is the same place, or a later one
later_flushed : (n : ℕ) (s c : Core) → PassesIn n s c → s.shared.flushed ≤ c.shared.flushed
later_flushed zero s c same = subst (λ (d : Core). s.shared.flushed ≤ d.shared.flushed) same (omega arith)
later_flushed (suc n) s c leads =
    let before = later_flushed n s leads.0 leads.1 in
    let rises = flushed_rises leads.0 leads.2.1.0 leads.2.1.1 c leads.2.0 leads.2.1.2 in
    omega (arith, before, rises)

module _ (law : Law) (b : Book) (who found : ℕ) (e : Book) (booked : Booked law b who LoadFlushed found e) where
  pub was_flushed : WasFlushed b found e
  was_flushed = seen_once law b (λ s. s.shared.flushed ≡ found) who LoadFlushed found e booked (λ s is met. met)

  pub is_flushed_to : (place : ℕ) → place ≤ found → IsFlushedTo place e
  is_flushed_to place low c is =
      let w = was_flushed c is in
      let met = w.met in
      let after = later_flushed w.later.0 w.state c w.later.1 in
      omega (arith, low, met, after)
