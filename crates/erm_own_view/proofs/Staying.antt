-- What stays in each world in which all may end.
use Rattle.std.proofs.Common.{◌≡◌, ℕ, ◌≤◌, ◌<◌, Some, sym, subst, le_trans, lt_of_lt_of_le}
use Rattle.erm_model.specs.declared.history.TransactionRecord.{TransactionRecord}
use Rattle.erm_model.specs.declared.limits.TheConstants.{SESSIONS}
use Rattle.erm_model.specs.History.{History}
use Rattle.erm_model.specs.Member.{◌∈◌}
use Rattle.erm_model.specs.RowTransaction.{Law}
use Rattle.erm_machine.specs.declared.event.Kind.{Kind}
use Rattle.erm_machine.specs.declared.limits.TheConstants.{OBJECT_LIMIT}
use Rattle.erm_machine.specs.Core.{Core}
use Rattle.erm_machine.specs.Decided as machine
use Rattle.erm_machine.specs.Sound.{Sound}
use Rattle.erm_machine.specs.Step.{after_event}
use Rattle.erm_core_shown.specs.Shown.{HasOnly, NoneElse, shown_of}
use Rattle.erm_core_stays.specs.Staying.{Rises}
use Rattle.erm_rule.specs.declared.view.Book.{Book}
use Rattle.erm_rule.specs.Books.{IsBookOf}
use Rattle.erm_rule.specs.Openings.{start_core}
use Rattle.erm_world.specs.Calls.{AreAllMade}
use Rattle.erm_world.specs.World.{View, made_by_all}
use Rattle.erm_world.specs.World as world
use Rattle.erm_own_view.specs.Own.{EndsIn}
use Rattle.erm_own_view.proofs.Along.{none_of, of_later}

module _ (law : Law) (seat : ℕ) (b : Book) (own f : View) (end : EndsIn law seat b own f) (first : NoneElse (start_core b.start))
    (keeps : (c d : Core) (q : ℕ) (k : Kind) → Sound c → NoneElse c → after_event c q k ≡ Some d → NoneElse d)
    (only : (c : Core) → Sound c → NoneElse c → HasOnly SESSIONS c) where
  only_then : HasOnly SESSIONS end.core
  only_then = only end.core end.under.sound (none_of keeps b end.core first end.was)

  pub commit_stays : ((c : Core) → Sound c → HasOnly SESSIONS c → world.history_of (shown_of SESSIONS c) ≡ machine.history_of c.seats)
      → ((c d : Core) (q : ℕ) (k : Kind) → Sound c → after_event c q k ≡ Some d → (t : TransactionRecord) → t ∈ machine.history_of c.seats → t ∈ machine.history_of d.seats)
      → (t : TransactionRecord) → ((c : Core) → IsBookOf b c → t ∈ machine.history_of c.seats) → t ∈ world.history_of f
  commit_stays same stays t was =
      let there : t ∈ machine.history_of end.core.seats =
      of_later (λ (c : Core). t ∈ machine.history_of c.seats) (λ c d passes m. stays c d passes.1.0 passes.1.1 passes.0 passes.1.2 t m) b end.core was end.was
      in
      subst (λ (v : View). t ∈ world.history_of v) (sym end.shows) (subst (λ (h : History). t ∈ h) (sym (same end.core end.under.sound only_then)) there)

  pub all_made : ((x : ℕ) (c : Core) → Sound c → HasOnly SESSIONS c → c.shared.first ≤ x → x < c.shared.objects_drawn → x < OBJECT_LIMIT → 0 < made_by_all (shown_of SESSIONS c) x)
      → ((c d : Core) (q : ℕ) (k : Kind) → Sound c → after_event c q k ≡ Some d → Rises c.shared d.shared)
      → ((c : Core) → IsBookOf b c → OBJECT_LIMIT ≤ c.shared.objects_drawn) → AreAllMade f
  all_made shown rises was =
      let drawn : OBJECT_LIMIT ≤ end.core.shared.objects_drawn =
      of_later (λ (c : Core). OBJECT_LIMIT ≤ c.shared.objects_drawn) (λ c d passes at. le_trans at (rises c d passes.1.0 passes.1.1 passes.0 passes.1.2).objects_drawn) b end.core was end.was
      in
      subst AreAllMade (sym end.shows) (λ x from below. shown x end.core end.under.sound only_then from (lt_of_lt_of_le below drawn) below)
