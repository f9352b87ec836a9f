-- The causes of a window that is told at a line were over before, where each commit with a smaller stamp was.
use Rattle.std.proofs.Common.{◌≡◌, ℕ, ◌<◌, ◌⊎◌, Some, inl, inr, refl}
use Rattle.erm_model.specs.Member.{◌∈◌}
use Rattle.erm_good_report.specs.Causes.{CommitsBeside, HasNoWindow, HasWindow, OverwritesBeside}
use Rattle.erm_good_report.specs.Refusals.{HasNoWindowBefore, HasWindowBefore, Moment, WasOver}
use Rattle.erm_good_report.specs.Transactions.{Commits, Transaction}

-- the window of a commit that nobody else bounds
pub own_window : (m : Moment) (t : Transaction) (stamp : ℕ) → HasWindow m.all t stamp stamp 0 → HasWindowBefore m t stamp stamp 0
own_window m t stamp window = record { succ_cause = inl refl; pred_cause = inl refl }

abbrev pub AreOverBelow : Moment → ℕ → Type 0
AreOverBelow m stamp = (u : Transaction) → u ∈ m.all → (s p q : ℕ) → u.ending ≡ Commits s p q → s < stamp → WasOver m u

pub window_over : (m : Moment) (t : Transaction) (stamp succ pred : ℕ) → AreOverBelow m stamp → HasWindow m.all t stamp succ pred → HasWindowBefore m t stamp succ pred
window_over m t stamp succ pred over window = record {
  succ_cause = elim window.succ_cause as (λ _. (succ ≡ stamp) ⊎ ((u : Transaction) × (u ∈ m.all) × WasOver m u × OverwritesBeside u t (Some stamp) succ)) [
    | inl own ↦ inl own
    | inr found ↦ inr (found.0, found.1, over found.0 found.1 found.2.own succ found.2.pred found.2.ending found.2.before, found.2)
  ];
  pred_cause = elim window.pred_cause as (λ _. (pred ≡ 0) ⊎ ((u : Transaction) × (u ∈ m.all) × WasOver m u × CommitsBeside u t pred)) [
    | inl none ↦ inl none
    | inr found ↦ inr (found.0, found.1, over found.0 found.1 pred found.3.succ found.3.pred found.3.ending found.2, found.3)
  ];
}

pub no_window_over : (m : Moment) (t : Transaction) (stamp succ pred : ℕ) → AreOverBelow m stamp → HasNoWindow m.all t (Some stamp) succ pred → HasNoWindowBefore m t (Some stamp) succ pred
no_window_over m t stamp succ pred over shut = (
  shut,
  over shut.after shut.after_in shut.succ_cause.own succ shut.succ_cause.pred shut.succ_cause.ending shut.succ_cause.before,
  over shut.before shut.before_in pred shut.pred_cause.succ shut.pred_cause.pred shut.pred_cause.ending shut.below,
)
