-- The ends of a window that a line tells were decided by then: their causes are commits that were over.
use Rattle.std.proofs.Common.{◌≡◌, ◌≢◌, ℕ, ◌<◌, ◌≤◌, ◌⊎◌, List, [], ◌∷◌, ◌++◌, Some, inl, inr, refl, sym, ap, ◌∙◌, subst, arith}
use Rattle.erm_model.specs.declared.history.TransactionRecord.{TransactionRecord}
use Rattle.erm_model.specs.History.{OverwritesReadOf, IsPredecessorStamp, IsSuccessorStamp}
use Rattle.erm_model.specs.Member.{◌∈◌}
use Rattle.erm_node.specs.Sound.{sound_law}
use Rattle.erm_report.specs.declared.answer.Answer.{Answer}
use Rattle.erm_script.specs.declared.script.Command.{Command}
use Rattle.erm_world.specs.Calls.{IsDone}
use Rattle.erm_world.specs.Laws.{IsSerializable}
use Rattle.erm_world.specs.World.{Fate, Finished, IsSession, Session, View, Work, bare, history_of, record_of}
use Rattle.erm_world.specs.World as world
use Rattle.erm_world.proofs.Lists.{∈-last}
use Rattle.erm_good_report.specs.Causes.{CommitsBeside, OverwritesBeside}
use Rattle.erm_good_report.specs.Refusals.{HasNoWindowBefore, HasWindowBefore, Moment, WasOver, current_of}
use Rattle.erm_good_report.specs.Transactions.{Transaction, with_line}
use Rattle.erm_causes.specs.Touched.{IsClosedBy, Touches}
use Rattle.erm_causes.proofs.Beside.{commits_beside, overwrites_after, overwrites_beside, shows_closed_by}
use Rattle.erm_causes.proofs.Early.{EarlyCommit, committed_but}
use Rattle.erm_causes.proofs.Fine.{still_session, touches_more}
use Rattle.erm_causes.proofs.Lines.{lines_before}
use Rattle.erm_causes.proofs.Moments.{NowTold}
use Rattle.erm_causes.proofs.Quiet.{excluded_closed}

-- A line decided its session's transaction, which stood sealed in a world that was as before the line but for this.
module _ (table : ℕ → ℕ) (m : Moment) (before at after : View) (c : Command) (a : Answer) (session : IsSession at m.session) (holds : IsSerializable sound_law after)
    (commits : (u : TransactionRecord) → u ∈ history_of before → EarlyCommit table m u) (others : (q : ℕ) → q ≢ m.session → at.session q ≡ before.session q)
    (opening : at.opening ≡ before.opening) (over : (at.session m.session).over ≡ (before.session m.session).over)
    (w : Work) (now : NowTold table m.session (current_of m m.session) w) (own succ pred : ℕ) where
  abbrev t : Transaction
  t = with_line (Some c) a now.told

  touches : Touches table t w
  touches = touches_more table now.told t w (lines_before c a now.told) now.touches

  module _ (fate : Fate) (done : IsDone at m.session w fate after) where
    -- what is committed then was so before the line, but for its own commit
    early : (u : TransactionRecord) → ((s p q : ℕ) → fate ≡ world.commits s p q → s ≡ u.stamp → ⊥) → u ∈ history_of after → EarlyCommit table m u
    early u another within =
        commits u (committed_but before after m.session w fate (λ q apart. done.others q apart ∙ others q apart) (done.opening ∙ opening)
        (ap (λ (s : Session). s.over) done.own ∙ ap (λ (fs : List Finished). fs ++ record { work = w; fate = fate } ∷ []) over) u another within)

    after_begin : (u : TransactionRecord) → u ∈ history_of after → OverwritesReadOf u (bare w) → t.begin ≤ u.stamp
    after_begin u within overwrites =
        let f : Finished = record { work = w; fate = fate } in
        let here : f ∈ (after.session m.session).over = subst (λ (s : Session). f ∈ s.over) (sym done.own) (∈-last (at.session m.session).over f) in
        let sees = holds.sees m.session w (still_session at after m.session done.opening session) (inl (f, here, refl)) in
        subst (λ (n : ℕ). n ≤ u.stamp) (sym now.tells.work.begin) (overwrites_after table m.all t w touches (history_of after) after.opening.rows holds.snapshots sees.reads u within overwrites)

  module _ (done : IsDone at m.session w (world.commits own succ pred) after) (successor : IsSuccessorStamp (history_of after) (λ u. u.succ) (record_of m.session w own succ pred))
      (predecessor : IsPredecessorStamp (history_of after) pred (record_of m.session w own succ pred)) where
    earlier : (u : TransactionRecord) → u ∈ history_of after → u.stamp < own → EarlyCommit table m u
    earlier u within below = early (world.commits own succ pred) done u (λ s p q is same. let one : own ≡ s = cc in omega (arith, one, same, below)) within

    pub window_before : HasWindowBefore m t own succ pred
    window_before = record {
      succ_cause = elim successor.attained as (λ _. (succ ≡ own) ⊎ ((u : Transaction) × (u ∈ m.all) × WasOver m u × OverwritesBeside u t (Some own) succ)) [
        | inl is ↦ inl is
        | inr found ↦
            let commit = earlier found.0 found.1.0 found.1.1 in
            inr (
              commit.told.by,
              commit.told.of,
              commit.early,
              subst (λ (n : ℕ). OverwritesBeside commit.told.by t (Some own) n) (sym found.2)
                  (overwrites_beside table m.all t w touches found.0 commit.told (Some own) found.1.2 (after_begin (world.commits own succ pred) done found.0 found.1.0 found.1.2) found.1.1),
            )
      ];
      pred_cause = elim predecessor.attained as (λ _. (pred ≡ 0) ⊎ ((u : Transaction) × (u ∈ m.all) × WasOver m u × CommitsBeside u t pred)) [
        | inl none ↦ inl none
        | inr found ↦
            let commit = earlier found.0 found.1.0 found.1.1 in
            inr (commit.told.by, commit.told.of, commit.early, subst (λ (n : ℕ). CommitsBeside commit.told.by t n) (sym found.2) (commits_beside table m.all t w touches found.0 commit.told found.1.2))
      ];
    }

  module _ (done : IsDone at m.session w (world.excluded own succ pred) after) (successor : IsSuccessorStamp (history_of after) (λ u. u.succ) (record_of m.session w own succ pred))
      (predecessor : IsPredecessorStamp (history_of after) pred (record_of m.session w own succ pred)) (shut : succ ≤ pred) where
    pub no_window_before : HasNoWindowBefore m t (Some own) succ pred
    no_window_before =
        let f : Finished = record { work = w; fate = world.excluded own succ pred } in
        let here : f ∈ (after.session m.session).over = subst (λ (s : Session). f ∈ s.over) (sym done.own) (∈-last (at.session m.session).over f) in
        let sees = holds.sees m.session w (still_session at after m.session done.opening session) (inl (f, here, refl)) in
        let closed : IsClosedBy (history_of after) w (Some own) succ pred = excluded_closed at after m.session w own succ pred session done successor predecessor shut holds in
        shows_closed_by table m.all t w touches (history_of after) after.opening.rows holds.snapshots sees.reads (WasOver m)
        (λ u within. let found = early (world.excluded own succ pred) done u (λ s p q is same. cc) within in (found.told, found.early)) now.tells.work.begin (Some own) succ pred closed
