-- A snapshot has nothing to release or to clear, and ends by one step.
use Rattle.std.proofs.Common.{◌≡◌, ℕ, ◌<◌, true, List, [], ◌∷◌, ◌++◌, length, Option, Some, refl, sym, ap, ◌∙◌, subst, arith, eq-eqb}
use Rattle.std.specs.Prelude.{IsSome}
use Rattle.erm_machine.specs.declared.attempt.Attempt.{Attempt}
use Rattle.erm_machine.specs.declared.attempt.Decision.TheVariants.{Abort}
use Rattle.erm_machine.specs.declared.attempt.OwnCell.{OwnCell}
use Rattle.erm_machine.specs.declared.event.Kind.TheVariants as kind
use Rattle.erm_machine.specs.declared.part.Part.{Part}
use Rattle.erm_machine.specs.declared.place.Place.{Place}
use Rattle.erm_machine.specs.declared.place.Place.TheVariants.{Active, Idle}
use Rattle.erm_machine.specs.declared.task.Task.{Task}
use Rattle.erm_machine.specs.declared.task.Task.TheVariants as task
use Rattle.erm_machine.specs.Back.{passed_to}
use Rattle.erm_machine.specs.Bounds.{IsBounded}
use Rattle.erm_machine.specs.Core.{blank}
use Rattle.erm_machine.specs.Life.{has_ended, store_begin}
use Rattle.erm_machine.specs.Seat.{end_of, is_active, is_new, is_snapshot, with_current}
use Rattle.erm_machine.specs.Sound.{Own}
use Rattle.erm_machine.specs.Words.{is_flusher, is_session}
use Rattle.erm_machine.proofs.Backs.{new_is, snapshot_ends, DidNothing}
use Rattle.erm_rule.specs.declared.view.View.{View}
use Rattle.erm_rule.specs.Hands.{IsKnown}
use Rattle.erm_rule.specs.Steps.{Ready, Told}
use Rattle.erm_rule.specs.Views.{part_in, part_of, with_part}
use Rattle.erm_rule.proofs.Numbered.{known_after}
use Rattle.erm_rule.proofs.Telling.{is_held}
use Rattle.erm_cells.proofs.Heads.{has}
use Rattle.erm_cells.proofs.Views.{both, ready_at, refuse, told_is, when_true}
use Rattle.erm_ends.specs.Ends.{left_part, released_all, released_to, DidAbort}
use Rattle.erm_ends.specs.Safe.{DidEndSafe}
use Rattle.erm_ends.proofs.Leaves.{session_not_flusher}

-- a snapshot has come to some seat
some_passed : (seat : ℕ) (t : Attempt) (u : Task) → is_snapshot u ≡ true → IsBounded seat t u → 0 < passed_to u
some_passed seat t (task.Surveys next) e b = b.0
some_passed seat t (task.Behind next) e b = b.1
some_passed seat t task.Safe e b = omega arith
some_passed seat t (task.SafeWalks version) e b = omega arith
some_passed seat t (task.SafePassed version) e b = omega arith
some_passed seat t (task.SafeFound version) e b = omega arith
some_passed seat t u e b = absurd (cc)

none_ended : (t : Attempt) (o : Option (ℕ × ℕ × ℕ × ℕ)) → o ≡ Some (0, 0, 0, 0) → DidNothing t → has_ended t o ≡ true
none_ended t o is none = ap (has_ended t) is ∙ both _ _ (eq-eqb 0 (length t.writes) (sym none.writes)) (eq-eqb 0 (length t.reads) (sym none.reads))

append_none : (xs : List OwnCell) → xs ++ [] ≡ xs
append_none [] = refl
append_none (x ∷ xs) = ap (λ (ys : List OwnCell). x ∷ ys) (append_none xs)

-- what has claimed nothing has nothing to release
released_same : (x : Part) → length x.current.writes ≡ 0 → released_all x ≡ x
released_same x none = ap (λ (n : ℕ). released_to n x) none ∙ ap (λ (cells : List OwnCell). record x { spare = cells }) (append_none x.spare)

module _ (v : View) (who : ℕ) (known : IsKnown v) (session : is_session who ≡ true) (active : is_active (part_of v who).place ≡ true) (snapshot : is_snapshot (part_of v who).task ≡ true) where
  abbrev x : Part
  x = part_of v who

  there : part_in v who ≡ Some x
  there = has v who active

  own : Own known.core.shared who x
  own = subst (λ (z : Part). Own known.core.shared who z) (known.is_view who x there) (known.sound.own who)

  new : is_new x.current ≡ true
  new = own.back.snapshot (some_passed who x.current x.task snapshot own.bounds.bounded)

  pub none : DidNothing x.current
  none = new_is x.current new

  pub safe_held : IsSome (part_in v who)
  safe_held = is_held v who x there

  end_at : (pl : Place) → is_active pl ≡ true → store_begin who 0 x pl ≡ Some (left_part Abort x)
  end_at (Active tail) e =
      when_true _ _ (none_ended x.current (end_of x.task) (snapshot_ends x.task snapshot) none)
      ∙ ap (λ (q : Part). Some q) (refuse (is_flusher who) (with_current blank (record x { place = Idle; task = task.Rest })) (left_part Abort x) (session_not_flusher who session))
  end_at _ e = absurd (cc)

  pub safe_ready : Ready v who (kind.StoreBegin 0)
  safe_ready = ready_at v who (kind.StoreBegin 0) x there (λ _. left_part Abort x) (λ c sound. end_at x.place active)

  module _ (found : ℕ) (w : View) (told : Told v who (kind.StoreBegin 0) found w) where
    ended : w ≡ with_part who (left_part Abort x) v
    ended = told_is v who (kind.StoreBegin 0) found w x (left_part Abort x) there told (end_at x.place active)

    pub did_end_safe : DidEndSafe v who w
    did_end_safe = record { view_is = ended; known = known_after v who (kind.StoreBegin 0) found w told }

    pub did_abort_safe : DidAbort v who w
    did_abort_safe = record {
      view_is = ended ∙ ap (λ (z : Part). with_part who (left_part Abort z) v) (sym (released_same x none.writes));
      known = known_after v who (kind.StoreBegin 0) found w told;
    }
