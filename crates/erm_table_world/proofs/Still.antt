-- Steps that leave the log's end and the place flushed.
use Rattle.std.proofs.Common.{◌≡◌, ◌≢◌, ℕ, List, [], ◌∷◌, refl, sym, ap, ◌∙◌, subst, arith}
use Rattle.erm_model.specs.RowTransaction.{Law}
use Rattle.erm_machine.specs.declared.event.Kind.{Kind}
use Rattle.erm_machine.specs.declared.event.Kind.TheVariants as kind
use Rattle.erm_machine.specs.declared.limits.TheConstants.{FLUSH_SEAT}
use Rattle.erm_machine.specs.Core.{Core}
use Rattle.erm_core_view.specs.Steps.{drawn_by, flushed_by}
use Rattle.erm_core_view.specs.Views.{session_of, view_of}
use Rattle.erm_core_view.proofs.Moved.{changes_one}
use Rattle.erm_rule.specs.declared.view.Book.{Book}
use Rattle.erm_rule.specs.Steps.{Booked}
use Rattle.erm_rule.specs.Went.{AllSteps, IsStillStep, Took, Went, core_of}
use Rattle.erm_world.specs.Calls.{Becomes}
use Rattle.erm_world.specs.World.{Session}
use Rattle.erm_world.proofs.Saves.{without}
use Rattle.erm_table_world.specs.Stands.{IsStateful}
use Rattle.erm_table_world.proofs.Wholly.{Ran, runs, took_ran}

pub still_drawn : (k : Kind) (found : ℕ) → IsStillStep k found → drawn_by k ≡ 0
still_drawn (kind.AddTail size) found is = absurd is
still_drawn _ found is = refl

pub still_flushed : (k : Kind) (found flushed : ℕ) → IsStillStep k found → flushed_by k flushed ≡ flushed
still_flushed (kind.StoreFlushed value) found flushed is = absurd is
still_flushed _ found flushed is = refl

-- the log's end, the place flushed and, of a session's steps, the pin are as they were
pub record Stayed (sessions who : ℕ) (c d : Core) : Type 0 where
  pub tail : d.shared.tail ≡ c.shared.tail
  pub flushed : d.shared.flushed ≡ c.shared.flushed
  pub pinned : who ≢ FLUSH_SEAT → (view_of sessions d).pinned ≡ (view_of sessions c).pinned

pub stayed_none : (sessions who : ℕ) (c : Core) → Stayed sessions who c c
stayed_none sessions who c = record { tail = refl; flushed = refl; pinned = λ other. refl }

pub stayed_both : (sessions who : ℕ) (c d e : Core) → Stayed sessions who c d → Stayed sessions who d e → Stayed sessions who c e
stayed_both sessions who c d e first second = record {
  tail = second.tail ∙ first.tail;
  flushed = second.flushed ∙ first.flushed;
  pinned = λ other. second.pinned other ∙ first.pinned other;
}

pub stayed_one : (law : Law) (sessions who : ℕ) (k : Kind) (found : ℕ) (b e : Book) → Booked law b who k found e → IsStateful law b → IsStillStep k found
    → Stayed sessions who (core_of b) (core_of e)
stayed_one law sessions who k found b e booked state still =
    let run = runs law b who k found e booked state in
    let change = changes_one sessions who (core_of b) (core_of e) k state.sound.sound run.one run.event in
    let tail = change.tail in
    let none = still_drawn k found still in
    record {
      tail = omega (arith, tail, none);
      flushed = change.flushed ∙ still_flushed k found (core_of b).shared.flushed still;
      pinned = change.pinned;
    }

pub took_stayed : (law : Law) (sessions who : ℕ) (steps : List (Kind × ℕ)) (b e : Book) → Took law who steps b e → AllSteps IsStillStep steps → IsStateful law b
    → Stayed sessions who (core_of b) (core_of e)
took_stayed law sessions who [] b e same all state = subst (λ (z : Book). Stayed sessions who (core_of b) (core_of z)) (sym same) (stayed_none sessions who (core_of b))
took_stayed law sessions who (s ∷ steps) b e took all state =
    stayed_both sessions who (core_of b) (core_of took.0) (core_of e) (took_stayed law sessions who steps b took.0 took.1 all.1 state)
    (stayed_one law sessions who s.0 s.1 took.0 e took.2 (took_ran law sessions who steps b took.0 took.1 state).state all.0)

pub went_ran : (law : Law) (sessions who : ℕ) (P : Kind → ℕ → Type 0) (b e : Book) → Went law who P b e → IsStateful law b → Ran law sessions who b e
went_ran law sessions who P b e went state = took_ran law sessions who went.steps b e went.took state

pub went_stayed : (law : Law) (sessions who : ℕ) (b e : Book) → Went law who IsStillStep b e → IsStateful law b → Stayed sessions who (core_of b) (core_of e)
went_stayed law sessions who b e went state = took_stayed law sessions who went.steps b e went.took went.all state

-- what such steps of a session make of the world
pub becomes : (law : Law) (sessions who : ℕ) (b e : Book) (s : Session) → who ≢ FLUSH_SEAT → Ran law sessions who b e → Stayed sessions who (core_of b) (core_of e)
    → session_of ((core_of e).seats who) ≡ s → Becomes (view_of sessions (core_of b)) who s (view_of sessions (core_of e))
becomes law sessions who b e s plain ran stayed own = record {
  own = own;
  others = λ q other. ap session_of (ran.others q other);
  opening = ran.opening;
  tail = stayed.tail;
  flushed = stayed.flushed;
  pinned = stayed.pinned plain;
  given_up = refl;
  saves = record { own = without s.stand ((view_of sessions (core_of b)).session who).stand; others = λ q other. refl };
}
