-- What each step but those on counters leaves of the objects that a seat made.
use Rattle.std.proofs.Common.{◌≡◌, ℕ, eqb, Option, Some, None, is_none, refl, arith}
use Rattle.erm_machine.specs.declared.event.Kind.{Kind}
use Rattle.erm_machine.specs.declared.event.Kind.TheVariants as kind
use Rattle.erm_machine.specs.declared.part.Part.{Part}
use Rattle.erm_machine.specs.declared.task.Task.{Task}
use Rattle.erm_machine.specs.declared.task.Task.TheVariants as task
use Rattle.erm_machine.specs.declared.version.VersionAt.{VersionAt}
use Rattle.erm_machine.specs.Core.{Object, Shared, claim_at}
use Rattle.erm_machine.specs.Numbers.{numbers, pools}
use Rattle.erm_machine.specs.Reading.{after_cut, detached, older, swap_link}
use Rattle.erm_machine.specs.Seat.{end_of, last_claim}
use Rattle.erm_machine.specs.Settling.{install_claim, adds_version, install_new, release_old, install}
use Rattle.erm_machine.specs.Step.{part_after}
use Rattle.erm_machine.proofs.Guards.{when_then, if_then, either_way}
use Rattle.erm_core_cells.proofs.CellsSteps.{Given, leaves}
use Rattle.erm_core_cells.proofs.CellsLeaves.{KeepsMade}

-- a task in which no counter is to be raised
pub record Unasking (t : Task) : Type 0 where
  pub numbers : numbers t ≡ 0
  pub pools : pools t ≡ 0

detached_unasking : (found : ℕ) (v : VersionAt) (x : Part) → Unasking (detached found v x)
detached_unasking found v x =
    either_way Unasking (eqb found 0) (after_cut x) (task.Detaches (older v found))
    (λ _. either_way Unasking (is_none (claim_at x.current (last_claim x.current)).own) task.Draws task.Rest (λ _. record { numbers = refl; pools = refl }) (λ _. record { numbers = refl; pools = refl }))
    (λ _. record { numbers = refl; pools = refl })

swap_link_made : (found : ℕ) (v : VersionAt) (o : Object) (x : Part) (t : Task) (y : Part) → swap_link found v o x t ≡ Some y → KeepsMade x t y
swap_link_made found v o x (task.CutFound version horizon) y e =
    when_then (KeepsMade x _) _ _ y e (λ _.
    let u = detached_unasking found version x in
    let a = u.numbers in let b = u.pools in
    record { made = refl; numbers = omega (arith, a); pools = omega (arith, b) })
swap_link_made found v o x _ y e = absurd (cc)

install_claim_made : (oid head : ℕ) (x : Part) (t : Task) (e : Option (ℕ × ℕ × ℕ × ℕ)) (y : Part) → install_claim oid head x e ≡ Some y → KeepsMade x t y
install_claim_made oid head x t None y e = absurd (cc)
install_claim_made oid head x t (Some c) y e =
    if_then (KeepsMade x t) (adds_version x) (install_new oid head x c) (release_old oid head x c) y e
    (λ _ h. when_then (KeepsMade x t) _ _ y h (λ _. record { made = refl; numbers = omega arith; pools = omega arith }))
    (λ _ h. when_then (KeepsMade x t) _ _ y h (λ _. record { made = refl; numbers = omega arith; pools = omega arith }))

install_other_made : (oid head : ℕ) (x : Part) (t : Task) (y : Part) → install_claim oid head x (end_of t) ≡ Some y → KeepsMade x t y
install_other_made oid head x t y e = install_claim_made oid head x t (end_of t) y e

install_made : (oid head : ℕ) (x : Part) (t : Task) (y : Part) → install oid head x t ≡ Some y → KeepsMade x t y
install_made oid head x task.Refused y e = when_then (KeepsMade x task.Refused) _ _ y e (λ _. record { made = refl; numbers = omega arith; pools = omega arith })
install_made oid head x t y e = install_other_made oid head x t y e

-- kinds that meet one word, which is no counter
abbrev pub LeavesMade : Kind → Type 0
LeavesMade (kind.Split other) = ⊥
LeavesMade (kind.Join other) = ⊥
LeavesMade (kind.LoadCounter counter) = ⊥
LeavesMade (kind.AddCounter counter) = ⊥
LeavesMade _ = Unit {0}

pub leaves_made : (p : ℕ) (k : Kind) (found : ℕ) (s : Shared) (x y : Part) → LeavesMade k → Given p x → part_after p k found s x ≡ Some y → KeepsMade x x.task y
leaves_made p (kind.Install oid head) found s x y q g e = install_made oid head x x.task y e
leaves_made p (kind.SwapLink v) found s x y q g e = swap_link_made found v (s.objects v.oid) x x.task y e
leaves_made p (kind.Split other) found s x y q g e = absurd q
leaves_made p (kind.Join other) found s x y q g e = absurd q
leaves_made p (kind.LoadCounter counter) found s x y q g e = absurd q
leaves_made p (kind.AddCounter counter) found s x y q g e = absurd q
leaves_made p k found s x y q g e = (leaves p k found s x y tt g e).made
