-- An entry is released with its old head.
use Rattle.std.proofs.Common.{◌≡◌, ℕ, ◌+◌, ◌^◌, ◌<◌, ◌≤◌, true, false, ◌||◌, length, Option, Some, None, refl, sym, ◌∙◌, subst, arith}
use Rattle.std.specs.Prelude.{IsSome, unwrap_or}
use Rattle.std.proofs.lemmas.Bool.{eq-eqb, lt-ltb}
use Rattle.erm_machine.specs.declared.event.Kind.TheVariants as kind
use Rattle.erm_machine.specs.declared.limits.TheConstants.{OBJECT_LIMIT}
use Rattle.erm_machine.specs.declared.part.Part.{Part}
use Rattle.erm_machine.specs.declared.place.Place.{Place}
use Rattle.erm_machine.specs.declared.place.Place.TheVariants.{Active, Decided}
use Rattle.erm_machine.specs.declared.task.Task.{Task}
use Rattle.erm_machine.specs.declared.task.Task.TheVariants as task
use Rattle.erm_machine.specs.Core.{claim_at}
use Rattle.erm_machine.specs.Facts.{over_of}
use Rattle.erm_machine.specs.Seat.{with_task, is_active, is_decided, is_vacant, end_of}
use Rattle.erm_machine.specs.Settling.{adds_version, install_new, release_old, install_claim, install, given_back}
use Rattle.erm_rule.specs.declared.view.View.{View}
use Rattle.erm_rule.specs.Steps.{Ready, Told}
use Rattle.erm_rule.specs.Views.{part_in, part_of}
use Rattle.erm_rule.proofs.Found.{next}
use Rattle.erm_rule.proofs.Telling.{held_part}
use Rattle.erm_cells.proofs.Views.{when_true, both, other_branch, ready_at, told_is}
use Rattle.erm_entries.specs.Ends.{end_from, IsNextRelease, released_part, DidRelease}
use Rattle.erm_entries.proofs.Stores.{now_known, free_head, claim_small}

-- a seat that ends isn't vacant
ends_taken : (pl : Place) → (is_decided pl || is_active pl) ≡ true → is_vacant pl ≡ false
ends_taken (Decided tail stamp) e = refl
ends_taken (Active tail) e = refl
ends_taken _ e = absurd (cc)

install_other : (oid head : ℕ) (x : Part) (t : Task) → IsSome (end_of t) → install oid head x t ≡ install_claim oid head x (end_of t)
install_other oid head x task.Refused ends = absurd (cc)
install_other oid head x _ ends = refl

-- how far an end has come
abbrev from : Option (ℕ × ℕ × ℕ × ℕ) → ℕ × ℕ × ℕ × ℕ
from e = unwrap_or e (0, 0, 0, 0)

abbrev released : ℕ × ℕ × ℕ × ℕ → Part → Part
released e x = with_task (task.Ends e.0 (e.1 + 1) 0 e.3) (given_back e.1 x)

release_by : (oid head : ℕ) (x : Part) (e : Option (ℕ × ℕ × ℕ × ℕ)) → IsSome e → adds_version x ≡ false → (is_decided x.place || is_active x.place) ≡ true →
    (from e).1 < length x.current.writes → (claim_at x.current (from e).1).version.oid ≡ oid → (claim_at x.current (from e).1).version.cell ≡ head →
    install_claim oid head x e ≡ Some (released (from e) x)
release_by oid head x None ends excluded place within oid_is cell_is = absurd (cc)
release_by oid head x (Some e) ends excluded place within oid_is cell_is =
    other_branch (adds_version x) (install_new oid head x e) (release_old oid head x e) (Some (released e x)) excluded
    (when_true _ (released e x) (both _ _ (both _ _ (both _ _ place (lt-ltb _ _ within)) (eq-eqb oid _ (sym oid_is))) (eq-eqb head _ (sym cell_is))))

after_release : (x : Part) (oid head : ℕ) → IsNextRelease x oid head → install oid head x x.task ≡ Some (released_part x)
after_release x oid head next =
    install_other oid head x x.task next.ends ∙ release_by oid head x (end_of x.task) next.ends next.excluded next.place next.within next.oid_is next.cell_is

-- the next claim isn't over
over_at_ends : (pl : Place) (t : Task) (writes : ℕ) → (is_decided pl || is_active pl) ≡ true → over_of pl t writes ≤ (from (end_of t)).1
over_at_ends (Decided tail stamp) (task.Ends raised ended step cleared) writes e = omega arith
over_at_ends (Decided tail stamp) _ writes e = omega arith
over_at_ends (Active tail) (task.Ends raised ended step cleared) writes e = omega arith
over_at_ends (Active tail) _ writes e = omega arith
over_at_ends _ t writes e = absurd (cc)

module _ (v : View) (who oid head : ℕ) (next : IsNextRelease (part_of v who) oid head) where
  abbrev x : Part
  x = part_of v who

  pub has_release : part_in v who ≡ Some x
  has_release = held_part v who (ends_taken x.place next.place)

  pub ready_release : Ready v who (kind.Install oid head)
  ready_release = ready_at v who (kind.Install oid head) x has_release (λ c. released_part x) (λ c sound. after_release x oid head next)

  module _ (known : oid < OBJECT_LIMIT) (found : ℕ) (w : View) (told : Told v who (kind.Install oid head) found w) where
    small : head < 2 ^ 24
    small =
        let is : told.before.seats who ≡ x = told.is_view who x has_release in
        subst (λ n. n < 2 ^ 24) next.cell_is
        (claim_small told.before who x told.sound is (end_from x).1 next.within (over_at_ends x.place x.task (length x.current.writes) next.place))

    pub did_release : DidRelease v who oid head w
    did_release = record {
      view_is = told_is v who (kind.Install oid head) found w x (released_part x) has_release told (after_release x oid head next);
      known = now_known v who x has_release oid head known found w told;
      is_head = free_head v who x has_release oid head known found w told small;
    }
