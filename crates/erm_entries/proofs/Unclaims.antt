-- A claim without a cell is given up.
use Rattle.std.proofs.Common.{◌≡◌, ℕ, ◌^◌, ◌<◌, ◌≤◌, true, length, Option, Some, is_some, sym, ap, ◌∙◌, subst, arith}
use Rattle.std.proofs.lemmas.Bool.{eq-eqb, lt-ltb}
use Rattle.erm_machine.specs.declared.event.Kind.TheVariants as kind
use Rattle.erm_machine.specs.declared.limits.TheConstants.{OBJECT_LIMIT}
use Rattle.erm_machine.specs.declared.part.Part.{Part}
use Rattle.erm_machine.specs.declared.place.Place.{Place}
use Rattle.erm_machine.specs.declared.place.Place.TheVariants.{Active}
use Rattle.erm_machine.specs.declared.task.Task.{Task}
use Rattle.erm_machine.specs.declared.task.Task.TheVariants as task
use Rattle.erm_machine.specs.Cells.{WantsCell}
use Rattle.erm_machine.specs.Core.{Core}
use Rattle.erm_machine.specs.Facts.{over_of}
use Rattle.erm_machine.specs.Seat.{is_active, last_claim}
use Rattle.erm_machine.specs.Settling.{install}
use Rattle.erm_machine.specs.Sound.{Sound}
use Rattle.erm_rule.specs.declared.view.View.{View}
use Rattle.erm_rule.specs.Steps.{Ready, Told}
use Rattle.erm_rule.specs.Views.{part_of}
use Rattle.erm_rule.proofs.Telling.{ready_by}
use Rattle.erm_cells.proofs.Heads.{has}
use Rattle.erm_cells.proofs.Views.{when_true, both, told_is}
use Rattle.erm_entries.specs.Ends.{IsRefused, unclaimed_part, DidUnclaim}
use Rattle.erm_entries.proofs.Stores.{now_known, free_head, claim_small}

after_unclaim : (x : Part) (oid head : ℕ) → is_active x.place ≡ true → IsRefused x oid head → 0 < length x.current.writes → install oid head x x.task ≡ Some (unclaimed_part x)
after_unclaim x oid head active refused some =
    ap (λ (t : Task). install oid head x t) refused.task_is
    ∙ when_true _ (unclaimed_part x) (both _ _ (both _ _ (both _ _ active (lt-ltb _ _ some)) (eq-eqb oid _ (sym refused.oid_is))) (eq-eqb head _ (sym refused.cell_is)))

-- a claim without a cell is in progress
some_refused : (c : Core) (q : ℕ) (x : Part) → Sound c → c.seats q ≡ x → x.task ≡ task.Refused → 0 < length x.current.writes
some_refused c q x sound is refused =
    let wants : WantsCell x x.task = subst (λ (z : Part). WantsCell z z.task) is (sound.own q).cells.wants in
    (subst (λ (t : Task). WantsCell x t) refused wants).0

none_over : (pl : Place) (t : Task) (writes k : ℕ) → is_active pl ≡ true → t ≡ task.Refused → over_of pl t writes ≤ k
none_over (Active tail) t writes k active is = subst (λ u. over_of (Active tail) u writes ≤ k) (sym is) (omega arith)
none_over _ t writes k active is = absurd (cc)

module _ (v : View) (who oid head : ℕ) (active : is_active (part_of v who).place ≡ true) (refused : IsRefused (part_of v who) oid head) where
  abbrev x : Part
  x = part_of v who

  pub ready_unclaim : Ready v who (kind.Install oid head)
  ready_unclaim =
      ready_by v who (kind.Install oid head) x (has v who active)
      (λ c sound is. ap (λ (o : Option Part). is_some o) (after_unclaim x oid head active refused (some_refused c who x sound is refused.task_is)))

  module _ (known : oid < OBJECT_LIMIT) (found : ℕ) (w : View) (told : Told v who (kind.Install oid head) found w) where
    is : told.before.seats who ≡ x
    is = told.is_view who x (has v who active)

    some : 0 < length x.current.writes
    some = some_refused told.before who x told.sound is refused.task_is

    small : head < 2 ^ 24
    small =
        subst (λ n. n < 2 ^ 24) refused.cell_is
        (claim_small told.before who x told.sound is (last_claim x.current) (let n = some in omega (arith, n)) (none_over x.place x.task (length x.current.writes) (last_claim x.current) active refused.task_is))

    pub did_unclaim : DidUnclaim v who oid head w
    did_unclaim = record {
      view_is = told_is v who (kind.Install oid head) found w x (unclaimed_part x) (has v who active) told (after_unclaim x oid head active refused some);
      known = now_known v who x (has v who active) oid head known found w told;
      is_head = free_head v who x (has v who active) oid head known found w told small;
    }
