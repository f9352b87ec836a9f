-- A session that begins first of all, and then finds a head.
use Rattle.std.proofs.Common.{◌≡◌, ℕ, ◌<◌, Bool, true, Some, None, refl, sym, ap, ◌∙◌, subst, length}
use Rattle.std.specs.Prelude.{if◌then◌else◌}
use Rattle.std.proofs.lemmas.Bool.{eq-eqb, lt-ltb}
use Rattle.erm_machine.specs.declared.part.Part.{Part}
use Rattle.erm_machine.specs.declared.task.Task.TheVariants as task
use Rattle.erm_machine.specs.Facts.{Holds}
use Rattle.erm_machine.specs.Seat.{with_task, is_active}
use Rattle.erm_model.proofs.Members.{none_in_nil}
use Rattle.erm_rule.specs.declared.view.Opening.{Opening}
use Rattle.erm_rule.specs.declared.view.View.{View}
use Rattle.erm_rule.specs.Views.{part_in, part_of, one_seat}
use Rattle.erm_rule.proofs.Telling.{part_of-changed, changed_here}
use Rattle.erm_cells.specs.Calls.{starts_anew, walked, DidWalk, IsFoundHead}
use Rattle.erm_seats.specs.Calls.{begun_part, DidBegin}
use Rattle.erm_seats.specs.Race.{idle_part}
use Rattle.erm_machine.specs.Life.{next_number}

one_in : (who : ℕ) (x : Part) → part_in (one_seat who x) who ≡ Some x
one_in who x = ap (λ (b : Bool). if b then Some x else None) (eq-eqb who who refl)

module _ (o : Opening) (who : ℕ) (v : View) (is : v ≡ one_seat who (idle_part o)) (begin : ℕ) (w : View) (begun : DidBegin v who begin w) where
  has_idle : part_in v who ≡ Some (idle_part o)
  has_idle = subst (λ (u : View). part_in u who ≡ Some (idle_part o)) (sym is) (one_in who (idle_part o))

  abbrev y : Part
  y = begun_part who begun.announced begin (part_of v who)

  begun_is : part_of w who ≡ y
  begun_is = part_of-changed v who w y (idle_part o) has_idle begun.view_is

  has_begun : part_in w who ≡ Some y
  has_begun = changed_here v who w y (idle_part o) has_idle begun.view_is

  pub is_begun : is_active (part_of w who).place ≡ true
  is_begun = ap (λ (z : Part). is_active z.place) begun_is

  pub starts : starts_anew (part_of w who).task ≡ true
  starts = ap (λ (z : Part). starts_anew z.task) begun_is

  pub begins : (part_of w who).current.begin ≡ begin
  begins = ap (λ (z : Part). z.current.begin) begun_is

  pub claims_none : (oid : ℕ) → Holds (part_of w who) oid → ⊥
  claims_none oid h = none_held (subst (λ (z : Part). Holds z oid) begun_is h)
    where
      none_held : Holds y oid → ⊥
      none_held n = none_in_nil n.0 n.1

  -- the head of an object's chain was found
  module _ (oid entry stamp : ℕ) (u : View) (walk : DidWalk w who oid entry stamp u) (low : stamp < begin) where
    found : part_of u who ≡ with_task (walked walk.version entry stamp y) y
    found =
        part_of-changed w who u (with_task (walked walk.version entry stamp (part_of w who)) (part_of w who)) y has_begun walk.view_is
        ∙ ap (λ (z : Part). with_task (walked walk.version entry stamp z) z) begun_is

    head : part_of u who ≡ with_task (task.Found walk.version stamp (Some entry)) y
    head = found ∙ ap (λ (b : Bool). with_task (if b then task.Found walk.version stamp (Some entry) else task.Passed walk.version) y) (lt-ltb stamp begin low)

    pub found_head : (seen : ℕ) → seen ≡ entry → IsFoundHead (part_of u who).task oid seen
    found_head seen same = subst (λ (z : Part). IsFoundHead z.task oid seen) (sym head) (walk.oid_is, sym same)

    pub active_found : is_active (part_of u who).place ≡ true
    active_found = ap (λ (z : Part). is_active z.place) head

    pub number_found : (part_of u who).current.number ≡ next_number who (part_of v who).number
    number_found = ap (λ (z : Part). z.current.number) head

    pub claims_found : length (part_of u who).current.writes ≡ 0
    claims_found = ap (λ (z : Part). length z.current.writes) head
