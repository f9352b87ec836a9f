-- A session that begins first of all, finds a head, and reads the version there.
use Rattle.std.proofs.Common.{◌≡◌, ℕ, ◌<◌, Bool, true, false, [], ◌∷◌, ◌++◌, List, length, Option, Some, None, refl, sym, ap, ◌∙◌, subst, arith, eqb}
use Rattle.std.specs.Prelude.{if◌then◌else◌}
use Rattle.std.proofs.lemmas.Bool.{eq-eqb, lt-ltb}
use Rattle.erm_machine.specs.declared.attempt.Attempt.{Attempt}
use Rattle.erm_machine.specs.declared.part.Part.{Part}
use Rattle.erm_machine.specs.declared.task.Task.TheVariants as task
use Rattle.erm_machine.specs.declared.version.Cell.{Cell}
use Rattle.erm_machine.specs.Seat.{end_of, read_at, with_succ, with_task}
use Rattle.erm_machine.specs.Words.{head_of}
use Rattle.erm_rule.specs.declared.view.Opening.{Opening}
use Rattle.erm_rule.specs.declared.view.View.{View}
use Rattle.erm_rule.specs.Hands.{in_hand}
use Rattle.erm_rule.specs.Views.{part_in, part_of, one_seat}
use Rattle.erm_rule.proofs.Telling.{part_of-changed, changed_here}
use Rattle.erm_cells.specs.Calls.{walked, DidWalk}
use Rattle.erm_cells.specs.Hands.{next_cleared}
use Rattle.erm_seats.specs.Calls.{begun_part, DidBegin}
use Rattle.erm_seats.specs.Race.{idle_part}
use Rattle.erm_readers.specs.Calls.{hand_of, rated, rated_part, registered_part, words_of, DidRateRead, DidRegister, IsClearing, IsRegistered, IsToBeRead}

one_in : (who : ℕ) (x : Part) → part_in (one_seat who x) who ≡ Some x
one_in who x = ap (λ (b : Bool). if b then Some x else None) (eq-eqb who who refl)

-- its bit may be cleared, whatever was rated
clears : (none : Bool) (succ from : ℕ) (t : Attempt) → IsClearing t (Some (0, 0, 0, 0)) → IsClearing (if none then t else with_succ succ from t) (Some (0, 0, 0, 0))
clears true succ from t is = is
clears false succ from t is = is

read_cell : (none : Bool) (succ from : ℕ) (t : Attempt) → (read_at (if none then t else with_succ succ from t) 0).version.cell ≡ (read_at t 0).version.cell
read_cell true succ from t = refl
read_cell false succ from t = refl

module _ (o : Opening) (who : ℕ) (v : View) (is : v ≡ one_seat who (idle_part o)) (begin : ℕ) (w : View) (begun : DidBegin v who begin w) (oid entry stamp : ℕ) (u : View) (walk : DidWalk w who oid entry stamp u) (low : stamp < begin)
    (cell : ℕ) (cell_is : cell ≡ head_of entry) where
  has_idle : part_in v who ≡ Some (idle_part o)
  has_idle = subst (λ (z : View). part_in z who ≡ Some (idle_part o)) (sym is) (one_in who (idle_part o))

  abbrev y : Part
  y = begun_part who begun.announced begin (part_of v who)

  abbrev f : Part
  f = with_task (task.Found walk.version stamp (Some entry)) y

  begun_is : part_of w who ≡ y
  begun_is = part_of-changed v who w y (idle_part o) has_idle begun.view_is

  has_begun : part_in w who ≡ Some y
  has_begun = changed_here v who w y (idle_part o) has_idle begun.view_is

  walked_is : with_task (walked walk.version entry stamp (part_of w who)) (part_of w who) ≡ f
  walked_is =
      ap (λ (z : Part). with_task (walked walk.version entry stamp z) z) begun_is
      ∙ ap (λ (b : Bool). with_task (if b then task.Found walk.version stamp (Some entry) else task.Passed walk.version) y) (lt-ltb stamp begin low)

  head : part_of u who ≡ f
  head = part_of-changed w who u (with_task (walked walk.version entry stamp (part_of w who)) (part_of w who)) y has_begun walk.view_is ∙ walked_is

  has_found : part_in u who ≡ Some f
  has_found = changed_here w who u (with_task (walked walk.version entry stamp (part_of w who)) (part_of w who)) y has_begun walk.view_is ∙ ap (λ (z : Part). Some z) walked_is

  pub to_be_read : IsToBeRead (part_of u who).current (part_of u who).task cell
  to_be_read = subst (λ (z : Part). IsToBeRead z.current z.task cell) (sym head) (walk.cell_is ∙ sym cell_is, refl)

  module _ (r : View) (registered : DidRegister u who r) where
    abbrev g : Part
    g = registered_part (hand_of u who) (words_of registered.known.core (hand_of u who)) (part_of u who)

    registered_is : part_of r who ≡ g
    registered_is = part_of-changed u who r g f has_found registered.view_is

    has_registered : part_in r who ≡ Some g
    has_registered = changed_here u who r g f has_found registered.view_is

    hand : (hand_of u who).cell ≡ cell
    hand = ap (λ (z : Part). (in_hand z.task).cell) head ∙ walk.cell_is ∙ sym cell_is

    pub is_registered : IsRegistered (part_of r who).task cell
    is_registered = subst (λ (z : Part). IsRegistered z.task cell) (sym registered_is) hand

    module _ (succ : Option ℕ) (q : View) (did : DidRateRead r who succ q) where
      abbrev n : Part
      n = registered_part (hand_of u who) (words_of registered.known.core (hand_of u who)) f

      abbrev now : Cell
      now = words_of did.known.core (hand_of r who)

      abbrev h : Part
      h = rated_part (hand_of r who) now n

      rated_is : part_of q who ≡ h
      rated_is =
          part_of-changed r who q (rated_part (hand_of r who) now (part_of r who)) g has_registered did.view_is
          ∙ ap (λ (z : Part). rated_part (hand_of r who) now z) (registered_is ∙ ap (λ (z : Part). registered_part (hand_of u who) (words_of registered.known.core (hand_of u who)) z) head)

      pub clearing : IsClearing (part_of q who).current (end_of (part_of q who).task)
      clearing = subst (λ (z : Part). IsClearing z.current (end_of z.task)) (sym rated_is) (clears (eqb now.overwriter 0) now.overwriter_succ now.overwriter n.current (refl, omega arith, λ commits. absurd (cc)))

      pub cell_cleared : (next_cleared (part_of q who)).cell ≡ cell
      cell_cleared = ap (λ (z : Part). (next_cleared z).cell) rated_is ∙ read_cell (eqb now.overwriter 0) now.overwriter_succ now.overwriter n.current ∙ hand
