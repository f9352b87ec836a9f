-- A seat that nobody has takes no step.
use Rattle.std.proofs.Common.{◌≡◌, ℕ, ◌≤◌, Bool, true, false, cond, not, ◌&&◌, eqb, map, length, Option, Some, None, refl, ap, ◌∙◌, arith}
use Rattle.std.specs.Prelude.{if◌then◌else◌}
use Rattle.std.proofs.lemmas.List.{get_or_past, length-map}
use Rattle.erm_machine.specs.declared.event.Counter.TheVariants.{Objects, Cells}
use Rattle.erm_machine.specs.declared.event.Kind.{Kind}
use Rattle.erm_machine.specs.declared.event.Kind.TheVariants as kind
use Rattle.erm_machine.specs.declared.event.TailUse.TheVariants as purpose
use Rattle.erm_machine.specs.declared.limits.TheConstants.{ANNOUNCERS}
use Rattle.erm_machine.specs.declared.part.Part.{Part}
use Rattle.erm_machine.specs.declared.place.Place.TheVariants.{Vacant}
use Rattle.erm_machine.specs.declared.version.CellWord.TheVariants as word
use Rattle.erm_machine.specs.Core.{Core, Shared, fresh_part, spot_of, word_at}
use Rattle.erm_machine.specs.Life.{split, join}
use Rattle.erm_machine.specs.Step.{part_after, moved, is_known, after_event, with_part}
use Rattle.erm_machine.specs.Words.{is_flusher, is_seat}
use Rattle.erm_seat.specs.Parts.{part_of}
use Rattle.erm_core.specs.declared.state.State.{State}
use Rattle.erm_core.specs.Cores.{core_of}
use Rattle.erm_core.specs.Kinds.{MeetsOne}
use Rattle.erm_core.proofs.Steps.{one_word}

-- nothing, whatever the test says
both_none : {X : Type 0} (b : Bool) → cond {A = Option X} b None None ≡ None
both_none true = refl
both_none false = refl

-- a guard that has a false part
unmet : (a b : Bool) (x : Part) → (if (a && false) && b then Some x else None) ≡ None
unmet true b x = refl
unmet false b x = refl

vacant_part : (p : ℕ) (k : Kind) (found : ℕ) (s : Shared) (run opening : ℕ) → part_after p k found s (fresh_part Vacant run opening) ≡ None
vacant_part p (kind.LoadTail purpose.Begin) found s run opening = refl
vacant_part p (kind.LoadTail purpose.Horizon) found s run opening = refl
vacant_part p (kind.LoadTail purpose.Gather) found s run opening = unmet (is_flusher p) _ _
vacant_part p (kind.LoadCell v word.Stamp) found s run opening = refl
vacant_part p (kind.LoadCell v word.Link) found s run opening = refl
vacant_part p (kind.LoadCell v (word.Row n)) found s run opening = refl
vacant_part p (kind.LoadCell v _) found s run opening = refl
vacant_part p (kind.LoadCounter Objects) found s run opening = refl
vacant_part p (kind.LoadCounter Cells) found s run opening = refl
vacant_part p (kind.AddCounter Objects) found s run opening = refl
vacant_part p (kind.AddCounter Cells) found s run opening = refl
vacant_part p _ found s run opening = refl

-- no event of a seat that nobody has
module _ (c : Core) (p run opening : ℕ) (is : c.seats p ≡ fresh_part Vacant run opening) where
  vacant_word : (k : Kind) → MeetsOne k → after_event c p k ≡ None
  vacant_word k one =
      let w = word_at c (spot_of p k) in
      one_word c p k one
      ∙ ap (λ (o : Option Part). if is_known k then moved p k w c o else None) (ap (λ (x : Part). part_after p k w c.shared x) is ∙ vacant_part p k w c.shared run opening)
      ∙ both_none (is_known k)

  pub vacant_none : (k : Kind) → after_event c p k ≡ None
  vacant_none (kind.Split other) =
      ap (λ (x : Part). if not (eqb other p) && is_seat other then with_part c other (split x (c.seats other)) else None) is ∙ both_none (not (eqb other p) && is_seat other)
  vacant_none (kind.Join other) =
      ap (λ (x : Part). if eqb other p then None else with_part c p (join x (c.seats other))) is ∙ both_none (eqb other p)
  vacant_none k = vacant_word k tt

-- a seat above those that have words
pub seat_above : (s : State) (p : ℕ) → ANNOUNCERS ≤ p → (core_of s).seats p ≡ fresh_part Vacant s.run s.opening
seat_above s p above =
    let len : length (map part_of s.seats.items) ≡ length s.seats.items = length-map s.seats.items part_of in
    let items = s.seats.ok.0 in
    let seats = s.all_seats in
    get_or_past (map part_of s.seats.items) p (fresh_part Vacant s.run s.opening) (omega (arith, len, items, seats, above))
