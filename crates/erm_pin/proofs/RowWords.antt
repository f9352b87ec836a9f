-- The row of the version that the flush seat has found, word by word.
use Rattle.std.proofs.Common.{◌≡◌, ℕ, ◌+◌, ◌<◌, ◌≤◌, true, ◌&&◌, ◌||◌, List, length, take, set, Some, refl, sym, ap, ◌∙◌, subst, arith}
use Rattle.std.proofs.lemmas.Bool.{or_left}
use Rattle.std.proofs.lemmas.List.{get_or-set_same, length-set, take-set, take_all, take_more_same}
use Rattle.erm_cells.proofs.Heads.{has, same_self}
use Rattle.erm_cells.proofs.Staying.{rows}
use Rattle.erm_cells.proofs.Views.{both, ready_at, told_is, when_true}
use Rattle.erm_machine.specs.declared.event.Kind.{Kind}
use Rattle.erm_machine.specs.declared.event.Kind.TheVariants as kind
use Rattle.erm_machine.specs.declared.limits.TheConstants.{FLUSH_SEAT, OBJECT_LIMIT}
use Rattle.erm_machine.specs.declared.part.Part.{Part}
use Rattle.erm_machine.specs.declared.task.Task.{Task}
use Rattle.erm_machine.specs.declared.task.Task.TheVariants as task
use Rattle.erm_machine.specs.declared.version.CellWord.TheVariants as word
use Rattle.erm_machine.specs.declared.version.VersionAt.{VersionAt}
use Rattle.erm_machine.specs.Chains.{IsNamed, NamedInHand}
use Rattle.erm_machine.specs.Core.{Core, Shared, spot_of, word_at}
use Rattle.erm_machine.specs.Reading.{may_copy_row, may_load_row}
use Rattle.erm_machine.specs.Seat.{is_active, when}
use Rattle.erm_machine.specs.Sound.{Sound}
use Rattle.erm_machine.specs.Step.{after_event, reads_early, unless}
use Rattle.erm_model.specs.RowTransaction.{Law}
use Rattle.erm_rule.specs.declared.view.Book.{Book}
use Rattle.erm_rule.specs.declared.view.View.{View}
use Rattle.erm_rule.specs.Books.{IsBookOf, Passes}
use Rattle.erm_rule.specs.Hands.{IsKnown, in_hand, walk_kind}
use Rattle.erm_rule.specs.Steps.{Booked, Ready, Told}
use Rattle.erm_rule.specs.Views.{IsView, part_in, part_of}
use Rattle.erm_rule.proofs.Courses.{onward}
use Rattle.erm_rule.proofs.Parts.{with_part-same}
use Rattle.erm_pin.specs.Pins.{HasFound}
use Rattle.erm_pin.specs.Rows.{IsRowOf, row_of}

abbrev F : ℕ
F = FLUSH_SEAT

-- the load of a word of the row leaves the part: the flush seat sets no bit
word_loads : (k : ℕ) (x : Part) (t : Task) → is_active x.place ≡ true → HasFound t
    → unless (reads_early F (word.Row k) t) (when (is_active x.place && (may_load_row (in_hand t) t || may_copy_row (in_hand t) x t)) x) ≡ Some x
word_loads k x (task.Found version stamp head) active found = when_true _ x (both _ _ active (or_left _ _ (same_self version)))
word_loads k x _ active found = absurd found

found_named : (t : Task) → HasFound t → (s : Shared) → NamedInHand s t → IsNamed s (in_hand t)
found_named (task.Found version stamp head) found s named = named
found_named _ found s named = absurd found

-- THE LOOP. So many words of the row are loaded.
pub record RowLoop (b : Book) (k : ℕ) (row : List ℕ) (e : Book) : Type 0 where
  pub same : e.view ≡ b.view
  pub size : length row ≡ 16
  pub front : (c : Core) → IsBookOf e c → take k row ≡ take k (row_of c (in_hand (part_of b.view F).task))

module _ (b : Book) (active : is_active (part_of b.view F).place ≡ true) (known : IsKnown b.view) (found : HasFound (part_of b.view F).task) where
  abbrev x : Part
  x = part_of b.view F

  abbrev version : VersionAt
  version = in_hand x.task

  held : part_in b.view F ≡ Some x
  held = has b.view F active

  -- the version stays, with its row
  named : (c : Core) → Sound c → IsView b.view c → IsNamed c.shared version
  named c sound is = found_named x.task found c.shared (subst (λ (z : Part). NamedInHand c.shared z.task) (is F x held) (sound.own F).chains.named)

  row_size : (c : Core) → Sound c → IsView b.view c → length (row_of c version) ≡ 16
  row_size c sound is = let n = named c sound is in sound.common.rowed.rows version.oid version.place n.object n.within

  same_row : (c d : Core) (q : ℕ) (k : Kind) → Sound c → IsView b.view c → after_event c q k ≡ Some d → row_of d version ≡ row_of c version
  same_row c d q k sound is event = (rows c d q k version.oid event).rows version.place (named c sound is).within

  pub row_starts : (row : List ℕ) → length row ≡ 16 → RowLoop b 0 row b
  row_starts row size = record { same = refl; size = size; front = λ c is. refl }

  module _ (k : ℕ) (row : List ℕ) (e : Book) (loop : RowLoop b k row e) where
    pub row_held : part_in e.view F ≡ Some x
    row_held = ap (λ (v : View). part_in v F) loop.same ∙ held

    pub row_object : (in_hand (part_of e.view F).task).oid < OBJECT_LIMIT
    row_object = subst (λ (v : View). (in_hand (part_of v F).task).oid < OBJECT_LIMIT) (sym loop.same) (named known.core known.sound known.is_view).object

    pub row_ready : Ready e.view F (walk_kind (part_of e.view F) (word.Row k))
    row_ready =
        subst (λ (v : View). Ready v F (walk_kind (part_of v F) (word.Row k))) (sym loop.same)
        (ready_at b.view F (walk_kind x (word.Row k)) x held (λ c. x) (λ c sound. word_loads k x x.task active found))

    module _ (law : Law) (met : ℕ) (f : Book) (low : k < 16) (booked : Booked law e F (walk_kind (part_of e.view F) (word.Row k)) met f) where
      abbrev load : Kind
      load = kind.LoadCell version (word.Row k)

      step : Booked law e F load met f
      step = subst (λ (v : View). Booked law e F (walk_kind (part_of v F) (word.Row k)) met f) loop.same booked

      told : Told b.view F load met f.view
      told = subst (λ (v : View). Told v F load met f.view) loop.same step.under.told

      same_now : f.view ≡ b.view
      same_now = told_is b.view F load met f.view x x held told (word_loads k x x.task active found) ∙ with_part-same F x b.view known.in_order held

      abbrev Front : Core → Type 0
      Front c = take (k + 1) (set row k met) ≡ take (k + 1) (row_of c version)

      front_kept : (c d : Core) → IsView f.view c → Passes c d → Front c → Front d
      front_kept c d is passes front =
          front ∙ ap (λ (r : List ℕ). take (k + 1) r) (sym (same_row c d passes.1.0 passes.1.1 passes.0 (subst (λ (v : View). IsView v c) same_now is) passes.1.2))

      front_more : (c d : Core) → IsBookOf e c → word_at c (spot_of F load) ≡ met → after_event c F load ≡ Some d → Front d
      front_more c d is found_is event =
          let of : IsView b.view c = subst (λ (v : View). IsView v c) loop.same is.is_view in
          let all = row_size c is.sound of in
          let size = loop.size in
          let same_size = length-set row k met in
          take_more_same (set row k met) (row_of c version) k 0 (omega (arith, same_size, size, low)) (omega (arith, all, low)) (take-set row k met ∙ loop.front c is)
          (get_or-set_same row k met 0 (omega (arith, size, low)) ∙ sym found_is)
          ∙ ap (λ (r : List ℕ). take (k + 1) r) (sym (same_row c d F load is.sound of event))

      pub row_goes_on : RowLoop b (k + 1) (set row k met) f
      row_goes_on = record {
        same = same_now;
        size = length-set row k met ∙ loop.size;
        front = λ c is. onward Front e F load met f.view front_kept front_more c (subst (λ (z : Book). IsBookOf z c) step.book_is is);
      }

    pub row_loaded : 16 ≤ k → IsRowOf e version row
    row_loaded all c is =
        let of : IsView b.view c = subst (λ (v : View). IsView v c) loop.same is.is_view in
        let long = row_size c is.sound of in
        let size = loop.size in
        sym (take_all k (row_of c version) (omega (arith, long, all))) ∙ sym (loop.front c is) ∙ take_all k row (omega (arith, size, all))
