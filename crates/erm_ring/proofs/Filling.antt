-- The words of a block are stored one after another.
use Rattle.std.proofs.Common.{add-one, ◌≡◌, ℕ, zero, suc, ◌+◌, ◌-◌, ◌^◌, ◌<◌, ◌≤◌, true, false, List, [], ◌∷◌, ◌++◌, length, get_or, take, Some, refl, sym, ap, ◌∙◌, subst, arith}
use Rattle.std.specs.Prelude.{IsSome}
use Rattle.std.proofs.Math.Seq.{take-suc}
use Rattle.std.proofs.lemmas.Bool.{eq-eqb, lt-ltb}
use Rattle.erm_machine.specs.declared.attempt.Attempt.{Attempt}
use Rattle.erm_machine.specs.declared.event.Kind.TheVariants as kind
use Rattle.erm_machine.specs.declared.limits.TheConstants.{LEAST_BLOCK}
use Rattle.erm_machine.specs.declared.part.Part.{Part}
use Rattle.erm_machine.specs.declared.place.Place.{Place}
use Rattle.erm_machine.specs.declared.place.Place.TheVariants.{Sealed}
use Rattle.erm_machine.specs.declared.task.Task.{Task}
use Rattle.erm_machine.specs.declared.task.Task.TheVariants as task
use Rattle.erm_machine.specs.Bounds.{words_stored}
use Rattle.erm_machine.specs.Facts.{IsCurrent}
use Rattle.erm_machine.specs.Seat.{is_sealed, is_vacant}
use Rattle.erm_machine.specs.Settling.{filled, store_ring}
use Rattle.erm_core_calls.proofs.Seats.{range_size}
use Rattle.erm_core_ring.proofs.Ring.{own_end}
use Rattle.erm_rule.specs.declared.view.View.{View}
use Rattle.erm_rule.specs.Hands.{IsKnown}
use Rattle.erm_rule.specs.Steps.{Ready, Told}
use Rattle.erm_rule.specs.Views.{part_in, part_of, with_part}
use Rattle.erm_rule.proofs.Numbered.{known_after}
use Rattle.erm_rule.proofs.Parts.{with_part-same}
use Rattle.erm_rule.proofs.Telling.{changed_here, held_part, is_held}
use Rattle.erm_cells.proofs.Views.{both, ready_at, told_next, when_true}
use Rattle.erm_ring.specs.Block.{filled_part, DidFill, MayFill}

-- a sealed seat isn't vacant, and has a range
pub sealed_taken : (pl : Place) → is_sealed pl ≡ true → is_vacant pl ≡ false
sealed_taken (Sealed tail stamp) e = refl
sealed_taken _ e = absurd (cc)

pub sealed_drawn : (pl : Place) (t : Attempt) → is_sealed pl ≡ true → IsCurrent pl t → 0 < t.stamp
sealed_drawn (Sealed tail stamp) t e is = let a = is.stamp_is in let b = is.positive in omega (arith, a, b)
sealed_drawn _ t e is = absurd (cc)

-- no word is stored before all versions are passed
none_stored : (pl : Place) (t : Task) (reads writes size : ℕ) → is_sealed pl ≡ true → t ≡ task.Settles reads writes → words_stored pl t size ≡ 0
none_stored (Sealed tail stamp) t reads writes size e is = ap (λ (u : Task). words_stored (Sealed tail stamp) u size) is
none_stored _ t reads writes size e is = absurd (cc)

bare : (xs : List ℕ) → length xs ≡ 0 → xs ≡ []
bare [] e = refl
bare (x ∷ xs) e = absurd (omega (arith, e))

-- the call in progress once so many words are stored
abbrev pub fill_task : ℕ → Task → Task
fill_task zero t = t
fill_task (suc n) t = task.Fills (suc n)

-- the part once so many words are stored
abbrev pub filling : ℕ → List ℕ → Part → Part
filling n words x = record x { task = fill_task n x.task; current = record x.current { block = take n words } }

module _ (x : Part) (at : ℕ) (words : List ℕ) (may : MayFill at words x) where
  all_passed : filled x.current x.task ≡ Some 0
  all_passed =
      let t = x.current in
      ap (filled t) may.passed ∙ passed (length t.reads) (length t.writes)
    where
      passed : (reads writes : ℕ) → filled (record x.current { reads = x.current.reads }) (task.Settles (length x.current.reads) (length x.current.writes)) ≡ Some 0
      passed reads writes = rw (eq-eqb (length x.current.reads) (length x.current.reads) refl, eq-eqb (length x.current.writes) (length x.current.writes) refl) refl

  so_filled : (n : ℕ) → filled (filling n words x).current (filling n words x).task ≡ Some n
  so_filled zero = all_passed
  so_filled (suc n) = refl

  pub word_stored : (n : ℕ) → n < length words → store_ring (at + 1 + n) (get_or words n 0) (filling n words x) (filled (filling n words x).current (filling n words x).task) ≡ Some (filling (n + 1) words x)
  word_stored n low =
      let size = may.size_is in
      let start = may.stamp_is in
      let stamp = x.current.stamp in
      let y = filling n words x in
      let z : Part = record y { task = task.Fills (n + 1); current = record y.current { block = take n words ++ get_or words n 0 ∷ [] } } in
      let stored : store_ring (at + 1 + n) (get_or words n 0) y (Some n) ≡ Some z =
      when_true _ z
      (both _ _ (both _ _ (both _ _ (both _ _ may.sealed (lt-ltb stamp (at + 1 + n) (omega (arith, start)))) (eq-eqb (at + 1 + n - stamp - 1) n (omega (arith, start))))
      (lt-ltb n x.current.size (omega (arith, size, low)))) (lt-ltb (n + 1) x.current.size (omega (arith, size, low))))
      in
      ap (store_ring (at + 1 + n) (get_or words n 0) y) (so_filled n) ∙ stored
      ∙ ap (λ (ws : List ℕ). Some (record x { task = task.Fills (n + 1); current = record x.current { block = ws } })) (sym (take-suc words n 0 low))
      ∙ next n
    where
      next : (n : ℕ) → Some (record x { task = task.Fills (n + 1); current = record x.current { block = take (suc n) words } }) ≡ Some (filling (n + 1) words x)
      next n =
          ap (λ (m : ℕ). Some (record x { task = task.Fills m; current = record x.current { block = take (suc n) words } })) (add-one n)
          ∙ ap (λ (m : ℕ). Some (filling m words x)) (sym (add-one n))

-- so many words are stored
pub record FillLoop (v : View) (who : ℕ) (words : List ℕ) (n : ℕ) (u : View) : Type 0 where
  pub known : IsKnown u
  pub view_is : u ≡ with_part who (filling n words (part_of v who)) v

module _ (v : View) (who at : ℕ) (words : List ℕ) (known : IsKnown v) (may : MayFill at words (part_of v who)) where
  abbrev x : Part
  x = part_of v who

  has : part_in v who ≡ Some x
  has = held_part v who (sealed_taken x.place may.sealed)

  there : known.core.seats who ≡ x
  there = known.is_view who x has

  drawn : 0 < (known.core.seats who).current.stamp
  drawn = sealed_drawn (known.core.seats who).place (known.core.seats who).current (ap (λ (z : Part). is_sealed z.place) there ∙ may.sealed) (known.sound.own who).ranges.current

  -- the block ends below 2 ^ 61, and has words behind its header
  pub ends_low : x.current.stamp + x.current.size < 2 ^ 61
  ends_low =
      let end = own_end known.core known.sound who drawn in
      let low = known.sound.common.ranges.below in
      subst (λ (z : Part). z.current.stamp + z.current.size < 2 ^ 61) there (omega (arith, end, low))

  pub some_words : 0 < length words
  some_words =
      let least : LEAST_BLOCK ≤ x.current.size = subst (λ (z : Part). LEAST_BLOCK ≤ z.current.size) there (range_size known.core known.sound who drawn).0 in
      let size = may.size_is in
      omega (arith, least, size)

  pub place_low : (k : ℕ) → k < length words → at + 1 + k < 2 ^ 61
  place_low k less = let end = ends_low in let size = may.size_is in let start = may.stamp_is in omega (arith, end, size, start, less)

  none_yet : x.current.block ≡ []
  none_yet =
      let none : length (known.core.seats who).current.block ≡ words_stored (known.core.seats who).place (known.core.seats who).task (known.core.seats who).current.size = (known.sound.own who).bounds.stored in
      bare x.current.block
      (subst (λ (z : Part). length z.current.block ≡ words_stored z.place z.task z.current.size) there none
      ∙ none_stored x.place x.task (length x.current.reads) (length x.current.writes) x.current.size may.sealed may.passed)

  pub fill_starts : (u : View) → u ≡ v → FillLoop v who words 0 u
  fill_starts u same = record {
    known = subst IsKnown (sym same) known;
    view_is = same ∙ sym (ap (λ (ws : List ℕ). with_part who (record x { current = record x.current { block = ws } }) v) (sym none_yet) ∙ with_part-same who x v known.in_order has);
  }

  module _ (u : View) (n : ℕ) (low : n < length words) (loop : FillLoop v who words n u) where
    here : part_in u who ≡ Some (filling n words x)
    here = changed_here v who u (filling n words x) x has loop.view_is

    pub fill_held : IsSome (part_in u who)
    fill_held = is_held u who (filling n words x) here

    pub fill_ready : Ready u who (kind.StoreRing (at + 1 + n) (get_or words n 0))
    fill_ready = ready_at u who (kind.StoreRing (at + 1 + n) (get_or words n 0)) (filling n words x) here (λ _. filling (n + 1) words x) (λ c sound. word_stored x at words may n low)

    pub fill_goes_on : (w : View) → (found : ℕ) × Told u who (kind.StoreRing (at + 1 + n) (get_or words n 0)) found w → FillLoop v who words (n + 1) w
    fill_goes_on w told = record {
      known = known_after u who (kind.StoreRing (at + 1 + n) (get_or words n 0)) told.0 w told.1;
      view_is = told_next v who (kind.StoreRing (at + 1 + n) (get_or words n 0)) told.0 u w (filling n words x) x (filling (n + 1) words x) has loop.view_is told.1 (word_stored x at words may n low);
    }

  all_filled : (n : ℕ) → 0 < n → n ≡ length words → filling n words x ≡ filled_part words x
  all_filled zero some e = absurd (omega (arith, some))
  all_filled (suc n) some e =
      ap (λ (m : ℕ). record x { task = task.Fills m; current = record x.current { block = take m words } }) e
      ∙ ap (λ (ws : List ℕ). record x { task = task.Fills (length words); current = record x.current { block = ws } }) (take-all words)
    where
      take-all : (ws : List ℕ) → take (length ws) ws ≡ ws
      take-all [] = refl
      take-all (w ∷ ws) = ap (λ (z : List ℕ). w ∷ z) (take-all ws)

  pub did_fill : (u : View) (n : ℕ) → n ≡ length words → FillLoop v who words n u → DidFill v who words u
  did_fill u n all loop = record {
    view_is = loop.view_is ∙ ap (λ (y : Part). with_part who y v) (all_filled n (let some = some_words in omega (arith, some, all)) all);
    known = loop.known;
  }
