-- A step of the machine on a word keeps the rule, and tells what it tells: for every kind of step at once.
use Rattle.std.proofs.Common.{◌≡◌, ◌≢◌, ℕ, zero, suc, ◌<◌, ◌≤◌, ◌⊎◌, inl, inr, ⊎_elim, Bool, true, false, List, [], ◌∷◌, length, map, get_or, set, Option, Some, None, is_some, unwrap_or, refl, sym, ap, ◌∙◌, subst, arith, length-set, get_or-set_same, get_or-set_other}
use Rattle.std.specs.Prelude.{if◌then◌else◌, IsSome}
use Rattle.std.proofs.lemmas.Bool.{cases_eq}
use Rattle.std.proofs.lemmas.Option.{same_Some}
use mathlib.Core.Option.{some, some-injective, some-ne-none}
use lib.ListN.{get_elem?}
use Rattle.atomic_table.specs.Table.{Me, keeps, Allows}
use Rattle.atomic_table.proofs.Lists.{at_set, set_else}
use Rattle.erm_layout.specs.declared.limits.TheConstants.{WORDS}
use Rattle.erm_layout.specs.declared.word.Word.{Word}
use Rattle.erm_layout.specs.declared.word.Word.TheVariants as word
use Rattle.erm_layout.specs.Layout.{HasNumber, index_of}
use Rattle.erm_layout.specs.Spots.{word_of_spot}
use Rattle.erm_machine.specs.declared.limits.TheConstants.{ANNOUNCERS}
use Rattle.erm_machine.specs.declared.event.Counter.TheVariants.{Objects, Cells}
use Rattle.erm_machine.specs.declared.event.Kind.{Kind}
use Rattle.erm_machine.specs.declared.event.Kind.TheVariants as kind
use Rattle.erm_machine.specs.declared.part.Part.{Part}
use Rattle.erm_machine.specs.declared.place.Place.TheVariants.{Vacant}
use Rattle.erm_machine.specs.declared.version.Cell.{Cell}
use Rattle.erm_machine.specs.Core.{Core, Shared, no_word, spot_of, word_at, fresh_part}
use Rattle.erm_machine.specs.Decided.{record_of}
use Rattle.erm_machine.specs.Lawful.{DrawsLawfully, Lawful}
use Rattle.erm_machine.specs.Sound.{Sound}
use Rattle.erm_machine.specs.Step.{part_after, stored, shared_after, is_known, after_event}
use Rattle.erm_machine.specs.Words.{put, is_seat}
use Rattle.erm_machine.proofs.Frames.{put_other}
use Rattle.erm_core_blocks.specs.Spelled.{AreSpelled, DecidesSpelled, IsSpelled, decided_by}
use Rattle.erm_model.specs.declared.limits.TheConstants.{TABLE_CELLS}
use Rattle.erm_model.specs.Lawful.{IsLawfulRecord}
use Rattle.erm_model.specs.Member.{◌∈◌}
use Rattle.erm_model.specs.RowTransaction.{Law}
use Rattle.erm_rule.specs.declared.view.Book.{Book}
use Rattle.erm_rule.specs.declared.view.Held.{Held}
use Rattle.erm_rule.specs.declared.view.Opening.{Opening}
use Rattle.erm_rule.specs.declared.view.View.{View}
use Rattle.erm_rule.specs.Books.{view_in, noted, Passes, Course}
use Rattle.erm_rule.specs.Cells.{word_in, cells_after, IsTold}
use Rattle.erm_rule.specs.Newest.{CutsAtNewest}
use Rattle.erm_rule.specs.Rule.{Stands, HeldByNone, KeptUnder}
use Rattle.erm_rule.specs.Steps.{Ready, Agrees, Promises, Told, Booked}
use Rattle.erm_rule.specs.Views.{part_in, part_of, held_after, with_part, IsView, IsInOrder}
use Rattle.erm_rule.specs.Openings.{start_core, start_of}
use Rattle.erm_rule.proofs.Courses.{views_at, views_set, course_more, AreViews, IsOnCourse, PassesOthers, courses_stay, courses_own, took_in_stays, pasts_stay, pasts_set}
use Rattle.erm_rule.proofs.Filled.{cells_next}
use Rattle.erm_rule.proofs.Found.{next, event_is, met_after, unmet_after, from_some}
use Rattle.erm_rule.proofs.Lives.{Meets, is_as_met, lives}
use Rattle.erm_rule.proofs.Newest.{newest_kept}
use Rattle.erm_rule.proofs.Opened.{stays_opened}
use Rattle.erm_rule.proofs.Parts.{order_after, in_map, map_in, found_among}

-- the laws on which the rule stands: two words have two numbers, and each event keeps the state sound, the law of rows, and the
-- blocks spelled
abbrev pub OneNumber : Type 0
OneNumber = (v w : Word) → HasNumber v → HasNumber w → index_of v ≡ index_of w → v ≡ w

abbrev pub Below : Type 0
Below = (w : Word) → HasNumber w → index_of w < WORDS

abbrev pub KeepsSound : Type 0
KeepsSound = (c d : Core) (seat : ℕ) (k : Kind) → Sound c → after_event c seat k ≡ Some d → Sound d

abbrev pub KeepsLaw : Law → Type 0
KeepsLaw law = (c d : Core) (seat : ℕ) (k : Kind) → Sound c → Lawful law c.shared c.seats → DrawsLawfully law c seat k → after_event c seat k ≡ Some d → Lawful law d.shared d.seats

abbrev pub KeepsSpelled : Type 0
KeepsSpelled = (c d : Core) (seat : ℕ) (k : Kind) → Sound c → AreSpelled c → DecidesSpelled c seat k → after_event c seat k ≡ Some d → AreSpelled d

-- a view that stands is one of the state
pub standing_view : (words : List ℕ) (views : List View) (c : Core) (cells : ℕ → Cell) (holder : ℕ → ℕ) (id : ℕ) (v : View) → Stands words views c cells holder → get_elem? views id ≡ some v → IsView v c
standing_view words views c cells holder id v stands at q x e =
    let h = found_among q v.held x e in
    let is : c.seats h.0.seat ≡ h.0.part = stands.parts_are id v h.0 at h.1 in
    subst (λ n. c.seats n ≡ x) h.2 (is ∙ h.3)

-- an event of a seat of one view is, for each other, one of a seat that it doesn't have
pub passes_others : (words : List ℕ) (books : List Book) (c : Core) (cells : ℕ → Cell) (holder : ℕ → ℕ) → Stands words (map view_in books) c cells holder → (own : ℕ) (b : Book) → get_elem? books own ≡ some b →
    (h : Held) → h ∈ b.view.held → (k : Kind) (d : Core) → Sound c → after_event c h.seat k ≡ Some d → PassesOthers books own c d
passes_others words books c cells holder stands own b at h m k d sound event id e ne there =
    let here : get_elem? (map view_in books) own ≡ some b.view = views_at books own b at in
    let held_by : holder h.seat ≡ own = stands.holders own b.view h here m in
    (sound, (h.seat, k, (stands.in_order own b.view here).seats h m, (λ g within same. ne (sym (stands.holders id e.view g (views_at books id e there) within) ∙ ap holder same ∙ held_by)), event))

-- the changed view stands in its place
pub set_there : (views : List View) (id : ℕ) (v w : View) → get_elem? views id ≡ some v → get_elem? (set views id w) id ≡ some w
set_there [] id v w at = absurd (some-ne-none v (sym at))
set_there (x ∷ xs) zero v w at = refl
set_there (x ∷ xs) (suc id) v w at = set_there xs id v w at

meets_none : (o : Option Word) (u : Word) → o ≡ None → o ≡ Some u → ⊥
meets_none o u none e = absurd (cc)

-- a seat that has words is one of those that are counted
pub of_seat : (q : ℕ) → is_seat q ≡ true → q < ANNOUNCERS
of_seat q h = grind arith

-- and its begin word is one of the table's
pub begin_numbered : (q : ℕ) → is_seat q ≡ true → HasNumber (word.Begin q)
begin_numbered q h = (grind arith, of_seat q h)

-- a seat of a view is so counted
held_seat : (v : View) (who : ℕ) (x : Part) → IsInOrder v → part_in v who ≡ Some x → who < ANNOUNCERS
held_seat v who x order has =
    let h = found_among who v.held x has in
    of_seat who (ap is_seat (sym h.2) ∙ order.seats h.0 h.1)

-- What becomes of the word at a number: a step that meets it leaves what it stores, and one that meets none leaves it.
abbrev pub Leaves : List ℕ → Core → ℕ → Kind → Word → ℕ → Type 0
Leaves words c who k w n =
    ((word_of_spot (spot_of who k) ≡ Some w) × (n ≡ stored who k (word_at c (spot_of who k)))) ⊎ ((word_of_spot (spot_of who k) ≡ None) × (n ≡ get_or words (index_of w) 0))

-- the same of a change, whatever the state of the view
abbrev pub Does : View → ℕ → Kind → Word → (ℕ → ℕ) → Type 0
Does v who k w f = ((word_of_spot (spot_of who k) ≡ Some w) × Agrees v who k f) ⊎ ((word_of_spot (spot_of who k) ≡ None) × ((n : ℕ) → f n ≡ n))

module _ (words : List ℕ) (views : List View) (c : Core) (cells : ℕ → Cell) (holder : ℕ → ℕ) (stands : Stands words views c cells holder) (sound : Sound c)
    (one_number : OneNumber) (below : Below) (id : ℕ) (v : View) (at : get_elem? views id ≡ some v)
    (who : ℕ) (x y : Part) (has : part_in v who ≡ Some x)
    (k : Kind) (told : IsTold k) (known : is_known k ≡ true) (after : part_after who k (word_at c (spot_of who k)) c.shared (c.seats who) ≡ Some y)
    (w : Word) (numbered : HasNumber w) (n : ℕ) (leaves : Leaves words c who k w n) where
  seat : who < ANNOUNCERS
  seat = held_seat v who x (stands.in_order id v at) has

  alive : Meets c who k
  alive = lives c who sound k (word_at c (spot_of who k)) y seat told after

  -- what the cells hold after the step
  abbrev map_after : ℕ → Cell
  map_after = cells_after k (stored who k (word_at c (spot_of who k))) cells

  -- a word that the step doesn't meet is the one that stood there
  stayed : (u : Word) → HasNumber u → word_of_spot (spot_of who k) ≢ Some u → get_or words (index_of u) 0 ≡ word_in (next c who k y) map_after u
  stayed u has_number ne = stands.words_are u has_number ∙ sym (unmet_after c who y k (stored who k (word_at c (spot_of who k))) cells after u ne)

  word_there : n ≡ word_in (next c who k y) map_after w
  word_there = elim leaves [
    | inl met ↦ met.1 ∙ sym (met_after c who y k cells stands.cells_are.rows after w met.0 numbered (is_as_met c who cells stands.cells_are k alive))
    | inr none ↦ none.1 ∙ stayed w numbered (λ e. meets_none (word_of_spot (spot_of who k)) w none.0 e)
  ]

  -- and so is one of another number
  stays_apart : (u : Word) → HasNumber u → (index_of u ≡ index_of w → ⊥) → get_or words (index_of u) 0 ≡ word_in (next c who k y) map_after u
  stays_apart u has_number other =
      stayed u has_number (λ e.
      elim leaves [
        | inl met ↦ other (ap index_of (same_Some u w (sym e ∙ met.0)))
        | inr none ↦ meets_none (word_of_spot (spot_of who k)) u none.0 e
      ])

  words_after : (u : Word) → HasNumber u → get_or (set words (index_of w) n) (index_of u) 0 ≡ word_in (next c who k y) map_after u
  words_after u has_number =
      ⊎_elim
      (λ (same : index_of u ≡ index_of w).
      let one : u ≡ w = one_number u w has_number numbered same in
      let low : index_of w < length words = let b = below w numbered in let l = stands.count in omega (arith, b, l) in
      ap (λ i. get_or (set words (index_of w) n) i 0) same ∙ get_or-set_same words (index_of w) n 0 low ∙ word_there ∙ ap (word_in (next c who k y) map_after) (sym one))
      (λ (other : index_of u ≡ index_of w → ⊥). get_or-set_other words (index_of w) (index_of u) n 0 other ∙ stays_apart u has_number other)
      (cases_eq (index_of u) (index_of w))

  -- the parts in the changed view, and in the others, which don't have the seat
  own_parts : (h : Held) → h ∈ map (held_after who y) v.held → put c.seats who y h.seat ≡ h.part
  own_parts h m =
      let old = in_map (held_after who y) v.held h m in
      subst (λ (z : Held). put c.seats who y z.seat ≡ z.part) old.2
      (ap (λ (z : Part). if (Rattle.std.proofs.Common.eqb old.0.seat who) then y else z) (stands.parts_are id v old.0 at old.1))

  held_by : holder who ≡ id
  held_by = let h = found_among who v.held x has in ap holder (sym h.2) ∙ stands.holders id v h.0 at h.1

  views_after : (P : ℕ → View → Type 0) → P id (with_part who y v) → ((j : ℕ) (u : View) → j ≢ id → get_elem? views j ≡ some u → P j u) →
      (j : ℕ) (u : View) → get_elem? (set views id (with_part who y v)) j ≡ some u → P j u
  views_after P own others j u e =
      ⊎_elim (λ (t : (j ≡ id) × (with_part who y v ≡ u)). subst (λ (i : ℕ). P i u) (sym t.0) (subst (λ (z : View). P id z) t.1 own)) (λ (t : (j ≢ id) × (get_elem? views j ≡ some u)). others j u t.0 t.1)
      (at_set views id j (with_part who y v) u e)

  stands_after : Stands (set words (index_of w) n) (set views id (with_part who y v)) (next c who k y) map_after holder
  stands_after = record {
    count = length-set words (index_of w) n ∙ stands.count;
    words_are = words_after;
    cells_are = cells_next c sound who seat cells stands.cells_are y k told known alive after;
    parts_are = λ j u h e m.
        views_after (λ (i : ℕ) (z : View). (h : Held) → h ∈ z.held → put c.seats who y h.seat ≡ h.part) own_parts
        (λ i z ne there g in_z.
        put_other c.seats who y g.seat (λ (same : g.seat ≡ who). ne (sym (stands.holders i z g there in_z) ∙ ap holder same ∙ held_by)) ∙ stands.parts_are i z g there in_z)
        j u e h m;
    holders = λ j u h e m.
        views_after (λ (i : ℕ) (z : View). (h : Held) → h ∈ z.held → holder h.seat ≡ i)
        (λ g in_z. let old = in_map (held_after who y) v.held g in_z in ap (λ (z : Held). holder z.seat) (sym old.2) ∙ stands.holders id v old.0 at old.1)
        (λ i z ne there g in_z. stands.holders i z g there in_z)
        j u e h m;
    in_order = views_after (λ (i : ℕ) (z : View). IsInOrder z) (order_after who y v (stands.in_order id v at)) (λ i z ne there. stands.in_order i z there);
  }

  -- a seat that no view has after the step is another than the one that steps, and no view had it before
  seats_stay : (q : ℕ) → HeldByNone (set views id (with_part who y v)) q → HeldByNone views q
  seats_stay q none j u h there m =
      ⊎_elim
      (λ (same : j ≡ id).
      let is : u ≡ v = some-injective u v (sym there ∙ ap (λ (i : ℕ). get_elem? views i) same ∙ at) in
      let own : h ∈ v.held = subst (λ (z : View). h ∈ z.held) is m in
      none id (with_part who y v) (held_after who y h) (set_there views id v (with_part who y v) at) (map_in (held_after who y) v.held h own))
      (λ (apart : j ≢ id). none j u h (set_else views id j (with_part who y v) apart ∙ there) m)
      (cases_eq j id)

  others_after : (fresh : Part) → ((q : ℕ) → HeldByNone views q → c.seats q ≡ fresh) → (q : ℕ) → HeldByNone (set views id (with_part who y v)) q → put c.seats who y q ≡ fresh
  others_after fresh others q none =
      let old : HeldByNone views q = seats_stay q none in
      let h = found_among who v.held x has in
      put_other c.seats who y q (λ (same : q ≡ who). old id v h.0 at h.1 (h.2 ∙ sym same)) ∙ others q old

pub some_of : {X : Type 0} (o : Option X) → IsSome o → (x : X) × (o ≡ Some x)
some_of None h = absurd (cc)
some_of (Some x) h = (x, refl)

same_limit : (p : ℕ) (k : Kind) (found : ℕ) (x : Part) (s : Shared) → (shared_after p k found x s).cell_limit ≡ s.cell_limit
same_limit p (kind.AddCounter Objects) found x s = refl
same_limit p (kind.AddCounter Cells) found x s = refl
same_limit p k found x s = refl

-- the part that a view has of a seat
part_held : (v : View) (who : ℕ) (x : Part) → part_in v who ≡ Some x → part_of v who ≡ x
part_held v who x has = ap (λ (o : Option Part). unwrap_or o (fresh_part Vacant 0 0)) has

-- what the caller promises of the view is so of each state of the view
promised : (law : Law) (c : Core) (v : View) (who : ℕ) (k : Kind) (x : Part) → part_in v who ≡ Some x → IsView v c → Promises law v who k → DrawsLawfully law c who k
promised law c v who (kind.AddTail size) x has sees lawful =
    subst (λ (z : Part). IsLawfulRecord law (record_of who z.current)) (part_held v who x has ∙ sym (sees who x has)) lawful
promised law c v who k x has sees lawful = tt

-- and so is what it promises of a decision: a seat writes the state's run
promised_spelled : (law : Law) (c : Core) (v : View) (who : ℕ) (k : Kind) (x : Part) → Sound c → part_in v who ≡ Some x → IsView v c → Promises law v who k → DecidesSpelled c who k
promised_spelled law c v who (kind.Decide at header) x sound has sees spelled =
    let here : IsSpelled (c.seats who).run who (decided_by header (c.seats who).current) =
    subst (λ (z : Part). IsSpelled z.run who (decided_by header z.current)) (part_held v who x has ∙ sym (sees who x has)) spelled in
    subst (λ (r : ℕ). IsSpelled r who (decided_by header (c.seats who).current)) (sound.own who).lives.run here
promised_spelled law c v who k x sound has sees spelled = tt

-- ONE PROOF FOR ALL KINDS. A step that the machine takes whatever the view leaves open, on the word that it meets, which
-- becomes what the step stores, or, if it meets none, on some word that it leaves, is allowed, and tells what the play wants of it.
module _ (law : Law) (one_number : OneNumber) (below : Below) (keeps_sound : KeepsSound) (keeps_law : KeepsLaw law) (keeps_spelled : KeepsSpelled)
    (opening : Opening) (slots id : ℕ) (me : Me (Unit {0}) Book) (who : ℕ) (k : Kind) (w : Word) (f : ℕ → ℕ)
    (has : IsSome (part_in me.0.view who)) (ready : Ready me.0.view who k) (promises : Promises law me.0.view who k) (known : is_known k ≡ true)
    (told : IsTold k) (numbered : HasNumber w) (does : Does me.0.view who k w f) where
  -- the word at the number is the one found, where the step meets it
  seen_is : (words : List ℕ) (views : List View) (c : Core) (cells : ℕ → Cell) (holder : ℕ → ℕ) → Stands words views c cells holder → Sound c → get_elem? views id ≡ some me.0.view →
      (y : Part) → part_after who k (word_at c (spot_of who k)) c.shared (c.seats who) ≡ Some y → word_of_spot (spot_of who k) ≡ Some w → get_or words (index_of w) 0 ≡ word_at c (spot_of who k)
  seen_is words views c cells holder stands sound at y after met =
      let x = some_of (part_in me.0.view who) has in
      let live = lives c who sound k (word_at c (spot_of who k)) y (held_seat me.0.view who x.0 (stands.in_order id me.0.view at) x.1) told after in
      stands.words_are w numbered
      ∙ from_some (word_of_spot (spot_of who k)) (λ u. word_in c cells u ≡ word_at c (spot_of who k)) w met (is_as_met c who cells stands.cells_are k live)

  left_by : (words : List ℕ) (c : Core) → Sound c → IsView me.0.view c → IsSome (part_after who k (word_at c (spot_of who k)) c.shared (c.seats who)) →
      (word_of_spot (spot_of who k) ≡ Some w → get_or words (index_of w) 0 ≡ word_at c (spot_of who k)) → Leaves words c who k w (f (get_or words (index_of w) 0))
  left_by words c sound sees guard is = elim does [
    | inl met ↦ inl (met.0, ap f (is met.0) ∙ met.1 c sound sees guard)
    | inr none ↦ inr (none.0, none.1 (get_or words (index_of w) 0))
  ]

  told_by : (words : List ℕ) (views : List View) (c : Core) (cells : ℕ → Cell) (holder : ℕ → ℕ) (y : Part) → Stands words views c cells holder → Sound c → CutsAtNewest c → c.shared.cell_limit ≡ TABLE_CELLS →
      get_elem? views id ≡ some me.0.view → part_after who k (word_at c (spot_of who k)) c.shared (c.seats who) ≡ Some y →
      (n : ℕ) → Leaves words c who k w n → Told me.0.view who k (word_at c (spot_of who k)) (with_part who y me.0.view)
  told_by words views c cells holder y stands sound cuts limit at after n leaves =
      let x = some_of (part_in me.0.view who) has in
      let event = event_is c who k y known after in
      record {
        before = c;
        sound = sound;
        cuts = cuts;
        is_view = standing_view words views c cells holder id me.0.view stands at;
        in_order = stands.in_order id me.0.view at;
        limit = limit;
        met = refl;
        part = y;
        part_is = after;
        view_is = refl;
        after = next c who k y;
        event = event;
        sound_after = keeps_sound c (next c who k y) who k sound event;
        cuts_after = newest_kept c who k (next c who k y) sound cuts event;
        is_view_after =
            standing_view (set words (index_of w) n) (set views id (with_part who y me.0.view)) (next c who k y) (map_after words views c cells holder stands sound one_number below id me.0.view at who x.0 y x.1 k told known after w numbered n leaves)
            holder id (with_part who y me.0.view)
            (stands_after words views c cells holder stands sound one_number below id me.0.view at who x.0 y x.1 k told known after w numbered n leaves)
            (set_there views id me.0.view (with_part who y me.0.view) at);
        limit_after = same_limit who k (word_at c (spot_of who k)) (c.seats who) c.shared ∙ limit;
      }

  -- The play is told the word at the number, which is the one found where the step meets it.
  pub allowed : (tells_of : ℕ → Me (Unit {0}) Book → Type 0)
      → ((seen found : ℕ) (u : Book) → (word_of_spot (spot_of who k) ≡ Some w → seen ≡ found) → Booked law me.0 who k found u → tells_of seen (u, me.1)) →
      Allows (KeptUnder law opening) slots id me (index_of w) f tells_of
  unfolding told_by
  allowed tells_of telling s under homes there small =
      let kept = under.kept in
      let c = kept.core in
      let stands = kept.stands in
      let views : List View = map view_in s.views in
      let at : get_elem? views id ≡ some me.0.view = views_at s.views id me.0 there in
      let sees = standing_view s.words views c kept.cells kept.holder id me.0.view stands at in
      let guard = ready c kept.sound sees in
      let y = some_of (part_after who k (word_at c (spot_of who k)) c.shared (c.seats who)) guard in
      let x = some_of (part_in me.0.view who) has in
      let seen : ℕ = get_or s.words (index_of w) 0 in
      let found : ℕ = word_at c (spot_of who k) in
      let is : word_of_spot (spot_of who k) ≡ Some w → seen ≡ found = seen_is s.words views c kept.cells kept.holder stands kept.sound at y.0 y.1 in
      let leaves : Leaves s.words c who k w (f seen) = left_by s.words c kept.sound sees guard is in
      let event = event_is c who k y.0 known y.1 in
      let passes : Passes c (next c who k y.0) = (kept.sound, (who, k, event)) in
      let are : AreViews s.views c = λ j b e. standing_view s.words views c kept.cells kept.holder j b.view stands (views_at s.views j b e) in
      let h = found_among who me.0.view.held x.0 x.1 in
      let by : PassesOthers s.views id c (next c who k y.0) =
      passes_others s.words s.views c kept.cells kept.holder stands id me.0 there h.0 h.1 k (next c who k y.0) kept.sound (subst (λ (q : ℕ). after_event c q k ≡ Some (next c who k y.0)) (sym h.2) event) in
      let on : IsOnCourse (start_of opening) me.0 c = kept.courses id me.0 there (h.0, h.1) in
      let own : Course me.0 c = on.1 in
      let more : Course (noted me.0 who k found (with_part who y.0 me.0.view)) (next c who k y.0) =
      course_more (start_core me.0.start) me.0.taken c (next c who k y.0) who k found me.0.view (with_part who y.0 me.0.view) kept.sound sees refl event own in
      let set_is : map view_in (set s.views id (noted me.0 who k found (with_part who y.0 me.0.view))) ≡ set views id (with_part who y.0 me.0.view) =
      views_set s.views id (noted me.0 who k found (with_part who y.0 me.0.view)) in
      let after : Lawful law (next c who k y.0).shared (next c who k y.0).seats =
      keeps_law c (next c who k y.0) who k kept.sound under.lawful (promised law c me.0.view who k x.0 x.1 sees promises) event in
      let spelled : AreSpelled (next c who k y.0) =
      keeps_spelled c (next c who k y.0) who k kept.sound under.spelled (promised_spelled law c me.0.view who k x.0 kept.sound x.1 sees promises) event in (
        noted me.0 who k found (with_part who y.0 me.0.view),
        keeps,
        tt,
        record {
          kept = record {
            core = next c who k y.0;
            cells = cells_after k (stored who k (word_at c (spot_of who k))) kept.cells;
            holder = kept.holder;
            stands = subst (λ (l : List View). Stands (set s.words (index_of w) (f seen)) l (next c who k y.0) (cells_after k (stored who k (word_at c (spot_of who k))) kept.cells) kept.holder) (sym set_is)
                (stands_after s.words views c kept.cells kept.holder stands kept.sound one_number below id me.0.view at who x.0 y.0 x.1 k told known y.1 w numbered (f seen) leaves);
            others = subst (λ (l : List View). (q : ℕ) → HeldByNone l q → put c.seats who y.0 q ≡ fresh_part Vacant opening.run opening.tail) (sym set_is)
                (others_after s.words views c kept.cells kept.holder stands kept.sound one_number below id me.0.view at who x.0 y.0 x.1 k told known y.1 w numbered (f seen) leaves
                (fresh_part Vacant opening.run opening.tail) kept.others);
            sound = keeps_sound c (next c who k y.0) who k kept.sound event;
            cuts = newest_kept c who k (next c who k y.0) kept.sound kept.cuts event;
            courses = courses_own (start_of opening) s.views id (noted me.0 who k found (with_part who y.0 me.0.view)) (next c who k y.0) (λ _. (on.0, more))
                (courses_stay (start_of opening) s.views id c (next c who k y.0) are by kept.courses);
            pasts = pasts_set s.views id (noted me.0 who k found (with_part who y.0 me.0.view)) (next c who k y.0) (took_in_stays me.0.past c (next c who k y.0) passes (kept.pasts id me.0 there))
                (pasts_stay s.views c (next c who k y.0) passes kept.pasts);
            opened = stays_opened opening c who k (word_at c (spot_of who k)) (c.seats who) (next c who k y.0) kept.sound event kept.opened;
            limit = same_limit who k (word_at c (spot_of who k)) (c.seats who) c.shared ∙ kept.limit;
          };
          lawful = after;
          spelled = spelled;
        },
        telling seen found (noted me.0 who k found (with_part who y.0 me.0.view)) is (record {
          under = record {
            told = told_by s.words views c kept.cells kept.holder y.0 stands kept.sound kept.cuts kept.limit at y.1 (f seen) leaves;
            lawful = under.lawful;
            lawful_after = after;
            spelled = under.spelled;
            spelled_after = spelled;
          };
          book_is = refl;
          course = own;
          course_after = more;
        }),
      )

  -- the same at the word's number, for the play that tells the word found
  module _ (i : ℕ) (is : i ≡ index_of w) (seat : ℕ) (same_seat : seat ≡ who) where
    told_as : (found : ℕ) (u : Book) → Booked law me.0 who k found u → Booked law me.0 seat k found u
    told_as found u t = subst (λ (p : ℕ). Booked law me.0 p k found u) (sym same_seat) t

    at_number : (tells_of : ℕ → Me (Unit {0}) Book → Type 0)
        → ((seen found : ℕ) (u : Book) → (word_of_spot (spot_of who k) ≡ Some w → seen ≡ found) → Booked law me.0 who k found u → tells_of seen (u, me.1)) →
        Allows (KeptUnder law opening) slots id me i f tells_of
    at_number tells_of telling = subst (λ (j : ℕ). Allows (KeptUnder law opening) slots id me j f tells_of) (sym is) (allowed tells_of telling)

    pub allows_finding : word_of_spot (spot_of who k) ≡ Some w → Allows (KeptUnder law opening) slots id me i f (λ found m. Booked law me.0 seat k found m.0 × (m.1 ≡ me.1))
    allows_finding met =
        at_number (λ found m. Booked law me.0 seat k found m.0 × (m.1 ≡ me.1))
        (λ seen found u is t. (subst (λ (n : ℕ). Booked law me.0 seat k n u) (sym (is met)) (told_as found u t), refl))

    -- a step that meets no word finds nothing
    pub allows_none : spot_of who k ≡ no_word → Allows (KeptUnder law opening) slots id me i f (λ seen m. Booked law me.0 seat k 0 m.0 × (m.1 ≡ me.1))
    allows_none none =
        at_number (λ seen m. Booked law me.0 seat k 0 m.0 × (m.1 ≡ me.1))
        (λ seen found u _ t.
        let nothing : found ≡ 0 = sym t.under.told.met ∙ ap (word_at t.under.told.before) none in
        (subst (λ (n : ℕ). Booked law me.0 seat k n u) nothing (told_as found u t), refl))
