-- The row of the version that was found, loaded word after word: it is that of the version in whatever state the book is one of, since no
-- event changes the row of a version.
use Rattle.std.proofs.Common.{◌≡◌, ℕ, ◌+◌, ◌<◌, ◌≤◌, Bool, true, ◌&&◌, ◌||◌, List, length, set, get_or, take, Some, refl, sym, ap, ◌∙◌, subst, arith}
use Rattle.std.proofs.lemmas.List.{get_or-set_same, length-set, take-set, take_all, take_more_same}
use Rattle.erm_machine.specs.declared.event.Kind.{Kind}
use Rattle.erm_machine.specs.declared.event.Kind.TheVariants as kind
use Rattle.erm_machine.specs.declared.limits.TheConstants.{OBJECT_LIMIT}
use Rattle.erm_machine.specs.declared.part.Part.{Part}
use Rattle.erm_machine.specs.declared.task.Task.{Task}
use Rattle.erm_machine.specs.declared.task.Task.TheVariants as task
use Rattle.erm_machine.specs.declared.version.CellWord.TheVariants as word
use Rattle.erm_machine.specs.declared.version.VersionAt.{VersionAt}
use Rattle.erm_machine.specs.Chains.{IsNamed, NamedInHand}
use Rattle.erm_machine.specs.Core.{Core, Shared, spot_of, word_at}
use Rattle.erm_machine.specs.Reading.{may_copy_row, may_load_row}
use Rattle.erm_machine.specs.Seat.{is_active, when}
use Rattle.erm_machine.specs.Snapshot.{InHand}
use Rattle.erm_machine.specs.Sound.{Sound}
use Rattle.erm_machine.specs.Step.{after_event, part_after, reads_early, unless}
use Rattle.erm_model.specs.RowTransaction.{Law}
use Rattle.erm_rule.specs.declared.view.Book.{Book}
use Rattle.erm_rule.specs.declared.view.View.{View}
use Rattle.erm_rule.specs.Books.{HasState, IsBookOf, Passes}
use Rattle.erm_rule.specs.Hands.{IsKnown, in_hand, walk_kind}
use Rattle.erm_rule.specs.Steps.{Booked, Ready, Told}
use Rattle.erm_rule.specs.Views.{IsView, part_in, part_of}
use Rattle.erm_rule.proofs.Courses.{onward, state_of_book}
use Rattle.erm_rule.proofs.Parts.{with_part-same}
use Rattle.erm_cells.proofs.Heads.{has, same_self}
use Rattle.erm_cells.proofs.Staying.{rows}
use Rattle.erm_cells.proofs.Views.{both, ready_at, told_is, when_true}
use Rattle.erm_safe_reads.specs.Calls.{hand_of, row_of, DidLoadSafeRow, IsSafeFound, IsSafeRow}

-- the version that was found
record WasFound (t : Task) (cell : ℕ) : Type 0 where
  pub version : VersionAt
  pub is : t ≡ task.SafeFound version
  pub cell_is : version.cell ≡ cell

was_found : (t : Task) (cell : ℕ) → IsSafeFound t cell → WasFound t cell
was_found (task.SafeFound version) cell h = record { version = version; is = refl; cell_is = h }
was_found _ cell h = absurd h

-- GUARD. The load of a word of its row leaves the part.
either : (a b : Bool) → a ≡ true → (a || b) ≡ true
either a b e = cc

row_loads : (seat k : ℕ) (version : VersionAt) (x : Part) (t : Task) → is_active x.place ≡ true → t ≡ task.SafeFound version
    → unless (reads_early seat (word.Row k) t) (when (is_active x.place && (may_load_row version t || may_copy_row version x t)) x) ≡ Some x
row_loads seat k version x t active at =
    subst (λ (u : Task). unless (reads_early seat (word.Row k) u) (when (is_active x.place && (may_load_row version u || may_copy_row version x u)) x) ≡ Some x) (sym at)
    (when_true _ x (both _ _ active (either _ _ (same_self version))))

-- A SOUND STATE in which the seat has found the version: this is there, has a row of 16 words, and is the newest one below the begin stamp.
module _ (c : Core) (p : ℕ) (version : VersionAt) (sound : Sound c) (at : (c.seats p).task ≡ task.SafeFound version) where
  pub found_named : IsNamed c.shared version
  found_named = subst (λ (t : Task). NamedInHand c.shared t) at (sound.own p).chains.named

  found_size : length (row_of c version) ≡ 16
  found_size = sound.common.rowed.rows version.oid version.place found_named.object found_named.within

  pub found_newest : (row : List ℕ) → row_of c version ≡ row → IsSafeRow (c.seats p).current.begin version row c
  found_newest row is = record { newest = subst (λ (t : Task). InHand c.shared (c.seats p).current.begin t) at (sound.own p).snapshot.in_hand; row_is = is }

-- no event changes its row
row_stays : (c d : Core) (p : ℕ) (version : VersionAt) → Sound c → (c.seats p).task ≡ task.SafeFound version → Passes c d → row_of d version ≡ row_of c version
row_stays c d p version sound at passes =
    (rows c d passes.1.0 passes.1.1 version.oid passes.1.2).rows version.place (found_named c p version sound at).within

-- one more word, and all
more : (row r : List ℕ) (k found : ℕ) → length row ≡ 16 → length r ≡ 16 → k < 16 → take k row ≡ take k r → get_or r k 0 ≡ found → take (k + 1) (set row k found) ≡ take (k + 1) r
more row r k found size all low front is =
    let n = length-set row k found in
    take_more_same (set row k found) r k 0 (omega (arith, n, size, low)) (omega (arith, all, low)) (take-set row k found ∙ front) (get_or-set_same row k found 0 (omega (arith, size, low)) ∙ sym is)

full : (row r : List ℕ) (k : ℕ) → 16 ≤ k → length row ≡ 16 → length r ≡ 16 → take k row ≡ take k r → row ≡ r
full row r k high size all front = sym (take_all k row (omega (arith, size, high))) ∙ front ∙ take_all k r (omega (arith, all, high))

-- A LOOP over the row's words: those loaded so far are the version's in each state of the book.
pub record SafeLoop (b : Book) (who k : ℕ) (row : List ℕ) (e : Book) : Type 0 where
  pub same : e.view ≡ b.view
  pub size : length row ≡ 16
  pub state : 0 < k → HasState e
  pub front : (c : Core) → IsBookOf e c → take k row ≡ take k (row_of c (hand_of b.view who))

pub safe_starts : (b : Book) (who : ℕ) (row : List ℕ) → length row ≡ 16 → SafeLoop b who 0 row b
safe_starts b who row size = record { same = refl; size = size; state = λ some. absurd (omega (arith, some)); front = λ c is. refl }

module _ (b : Book) (who cell : ℕ) (known : IsKnown b.view) (active : is_active (part_of b.view who).place ≡ true) (found : IsSafeFound (part_of b.view who).task cell) where
  abbrev v : View
  v = b.view

  abbrev x : Part
  x = part_of b.view who

  was : WasFound x.task cell
  was = was_found x.task cell found

  abbrev version : VersionAt
  version = was.version

  hand_is : in_hand x.task ≡ version
  hand_is = ap in_hand was.is

  -- in each state with the view's parts
  task_in : (c : Core) → c.seats who ≡ x → (c.seats who).task ≡ task.SafeFound version
  task_in c is = ap (λ (z : Part). z.task) is ∙ was.is

  module _ (e : Book) (k : ℕ) (low : k < 16) (row : List ℕ) (loop : SafeLoop b who k row e) where
    pub safe_held : part_in e.view who ≡ Some x
    safe_held = ap (λ (u : View). part_in u who) loop.same ∙ has v who active

    pub safe_known : IsKnown e.view
    safe_known = subst IsKnown (sym loop.same) known

    pub safe_object : (in_hand (part_of e.view who).task).oid < OBJECT_LIMIT
    safe_object =
        subst (λ (u : View). (in_hand (part_of u who).task).oid < OBJECT_LIMIT) (sym loop.same)
        (subst (λ (w : VersionAt). w.oid < OBJECT_LIMIT) (sym hand_is)
        (found_named known.core who version known.sound (task_in known.core (known.is_view who x (has v who active)))).object)

    pub safe_cell : (in_hand (part_of e.view who).task).cell ≡ cell
    safe_cell = ap (λ (u : View). (in_hand (part_of u who).task).cell) loop.same ∙ ap (λ (w : VersionAt). w.cell) hand_is ∙ was.cell_is

    abbrev step : Kind
    step = kind.LoadCell version (word.Row k)

    step_is : walk_kind (part_of e.view who) (word.Row k) ≡ step
    step_is = ap (λ (u : View). walk_kind (part_of u who) (word.Row k)) loop.same ∙ ap (λ (w : VersionAt). kind.LoadCell w (word.Row k)) hand_is

    after_row : (n : ℕ) (s : Shared) → part_after who step n s x ≡ Some x
    after_row n s = row_loads who k version x x.task active was.is

    ready_here : Ready v who step
    ready_here = ready_at v who step x (has v who active) (λ c. x) (λ c sound. after_row (word_at c (spot_of who step)) c.shared)

    pub safe_ready : Ready e.view who (walk_kind (part_of e.view who) (word.Row k))
    safe_ready = subst (λ (q : Kind). Ready e.view who q) (sym step_is) (subst (λ (u : View). Ready u who step) (sym loop.same) ready_here)

    module _ (law : Law) (word_found : ℕ) (f : Book) (booked : Booked law e who (walk_kind (part_of e.view who) (word.Row k)) word_found f) where
      booked_here : Booked law e who step word_found f
      booked_here = subst (λ (q : Kind). Booked law e who q word_found f) step_is booked

      told_here : Told v who step word_found f.view
      told_here = subst (λ (u : View). Told u who step word_found f.view) loop.same booked_here.under.told

      same_now : f.view ≡ v
      same_now =
          told_is v who step word_found f.view x x (has v who active) told_here (after_row word_found told_here.before.shared)
          ∙ with_part-same who x v known.in_order (has v who active)

      in_view : (u : View) → u ≡ v → (c : Core) → IsView u c → c.seats who ≡ x
      in_view u same c is = is who x (ap (λ (t : View). part_in t who) same ∙ has v who active)

      -- so it is of the words loaded so far
      abbrev Loaded : Core → Type 0
      Loaded c = take (k + 1) (set row k word_found) ≡ take (k + 1) (row_of c version)

      stays : (c d : Core) → IsView f.view c → Passes c d → Loaded c → Loaded d
      stays c d is passes loaded = loaded ∙ ap (take (k + 1)) (sym (row_stays c d who version passes.0 (task_in c (in_view f.view same_now c is)) passes))

      begins : (c d : Core) → IsBookOf e c → word_at c (spot_of who step) ≡ word_found → after_event c who step ≡ Some d → Loaded d
      begins c d is met event =
          let at = task_in c (in_view e.view loop.same c is.is_view) in
          let front : take k row ≡ take k (row_of c version) = loop.front c is ∙ ap (λ (w : VersionAt). take k (row_of c w)) hand_is in
          more row (row_of c version) k word_found loop.size (found_size c who version is.sound at) low front met
          ∙ ap (take (k + 1)) (sym (row_stays c d who version is.sound at (is.sound, (who, step, event))))

      all_loaded : (c : Core) → IsBookOf f c → Loaded c
      all_loaded c is = onward Loaded e who step word_found f.view stays begins c (subst (λ (z : Book). IsBookOf z c) booked_here.book_is is)

      pub safe_goes_on : SafeLoop b who (k + 1) (set row k word_found) f
      safe_goes_on = record {
        same = same_now;
        size = length-set row k word_found ∙ loop.size;
        state = λ some. state_of_book law e who step word_found f booked_here;
        front = λ c is. all_loaded c is ∙ ap (λ (w : VersionAt). take (k + 1) (row_of c w)) (sym hand_is);
      }

  some_words : (k : ℕ) → 16 ≤ k → 0 < k
  some_words k all = omega (arith, all)

  pub did_load_safe : (e : Book) (row : List ℕ) (k : ℕ) → 16 ≤ k → SafeLoop b who k row e → DidLoadSafeRow b who row e
  did_load_safe e row k all loop = record {
    view_is = loop.same;
    known = subst IsKnown (sym loop.same) known;
    state = loop.state (some_words k all);
    stands = λ c is.
        let here : c.seats who ≡ x = is.is_view who x (ap (λ (u : View). part_in u who) loop.same ∙ has v who active) in
        let at = task_in c here in
        let front : take k row ≡ take k (row_of c version) = loop.front c is ∙ ap (λ (w : VersionAt). take k (row_of c w)) hand_is in
        let row_is : row ≡ row_of c version = full row (row_of c version) k all loop.size (found_size c who version is.sound at) front in
        subst (λ (w : VersionAt). IsSafeRow x.current.begin w row c) (sym hand_is)
        (subst (λ (z : Part). IsSafeRow z.current.begin version row c) here (found_newest c who version is.sound at row (sym row_is)));
  }
