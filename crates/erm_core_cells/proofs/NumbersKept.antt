-- Each event keeps the counters below their limits, and what was made apart.
use Rattle.std.proofs.Common.{◌≡◌, ◌≢◌, ℕ, ◌+◌, ◌%◌, ◌^◌, ◌<◌, ◌≤◌, ◌⊎◌, ⊎_elim, inl, inr, Bool, true, false, ltb, List, [], ◌∷◌, ◌++◌, length, Option, Some, None, refl, sym, ap, ◌∙◌, subst, arith, append_assoc}
use Rattle.std.specs.Prelude.{if◌then◌else◌, slice_index, flat_map}
use Rattle.std.proofs.Math.Nat.{mod-eq_of_lt}
use Rattle.std.proofs.lemmas.Bool.{and_parts, cases_lt, lt-ltb, ltb-true}
use Rattle.std.proofs.lemmas.List.{length_push, get_or_push, get_or_append_left}
use Rattle.std.proofs.lemmas.Option.{same_Some}
use Rattle.erm_model.specs.Member.{◌∈◌}
use Rattle.erm_machine.specs.declared.limits.TheConstants.{ANNOUNCERS, MOST_CELLS, OBJECT_LIMIT}
use Rattle.erm_machine.specs.declared.attempt.Attempt.{Attempt}
use Rattle.erm_machine.specs.declared.event.Counter.{Counter}
use Rattle.erm_machine.specs.declared.event.Counter.TheVariants.{Objects, Cells}
use Rattle.erm_machine.specs.declared.event.Kind.{Kind}
use Rattle.erm_machine.specs.declared.event.Kind.TheVariants as kind
use Rattle.erm_machine.specs.declared.part.Part.{Part}
use Rattle.erm_machine.specs.declared.task.Task.{Task}
use Rattle.erm_machine.specs.declared.task.Task.TheVariants as task
use Rattle.erm_machine.specs.Core.{Core, Shared, spot_of, word_at}
use Rattle.erm_machine.specs.Life.{split, join}
use Rattle.erm_machine.specs.Numbers.{Counters, OwnMade, MadeApart, IsMade, numbers, pools, made_of}
use Rattle.erm_machine.specs.Reading.{load_counter, add_counter}
use Rattle.erm_machine.specs.Sound.{Sound}
use Rattle.erm_machine.specs.Step.{after_event, shared_after, with_part}
use Rattle.erm_machine.specs.Words.{put, is_session}
use Rattle.erm_machine.proofs.Frames.{at_cases, each_seat, each_two, put_same, total-put}
use Rattle.erm_machine.proofs.Guards.{when_then, either_way}
use Rattle.erm_machine.proofs.Listed.{∈-first, ∈-head, ∈-second}
use Rattle.erm_machine.proofs.QuietKinds.{MeetsOne, moves, begun_active}
use Rattle.erm_core_cells.proofs.CellsGiven.{given, begun_below, total_falls, total_ones}
use Rattle.erm_core_cells.proofs.CellsLeaves.{KeepsMade}
use Rattle.erm_core_cells.proofs.CellsLife.{split_leaves, join_leaves}
use Rattle.erm_core_cells.proofs.NumbersMade.{LeavesMade, leaves_made}

-- what the law says of a state
pub record Kept (d : Core) : Type 0 where
  pub counters : Counters d.shared d.seats
  pub made : (p : ℕ) → OwnMade d.shared p (d.seats p)
  pub apart : (p q : ℕ) → p ≢ q → MadeApart (d.seats p) (d.seats q)

-- the numbers made by a seat are from the first one on and below the counter, each once
pub record Drawn (first : ℕ) (ms : List ℕ) (n : ℕ) : Type 0 where
  pub from : (k : ℕ) → k < length ms → first ≤ slice_index ms k
  pub drawn : (k : ℕ) → k < length ms → slice_index ms k < n
  pub once : (j k : ℕ) → j < k → k < length ms → slice_index ms j ≢ slice_index ms k

made_from : (s : Shared) (p : ℕ) (x : Part) → Drawn s.first (made_of x) s.objects_drawn → (is_session p ≡ false → made_of x ≡ []) → OwnMade s p x
made_from s p x d maker = record { from = d.from; drawn = d.drawn; once = d.once; maker = maker }

drawn_of_made : (s : Shared) (p : ℕ) (x : Part) → OwnMade s p x → Drawn s.first (made_of x) s.objects_drawn
drawn_of_made s p x own = record { from = own.from; drawn = own.drawn; once = own.once }

drawn_later : (first : ℕ) (ms : List ℕ) (n m : ℕ) → n ≤ m → Drawn first ms n → Drawn first ms m
drawn_later first ms n m grows d = record { from = d.from; drawn = λ k within. let h = d.drawn k within in omega (arith, h, grows); once = d.once }

-- no number stands in both lists
abbrev Apart : List ℕ → List ℕ → Type 0
Apart ms ns = (j k : ℕ) → j < length ms → k < length ns → slice_index ms j ≢ slice_index ns k

-- what the changed seat made, below a counter, and apart from what the others made
record NewMade (c : Core) (p n : ℕ) (y : Part) : Type 0 where
  pub own : Drawn c.shared.first (made_of y) n
  pub maker : is_session p ≡ false → made_of y ≡ []
  pub left : (q : ℕ) → q ≢ p → Apart (made_of y) (made_of (c.seats q))
  pub right : (q : ℕ) → q ≢ p → Apart (made_of (c.seats q)) (made_of y)

-- a seat that made no more
same_made : (c : Core) (p n : ℕ) (y : Part) → Sound c → c.shared.objects_drawn ≤ n → made_of y ≡ made_of (c.seats p) → NewMade c p n y
same_made c p n y sound grows is = record {
  own = subst (λ ms. Drawn c.shared.first ms n) (sym is)
      (drawn_later c.shared.first (made_of (c.seats p)) c.shared.objects_drawn n grows (drawn_of_made c.shared p (c.seats p) (sound.own p).made));
  maker = λ none. is ∙ (sound.own p).made.maker none;
  left = left;
  right = λ q ne j k first second e. left q ne k j second first (sym e);
}
  where
    left : (q : ℕ) → q ≢ p → Apart (made_of y) (made_of (c.seats q))
    left q ne = subst (λ ms. Apart ms (made_of (c.seats q))) (sym is) ((sound.both p q (λ e. ne (sym e))).made.apart)

-- a number that is above all others
drawn_push : (first : ℕ) (ms : List ℕ) (n : ℕ) → first ≤ n → Drawn first ms n → Drawn first (ms ++ n ∷ []) (n + 1)
drawn_push first ms n low d = record {
  from = λ k within.
      let size = length_push ms n in
      ⊎_elim
      (λ (old : k < length ms). let e : slice_index (ms ++ n ∷ []) k ≡ slice_index ms k = get_or_append_left ms (n ∷ []) 0 k old in let h = d.from k old in omega (arith, e, h))
      (λ (past : length ms ≤ k). let e : slice_index (ms ++ n ∷ []) k ≡ n = get_or_push ms n 0 k (omega (arith, size, within, past)) in omega (arith, e, low))
      (cases_lt k (length ms));
  drawn = λ k within.
      let size = length_push ms n in
      ⊎_elim
      (λ (old : k < length ms). let e : slice_index (ms ++ n ∷ []) k ≡ slice_index ms k = get_or_append_left ms (n ∷ []) 0 k old in let h = d.drawn k old in omega (arith, e, h))
      (λ (past : length ms ≤ k). let e : slice_index (ms ++ n ∷ []) k ≡ n = get_or_push ms n 0 k (omega (arith, size, within, past)) in omega (arith, e))
      (cases_lt k (length ms));
  once = λ j k before within.
      let size = length_push ms n in
      let earlier : j < length ms = omega (arith, size, within, before) in
      let at_first : slice_index (ms ++ n ∷ []) j ≡ slice_index ms j = get_or_append_left ms (n ∷ []) 0 j earlier in
      ⊎_elim
      (λ (old : k < length ms).
      let e : slice_index (ms ++ n ∷ []) k ≡ slice_index ms k = get_or_append_left ms (n ∷ []) 0 k old in
      λ (same : slice_index (ms ++ n ∷ []) j ≡ slice_index (ms ++ n ∷ []) k). d.once j k before old (sym at_first ∙ same ∙ e))
      (λ (past : length ms ≤ k).
      let e : slice_index (ms ++ n ∷ []) k ≡ n = get_or_push ms n 0 k (omega (arith, size, within, past)) in
      let h = d.drawn j earlier in
      λ (same : slice_index (ms ++ n ∷ []) j ≡ slice_index (ms ++ n ∷ []) k). omega (arith, e, h, at_first, same))
      (cases_lt k (length ms));
}

apart_push : (ms ns : List ℕ) (n : ℕ) → ((k : ℕ) → k < length ns → slice_index ns k < n) → Apart ms ns → Apart (ms ++ n ∷ []) ns
apart_push ms ns n below apart = λ j k first second.
    let size = length_push ms n in
    ⊎_elim
    (λ (old : j < length ms).
    let e : slice_index (ms ++ n ∷ []) j ≡ slice_index ms j = get_or_append_left ms (n ∷ []) 0 j old in
    λ (same : slice_index (ms ++ n ∷ []) j ≡ slice_index ns k). apart j k old second (sym e ∙ same))
    (λ (past : length ms ≤ j).
    let e : slice_index (ms ++ n ∷ []) j ≡ n = get_or_push ms n 0 j (omega (arith, size, first, past)) in
    let h = below k second in
    λ (same : slice_index (ms ++ n ∷ []) j ≡ slice_index ns k). omega (arith, e, h, same))
    (cases_lt j (length ms))

more_made : (c : Core) (p : ℕ) (y : Part) → Sound c → is_session p ≡ true → made_of y ≡ made_of (c.seats p) ++ c.shared.objects_drawn ∷ [] → NewMade c p (c.shared.objects_drawn + 1) y
more_made c p y sound session is = record {
  own = subst (λ ms. Drawn c.shared.first ms (c.shared.objects_drawn + 1)) (sym is)
      (drawn_push c.shared.first (made_of (c.seats p)) c.shared.objects_drawn sound.common.counters.first (drawn_of_made c.shared p (c.seats p) (sound.own p).made));
  maker = λ none. absurd (cc);
  left = left;
  right = λ q ne j k first second e. left q ne k j second first (sym e);
}
  where
    left : (q : ℕ) → q ≢ p → Apart (made_of y) (made_of (c.seats q))
    left q ne =
        subst (λ ms. Apart ms (made_of (c.seats q))) (sym is)
        (apart_push (made_of (c.seats p)) (made_of (c.seats q)) c.shared.objects_drawn (sound.own q).made.drawn (sound.both p q (λ e. ne (sym e))).made.apart)

kept_from : (c : Core) (p : ℕ) (y : Part) (t : Shared) (d : Core) → Sound c → t.first ≡ c.shared.first → Counters t (put c.seats p y) → c.shared.objects_drawn ≤ t.objects_drawn
    → NewMade c p t.objects_drawn y → record { shared = t; seats = put c.seats p y } ≡ d → Kept d
kept_from c p y t d sound first counters grows new is =
    subst Kept is (record {
      counters = counters;
      made = each_seat (λ q (z : Part). OwnMade t q z) c.seats p y (made_from t p y (subst (λ n. Drawn n (made_of y) t.objects_drawn) (sym first) new.own) new.maker)
          (λ q _. made_from t q (c.seats q)
          (subst (λ n. Drawn n (made_of (c.seats q)) t.objects_drawn) (sym first)
          (drawn_later c.shared.first (made_of (c.seats q)) c.shared.objects_drawn t.objects_drawn grows (drawn_of_made c.shared q (c.seats q) (sound.own q).made)))
          (sound.own q).made.maker);
      apart = each_two (λ (x : Part) _ (z : Part). MadeApart x z) c.seats p y
          (λ q ne. record { apart = new.left q ne })
          (λ q ne. record { apart = new.right q ne })
          (λ q r _ _ ne. (sound.both q r ne).made);
    })

-- what some seat made stays made where one seat makes more
stays_made : (seats : ℕ → Part) (p : ℕ) (y : Part) → ((oid : ℕ) → oid ∈ made_of (seats p) → oid ∈ made_of y) → (oid : ℕ) → IsMade seats oid → IsMade (put seats p y) oid
stays_made seats p y more oid (seat, made) =
    (seat, at_cases (λ (z : Part). oid ∈ made_of z) seats p y seat (λ same. more oid (subst (λ q. oid ∈ made_of (seats q)) same made)) (λ _. made))

made_as_before : (seats : ℕ → Part) (p : ℕ) (y : Part) → made_of y ≡ made_of (seats p) → (oid : ℕ) → IsMade seats oid → IsMade (put seats p y) oid
made_as_before seats p y same = stays_made seats p y (λ oid m. subst (λ ms. oid ∈ ms) (sym same) m)

-- the counters, where no seat is to raise one but where it stands below its limit
counters_from : (s t : Shared) (seats : ℕ → Part) (p : ℕ) (y : Part) → t.first ≡ s.first → t.cell_limit ≡ s.cell_limit → t.objects_drawn ≡ s.objects_drawn → t.cells_drawn ≡ s.cells_drawn → made_of y ≡ made_of (seats p)
    → (numbers y.task ≤ numbers (seats p).task) ⊎ (s.objects_drawn < OBJECT_LIMIT)
    → (pools y.task ≤ pools (seats p).task) ⊎ (s.cells_drawn < s.cell_limit)
    → Counters s seats → Counters t (put seats p y)
counters_from s t seats p y first limit objects cells made less_numbers less_pools old = record {
  limit = subst (λ n. n ≤ MOST_CELLS) (sym limit) old.limit;
  first = let h = old.first in omega (arith, h, first, objects);
  objects =
      let h = old.objects in
      ⊎_elim
      (λ (less : numbers y.task ≤ numbers (seats p).task). let sum = total_falls (λ (x : Part). numbers x.task) ANNOUNCERS seats p y less in omega (arith, h, sum, objects))
      (λ (low : s.objects_drawn < OBJECT_LIMIT). let few = total_ones (λ (x : Part). numbers x.task) ANNOUNCERS (put seats p y) (λ x. numbers-le x.task) in omega (arith, few, low, objects))
      less_numbers;
  cells =
      let h = old.cells in
      ⊎_elim
      (λ (less : pools y.task ≤ pools (seats p).task). let sum = total_falls (λ (x : Part). pools x.task) ANNOUNCERS seats p y less in omega (arith, h, sum, cells, limit))
      (λ (low : s.cells_drawn < s.cell_limit). let few = total_ones (λ (x : Part). pools x.task) ANNOUNCERS (put seats p y) (λ x. pools-le x.task) in omega (arith, few, low, cells, limit))
      less_pools;
  all_made = λ oid from below known. made_as_before seats p y made oid (old.all_made oid (omega (arith, from, first)) (omega (arith, below, objects)) known);
}
  where
    numbers-le : (t : Task) → numbers t ≤ 1
    numbers-le task.Numbers = omega arith
    numbers-le _ = omega arith

    pools-le : (t : Task) → pools t ≤ 1
    pools-le task.Pool = omega arith
    pools-le _ = omega arith

-- a step that leaves the counters and what was made
plain_kept : (c : Core) (p : ℕ) (y : Part) (t : Shared) (d : Core) → Sound c → t.first ≡ c.shared.first → t.cell_limit ≡ c.shared.cell_limit → t.objects_drawn ≡ c.shared.objects_drawn → t.cells_drawn ≡ c.shared.cells_drawn
    → KeepsMade (c.seats p) (c.seats p).task y → record { shared = t; seats = put c.seats p y } ≡ d → Kept d
plain_kept c p y t d sound first limit objects cells keeps is =
    kept_from c p y t d sound first
    (counters_from c.shared t c.seats p y first limit objects cells keeps.made (inl keeps.numbers) (inl keeps.pools) sound.common.counters) (omega (arith, objects))
    (same_made c p t.objects_drawn y sound (omega (arith, objects)) keeps.made) is

-- kinds that raise no counter
abbrev pub LeavesCounters : Kind → Type 0
LeavesCounters (kind.AddCounter counter) = ⊥
LeavesCounters _ = Unit {0}

pub same_drawn : (p : ℕ) (k : Kind) (found : ℕ) (x : Part) (s : Shared) → LeavesCounters k
    → ((shared_after p k found x s).objects_drawn ≡ s.objects_drawn) × ((shared_after p k found x s).cells_drawn ≡ s.cells_drawn)
    × ((shared_after p k found x s).cell_limit ≡ s.cell_limit)
    × ((shared_after p k found x s).first ≡ s.first)
same_drawn p (kind.AddCounter counter) found x s q = absurd q
same_drawn p _ found x s q = (refl, refl, refl, refl)

-- a counter is loaded: where it lies below its limit it is to be raised
load_kept : (c : Core) (p : ℕ) (counter : Counter) (t : Task) (y : Part) (d : Core) → Sound c → (c.seats p).task ≡ t
    → load_counter c.shared.cell_limit counter (word_at c (spot_of p (kind.LoadCounter counter))) (c.seats p) t ≡ Some y
    → record { shared = c.shared; seats = put c.seats p y } ≡ d → Kept d
load_kept c p Objects t y d sound on e =
    when_then (λ z. record { shared = c.shared; seats = put c.seats p z } ≡ d → Kept d) _ _ y e
    (λ _ is.
    let u : Task = if ltb c.shared.objects_drawn OBJECT_LIMIT then task.Numbers else task.Rest in
    let z : Part = record (c.seats p) { task = u } in
    kept_from c p z c.shared d sound refl
    (counters_from c.shared c.shared c.seats p z refl refl refl refl refl
    (either_way (λ (v : Task). (numbers v ≤ numbers (c.seats p).task) ⊎ (c.shared.objects_drawn < OBJECT_LIMIT)) (ltb c.shared.objects_drawn OBJECT_LIMIT) task.Numbers task.Rest
    (λ low. inr (ltb-true c.shared.objects_drawn OBJECT_LIMIT low)) (λ _. inl (omega arith)))
    (either_way (λ (v : Task). (pools v ≤ pools (c.seats p).task) ⊎ (c.shared.cells_drawn < c.shared.cell_limit)) (ltb c.shared.objects_drawn OBJECT_LIMIT) task.Numbers task.Rest
    (λ _. inl (omega arith)) (λ _. inl (omega arith)))
    sound.common.counters)
    (omega arith) (same_made c p c.shared.objects_drawn z sound (omega arith) refl) is)
load_kept c p Cells task.Draws y d sound on e =
    when_then (λ z. record { shared = c.shared; seats = put c.seats p z } ≡ d → Kept d) _ _ y e
    (λ _ is.
    let u : Task = if ltb c.shared.cells_drawn c.shared.cell_limit then task.Pool else task.Refused in
    let z : Part = record (c.seats p) { task = u } in
    kept_from c p z c.shared d sound refl
    (counters_from c.shared c.shared c.seats p z refl refl refl refl refl
    (either_way (λ (v : Task). (numbers v ≤ numbers (c.seats p).task) ⊎ (c.shared.objects_drawn < OBJECT_LIMIT)) (ltb c.shared.cells_drawn c.shared.cell_limit) task.Pool task.Refused
    (λ _. inl (omega arith)) (λ _. inl (omega arith)))
    (either_way (λ (v : Task). (pools v ≤ pools (c.seats p).task) ⊎ (c.shared.cells_drawn < c.shared.cell_limit)) (ltb c.shared.cells_drawn c.shared.cell_limit) task.Pool task.Refused
    (λ low. inr (ltb-true c.shared.cells_drawn c.shared.cell_limit low)) (λ _. inl (omega arith)))
    sound.common.counters)
    (omega arith) (same_made c p c.shared.objects_drawn z sound (omega arith) refl) is)
load_kept c p Cells _ y d sound on e = absurd (cc)

-- a counter goes up by one, and doesn't wrap
pub raised : (n : ℕ) → n < 2 ^ 63 → (n + 1) % 2 ^ 64 ≡ n + 1
raised n low = mod-eq_of_lt (omega (arith, low))

raised_objects : (s : Shared) (seats : ℕ → Part) (p : ℕ) (y : Part) → p < ANNOUNCERS → numbers (seats p).task ≡ 1 → numbers y.task ≡ 0 → pools y.task ≡ 0
    → ((oid : ℕ) → oid ∈ made_of (seats p) → oid ∈ made_of y) → (s.objects_drawn < OBJECT_LIMIT → s.objects_drawn ∈ made_of y)
    → Counters s seats → Counters (record s { objects_drawn = s.objects_drawn + 1 }) (put seats p y)
raised_objects s seats p y within was now other more newest old = record {
  limit = old.limit;
  first = let h = old.first in omega (arith, h);
  objects = let h = old.objects in let sum = total-put (λ (x : Part). numbers x.task) ANNOUNCERS seats p y within in omega (arith, h, sum, was, now);
  cells = let h = old.cells in let sum = total_falls (λ (x : Part). pools x.task) ANNOUNCERS seats p y (omega (arith, other)) in omega (arith, h, sum);
  all_made = λ oid from below known.
      ⊎_elim
      (λ (earlier : oid < s.objects_drawn). stays_made seats p y more oid (old.all_made oid from earlier known))
      (λ (last : s.objects_drawn ≤ oid).
      let same : oid ≡ s.objects_drawn = omega (arith, below, last) in
      (p, subst (λ (z : Part). oid ∈ made_of z) (sym (put_same seats p y)) (subst (λ n. n ∈ made_of y) (sym same) (newest (omega (arith, same, known))))))
      (cases_lt oid s.objects_drawn);
}

raised_cells : (s : Shared) (seats : ℕ → Part) (p : ℕ) (y : Part) → p < ANNOUNCERS → pools (seats p).task ≡ 1 → pools y.task ≡ 0 → numbers y.task ≡ 0
    → made_of y ≡ made_of (seats p) → Counters s seats → Counters (record s { cells_drawn = s.cells_drawn + 1 }) (put seats p y)
raised_cells s seats p y within was now other made old = record {
  limit = old.limit;
  first = old.first;
  objects = let h = old.objects in let sum = total_falls (λ (x : Part). numbers x.task) ANNOUNCERS seats p y (omega (arith, other)) in omega (arith, h, sum);
  cells = let h = old.cells in let sum = total-put (λ (x : Part). pools x.task) ANNOUNCERS seats p y within in omega (arith, h, sum, was, now);
  all_made = λ oid from below known. made_as_before seats p y made oid (old.all_made oid from below known);
}

-- the counter of objects is raised: the number found is the seat's, where it lies below the limit
add_object_kept : (c : Core) (p : ℕ) (y : Part) (d : Core) → Sound c → (c.seats p).task ≡ task.Numbers → p < ANNOUNCERS → is_session p ≡ true
    → y ≡ record (c.seats p) { task = task.Rest; current = record (c.seats p).current { made = if ltb c.shared.objects_drawn OBJECT_LIMIT then (c.seats p).current.made ++ c.shared.objects_drawn ∷ [] else (c.seats p).current.made } }
    → record { shared = record c.shared { objects_drawn = c.shared.objects_drawn + 1 }; seats = put c.seats p y } ≡ d → Kept d
add_object_kept c p y d sound on within session is same =
    kept_from c p y t d sound refl
    (raised_objects c.shared c.seats p y within (ap numbers on) (ap (λ (z : Part). numbers z.task) is) (ap (λ (z : Part). pools z.task) is) more newest sound.common.counters)
    (omega arith) new same
  where
    t : Shared
    t = record c.shared { objects_drawn = c.shared.objects_drawn + 1 }

    before : List ℕ
    before = flat_map (λ (a : Attempt). a.made) (c.seats p).over

    -- below the limit the number found is the last one made; else nothing more is made
    by_limit : (P : List ℕ → Type 0) → (c.shared.objects_drawn < OBJECT_LIMIT → P (made_of (c.seats p) ++ c.shared.objects_drawn ∷ []))
        → (ltb c.shared.objects_drawn OBJECT_LIMIT ≡ false → P (made_of (c.seats p))) → P (made_of y)
    by_limit P below full =
        subst P (sym (ap made_of is))
        (either_way (λ (ms : List ℕ). P (before ++ ms)) (ltb c.shared.objects_drawn OBJECT_LIMIT) ((c.seats p).current.made ++ c.shared.objects_drawn ∷ []) (c.seats p).current.made
        (λ low. subst P (append_assoc before (c.seats p).current.made (c.shared.objects_drawn ∷ [])) (below (ltb-true c.shared.objects_drawn OBJECT_LIMIT low))) full)

    new : NewMade c p (c.shared.objects_drawn + 1) y
    new =
        by_limit (λ ms. made_of y ≡ ms → NewMade c p (c.shared.objects_drawn + 1) y)
        (λ _ e. more_made c p y sound session e) (λ _ e. same_made c p (c.shared.objects_drawn + 1) y sound (omega arith) e) refl

    more : (oid : ℕ) → oid ∈ made_of (c.seats p) → oid ∈ made_of y
    more oid m = by_limit (λ ms. oid ∈ ms) (λ _. ∈-first (made_of (c.seats p)) (c.shared.objects_drawn ∷ []) oid m) (λ _. m)

    newest : c.shared.objects_drawn < OBJECT_LIMIT → c.shared.objects_drawn ∈ made_of y
    newest low =
        by_limit (λ ms. c.shared.objects_drawn ∈ ms)
        (λ _. ∈-second (made_of (c.seats p)) (c.shared.objects_drawn ∷ []) c.shared.objects_drawn (∈-head c.shared.objects_drawn []))
        (λ full. let passes = lt-ltb c.shared.objects_drawn OBJECT_LIMIT low in absurd (cc))

-- the counter of cells is raised
add_cell_kept : (c : Core) (p : ℕ) (y : Part) (d : Core) → Sound c → (c.seats p).task ≡ task.Pool → p < ANNOUNCERS → numbers y.task ≡ 0 → pools y.task ≡ 0
    → made_of y ≡ made_of (c.seats p)
    → record { shared = record c.shared { cells_drawn = c.shared.cells_drawn + 1 }; seats = put c.seats p y } ≡ d → Kept d
add_cell_kept c p y d sound on within numbers_none pools_none made same =
    kept_from c p y (record c.shared { cells_drawn = c.shared.cells_drawn + 1 }) d sound refl
    (raised_cells c.shared c.seats p y within (ap pools on) pools_none numbers_none made sound.common.counters)
    (omega arith) (same_made c p c.shared.objects_drawn y sound (omega arith) made) same

-- both counters stand far below the greatest word
pub low_objects : (c : Core) → Sound c → c.shared.objects_drawn < 2 ^ 63
low_objects c sound = let h = sound.common.counters.objects in omega (arith, h)

pub low_cells : (c : Core) → Sound c → c.shared.cells_drawn < 2 ^ 63
low_cells c sound = let h = sound.common.counters.cells in let limit = sound.common.counters.limit in omega (arith, h, limit)

pub objects_raised : (c : Core) (p : ℕ) (y : Part) (d : Core) → Sound c
    → record { shared = record c.shared { objects_drawn = (c.shared.objects_drawn + 1) % 2 ^ 64 }; seats = put c.seats p y } ≡ d
    → record { shared = record c.shared { objects_drawn = c.shared.objects_drawn + 1 }; seats = put c.seats p y } ≡ d
objects_raised c p y d sound is =
    subst (λ n. record { shared = record c.shared { objects_drawn = n }; seats = put c.seats p y } ≡ d) (raised c.shared.objects_drawn (low_objects c sound)) is

pub cells_raised : (c : Core) (p : ℕ) (y : Part) (d : Core) → Sound c
    → record { shared = record c.shared { cells_drawn = (c.shared.cells_drawn + 1) % 2 ^ 64 }; seats = put c.seats p y } ≡ d
    → record { shared = record c.shared { cells_drawn = c.shared.cells_drawn + 1 }; seats = put c.seats p y } ≡ d
cells_raised c p y d sound is =
    subst (λ n. record { shared = record c.shared { cells_drawn = n }; seats = put c.seats p y } ≡ d) (raised c.shared.cells_drawn (low_cells c sound)) is

-- what the raise of the counter of cells leaves of the rest
record TakesCell (c : Core) (p : ℕ) (y : Part) : Type 0 where
  pub within : p < ANNOUNCERS
  pub numbers : numbers y.task ≡ 0
  pub pools : pools y.task ≡ 0
  pub made : made_of y ≡ made_of (c.seats p)

takes_cell : (c : Core) (p found : ℕ) (y : Part) → Sound c → add_counter c.shared.cell_limit p Cells found (c.seats p) task.Pool ≡ Some y → TakesCell c p y
takes_cell c p found y sound e =
    when_then (TakesCell c p) _ _ y e (λ g. record {
      within = begun_below c p sound (begun_active (c.seats p).place g);
      numbers = either_way (λ (v : Task). numbers v ≡ 0) (ltb found c.shared.cell_limit) task.Fetched task.Refused (λ _. refl) (λ _. refl);
      pools = either_way (λ (v : Task). pools v ≡ 0) (ltb found c.shared.cell_limit) task.Fetched task.Refused (λ _. refl) (λ _. refl);
      made = refl;
    })

add_kept : (c : Core) (p : ℕ) (counter : Counter) (t : Task) (y : Part) (d : Core) → Sound c → (c.seats p).task ≡ t
    → add_counter c.shared.cell_limit p counter (word_at c (spot_of p (kind.AddCounter counter))) (c.seats p) t ≡ Some y
    → record { shared = shared_after p (kind.AddCounter counter) (word_at c (spot_of p (kind.AddCounter counter))) (c.seats p) c.shared; seats = put c.seats p y } ≡ d → Kept d
add_kept c p Objects task.Numbers y d sound on e =
    when_then (λ z. record { shared = record c.shared { objects_drawn = (c.shared.objects_drawn + 1) % 2 ^ 64 }; seats = put c.seats p z } ≡ d → Kept d) _ _ y e
    (λ g is.
    add_object_kept c p (record (c.seats p) {
      task = task.Rest;
      current = record (c.seats p).current { made = if ltb c.shared.objects_drawn OBJECT_LIMIT then (c.seats p).current.made ++ c.shared.objects_drawn ∷ [] else (c.seats p).current.made };
    }) d sound on (begun_below c p sound (begun_active (c.seats p).place (and_parts _ _ g).0)) (and_parts _ _ g).1 refl
    (objects_raised c p _ d sound is))
add_kept c p Cells task.Pool y d sound on e = λ is.
    let takes = takes_cell c p c.shared.cells_drawn y sound e in
    add_cell_kept c p y d sound on takes.within takes.numbers takes.pools takes.made (cells_raised c p y d sound is)
add_kept c p Objects _ y d sound on e = absurd (cc)
add_kept c p Cells _ y d sound on e = absurd (cc)

-- a part of one seat changes, and nothing that is shared
part_kept : (c : Core) (p : ℕ) (y : Part) (d : Core) → Sound c → KeepsMade (c.seats p) (c.seats p).task y → record c { seats = put c.seats p y } ≡ d → Kept d
part_kept c p y d sound keeps is = plain_kept c p y c.shared d sound refl refl refl refl keeps is

split_kept : (c : Core) (p other : ℕ) (d : Core) → Sound c → after_event c p (kind.Split other) ≡ Some d → Kept d
split_kept c p other d sound e = by_test _ e
  where
    from : (o : Option Part) → split (c.seats p) (c.seats other) ≡ o → with_part c other o ≡ Some d → Kept d
    from None at e = absurd (cc)
    from (Some y) at e = part_kept c other y d sound (split_leaves (c.seats p) (c.seats other) y at).made (same_Some _ _ e)

    by_test : (b : Bool) → (if b then with_part c other (split (c.seats p) (c.seats other)) else None) ≡ Some d → Kept d
    by_test true e = from _ refl e
    by_test false e = absurd (cc)

join_kept : (c : Core) (p other : ℕ) (d : Core) → Sound c → after_event c p (kind.Join other) ≡ Some d → Kept d
join_kept c p other d sound e = by_test _ e
  where
    from : (o : Option Part) → join (c.seats p) (c.seats other) ≡ o → with_part c p o ≡ Some d → Kept d
    from None at e = absurd (cc)
    from (Some y) at e = part_kept c p y d sound (join_leaves (c.seats p) (c.seats other) y at).made (same_Some _ _ e)

    by_test : (b : Bool) → (if b then None else with_part c p (join (c.seats p) (c.seats other))) ≡ Some d → Kept d
    by_test true e = absurd (cc)
    by_test false e = from _ refl e

-- a step that meets one word, which is no counter
step_kept : (c : Core) (p : ℕ) (k : Kind) (d : Core) → LeavesMade k → LeavesCounters k → MeetsOne k → Sound c → after_event c p k ≡ Some d → Kept d
step_kept c p k d leaves counters one sound e =
    let m = moves c p k d one e in
    let same = same_drawn p k (word_at c (spot_of p k)) (c.seats p) c.shared counters in
    plain_kept c p m.part (shared_after p k (word_at c (spot_of p k)) (c.seats p) c.shared) d sound same.3 same.2 same.0 same.1
    (leaves_made p k (word_at c (spot_of p k)) c.shared (c.seats p) m.part leaves (given c p sound) m.after) (sym m.is)

-- Each event keeps the counters, and what was made.
pub kept : (c : Core) (p : ℕ) (k : Kind) (d : Core) → Sound c → after_event c p k ≡ Some d → Kept d
kept c p (kind.Split other) d sound e = split_kept c p other d sound e
kept c p (kind.Join other) d sound e = join_kept c p other d sound e
kept c p (kind.LoadCounter counter) d sound e =
    let m = moves c p (kind.LoadCounter counter) d tt e in load_kept c p counter (c.seats p).task m.part d sound refl m.after (sym m.is)
kept c p (kind.AddCounter counter) d sound e =
    let m = moves c p (kind.AddCounter counter) d tt e in add_kept c p counter (c.seats p).task m.part d sound refl m.after (sym m.is)
kept c p k d sound e = step_kept c p k d tt tt tt sound e
