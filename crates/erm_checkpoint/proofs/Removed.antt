-- Segments that were removed one after another, and what the disk tells of it.
use Rattle.std.proofs.Common.{◌≡◌, ◌≢◌, ℕ, ◌+◌, ◌<◌, ◌≤◌, max, false, List, [], ◌∷◌, length, Option, Some, None, IfSome, refl, ap, ◌∙◌, subst, arith, inl, inr, ◌⊎◌}
use Rattle.std.specs.List.{All}
use Rattle.std.proofs.lemmas.Bool.{cases_lt}
use Rattle.std.proofs.lemmas.Bool.Decides.{nat_tests}
use Rattle.std.proofs.lemmas.List.Elements.{All-cons, All-head, All-nil, All-tail, All-weaker}
use Rattle.std.proofs.lemmas.List.Kept.{AllPairs-cons}
use Rattle.erm_outside.specs.declared.disk.File.{File}
use Rattle.erm_outside.specs.declared.disk.File.TheVariants.{Segment}
use Rattle.erm_outside.specs.Disk.{contents, same_file, Step, Tells}
use Rattle.erm_outside.specs.Disk.Change.{Synced, Removed}
use Rattle.erm_outside.proofs.Images.{same_file-refl}
use Rattle.erm_checkpoint.specs.Steps.{AreThere, IsNextBelow, RemovesAll, RemovesOne, RemovesPart, SavesAll, SavesPart, StartsRemoval, WritesPart, WritesSlot, did, removals}

other_segment : (a b : ℕ) → a ≢ b → same_file (Segment a) (Segment b) ≡ false
other_segment a b ne = grind (arith, nat_tests)

-- one more segment, removed and waited for
abbrev removed_one : ℕ → List Step → List Step
removed_one segment steps = did (Segment segment) Synced (did (Segment segment) Removed steps)

-- other segments are as before
others_stay : (segment n : ℕ) (steps : List Step) → segment ≢ n → contents (removed_one segment steps) (Segment n) ≡ contents steps (Segment n)
others_stay segment n steps ne = rw (other_segment segment n ne) refl

-- it is empty
is_gone : (segment : ℕ) (steps : List Step) → contents (removed_one segment steps) (Segment segment) ≡ []
is_gone segment steps = rw (same_file-refl (Segment segment)) refl

-- the segments above those removed are as before
above_stays : (from n : ℕ) (segments : List ℕ) (old : List Step) → from ≤ n → All (λ segment. segment < from) segments → contents (removals segments old) (Segment n) ≡ contents old (Segment n)
above_stays from n [] old low below = refl
above_stays from n (s ∷ ss) old low below =
    let less = All-head (λ (segment : ℕ). segment < from) s ss below in
    let ne : s ≢ n = λ same. absurd (omega (arith, less, low, same)) in
    others_stay s n (removals ss old) ne ∙ above_stays from n ss old low (All-tail (λ (segment : ℕ). segment < from) s ss below)

abbrev InRange : ℕ → ℕ → ℕ → Type 0
InRange first end segment = (first ≤ segment) × (segment < end)

-- a segment above those that were removed
next_there : (first from top segment : ℕ) (old : List Step) (segments : List ℕ) → first ≤ from → from ≤ segment → segment < top → AreThere first from old segments
    → 0 < length (contents (removals segments old) (Segment segment)) → AreThere first top old (segment ∷ segments)
next_there first from top segment old segments order above below are some =
    let under : All (λ s. s < from) segments = All-weaker (InRange first from) (λ s. s < from) (λ s within. within.1) segments are.within in
    record {
      within = All-cons (InRange first top) segment segments (omega arith, below)
          (All-weaker (InRange first from) (InRange first top) (λ s within. let less = within.1 in (within.0, omega arith)) segments are.within);
      descending = AllPairs-cons (λ a b. b < a) segment segments (All-weaker (λ s. s < from) (λ s. s < segment) (λ s less. omega arith) segments under) are.descending;
      there = All-cons (λ s. 0 < length (contents old (Segment s))) segment segments
          (subst (λ (bytes : List ℕ). 0 < length bytes) (above_stays from segment segments old above under) some) are.there;
    }

-- the least that is left is removed too
one_more : (first from end segment : ℕ) (old now new : List Step) → first ≤ from → RemovesAll first from old now → IsNextBelow (contents now) from end (Some segment) → RemovesOne segment now new
    → RemovesAll first (segment + 1) old new
one_more first from end segment old now new order all next one =
    let low = next.0 in
    let some = subst (λ (steps : List Step). 0 < length (contents steps (Segment segment))) all.steps next.2 in
    record {
      segments = segment ∷ all.segments;
      are = next_there first from (segment + 1) segment old all.segments order low (omega arith) all.are some;
      steps = one ∙ ap (removed_one segment) all.steps;
      gone = λ n above below. ap (λ (steps : List Step). contents steps (Segment n)) one ∙ gone n above below;
    }
  where
    rest : (n : ℕ) → first ≤ n → n < segment → contents now (Segment n) ≡ []
    rest n above less =
        elim (cases_lt n from) [
          | inl lt ↦ all.gone n above lt
          | inr le ↦ next.3 n le less
        ]

    gone : (n : ℕ) → first ≤ n → n < segment + 1 → contents (removed_one segment now) (Segment n) ≡ []
    gone n above below =
        elim (cases_lt n segment) [
          | inl lt ↦ let ne : segment ≢ n = λ same. absurd (omega (arith, same, lt)) in others_stay segment n now ne ∙ rest n above lt
          | inr le ↦ let same : segment ≡ n = omega arith in subst (λ (m : ℕ). contents (removed_one segment now) (Segment m) ≡ []) same (is_gone segment now)
        ]

-- those removed so far are in the whole range
wider : (first from end : ℕ) (old : List Step) (segments : List ℕ) → from ≤ max first end → AreThere first from old segments → AreThere first end old segments
wider first from end old segments most are = record {
  descending = are.descending;
  there = are.there;
  within = All-weaker (InRange first from) (InRange first end) (λ s within. let low = within.0 in let less = within.1 in (low, omega arith)) segments are.within;
}

-- none is left
all_gone : (first from end : ℕ) (old now : List Step) → from ≤ max first end → RemovesAll first from old now → IsNextBelow (contents now) from end None → RemovesAll first end old now
all_gone first from end old now most all none = record {
  segments = all.segments;
  are = wider first from end old all.segments most all.are;
  steps = all.steps;
  gone = λ n above below. elim (cases_lt n from) [
    | inl lt ↦ all.gone n above lt
    | inr le ↦ none n le below
  ];
}

-- ---- as far as the disk tells

pub told_begin : (first : ℕ) (before : Option (List Step)) → Tells (RemovesAll first first) before before
told_begin first None = refl
told_begin first (Some old) = (
  old,
  refl,
  record {
    segments = [];
    are = record { within = All-nil (InRange first first); descending = λ i j d order within. absurd (omega arith); there = All-nil (λ s. 0 < length (contents old (Segment s))) };
    steps = refl;
    gone = λ n above below. absurd (omega arith);
  },
)

pub told_next : (first from end segment : ℕ) (before now after : Option (List Step)) → first ≤ from → Tells (RemovesAll first from) before now
    → IfSome now (λ steps. IsNextBelow (contents steps) from end (Some segment)) → Tells (RemovesOne segment) now after → Tells (RemovesAll first (segment + 1)) before after
told_next first from end segment None now after order told next one = subst (λ (x : Option (List Step)). Tells (RemovesOne segment) x after) told one
told_next first from end segment (Some old) now after order (steps, told, all) next one =
    let here = subst (λ (x : Option (List Step)). Tells (RemovesOne segment) x after) told one in
    let least = subst (λ (x : Option (List Step)). IfSome x (λ steps. IsNextBelow (contents steps) from end (Some segment))) told next in
    (here.0, here.1, one_more first from end segment old steps here.0 order all least here.2)

pub told_end : (first from end : ℕ) (before now : Option (List Step)) → from ≤ max first end → Tells (RemovesAll first from) before now
    → IfSome now (λ steps. IsNextBelow (contents steps) from end None) → Tells (RemovesAll first end) before now
told_end first from end None now most told none = told
told_end first from end (Some old) now most (steps, told, all) none =
    let least = subst (λ (x : Option (List Step)). IfSome x (λ steps. IsNextBelow (contents steps) from end None)) told none in
    (steps, told, all_gone first from end old steps most all least)

pub told_so_far : (first from end : ℕ) (before now : Option (List Step)) → first ≤ from → from ≤ max first end → Tells (RemovesAll first from) before now → Tells (RemovesPart first end) before now
told_so_far first from end None now order most told = told
told_so_far first from end (Some old) now order most (steps, told, all) = (steps, told, record { from = from; low = order; most = most; mid = steps; all = all; part = inl refl })

pub told_begun : (first from end segment : ℕ) (before now after : Option (List Step)) → first ≤ from → from ≤ max first end → Tells (RemovesAll first from) before now
    → IfSome now (λ steps. IsNextBelow (contents steps) from end (Some segment)) → Tells (StartsRemoval segment) now after → Tells (RemovesPart first end) before after
told_begun first from end segment None now after order most told next begun = subst (λ (x : Option (List Step)). Tells (StartsRemoval segment) x after) told begun
told_begun first from end segment (Some old) now after order most (steps, told, all) next begun =
    let here = subst (λ (x : Option (List Step)). Tells (StartsRemoval segment) x after) told begun in
    let least = subst (λ (x : Option (List Step)). IfSome x (λ steps. IsNextBelow (contents steps) from end (Some segment))) told next in
    (here.0, here.1, record { from = from; low = order; most = most; mid = steps; all = all; part = part here.0 steps least here.2 })
  where
    part : (new steps : List Step) → IsNextBelow (contents steps) from end (Some segment) → StartsRemoval segment steps new
        → (new ≡ steps) ⊎ ((s : ℕ) × IsNextBelow (contents steps) from end (Some s) × (new ≡ did (Segment s) Removed steps))
    part new steps least (inl same) = inl same
    part new steps least (inr one) = inr (segment, least, one)

pub told_saved : (file : File) (slot : List ℕ) (first end : ℕ) (before now after : Option (List Step)) → Tells (WritesSlot file slot) before now → Tells (RemovesAll first end) now after
    → Tells (SavesAll file slot first end) before after
told_saved file slot first end None now after told all = subst (λ (x : Option (List Step)). Tells (RemovesAll first end) x after) told all
told_saved file slot first end (Some old) now after (steps, told, wrote) all =
    let here = subst (λ (x : Option (List Step)). Tells (RemovesAll first end) x after) told all in
    (here.0, here.1, subst (λ (s : List Step). RemovesAll first end s here.0) wrote here.2)

pub told_saved_part : (file : File) (slot : List ℕ) (first end : ℕ) (before now after : Option (List Step)) → Tells (WritesSlot file slot) before now → Tells (RemovesPart first end) now after
    → Tells (SavesPart file slot first end) before after
told_saved_part file slot first end None now after told part = subst (λ (x : Option (List Step)). Tells (RemovesPart first end) x after) told part
told_saved_part file slot first end (Some old) now after (steps, told, wrote) part =
    let here = subst (λ (x : Option (List Step)). Tells (RemovesPart first end) x after) told part in
    (here.0, here.1, inr (subst (λ (s : List Step). RemovesPart first end s here.0) wrote here.2))

pub told_write_part : (file : File) (slot : List ℕ) (first end : ℕ) (before now : Option (List Step)) → Tells (WritesPart file slot) before now → Tells (SavesPart file slot first end) before now
told_write_part file slot first end None now told = told
told_write_part file slot first end (Some old) now (steps, told, part) = (steps, told, inl part)
