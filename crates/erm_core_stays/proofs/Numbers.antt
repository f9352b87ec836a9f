-- Counters and places never fall.
use Rattle.std.proofs.Common.{◌≡◌, ℕ, ◌+◌, ◌%◌, ◌^◌, ◌<◌, ◌≤◌, Bool, true, false, List, [], ◌∷◌, ◌++◌, Option, Some, None, refl, sym, ap, ◌∙◌, subst, append_assoc, arith}
use Rattle.std.specs.Prelude.{if◌then◌else◌}
use Rattle.std.proofs.lemmas.List.{append-nil}
use Rattle.std.proofs.lemmas.Option.{same_Some}
use Rattle.erm_machine.specs.declared.event.Counter.{Counter}
use Rattle.erm_machine.specs.declared.event.Counter.TheVariants.{Objects, Cells}
use Rattle.erm_machine.specs.declared.event.Kind.{Kind}
use Rattle.erm_machine.specs.declared.event.Kind.TheVariants as kind
use Rattle.erm_machine.specs.declared.part.Part.{Part}
use Rattle.erm_machine.specs.declared.version.Span.{Span}
use Rattle.erm_machine.specs.Core.{Core, Shared, drawn_of, spot_of, word_at}
use Rattle.erm_machine.specs.Life.{join, split}
use Rattle.erm_machine.specs.Sound.{Sound}
use Rattle.erm_machine.specs.Step.{after_event, shared_after, with_counter, with_part}
use Rattle.erm_machine.proofs.QuietKinds.{Moves, moves}
use Rattle.erm_core_flush.proofs.Stays.{flushed_rises}
use Rattle.erm_core_stays.specs.Staying.{Rises}

-- what a step leaves of these
rises_same : (s t : Shared) → t.opening ≡ s.opening → t.run ≡ s.run → t.first ≡ s.first → t.cell_limit ≡ s.cell_limit → t.tail ≡ s.tail → t.log ≡ s.log → t.flushed ≡ s.flushed →
    t.objects_drawn ≡ s.objects_drawn → t.cells_drawn ≡ s.cells_drawn → Rises s t
rises_same s t opening run first limit tail log flushed objects cells = record {
  opening = opening;
  run = run;
  first = first;
  cell_limit = limit;
  tail = omega (arith, tail);
  log = ([], log ∙ sym (append-nil s.log));
  flushed = omega (arith, flushed);
  objects_drawn = omega (arith, objects);
  cells_drawn = omega (arith, cells);
}

pub rises_refl : (s : Shared) → Rises s s
rises_refl s = rises_same s s refl refl refl refl refl refl refl refl refl

-- a counter is raised: it doesn't come round
counts : (c : Counter) (n : ℕ) (s : Shared) → drawn_of c s ≤ n → Rises s (with_counter c n s)
counts Objects n s up = record { opening = refl; run = refl; first = refl; cell_limit = refl; tail = omega arith; log = ([], sym (append-nil s.log)); flushed = omega arith; objects_drawn = up; cells_drawn = omega arith }
counts Cells n s up = record { opening = refl; run = refl; first = refl; cell_limit = refl; tail = omega arith; log = ([], sym (append-nil s.log)); flushed = omega arith; objects_drawn = omega arith; cells_drawn = up }

goes_up : (n : ℕ) → n < 2 ^ 32 → n ≤ (n + 1) % 2 ^ 64
goes_up n low = omega (arith, low)

counter_low : (c : Core) → Sound c → (counter : Counter) → drawn_of counter c.shared < 2 ^ 32
counter_low c sound Objects = let h = sound.common.counters.objects in omega (arith, h)
counter_low c sound Cells = let h = sound.common.counters.cells in let l = sound.common.counters.limit in omega (arith, h, l)

-- a range is drawn
draws : (s : Shared) (more : ℕ) (range : Span) → Rises s (record s { tail = s.tail + more; log = s.log ++ range ∷ [] })
draws s more range = record {
  opening = refl;
  run = refl;
  first = refl;
  cell_limit = refl;
  tail = omega arith;
  log = (range ∷ [], refl);
  flushed = omega arith;
  objects_drawn = omega arith;
  cells_drawn = omega arith;
}

module _ (c : Core) (sound : Sound c) (p : ℕ) where
  shared_rises : (k : Kind) → c.shared.flushed ≤ (shared_after p k (word_at c (spot_of p k)) (c.seats p) c.shared).flushed → Rises c.shared (shared_after p k (word_at c (spot_of p k)) (c.seats p) c.shared)
  shared_rises (kind.AddTail size) up = draws c.shared size _
  shared_rises (kind.AddCounter counter) up = counts counter _ c.shared (goes_up (drawn_of counter c.shared) (counter_low c sound counter))
  shared_rises (kind.StoreFlushed value) up = record { opening = refl; run = refl; first = refl; cell_limit = refl; tail = omega arith; log = ([], sym (append-nil c.shared.log)); flushed = up; objects_drawn = omega arith; cells_drawn = omega arith }
  shared_rises k up = rises_same c.shared _ refl refl refl refl refl refl refl refl refl

  moved_rises : (k : Kind) (d : Core) → c.shared.flushed ≤ d.shared.flushed → Moves c p k d → Rises c.shared d.shared
  moved_rises k d up m =
      let up_there = subst (λ (e : Core). c.shared.flushed ≤ e.shared.flushed) m.is up in
      subst (λ (e : Core). Rises c.shared e.shared) (sym m.is) (shared_rises k up_there)

-- a part alone is changed
part_shared : (c : Core) (q : ℕ) (o : Option Part) (d : Core) → with_part c q o ≡ Some d → d.shared ≡ c.shared
part_shared c q None d e = absurd (cc)
part_shared c q (Some y) d e = sym (ap (λ (f : Core). f.shared) (same_Some _ _ e))

pub split_shared : (c : Core) (p other : ℕ) (d : Core) (b : Bool) → (if b then with_part c other (split (c.seats p) (c.seats other)) else None) ≡ Some d → d.shared ≡ c.shared
split_shared c p other d true e = part_shared c other _ d e
split_shared c p other d false e = absurd (cc)

pub join_shared : (c : Core) (p other : ℕ) (d : Core) (b : Bool) → (if b then None else with_part c p (join (c.seats p) (c.seats other))) ≡ Some d → d.shared ≡ c.shared
join_shared c p other d true e = absurd (cc)
join_shared c p other d false e = part_shared c p _ d e

pub rises : (c d : Core) (p : ℕ) (k : Kind) → Sound c → after_event c p k ≡ Some d → Rises c.shared d.shared
rises c d p (kind.Split other) sound e = subst (Rises c.shared) (sym (split_shared c p other d _ e)) (rises_refl c.shared)
rises c d p (kind.Join other) sound e = subst (Rises c.shared) (sym (join_shared c p other d _ e)) (rises_refl c.shared)
rises c d p k sound e = moved_rises c sound p k d (flushed_rises c p k d sound e) (moves c p k d tt e)

pub rises_after : (s t u : Shared) → Rises s t → Rises t u → Rises s u
rises_after s t u first second = record {
  opening = second.opening ∙ first.opening;
  run = second.run ∙ first.run;
  first = second.first ∙ first.first;
  cell_limit = second.cell_limit ∙ first.cell_limit;
  tail = let a = first.tail in let b = second.tail in omega (arith, a, b);
  log = (first.log.0 ++ second.log.0, second.log.1 ∙ ap (λ (l : List Span). l ++ second.log.0) first.log.1 ∙ append_assoc s.log first.log.0 second.log.0);
  flushed = let a = first.flushed in let b = second.flushed in omega (arith, a, b);
  objects_drawn = let a = first.objects_drawn in let b = second.objects_drawn in omega (arith, a, b);
  cells_drawn = let a = first.cells_drawn in let b = second.cells_drawn in omega (arith, a, b);
}
