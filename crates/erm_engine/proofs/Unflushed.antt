-- The first pass of a table, with which nothing was flushed yet.
use Rattle.std.proofs.Common.{◌≡◌, ℕ, true, refl, ap, ◌∙◌, subst}
use Rattle.erm_core_flush.specs.Turns.{turn_of}
use Rattle.erm_core_stays.proofs.Numbers.{split_shared}
use Rattle.erm_machine.specs.declared.event.Kind.TheVariants as kind
use Rattle.erm_machine.specs.declared.limits.TheConstants.{FLUSH_SEAT}
use Rattle.erm_machine.specs.declared.part.Flushing.{Flushing}
use Rattle.erm_machine.specs.declared.part.Flushing.TheVariants as flushing
use Rattle.erm_machine.specs.declared.part.Part.{Part}
use Rattle.erm_machine.specs.Core.{Core, Shared}
use Rattle.erm_machine.specs.Life.{is_between}
use Rattle.erm_ring.specs.Turns.{MayGather}
use Rattle.erm_ring.proofs.Gathering.{has_part}
use Rattle.erm_ring.proofs.Turning.{IsClearing, flushed_kept}
use Rattle.erm_rule.specs.declared.view.Book.{Book}
use Rattle.erm_rule.specs.declared.view.Opening.{Opening}
use Rattle.erm_rule.specs.declared.view.View.{View}
use Rattle.erm_rule.specs.Books.{Passes, left_book}
use Rattle.erm_rule.specs.Rule.{first_book, first_core, first_view}
use Rattle.erm_rule.specs.Views.{IsView, first_held, last_held, left_of, part_of}
use Rattle.erm_rule.proofs.Courses.{led, onward}
use Rattle.erm_engine.specs.Opened.{IsUnflushed}

abbrev F : ℕ
F = FLUSH_SEAT

between_still : (f : Flushing) → is_between f ≡ true → IsClearing f → ⊥
between_still (flushing.Clears next to) between clears = absurd (cc)
between_still _ between clears = clears

-- while the flush seat is between two turns nothing is flushed
pub still : (v : View) (place : ℕ) → MayGather v → (c d : Core) → IsView v c → Passes c d → c.shared.flushed ≡ place → d.shared.flushed ≡ place
still v place may c d is passes at =
    let here : turn_of c ≡ (part_of v F).flushing = ap (λ (x : Part). x.flushing) (is F (part_of v F) (has_part v may.held)) in
    flushed_kept c passes.1.0 passes.1.1 d passes.0 (λ clears. between_still (part_of v F).flushing may.between (subst IsClearing here clears)) passes.1.2 ∙ at

first_gathers : (o : Opening) → MayGather (first_view o)
unfolding first_view
first_gathers o = record { held = refl; between = refl }

pub first_unflushed : (o : Opening) → IsUnflushed o (first_book o)
first_unflushed o c is =
    led (λ (d : Core). d.shared.flushed ≡ o.tail) (first_view o) (still (first_view o) o.tail (first_gathers o)) is.course.0 (first_core o) c is.course.1 refl

pub left_unflushed : (o : Opening) (b : Book) → MayGather (left_of b.view) → IsUnflushed o b → IsUnflushed o (left_book b)
left_unflushed o b may flushed c is =
    onward (λ (d : Core). d.shared.flushed ≡ o.tail) b (first_held b.view).seat (kind.Split (last_held b.view).seat) 0 (left_of b.view) (still (left_of b.view) o.tail may)
    (λ d e of met event. ap (λ (s : Shared). s.flushed) (split_shared d (first_held b.view).seat (last_held b.view).seat e _ event) ∙ flushed d of) c is
