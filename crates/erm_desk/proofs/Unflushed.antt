-- The first pass of a table, with which nothing was flushed yet.
use Rattle.std.proofs.Common.{◌≡◌, ℕ, zero, suc, ◌-◌, ⊎_elim, Bool, true, cond, eq-eqb, List, [], ◌∷◌, length, take, Option, Some, unwrap_or, refl, sym, ap, ◌∙◌, subst}
use Rattle.std.proofs.lemmas.Bool.{cases_eq, ne_eqb}
use Rattle.erm_core_flush.specs.Turns.{turn_of}
use Rattle.erm_core_stays.proofs.Numbers.{split_shared}
use Rattle.erm_machine.specs.declared.event.Kind.TheVariants as kind
use Rattle.erm_machine.specs.declared.limits.TheConstants.{FLUSH_SEAT}
use Rattle.erm_machine.specs.declared.part.Flushing.{Flushing}
use Rattle.erm_machine.specs.declared.part.Flushing.TheVariants as flushing
use Rattle.erm_machine.specs.declared.part.Part.{Part}
use Rattle.erm_machine.specs.declared.place.Place.TheVariants.{Vacant}
use Rattle.erm_machine.specs.Core.{Core, Shared, fresh_part}
use Rattle.erm_machine.specs.Life.{is_between}
use Rattle.erm_pin.specs.Pins.{IsUnpinned}
use Rattle.erm_ring.specs.Turns.{MayGather}
use Rattle.erm_ring.proofs.Gathering.{has_part}
use Rattle.erm_ring.proofs.Turning.{IsClearing, flushed_kept}
use Rattle.erm_rule.specs.declared.view.Book.{Book}
use Rattle.erm_rule.specs.declared.view.Held.{Held}
use Rattle.erm_rule.specs.declared.view.Opening.{Opening}
use Rattle.erm_rule.specs.declared.view.View.{View}
use Rattle.erm_rule.specs.Books.{Passes, left_book}
use Rattle.erm_rule.specs.Rule.{first_book, first_core, first_view}
use Rattle.erm_rule.specs.Views.{IsView, first_held, last_held, left_of, part_among, part_in, part_of}
use Rattle.erm_rule.proofs.Courses.{led, onward}
use Rattle.erm_desk.specs.Known.{IsFlushedTo}

abbrev F : ℕ
F = FLUSH_SEAT

between_still : (f : Flushing) → is_between f ≡ true → IsClearing f → ⊥
between_still (flushing.Clears next to) between clears = absurd (cc)
between_still _ between clears = clears

-- while the flush seat is between two turns nothing is flushed
still : (v : View) (place : ℕ) → MayGather v → (c d : Core) → IsView v c → Passes c d → c.shared.flushed ≡ place → d.shared.flushed ≡ place
still v place may c d is passes at =
    let here : turn_of c ≡ (part_of v F).flushing = ap (λ (x : Part). x.flushing) (is F (part_of v F) (has_part v may.held)) in
    flushed_kept c passes.1.0 passes.1.1 d passes.0 (λ clears. between_still (part_of v F).flushing may.between (subst IsClearing here clears)) passes.1.2 ∙ at

first_gathers : (o : Opening) → MayGather (first_view o)
unfolding first_view
first_gathers o = record { held = refl; between = refl }

pub first_unflushed : (o : Opening) → IsFlushedTo (first_book o) o.tail
first_unflushed o c is =
    led (λ (d : Core). d.shared.flushed ≡ o.tail) (first_view o) (still (first_view o) o.tail (first_gathers o)) is.course.0 (first_core o) c is.course.1 refl

pub left_unflushed : (b : Book) (place : ℕ) → MayGather (left_of b.view) → IsFlushedTo b place → IsFlushedTo (left_book b) place
left_unflushed b place may flushed c is =
    onward (λ (d : Core). d.shared.flushed ≡ place) b (first_held b.view).seat (kind.Split (last_held b.view).seat) 0 (left_of b.view) (still (left_of b.view) place may)
    (λ d e of met event. ap (λ (s : Shared). s.flushed) (split_shared d (first_held b.view).seat (last_held b.view).seat e _ event) ∙ flushed d of) c is

pub first_unpinned : (o : Opening) → IsUnpinned (first_book o).view
unfolding first_view
first_unpinned o = refl

-- a seat of the view without its last one stands there as before
front_part : (who n : ℕ) (hs : List Held) (x : Part) → part_among who (take n hs) ≡ Some x → part_among who hs ≡ Some x
front_part who zero hs x is = absurd (cc)
front_part who (suc n) [] x is = is
front_part who (suc n) (h ∷ hs) x is =
    ⊎_elim (λ (here : h.seat ≡ who).
    let test = eq-eqb h.seat who here in
    ap (λ (t : Bool). cond t (Some h.part) (part_among who hs)) test ∙ ap (λ (t : Bool). cond t (Some h.part) (part_among who (take n hs))) (sym test) ∙ is)
    (λ (other : h.seat ≡ who → ⊥).
    let test = ne_eqb h.seat who other in
    ap (λ (t : Bool). cond t (Some h.part) (part_among who hs)) test
    ∙ front_part who n hs x (ap (λ (t : Bool). cond t (Some h.part) (part_among who (take n hs))) (sym test) ∙ is)) (cases_eq h.seat who)

pub left_unpinned : (b : Book) → MayGather (left_of b.view) → IsUnpinned b.view → IsUnpinned (left_book b).view
left_unpinned b may idle =
    let here : part_in (left_of b.view) F ≡ Some (part_of (left_of b.view) F) = has_part (left_of b.view) may.held in
    let there : part_in b.view F ≡ Some (part_of (left_of b.view) F) = front_part F (length b.view.held - 1) b.view.held (part_of (left_of b.view) F) here in
    ap (λ (o : Option Part). (unwrap_or o (fresh_part Vacant 0 0)).place) (sym there) ∙ idle
