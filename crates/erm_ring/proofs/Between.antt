-- The flush seat between two turns: it may gather, and it may clear what it has gathered.
use Rattle.std.proofs.Common.{◌≡◌, ℕ, ◌+◌, ◌^◌, ◌<◌, List, [], take, unwrap_or, Option, Some, None, refl, sym, ap, ◌∙◌, subst, eq-eqb, arith}
use Rattle.std.specs.Prelude.{IsSome}
use Rattle.erm_machine.specs.declared.limits.TheConstants.{FLUSH_SEAT}
use Rattle.erm_machine.specs.declared.part.Flushing.TheVariants as flushing
use Rattle.erm_machine.specs.declared.part.Part.{Part}
use Rattle.erm_machine.specs.declared.part.Flushing.{Flushing}
use Rattle.erm_machine.specs.declared.place.Place.TheVariants.{Vacant}
use Rattle.erm_machine.specs.Core.{Core, fresh_part}
use Rattle.erm_machine.specs.Flushing.{with_flushing}
use Rattle.erm_machine.specs.Life.{is_between}
use Rattle.erm_machine.specs.Log.{Gathering, IsFlushing}
use Rattle.erm_ring.specs.Turns.{gathered_part, DidClear, DidGather, Gathers, MayClear, MayGather}
use Rattle.erm_rule.specs.declared.view.Book.{Book}
use Rattle.erm_rule.specs.declared.view.View.{View}
use Rattle.erm_rule.specs.Books.{IsBookOf}
use Rattle.erm_rule.specs.Views.{part_in, part_of}
use Rattle.erm_rule.proofs.Telling.{changed_here, is_held, part_of-changed}
use Rattle.erm_world.specs.declared.gathered.Gathered.{Gathered}
use Rattle.erm_world.specs.declared.gathered.Gathered.TheVariants.{Empty, Unfilled, Words}

-- GATHER. So much was gathered.
module _ (b e : Book) (tail from to : ℕ) (words : List ℕ) (held : part_in b.view FLUSH_SEAT ≡ Some (part_of b.view FLUSH_SEAT)) (did : DidGather b tail from to words e) where
  abbrev y : Part
  y = gathered_part tail from to (part_of b.view FLUSH_SEAT)

  has : part_in e.view FLUSH_SEAT ≡ Some y
  has = changed_here b.view FLUSH_SEAT e.view y (part_of b.view FLUSH_SEAT) held did.view_is

  part_is : part_of e.view FLUSH_SEAT ≡ y
  part_is = part_of-changed b.view FLUSH_SEAT e.view y (part_of b.view FLUSH_SEAT) held did.view_is

  gather_leaves : MayGather e.view
  gather_leaves = record {
    held = is_held e.view FLUSH_SEAT y has;
    between = ap (λ (x : Part). is_between x.flushing) part_is ∙ eq-eqb to to refl;
  }

  gather_clears : from < to → MayClear to e.view
  gather_clears some = record {
    held = is_held e.view FLUSH_SEAT y has;
    tail = tail;
    from = from;
    gathered = ap (λ (x : Part). x.flushing) part_is;
    some = some;
  }

  there : (c : Core) → IsBookOf e c → c.seats FLUSH_SEAT ≡ y
  there c is = is.is_view FLUSH_SEAT y has

  turn : (c : Core) → IsBookOf e c → Gathering c.shared c.seats (c.seats FLUSH_SEAT).gathered_to tail from to to to
  turn c is =
      subst (λ (f : Flushing). IsFlushing c.shared c.seats (c.seats FLUSH_SEAT).gathered_to f) (ap (λ (x : Part). x.flushing) (there c is)) is.sound.common.log.turn

  gather_low : to < 2 ^ 61
  gather_low =
      let block = (turn did.known.core did.is).gathered in
      let end = did.is.sound.common.log.gathered.onward.2 in
      let low = did.is.sound.common.ranges.below in
      omega (arith, block, end, low)

  gather_stays : (c : Core) → IsBookOf e c → (c.shared.flushed ≡ from) × ((c.seats FLUSH_SEAT).flushing ≡ flushing.Gathers tail from to to to)
  gather_stays c is = (sym (turn c is).from_flushed, ap (λ (x : Part). x.flushing) (there c is))

-- a seat that the view has
in_view : (o : Option Part) (none : Part) → IsSome o → o ≡ Some (unwrap_or o none)
in_view None none is = absurd (cc)
in_view (Some x) none is = refl

held_there : (v : View) → MayGather v → part_in v FLUSH_SEAT ≡ Some (part_of v FLUSH_SEAT)
held_there v may = in_view (part_in v FLUSH_SEAT) (fresh_part Vacant 0 0) may.held

-- whatever was gathered, the seat may gather anew
pub gathers_leaves : (g : Gathered) (b : Book) (words : List ℕ) (e : Book) → MayGather b.view → Gathers g b words e → MayGather e.view
gathers_leaves (Empty at) b words e may did = gather_leaves b e at at at [] (held_there b.view may) did
gathers_leaves (Unfilled at) b words e may did = gather_leaves b e did.0 at at [] (held_there b.view may) did.1
gathers_leaves (Words at count) b words e may did = gather_leaves b e did.0 at (at + count) (take count words) (held_there b.view may) did.1

-- where that is something, it may be cleared, and ends at a place of the log
pub gathers_clears : (at count : ℕ) (b : Book) (words : List ℕ) (e : Book) → MayGather b.view → Gathers (Words at count) b words e → MayClear (at + count) e.view
gathers_clears at count b words e may did =
    let some = did.2 in
    gather_clears b e did.0 at (at + count) (take count words) (held_there b.view may) did.1 (omega (arith, some))

pub gathers_low : (at count : ℕ) (b : Book) (words : List ℕ) (e : Book) → MayGather b.view → Gathers (Words at count) b words e → at + count < 2 ^ 61
gathers_low at count b words e may did = gather_low b e did.0 at (at + count) (take count words) (held_there b.view may) did.1

-- nothing is cleared yet, in whatever state the book is one of
pub gathered_stays : (tail from to : ℕ) (words : List ℕ) (b e : Book) → MayGather b.view → DidGather b tail from to words e → (c : Core) → IsBookOf e c
    → (c.shared.flushed ≡ from) × ((c.seats FLUSH_SEAT).flushing ≡ flushing.Gathers tail from to to to)
gathered_stays tail from to words b e may did c is = gather_stays b e tail from to words (held_there b.view may) did c is

-- CLEAR. The seat may gather again.
pub clear_leaves : (to : ℕ) (b e : Book) → MayClear to b.view → DidClear b to e → MayGather e.view
clear_leaves to b e may did =
    let x = part_of b.view FLUSH_SEAT in
    let y : Part = with_flushing flushing.Still x in
    let held = in_view (part_in b.view FLUSH_SEAT) (fresh_part Vacant 0 0) may.held in
    record {
      held = is_held e.view FLUSH_SEAT y (changed_here b.view FLUSH_SEAT e.view y x held did.view_is);
      between = ap (λ (z : Part). is_between z.flushing) (part_of-changed b.view FLUSH_SEAT e.view y x held did.view_is);
    }
