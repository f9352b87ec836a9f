-- The flush seat's pin in the views of its pass.
use Rattle.std.proofs.Common.{◌≡◌, ℕ, ◌+◌, true, false, List, [], take, Option, Some, None, refl, sym, ap, ◌∙◌, subst}
use Rattle.std.specs.Prelude.{IsSome}
use Rattle.erm_cells.specs.Calls.{starts_anew}
use Rattle.erm_core_ring.specs.Begins.{BeginAtEnds}
use Rattle.erm_machine.specs.declared.attempt.Attempt.{Attempt}
use Rattle.erm_machine.specs.declared.limits.TheConstants.{FLUSH_SEAT}
use Rattle.erm_machine.specs.declared.part.Flushing.TheVariants as flushing
use Rattle.erm_machine.specs.declared.part.Part.{Part}
use Rattle.erm_machine.specs.declared.place.Place.{Place}
use Rattle.erm_machine.specs.declared.place.Place.TheVariants.{Active, Idle}
use Rattle.erm_machine.specs.Core.{Core}
use Rattle.erm_machine.specs.Facts.{HasBegun}
use Rattle.erm_machine.specs.Flushing.{with_flushing}
use Rattle.erm_machine.specs.Log.{IsEnd}
use Rattle.erm_machine.specs.Seat.{is_active, is_vacant}
use Rattle.erm_pin.specs.Pins.{DidUnpin, HasLooked, looked_part, unpinned_part}
use Rattle.erm_ring.specs.Turns.{DidClear, DidGather, Gathers, MayGather, gathered_part}
use Rattle.erm_ring.proofs.Gathering.{has_part}
use Rattle.erm_rule.specs.declared.view.Book.{Book}
use Rattle.erm_rule.specs.declared.view.View.{View}
use Rattle.erm_rule.specs.Views.{IsView, part_in, part_of, with_part}
use Rattle.erm_machine.specs.Life.{is_between}
use Rattle.erm_rule.proofs.Telling.{changed_here, held_part, is_held, part_of-changed}
use Rattle.erm_world.specs.declared.gathered.Gathered.{Gathered}
use Rattle.erm_world.specs.declared.gathered.Gathered.TheVariants.{Empty, Unfilled, Words}
use Rattle.erm_desk.specs.Known.{HasPin}
use Rattle.erm_desk.specs.Turns.{IsPinAt}

abbrev F : ℕ
F = FLUSH_SEAT

active_here : (pl : Place) → is_active pl ≡ true → is_vacant pl ≡ false
active_here (Active tail) active = refl
active_here _ active = absurd (cc)

active_begun : (pl : Place) → is_active pl ≡ true → HasBegun pl
active_begun (Active tail) active = tt
active_begun _ active = absurd (cc)

-- the pass has the flush seat
pub pin_held : (v : View) (p : Option ℕ) → HasPin v p → part_in v F ≡ Some (part_of v F)
pin_held v None idle = held_part v F (ap is_vacant idle)
pin_held v (Some place) pin = held_part v F (active_here (part_of v F).place pin.0.active)

pub pin_some : (v : View) (p : Option ℕ) → HasPin v p → IsSome (part_in v F)
pin_some v p pin = is_held v F (part_of v F) (pin_held v p pin)

-- a part with the same place, transaction and task has the same pin
pin_same : (v w : View) (p : Option ℕ) (x : Part) → part_of w F ≡ x → x.place ≡ (part_of v F).place → x.current ≡ (part_of v F).current → x.task ≡ (part_of v F).task → HasPin v p → HasPin w p
pin_same v w None x is place current tasks idle = ap (λ (y : Part). y.place) is ∙ place ∙ idle
pin_same v w (Some at) x is place current tasks (pin, begin) = (
  record {
    active = ap (λ (y : Part). is_active y.place) is ∙ ap is_active place ∙ pin.active;
    reads = ap (λ (y : Part). y.current.reads) is ∙ ap (λ (t : Attempt). t.reads) current ∙ pin.reads;
    writes = ap (λ (y : Part). y.current.writes) is ∙ ap (λ (t : Attempt). t.writes) current ∙ pin.writes;
    starts = ap (λ (y : Part). starts_anew y.task) is ∙ ap starts_anew tasks ∙ pin.starts;
  },
  ap (λ (y : Part). y.current.begin) is ∙ ap (λ (t : Attempt). t.begin) current ∙ begin,
)

changed : (v w : View) (p : Option ℕ) (x : Part) → w ≡ with_part F x v → HasPin v p → part_of w F ≡ x
changed v w p x is pin = part_of-changed v F w x (part_of v F) (pin_held v p pin) is

pub pin_gathered : (tail from to : ℕ) (words : List ℕ) (b e : Book) (p : Option ℕ) → DidGather b tail from to words e → HasPin b.view p → HasPin e.view p
pin_gathered tail from to words b e p did pin =
    pin_same b.view e.view p (gathered_part tail from to (part_of b.view F)) (changed b.view e.view p (gathered_part tail from to (part_of b.view F)) did.view_is pin) refl refl refl pin

pub pin_after : (g : Gathered) (words : List ℕ) (b e : Book) (p : Option ℕ) → Gathers g b words e → HasPin b.view p → HasPin e.view p
pin_after (Empty at) words b e p did pin = pin_gathered at at at [] b e p did pin
pin_after (Unfilled at) words b e p did pin = pin_gathered did.0 at at [] b e p did.1 pin
pin_after (Words at count) words b e p did pin = pin_gathered did.0 at (at + count) (take count words) b e p did.1 pin

pub pin_cleared : (to : ℕ) (b e : Book) (p : Option ℕ) → DidClear b to e → HasPin b.view p → HasPin e.view p
pin_cleared to b e p did pin =
    pin_same b.view e.view p (with_flushing flushing.Still (part_of b.view F)) (changed b.view e.view p (with_flushing flushing.Still (part_of b.view F)) did.view_is pin) refl refl refl pin

-- a look as of the pin leaves it
pub pin_looked : (b e : Book) (p : Option ℕ) → HasLooked b.view e.view → HasPin b.view p → HasPin e.view p
pin_looked b e None did idle = ap (λ (y : Part). y.place) (changed b.view e.view None (looked_part did.task did.notes (part_of b.view F)) did.view_is idle) ∙ idle
pin_looked b e (Some place) did pin =
    let x = looked_part did.task did.notes (part_of b.view F) in
    let is = changed b.view e.view (Some place) x did.view_is pin in (
      record {
        active = ap (λ (y : Part). is_active y.place) is ∙ pin.0.active;
        reads = ap (λ (y : Part). y.current.reads) is ∙ pin.0.reads;
        writes = ap (λ (y : Part). y.current.writes) is ∙ pin.0.writes;
        starts = ap (λ (y : Part). starts_anew y.task) is ∙ did.starts;
      },
      ap (λ (y : Part). y.current.begin) is ∙ pin.1,
    )

-- and it is ended
pub pin_ended : (b e : Book) (p : Option ℕ) → DidUnpin b.view e.view → HasPin b.view p → HasPin e.view None
pin_ended b e p did pin = ap (λ (y : Part). y.place) (changed b.view e.view p (unpinned_part (part_of b.view F)) did.view_is pin)

-- at the place pinned a range of the log ends
pub pin_ends : (v : View) (c : Core) (place : ℕ) → IsView v c → BeginAtEnds c → HasPin v (Some place) → IsEnd c.shared place
pin_ends v c place is_view begins pin =
    let is : c.seats F ≡ part_of v F = is_view F (part_of v F) (pin_held v (Some place) pin) in
    subst (IsEnd c.shared) (ap (λ (x : Part). x.current.begin) is ∙ pin.1)
    ((begins F).ends (subst HasBegun (sym (ap (λ (x : Part). x.place) is)) (active_begun (part_of v F).place pin.0.active)))

-- the seat's turn and the place of its pin, where its part has changed
pub may_same : (v w : View) (x : Part) → w ≡ with_part F x v → x.flushing ≡ (part_of v F).flushing → MayGather v → MayGather w
may_same v w x is flush may =
    let held = has_part v may.held in
    record {
      held = is_held w F x (changed_here v F w x (part_of v F) held is);
      between = ap (λ (y : Part). is_between y.flushing) (part_of-changed v F w x (part_of v F) held is) ∙ ap is_between flush ∙ may.between;
    }

pub at_same : (v w : View) (x : Part) (place : ℕ) → IsSome (part_in v F) → w ≡ with_part F x v → x.place ≡ (part_of v F).place → x.current ≡ (part_of v F).current → IsPinAt place v → IsPinAt place w
at_same v w x place some is places current at active =
    let here = part_of-changed v F w x (part_of v F) (has_part v some) is in
    ap (λ (y : Part). y.current.begin) here ∙ ap (λ (t : Attempt). t.begin) current
    ∙ at (ap is_active (sym places) ∙ ap (λ (y : Part). is_active y.place) (sym here) ∙ active)

pub at_after : (g : Gathered) (words : List ℕ) (b e : Book) (place : ℕ) → MayGather b.view → Gathers g b words e → IsPinAt place b.view → IsPinAt place e.view
at_after (Empty at) words b e place may did = at_same b.view e.view (gathered_part at at at (part_of b.view F)) place may.held did.view_is refl refl
at_after (Unfilled at) words b e place may did = at_same b.view e.view (gathered_part did.0 at at (part_of b.view F)) place may.held did.1.view_is refl refl
at_after (Words at count) words b e place may did = at_same b.view e.view (gathered_part did.0 at (at + count) (part_of b.view F)) place may.held did.1.view_is refl refl

pub at_cleared : (to : ℕ) (b e : Book) (place : ℕ) → IsSome (part_in b.view F) → DidClear b to e → IsPinAt place b.view → IsPinAt place e.view
at_cleared to b e place some did = at_same b.view e.view (with_flushing flushing.Still (part_of b.view F)) place some did.view_is refl refl

pub at_looked : (b e : Book) (place : ℕ) → IsSome (part_in b.view F) → HasLooked b.view e.view → IsPinAt place b.view → IsPinAt place e.view
at_looked b e place some did = at_same b.view e.view (looked_part did.task did.notes (part_of b.view F)) place some did.view_is refl refl

pub at_ended : (b e : Book) (place : ℕ) → IsSome (part_in b.view F) → DidUnpin b.view e.view → IsPinAt place e.view
at_ended b e place some did active =
    let here = part_of-changed b.view F e.view (unpinned_part (part_of b.view F)) (part_of b.view F) (has_part b.view some) did.view_is in
    let no : is_active Idle ≡ true = ap (λ (y : Part). is_active y.place) (sym here) ∙ active in
    absurd (cc)

pub pin_active : (v : View) (p : Option ℕ) → HasPin v p → IsSome p → is_active (part_of v F).place ≡ true
pin_active v None pin some = absurd (cc)
pin_active v (Some place) pin some = pin.0.active
