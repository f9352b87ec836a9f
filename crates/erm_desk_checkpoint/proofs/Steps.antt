-- Steps of the flush seat leave a pass that may be joined as before.
use Rattle.std.proofs.Common.{◌≡◌, ℕ, ◌⊎◌, ⊎_elim, inl, inr, true, false, List, [], ◌∷◌, Option, Some, None, Result, Ok, Err, IfOk, IfErr, refl, sym, ap, ◌∙◌, subst}
use Rattle.erm_desk.specs.Known.{HasPin}
use Rattle.erm_desk.specs.Turns.{DidPin, DidRead, DidWait, EndsPin, FlushSteps}
use Rattle.erm_desk.proofs.Lawful.{took_start}
use Rattle.erm_desk.proofs.PinKept.{pin_held}
use Rattle.erm_desk.proofs.Stays.{took_goes}
use Rattle.erm_gathered.proofs.Turns.{joins_still}
use Rattle.erm_machine.specs.declared.event.Kind.{Kind}
use Rattle.erm_machine.specs.declared.event.Kind.TheVariants as kind
use Rattle.erm_machine.specs.declared.event.TailUse.TheVariants as purpose
use Rattle.erm_machine.specs.declared.limits.TheConstants.{FLUSH_SEAT}
use Rattle.erm_machine.specs.declared.part.Part.{Part}
use Rattle.erm_machine.specs.declared.place.Place.{Place}
use Rattle.erm_machine.specs.declared.place.Place.TheVariants.{Active}
use Rattle.erm_machine.specs.Seat.{is_active, is_vacant}
use Rattle.erm_model.specs.RowTransaction.{Law}
use Rattle.erm_rule.specs.declared.view.Book.{Book}
use Rattle.erm_rule.specs.declared.view.View.{View}
use Rattle.erm_rule.specs.Books.{IsAfter}
use Rattle.erm_rule.specs.Views.{MayJoin, part_of, with_part}
use Rattle.erm_rule.specs.Went.{Took}
use Rattle.erm_rule.proofs.Parts.{with_part-again}
use Rattle.erm_rule.proofs.Telling.{part_of-changed}
use Rattle.erm_world.specs.declared.gathered.SeatWait.{SeatWait}

abbrev F : ℕ
F = FLUSH_SEAT

pub steps_start : (law : Law) (b e : Book) → FlushSteps law b e → e.start ≡ b.start
steps_start law b e steps = took_start law F steps.0 b e steps.1

pub steps_go : (law : Law) (b e : Book) → FlushSteps law b e → IsAfter b e
steps_go law b e steps = took_goes law steps.0 b e steps.1

-- the view is the same, or its part of the flush seat has changed
abbrev Changes : View → View → Type 0
Changes v w = (w ≡ v) ⊎ ((x : Part) × (w ≡ with_part F x v))

changes : (law : Law) (steps : List (Kind × ℕ)) (b e : Book) → Took law F steps b e → Changes b.view e.view
changes law [] b e took = inl (ap (λ (z : Book). z.view) took)
changes law (s ∷ steps) b e took =
    let told = took.2.under.told in
    ⊎_elim (λ (same : took.0.view ≡ b.view). inr (told.part, told.view_is ∙ ap (with_part F told.part) same))
    (λ (other : (x : Part) × (took.0.view ≡ with_part F x b.view)). inr (told.part, told.view_is ∙ ap (with_part F told.part) other.1 ∙ with_part-again F other.0 told.part b.view))
    (changes law steps b took.0 took.1)

active_full : (pl : Place) → is_active pl ≡ true → is_vacant pl ≡ false
active_full (Active tail) active = refl
active_full _ active = absurd (cc)

pin_full : (v : View) (p : Option ℕ) → HasPin v p → is_vacant (part_of v F).place ≡ false
pin_full v None idle = ap is_vacant idle
pin_full v (Some place) pin = active_full (part_of v F).place pin.0.active

pub steps_join : (law : Law) (b e : Book) (p q : Option ℕ) → FlushSteps law b e → HasPin b.view p → HasPin e.view q → MayJoin b.view → MayJoin e.view
steps_join law b e p q steps before after may =
    ⊎_elim (λ (same : e.view ≡ b.view). subst MayJoin (sym same) may)
    (λ (other : (x : Part) × (e.view ≡ with_part F x b.view)).
    let here : part_of e.view F ≡ other.0 = part_of-changed b.view F e.view other.0 (part_of b.view F) (pin_held b.view p before) other.1 in
    let full : is_vacant other.0.place ≡ false = ap (λ (x : Part). is_vacant x.place) (sym here) ∙ pin_full e.view q after in
    joins_still b.view e.view other.0 other.1 (full ∙ sym (pin_full b.view p before)) may)
    (changes law steps.0 b e steps.1)

-- THE STEPS OF ITS CALLS
pub pin_steps : (law : Law) (b e : Book) (place : ℕ) → DidPin law b place e → FlushSteps law b e
pin_steps law b e place did =
    ((kind.LoadTail purpose.Begin, place) ∷ (kind.StoreBegin did.took.announced, did.took.word) ∷ (kind.LoadTail purpose.Begin, did.took.announced) ∷ [], did.took.took)

pub end_steps : (law : Law) (b e : Book) → EndsPin law b e → FlushSteps law b e
end_steps law b e did = ((kind.StoreBegin 0, did.found) ∷ [], (b, refl, did.step))

pub row_steps : (law : Law) (b e : Book) (oid : ℕ) (answer : Result (List ℕ) SeatWait) → IfOk answer (λ row. DidRead law b oid row e) → IfErr answer (λ wait. DidWait law b oid wait e) → FlushSteps law b e
row_steps law b e oid (Ok row) reads waits = (reads.loads.steps, reads.loads.took)
row_steps law b e oid (Err wait) reads waits = (waits.loads.steps, waits.loads.took)
