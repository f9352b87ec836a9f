-- What the store of an entry left, in whatever state of a book it was taken.
use Rattle.std.proofs.Common.{◌≡◌, ℕ, Bool, true, false, Option, Some, None, refl, sym, ap, ◌∙◌, subst}
use Rattle.std.specs.Prelude.{if◌then◌else◌}
use Rattle.std.proofs.lemmas.Option.{same_Some}
use Rattle.erm_machine.specs.declared.event.Kind.{Kind}
use Rattle.erm_machine.specs.declared.event.Kind.TheVariants as kind
use Rattle.erm_machine.specs.declared.part.Part.{Part}
use Rattle.erm_machine.specs.Core.{Core, spot_of, word_at}
use Rattle.erm_machine.specs.Seat.{end_of}
use Rattle.erm_machine.specs.Step.{added, after_event, installed, moved}
use Rattle.erm_machine.proofs.Frames.{put_same}
use Rattle.erm_model.specs.RowTransaction.{Law}
use Rattle.erm_rule.specs.declared.view.Book.{Book}
use Rattle.erm_rule.specs.Books.{IsBookOf, WasMet, WasSeen}
use Rattle.erm_rule.specs.Steps.{Booked}
use Rattle.erm_rule.proofs.Courses.{met_kept, onward}

-- what is so of the state after a step, in whatever state of the book the step was taken, was seen
pub seen_left : (law : Law) (b : Book) (P : Core → Type 0) (who : ℕ) (k : Kind) (found : ℕ) (e : Book) → Booked law b who k found e → ((c d : Core) → IsBookOf b c → after_event c who k ≡ Some d → P d) → WasSeen b P e
seen_left law b P who k found e booked so c is =
    onward (WasMet b P) b who k found e.view (λ d g _ passes w. met_kept b P d g passes w)
    (λ d g of met event. record { start = d; is = of; state = g; since = (1, (d, refl, (of.sound, (who, k, event)))); met = so d g of event; later = (0, refl) })
    c (subst (λ (z : Book). IsBookOf z c) booked.book_is is)

-- what follows from what was seen was seen
pub seen_so : (b : Book) (P Q : Core → Type 0) (e : Book) → ((c : Core) → P c → Q c) → WasSeen b P e → WasSeen b Q e
seen_so b P Q e so seen c is = let w = seen c is in record { start = w.start; is = w.is; state = w.state; since = w.since; met = so w.state w.met; later = w.later }

-- the object after its entry was stored
pub object_left : (c d : Core) (who oid head : ℕ) (known : Bool) (o : Option Part) →
    (if known then moved who (kind.Install oid head) (word_at c (spot_of who (kind.Install oid head))) c o else None) ≡ Some d →
    d.shared.objects oid ≡ installed head (added head (c.seats who) (end_of (c.seats who).task)) (c.shared.objects oid)
object_left c d who oid head true (Some y) e = ap (λ (z : Core). z.shared.objects oid) (sym (same_Some _ d e)) ∙ put_same c.shared.objects oid _
object_left c d who oid head true None e = absurd (cc)
object_left c d who oid head false o e = absurd (cc)
