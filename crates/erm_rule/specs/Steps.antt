-- What a step on a word asks, and what it tells.
use Rattle.std.specs.Prelude.{◌≡◌, ℕ, false, [], Some, IsSome}
use Rattle.atomic_table.specs.declared.shared.Seat.{Seat}
use Rattle.atomic_table.specs.Seated.{TableId}
use Rattle.erm_model.specs.declared.limits.TheConstants.{TABLE_CELLS}
use Rattle.erm_model.specs.Lawful.{IsLawfulRecord}
use Rattle.erm_model.specs.RowTransaction.{Law}
use Rattle.erm_layout.specs.declared.limits.TheConstants.{WORDS}
use Rattle.erm_machine.specs.declared.event.Kind.{Kind}
use Rattle.erm_machine.specs.declared.event.Kind.TheVariants as kind
use Rattle.erm_machine.specs.declared.part.Part.{Part}
use Rattle.erm_machine.specs.declared.place.Place.TheVariants.{Vacant}
use Rattle.erm_machine.specs.Core.{Core, spot_of, word_at, fresh_part}
use Rattle.erm_machine.specs.Decided.{record_of}
use Rattle.erm_machine.specs.Lawful.{Lawful}
use Rattle.erm_machine.specs.Sound.{Sound}
use Rattle.erm_machine.specs.Step.{part_after, stored, after_event}
use Rattle.erm_machine.specs.Words.{is_seat}
use Rattle.erm_core_blocks.specs.Spelled.{AreSpelled, IsSpelled, decided_by}
use Rattle.erm_rule.specs.declared.view.Book.{Book}
use Rattle.erm_rule.specs.declared.view.Opening.{Opening}
use Rattle.erm_rule.specs.declared.view.View.{View}
use Rattle.erm_rule.specs.Books.{Course, HasSeats, TookIn, noted}
use Rattle.erm_rule.specs.Newest.{CutsAtNewest}
use Rattle.erm_rule.specs.Openings.{start_of}
use Rattle.erm_rule.specs.Rule.{IsOpened}
use Rattle.erm_rule.specs.Views.{part_of, with_part, IsView, IsInOrder}

-- the pass is one of this table, which has all words and no slots
pub record Fits (table : TableId) (p : Seat (Unit {0}) Book) : Type 0 where
  pub words : table.words ≡ WORDS
  pub slots : table.slots ≡ 0
  pub same : p.table_id ≡ table
  pub none : p.me.1 ≡ []

-- the seat's step of this kind is one that the machine takes, whatever the view leaves open
abbrev pub Ready : View → ℕ → Kind → Type 0
Ready v who kind = (c : Core) → Sound c → IsView v c → IsSome (part_after who kind (word_at c (spot_of who kind)) c.shared (c.seats who))

-- the word becomes what the seat's step of this kind stores
abbrev pub Agrees : View → ℕ → Kind → (ℕ → ℕ) → Type 0
Agrees v who kind f =
    (c : Core) → Sound c → IsView v c → IsSome (part_after who kind (word_at c (spot_of who kind)) c.shared (c.seats who))
    → f (word_at c (spot_of who kind)) ≡ stored who kind (word_at c (spot_of who kind))

-- The caller's promise: a step that draws a range of the log draws it for a lawful transaction, and one that decides a
-- transaction decides a spelled one.
abbrev pub Promises : Law → View → ℕ → Kind → Type 0
Promises law v who (kind.AddTail size) = IsLawfulRecord law (record_of who (part_of v who).current)
Promises law v who (kind.Decide at header) = IsSpelled (part_of v who).run who (decided_by header (part_of v who).current)
Promises law v who _ = Unit {0}

-- A step of a seat, from a sound state with the parts of the view before to one with those of the view after: the word
-- found, and the seat's part after. In both states each cut in progress cuts behind the newest version below its horizon.
pub record Told (v : View) (who : ℕ) (kind : Kind) (found : ℕ) (w : View) : Type 0 where
  pub before : Core
  pub sound : Sound before
  pub cuts : CutsAtNewest before
  pub is_view : IsView v before
  pub in_order : IsInOrder v
  pub limit : before.shared.cell_limit ≡ TABLE_CELLS
  pub met : word_at before (spot_of who kind) ≡ found
  pub part : Part
  pub part_is : part_after who kind found before.shared (before.seats who) ≡ Some part
  pub view_is : w ≡ with_part who part v
  pub after : Core
  pub event : after_event before who kind ≡ Some after
  pub sound_after : Sound after
  pub cuts_after : CutsAtNewest after
  pub is_view_after : IsView w after
  pub limit_after : after.shared.cell_limit ≡ TABLE_CELLS

-- A step that is told, between states whose rows keep the law, and whose decided blocks are spelled.
pub record ToldUnder (law : Law) (v : View) (who : ℕ) (kind : Kind) (found : ℕ) (w : View) : Type 0 where
  pub told : Told v who kind found w
  pub lawful : Lawful law told.before.shared told.before.seats
  pub lawful_after : Lawful law told.after.shared told.after.seats
  pub spelled : AreSpelled told.before
  pub spelled_after : AreSpelled told.after

-- A step that is told, with the steps that the pass had taken before it: these led to the state before, and all of them lead to the
-- state after.
pub record Booked (law : Law) (b : Book) (who : ℕ) (kind : Kind) (found : ℕ) (e : Book) : Type 0 where
  pub under : ToldUnder law b.view who kind found e.view
  pub book_is : e ≡ noted b who kind found e.view
  pub course : Course b under.told.before
  pub course_after : Course e under.told.after

-- The table's last state: a sound one of its opening, in which the seats of the view, each of which stands once and has words, have its
-- parts, with this tail. The steps of the book, if it has seats, lead from the opening's state to this one, and a state of each book that
-- was taken in was met on the way. A seat without words, which no view can have, is one that has done nothing.
pub record Ends (o : Opening) (b : Book) (tail : ℕ) : Type 0 where
  pub core : Core
  pub sound : Sound core
  pub is_view : IsView b.view core
  pub in_order : IsInOrder b.view
  pub start : HasSeats b.view → b.start ≡ start_of o
  pub course : HasSeats b.view → Course b core
  pub past : TookIn b.past core
  pub opened : IsOpened o core.shared
  pub tail_is : core.shared.tail ≡ tail
  pub others : (q : ℕ) → is_seat q ≡ false → core.seats q ≡ fresh_part Vacant o.run o.tail

-- the table's last state, whose rows keep the law, and whose decided blocks are spelled
pub record EndsUnder (law : Law) (o : Opening) (b : Book) (tail : ℕ) : Type 0 where
  pub ends : Ends o b tail
  pub lawful : Lawful law ends.core.shared ends.core.seats
  pub spelled : AreSpelled ends.core
