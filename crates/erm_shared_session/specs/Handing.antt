-- The first pass of a table in which no session is idle at its opening, while it hands out the sessions one by one.
use Rattle.std.specs.Prelude.{◌≡◌, ℕ, if◌then◌else◌}
use Rattle.erm_model.specs.declared.limits.TheConstants.{TABLE_CELLS}
use Rattle.erm_model.specs.RowTransaction.{Law}
use Rattle.erm_machine.specs.declared.place.Place.TheVariants.{Idle, Vacant}
use Rattle.erm_machine.specs.Core.{Core, fresh_part, is_taken}
use Rattle.erm_sound.specs.Kept.{SoundUnder}
use Rattle.erm_rule.specs.declared.view.Book.{Book}
use Rattle.erm_rule.specs.declared.view.Opening.{Opening}
use Rattle.erm_rule.specs.Books.{IsBookOf}
use Rattle.erm_rule.specs.Openings.{start_of}
use Rattle.erm_rule.specs.Rule.{rest_view}

-- It has handed out so many: the book is one of a state whose rows keep the law, and in which each of these sessions is idle, as the flush seat is, and
-- the others are vacant.
pub record HasHandedOut (law : Law) (o : Opening) (given : ℕ) (b : Book) : Type 0 where
  pub view_is : b.view ≡ rest_view o given
  pub start : b.start ≡ start_of o
  pub core : Core
  pub is : IsBookOf b core
  pub under : SoundUnder law core
  pub fresh : (q : ℕ) → core.seats q ≡ fresh_part (if is_taken given q then Idle else Vacant) o.run o.tail
  pub limit : core.shared.cell_limit ≡ TABLE_CELLS
