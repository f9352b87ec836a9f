-- What a book tells of its table's log, in a later state.
use Rattle.std.proofs.Common.{◌≡◌, ℕ, List, sym, ap, ◌∙◌}
use Rattle.erm_block.specs.declared.block.Block.{Block}
use Rattle.erm_core_stays.proofs.Blocks.{blocks_stay}
use Rattle.erm_desk.specs.Known.{KnowsBlocks}
use Rattle.erm_desk.proofs.Opened.{IsOf}
use Rattle.erm_machine.specs.Core.{Core}
use Rattle.erm_model.specs.declared.limits.TheConstants.{SESSIONS}
use Rattle.erm_model.specs.RowTransaction.{Law}
use Rattle.erm_core_shown.specs.Shown.{shown_of}
use Rattle.erm_own_view.specs.Own.{WasOf, opening_of}
use Rattle.erm_own_view.proofs.Along.{of_later}
use Rattle.erm_ring.specs.Turns.{HasBlocks}
use Rattle.erm_rule.specs.declared.view.Book.{Book}
use Rattle.erm_rule.specs.declared.view.Start.{Start}
use Rattle.erm_rule.specs.Books.{Passes}
use Rattle.erm_sound.specs.Kept.{SoundUnder}
use Rattle.erm_world.specs.Log.{place_behind, words_of}
use Rattle.erm_world.specs.World.{Opening}

-- decided blocks that lie end to end stay, with their words
blocks_pass : (from to : ℕ) (words : List ℕ) (c d : Core) → Passes c d → HasBlocks from to words c → HasBlocks from to words d
blocks_pass from to words c d passes has =
    let later = blocks_stay c d passes.1.0 passes.1.1 passes.0 passes.1.2 has.ranges from to has.blocks in
    record { ranges = later.0; blocks = later.1; words_are = has.words_are ∙ sym later.2 }

-- those of the book are there in a later state
pub blocks_there : (law : Law) (o : Start) (b : Book) (c : Core) (blocks : List Block) → KnowsBlocks law o b blocks → WasOf b c
    → HasBlocks o.tail (place_behind o.tail blocks) (words_of blocks) c
blocks_there law o b c blocks knows was =
    let to = place_behind o.tail blocks in
    of_later (HasBlocks o.tail to (words_of blocks)) (blocks_pass o.tail to (words_of blocks)) b c knows.whole was

-- the state is one of a table that was opened so
pub opened_so : (law : Law) (o : Start) (c : Core) → SoundUnder law c → (shown_of SESSIONS c).opening ≡ opening_of o → IsOf o c
opened_so law o c under e = record {
  opening = ap (λ (x : Opening). x.tail) e;
  run = ap (λ (x : Opening). x.run) e;
  rows = ap (λ (x : Opening). x.rows) e;
  begins = under.begins;
}
