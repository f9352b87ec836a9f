-- A desk whose pass has taken in others.
use Rattle.std.proofs.Common.{ℕ, List, ◌++◌, Option, ◌∙◌}
use Rattle.erm_ckpt.specs.declared.slot.Slots.{Slots}
use Rattle.erm_desk.specs.Desk.{Sees, TakesIn}
use Rattle.erm_desk.proofs.Ended.{log_on}
use Rattle.erm_desk.proofs.Onward.{knows_after}
use Rattle.erm_gathered.proofs.Lasting.{BlocksStay}
use Rattle.erm_model.specs.RowTransaction.{Law}
use Rattle.erm_outside.specs.Disk.{Step}
use Rattle.erm_rule.specs.declared.view.Book.{Book}
use Rattle.erm_rule.specs.declared.view.Start.{Start}
use Rattle.erm_world.specs.Log.{place_behind}
use Rattle.erm_desk_checkpoint.specs.Kept.{IsKept}

pub taken_in : BlocksStay → (law : Law) (o : Start) (began : Option (List Step)) (faults : ℕ) (slots : Slots) (s : Sees) (e : Book) → IsKept law o began faults slots s → TakesIn s.book e
    → IsKept law o began faults slots (record s { book = e })
taken_in stay law o began faults slots s e (log, tried, k) takes = (
  log,
  tried,
  record {
    lies = k.lies;
    start = takes.start ∙ k.start;
    may = takes.gathers;
    joins = takes.joins;
    knows = log_on stay law s.book e log k.knows takes.goes takes.start (takes.flushed (place_behind s.book.start.tail k.knows.blocks) k.knows.flushed) (takes.pin log.pinned k.knows.end.pin);
    knows_all = knows_after stay law o s.book e (log.gathered ++ tried) takes.goes takes.start k.knows_all;
    onward = k.onward;
    keeps = k.keeps;
    since = k.since;
    did = k.did;
    holds = k.holds;
    sound = k.sound;
    rose = k.rose;
  },
)
