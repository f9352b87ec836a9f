-- A desk whose pass has taken in others.
use Rattle.std.proofs.Common.{ℕ, List, ◌++◌, Option}
use Rattle.erm_gathered.proofs.Lasting.{BlocksStay}
use Rattle.erm_model.specs.RowTransaction.{Law}
use Rattle.erm_outside.specs.Disk.{Step}
use Rattle.erm_rule.specs.declared.view.Book.{Book}
use Rattle.erm_rule.specs.declared.view.Start.{Start}
use Rattle.erm_world.specs.Log.{place_behind}
use Rattle.erm_desk.specs.Desk.{IsDesk, Sees, TakesIn}
use Rattle.erm_desk.specs.Known.{ended_log, flushed_log}
use Rattle.erm_desk.proofs.Ended.{end_on}
use Rattle.erm_desk.proofs.Onward.{knows_after}

pub taken_in : BlocksStay → (law : Law) (o : Start) (began : Option (List Step)) (first : ℕ) (s : Sees) (e : Book) → IsDesk law o began first s → TakesIn s.book e → IsDesk law o began first (record s { book = e })
taken_in stay law o began first s e desk takes = record {
  behind = desk.behind;
  may = takes.gathers;
  joins = takes.joins;
  blocks = desk.blocks;
  knows = knows_after stay law o s.book e desk.blocks takes.goes takes.start desk.knows;
  flushed = takes.flushed (place_behind o.tail desk.blocks) desk.flushed;
  tail = desk.tail;
  pin = desk.pin;
  end = end_on law s.book e (ended_log (flushed_log o desk.blocks) desk.tail desk.pin) desk.end takes.goes (takes.pin desk.pin desk.end.pin);
  tried = desk.tried;
  knows_all = knows_after stay law o s.book e (desk.blocks ++ desk.tried) takes.goes takes.start desk.knows_all;
  keeps = desk.keeps;
  writes = desk.writes;
  onward = desk.onward;
  since = desk.since;
  holds = desk.holds;
  meets = desk.meets;
  sound = desk.sound;
  rose = desk.rose;
}
