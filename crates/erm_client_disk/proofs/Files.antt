-- What programs on a disk leave of its slots, and of the segments below that of the place found.
use Rattle.std.proofs.Common.{◌≤◌, ◌++◌, ℕ, List, Option, arith}
use Rattle.erm_ckpt.specs.declared.slot.Slots.{Slots}
use Rattle.erm_ckpt.specs.Recovered.{State}
use Rattle.erm_desk.specs.Desk.{Sees}
use Rattle.erm_disk_at_once.proofs.AtOnce.{DeskDid, OpensDisk, desk_did, disk_opened}
use Rattle.erm_disk_at_once.proofs.Files.{KeepsFiles, desk_keeps, keeps_then}
use Rattle.erm_disk_at_once.specs.Desks.{HasDesk, OpensTable}
use Rattle.erm_disk_at_once.specs.Runs.{KeepsSegments, KeepsSlots}
use Rattle.erm_disk_run.specs.Opened.{OpensEachLog}
use Rattle.erm_log_run.proofs.Held.{tells_join, tells_weaker}
use Rattle.erm_outside.specs.Disk.{Step, Tells}
use Rattle.erm_rule.specs.declared.view.Start.{Start}

-- the slots and the older segments are as they were
abbrev pub KeepsOthers : State → Option (List Step) → Option (List Step) → Type 0
KeepsOthers state before after = Tells KeepsSlots before after × Tells (KeepsSegments state) before after

others_of : (state : State) (before after : Option (List Step)) → Tells (KeepsFiles state.at) before after → KeepsOthers state before after
others_of state before after files = (
  tells_weaker (KeepsFiles state.at) KeepsSlots before after (λ a b keeps. (keeps.slot0, keeps.slot1)) files,
  tells_weaker (KeepsFiles state.at) (KeepsSegments state) before after (λ a b keeps. keeps.segments) files,
)

-- behind an opening
pub opening_keeps : (state : State) (slots : Slots) (o : Start) (before mid : Option (List Step)) → OpensTable state o → OpensEachLog state slots before mid → KeepsOthers state before mid
opening_keeps state slots o before mid t opens =
    others_of state before mid (tells_weaker (OpensDisk state) (KeepsFiles state.at) before mid (λ a b is. is.1) (disk_opened state o slots before mid t opens))

-- and behind what a desk did then
pub desk_keeps_others : (state : State) (slots : Slots) (o : Start) (before mid : Option (List Step)) (faults : ℕ) (d : Sees) → HasDesk state slots o before mid faults d
    → KeepsOthers state before d.told
desk_keeps_others state slots o before mid faults d has =
    let blocks = has.desk.blocks ++ has.desk.tried in
    let tail = has.table.tail in
    let low : state.at ≤ o.tail = omega (arith, tail) in
    others_of state before d.told
    (tells_join (OpensDisk state) (DeskDid o has.desk.blocks has.desk.tried) (KeepsFiles state.at) before mid d.told
    (λ a b c opening did. keeps_then state.at a b c opening.1 (desk_keeps state.at o blocks b c low did.writes))
    (disk_opened state o slots before mid has.table has.opens) (desk_did o mid faults d has.desk has.tells))
