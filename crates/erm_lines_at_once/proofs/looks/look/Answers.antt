use Rattle.erm_node.specs.Sound.{sound_law}
use Rattle.erm_world.proofs.Serial.{serializable_too}
use Rattle.erm_beside.proofs.SafeTxns.{finds_same}
use Rattle.erm_lines_at_once.proofs.looks.look.Goals as goal

pub look_by-requires-clause-active : goal.look_by-requires-clause-active
look_by-requires-clause-active g c = (
  finds_same g.S.SharedSession.law sound_law c.requires.law (λ v holds. serializable_too g.S.SharedSession.law sound_law v c.requires.law holds)
      (record { rows = c.snapshots_find_rows.ensures.rows; one = c.snapshots_find_rows.ensures.one }),
  c.requires.stands,
  c.requires.safe,
)
