use Rattle.std.proofs.Common.{refl}
use Rattle.erm_ckpt.specs.Checkpoint.{zero_rows}
use Rattle.erm_node.proofs.ZeroRows.{zeros-sound}
use Rattle.erm_recover.proofs.sound_rows.zero_rows_are_sound.Goals as goal

pub returns : goal.returns
returns c = zeros-sound zero_rows (λ oid below. refl)
