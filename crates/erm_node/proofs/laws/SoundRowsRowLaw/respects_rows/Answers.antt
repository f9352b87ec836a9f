use Rattle.erm_node.proofs.Alike.{sound_law-respects}
use Rattle.erm_node.proofs.laws.SoundRowsRowLaw.respects_rows.Goals as goal

pub returns : goal.returns
returns c = sound_law-respects
