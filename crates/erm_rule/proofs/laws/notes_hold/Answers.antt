use Rattle.erm_rule.proofs.Notes.{note_holds}
use Rattle.erm_rule.proofs.laws.notes_hold.Goals as goal

pub returns : goal.returns
returns c = note_holds
