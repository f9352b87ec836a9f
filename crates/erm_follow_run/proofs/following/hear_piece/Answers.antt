use Rattle.erm_follow_run.proofs.Ending.{piece_starved}
use Rattle.erm_follow_run.proofs.following.hear_piece.Goals as goal

pub returns-in-Err-clause-ends : goal.returns-in-Err-clause-ends
returns-in-Err-clause-ends g c = piece_starved _ _ _ _ _ _ _ c.starve.ensures.status c.starve.ensures.printed
