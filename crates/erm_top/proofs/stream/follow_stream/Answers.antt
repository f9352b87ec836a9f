use Rattle.std.proofs.Common.{refl}
use Rattle.erm_top.proofs.Streaming.{following_ends}
use Rattle.erm_top.proofs.stream.follow_stream.Goals as goal

pub returns : goal.returns
returns g c = λ told faults. following_ends c.follow.result _ c.follow.ensures (record { told = refl; sound = refl })
