use Rattle.std.proofs.Common.{refl}
use Rattle.erm_top.proofs.Streaming.{replicating_ends}
use Rattle.erm_top.proofs.stream.replicate_stream.Goals as goal

pub returns : goal.returns
returns g c = λ told faults. replicating_ends c.bad_streams_stay_bad.ensures c.replicate.result _ c.replicate.ensures (record { told = refl; sound = refl })
