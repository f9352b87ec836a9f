use Rattle.std.proofs.Common.{ap, arith}
use Rattle.erm_model.specs.declared.history.Commit.{Commit}
use Rattle.erm_follow.proofs.Due.{may_begin}
use Rattle.erm_stream_cases.proofs.follow.broken.Goals as goal

pub take-waits-requires : goal.take-waits-requires
take-waits-requires g c =
    let stamp = ap (λ (v : Commit). v.stamp) c.commit.ensures in
    let succ = ap (λ (v : Commit). v.succ) c.commit.ensures in
    may_begin 8 c.commit.result c.new-follow.result c.new-follow.ensures (omega (arith, stamp, succ))
