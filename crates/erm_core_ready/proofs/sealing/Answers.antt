use Rattle.std.proofs.Common.{ℕ, sym, subst, arith}
use Rattle.erm_core.specs.Cores.{core_of}
use Rattle.erm_core_stall.specs.Waiting.{IsSealing}
use Rattle.erm_core_ready.proofs.Seats.{none_anywhere, one_more}
use Rattle.erm_core_ready.proofs.sealing.Goals as goal

pub loop-seat-preserved : goal.loop-seat-preserved
loop-seat-preserved c =
    one_more (λ (q : ℕ). IsSealing ((core_of c.args.state.now).seats q).place) c.loop-seat.seat c.loop-seat.invariant
    (λ h. c.if-is_sealing.ensures (subst IsSealing (sym c.place_of.ensures) h))

pub returns : goal.returns
returns c =
    let all = c.loop-seat-test.false in
    none_anywhere (core_of c.args.state.now) c.requires.sound IsSealing (λ never. never) (λ q low. c.loop-seat.invariant q (omega (arith, low, all)))
