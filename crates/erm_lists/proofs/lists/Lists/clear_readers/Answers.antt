use Rattle.std.proofs.Common.{◌∙◌, arith}
use Rattle.erm_core.specs.Cores.{core_of}
use Rattle.erm_core_steps.specs.Steps.{claims_in, reads_in}
use Rattle.erm_core_steps.proofs.Aborts.{clear_more, clear_taken}
use Rattle.erm_lists.proofs.lists.Lists.clear_readers.Goals as goal

pub go-requires-clause-taken : goal.go-requires-clause-taken
go-requires-clause-taken g c =
    let b = core_of c.args.self.now.state in
    let inv = c.loop-place.invariant in
    let less = c.loop-place-test.true in
    let all = inv.4 in
    clear_taken c.args.seat (claims_in b c.args.seat) (reads_in b c.args.seat) c.loop-place.place (core_of c.loop-place.self.state) c.version_read-version.result
    inv.0.sound inv.1 (omega (arith, less, all)) c.version_read-version.ensures

pub loop-place-preserved : goal.loop-place-preserved
loop-place-preserved g c =
    let b = core_of c.args.self.now.state in
    let inv = c.loop-place.invariant in
    let less = c.loop-place-test.true in
    let all = inv.4 in
    let more =
    clear_more c.args.self.now.sessions c.args.seat (claims_in b c.args.seat) (reads_in b c.args.seat) c.loop-place.place b (core_of c.loop-place.self.state)
    (core_of c.go.new.self.state) c.version_read-version.result inv.0.sound inv.1 (omega (arith, less, all)) c.version_read-version.ensures inv.2 c.go.ensures.after
    in
    (c.go.ensures.sound, more.0, more.1, c.go.ensures.sessions ∙ inv.3, all, omega (arith, less))
