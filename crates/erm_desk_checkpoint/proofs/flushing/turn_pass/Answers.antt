use Rattle.std.proofs.Common.{rules}
use Rattle.erm_desk.specs.Known.{AwaitsLog, HasEnded, HasStopped, KnowsLog}
use Rattle.erm_desk.specs.Turns.{DidLook, DidStore}
use Rattle.erm_desk.specs.declared.seat.FlushSeat.{FlushSeat}
use Rattle.erm_flush.specs.Over.{TurnsKnown, TurnsOver}
use Rattle.erm_flush.proofs.Images.{known_of, turns_of}
use Rattle.erm_ring.specs.Turns.{WasOpen}
use Rattle.erm_rule.specs.Books.{book}
use Rattle.erm_desk_checkpoint.proofs.flushing.turn_pass.Goals as goal

pub returns-clause-turn : goal.returns-clause-turn
returns-clause-turn g c =
    let law = g.L.RowLaw.law in
    let did : TurnsOver (DidLook law) (DidStore law) c.turn_over.result c.args.flusher.now c.turn_over.new.self (book c.args.pass.now) (book c.turn_over.new.world.pass.now) (g.D.Disk.told c.args.disk.now) (g.D.Disk.told c.turn_over.new.disk) =
    turns_of (λ (x : FlushSeat g.row.L.Denot). book x.pass.now) (g.D.Disk.told c.args.disk.now) (g.D.Disk.told c.turn_over.new.disk) (DidLook law) (DidStore law) c.turn_over.result c.args.flusher.now
    c.turn_over.new.self _ c.turn_over.new.world c.turn_over.ensures.turn
    in search (rules, did)

pub returns-clause-known : goal.returns-clause-known
returns-clause-known g c = λ l knows ready.
    let law = g.L.RowLaw.law in
    let known : TurnsKnown law.meets (KnowsLog law) (AwaitsLog law) HasEnded WasOpen HasStopped c.turn_over.result l (book c.args.pass.now) (book c.turn_over.new.world.pass.now) (g.D.Disk.told c.args.disk.now) (g.D.Disk.told c.turn_over.new.disk) =
    known_of (λ (x : FlushSeat g.row.L.Denot). book x.pass.now) (g.D.Disk.told c.args.disk.now) (g.D.Disk.told c.turn_over.new.disk) law.meets (KnowsLog law) (AwaitsLog law) HasEnded WasOpen HasStopped
    c.turn_over.result l _ c.turn_over.new.world (c.turn_over.ensures.known l knows ready)
    in search (rules, known)
