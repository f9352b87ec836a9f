use Rattle.std.proofs.Common.{◌∙◌, subst, None}
use Rattle.atomic_table.specs.Seated.{TableId}
use Rattle.erm_desk.specs.Desk.{Sees, TurnsTo}
use Rattle.erm_desk.specs.Known.{AwaitsLog, HasEnded, HasStopped, KnowsLog}
use Rattle.erm_desk.specs.Turns.{DidLook, DidStore, FlushSteps}
use Rattle.erm_desk.specs.declared.seat.FlushSeat.{FlushSeat}
use Rattle.erm_desk.proofs.Turned.{sees}
use Rattle.erm_flush.proofs.Images.{known_of, turns_of}
use Rattle.erm_ring.specs.Turns.{WasOpen}
use Rattle.erm_rule.specs.Books.{book}
use Rattle.erm_rule.specs.Steps.{Fits}
use Rattle.erm_desk.proofs.desk.Desk.turn.Goals as goal

pub invariant_of-self : goal.invariant_of-self
invariant_of-self g c =
    let law = g.L.RowLaw.law in
    let before = g.D.Disk.told c.self.inside.disk in
    let after = g.D.Disk.told c.turn_over.new.disk in
    let both = c.turns_keep_desks.ensures g.B.Naming.start g.B.Naming.began g.B.Naming.faults (sees (book c.self.inside.pass) before (g.D.Disk.faults c.self.inside.disk) c.self.inside.flusher)
    (sees (book c.turn_over.new.world.pass.now) after (g.D.Disk.faults c.turn_over.new.disk) c.turn_over.new.self) c.turn_over.result c.self.invariant.2
    (turns_of (λ (x : FlushSeat g.row.L.Denot). book x.pass.now) before after (DidLook law) (DidStore law) c.turn_over.result c.self.inside.flusher c.turn_over.new.self _ c.turn_over.new.world c.turn_over.ensures.turn)
    c.turn_over.ensures.counts
    (λ l knows ready. known_of (λ (x : FlushSeat g.row.L.Denot). book x.pass.now) before after law.meets (KnowsLog law) (AwaitsLog law) HasEnded WasOpen HasStopped c.turn_over.result l _ c.turn_over.new.world
    (c.turn_over.ensures.known l knows ready))
    in (subst (λ (i : TableId). Fits i c.turn_over.new.world.pass.now) (c.turn_over.ensures.keeps.1 ∙ c.requires.table) c.turn_over.ensures.stands.0, both.2 None c.self.invariant.1, both.0)

pub returns : goal.returns
returns g c =
    let law = g.L.RowLaw.law in
    let before = g.D.Disk.told c.self.inside.disk in
    let after = g.D.Disk.told c.turn_over.new.disk in
    let left = sees (book c.turn_over.new.world.pass.now) after (g.D.Disk.faults c.turn_over.new.disk) c.turn_over.new.self in
    let both = c.turns_keep_desks.ensures g.B.Naming.start g.B.Naming.began g.B.Naming.faults (sees (book c.self.inside.pass) before (g.D.Disk.faults c.self.inside.disk) c.self.inside.flusher)
    left c.turn_over.result c.self.invariant.2
    (turns_of (λ (x : FlushSeat g.row.L.Denot). book x.pass.now) before after (DidLook law) (DidStore law) c.turn_over.result c.self.inside.flusher c.turn_over.new.self _ c.turn_over.new.world c.turn_over.ensures.turn)
    c.turn_over.ensures.counts
    (λ l knows ready. known_of (λ (x : FlushSeat g.row.L.Denot). book x.pass.now) before after law.meets (KnowsLog law) (AwaitsLog law) HasEnded WasOpen HasStopped c.turn_over.result l _ c.turn_over.new.world
    (c.turn_over.ensures.known l knows ready))
    in record {
      turns = subst (λ (s : Sees). TurnsTo law g.B.Naming.start c.turn_over.result s left) c.self.view_is both.1;
      steps = subst (λ (s : Sees). FlushSteps law s.book left.book) c.self.view_is both.3;
    }
