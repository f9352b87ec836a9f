use Rattle.std.proofs.Common.{ℕ, refl, sym, subst}
use Rattle.erm_core.specs.Cores.{core_of}
use Rattle.erm_core_view.specs.Views.{IsQuiet}
use Rattle.erm_core_turns.proofs.Pins.{is_pinned, unpin_done, unpin_steps}
use Rattle.erm_lists.specs.Stands.{Stands}
use Rattle.erm_lists.proofs.Turned.{turned_keeps, turned_log}
use Rattle.erm_lists.proofs.lists.Lists.unpin.Goals as goal

pub go-requires-clause-taken : goal.go-requires-clause-taken
go-requires-clause-taken g c =
    let sessions = c.args.self.now.sessions in
    let before = core_of c.args.self.now.state in
    let stands = c.requires.stands in
    let at = is_pinned sessions before stands.sound.sound stands.quiet c.requires.pinned in
    (_, unpin_steps before at (stands.quiet.flusher 49 refl))

pub returns : goal.returns
returns g c =
    let sessions = c.args.self.now.sessions in
    let before = core_of c.args.self.now.state in
    let after = core_of c.go.new.self.state in
    let stands = c.requires.stands in
    let at = is_pinned sessions before stands.sound.sound stands.quiet c.requires.pinned in
    let done = unpin_done sessions before after stands.quiet at c.go.ensures.after in
    let same = c.go.ensures.sessions in
    let now : Stands g.L.RowLaw.law c.go.new.self = record { sound = c.go.ensures.sound; quiet = subst (λ (n : ℕ). IsQuiet n after) (sym same) done.1 } in
    record {
      stands = now;
      keeps = turned_keeps g.L.RowLaw.law c.args.self.now c.go.new.self same stands.quiet done.0 now;
      unpinned = turned_log c.args.self.now c.go.new.self _ same done.2;
    }
