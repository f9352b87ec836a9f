use Rattle.std.proofs.Common.{◌≡◌, ℕ, sym, subst, ◌∙◌, arith}
use Rattle.erm_core.specs.Cores.{core_of}
use Rattle.erm_core_turns.specs.Turns.{HasToClear}
use Rattle.erm_core_turns.proofs.Blocks.{place_of, place_upto}
use Rattle.erm_core_turns.proofs.Clears.{flush_done, has_to_clear, store_taken}
use Rattle.erm_core_turns.proofs.LogIs.{gathered_behind}
use Rattle.erm_core_view.specs.Views.{IsQuiet}
use Rattle.erm_lists.specs.Stands.{Stands}
use Rattle.erm_lists.proofs.Turned.{turned_keeps, turned_log}
use Rattle.erm_lists.proofs.lists.Lists.flushed_to.Goals as goal

pub clear_words-requires-clause-gathered : goal.clear_words-requires-clause-gathered
clear_words-requires-clause-gathered g c =
    let p = c.args.self.now in
    let before = core_of p.state in
    let stands = c.requires.stands in
    let is : c.args.end ≡ place_of before = c.requires.end ∙ gathered_behind g.L.RowLaw.law c.blocks_are_a_log_list.ensures p.sessions before stands.sound stands.quiet in
    subst (λ (n : ℕ). HasToClear n c.args.end before) (sym c.flushed-from.ensures) (has_to_clear p.sessions c.args.end before stands.sound.sound stands.quiet is c.requires.above)

pub go-requires-clause-taken : goal.go-requires-clause-taken
go-requires-clause-taken g c =
    store_taken c.args.end (core_of c.args.self.now.state) (core_of c.clear_words.new.self.state) c.clear_words.ensures.sound.sound c.clear_words.ensures.cleared

pub returns : goal.returns
returns g c =
    let p = c.args.self.now in
    let before = core_of p.state in
    let after = core_of c.go.new.self.state in
    let stands = c.requires.stands in
    let is : c.args.end ≡ place_of before = c.requires.end ∙ gathered_behind g.L.RowLaw.law c.blocks_are_a_log_list.ensures p.sessions before stands.sound stands.quiet in
    let within = (place_upto before stands.sound.sound).0.within in
    let done =
    flush_done p.sessions c.args.end before (core_of c.clear_words.new.self.state) after c.clear_words.ensures.sound.sound stands.quiet c.requires.above is (omega (arith, is, within))
    c.clear_words.ensures.cleared c.go.ensures.after
    in
    let same : c.go.new.self.sessions ≡ p.sessions = c.go.ensures.sessions ∙ c.clear_words.ensures.sessions in
    let now : Stands g.L.RowLaw.law c.go.new.self = record { sound = c.go.ensures.sound; quiet = subst (λ (n : ℕ). IsQuiet n after) (sym same) done.1 } in
    record {
      stands = now;
      keeps = turned_keeps g.L.RowLaw.law p c.go.new.self same stands.quiet done.0 now;
      flushed = turned_log p c.go.new.self _ same done.2;
    }
