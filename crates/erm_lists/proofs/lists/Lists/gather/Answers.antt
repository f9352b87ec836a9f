use Rattle.std.proofs.Common.{◌≡◌, ap, refl, ◌∙◌, arith}
use Rattle.erm_machine.specs.declared.limits.TheConstants.{FLUSH_SEAT}
use Rattle.erm_core.specs.Cores.{core_of}
use Rattle.erm_core_turns.proofs.Gathers.{from_steps, tail_at, tail_steps}
use Rattle.erm_core_steps.specs.Steps.{found_in}
use Rattle.erm_lists.proofs.GatherCall.{begun, called}
use Rattle.erm_lists.proofs.lists.Lists.gather.Goals as goal

pub go-requires-clause-taken : goal.go-requires-clause-taken
go-requires-clause-taken g c =
    let stands = c.requires.stands in (_, tail_steps (core_of c.args.self.now.state) stands.sound.sound (stands.quiet.flusher FLUSH_SEAT refl))

pub go-requires-2-clause-taken : goal.go-requires-2-clause-taken
go-requires-2-clause-taken g c =
    let stands = c.requires.stands in
    let before = core_of c.args.self.now.state in
    let one = core_of c.go.new.self.state in
    (_, from_steps one before.shared.tail (tail_at before one stands.sound.sound (stands.quiet.flusher FLUSH_SEAT refl) c.go.ensures.after))

pub gather_words-count-requires-clause-gathers : goal.gather_words-count-requires-clause-gathers
gather_words-count-requires-clause-gathers g c =
    let at : c.found-at.result ≡ (core_of c.go.new.self.state).shared.flushed = c.found-at.ensures ∙ ap found_in c.go-2.ensures.answer in
    (begun g.L.RowLaw.law c.args.self.now (core_of c.go.new.self.state) (core_of c.go-2.new.self.state) c.found-at.result c.requires.stands c.go.ensures.after c.go-2.ensures.after at).0.gathers

pub returns-then-count-gt0-clause-stands : goal.returns-then-count-gt0-clause-stands
returns-then-count-gt0-clause-stands g c =
    let at : c.found-at.result ≡ (core_of c.go.new.self.state).shared.flushed = c.found-at.ensures ∙ ap found_in c.go-2.ensures.answer in
    let start = begun g.L.RowLaw.law c.args.self.now (core_of c.go.new.self.state) (core_of c.go-2.new.self.state) c.found-at.result c.requires.stands c.go.ensures.after c.go-2.ensures.after at in
    let w = c.gather_words-count in
    let call =
    called g.L.RowLaw.law c.blocks_are_a_log_list.ensures c.logs_go_on.ensures.more c.args.self.now w.new.self (core_of c.go-2.new.self.state) c.found-at.result w.result w.new.words
    c.requires.stands w.ensures.sound (w.ensures.sessions ∙ c.go-2.ensures.sessions ∙ c.go.ensures.sessions) start.0 start.1 w.ensures.gathered w.ensures.few w.ensures.stop w.ensures.words
    in
    call.stands

pub returns-then-count-gt0-clause-keeps : goal.returns-then-count-gt0-clause-keeps
returns-then-count-gt0-clause-keeps g c =
    let at : c.found-at.result ≡ (core_of c.go.new.self.state).shared.flushed = c.found-at.ensures ∙ ap found_in c.go-2.ensures.answer in
    let start = begun g.L.RowLaw.law c.args.self.now (core_of c.go.new.self.state) (core_of c.go-2.new.self.state) c.found-at.result c.requires.stands c.go.ensures.after c.go-2.ensures.after at in
    let w = c.gather_words-count in
    let call =
    called g.L.RowLaw.law c.blocks_are_a_log_list.ensures c.logs_go_on.ensures.more c.args.self.now w.new.self (core_of c.go-2.new.self.state) c.found-at.result w.result w.new.words
    c.requires.stands w.ensures.sound (w.ensures.sessions ∙ c.go-2.ensures.sessions ∙ c.go.ensures.sessions) start.0 start.1 w.ensures.gathered w.ensures.few w.ensures.stop w.ensures.words
    in
    call.keeps

pub returns-then-tail-at-clause-stands : goal.returns-then-tail-at-clause-stands
returns-then-tail-at-clause-stands g c =
    let at : c.found-at.result ≡ (core_of c.go.new.self.state).shared.flushed = c.found-at.ensures ∙ ap found_in c.go-2.ensures.answer in
    let start = begun g.L.RowLaw.law c.args.self.now (core_of c.go.new.self.state) (core_of c.go-2.new.self.state) c.found-at.result c.requires.stands c.go.ensures.after c.go-2.ensures.after at in
    let w = c.gather_words-count in
    let call =
    called g.L.RowLaw.law c.blocks_are_a_log_list.ensures c.logs_go_on.ensures.more c.args.self.now w.new.self (core_of c.go-2.new.self.state) c.found-at.result w.result w.new.words
    c.requires.stands w.ensures.sound (w.ensures.sessions ∙ c.go-2.ensures.sessions ∙ c.go.ensures.sessions) start.0 start.1 w.ensures.gathered w.ensures.few w.ensures.stop w.ensures.words
    in
    call.stands

pub returns-then-tail-at-clause-keeps : goal.returns-then-tail-at-clause-keeps
returns-then-tail-at-clause-keeps g c =
    let at : c.found-at.result ≡ (core_of c.go.new.self.state).shared.flushed = c.found-at.ensures ∙ ap found_in c.go-2.ensures.answer in
    let start = begun g.L.RowLaw.law c.args.self.now (core_of c.go.new.self.state) (core_of c.go-2.new.self.state) c.found-at.result c.requires.stands c.go.ensures.after c.go-2.ensures.after at in
    let w = c.gather_words-count in
    let call =
    called g.L.RowLaw.law c.blocks_are_a_log_list.ensures c.logs_go_on.ensures.more c.args.self.now w.new.self (core_of c.go-2.new.self.state) c.found-at.result w.result w.new.words
    c.requires.stands w.ensures.sound (w.ensures.sessions ∙ c.go-2.ensures.sessions ∙ c.go.ensures.sessions) start.0 start.1 w.ensures.gathered w.ensures.few w.ensures.stop w.ensures.words
    in
    call.keeps

pub returns-else-tail-at-clause-stands : goal.returns-else-tail-at-clause-stands
returns-else-tail-at-clause-stands g c =
    let at : c.found-at.result ≡ (core_of c.go.new.self.state).shared.flushed = c.found-at.ensures ∙ ap found_in c.go-2.ensures.answer in
    let start = begun g.L.RowLaw.law c.args.self.now (core_of c.go.new.self.state) (core_of c.go-2.new.self.state) c.found-at.result c.requires.stands c.go.ensures.after c.go-2.ensures.after at in
    let w = c.gather_words-count in
    let call =
    called g.L.RowLaw.law c.blocks_are_a_log_list.ensures c.logs_go_on.ensures.more c.args.self.now w.new.self (core_of c.go-2.new.self.state) c.found-at.result w.result w.new.words
    c.requires.stands w.ensures.sound (w.ensures.sessions ∙ c.go-2.ensures.sessions ∙ c.go.ensures.sessions) start.0 start.1 w.ensures.gathered w.ensures.few w.ensures.stop w.ensures.words
    in
    call.stands

pub returns-else-tail-at-clause-keeps : goal.returns-else-tail-at-clause-keeps
returns-else-tail-at-clause-keeps g c =
    let at : c.found-at.result ≡ (core_of c.go.new.self.state).shared.flushed = c.found-at.ensures ∙ ap found_in c.go-2.ensures.answer in
    let start = begun g.L.RowLaw.law c.args.self.now (core_of c.go.new.self.state) (core_of c.go-2.new.self.state) c.found-at.result c.requires.stands c.go.ensures.after c.go-2.ensures.after at in
    let w = c.gather_words-count in
    let call =
    called g.L.RowLaw.law c.blocks_are_a_log_list.ensures c.logs_go_on.ensures.more c.args.self.now w.new.self (core_of c.go-2.new.self.state) c.found-at.result w.result w.new.words
    c.requires.stands w.ensures.sound (w.ensures.sessions ∙ c.go-2.ensures.sessions ∙ c.go.ensures.sessions) start.0 start.1 w.ensures.gathered w.ensures.few w.ensures.stop w.ensures.words
    in
    call.keeps

pub returns-then-count-gt0-clause-gathers : goal.returns-then-count-gt0-clause-gathers
returns-then-count-gt0-clause-gathers g c =
    let at : c.found-at.result ≡ (core_of c.go.new.self.state).shared.flushed = c.found-at.ensures ∙ ap found_in c.go-2.ensures.answer in
    let start = begun g.L.RowLaw.law c.args.self.now (core_of c.go.new.self.state) (core_of c.go-2.new.self.state) c.found-at.result c.requires.stands c.go.ensures.after c.go-2.ensures.after at in
    let w = c.gather_words-count in
    let call =
    called g.L.RowLaw.law c.blocks_are_a_log_list.ensures c.logs_go_on.ensures.more c.args.self.now w.new.self (core_of c.go-2.new.self.state) c.found-at.result w.result w.new.words
    c.requires.stands w.ensures.sound (w.ensures.sessions ∙ c.go-2.ensures.sessions ∙ c.go.ensures.sessions) start.0 start.1 w.ensures.gathered w.ensures.few w.ensures.stop w.ensures.words
    in
    call.some c.if-count-gt0.true

pub returns-then-tail-at-clause-gathers : goal.returns-then-tail-at-clause-gathers
returns-then-tail-at-clause-gathers g c =
    let at : c.found-at.result ≡ (core_of c.go.new.self.state).shared.flushed = c.found-at.ensures ∙ ap found_in c.go-2.ensures.answer in
    let start = begun g.L.RowLaw.law c.args.self.now (core_of c.go.new.self.state) (core_of c.go-2.new.self.state) c.found-at.result c.requires.stands c.go.ensures.after c.go-2.ensures.after at in
    let w = c.gather_words-count in
    let call =
    called g.L.RowLaw.law c.blocks_are_a_log_list.ensures c.logs_go_on.ensures.more c.args.self.now w.new.self (core_of c.go-2.new.self.state) c.found-at.result w.result w.new.words
    c.requires.stands w.ensures.sound (w.ensures.sessions ∙ c.go-2.ensures.sessions ∙ c.go.ensures.sessions) start.0 start.1 w.ensures.gathered w.ensures.few w.ensures.stop w.ensures.words
    in
    let few = c.if-count-gt0.false in
    let tail : (core_of w.new.self.state).shared.tail ≡ c.args.self.now.state.tail = w.ensures.gathered.flushes.shared.tail ∙ start.0.flushes.shared.tail in
    let seen = c.tail-tail.ensures in
    let high = c.if-tail-at.true in
    call.empty (omega (arith, few)) (omega (arith, high, seen, tail))

pub returns-else-tail-at-clause-gathers : goal.returns-else-tail-at-clause-gathers
returns-else-tail-at-clause-gathers g c =
    let at : c.found-at.result ≡ (core_of c.go.new.self.state).shared.flushed = c.found-at.ensures ∙ ap found_in c.go-2.ensures.answer in
    let start = begun g.L.RowLaw.law c.args.self.now (core_of c.go.new.self.state) (core_of c.go-2.new.self.state) c.found-at.result c.requires.stands c.go.ensures.after c.go-2.ensures.after at in
    let w = c.gather_words-count in
    let call =
    called g.L.RowLaw.law c.blocks_are_a_log_list.ensures c.logs_go_on.ensures.more c.args.self.now w.new.self (core_of c.go-2.new.self.state) c.found-at.result w.result w.new.words
    c.requires.stands w.ensures.sound (w.ensures.sessions ∙ c.go-2.ensures.sessions ∙ c.go.ensures.sessions) start.0 start.1 w.ensures.gathered w.ensures.few w.ensures.stop w.ensures.words
    in
    let few = c.if-count-gt0.false in
    let tail : (core_of w.new.self.state).shared.tail ≡ c.args.self.now.state.tail = w.ensures.gathered.flushes.shared.tail ∙ start.0.flushes.shared.tail in
    let seen = c.tail-tail.ensures in
    let low = c.if-tail-at.false in
    call.unfilled (omega (arith, few)) (omega (arith, low, seen, tail))
