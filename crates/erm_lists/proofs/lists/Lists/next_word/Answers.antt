use Rattle.std.proofs.Common.{◌≡◌, ◌<◌, ℕ, true, false, ap, inl, inr, sym, ◌∙◌, arith}
use Rattle.erm_core.specs.Cores.{core_of}
use Rattle.erm_machine.specs.Core.{Core}
use Rattle.erm_machine.specs.Log.{ring_at}
use Rattle.erm_machine.specs.declared.limits.TheConstants.{FLUSH_SEAT}
use Rattle.erm_core_turns.specs.Turns.{in_block}
use Rattle.erm_core_turns.proofs.Gathers.{load_taken, stops_here, word_on, word_stops}
use Rattle.erm_core_steps.specs.Steps.{found_in}
use Rattle.erm_lists.proofs.lists.Lists.next_word.Goals as goal

-- in a block there's no more to ask
within_block : (c : Core) (at : ℕ) → in_block (c.seats FLUSH_SEAT).flushing ≡ true → in_block (c.seats FLUSH_SEAT).flushing ≡ false → at < c.shared.tail
within_block c at is isnt = let both : true ≡ false = sym is ∙ isnt in absurd (cc)

pub go-requires-clause-taken : goal.go-requires-clause-taken
go-requires-clause-taken g c =
    let start = core_of c.args.self.now.state in
    let inner = sym c.in_block-inside.ensures ∙ c.if-inside.true in
    load_taken c.args.from c.args.at start c.requires.sound.sound c.requires.gathers (within_block start c.args.at inner) c.requires.inside

pub returns-then-inside-clause-some : goal.returns-then-inside-clause-some
returns-then-inside-clause-some g c =
    let start = core_of c.args.self.now.state in
    let inner = sym c.in_block-inside.ensures ∙ c.if-inside.true in
    word_on c.args.from c.args.at start c.requires.sound.sound c.requires.gathers (core_of c.go.new.self.state) (within_block start c.args.at inner) c.requires.inside
    c.go.ensures.after (inl inner)

pub returns-then-end-at-clause-stop : goal.returns-then-end-at-clause-stop
returns-then-end-at-clause-stop g c =
    let outer = sym c.in_block-inside.ensures ∙ c.if-inside.false in
    let high = c.if-end-at.true in
    let tail = c.tail-end.ensures in
    λ _. stops_here c.args.from c.args.at (core_of c.args.self.now.state) c.requires.sound.sound c.requires.gathers outer (omega (arith, high, tail))

pub go-requires-2-clause-taken : goal.go-requires-2-clause-taken
go-requires-2-clause-taken g c =
    let low = c.if-end-at.false in
    let tail = c.tail-end.ensures in
    load_taken c.args.from c.args.at (core_of c.args.self.now.state) c.requires.sound.sound c.requires.gathers (λ _. omega (arith, low, tail)) c.requires.inside

pub returns-then-word-eq0-clause-none : goal.returns-then-word-eq0-clause-none
returns-then-word-eq0-clause-none g c =
    let start = core_of c.args.self.now.state in
    let outer = sym c.in_block-inside.ensures ∙ c.if-inside.false in
    let low = c.if-end-at.false in
    let tail = c.tail-end.ensures in
    let word : c.found-word.result ≡ ring_at start.shared c.args.at = c.found-word.ensures ∙ ap found_in c.go-2.ensures.answer in
    let is = c.if-word-eq0.true in
    λ _. (word_stops c.args.from c.args.at start c.requires.sound.sound c.requires.gathers (core_of c.go-2.new.self.state) (λ _. omega (arith, low, tail)) c.requires.inside
    c.go-2.ensures.after outer (omega (arith, word, is))).0

pub returns-then-word-eq0-clause-stop : goal.returns-then-word-eq0-clause-stop
returns-then-word-eq0-clause-stop g c =
    let start = core_of c.args.self.now.state in
    let outer = sym c.in_block-inside.ensures ∙ c.if-inside.false in
    let low = c.if-end-at.false in
    let tail = c.tail-end.ensures in
    let word : c.found-word.result ≡ ring_at start.shared c.args.at = c.found-word.ensures ∙ ap found_in c.go-2.ensures.answer in
    let is = c.if-word-eq0.true in
    λ _. (word_stops c.args.from c.args.at start c.requires.sound.sound c.requires.gathers (core_of c.go-2.new.self.state) (λ _. omega (arith, low, tail)) c.requires.inside
    c.go-2.ensures.after outer (omega (arith, word, is))).1

pub returns-else-word-eq0-clause-some : goal.returns-else-word-eq0-clause-some
returns-else-word-eq0-clause-some g c =
    let start = core_of c.args.self.now.state in
    let low = c.if-end-at.false in
    let tail = c.tail-end.ensures in
    let word : c.found-word.result ≡ ring_at start.shared c.args.at = c.found-word.ensures ∙ ap found_in c.go-2.ensures.answer in
    let isnt = c.if-word-eq0.false in
    word_on c.args.from c.args.at start c.requires.sound.sound c.requires.gathers (core_of c.go-2.new.self.state) (λ _. omega (arith, low, tail)) c.requires.inside
    c.go-2.ensures.after (inr (λ zero_is. absurd (omega (arith, word, isnt, zero_is))))
