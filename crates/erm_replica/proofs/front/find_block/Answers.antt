use Rattle.std.proofs.Common.{◌≡◌, ◌∙◌, Option, None, Some, length, take, refl, sym, ap, arith, length-take}
use Rattle.erm_block.specs.declared.block.Block.{Block}
use Rattle.erm_replica.specs.Stream.{block_size}
use Rattle.erm_replica.proofs.Found.{AreRead, are_read, has_block, no_block}
use Rattle.erm_replica.proofs.Sizes.{part_announced}
use Rattle.erm_replica.proofs.front.find_block.Goals as goal

pub returns-in-Some-read_block-clause-found : goal.returns-in-Some-read_block-clause-found
returns-in-Some-read_block-clause-found c =
    let size = c.in-Some-block_size.size in
    let bytes = c.args.bytes.now in
    let count : length (take size c.args.words.now) ≡ size = omega (arith, length-take size c.args.words.now, c.requires.words, c.in-Some-block_size.ensures.few) in
    let read : AreRead bytes c.read_words.new.out size = are_read bytes _ _ _ size (omega arith) c.read_words.ensures.words count refl in
    has_block bytes c.read_words.new.out size c.args.log c.in-Some-read_block.block read c.in-Some-read_block.ensures.found

pub returns-in-None-clause-unreadable : goal.returns-in-None-clause-unreadable
returns-in-None-clause-unreadable c = λ e.
    let size = c.in-Some-block_size.size in
    let bytes = c.args.bytes.now in
    let count : length (take size c.args.words.now) ≡ size = omega (arith, length-take size c.args.words.now, c.requires.words, c.in-Some-block_size.ensures.few) in
    let read : AreRead bytes c.read_words.new.out size = are_read bytes _ _ _ size (omega arith) c.read_words.ensures.words count refl in
    no_block (part_announced c.slots_are_bounded.ensures.most c.spelling_size.ensures.size c.spelling_size.ensures.most) bytes c.read_words.new.out size c.args.log read
    (ap block_size (sym c.in-Some.ensures.some.1) ∙ sym c.in-Some-block_size.ensures.size) c.in-Some.ensures.some.0
    (λ b stands. let none : ◌≡◌ {A = Option Block} None (Some b) = c.in-None.ensures.given b stands in absurd (cc))
