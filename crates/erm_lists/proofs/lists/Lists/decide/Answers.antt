use Rattle.std.proofs.Common.{ap, arith}
use Rattle.erm_machine.specs.declared.part.Part.{Part}
use Rattle.erm_core.specs.Cores.{core_of}
use Rattle.erm_kept.specs.Attempts.{attempt_of}
use Rattle.erm_core_steps.proofs.Deciding.{is_spelled, may_encode, sizes}
use Rattle.erm_lists.proofs.lists.Lists.decide.Goals as goal

pub block_of-block-requires-clause-least : goal.block_of-block-requires-clause-least
block_of-block-requires-clause-least g c =
    let least = (sizes (core_of c.args.self.now.state) c.args.seat c.requires.sound.sound c.requires.session c.requires.decides).0 in
    let same = ap (λ (y : Part). y.current.size) c.seat-x.ensures in
    omega (arith, least, same)

pub block_of-block-requires-clause-most : goal.block_of-block-requires-clause-most
block_of-block-requires-clause-most g c =
    let most = (sizes (core_of c.args.self.now.state) c.args.seat c.requires.sound.sound c.requires.session c.requires.decides).1 in
    let same = ap (λ (y : Part). y.current.size) c.seat-x.ensures in
    omega (arith, most, same)

pub encode_into-size-requires-clause-block : goal.encode_into-size-requires-clause-block
encode_into-size-requires-clause-block g c =
    may_encode (core_of c.args.self.now.state) c.args.seat c.requires.sound.sound c.requires.session c.requires.decides c.run_number-run.result
    (attempt_of c.seat-x.result.now.current) c.block_of-block.result c.run_number-run.ensures (ap (λ (y : Part). y.current) c.seat-x.ensures)
    c.block_of-block.ensures.of c.block_of-block.ensures.number

pub store_words-requires-clause-spelled : goal.store_words-requires-clause-spelled
store_words-requires-clause-spelled g c =
    is_spelled (core_of c.args.self.now.state) c.args.seat c.requires.sound.sound c.requires.session c.requires.decides c.run_number-run.result
    (attempt_of c.seat-x.result.now.current) c.block_of-block.result c.run_number-run.ensures (ap (λ (y : Part). y.current) c.seat-x.ensures)
    c.block_of-block.ensures.of c.block_of-block.ensures.number c.encode_into-size.new.out c.encode_into-size.result c.encode_into-size.ensures.size
    c.encode_into-size.ensures.spelled c.spelling_size.ensures.size
