use Rattle.std.proofs.Common.{sym, arith}
use Rattle.std.proofs.lemmas.List.{length-take-le}
use Rattle.erm_ship.proofs.base.read_front.Goals as goal

pub slice_bounds-words-end-2 : goal.slice_bounds-words-end-2
slice_bounds-words-end-2 g c = sym (length-take-le 278534 c.args.words.now (omega (arith, c.requires.words)))

pub slice_bounds-bytes-end-2 : goal.slice_bounds-bytes-end-2
slice_bounds-bytes-end-2 g c = sym (length-take-le 2228272 c.args.bytes.now (omega (arith, c.requires.bytes)))

pub read_file-requires-clause-words : goal.read_file-requires-clause-words
read_file-requires-clause-words g c = length-take-le 278534 c.args.words.now (omega (arith, c.requires.words))

pub read_file-requires-clause-bytes : goal.read_file-requires-clause-bytes
read_file-requires-clause-bytes g c = length-take-le 2228272 c.args.bytes.now (omega (arith, c.requires.bytes))
