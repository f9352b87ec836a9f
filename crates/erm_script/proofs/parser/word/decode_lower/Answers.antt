use Rattle.std.proofs.Common.{length}
use Rattle.erm_script.proofs.Words.{unread_is_other, respelled_is_other}
use Rattle.erm_script.proofs.parser.word.decode_lower.Goals as goal

pub returns-then-is_ok-clause-other : goal.returns-then-is_ok-clause-other
returns-then-is_ok-clause-other c =
    respelled_is_other c.args.word.now c.decode_to_slice.new.out (length c.args.bytes.now) c.decode_to_slice.result c.is_lower_hex.result
    c.decode_to_slice.ensures.value c.is_lower_hex.ensures

pub returns-else-is_ok-clause-other : goal.returns-else-is_ok-clause-other
returns-else-is_ok-clause-other c =
    unread_is_other c.args.word.now c.decode_to_slice.new.out (length c.args.bytes.now) c.decode_to_slice.result c.is_ok.result
    c.decode_to_slice.ensures.value c.is_ok.ensures.value
