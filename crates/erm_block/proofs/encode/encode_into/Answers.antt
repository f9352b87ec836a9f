use Rattle.erm_block.proofs.Encoded.{encoded}
use Rattle.erm_block.proofs.encode.encode_into.Goals as goal

pub returns-clause-spelled : goal.returns-clause-spelled
returns-clause-spelled c =
    let block = c.args.block.now in
    (encoded c.stored_words_tell_the_row.ensures.short block block.stamp c.requires.block.0 c.args.out.now c.write_payload.new.out c.header_of.result c.name_of.result c.digest_word.result c.from-size.result c.requires.block.1 c.requires.room c.from-size.ensures c.header_of.ensures c.name_of.ensures c.write_payload.ensures c.digest_word.ensures).spelled

pub returns-clause-kept : goal.returns-clause-kept
returns-clause-kept c =
    let block = c.args.block.now in
    (encoded c.stored_words_tell_the_row.ensures.short block block.stamp c.requires.block.0 c.args.out.now c.write_payload.new.out c.header_of.result c.name_of.result c.digest_word.result c.from-size.result c.requires.block.1 c.requires.room c.from-size.ensures c.header_of.ensures c.name_of.ensures c.write_payload.ensures c.digest_word.ensures).kept
