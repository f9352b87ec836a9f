use Rattle.std.proofs.Common.{◌<◌, ◌^◌, length, ap, ◌∙◌, arith}
use Rattle.std.proofs.lemmas.List.Elements.{All-from_get_or}
use Rattle.erm_bytes.specs.Bytes.{bytes_of, words_of}
use Rattle.erm_bytes.proofs.Words.{words_of_lem, bytes_of-words_of}
use Rattle.erm_bytes.proofs.bytes.read_words.Goals as goal

pub returns-clause-words : goal.returns-clause-words
returns-clause-words c =
    words_of_lem c.read_u64_into.new.dst c.args.bytes.now c.read_u64_into.ensures ∙ ap (λ n. words_of n c.args.bytes.now) c.read_u64_into.auto.dst

pub returns-clause-bytes : goal.returns-clause-bytes
returns-clause-bytes c =
    let bytes = c.args.bytes.now in
    let are = All-from_get_or (λ b. b < 2 ^ 8) bytes 0 (λ i _. omega (arith, c.type_inv.bytes i)) in
    ap bytes_of (returns-clause-words c) ∙ bytes_of-words_of (length c.args.out.now) bytes are c.requires
