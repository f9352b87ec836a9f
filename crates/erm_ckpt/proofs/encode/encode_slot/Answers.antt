use Rattle.std.proofs.Common.{length-append, ◌+◌, ◌≤◌, length, ℕ, List, [], ◌∷◌, ◌++◌, ap, ◌∙◌, arith}
use Rattle.std.specs.List.{flat_map}
use Rattle.erm_block.specs.declared.block.Form.TheVariants.{Stored}
use Rattle.erm_block.specs.Spelling.{entry_words}
use Rattle.erm_bytes.specs.Digest.{digest_of}
use Rattle.erm_ckpt.specs.Checkpoint.{saved}
use Rattle.erm_ckpt.proofs.Encoded.{one_more_word, slot_laid}
use Rattle.erm_ckpt.proofs.SavedRows.{saved_is, saved_rows}
use Rattle.erm_ckpt.proofs.encode.encode_slot.Goals as goal

pub returns-clause-spelled : goal.returns-clause-spelled
returns-clause-spelled c =
    let slot = c.args.slot.now in
    let rows : List ℕ = flat_map (entry_words Stored) (saved c.args.rows.now) in
    let all : length (2 ∷ slot.stamp ∷ slot.run ∷ slot.first ∷ length (saved c.args.rows.now) ∷ rows) + 1 ≤ length c.args.out.now =
    omega (arith, c.requires.room, length-append (2 ∷ slot.stamp ∷ slot.run ∷ slot.first ∷ length (saved c.args.rows.now) ∷ rows) (digest_of (2 ∷ slot.stamp ∷ slot.run ∷ slot.first ∷ length (saved c.args.rows.now) ∷ rows) ∷ [])) in
    slot_laid c.args.out.now c.write_rows-count.new.out rows _ slot.stamp slot.run slot.first c.write_rows-count.result.0 c.write_rows-count.result.1 c.digest_word.result
    (omega (arith, all)) c.write_rows-count.ensures.written (one_more_word c.args.out.now c.write_rows-count.new.out slot.stamp slot.run slot.first c.write_rows-count.result.1 c.write_rows-count.auto.out (omega (arith, all, c.write_rows-count.ensures.size))) c.digest_word.ensures
    ∙ ap (λ (n : ℕ). (2 ∷ slot.stamp ∷ slot.run ∷ slot.first ∷ n ∷ rows) ++ digest_of (2 ∷ slot.stamp ∷ slot.run ∷ slot.first ∷ n ∷ rows) ∷ []) c.write_rows-count.ensures.count

pub returns-clause-is : goal.returns-clause-is
returns-clause-is c = λ is. saved_is c.args.slot.now c.args.rows.now is c.requires.count c.told-rows c.write_rows-count.ensures.typed

pub returns-clause-rows : goal.returns-clause-rows
returns-clause-rows c = saved_rows c.args.slot.now c.args.rows.now c.requires.count c.told-rows
