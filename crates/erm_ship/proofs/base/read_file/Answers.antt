use Rattle.std.proofs.Common.{◌/◌, ◌*◌, ◌≡◌, length, take, ap, ◌∙◌, refl, arith}
use Rattle.std.proofs.lemmas.Grind.{common_steps}
use Rattle.std.proofs.lemmas.List.{length-take}
use Rattle.erm_node.specs.Sound.{sound_law}
use Rattle.erm_recover.proofs.SlotFiles.{slot_told}
use Rattle.erm_ship.proofs.base.read_file.Goals as goal

pub returns-clause-read : goal.returns-clause-read
returns-clause-read g c =
    let size : length (take (c.in_ok-count.field-0 / 8) c.args.words.now) ≡ c.in_ok-count.field-0 / 8 = omega (arith, c.in_ok-count.ensures.within, c.requires.words, c.requires.bytes, length-take (c.in_ok-count.field-0 / 8) c.args.words.now) in
    slot_told c.files_have_the_slots_of_their_words.ensures sound_law.meets c.respects_rows.ensures.meets _ _ c.in_ok-count.field-0 _ c.read.new.buf c.read_words.new.out _ _ c.requires.bytes
    c.in_ok-count.ensures.bytes (c.read_words.auto.out ∙ size) c.read_words.ensures.bytes (λ k d lt. let f = c.type_inv.words k in grind (arith, common_steps, f)) c.read_slot-found.ensures.found c.read_slot-found.ensures.sound c.read_slot-found.ensures.given
