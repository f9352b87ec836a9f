use Rattle.std.proofs.Common.{◌≡◌, ◌∙◌, false, true, length, take, refl, sym, ap, arith, length-take}
use Rattle.std.proofs.lemmas.List.{take_rest}
use Rattle.erm_replica.specs.Stream.{base_size}
use Rattle.erm_replica.proofs.Found.{AreRead, are_read, has_base, no_base, read_head}
use Rattle.erm_replica.proofs.Sizes.{part_announced}
use Rattle.erm_replica.proofs.front.find_base.Goals as goal

pub returns-in-Some-base_of-clause-found : goal.returns-in-Some-base_of-clause-found
returns-in-Some-base_of-clause-found c =
    let size = c.in-Some-base_size.size in
    let bytes = c.args.bytes.now in
    let count : length (take size c.args.words.now) ≡ size = omega (arith, length-take size c.args.words.now, c.requires.words, c.in-Some-base_size.ensures.few) in
    let read : AreRead bytes c.read_words.new.out size = are_read bytes _ _ _ size (omega arith) c.read_words.ensures.words count refl in
    let head = read_head bytes c.read_words.new.out size read (omega (arith, c.in-Some-base_size.ensures.next)) ∙ sym c.in-Some.ensures.some.1 in
    let found = c.in-Some-base_of.ensures.found in
    let has = has_base bytes c.read_words.new.out size c.in-Some.first found.0 read head c.in-Some-base_size.ensures.next found.1 (sym (take_rest c.read_words.new.out 1) ∙ found.2) in
    (found.0, has.stands, found.3, has.size_is, found.4)

pub returns-in-None-clause-unreadable : goal.returns-in-None-clause-unreadable
returns-in-None-clause-unreadable c = λ e.
    let size = c.in-Some-base_size.size in
    let bytes = c.args.bytes.now in
    let count : length (take size c.args.words.now) ≡ size = omega (arith, length-take size c.args.words.now, c.requires.words, c.in-Some-base_size.ensures.few) in
    let read : AreRead bytes c.read_words.new.out size = are_read bytes _ _ _ size (omega arith) c.read_words.ensures.words count refl in
    no_base (part_announced c.slots_are_bounded.ensures.most c.spelling_size.ensures.size c.spelling_size.ensures.most) bytes c.read_words.new.out size read
    (ap base_size (sym c.in-Some.ensures.some.1) ∙ sym c.in-Some-base_size.ensures.size) c.in-Some.ensures.some.0
    (λ checkpoint is words. let none : false ≡ true = c.in-None.ensures.given checkpoint is (take_rest c.read_words.new.out 1 ∙ words) in absurd (cc))
