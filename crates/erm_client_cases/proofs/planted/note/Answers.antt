use Rattle.erm_client_cases.proofs.Noted.{noted_told, same_told}
use Rattle.erm_client_cases.proofs.planted.note.Goals as goal

pub returns-then-is_err-clause-told : goal.returns-then-is_err-clause-told
returns-then-is_err-clause-told c = same_told c.args.transcript.now c.make_room.new.self c.requires.told c.make_room.ensures.same

pub returns-clause-told : goal.returns-clause-told
returns-clause-told c =
    noted_told c.args.transcript.now c.make_room.new.self c.add.new.self c.requires.told c.make_room.ensures.same c.make_room.ensures.kept c.args.asked c.args.answer c.requires.planted c.requires.tells
    c.next_line-line.result c.next_line-line.ensures.seat c.next_line-line.ensures.asked c.add.ensures.more c.requires.may c.requires.of c.requires.range
