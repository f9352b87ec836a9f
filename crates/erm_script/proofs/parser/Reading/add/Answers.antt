use Rattle.erm_script.proofs.Scripts.{AreScript-push}
use Rattle.erm_script.proofs.parser.Reading.add.Goals as goal

pub returns-clause-added : goal.returns-clause-added
returns-clause-added c = λ kept is.
    AreScript-push c.args.grammar kept c.args.number c.args.line.now c.in-Ok.asked c.args.self.now.sessions c.add_asked.new.self.sessions c.args.self.now.lines.items
    c.add_asked.new.self.lines.items is c.in-Ok.ensures.asked c.in_ok-add_asked-in-Ok.ensures
