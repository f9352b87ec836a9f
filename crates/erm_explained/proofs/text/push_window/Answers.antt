use Rattle.std.proofs.Common.{codes}
use Rattle.erm_explained.specs.Texts.{end_text, link_text, start_text}
use Rattle.erm_explained.proofs.Joined.{joined}
use Rattle.erm_explained.proofs.text.push_window.Goals as goal

pub returns : goal.returns
returns c =
    joined c.push_end.result c.args.out.now.items (start_text c.args.line.now)
    (link_text c.args.names.now c.args.script.now c.args.after.now (codes " overwrites what is touched by")) (end_text c.args.names.now c.args.script.now c.args.before.now)
    c.push_start.new.out.items c.push_link.new.out.items c.push_end.new.out.items c.in_ok-push_start.ensures c.in_ok-push_link.ensures c.push_end.ensures
