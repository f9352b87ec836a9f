use Rattle.std.proofs.Common.{◌≡◌, take}
use Rattle.erm_make.specs.Texts.{lines_but_flushes, script_text}
use Rattle.erm_make.proofs.text.text_but_flushes.Given as goal

abbrev pub invariant-loop-line : goal.invariant-loop-line
invariant-loop-line l = l.text.items ≡ script_text l.script.names.items (lines_but_flushes (take l.line-index l.script.lines.items))
