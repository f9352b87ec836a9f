use Rattle.std.proofs.Common.{◌++◌, ◌∷◌, [], ◌∙◌, ap, sym, refl, length, get_or, Vec}
use Rattle.std.specs.declared.alloc.Global.{Global}
use Rattle.std.proofs.lemmas.Bool.{ltb-true, ltb-false}
use Rattle.std.proofs.lemmas.Option.{slice_get_read, slice_get_past}
use Rattle.erm_report.specs.declared.line.Line.{Line}
use Rattle.erm_report.specs.declared.line.Line.TheVariants as line
use Rattle.erm_summary.proofs.Reports.{commit_more, no_commit_more}
use Rattle.erm_summary.proofs.report.push_order.Goals as goal
use Rattle.erm_summary.proofs.report.push_order.Goals.{in-Some+in_ok-push-2, in_default}

pub loop-place-preserved : goal.loop-place-preserved
loop-place-preserved c =
    let names = c.args.names.now in
    let commits = c.args.commits.now in
    let order = c.args.order.now in
    let i = c.loop-place.place-index in
    let p = get_or order i 0 in
    let first = c.args.lines.now.items in
    let head = line.Order (length commits) in
    elim c.match-get.branch [
      | in-Some+in_ok-push-2 w ↦
          let commit = w.in-Some.commit.now in
          let at = slice_get_read commits (length commits) p commit refl (ltb-true p (length commits) (sym w.in-Some.ensures.lookup.0)) w.in-Some.ensures.lookup.1 in
          commit_more names commits order i commit first c.loop-place.lines.items c.match-get.lines.items head c.loop-place-test.true at c.loop-place.invariant
          (ap (λ (v : Vec Line Global). v.items) w.lines-is ∙ w.in_ok-push-2.ensures.items
          ∙ ap (λ (one : Line). c.loop-place.lines.items ++ one ∷ []) w.line_of.ensures)
      | in_default w ↦
          let past = slice_get_past commits p (ltb-false p (length commits) (sym w.in_default.ensures.lookup.0)) in
          ap (λ (v : Vec Line Global). v.items) w.lines-is
          ∙ no_commit_more names commits order i first c.loop-place.lines.items head c.loop-place-test.true past c.loop-place.invariant
    ]
