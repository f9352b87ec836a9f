use Rattle.std.proofs.Common.{◌∙◌, ap, sym, refl, length, get_or}
use Rattle.std.proofs.lemmas.Bool.{ltb-true, ltb-false}
use Rattle.std.proofs.lemmas.Option.{slice_get_read, slice_get_past}
use Rattle.erm_model.specs.Run.{after_all, ops_of}
use Rattle.erm_summary.specs.Told.{steps_at}
use Rattle.erm_summary.proofs.Writes.{one_more_commit, no_commit}
use Rattle.erm_summary.proofs.maps.map_after.Goals as goal
use Rattle.erm_summary.proofs.maps.map_after.Goals.{in-Some+in_ok-write_lines, in_default}

pub loop-place-preserved : goal.loop-place-preserved
loop-place-preserved c =
    let script = c.args.script.now in
    let answers = c.args.answers.now in
    let commits = c.args.commits.now in
    let order = c.args.order.now in
    let i = c.loop-place.place-index in
    let p = get_or order i 0 in
    elim c.match-get.branch [
      | in-Some+in_ok-write_lines w ↦
          let commit = w.in-Some.commit.now in
          let at = slice_get_read commits (length commits) p commit refl (ltb-true p (length commits) (sym w.in-Some.ensures.lookup.0)) w.in-Some.ensures.lookup.1 in
          one_more_commit script answers commits order i c.args.opening c.loop-place.map c.match-get.map commit c.loop-place-test.true at c.loop-place.invariant
          (w.map-is ∙ w.in_ok-write_lines.ensures ∙ ap (λ places. after_all (ops_of (steps_at script answers places)) c.loop-place.map) w.deref.ensures.value)
      | in_default w ↦
          let past = slice_get_past commits p (ltb-false p (length commits) (sym w.in_default.ensures.lookup.0)) in
          w.map-is ∙ no_commit script answers commits order i c.args.opening c.loop-place.map c.loop-place-test.true past c.loop-place.invariant
    ]
