use Rattle.std.proofs.Common.{◌≡◌, ◌∙◌, ℕ, List, ap}
use Rattle.std.proofs.lemmas.Result.{on_ok_weaker}
use Rattle.erm_model.specs.Run.{Saving}
use Rattle.erm_model.specs.Staying.{staying, staying_from}
use Rattle.erm_summary.specs.Told.{op_at}
use Rattle.erm_summary.proofs.Writes.{kept_lines_leave}
use Rattle.erm_summary.proofs.maps.write_lines.Goals as goal

pub returns : goal.returns
returns c =
    let script = c.args.script.now in
    let answers = c.args.answers.now in
    let kept : c.as_slice.result.now ≡ staying (op_at script answers) c.args.places.now =
    c.as_slice.ensures
    ∙ ap (λ (s : Saving (List ℕ)). s.now) (c.in_ok-keep_lines.ensures ∙ ap (staying_from (op_at script answers) c.args.places.now) c.new-kept.ensures)
    in
    on_ok_weaker c.write_kept.result (kept_lines_leave script answers c.args.places.now c.as_slice.result.now c.args.map.now c.write_kept.new.map kept) c.write_kept.ensures
