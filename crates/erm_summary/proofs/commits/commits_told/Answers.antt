use Rattle.std.proofs.Common.{◌≡◌, ◌+◌, length, map, ap, ◌∙◌}
use Rattle.std.proofs.lemmas.Result.{IfOk-weaker}
use Rattle.erm_good_report.specs.GoodReport.{places_of, serial_of}
use Rattle.erm_good_report.specs.Transactions.{said_of}
use Rattle.erm_summary.specs.Told.{closed_of, history_told}
use Rattle.erm_summary.proofs.Seats.{all_placed}
use Rattle.erm_summary.proofs.commits.commits_told.Goals as goal

pub hear_closes-requires : goal.hear_closes-requires
hear_closes-requires c =
    record {
      room = c.in_ok-hear_lines.ensures.room (length c.args.closed.now) (c.in_ok-heard.ensures.room (length c.args.script.now + length c.args.closed.now) c.requires.short);
    }

pub returns : goal.returns
returns c =
    let script = c.args.script.now in
    let answers = c.args.answers.now in
    let sessions = c.hear_closes.new.heard.items in
    let places = places_of script answers (map closed_of c.args.closed.now) in
    let follow = c.in_ok-hear_closes.ensures.follows script answers (said_of script answers) (c.in_ok-hear_lines.ensures.follows (c.in_ok-heard.ensures.follows script answers)) in
    let count : length sessions ≡ c.args.sessions = c.in_ok-hear_closes.ensures.count ∙ c.in_ok-hear_lines.ensures.count ∙ c.in_ok-heard.ensures.count in
    IfOk-weaker c.gather.result _ _ (λ commits is.
    ap (history_told script answers) is ∙ all_placed script answers places sessions follow ∙ ap (λ n. serial_of n places) count) c.gather.ensures
