use Rattle.std.proofs.lemmas.Result.{err_from_is_err_and}
use Rattle.erm_top.proofs.Stopping.{saved_untold}
use Rattle.erm_top.proofs.checkpoint.checkpoint_text.Goals as goal

pub returns-in_err-lines_text-in-Ok : goal.returns-in_err-lines_text-in-Ok
returns-in_err-lines_text-in-Ok c = λ before after faults now ends counts.
    let p = err_from_is_err_and c.from_residual.result c.from_residual.ensures.1 in
    rw (p.1, p.2) (saved_untold c.args.ended c.in-Ok.lines c.in-Ok.is before after faults now ends counts)
