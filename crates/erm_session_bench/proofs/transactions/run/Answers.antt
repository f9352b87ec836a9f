use Rattle.std.proofs.Common.{◌≡◌, refl, sym, ap, ◌∙◌, subst, arith}
use Rattle.erm_ring.specs.Turns.{MayGather}
use Rattle.erm_rule.specs.declared.view.Opening.{Opening}
use Rattle.erm_rule.specs.Rule.{HandsOut, first_view, rest_view}
use Rattle.erm_rule.specs.Views.{left_of, view}
use Rattle.erm_session.proofs.Players.{is_given, stands_idle}
use Rattle.erm_session_bench.proofs.transactions.run.Goals as goal

-- where one session was handed out the flush seat is between two turns
gathers : (o : Opening) → MayGather (rest_view o 1)
unfolding rest_view first_view
gathers o = record { held = refl; between = refl }

pub commit_all-requires-clause-stands : goal.commit_all-requires-clause-stands
commit_all-requires-clause-stands c =
    let o = c.in_ok-opening.opening in
    let out : HandsOut o 0 = c.sessions_are_handed_out.ensures.more o 0 c.in_ok-opening.ensures.none (omega arith) in
    let first : view c.in_ok-table.rest ≡ rest_view o 0 = c.in_ok-table.ensures.view ∙ sym (c.sessions_are_handed_out.ensures.first o) in (
      c.split-pass.ensures.fits.1,
      stands_idle o 1 c.in_ok-session.session (view c.split-pass.result) c.in_ok-session.ensures.seat c.in_ok-session.ensures.idle
          (is_given o 0 out (view c.in_ok-table.rest) first (view c.split-pass.result) c.split-pass.ensures.given),
    )

pub commit_all-requires-clause-may : goal.commit_all-requires-clause-may
commit_all-requires-clause-may c =
    let o = c.in_ok-opening.opening in
    let out : HandsOut o 0 = c.sessions_are_handed_out.ensures.more o 0 c.in_ok-opening.ensures.none (omega arith) in
    let first : view c.in_ok-table.rest ≡ rest_view o 0 = c.in_ok-table.ensures.view ∙ sym (c.sessions_are_handed_out.ensures.first o) in
    let left : view c.split-pass.new.p ≡ rest_view o 1 = c.split-pass.ensures.kept ∙ ap left_of first ∙ out.left in
    subst MayGather (sym left) (gathers o)
