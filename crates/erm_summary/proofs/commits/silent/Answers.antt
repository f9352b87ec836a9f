use Rattle.std.proofs.Common.{◌+◌, ◌∷◌, None, [], length, refl, sym, ap, ◌∙◌, subst, arith, length-append}
use Rattle.erm_summary.specs.declared.hearing.Session.{Session}
use Rattle.erm_summary.specs.Told.{FollowEach, HaveRoom, history_told}
use Rattle.erm_summary.proofs.Seats.{one_more_seat, room_for_one}
use Rattle.erm_summary.proofs.commits.silent.Goals as goal

pub loop-place-preserved : goal.loop-place-preserved
loop-place-preserved c =
    let before = c.loop-place.invariant in
    let items = c.in_ok-push.ensures.items in
    let s : Session = record { seat = c.loop-place.place + 1; over = 0; commits = c.new.result; current = None; ended = c.new-in-loop-place.result; watched = None } in
    record {
      follows = λ script answers.
          subst (FollowEach script answers [] 1) (sym items)
          (one_more_seat script answers 1 c.loop-place.heard.items s (omega (arith, before.count))
          (record { over = refl; commits = sym (ap (history_told script answers) c.new.ensures.items); current = tt; ended = sym (ap (history_told script answers) c.new-in-loop-place.ensures.items); watched = tt }) (before.follows script answers));
      room = λ more less. subst (HaveRoom more) (sym items) (room_for_one more c.loop-place.heard.items s (omega (arith, less)) (before.room more less));
      count = ap length items ∙ length-append c.loop-place.heard.items (s ∷ []) ∙ ap (λ n. n + 1) before.count;
    }
