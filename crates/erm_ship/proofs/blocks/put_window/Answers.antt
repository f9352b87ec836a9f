use Rattle.std.proofs.Common.{◌≡◌, ◌-◌, length, take, refl, arith, inl, inr}
use Rattle.std.proofs.lemmas.Result.{err_from_is_err_and}
use Rattle.erm_ship.proofs.Sending.{window_cut, window_ends, window_fails, window_sends}
use Rattle.erm_ship.proofs.blocks.put_window.Goals as goal

pub returns-in_err-count-clause-stops : goal.returns-in_err-count-clause-stops
returns-in_err-count-clause-stops g c =
    let p = err_from_is_err_and c.from_residual.result c.from_residual.ensures.1 in
    rw (p.1, p.2)
    (window_fails c.spelling_size.ensures.size c.spelling_size.ensures.most _ c.args.place c.args.end _ _ _ _ _ _ (omega (arith, c.requires.place)) refl refl (inl c.in_err-count.ensures.failed))

pub returns-then-next-place-clause-stops : goal.returns-then-next-place-clause-stops
returns-then-next-place-clause-stops g c =
    window_fails c.spelling_size.ensures.size c.spelling_size.ensures.most _ c.args.place c.args.end _ _ _ _ _ _ (omega (arith, c.requires.place)) refl refl
    (inr (window_ends c.spelling_size.ensures.size c.spelling_size.ensures.most _ (length c.args.words.now) (take c.in_ok-count.count c.read_log.new.words) c.args.place c.last_place-next.result c.args.end
    c.in_ok-count.ensures.words (omega (arith, c.requires.words)) c.requires.place c.last_place-next.ensures c.if-next-place.true))

pub returns-in-Ok-clause-one : goal.returns-in-Ok-clause-one
returns-in-Ok-clause-one g c =
    window_sends c.spelling_size.ensures.size c.spelling_size.ensures.most _ (length c.args.words.now) (take c.in_ok-count.count c.read_log.new.words) c.args.place c.last_place-next.result c.args.end _ _
    c.in_ok-count.ensures.words c.put_words.ensures.typed c.last_place-next.ensures c.if-next-place.false c.in-Ok.ensures.all

pub returns-in-Err-clause-stops : goal.returns-in-Err-clause-stops
returns-in-Err-clause-stops g c =
    window_cut c.spelling_size.ensures.size c.spelling_size.ensures.most _ (length c.args.words.now) (take c.in_ok-count.count c.read_log.new.words) c.args.place c.last_place-next.result c.args.end _ _ _ _ _ _
    c.in_ok-count.ensures.words c.put_words.ensures.typed c.last_place-next.ensures c.in-Err.ensures.front c.in-Err.ensures.failed
