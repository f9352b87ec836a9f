use Rattle.std.proofs.Common.{◌≡◌, refl}
use Rattle.std.proofs.lemmas.Result.{MatchResult-weaker, err_from_is_err_and, on_ok_weaker}
use Rattle.erm_ship.proofs.Ending.{cut_at_base, elsewhere, ships, stops_before, stops_behind, stops_missing}
use Rattle.erm_ship.proofs.shipping.put_found.Goals as goal

pub returns-in_err-laid-clause-stops : goal.returns-in_err-laid-clause-stops
returns-in_err-laid-clause-stops g c =
    let p = err_from_is_err_and c.from_residual.result c.from_residual.ensures.1 in
    rw (p.1, p.2) (stops_missing (g.D.Disk.told c.args.disk.now) c.args.found.now _ _ _ _ _ _ _ c.in_err-laid.ensures.misses c.requires.recovered refl refl)

pub returns-then-laid-found-clause-stops : goal.returns-then-laid-found-clause-stops
returns-then-laid-found-clause-stops g c =
    stops_before (g.D.Disk.told c.args.disk.now) _ _ _ _ _ _ (elsewhere (g.D.Disk.told c.args.disk.now) c.args.found.now c.in_ok-laid.laid c.lay_base.new.words _ _ c.in_ok-laid.ensures.laid c.requires.recovered c.if-laid-found.true) refl refl

pub returns-in-Ok-clause-all : goal.returns-in-Ok-clause-all
returns-in-Ok-clause-all g c =
    on_ok_weaker c.put_log.result
    (ships c.spelling_size.ensures.size c.spelling_size.ensures.most c.one_spelling.ensures (g.D.Disk.told c.args.disk.now) _ c.args.found.now c.in_ok-laid.laid c.lay_base.new.words _ _ _
    c.in_ok-laid.ensures.told c.in_ok-laid.ensures.laid c.put_words.ensures.typed c.requires.recovered c.in-Ok.ensures.all) c.put_log.ensures.all

pub returns-in-Ok-clause-stops : goal.returns-in-Ok-clause-stops
returns-in-Ok-clause-stops g c =
    MatchResult-weaker c.put_log.result c.put_log.ensures.stops (λ x t. t) (λ why stops.
    stops_behind c.spelling_size.ensures.size c.spelling_size.ensures.most c.one_spelling.ensures (g.D.Disk.told c.args.disk.now) _ c.args.found.now c.in_ok-laid.laid c.lay_base.new.words why _ _ _ _ _ _ _ _ _
    c.in_ok-laid.ensures.told c.in_ok-laid.ensures.sound c.in-Ok.ensures.sound c.in_ok-laid.ensures.laid c.put_words.ensures.typed c.requires.recovered c.in-Ok.ensures.all stops)

pub returns-in-Err-clause-stops : goal.returns-in-Err-clause-stops
returns-in-Err-clause-stops g c =
    cut_at_base c.spelling_size.ensures.size c.spelling_size.ensures.most c.one_spelling.ensures (g.D.Disk.told c.args.disk.now) c.args.found.now c.in_ok-laid.laid c.lay_base.new.words 0 0 _ _ _ _
    c.requires.above c.if-laid-found.false c.in_ok-laid.ensures.laid c.put_words.ensures.typed c.requires.recovered c.in-Err.ensures.front c.in-Err.ensures.failed
