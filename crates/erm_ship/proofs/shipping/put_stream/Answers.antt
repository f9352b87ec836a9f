use Rattle.std.proofs.Common.{ℕ, List, Option, ◌≡◌, ◌∙◌, refl, sym, ap, subst}
use Rattle.std.specs.Prelude.{Err}
use Rattle.std.proofs.lemmas.Result.{MatchResult-weaker, err_from_is_err_and, on_ok_weaker}
use Rattle.erm_node.specs.Sound.{sound_law}
use Rattle.erm_outside.specs.Disk.{Step}
use Rattle.erm_recover.specs.Recovering.{RecoveredTold}
use Rattle.erm_ship.specs.Ends.{Shipped}
use Rattle.erm_ship.proofs.Ending.{stopped_since, stops_recovery}
use Rattle.erm_ship.proofs.shipping.put_stream.Goals as goal

pub returns-in_err-found-clause-stops : goal.returns-in_err-found-clause-stops
returns-in_err-found-clause-stops g c =
    let p = err_from_is_err_and c.from_residual.result c.from_residual.ensures.1 in
    rw (p.1, p.2) (stops_recovery c.in_err-found.field-0.0 (g.D.Disk.told c.args.disk.now) _ _ _ _ (λ e. c.in_err-found.ensures.no_base (ap Err e)) (λ e. c.in_err-found.ensures.fault (ap Err e)))

pub put_found-requires-clause-recovered : goal.put_found-requires-clause-recovered
put_found-requires-clause-recovered g c =
    subst (λ (t : Option (List Step)). RecoveredTold sound_law.meets t c.in_ok-found.found) (sym c.in_ok-found.ensures.told) c.in_ok-found.ensures.recovered

pub returns-clause-all : goal.returns-clause-all
returns-clause-all g c =
    on_ok_weaker c.put_found.result (λ ships. subst (λ (t : Option (List Step)). Shipped t (g.K.Sink.written c.args.sink.now) (g.K.Sink.written c.put_found.new.sink)) c.in_ok-found.ensures.told ships) c.put_found.ensures.all

pub returns-clause-stops : goal.returns-clause-stops
returns-clause-stops g c =
    MatchResult-weaker c.put_found.result c.put_found.ensures.stops (λ x t. t) (λ why stopped.
    stopped_since why _ _ _ _ _ _ _ _ _ c.in_ok-found.ensures.told (c.in_ok-found.ensures.sound (λ bad. cc)) stopped)

pub returns-clause-sound : goal.returns-clause-sound
returns-clause-sound g c = λ other. c.put_found.ensures.sound other ∙ c.in_ok-found.ensures.sound (λ bad. cc)
