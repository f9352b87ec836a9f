-- Where a session that has ended knows that all may end, whatever savepoints it has.
use Rattle.erm_model.specs.RowTransaction.{Law}
use Rattle.erm_rule.specs.Books.{book}
use Rattle.erm_own_view.proofs.Own.{ends_without}
use Rattle.erm_shared_session.specs.declared.session.TableSession.{TableSession}
use Rattle.erm_shared_session.specs.Stands.{Ends, bare_of, own_of, own_saves, seat_of}
use Rattle.erm_world.specs.World.{View}
use Rattle.erm_engine.specs.Ended.{HasEnded}

pub ends_so : {L : Type 0} (law : Law) (s : TableSession L) (f : View) → HasEnded law (seat_of s) (book s.pass) (own_of s) f → Ends law s f
ends_so law s f e = ends_without (own_saves s) law (seat_of s) (book s.pass) (bare_of s) f e.ends
