-- The pass of the flush seat, once it has taken in all others.
use Rattle.std.proofs.Common.{◌≡◌, ℕ, ◌+◌, ◌-◌, List, [], ◌∷◌, ◌++◌, length, map, subst, arith}
use Rattle.atomic_table.specs.declared.shared.Seat.{Seat}
use Rattle.atomic_table.specs.Seated.{TableId}
use Rattle.erm_model.specs.declared.limits.TheConstants.{SESSIONS}
use Rattle.erm_model.specs.Member.{◌∈◌}
use Rattle.erm_model.specs.RowTransaction.{Law}
use Rattle.erm_model.proofs.Members.{∈-behind}
use Rattle.erm_machine.proofs.Listed.{∈-first, ∈-map_from, ∈-second}
use Rattle.erm_rule.specs.declared.rule.Table.{Table}
use Rattle.erm_rule.specs.declared.view.Book.{Book}
use Rattle.erm_rule.specs.declared.view.Held.{Held}
use Rattle.erm_rule.specs.Books.{book}
use Rattle.erm_shared_session.specs.declared.session.TableSession.{TableSession}
use Rattle.erm_engine.specs.Closed.{AreDone, AreJoined, HasIdle, HasIn}
use Rattle.erm_engine.specs.Opened.{AreIdle}
use Rattle.erm_engine.specs.Taken.{HasTaken, behind}
use Rattle.erm_engine.proofs.Joined.{at_within}

behind_in : (hs : List Held) (h : Held) → h ∈ behind hs → h ∈ hs
behind_in [] h m = m
behind_in (g ∷ hs) h m = ∈-behind g hs h m

taken_in : (ms : List Book) (a e m : Book) → HasTaken ms a e → m ∈ ms → HasIn m e
taken_in ms a e m taken there = record {
  past = taken.pasts m there;
  seats = λ once h has _. behind_in e.view.held h (taken.seats m there once h has);
}

pub are_joined : {L : Type 0} (law : Law) (t : Table L) (ss : List (TableSession L)) (ps : List (Seat (Unit {0}) Book)) (table : TableId) (run place : ℕ) (a e : Book)
    → HasTaken (map (λ s. book s.pass) ss ++ map book ps) a e → AreDone law t ss → AreIdle table run place (length ss) SESSIONS ps
    → AreJoined law t ss e
are_joined {L} law t ss ps table run place a e taken done idle =
    let first = map (λ (s : TableSession L). book s.pass) ss in
    let more = map book ps in
    record {
      done = done;
      sessions = λ k s at. taken_in (first ++ more) a e (book s.pass) taken (∈-first first more (book s.pass) (∈-map_from (λ (u : TableSession L). book u.pass) ss s (k, at)));
      idle = λ seat above within.
          let k = seat - length ss - 1 in
          let p = at_within ps k (let count = idle.count_is in omega (arith, above, within, count)) in
          let here : length ss + k + 1 ≡ seat = omega (arith, above) in
          subst (λ (n : ℕ). HasIdle n e) here
          (record {
            idle = book p.0;
            run = run;
            place = place;
            view_is = (idle.each k p.0 p.1).view_is;
            has = taken_in (first ++ more) a e (book p.0) taken (∈-second first more (book p.0) (∈-map_from book ps p.0 (k, p.1)));
          });
    }
