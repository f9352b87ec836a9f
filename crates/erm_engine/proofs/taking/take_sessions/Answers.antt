use Rattle.std.proofs.Common.{[], ◌∷◌, ◌++◌, ◌∙◌, length, refl, sym, ap, arith}
use Rattle.std.specs.Vec.Iter.{into_iter_items}
use Rattle.erm_model.specs.Member.{◌∈◌}
use Rattle.erm_rule.specs.Books.{book}
use Rattle.erm_rule.specs.Views.{view}
use Rattle.erm_shared_session.proofs.Leaving.{may_join}
use Rattle.erm_engine.proofs.Joined.{more_taken, yields_item, yields_on}
use Rattle.erm_engine.proofs.Taken.{gathers_stay, none_taken}
use Rattle.erm_engine.proofs.taking.take_sessions.Goals as goal

pub loop-session-init : goal.loop-session-init
loop-session-init g c =
    let is = c.into_iter-left.ensures in
    ([], is.rest, is.len ∙ c.args.sessions.ok.0 ∙ sym (ap (λ l. length l) is.rest), c.requires.fits, none_taken (book c.args.p.now) c.requires.joins)

pub join_into-requires-clause-stands : goal.join_into-requires-clause-stands
join_into-requires-clause-stands g c =
    let at = c.loop-session.invariant in
    let s = c.in-Some.session in
    let there : s ∈ c.args.sessions.items = yields_item at.0 s (into_iter_items c.next.new.self) _ _ c.args.sessions.items at.1 c.in-Some.ensures.items refl in
    (c.requires.stand there.0 s there.1).0

pub join_into-requires-clause-rests : goal.join_into-requires-clause-rests
join_into-requires-clause-rests g c =
    let at = c.loop-session.invariant in
    let s = c.in-Some.session in
    let there : s ∈ c.args.sessions.items = yields_item at.0 s (into_iter_items c.next.new.self) _ _ c.args.sessions.items at.1 c.in-Some.ensures.items refl in
    c.requires.rests there.0 s there.1

pub join_into-requires-clause-gathers : goal.join_into-requires-clause-gathers
join_into-requires-clause-gathers g c = gathers_stay (view c.args.p.now) (view c.loop-session.p) c.loop-session.invariant.4.parts c.requires.gathers

pub loop-session-preserved : goal.loop-session-preserved
loop-session-preserved g c =
    let at = c.loop-session.invariant in
    let s = c.in-Some.session in
    let there : s ∈ c.args.sessions.items = yields_item at.0 s (into_iter_items c.next.new.self) _ _ c.args.sessions.items at.1 c.in-Some.ensures.items refl in (
      at.0 ++ s ∷ [],
      yields_on at.0 s (into_iter_items c.next.new.self) _ _ at.1 c.in-Some.ensures.items,
      (let was = at.2 in let gone = c.in-Some.ensures.len in let short = ap (λ l. length l) c.in-Some.ensures.items in omega (arith, was, gone, short)),
      c.join_into.ensures.fits,
      more_taken (λ t. book t.pass) at.0 s (book c.args.p.now) (book c.loop-session.p) (book c.join_into.new.flush) at.4
          (may_join g.L.RowLaw.law s.session.seat s.tail s.flushed (book s.pass) (c.requires.stand there.0 s there.1).0.may) c.join_into.ensures.joined,
    )
