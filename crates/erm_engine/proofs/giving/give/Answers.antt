use Rattle.std.proofs.Common.{◌≡◌, ◌+◌, sym, ap, ◌∙◌, subst, arith}
use Rattle.erm_ring.specs.Turns.{MayGather}
use Rattle.erm_rule.specs.declared.view.Book.{Book}
use Rattle.erm_rule.specs.Rule.{rest_view}
use Rattle.erm_rule.specs.Views.{MayGive, left_of, right_of}
use Rattle.erm_own_view.specs.Own.{MayCall}
use Rattle.erm_shared_session.specs.Handing.{HasHandedOut}
use Rattle.erm_engine.specs.Opened.{IsUnflushed}
use Rattle.erm_engine.proofs.Handed.{rest_gathers}
use Rattle.erm_engine.proofs.Unflushed.{left_unflushed}
use Rattle.erm_engine.proofs.giving.give.Goals as goal

pub split-requires-clause-fits : goal.split-requires-clause-fits
split-requires-clause-fits g c = c.requires.given.fits

pub split-requires-clause-gives : goal.split-requires-clause-gives
split-requires-clause-gives g c =
    let o = c.args._opening.now in
    subst MayGive (sym c.requires.given.handed.view_is) (c.sessions_are_handed_out.ensures.more o c.args._given c.requires.none c.requires.more).may

pub returns-clause-rest : goal.returns-clause-rest
returns-clause-rest g c =
    let o = c.args._opening.now in
    let n = c.args._given in
    let b = c.args.p.now.me.0 in
    let hands = c.sessions_are_handed_out.ensures.more o n c.requires.none c.requires.more in
    let more = c.sessions_handed_out_may_call.ensures.more o n b c.requires.none c.requires.behind c.requires.more c.requires.given.handed in
    let left : left_of b.view ≡ rest_view o (n + 1) = ap left_of c.requires.given.handed.view_is ∙ hands.left in
    let gathers : MayGather (left_of b.view) = subst MayGather (sym left) (rest_gathers o (n + 1) (let low = c.requires.more in omega (arith, low))) in
    record {
      fits = c.split.ensures.fits.0;
      handed = subst (λ (e : Book). HasHandedOut g.L.RowLaw.law o (n + 1) e) (sym c.split.ensures.books.0) more.0;
      unflushed = subst (λ (e : Book). IsUnflushed o e) (sym c.split.ensures.books.0) (left_unflushed o b gathers c.requires.given.unflushed);
    }

pub returns-clause-given : goal.returns-clause-given
returns-clause-given g c =
    let o = c.args._opening.now in
    let n = c.args._given in
    let b = c.args.p.now.me.0 in
    let hands = c.sessions_are_handed_out.ensures.more o n c.requires.none c.requires.more in
    let more = c.sessions_handed_out_may_call.ensures.more o n b c.requires.none c.requires.behind c.requires.more c.requires.given.handed in
    record {
      idle = record { fits = c.split.ensures.fits.1; view_is = c.split.ensures.given ∙ ap right_of c.requires.given.handed.view_is ∙ hands.right };
      start = ap (λ (e : Book). e.start) c.split.ensures.books.1 ∙ c.requires.given.handed.start;
      may = subst (λ (e : Book). MayCall g.L.RowLaw.law (n + 1) o.tail o.tail e) (sym c.split.ensures.books.1) more.1;
    }
