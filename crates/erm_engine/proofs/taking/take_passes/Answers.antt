use Rattle.std.proofs.Common.{◌∙◌, length, refl, sym, ap, arith}
use Rattle.std.specs.Vec.Iter.{into_iter_items}
use Rattle.erm_model.specs.Member.{◌∈◌}
use Rattle.erm_rule.specs.Books.{book}
use Rattle.erm_engine.proofs.Joined.{more_taken, yields_item, yields_on}
use Rattle.erm_engine.proofs.Taken.{none_taken}
use Rattle.erm_engine.proofs.taking.take_passes.Goals as goal

pub loop-pass-init : goal.loop-pass-init
loop-pass-init g c =
    let gives = c.into_iter-pass-iterator.ensures.into_iter_gives in
    (refl, c.requires.fits, none_taken (book c.args.p.now) c.requires.joins, gives.1 ∙ c.args.passes.ok.0 ∙ sym (ap (λ l. length l) gives.0))

pub join-requires-clause-fits : goal.join-requires-clause-fits
join-requires-clause-fits g c =
    let s = c.in-Some.pass in
    let there : s ∈ c.args.passes.items =
    yields_item c.loop-pass.yielded s (into_iter_items c.next.new.self) _ _ c.args.passes.items c.loop-pass.invariant.0 c.in-Some.ensures.steps.0 c.into_iter-pass-iterator.ensures.into_iter_gives.0
    in (
      c.loop-pass.invariant.1,
      (c.requires.joined there.0 s there.1).0,
    )

pub join-requires-clause-taken : goal.join-requires-clause-taken
join-requires-clause-taken g c =
    let s = c.in-Some.pass in
    let there : s ∈ c.args.passes.items =
    yields_item c.loop-pass.yielded s (into_iter_items c.next.new.self) _ _ c.args.passes.items c.loop-pass.invariant.0 c.in-Some.ensures.steps.0 c.into_iter-pass-iterator.ensures.into_iter_gives.0
    in
    (c.requires.joined there.0 s there.1).1

pub loop-pass-preserved : goal.loop-pass-preserved
loop-pass-preserved g c =
    let s = c.in-Some.pass in
    let at = c.loop-pass in
    let there : s ∈ c.args.passes.items =
    yields_item at.yielded s (into_iter_items c.next.new.self) _ _ c.args.passes.items at.invariant.0 c.in-Some.ensures.steps.0 c.into_iter-pass-iterator.ensures.into_iter_gives.0
    in (
      yields_on at.yielded s (into_iter_items c.next.new.self) _ _ at.invariant.0 c.in-Some.ensures.steps.0,
      c.join.ensures.fits,
      more_taken book at.yielded s (book c.args.p.now) (book at.p) (book c.join.new.p) at.invariant.2
          (c.requires.joined there.0 s there.1).1 c.join.ensures.book,
      (let was = at.invariant.3 in
          let gone = c.in-Some.ensures.steps.1 in
          let short = ap (λ l. length l) c.in-Some.ensures.steps.0 in
          omega (arith, was, gone, short)),
    )
