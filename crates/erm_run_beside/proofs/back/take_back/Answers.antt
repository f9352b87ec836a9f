use Rattle.std.proofs.Common.{◌≡◌, [], ◌∷◌, ◌++◌, length, sym, ap, ◌∙◌, arith}
use Rattle.std.specs.Vec.Iter.{into_iter_items}
use Rattle.std.proofs.lemmas.List.{length-map}
use Rattle.erm_threads.specs.Work.{done_of}
use Rattle.erm_threads.proofs.Jobs.{there_is}
use Rattle.erm_engine.proofs.Joined.{yields_on}
use Rattle.erm_run_beside.proofs.More.{comes_within, each_more, each_of_all, made_from_all, map_push, none_came, whole_now}
use Rattle.erm_run_beside.proofs.back.take_back.Goals as goal

pub loop-one-init : goal.loop-one-init
loop-one-init g c =
    let is = c.into_iter-left.ensures in (
      [],
      is.rest,
      is.len ∙ c.args.back.ok.0 ∙ sym (ap (λ l. length l) is.rest),
      c.requires.none,
      (λ k b at. absurd (let less = there_is [] k b at in omega (arith, less))),
      (let room = c.requires.room in let long = c.args.back.ok.0 in omega (arith, room, long)),
    )

pub push_reserved-requires : goal.push_reserved-requires
push_reserved-requires g c =
    let at = c.loop-one.invariant in
    let less = comes_within at.0 _ (into_iter_items c.next.new.self) c.args.back.items c.in-Some.one at.1 c.in-Some.ensures.items in
    let long = ap (λ l. length l) at.3 ∙ length-map at.0 _ in
    let is = c.loop-one.done.ok.0 in
    let room = at.5 in
    omega (arith, less, long, is, room)

pub loop-one-preserved : goal.loop-one-preserved
loop-one-preserved g c =
    let at = c.loop-one.invariant in
    let one = c.in-Some.one in
    let next = c.in-Some.ensures in (
      at.0 ++ one ∷ [],
      yields_on at.0 one (into_iter_items c.next.new.self) _ _ at.1 next.items,
      (let was = at.2 in let gone = next.len in let short = ap (λ l. length l) next.items in omega (arith, was, gone, short)),
      c.push_reserved.ensures.items ∙ ap (λ l. l ++ done_of one ∷ []) at.3 ∙ sym (map_push done_of at.0 one),
      each_more _ at.0 one _ _ at.4 (let more = c.merge.ensures.amount in let is = c.into_met.ensures in omega (arith, more, is)),
      (let room = at.5 in let same = c.push_reserved.ensures.capacity in omega (arith, room, same)),
    )

pub returns-clause-done : goal.returns-clause-done
returns-clause-done g c =
    let at = c.loop-one.invariant in
    let none : length (into_iter_items c.loop-one.left) ≡ 0 = sym at.2 ∙ none_came _ _ c.next.ensures.variant c.in_default.not-Some in
    made_from_all _ at.0 c.args.back.items _ (whole_now at.0 (into_iter_items c.loop-one.left) c.args.back.items at.1 none) at.3

pub returns-clause-met : goal.returns-clause-met
returns-clause-met g c =
    let at = c.loop-one.invariant in
    let none : length (into_iter_items c.loop-one.left) ≡ 0 = sym at.2 ∙ none_came _ _ c.next.ensures.variant c.in_default.not-Some in
    each_of_all _ at.0 c.args.back.items _ (whole_now at.0 (into_iter_items c.loop-one.left) c.args.back.items at.1 none) at.4
