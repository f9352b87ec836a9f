use Rattle.std.proofs.Common.{◌≡◌, [], ◌∷◌, ◌++◌, length, refl, sym, ap, ◌∙◌, arith}
use Rattle.std.specs.Vec.Iter.{into_iter_items}
use Rattle.erm_client_beside.specs.Back.{IsBack}
use Rattle.erm_client_beside.proofs.Lists.{each_then, more_tripled, none_tripled, whole_each, whole_tripled}
use Rattle.erm_engine.proofs.Joined.{yields_item, yields_on}
use Rattle.erm_run_beside.proofs.More.{comes_within, none_came, whole_now}
use Rattle.erm_threads.proofs.Jobs.{there_is}
use Rattle.erm_client_beside.proofs.back.take_back.Goals as goal

pub loop-job-init : goal.loop-job-init
loop-job-init g c =
    let is = c.into_iter-left.ensures in (
      [],
      is.rest,
      is.len ∙ c.args.back.ok.0 ∙ sym (ap (λ l. length l) is.rest),
      none_tripled (λ k j s r. IsBack j s r) _ _ c.requires.none.0 c.requires.none.1,
      (λ k b at. absurd (let less = there_is [] k b at in omega (arith, less))),
      (let room = c.requires.room.0 in let long = c.args.back.ok.0 in omega (arith, room, long)),
      (let room = c.requires.room.1 in let long = c.args.back.ok.0 in omega (arith, room, long)),
    )

pub take_one-share-requires : goal.take_one-share-requires
take_one-share-requires g c =
    let at = c.loop-job.invariant in
    let there = yields_item at.0 c.in-Some.job (into_iter_items c.next.new.self) _ _ c.args.back.items at.1 c.in-Some.ensures.items refl in
    record { done = c.requires.done there.0 c.in-Some.job there.1 }

pub push_reserved-requires : goal.push_reserved-requires
push_reserved-requires g c =
    let at = c.loop-job.invariant in
    let less = comes_within at.0 _ (into_iter_items c.next.new.self) c.args.back.items c.in-Some.job at.1 c.in-Some.ensures.items in
    let long = at.3.many in
    let is = c.loop-job.sessions.ok.0 in
    let room = at.5 in
    omega (arith, less, long, is, room)

pub push_reserved-requires-in-Some : goal.push_reserved-requires-in-Some
push_reserved-requires-in-Some g c =
    let at = c.loop-job.invariant in
    let less = comes_within at.0 _ (into_iter_items c.next.new.self) c.args.back.items c.in-Some.job at.1 c.in-Some.ensures.items in
    let long = at.3.as_many in
    let is = c.loop-job.runs.ok.0 in
    let room = at.6 in
    omega (arith, less, long, is, room)

pub loop-job-preserved : goal.loop-job-preserved
loop-job-preserved g c =
    let at = c.loop-job.invariant in
    let one = c.in-Some.job in
    let next = c.in-Some.ensures in (
      at.0 ++ one ∷ [],
      yields_on at.0 one (into_iter_items c.next.new.self) _ _ at.1 next.items,
      (let was = at.2 in let gone = next.len in let short = ap (λ l. length l) next.items in omega (arith, was, gone, short)),
      more_tripled (λ k j s r. IsBack j s r) at.0 c.loop-job.sessions.items c.loop-job.runs.items one c.take_one-share.result.1 c.take_one-share.result.2 _ _
          c.push_reserved.ensures.items c.push_reserved-in-Some.ensures.items at.3 c.take_one-share.ensures.back,
      each_then at.0 one at.4
          (λ b met left is. let was = met left is in let more = c.merge.ensures.amount in omega (arith, was, more))
          (λ left is. let more = c.merge.ensures.amount in let met = c.take_one-share.ensures.met left is in omega (arith, more, met)),
      (let room = at.5 in let same = c.push_reserved.ensures.capacity in omega (arith, room, same)),
      (let room = at.6 in let same = c.push_reserved-in-Some.ensures.capacity in omega (arith, room, same)),
    )

pub returns-clause-back : goal.returns-clause-back
returns-clause-back g c =
    let at = c.loop-job.invariant in
    let none : length (into_iter_items c.loop-job.left) ≡ 0 = sym at.2 ∙ none_came _ _ c.next.ensures.variant c.in_default.not-Some in
    whole_tripled (λ k j s r. IsBack j s r) at.0 c.args.back.items _ _ (whole_now at.0 (into_iter_items c.loop-job.left) c.args.back.items at.1 none) at.3

pub returns-clause-met : goal.returns-clause-met
returns-clause-met g c =
    let at = c.loop-job.invariant in
    let none : length (into_iter_items c.loop-job.left) ≡ 0 = sym at.2 ∙ none_came _ _ c.next.ensures.variant c.in_default.not-Some in
    whole_each at.0 c.args.back.items (whole_now at.0 (into_iter_items c.loop-job.left) c.args.back.items at.1 none) at.4
