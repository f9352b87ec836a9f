use Rattle.std.proofs.Common.{[], ◌∷◌, ◌++◌, length, ap, refl, subst, arith}
use Rattle.std.specs.Vec.Iter.{into_iter_items}
use Rattle.std.proofs.lemmas.Option.{get_or_from_slice_get}
use Rattle.erm_model.specs.Member.{◌∈◌}
use Rattle.erm_threads.proofs.Jobs.{there_is}
use Rattle.erm_engine.proofs.Joined.{yields_item, yields_on}
use Rattle.erm_run_beside.specs.Jobs.{HasRoom}
use Rattle.erm_run_beside.proofs.More.{longer, more_jobs}
use Rattle.erm_run_beside.proofs.jobs.make_jobs.Goals as goal

pub loop-part-preserved : goal.loop-part-preserved
loop-part-preserved g c =
    let at = c.loop-part in
    let p = c.in-Some.part in
    let s = c.in-Some-next.session in
    let gone = at.invariant.3.0 in
    let ps = c.args.parts.items in
    let there : p ∈ ps = yields_item at.yielded p (into_iter_items c.next.new.self) _ _ ps at.invariant.0 c.in-Some.ensures.steps.0 c.into_iter-part-iterator.ensures.into_iter_gives.0 in
    let room : HasRoom p = subst HasRoom (get_or_from_slice_get ps there.0 p p there.1) (c.requires.answers there.0 p (there_is ps there.0 p there.1)) in (
      yields_on at.yielded p (into_iter_items c.next.new.self) _ _ at.invariant.0 c.in-Some.ensures.steps.0,
      (let was = at.invariant.1 in let less = c.in-Some.ensures.steps.1 in let short = ap (λ l. length l) c.in-Some.ensures.steps.0 in omega (arith, was, less, short)),
      (let was = at.invariant.2 in let long = longer at.yielded p in omega (arith, was, long)),
      (
        gone ++ s ∷ [],
        yields_on gone s (into_iter_items c.next-in-loop-part.new.self) _ _ at.invariant.3.1 c.in-Some-next.ensures.items,
        (let was = at.invariant.3.2 in let long = longer at.yielded p in let more = longer gone s in omega (arith, was, long, more)),
        more_jobs _ gone at.yielded at.jobs.items _ s p _ c.push_reserved.ensures.items at.invariant.3.3
            (record { session_is = refl; lines_are = refl; none = room.none; room = room.room }),
      ),
      (let was = at.invariant.4 in let long = longer at.yielded p in let left = c.split_off.ensures.parts_left in omega (arith, was, long, left)),
      (let none = at.invariant.5 in let left = c.split_off.ensures.amount_left in omega (arith, none, left)),
      (let was = at.invariant.6 in let less = c.in-Some-next.ensures.len in let short = ap (λ l. length l) c.in-Some-next.ensures.items in omega (arith, was, less, short)),
      (let room = at.invariant.7 in let same = c.push_reserved.ensures.capacity in omega (arith, room, same)),
    )
