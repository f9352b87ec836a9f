use Rattle.std.proofs.Common.{List, [], ◌∷◌, ◌++◌, length, sym, ap, ◌∙◌, arith}
use Rattle.std.specs.Vec.Iter.{into_iter_items}
use Rattle.erm_engine.proofs.Joined.{yields_on}
use Rattle.erm_threads.specs.declared.job.Done.{Done}
use Rattle.erm_run_beside.specs.declared.work.SessionWork.{SessionWork}
use Rattle.erm_run_beside.specs.Runs.{work_of}
use Rattle.erm_run_beside.proofs.More.{map_push}
use Rattle.erm_run_beside.proofs.apart.Apart.take.Goals as goal

pub loop-one-preserved : goal.loop-one-preserved
loop-one-preserved g c =
    let at = c.loop-one.invariant in
    let one = c.in-Some.one in
    let next = c.in-Some.ensures in (
      at.0 ++ one ∷ [],
      yields_on at.0 one (into_iter_items c.next.new.self) _ _ at.1 next.items,
      (let was = at.2 in let gone = next.len in let short = ap (λ (l : List (Done g.row.S.Denot)). length l) next.items in omega (arith, was, gone, short)),
      c.push_reserved.ensures.items ∙ ap (λ (l : List g.row.S.Denot). l ++ one.session ∷ []) at.3 ∙ sym (map_push (λ (d : Done g.row.S.Denot). d.session) at.0 one),
      c.push_reserved-in-Some.ensures.items ∙ ap (λ (l : List SessionWork). l ++ work_of one ∷ []) at.4 ∙ sym (map_push (λ (d : Done g.row.S.Denot). work_of d) at.0 one),
      (let room = at.5 in let same = c.push_reserved.ensures.capacity in omega (arith, room, same)),
      (let room = at.6 in let same = c.push_reserved-in-Some.ensures.capacity in omega (arith, room, same)),
    )
