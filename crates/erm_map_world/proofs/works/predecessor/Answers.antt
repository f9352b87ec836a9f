use Rattle.std.proofs.Common.{◌≡◌, [], ◌∷◌, List, Some, slice_get, map, take, refl, sym, ap, ◌∙◌, subst}
use Rattle.std.proofs.lemmas.List.{map-append}
use Rattle.std.proofs.lemmas.Option.{slice_get_read}
use Rattle.erm_model.specs.History.{History, IsPredecessorStamp}
use Rattle.erm_map_world.specs.declared.works.MapDone.{MapDone}
use Rattle.erm_map_world.specs.MapWorks.{commit_with, done_of, work_in}
use Rattle.erm_map_world.proofs.MapCalls.{committed_push}
use Rattle.erm_map_world.proofs.MapRows.{take_at}
use Rattle.erm_map_world.proofs.works.predecessor.Goals as goal
use Rattle.erm_world.specs.World.{committed_in}

pub loop-done-preserved : goal.loop-done-preserved
loop-done-preserved c =
    let over = c.args.over.now in
    let i = c.loop-done.done-index in
    let d = c.done-item.result in
    let at : slice_get over i ≡ Some d = slice_get_read over _ i d refl c.loop-done-test.true c.done-item.is in
    subst (λ (h : History). IsPredecessorStamp h c.predecessor_after-greatest.result (commit_with (work_in c.args.t.now) 0))
    (sym (ap (λ (list : List MapDone). committed_in 1 (map done_of list)) (take_at over i d at c.loop-done-test.true) ∙ ap (committed_in 1) (map-append done_of (take i over) (d ∷ []))
    ∙ committed_push (map done_of (take i over)) (done_of d)))
    (c.predecessor_after-greatest.ensures (committed_in 1 (map done_of (take i over))) c.loop-done.invariant)
