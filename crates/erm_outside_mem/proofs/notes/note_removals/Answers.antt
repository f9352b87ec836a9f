use Rattle.std.proofs.Common.{◌≡◌, ◌≤◌, ◌+◌, ◌++◌, [], ◌∷◌, List, Vec, arith, ap, ◌∙◌, subst, sym}
use Rattle.std.specs.Prelude.{vec_capacity}
use Rattle.std.specs.declared.alloc.Global.{Global}
use Rattle.erm_outside_mem.specs.declared.notes.Done.{Done}
use Rattle.erm_outside_mem.specs.declared.notes.Work.TheVariants as work
use Rattle.erm_outside_mem.proofs.NotedWaits.{WaitsNoted, all_noted, none_noted, passed, waits_more}
use Rattle.erm_outside_mem.proofs.notes.note_removals.Goals as goal
use Rattle.erm_outside_mem.proofs.notes.note_removals.Goals.{then-is_removal+in_ok-note, else-is_removal}

pub loop-at-init : goal.loop-at-init
loop-at-init c = record { noted = none_noted c.args.done.now.items; room = omega arith }

pub loop-at-preserved : goal.loop-at-preserved
loop-at-preserved c =
    let all : List Done = c.args.done.now.items in
    elim c.if-is_removal.branch [
      | then-is_removal+in_ok-note w ↦
          let items : c.if-is_removal.done.items ≡ c.loop-at.done.items ++ record { file = c.index-noted.result.now.file; work = work.Synced } ∷ [] =
          ap (λ (v : Vec Done Global). v.items) w.done-is ∙ w.in_ok-note.ensures.items
          in
          let more : vec_capacity c.loop-at.done ≤ vec_capacity w.note.new.done = w.note.ensures.room in
          let room = c.loop-at.invariant.room in
          record {
            noted = subst (λ (ds : List Done). WaitsNoted all ds (c.loop-at.at + 1)) (sym items)
                (waits_more all c.loop-at.done.items c.loop-at.at c.index-noted.result.now (omega arith) c.index-noted.ensures c.loop-at.invariant.noted);
            room = subst (λ (v : Vec Done Global). vec_capacity c.args.done.now ≤ vec_capacity v) (sym w.done-is) (omega (arith, more, room));
          }
      | else-is_removal w ↦ record {
        noted = subst (λ (v : Vec Done Global). WaitsNoted all v.items (c.loop-at.at + 1)) (sym w.done-is)
            (passed all c.loop-at.done.items c.loop-at.at c.index-noted.result.now (omega arith) c.index-noted.ensures (λ is. let e = w.if-is_removal.ensures.1 is in absurd (cc)) c.loop-at.invariant.noted);
        room = subst (λ (v : Vec Done Global). vec_capacity c.args.done.now ≤ vec_capacity v) (sym w.done-is) c.loop-at.invariant.room;
      }
    ]

pub returns-clause-last : goal.returns-clause-last
returns-clause-last c = all_noted c.args.done.now.items c.loop-at.done.items c.loop-at.at c.loop-at.invariant.noted (omega arith)
