use Rattle.std.proofs.Common.{◌≡◌, ℕ, ◌+◌, ◌≤◌, ◌-◌, Some, length, take, refl, sym, ap, ◌∙◌, subst, arith, Vec, add-zero, add-one}
use Rattle.std.specs.List.{slice_get}
use Rattle.std.specs.declared.alloc.Global.{Global}
use Rattle.std.proofs.lemmas.Bool.{ltb-true, ltb-false}
use Rattle.std.proofs.lemmas.Option.{slice_get_read, slice_get_past}
use Rattle.erm_good_report.specs.Transactions.{said_of}
use Rattle.erm_summary.specs.declared.hearing.Session.{Session}
use Rattle.erm_summary.specs.Told.{FollowEach, HaveRoom}
use Rattle.erm_summary.proofs.Seats.{less_room, said_longer, said_no_longer, said_whole}
use Rattle.erm_summary.proofs.commits.hear_lines.Goals as goal
use Rattle.erm_summary.proofs.commits.hear_lines.Goals.{in-Some+in_ok-hear_at, in_default}

pub hear_at-requires : goal.hear_at-requires
hear_at-requires c =
    let script = c.args.script.now in
    let i = c.loop-place.place in
    let rest : ℕ = length script - i in
    let left : i + rest ≡ length script = omega (arith, c.loop-place-test.true) in
    let one : 1 ≤ rest + 0 = omega (arith, c.loop-place-test.true) in
    record {
      room =
          less_room 1 (rest + 0) c.loop-place.heard.items one
          (c.loop-place.invariant.room 0 rest left (subst (λ n. HaveRoom n c.args.heard.now.items) (sym (add-zero (length script))) c.requires.room));
    }

pub loop-place-preserved : goal.loop-place-preserved
loop-place-preserved c =
    let script = c.args.script.now in
    let answers = c.args.answers.now in
    let i = c.loop-place.place in
    let line = c.index-script-place.result in
    let first = c.args.heard.now.items in
    let before = c.loop-place.invariant in
    let here : slice_get script i ≡ Some line = slice_get_read script (length script) i line refl c.loop-place-test.true c.index-script-place.is in
    elim c.match-get.branch [
      | in-Some+in_ok-hear_at w ↦
          let answer = w.in-Some.answer.now in
          let told : slice_get answers i ≡ Some answer = slice_get_read answers (length answers) i answer refl (ltb-true i (length answers) (sym w.in-Some.ensures.lookup.0)) w.in-Some.ensures.lookup.1 in
          let longer = ap (λ n. take n (said_of script answers)) (add-one i) ∙ said_longer script answers i line answer here told in
          let now = w.in_ok-hear_at.ensures in
          let items = ap (λ (v : Vec Session Global). v.items) w.heard-is in
          record {
            follows = λ each.
                subst (λ ss. FollowEach script answers (take (i + 1) (said_of script answers)) 1 ss) (sym items)
                (subst (λ said. FollowEach script answers said 1 w.hear_at.new.heard.items) (sym longer)
                (now.follows script answers (take i (said_of script answers)) (Some line.command) (line, here, told, refl) (sym w.asks_safe-asks.ensures) (before.follows each)));
            room = λ more rest left room.
                subst (HaveRoom (rest + more)) (sym items)
                (now.room (rest + more) (subst (λ n. HaveRoom n c.loop-place.heard.items) (omega arith) (before.room more (rest + 1) (omega (arith, left)) room)));
            count = ap length items ∙ now.count ∙ before.count;
          }
      | in_default w ↦
          let past = slice_get_past answers i (ltb-false i (length answers) (sym w.in_default.ensures.lookup.0)) in
          let same = ap (λ n. take n (said_of script answers)) (add-one i) ∙ said_no_longer script answers i past in
          let items = ap (λ (v : Vec Session Global). v.items) w.heard-is in
          record {
            follows = λ each.
                subst (λ ss. FollowEach script answers (take (i + 1) (said_of script answers)) 1 ss) (sym items)
                (subst (λ said. FollowEach script answers said 1 c.loop-place.heard.items) (sym same) (before.follows each));
            room = λ more rest left room.
                subst (HaveRoom (rest + more)) (sym items)
                (less_room (rest + more) (rest + 1 + more) c.loop-place.heard.items (omega arith) (before.room more (rest + 1) (omega (arith, left)) room));
            count = ap length items ∙ before.count;
          }
    ]

pub returns-clause-follows : goal.returns-clause-follows
returns-clause-follows c each =
    let script = c.args.script.now in
    let answers = c.args.answers.now in
    let over : c.loop-place.place ≡ length script = omega (arith, c.loop-place-test.false, c.loop-place.auto.place-end) in
    subst (λ said. FollowEach script answers said 1 c.loop-place.heard.items)
    (ap (λ n. take n (said_of script answers)) over ∙ said_whole script answers) (c.loop-place.invariant.follows each)

pub returns-clause-room : goal.returns-clause-room
returns-clause-room c more room =
    less_room more (0 + more) c.loop-place.heard.items (omega arith) (c.loop-place.invariant.room more 0 (omega (arith, c.loop-place-test.false, c.loop-place.auto.place-end)) room)
