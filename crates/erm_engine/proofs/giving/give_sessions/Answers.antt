use Rattle.std.proofs.Common.{◌≡◌, ℕ, ◌+◌, List, sym, ap, ◌∙◌, subst, arith}
use Rattle.erm_machine.specs.declared.part.Part.{Part}
use Rattle.erm_machine.proofs.Backs.{session_from}
use Rattle.erm_model.specs.declared.history.VersionWritten.{VersionWritten}
use Rattle.erm_rule.specs.Books.{book}
use Rattle.erm_rule.specs.Views.{part_of}
use Rattle.erm_world.specs.Saves.{with_saves}
use Rattle.erm_own_view.specs.Own.{own_view}
use Rattle.erm_session.specs.Session.{IsSession}
use Rattle.erm_engine.specs.Opened.{AreNew, HasGiven}
use Rattle.erm_engine.proofs.GivenUp.{new_idle}
use Rattle.erm_engine.proofs.Handed.{idle_part, new_more, new_none, none_saved, own_opened}
use Rattle.erm_engine.proofs.giving.give_sessions.Goals as goal

pub loop-q-init : goal.loop-q-init
loop-q-init g c = (
  c.requires.given,
  new_none g.L.RowLaw.law c.args.t.now c.args.opening.now c.in_ok-sessions.sessions.items c.in_ok-sessions.ensures.items,
  c.in_ok-sessions.ensures.capacity,
)

pub new-requires-clause-session : goal.new-requires-clause-session
new-requires-clause-session g c = session_from (c.loop-q.q + 1) (omega arith) (let less = c.loop-q-test.true in let few = c.requires.few in omega (arith, less, few))

pub new-given-requires-clause-session : goal.new-given-requires-clause-session
new-given-requires-clause-session g c =
    let o = c.args.opening.now in
    let s = c.in-Ok.session in
    subst (λ (x : Part). IsSession s x)
    (sym (idle_part c.args.t.now.words.shared.table_id o.run o.tail (c.loop-q.q + 1) s.seat c.give-pass.result c.give-pass.ensures.given.idle c.in-Ok.ensures.seat))
    (c.in-Ok.ensures.idle o.tail)

pub end_all-requires : goal.end_all-requires
end_all-requires g c = record { idle = new_idle g.L.RowLaw.law c.args.t.now c.args.opening.now c.loop-q.q c.loop-q.sessions.items c.loop-q.invariant.1 }

pub loop-q-preserved : goal.loop-q-preserved
loop-q-preserved g c =
    let o = c.args.opening.now in
    let law = g.L.RowLaw.law in
    let t = c.args.t.now in
    let n = c.loop-q.q in
    let b = book c.give-pass.result in
    let given = c.give-pass.ensures.given in
    let given_to = c.in-Ok.session in
    let part = idle_part t.words.shared.table_id o.run o.tail (n + 1) given_to.seat c.give-pass.result given.idle c.in-Ok.ensures.seat in
    let here : IsSession given_to (part_of b.view given_to.seat) = subst (λ (x : Part). IsSession given_to x) (sym part) (c.in-Ok.ensures.idle o.tail) in
    let s = c.new-given.result in (
      c.give-pass.ensures.rest,
      subst (λ l. AreNew law t o (n + 1) l) (sym c.push_reserved.ensures.items)
          (new_more law t o n c.loop-q.sessions.items s c.loop-q.invariant.1 (record {
            stands = c.new-given.ensures.stands;
            seat_is = c.new-given.ensures.seat ∙ c.in-Ok.ensures.seat;
            own =
                c.new-given.ensures.own
                ∙ ap (λ (f : ℕ → List (List VersionWritten)). with_saves f (own_view given_to.seat o.tail o.tail b)) (none_saved given_to (part_of b.view given_to.seat) here (ap (λ (x : Part). x.place) part))
                ∙ ap (λ (q : ℕ). own_view q o.tail o.tail b) c.in-Ok.ensures.seat
                ∙ own_opened o (n + 1) b given.start given.idle.view_is;
          })),
      (let room = c.loop-q.invariant.2 in let same = c.push_reserved.ensures.capacity in omega (arith, room, same)),
    )

pub returns-clause-rest : goal.returns-clause-rest
returns-clause-rest g c =
    let all : c.loop-q.q ≡ c.args.count = (let past = c.loop-q-test.false in let within = c.loop-q.auto.q-end in omega (arith, past, within)) in
    subst (λ (n : ℕ). HasGiven g.L.RowLaw.law c.args.t.now.words.shared.table_id c.args.opening.now n c.loop-q.p) all c.loop-q.invariant.0
