use Rattle.std.proofs.Common.{◌≡◌, ap, ◌∙◌, sym, subst, true, false, refl}
use Rattle.erm_machine.specs.Seat.{may_start}
use Rattle.erm_machine.specs.Words.{is_clear, state_of}
use Rattle.erm_core.specs.Cores.{core_of}
use Rattle.erm_core_steps.specs.Reads.{GoesOn}
use Rattle.erm_core_steps.specs.Steps.{found_in}
use Rattle.erm_core_steps.proofs.Ways.{cleared_taken, cleared_walks, goes_both, look_clears, look_taken, look_waits}
use Rattle.erm_lists.proofs.lists.Lists.pass_owner.Goals as goal

pub load-requires-clause-taken : goal.load-requires-clause-taken
load-requires-clause-taken g c =
    look_taken (core_of c.args.self.now.state) c.args.seat c.args.oid c.args.owner c.begin_stamp-bound.result c.requires.sound.sound c.requires.at c.requires.owned
    c.begin_stamp-bound.ensures

pub returns-then-not-is_clear-clause-err : goal.returns-then-not-is_clear-clause-err
returns-then-not-is_clear-clause-err g c =
    let seen : c.found-seen.result ≡ state_of ((core_of c.args.self.now.state).seats c.args.owner).place = c.found-seen.ensures ∙ ap found_in c.load.ensures.answer in
    let unclear : is_clear c.found-seen.result c.begin_stamp-bound.result ≡ false = sym c.is_clear.ensures ∙ c.if-not-is_clear.true in
    (refl, seen, subst (λ n. is_clear c.found-seen.result n ≡ false) c.begin_stamp-bound.ensures unclear)

pub returns-then-not-is_clear-clause-starts : goal.returns-then-not-is_clear-clause-starts
returns-then-not-is_clear-clause-starts g c =
    let before = core_of c.args.self.now.state in
    let seen : c.found-seen.result ≡ state_of (before.seats c.args.owner).place = c.found-seen.ensures ∙ ap found_in c.load.ensures.answer in
    let unclear : is_clear c.found-seen.result c.begin_stamp-bound.result ≡ false = sym c.is_clear.ensures ∙ c.if-not-is_clear.true in
    ap may_start
    (look_waits before (core_of c.load.new.self.state) c.args.seat c.args.oid c.args.owner c.begin_stamp-bound.result c.requires.sound.sound c.requires.at c.requires.owned
    c.begin_stamp-bound.ensures c.load.ensures.after (subst (λ n. is_clear n c.begin_stamp-bound.result ≡ false) seen unclear))

pub load-requires-2-clause-taken : goal.load-requires-2-clause-taken
load-requires-2-clause-taken g c =
    let before = core_of c.args.self.now.state in
    let between = core_of c.load.new.self.state in
    let seen : c.found-seen.result ≡ state_of (before.seats c.args.owner).place = c.found-seen.ensures ∙ ap found_in c.load.ensures.answer in
    let clear : is_clear c.found-seen.result c.begin_stamp-bound.result ≡ true = sym c.is_clear.ensures ∙ c.if-not-is_clear.false in
    cleared_taken between c.args.seat c.args.oid c.load.ensures.sound.sound c.load.ensures.goes.at
    (look_clears before between c.args.seat c.args.oid c.args.owner c.begin_stamp-bound.result c.requires.sound.sound c.requires.at c.requires.owned
    c.begin_stamp-bound.ensures c.load.ensures.after (subst (λ n. is_clear n c.begin_stamp-bound.result ≡ true) seen clear))

pub returns-clause-goes : goal.returns-clause-goes
returns-clause-goes g c =
    let before = core_of c.args.self.now.state in
    let between = core_of c.load.new.self.state in
    let after = core_of c.load-2.new.self.state in
    goes_both c.args.self.now.sessions c.args.seat before between after c.load.ensures.goes
    (subst (λ n. GoesOn n c.args.seat between after) c.load.ensures.sessions c.load-2.ensures.goes)

pub returns-clause-room : goal.returns-clause-room
returns-clause-room g c = λ n room. c.load-2.ensures.room n (c.load.ensures.room n room)

pub returns-clause-ok : goal.returns-clause-ok
returns-clause-ok g c =
    let before = core_of c.args.self.now.state in
    let between = core_of c.load.new.self.state in
    let seen : c.found-seen.result ≡ state_of (before.seats c.args.owner).place = c.found-seen.ensures ∙ ap found_in c.load.ensures.answer in
    let clear : is_clear c.found-seen.result c.begin_stamp-bound.result ≡ true = sym c.is_clear.ensures ∙ c.if-not-is_clear.false in
    cleared_walks between (core_of c.load-2.new.self.state) c.args.seat c.args.oid c.load.ensures.goes.at
    (look_clears before between c.args.seat c.args.oid c.args.owner c.begin_stamp-bound.result c.requires.sound.sound c.requires.at c.requires.owned
    c.begin_stamp-bound.ensures c.load.ensures.after (subst (λ n. is_clear n c.begin_stamp-bound.result ≡ true) seen clear))
    c.load-2.ensures.after
