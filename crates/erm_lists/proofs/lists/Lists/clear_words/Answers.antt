use Rattle.std.proofs.Common.{◌≡◌, ℕ, refl, subst, ◌∙◌, arith}
use Rattle.erm_core.specs.Cores.{core_of}
use Rattle.erm_core_turns.proofs.Clears.{Clears, all_cleared, clear_taken, clears_more, clears_none}
use Rattle.erm_lists.proofs.lists.Lists.clear_words.Goals as goal

pub go-requires-clause-taken : goal.go-requires-clause-taken
go-requires-clause-taken g c =
    let inv = c.loop-at.invariant in
    clear_taken c.args.from c.args.end c.loop-at.at (core_of c.args.self.now.state) (core_of c.loop-at.self.state) inv.0.sound inv.1 inv.3 c.loop-at-test.true

pub loop-at-preserved : goal.loop-at-preserved
loop-at-preserved g c =
    let inv = c.loop-at.invariant in
    let low = inv.3 in
    let less = c.loop-at-test.true in (
      c.go.ensures.sound,
      clears_more c.args.from c.args.end c.loop-at.at (core_of c.args.self.now.state) (core_of c.loop-at.self.state) inv.0.sound inv.1 inv.3 c.loop-at-test.true
          (core_of c.go.new.self.state) c.go.ensures.after,
      c.go.ensures.sessions ∙ inv.2,
      omega (arith, low),
      omega (arith, less),
    )

pub loop-at-init : goal.loop-at-init
loop-at-init g c =
    let some = c.requires.gathered.some in
    (c.requires.sound, clears_none c.args.from c.args.end (core_of c.args.self.now.state) c.requires.gathered, refl, omega arith, omega (arith, some))

pub returns-clause-cleared : goal.returns-clause-cleared
returns-clause-cleared g c =
    let inv = c.loop-at.invariant in
    let low = inv.4 in
    let last = c.loop-at-test.false in
    let before = core_of c.args.self.now.state in
    let after = core_of c.loop-at.self.state in
    let all : c.loop-at.at ≡ c.args.end = omega (arith, low, last) in
    all_cleared c.args.from c.args.end before after c.requires.gathered.some (subst (λ (n : ℕ). Clears c.args.from c.args.end n before after) all inv.1)
