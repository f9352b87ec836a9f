use Rattle.std.proofs.Common.{◌≡◌, ℕ, length, ap, ◌∙◌, arith}
use Rattle.erm_machine.specs.declared.attempt.Attempt.{Attempt}
use Rattle.erm_machine.specs.declared.task.Task.{Task}
use Rattle.erm_machine.specs.declared.task.Task.TheVariants as task
use Rattle.erm_machine.specs.Bounds.{IsBounded}
use Rattle.erm_machine.specs.Core.{spot_of, word_at}
use Rattle.erm_core.specs.Cores.{core_of}
use Rattle.erm_core_steps.specs.Settles.{AreAllBehind}
use Rattle.erm_core_steps.specs.Steps.{found_in}
use Rattle.erm_core_steps.proofs.Loads.{load_free}
use Rattle.erm_core_steps.proofs.Passing.{is_load, is_taken, less, loads_one, now_waits, still_passing, still_size, still_unseen}
use Rattle.erm_lists.proofs.lists.Lists.pass_versions.Goals as goal

pub go-requires-clause-free : goal.go-requires-clause-free
go-requires-clause-free g c =
    let inv = c.loop-kind.invariant in
    load_free c.in-Some.kind (is_load (core_of c.loop-kind.self.state) c.args.seat inv.0.sound inv.1 c.in-Some.kind c.in-Some.ensures)

pub go-requires-clause-taken : goal.go-requires-clause-taken
go-requires-clause-taken g c =
    let inv = c.loop-kind.invariant in
    is_taken (core_of c.loop-kind.self.state) c.args.seat inv.0.sound inv.1 c.in-Some.kind c.in-Some.ensures

pub returns-in-Some-waits-clause-passing : goal.returns-in-Some-waits-clause-passing
returns-in-Some-waits-clause-passing g c =
    let inv = c.loop-kind.invariant in
    still_passing (core_of c.loop-kind.self.state) c.args.seat inv.0.sound inv.1 c.in-Some.kind c.in-Some.ensures (core_of c.go.new.self.state) c.go.ensures.after

pub returns-in-Some-waits-clause-unseen : goal.returns-in-Some-waits-clause-unseen
returns-in-Some-waits-clause-unseen g c =
    let inv = c.loop-kind.invariant in
    still_unseen (core_of c.loop-kind.self.state) c.args.seat inv.0.sound inv.1 c.in-Some.kind c.in-Some.ensures (core_of c.go.new.self.state) c.go.ensures.after
    c.args.self.now.sessions (core_of c.args.self.now.state) inv.2

pub returns-in-Some-waits-clause-size : goal.returns-in-Some-waits-clause-size
returns-in-Some-waits-clause-size g c =
    let inv = c.loop-kind.invariant in
    still_size (core_of c.loop-kind.self.state) c.args.seat inv.0.sound inv.1 c.in-Some.kind c.in-Some.ensures (core_of c.go.new.self.state) c.go.ensures.after ∙ inv.4

pub returns-in-Some-waits-clause-waits : goal.returns-in-Some-waits-clause-waits
returns-in-Some-waits-clause-waits g c =
    let inv = c.loop-kind.invariant in
    let before = core_of c.loop-kind.self.state in
    let k = c.in-Some.kind in
    let word : c.found-word.result ≡ word_at before (spot_of c.args.seat k) =
    c.found-word.ensures ∙ ap found_in c.go.ensures.answer
    ∙ (loads_one before c.args.seat inv.0.sound inv.1 k c.in-Some.ensures).tells (word_at before (spot_of c.args.seat k)) in
    now_waits before c.args.seat inv.0.sound inv.1 k c.in-Some.ensures (core_of c.go.new.self.state) c.go.ensures.after c.in-Some-waits.wait
    c.found-word.result word c.in-Some-waits.ensures

pub loop-kind-smaller : goal.loop-kind-smaller
loop-kind-smaller g c =
    let inv = c.loop-kind.invariant in
    let before = core_of c.loop-kind.self.state in
    let k = c.in-Some.kind in
    let word : c.found-word.result ≡ word_at before (spot_of c.args.seat k) =
    c.found-word.ensures ∙ ap found_in c.go.ensures.answer
    ∙ (loads_one before c.args.seat inv.0.sound inv.1 k c.in-Some.ensures).tells (word_at before (spot_of c.args.seat k)) in
    less before c.args.seat inv.0.sound inv.1 k c.in-Some.ensures (core_of c.go.new.self.state) c.go.ensures.after c.go.ensures.sound.sound
    c.found-word.result word c.in_default-waits.ensures

pub loop-kind-preserved : goal.loop-kind-preserved
loop-kind-preserved g c =
    let inv = c.loop-kind.invariant in
    let before = core_of c.loop-kind.self.state in
    let after = core_of c.go.new.self.state in
    let k = c.in-Some.kind in (
      c.go.ensures.sound,
      still_passing before c.args.seat inv.0.sound inv.1 k c.in-Some.ensures after c.go.ensures.after,
      still_unseen before c.args.seat inv.0.sound inv.1 k c.in-Some.ensures after c.go.ensures.after c.args.self.now.sessions (core_of c.args.self.now.state) inv.2,
      c.go.ensures.sessions ∙ inv.3,
      still_size before c.args.seat inv.0.sound inv.1 k c.in-Some.ensures after c.go.ensures.after ∙ inv.4,
    )

-- where the versions that it would come to are behind it, it has passed all of them
all_passed : (seat : ℕ) (t : Attempt) (u : Task) → IsBounded seat t u → AreAllBehind t u → u ≡ task.Settles (length t.reads) (length t.writes)
all_passed seat t (task.Settles reads writes) bounded behind =
    let few_reads = bounded.0 in
    let few_writes = bounded.1 in
    let all_reads = behind.0 in
    let all_writes = behind.1 in
    let r : reads ≡ length t.reads = omega (arith, few_reads, all_reads) in
    let w : writes ≡ length t.writes = omega (arith, few_writes, all_writes) in
    ap (λ (n : ℕ). task.Settles n writes) r ∙ ap (λ (n : ℕ). task.Settles (length t.reads) n) w
all_passed seat t u bounded behind = absurd behind

pub returns-clause-passed : goal.returns-clause-passed
returns-clause-passed g c =
    let x = (core_of c.loop-kind.self.state).seats c.args.seat in
    all_passed c.args.seat x.current x.task (c.loop-kind.invariant.0.sound.own c.args.seat).bounds.bounded c.in_default.ensures
