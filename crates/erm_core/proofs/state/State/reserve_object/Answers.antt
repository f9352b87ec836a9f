use Rattle.std.proofs.Common.{ℕ, ◌≡◌, ◌<◌, length, refl, ap, arith}
use Rattle.erm_machine.specs.Core.{Object, Shared}
use Rattle.erm_core.specs.Cores.{shared_of}
use Rattle.erm_core.proofs.Steps.{core_path}
use Rattle.erm_core.proofs.Tables.{objects_same}
use Rattle.erm_core.proofs.state.State.reserve_object.Goals as goal

within : (len k n : ℕ) → len ≡ n → k < len → k < n
within len k n a h = omega arith

pub returns-clause-core : goal.returns-clause-core
returns-clause-core c =
    let s = c.args.self.now in
    core_path _ _
    (ap (λ (f : ℕ → Object). let t : Shared = record (shared_of s) { objects = f } in t)
    (objects_same s.objects.items c.args.oid c.index_mut.result.now c.reserve.new.self (within s.objects.len c.args.oid (length s.objects.items) s.objects.ok.0 c.requires.inside)
    c.index_mut.ensures.value c.reserve.ensures.same))
    refl
