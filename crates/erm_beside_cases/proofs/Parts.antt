-- Parts of a script, of which each has lines of its own session.
use Rattle.std.proofs.Common.{◌≡◌, ℕ, ◌+◌, ◌<◌, List, length, map, Some, sym, subst}
use Rattle.std.specs.List.{slice_get}
use Rattle.erm_model.specs.Member.{◌∈◌}
use Rattle.erm_run_beside.specs.Jobs.{AreLines}
use Rattle.erm_script.specs.declared.script.ScriptLine.{ScriptLine}
use Rattle.erm_threads.proofs.Jobs.{map_from, there_is}
use Rattle.erm_worker_cases.specs.Lines.{AreOf}

-- so it is of the parts up to a place
abbrev pub AreOfUpto : {P : Type 0} → (P → List ScriptLine) → List P → ℕ → Type 0
AreOfUpto {P} items ps n = (k : ℕ) → k < n → (p : P) → slice_get ps k ≡ Some p → AreOf (k + 1) (items p)

-- and of all
pub all_lines : {P : Type 0} (items : P → List ScriptLine) (ps : List P) → AreOfUpto items ps (length ps) → AreLines (map items ps)
all_lines items ps are = λ k lines at l m.
    let p = map_from items ps k lines at in
    let one = are k (there_is ps k p.0 p.1) p.0 p.1 l (subst (λ (ls : List ScriptLine). l ∈ ls) (sym p.2) m) in (one.session, one.may)
