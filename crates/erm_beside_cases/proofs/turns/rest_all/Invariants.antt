use Rattle.std.proofs.Common.{◌≡◌, vec_len}
use Rattle.erm_model.specs.RowTransaction.{any_law}
use Rattle.erm_engine.specs.Closed.{AreDone}
use Rattle.erm_beside_cases.proofs.RunAgain.{AreResting}
use Rattle.erm_beside_cases.proofs.turns.rest_all.Given as goal

abbrev pub invariant-loop-place : goal.invariant-loop-place
invariant-loop-place l = AreDone any_law l.table l.sessions.items
    × (vec_len l.sessions ≡ vec_len l.fn.sessions)
    × AreResting l.place l.sessions.items
