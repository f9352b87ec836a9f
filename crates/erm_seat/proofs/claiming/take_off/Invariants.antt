use Rattle.std.proofs.Common.{◌≡◌, ◌+◌, ◌++◌, map, take, vec_len, vec_capacity}
use Rattle.erm_machine.specs.declared.attempt.OwnCell.{OwnCell}
use Rattle.erm_machine.specs.declared.version.Version.{Version}
use Rattle.erm_seat.proofs.claiming.take_off.Given as goal

abbrev pub invariant-loop-version : goal.invariant-loop-version
invariant-loop-version l =
    (l.spare.items ≡ l.fn.spare.items ++ map (λ (v : Version). let own : OwnCell = record { cell = v.cell; words = v.words } in own) (take l.version-index l.version-items))
    × (vec_capacity l.spare ≡ vec_capacity l.fn.spare)
    × (vec_len l.spare ≡ vec_len l.fn.spare + l.version-index)
