use Rattle.std.proofs.Common.{◌≡◌, map, take}
use Rattle.erm_script.proofs.sessions.Sessions.to_names.Given as goal

abbrev pub invariant-loop-bytes : goal.invariant-loop-bytes
invariant-loop-bytes l = l.names.items ≡ map (λ bytes. bytes.items) (take l.bytes-index l.bytes-items)
