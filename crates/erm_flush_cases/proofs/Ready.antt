-- A disk to which nothing was done.
use Rattle.std.proofs.Common.{◌≡◌, List, [], sym, subst}
use Rattle.erm_flush.specs.Turns.{IsReady}
use Rattle.erm_log_words.proofs.Empty.{nothing_reads}
use Rattle.erm_outside.specs.Disk.{Step}
use Rattle.erm_world.specs.Log.{Log}

-- any log may be flushed to it
pub empty_is_ready : (log : Log) (steps : List Step) → steps ≡ [] → IsReady log steps
empty_is_ready log steps none = subst (λ (s : List Step). IsReady log s) (sym none) (record { settled = λ file left may. may; fresh = nothing_reads log.opened.run log.flushed })
