use Rattle.std.proofs.Common.{◌≡◌, ◌++◌, List, length, map}
use Rattle.std.specs.Vec.Iter.{into_iter_items, into_iter_len}
use Rattle.erm_rule.specs.Books.{book}
use Rattle.erm_rule.specs.Steps.{Fits}
use Rattle.erm_engine.specs.Taken.{HasTaken}
use Rattle.erm_engine.proofs.taking.take_sessions.Given as goal

abbrev pub invariant-loop-session : goal.invariant-loop-session
invariant-loop-session g l = (gone : List _) × (gone ++ into_iter_items l.left ≡ l.fn.sessions.items)
    × (into_iter_len l.left ≡ length (into_iter_items l.left))
    × Fits l.t.words.shared.table_id l.p
    × HasTaken (map (λ s. book s.pass) gone) (book l.fn.p) (book l.p)

abbrev pub decreases-loop-session : goal.decreases-loop-session
decreases-loop-session g l = into_iter_len l.left
