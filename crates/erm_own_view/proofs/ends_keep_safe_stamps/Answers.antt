use Rattle.erm_own_view.proofs.SafeStamps.{row_end, safe_end}
use Rattle.erm_own_view.proofs.ends_keep_safe_stamps.Goals as goal

pub returns-clause-safe : goal.returns-clause-safe
returns-clause-safe g c seat bound b own f end so = safe_end g.L.RowLaw.law seat bound b own f end so

pub returns-clause-rows : goal.returns-clause-rows
returns-clause-rows g c seat bound oid row b own f end so =
    row_end g.L.RowLaw.law seat bound b own f end (λ first second q k sound event. c.events_keep_sound.ensures first second q k sound event) oid row so
