-- What a session keeps, where of its seat's part only the call in progress and the objects made are others.
use Rattle.std.proofs.Common.{ℕ, List, refl}
use Rattle.erm_machine.specs.declared.part.Part.{Part}
use Rattle.erm_machine.specs.declared.task.Task.{Task}
use Rattle.erm_session.specs.declared.session.Session.{Session}
use Rattle.erm_session.specs.declared.session.Stage.{Stage}
use Rattle.erm_session.specs.declared.session.Stage.TheVariants as stage
use Rattle.erm_session.specs.Session.{IsOpen, IsSession, StageIs}
use Rattle.erm_session.proofs.Saved.{has_same}

-- the part with another call in progress, and other objects made
abbrev pub with_made : Task → List ℕ → Part → Part
with_made t made x = record x { task = t; current = record x.current { made = made } }

-- its window is the same
window_made : (g : Stage) (t : Task) (made : List ℕ) (x : Part) → IsOpen g x → IsOpen g (with_made t made x)
window_made stage.Idle t made x is = tt
window_made (stage.Active a) t made x is = is
window_made (stage.Sealed a) t made x is = tt
window_made (stage.Pending begin next) t made x is = tt
window_made (stage.Safe begin) t made x is = tt

-- the session stands there too, where its stage does
pub made_session : (s : Session) (t : Task) (made : List ℕ) (x : Part) → StageIs s.stage (with_made t made x) → IsSession s x → IsSession s (with_made t made x)
made_session s t made x stands is = record {
  kept = record {
    session = is.kept.session;
    run = is.kept.run;
    low = is.kept.low;
    number = is.kept.number;
    stage = stands;
    room = is.kept.room;
    spare = is.kept.spare;
    room_read = is.kept.room_read;
    room_claimed = is.kept.room_claimed;
    block = is.kept.block;
  };
  rows_read = is.rows_read;
  rows_claimed = is.rows_claimed;
  window = window_made s.stage t made x is.window;
  saves = has_same s.stage s.saves x (with_made t made x) refl is.saves;
}
