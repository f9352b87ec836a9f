-- A world after calls of its sessions: in which worlds its sessions may end.
use Rattle.std.specs.Prelude.{◌≡◌, ◌≢◌, ℕ, ◌≤◌, List}
use Rattle.erm_model.specs.declared.history.VersionWritten.{VersionWritten}
use Rattle.erm_model.specs.RowTransaction.{Law}
use Rattle.erm_world.specs.Laws.{IsSerializable}
use Rattle.erm_world.specs.World.{GivenUp, IsSession, Session, View}
use Rattle.erm_safe_world.specs.Moves.{MovesOn}
use Rattle.erm_beside.specs.Later.{IsLater}

-- the world was opened so, its log has come as far at least, and each session is in a later state
pub record IsLaterWorld (v f : View) : Type 0 where
  pub opening : f.opening ≡ v.opening
  pub tail : v.tail ≤ f.tail
  pub flushed : v.flushed ≤ f.flushed
  pub session : (q : ℕ) → IsLater (v.session q) (f.session q)

-- as far as a session of this seat knows, all may end in a later state of its world, to which this moves on, and whose transactions are serializable
abbrev pub EndsIn : Law → View → ℕ → View → Type 0
EndsIn law v seat f = IsSession v seat × IsLaterWorld v f × IsSerializable law f × MovesOn v f

-- the sessions of a world but the one of this seat stand so, have given these claims up, and hold these savepoints
abbrev pub OthersStand : (ℕ → Session × List GivenUp × List (List VersionWritten)) → View → ℕ → Type 0
OthersStand standing v seat = (q : ℕ) → q ≢ seat → (v.session q ≡ (standing q).0) × (v.given_up q ≡ (standing q).1) × (v.saves q ≡ (standing q).2)
