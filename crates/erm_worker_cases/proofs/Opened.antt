-- A world that was just opened.
use Rattle.std.proofs.Common.{◌≡◌, ℕ, Result, Ok, Err, IfOk}
use Rattle.erm_model.specs.Rows.{Rows}
use Rattle.erm_world.specs.World.{View}
use Rattle.erm_lines.specs.Executions.{IsOpened}
use Rattle.erm_start.specs.Recovered.{IsOpenedOn}

module _ {P E : Type 0} (view : P → View) where
  pub just_opened : (r : Result P E) (rows : Rows) (place number many : ℕ) → IfOk r (λ p. IsOpenedOn rows place number many (view p)) → IfOk r (λ p. IsOpened (view p))
  just_opened (Ok p) rows place number many is = is.opened
  just_opened (Err e) rows place number many is = tt

  pub so_many : (r : Result P E) (rows : Rows) (place number many : ℕ) → IfOk r (λ p. IsOpenedOn rows place number many (view p)) → IfOk r (λ p. (view p).opening.sessions ≡ many)
  so_many (Ok p) rows place number many is = is.sessions
  so_many (Err e) rows place number many is = tt
