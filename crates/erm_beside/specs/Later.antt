-- A session in a later state.
use Rattle.std.specs.Prelude.{◌≡◌, ℕ, ◌≤◌, ◌⊎◌, List, ◌++◌, Some}
use Rattle.erm_model.specs.Member.{◌∈◌}
use Rattle.erm_world.specs.Going.{Extends}
use Rattle.erm_world.specs.World.{Fate, Finished, IsCurrent, Session, Stand, Work, claims_in, made_in, stamp_of}
use Rattle.erm_world.specs.World as world

-- a transaction in progress went on, and is over since, or is in progress still
abbrev pub WentOn : Work → List Finished → Stand → Type 0
WentOn w more stand = (u : Work) × Extends w u × (((fate : Fate) × (record { work = u; fate = fate } ∈ more)) ⊎ IsCurrent stand u)

-- a sealed transaction was decided with its stamp, or is sealed with it still
abbrev pub StaysSealed : Stand → List Finished → Stand → Type 0
StaysSealed world.idle more stand = Unit {0}
StaysSealed (world.active w) more stand = Unit {0}
StaysSealed (world.sealed w stamp) more stand =
    ((fate : Fate) × (stamp_of fate ≡ Some stamp) × (record { work = w; fate = fate } ∈ more)) ⊎ (stand ≡ world.sealed w stamp)
StaysSealed (world.snapshot s) more stand = Unit {0}

-- a session in a later state: what is over stays so, what was in progress went on, a stamp that was drawn stays, and so does what was claimed and made
pub record IsLater (s t : Session) : Type 0 where
  pub more : List Finished
  pub over : t.over ≡ s.over ++ more
  pub current : (w : Work) → IsCurrent s.stand w → WentOn w more t.stand
  pub sealed : StaysSealed s.stand more t.stand
  pub claims : claims_in s ≤ claims_in t
  pub made : (x : ℕ) → made_in s x ≤ made_in t x
