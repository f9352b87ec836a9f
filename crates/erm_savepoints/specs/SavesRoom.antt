-- The room that a session has for its savepoints.
use Rattle.std.specs.Prelude.{◌≡◌, ◌≤◌, length, vec_capacity}
use Rattle.erm_model.specs.declared.limits.TheConstants.{WRITE_LIMIT}
use Rattle.erm_model.specs.declared.limits.TheConstants.{SAVES}
use Rattle.erm_savepoints.specs.declared.saves.Saves.TheInside.{Inside}

-- There is room for all claims, and for all savepoints, of which so many are held. Of each claim there is both.
pub record HasRoom (s : Inside) : Type 0 where
  pub found : WRITE_LIMIT ≤ vec_capacity s.found
  pub is_set : WRITE_LIMIT ≤ vec_capacity s.is_set
  pub few : length s.found.items ≤ WRITE_LIMIT
  pub as_many : length s.is_set.items ≡ length s.found.items
  pub points : length s.points.items ≡ SAVES
  pub held : s.held ≤ SAVES
