-- How a transaction goes on in its world.
use Rattle.std.specs.Prelude.{◌≡◌, ℕ, List, ◌++◌, map}
use Rattle.erm_model.specs.declared.history.VersionRead.{VersionRead}
use Rattle.erm_model.specs.declared.history.VersionWritten.{VersionWritten}
use Rattle.erm_world.specs.World.{Work}

-- what a claim found: the object, and the version overwritten
abbrev pub found_by : VersionWritten → ℕ × ℕ × List ℕ
found_by c = (c.oid, c.stamp, c.base)

-- a transaction that has gone on: it has read, claimed and made what it had before, and more
pub record Extends (w u : Work) : Type 0 where
  pub number : u.number ≡ w.number
  pub begin : u.begin ≡ w.begin
  pub read : List VersionRead
  pub reads : u.reads ≡ w.reads ++ read
  pub claimed : List (ℕ × ℕ × List ℕ)
  pub claims : map found_by u.claims ≡ map found_by w.claims ++ claimed
  pub more : List ℕ
  pub made : u.made ≡ w.made ++ more
