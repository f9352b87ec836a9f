-- What a session met of the transaction that owns an object: in a state of the machine, and in a world in which all end.
use Rattle.std.specs.Prelude.{◌≡◌, ◌⊎◌, ℕ, ◌<◌, ◌≤◌, true}
use Rattle.erm_model.specs.Member.{◌∈◌}
use Rattle.erm_machine.specs.declared.attempt.Attempt.{Attempt}
use Rattle.erm_machine.specs.Core.{Core}
use Rattle.erm_machine.specs.Facts.{all_of}
use Rattle.erm_core_stays.specs.Staying.{HasTried}
use Rattle.erm_world.specs.World.{Has, View, Work}
use Rattle.erm_world.specs.Works.{is_claimed}

-- The other seat has a transaction of this number, in progress or over, that has claimed the object, or had, and gave the claim up for want of a cell. It
-- began below the end of the log; and so did each transaction of the own seat with a greater number than this one at or above its begin.
pub record HasOwner (c : Core) (seat oid other number own : ℕ) : Type 0 where
  pub attempt : Attempt
  pub stands : attempt ∈ all_of (c.seats other)
  pub begun : 0 < attempt.number
  pub number_is : attempt.number ≡ number
  pub tried : HasTried attempt oid
  pub past : attempt.begin ≤ c.shared.tail
  pub later : (u : Attempt) → u ∈ all_of (c.seats seat) → own < u.number → attempt.begin ≤ u.begin

-- In a world in which all end the other session has a transaction of this number, in progress or over, which has claimed the object, or gave the claim up;
-- and each transaction of the own session with a greater number than this one begins at or above its begin.
pub record WasTried (f : View) (seat oid other number own : ℕ) : Type 0 where
  pub work : Work
  pub has : Has f other work
  pub number_is : work.number ≡ number
  pub tried : (is_claimed work.claims oid ≡ true) ⊎ (record { number = number; oid = oid } ∈ f.given_up other)
  pub begun : (u : Work) → Has f seat u → own < u.number → work.begin ≤ u.begin
