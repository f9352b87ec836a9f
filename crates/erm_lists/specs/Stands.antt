-- The world in lists: the machine's state between two calls.
use Rattle.erm_model.specs.RowTransaction.{Law}
use Rattle.erm_sound.specs.Kept.{SoundUnder}
use Rattle.erm_world.specs.Laws.{IsPossibleIn, IsSerializable}
use Rattle.erm_world.specs.Log.{IsLog}
use Rattle.erm_world.specs.Safe.{HasSafeStamps}
use Rattle.erm_world.specs.Whole.{IsLogOf}
use Rattle.erm_world.specs.World.{View}
use Rattle.erm_core.specs.Cores.{core_of}
use Rattle.erm_core_turns.specs.Turns.{log_of}
use Rattle.erm_core_view.specs.Views.{IsQuiet, view_of}
use Rattle.erm_lists.specs.declared.lists.Lists.{Lists}

-- what it means: the machine's view
abbrev pub lists_view : {L : Type 0} → Lists L → View
lists_view p = view_of p.sessions (core_of p.state)

-- it may be called: the machine's state is sound under the law of rows, and each session is between two calls
pub record Stands {L : Type 0} (law : Law) (p : Lists L) : Type 0 where
  pub sound : SoundUnder law (core_of p.state)
  pub quiet : IsQuiet p.sessions (core_of p.state)

-- it stands, and has what the laws of a world say of its view and of its log
pub record IsWorld {L : Type 0} (law : Law) (p : Lists L) : Type 0 where
  pub stands : Stands law p
  pub serializable : IsSerializable law (lists_view p)
  pub possible : IsPossibleIn law (lists_view p)
  pub safe_stamps : HasSafeStamps (lists_view p)
  pub log : IsLog law.meets (log_of p.sessions (core_of p.state))
  pub log_of_view : IsLogOf (lists_view p) (log_of p.sessions (core_of p.state))
