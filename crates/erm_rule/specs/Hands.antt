-- The words of cells that a seat's call in progress meets, and when a view is one of a sound state.
use Rattle.std.specs.Prelude.{◌≡◌}
use Rattle.erm_model.specs.declared.limits.TheConstants.{TABLE_CELLS}
use Rattle.erm_machine.specs.declared.event.Kind.{Kind}
use Rattle.erm_machine.specs.declared.event.Kind.TheVariants as kind
use Rattle.erm_machine.specs.declared.part.Part.{Part}
use Rattle.erm_machine.specs.declared.task.Task.{Task}
use Rattle.erm_machine.specs.declared.task.Task.TheVariants as task
use Rattle.erm_machine.specs.declared.version.CellWord.{CellWord}
use Rattle.erm_machine.specs.declared.version.VersionAt.{VersionAt}
use Rattle.erm_machine.specs.Core.{Core, no_claim}
use Rattle.erm_machine.specs.Sound.{Sound}
use Rattle.erm_rule.specs.declared.view.View.{View}
use Rattle.erm_rule.specs.Newest.{CutsAtNewest}
use Rattle.erm_rule.specs.Views.{IsView, IsInOrder}

-- There is a sound state, with the table's cells, in which the view's seats have its parts, and the view is in order. So what
-- every sound state says of these seats is so of the view's parts. Each cut in progress then cuts behind the newest version below its
-- horizon.
pub record IsKnown (v : View) : Type 0 where
  pub core : Core
  pub sound : Sound core
  pub cuts : CutsAtNewest core
  pub is_view : IsView v core
  pub limit : core.shared.cell_limit ≡ TABLE_CELLS
  pub in_order : IsInOrder v

-- the version in hand of a call, or some name that is none
abbrev pub in_hand : Task → VersionAt
in_hand (task.Walks version head) = version
in_hand (task.Passed version) = version
in_hand (task.Found version stamp head) = version
in_hand (task.Registered version) = version
in_hand (task.Overtaken version overwriter) = version
in_hand (task.Rated version) = version
in_hand (task.Claimed version) = version
in_hand (task.Horizon version least next) = version
in_hand (task.CutWalks version horizon) = version
in_hand (task.CutPassed version horizon) = version
in_hand (task.CutFound version horizon) = version
in_hand (task.Detaches version) = version
in_hand (task.SafeWalks version) = version
in_hand (task.SafePassed version) = version
in_hand (task.SafeFound version) = version
in_hand _ = no_claim.version

-- the load of a word of the version in hand
abbrev pub walk_kind : Part → CellWord → Kind
walk_kind x w = kind.LoadCell (in_hand x.task) w
