-- The commits below each stamp of a run are a serial run: the laws, as statements.
use Rattle.std.specs.Prelude.{◌≡◌, List}
use Rattle.erm_model.specs.Database.{Database}
use Rattle.erm_node.specs.TreeMap.{map_of_rows}
use Rattle.erm_world.specs.World.{View}
use Rattle.erm_good_report.specs.Transactions.{Said, history_of}
use Rattle.erm_invariant.specs.Commits.{EachFrontRuns}
use Rattle.erm_lines.specs.Laws.{OfCourses}
use Rattle.erm_told_order.specs.Told.{IsTold, told_in}

-- the commits that are told of a world, those below any stamp, give their replies in the serial order
abbrev pub ToldFrontsRun : Type 0
ToldFrontsRun = (f : View) (said : List Said) → IsTold f said → (opening : Database) → opening ≡ map_of_rows f.opening.rows → EachFrontRuns (history_of (told_in f said)) opening

-- so do those that a run so far tells
abbrev pub CoursesRunInFronts : Type 0
CoursesRunInFronts = OfCourses (λ opening script answers closed told. EachFrontRuns (history_of told) opening.map)
