-- What the answers and the ends of a run so far owe, with the sessions that it closed: the law, as a statement.
use Rattle.erm_good_report.specs.GoodReport.{OwesToAnswers}
use Rattle.erm_good_report.specs.Opening.{InTurn}
use Rattle.erm_lines.specs.Laws.{OfCourses}

abbrev pub CoursesOwe : Type 0
CoursesOwe = OfCourses (λ opening script answers closed told. OwesToAnswers InTurn opening script answers told)
