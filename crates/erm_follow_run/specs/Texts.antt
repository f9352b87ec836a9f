-- What is printed of a stream that is followed.
use Rattle.std.specs.Prelude.{ℕ, zero, suc, ◌++◌, List, [], ◌∷◌, codes, map}
use Rattle.std.specs.Fmt.{decimal}
use Rattle.erm_model.specs.declared.history.Commit.{Commit}
use Rattle.erm_report.specs.Texts.{line_text, text_of}
use Rattle.erm_report.specs.declared.line.Line.{Line}
use Rattle.erm_report.specs.declared.line.Line.TheVariants as line

-- the line of a commit
abbrev pub logged : Commit → Line
logged c = line.LoggedCommit c.seat c.number c.stamp c.succ

-- the lines of commits
abbrev pub lines_text : List Commit → List ℕ
lines_text commits = text_of (map logged commits)

-- words, a number, and the line's end
abbrev pub number_text : List ℕ → ℕ → List ℕ
number_text words n = words ++ decimal n ++ 10 ∷ []

-- how many bytes are left, where there are any
abbrev pub rest_text : ℕ → List ℕ
rest_text zero = []
rest_text (suc n) = number_text (codes "rest ") (suc n)

-- the end: how many commits wait, what bytes are left, and that this is all
abbrev pub end_text : ℕ → ℕ → List ℕ
end_text pending rest = number_text (codes "pending ") pending ++ rest_text rest ++ line_text line.End

-- in its place: the place of what is no item of a stream
abbrev pub bad_text : ℕ → List ℕ
bad_text place = number_text (codes "bad stream ") place

-- in its place: a safe stamp, and the stamp of the commit that breaks it
abbrev pub broken_text : ℕ → ℕ → List ℕ
broken_text safe stamp = codes "broken mark " ++ decimal safe ++ number_text (codes " commit ") stamp
