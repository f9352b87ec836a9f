-- The row of a version, in whatever state a book is one of.
use Rattle.std.specs.Prelude.{◌≡◌, ℕ, List}
use Rattle.erm_machine.specs.declared.version.VersionAt.{VersionAt}
use Rattle.erm_machine.specs.Core.{Core, version_at}
use Rattle.erm_rule.specs.declared.view.Book.{Book}
use Rattle.erm_rule.specs.Books.{IsBookOf}

-- the row of a version
abbrev pub row_of : Core → VersionAt → List ℕ
row_of c version = (version_at (c.shared.objects version.oid) version.place).words.row

-- the version has this row, whatever state the book is one of
abbrev pub IsRowOf : Book → VersionAt → List ℕ → Type 0
IsRowOf b version row = (c : Core) → IsBookOf b c → row_of c version ≡ row
