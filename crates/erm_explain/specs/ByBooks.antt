-- Causes by what the books have.
use Rattle.std.specs.Prelude.{◌≡◌, ◌≢◌, ℕ, ◌<◌, ◌≤◌, List, [], ◌∷◌, ◌++◌, take, slice_index_or, Option, Some, None, IfSome, if◌then◌else◌}
use Rattle.std.specs.Option.{option_to_list}
use Rattle.erm_report.specs.declared.answer.Answer.{Answer}
use Rattle.erm_script.specs.declared.script.ScriptLine.{ScriptLine}
use Rattle.erm_good_report.specs.Transactions.{nothing, progress_of, said_of, works_on_map}
use Rattle.erm_explain.specs.declared.books.Books.{Books}
use Rattle.erm_explain.specs.declared.cause.Cause.{Cause}
use Rattle.erm_explain.specs.declared.cause.Cause.TheVariants.{Line, Window, Missing}
use Rattle.erm_explain.specs.declared.links.Link.{Link}
use Rattle.erm_explain.specs.declared.links.Sought.TheVariants.{After, Before, Newer}
use Rattle.erm_explain.specs.declared.links.Touch.TheVariants.{Overwrites}
use Rattle.erm_explain.specs.declared.told.Told.{Told}
use Rattle.erm_explain.specs.Books.{ArePlaced, HasProgress}
use Rattle.erm_explain.specs.Links.{Apart, IsFound, Links, NoneIsFound}

-- the books have what the lines before a place told of each session, and nothing of lines that name none
pub record HasTold (script : List ScriptLine) (answers : List Answer) (place : ℕ) (books : Books) : Type 0 where
  pub progress : (s : ℕ) → 0 < s → HasProgress script answers books s (progress_of s (take place (said_of script answers)))
  pub none : HasProgress script answers books 0 nothing
  pub placed : ArePlaced script answers books

-- a session's current transaction
abbrev pub IsCurrent : Books → ℕ → Told → Type 0
IsCurrent books session t = slice_index_or books.current.items session None ≡ Some t

-- the owner's line, or none
pub record IsOwner (books : Books) (script : List ScriptLine) (place session seat number : ℕ) (link : Link) : Type 0 where
  pub another : seat ≢ session
  pub told : Told
  pub current : IsCurrent books seat told
  pub number_is : told.number ≡ number
  pub links : Links script Overwrites told.lines.items (place ∷ []) link

abbrev pub IsOwned : Books → List ScriptLine → (place session seat number : ℕ) → Cause → Type 0
IsOwned books script place session seat number (Line link) = IsOwner books script place session seat number link
IsOwned books script place session seat number Missing = seat ≢ session → (told : Told) → IsCurrent books seat told → told.number ≡ number
    → Apart script Overwrites told.lines.items (place ∷ [])
IsOwned books script place session seat number cause = ⊥

-- the newer commit's line, or none
abbrev pub IsNewer : Books → List ScriptLine → (place session stamp : ℕ) → Cause → Type 0
IsNewer books script place session stamp (Line link) = (own : Told) × IsCurrent books session own × IsFound script (Newer session own.begin stamp) books.over.items (place ∷ []) link
IsNewer books script place session stamp Missing = (own : Told) → IsCurrent books session own → NoneIsFound script (Newer session own.begin stamp) books.over.items (place ∷ [])
IsNewer books script place session stamp cause = ⊥

-- the own places, with that of the line, if it works on the map
abbrev pub places_with : Told → ScriptLine → ℕ → List ℕ
places_with own line place = own.lines.items ++ option_to_list (if works_on_map line.command then Some place else None)

-- the lines that close a window, or none
pub record Closes (books : Books) (script : List ScriptLine) (place : ℕ) (line : ScriptLine) (bound : Option ℕ) (succ pred : ℕ) (after before : Link) : Type 0 where
  pub own : Told
  pub current : IsCurrent books line.session own
  pub closed : succ ≤ pred
  pub below : IfSome bound (λ stamp. pred < stamp)
  pub overwrites : IsFound script (After own.begin bound succ) books.over.items (places_with own line place) after
  pub touched : IsFound script (Before pred) books.over.items (places_with own line place) before

abbrev pub IsExcluded : Books → List ScriptLine → ℕ → ScriptLine → Option ℕ → (succ pred : ℕ) → Cause → Type 0
IsExcluded books script place line bound succ pred (Window after before) = Closes books script place line bound succ pred after before
IsExcluded books script place line bound succ pred Missing = (after before : Link) → Closes books script place line bound succ pred after before → ⊥
IsExcluded books script place line bound succ pred cause = ⊥

abbrev pub line_or_missing : Option Link → Cause
line_or_missing (Some link) = Line link
line_or_missing None = Missing

abbrev pub window_of : Option Link → Option Link → Cause
window_of (Some after) (Some before) = Window after before
window_of after before = Missing
