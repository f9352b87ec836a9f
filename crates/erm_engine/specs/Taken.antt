-- A pass that takes in others, one after another: what its book keeps of theirs.
use Rattle.std.specs.Prelude.{◌≡◌, ℕ, List, [], ◌∷◌, Some}
use Rattle.erm_machine.specs.declared.part.Part.{Part}
use Rattle.erm_machine.specs.Core.{Core}
use Rattle.erm_machine.specs.Seat.{saw}
use Rattle.erm_model.specs.Member.{◌∈◌}
use Rattle.erm_ring.specs.Turns.{MayGather}
use Rattle.erm_rule.specs.declared.view.Book.{Book}
use Rattle.erm_rule.specs.declared.view.Held.{Held}
use Rattle.erm_rule.specs.declared.view.Past.{Past}
use Rattle.erm_rule.specs.Books.{IsAfter, IsBookOf, past_of}
use Rattle.erm_rule.specs.Views.{EachOnce, MayJoin, part_in}

-- the seats behind the first one
abbrev pub behind : List Held → List Held
behind [] = []
behind (h ∷ hs) = hs

-- From the first book to the second the pass has taken in those of these books. The second comes after the first, and keeps each of
-- these as it was then; and where each of its seats stands once, it has their seats, as they had them, behind its first one. The seats of the
-- first are as they were, but for what they have seen; and nothing was flushed, if its flush seat was between two turns.
pub record HasTaken (ms : List Book) (a b : Book) : Type 0 where
  pub start : b.start ≡ a.start
  pub goes : IsAfter a b
  pub joins : MayJoin b.view
  pub kept : (m : Past) → m ∈ a.past → m ∈ b.past
  pub once : EachOnce b.view.held → EachOnce a.view.held
  pub held : EachOnce b.view.held → (h : Held) → h ∈ behind a.view.held → h ∈ behind b.view.held
  pub pasts : (m : Book) → m ∈ ms → past_of m ∈ b.past
  pub seats : (m : Book) → m ∈ ms → EachOnce b.view.held → (h : Held) → h ∈ m.view.held → h ∈ behind b.view.held
  pub parts : (q : ℕ) (x : Part) → part_in a.view q ≡ Some x → (seen : ℕ) × (part_in b.view q ≡ Some (saw seen x))
  pub flushed : MayGather a.view → (place : ℕ) → ((c : Core) → IsBookOf a c → c.shared.flushed ≡ place) → (c : Core) → IsBookOf b c → c.shared.flushed ≡ place
