-- What is told of the items that a stream has, and why there is no more.
use Rattle.std.specs.Prelude.{◌≡◌, ℕ, ◌++◌, List, [], length, Option, Some, None}
use Rattle.erm_model.specs.declared.history.Commit.{Commit}
use Rattle.erm_follow.specs.declared.seen.Broken.{Broken}
use Rattle.erm_follow.specs.declared.seen.Seen.{Seen}
use Rattle.erm_follow.specs.Follow.{BreaksNow, Followed}
use Rattle.erm_replica.specs.Stream.{HasNext, IsShort, IsUnreadable, Part, Streamed}
use Rattle.erm_follow_run.specs.declared.halt.Halt.{Halt}
use Rattle.erm_follow_run.specs.declared.halt.Halt.TheVariants as halt
use Rattle.erm_follow_run.specs.Following.{Following, IsBelow, seen_in}
use Rattle.erm_follow_run.specs.Texts.{lines_text}

-- from one state to another these commits were told
abbrev pub Leads : Streamed → Followed → List Commit → Streamed → Followed → Type 0
Leads s f new t g = (bytes : List ℕ) (lines : List Commit) → Following bytes s f lines → Following bytes t g (lines ++ new)

-- the next part shows a commit that breaks a safe stamp
pub record IsBroken (s : Streamed) (f : Followed) (b : Broken) : Type 0 where
  pub part : Part
  pub there : HasNext s part
  pub seen : Seen
  pub seen_is : seen_in part ≡ Some seen
  pub after : Followed
  pub breaks : BreaksNow f seen b after

-- Why no more is told in a state: the next item isn't there yet, or never will be; or it breaks a safe stamp; or memory ran out.
abbrev pub HaltsIn : Streamed → Followed → Halt → Type 0
HaltsIn s f (halt.NotYet bytes) = IsShort s.log s.rest × (bytes ≡ length s.rest)
HaltsIn s f (halt.Bad place) = IsUnreadable s.log s.rest × (place ≡ s.place)
HaltsIn s f (halt.Broken b) = IsBroken s f b
HaltsIn s f halt.Memory = Unit {0}

-- why a follower tells nothing of a block: a commit breaks a safe stamp, or memory ran out
abbrev pub StopsHearing : Option Seen → Followed → Halt → Type 0
StopsHearing (Some s) f (halt.Broken b) = (g : Followed) × BreaksNow f s b g
StopsHearing s f halt.Memory = Unit {0}
StopsHearing s f h = ⊥

-- where the next item isn't there yet, nothing is taken
abbrev pub StaysFor : Halt → Streamed → Followed → Streamed → Followed → Type 0
StaysFor (halt.NotYet bytes) s f t g = (t ≡ s) × (g ≡ f)
StaysFor h s f t g = Unit {0}

-- the lines of commits, or of some in front of them where memory ran out
pub record HasFront (commits : List Commit) (old new : List ℕ) : Type 0 where
  pub front : List Commit
  pub rest : List Commit
  pub split : commits ≡ front ++ rest
  pub added : new ≡ old ++ lines_text front

abbrev pub AreLines : Halt → List Commit → List ℕ → Type 0
AreLines halt.Memory commits text = HasFront commits [] text
AreLines h commits text = text ≡ lines_text commits

-- From one state on all items were taken, up to one where no more is told, and these are the lines of the commits that were told.
pub record DrainsTo (s : Streamed) (f : Followed) (text : List ℕ) (h : Halt) (t : Streamed) (g : Followed) : Type 0 where
  pub new : List Commit
  pub last_s : Streamed
  pub last_f : Followed
  pub leads : Leads s f new last_s last_f
  pub halts : HaltsIn last_s last_f h
  pub stays : StaysFor h last_s last_f t g
  pub lines : AreLines h new text

-- what draining keeps true from one item to the next
pub record Drains (s : Streamed) (f : Followed) (text : List ℕ) (t : Streamed) (g : Followed) : Type 0 where
  pub new : List Commit
  pub leads : Leads s f new t g
  pub lines : text ≡ lines_text new
  pub below : IsBelow t.log g
  pub whole : g.broken ≡ None
