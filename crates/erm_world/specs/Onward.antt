-- A session that goes on, and goes on again, has gone on.
use Rattle.std.proofs.Common.{◌≡◌, ℕ, ◌++◌, [], ◌∷◌, List, append_assoc, refl, sym, ap, ◌∙◌, subst, map}
use Rattle.erm_model.specs.declared.outcome.Phase.TheVariants.{Active}
use Rattle.erm_world.specs.Face.{Goes, Grows, ends, same, works}
use Rattle.erm_world.specs.Going.{Extends, found_by}
use Rattle.erm_world.specs.World.{Finished, IsCurrent, Session, Stand, View, Work, phase_of, work_of}
use Rattle.erm_world.specs.World as world

-- a list that was lengthened twice
longer : {X : Type 0} (xs ys zs more then_more : List X) → ys ≡ xs ++ more → zs ≡ ys ++ then_more → zs ≡ xs ++ (more ++ then_more)
longer {X} xs ys zs more then_more first second =
    second ∙ ap (λ (list : List X). list ++ then_more) first ∙ append_assoc xs more then_more

-- what a transaction had before it went on twice
pub extends_then : (w u x : Work) → Extends w u → Extends u x → Extends w x
extends_then w u x first second = record {
  number = second.number ∙ first.number;
  begin = second.begin ∙ first.begin;
  read = first.read ++ second.read;
  reads = longer w.reads u.reads x.reads first.read second.read first.reads second.reads;
  claimed = first.claimed ++ second.claimed;
  claims = longer (map found_by w.claims) (map found_by u.claims) (map found_by x.claims) first.claimed second.claimed first.claims second.claims;
  more = first.more ++ second.more;
  made = longer w.made u.made x.made first.more second.more first.made second.made;
}

-- one transaction is in progress, or none
one_in_progress : (stand : Stand) (u w : Work) → stand ≡ world.active u → stand ≡ world.active w → w ≡ u
one_in_progress stand u w first second = ap work_of (sym second ∙ first)

none_in_progress : (stand : Stand) (w : Work) → stand ≡ world.idle → stand ≡ world.active w → ⊥
none_in_progress stand w idle active = subst (λ (at : Stand). IsCurrent at w) (sym active ∙ idle) refl

-- the transaction that has gone on is the one that goes on again
from_there : (stand : Stand) (w u y x : Work) → stand ≡ world.active u → stand ≡ world.active y → Extends w u → Extends y x → Extends w x
from_there stand w u y x first second went goes =
    extends_then w u x went (subst (λ (at : Work). Extends at x) (one_in_progress stand u y first second) goes)

-- a session that goes on twice
pub grows_then : (s t r : Session) → Grows s t → Grows t r → Grows s r
grows_then s t r (same e) second = subst (λ (at : Session). Grows at r) e second
grows_then s t r (works w u begins over stands went) (same e) =
    subst (λ (at : Session). Grows s at) (sym e) (works w u begins over stands went)
grows_then s t r (works w u begins over stands went) (works y x then_begins then_over then_stands goes) =
    works w x begins (then_over ∙ over) then_stands (from_there t.stand w u y x stands then_begins went goes)
grows_then s t r (works w u begins over stands went) (ends y x then_begins then_over then_stands goes) =
    ends w x begins (then_over ∙ ap (λ (list : List Finished). list ++ record { work = x; fate = world.aborts } ∷ []) over) then_stands
    (from_there t.stand w u y x stands then_begins went goes)
grows_then s t r (ends w u begins over stands went) (same e) =
    subst (λ (at : Session). Grows s at) (sym e) (ends w u begins over stands went)
grows_then s t r (ends w u begins over stands went) (works y x then_begins then_over then_stands goes) =
    absurd (none_in_progress t.stand y stands then_begins)
grows_then s t r (ends w u begins over stands went) (ends y x then_begins then_over then_stands goes) =
    absurd (none_in_progress t.stand y stands then_begins)

-- one that is active after it went on was so before
pub active_before : (s t : Session) → Grows s t → phase_of t.stand ≡ Active → phase_of s.stand ≡ Active
active_before s t (same e) active = ap (λ (at : Session). phase_of at.stand) (sym e) ∙ active
active_before s t (works w u begins over stands went) active = ap phase_of begins
active_before s t (ends w u begins over stands went) active = ap phase_of begins

-- a world in which nothing happened
pub goes_itself : (v : View) (seat : ℕ) → Goes v seat v
goes_itself v seat = record { own = same refl; others = λ q another. refl; opening = refl; tail = refl; flushed = refl; pinned = refl; saves = λ active. refl; saves_of_others = λ q another. refl }

-- a world in which one session goes on twice
pub goes_then : (v t u : View) (seat then_seat : ℕ) → then_seat ≡ seat → Goes v seat t → Goes t then_seat u → Goes v seat u
goes_then v t u seat then_seat is first later =
    let second = subst (λ (at : ℕ). Goes t at u) is later in record {
      own = grows_then (v.session seat) (t.session seat) (u.session seat) first.own second.own;
      others = λ q another. second.others q another ∙ first.others q another;
      opening = second.opening ∙ first.opening;
      tail = second.tail ∙ first.tail;
      flushed = second.flushed ∙ first.flushed;
      pinned = second.pinned ∙ first.pinned;
      saves = λ active. second.saves active ∙ first.saves (active_before (t.session seat) (u.session seat) second.own active);
      saves_of_others = λ q another. second.saves_of_others q another ∙ first.saves_of_others q another;
    }
