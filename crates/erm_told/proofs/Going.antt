-- Sessions that go on, step by step.
use Rattle.std.proofs.Common.{◌≡◌, ℕ, List, [], ◌∷◌, ◌++◌, map, append-nil, append_assoc, refl, sym, ap, ◌∙◌, subst, inl, inr}
use Rattle.erm_world.specs.Going.{Extends, found_by}
use Rattle.erm_world.specs.Onward.{extends_then}
use Rattle.erm_world.specs.World.{Finished, Session, Stand, Work, stamp_of}
use Rattle.erm_world.specs.World as world
use Rattle.erm_lines.specs.Told.{Continues, IsLater, IsStillSealed}

-- a transaction has what it had
pub extends_itself : (w : Work) → Extends w w
extends_itself w = record {
  number = refl;
  begin = refl;
  read = [];
  reads = sym (append-nil w.reads);
  claimed = [];
  claims = sym (append-nil (map found_by w.claims));
  more = [];
  made = sym (append-nil w.made);
}

-- what was in progress went on
abbrev pub Passes : Stand → Session → Type 0
Passes world.idle t = Unit {0}
Passes (world.active w) t = IsLater w t
Passes (world.sealed w stamp) t = IsStillSealed w stamp t
Passes (world.snapshot s) t = Unit {0}

pub continues : (s t : Session) (more : List Finished) → t.over ≡ s.over ++ more → Passes s.stand t → Continues s t
continues s t more over passes = record {
  more = more;
  over = over;
  active = λ w is. subst (λ (stand : Stand). Passes stand t) is passes;
  sealed = λ w stamp is. subst (λ (stand : Stand). Passes stand t) is passes;
}

pub continues_from : (s t : Session) (stand : Stand) → s.stand ≡ stand → (more : List Finished) → t.over ≡ s.over ++ more → Passes stand t → Continues s t
continues_from s t stand is more over passes = continues s t more over (subst (λ (at : Stand). Passes at t) (sym is) passes)

-- a transaction that stands as it did
passes_still : (stand : Stand) (s : Session) → s.stand ≡ stand → Passes stand s
passes_still world.idle s is = tt
passes_still (world.active w) s is = (w, extends_itself w, inl is)
passes_still (world.sealed w stamp) s is = inl is
passes_still (world.snapshot r) s is = tt

-- a session that is the same
pub continues_itself : (s t : Session) → t ≡ s → Continues s t
continues_itself s t is =
    continues s t [] (ap (λ (r : Session). r.over) is ∙ sym (append-nil s.over)) (passes_still s.stand t (ap (λ (r : Session). r.stand) is))

-- one that is over stays so
stays_over : (front rest more : List Finished) (f : Finished) (over then_over : List Finished) → over ≡ front ++ f ∷ rest → then_over ≡ over ++ more
    → then_over ≡ front ++ f ∷ (rest ++ more)
stays_over front rest more f over then_over first second =
    second ∙ ap (λ (list : List Finished). list ++ more) first ∙ append_assoc front (f ∷ rest) more

later_then : (w : Work) (t r : Session) → IsLater w t → Continues t r → IsLater w r
later_then w t r (u, went, inl active) second =
    let later = second.active u active in
    (later.0, extends_then w u later.0 went later.1, later.2)
later_then w t r (u, went, inr (inl (stamp, sealed))) second = (
  u,
  went,
  elim (second.sealed u stamp sealed) [
    | inl still ↦ inr (inl (stamp, still))
    | inr over ↦ inr (inr (over.0, over.1, over.2, over.3, over.4))
  ],
)
later_then w t r (u, went, inr (inr (f, rest, front, over, is))) second =
    (u, went, inr (inr (f, rest ++ second.more, front, stays_over front rest second.more f t.over r.over over second.over, is)))

still_then : (w : Work) (stamp : ℕ) (t r : Session) → IsStillSealed w stamp t → Continues t r → IsStillSealed w stamp r
still_then w stamp t r (inl still) second = second.sealed w stamp still
still_then w stamp t r (inr (f, rest, front, over, is, stamped)) second =
    inr (f, rest ++ second.more, front, stays_over front rest second.more f t.over r.over over second.over, is, stamped)

-- a session that goes on twice
pub continues_then : (s t r : Session) → Continues s t → Continues t r → Continues s r
continues_then s t r first second = record {
  more = first.more ++ second.more;
  over = second.over ∙ ap (λ (list : List Finished). list ++ second.more) first.over ∙ append_assoc s.over first.more second.more;
  active = λ w is. later_then w t r (first.active w is) second;
  sealed = λ w stamp is. still_then w stamp t r (first.sealed w stamp is) second;
}
