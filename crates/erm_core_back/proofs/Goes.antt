-- What a step makes of the transactions of the seat whose part it changes, as far as they begin, leave and are over.
use Rattle.std.proofs.Common.{◌≡◌, ℕ, ◌≤◌, ◌⊎◌, ⊎_elim, ◌∷◌, [], ◌++◌, inl, inr, refl, sym, ap, ◌∙◌, subst, arith}
use Rattle.erm_model.specs.Member.{◌∈◌}
use Rattle.erm_model.proofs.Members.{∈-push}
use Rattle.erm_machine.specs.declared.attempt.Attempt.{Attempt}
use Rattle.erm_machine.specs.declared.attempt.Decision.{Decision}
use Rattle.erm_machine.specs.declared.attempt.Decision.TheVariants.{Undecided, Commit, Abort}
use Rattle.erm_machine.specs.declared.part.Part.{Part}
use Rattle.erm_machine.specs.declared.place.Place.{Place}
use Rattle.erm_machine.specs.declared.place.Place.TheVariants.{Leaving}
use Rattle.erm_machine.specs.Back.{GoesBack, IsLeaving}
use Rattle.erm_machine.specs.Facts.{HasBegun, all_of}
use Rattle.erm_core_si.proofs.SnapshotLists.{∈-front, ∈-last}

-- the stamp of a commit that goes back stands in the back word, or a later one
abbrev pub Marked : Part → Type 0
Marked x = GoesBack x.current → x.current.stamp ≤ x.back

-- A transaction that has begun was there before, or begins at or above the tail. One that leaves is as it was: it was leaving, or its
-- begin word was cleared. One more commit that is over was leaving.
pub record Goes (tail : ℕ) (x y : Part) : Type 0 where
  pub on : HasBegun y.place → (HasBegun x.place × (y.current.begin ≡ x.current.begin)) ⊎ (tail ≤ y.current.begin)
  pub leaving : IsLeaving y.place → (y.current ≡ x.current) × (IsLeaving x.place ⊎ (HasBegun x.place × Marked x))
  pub over : (t : Attempt) → t ∈ y.over → t.decision ≡ Commit → (t ∈ x.over) ⊎ (IsLeaving x.place × (t ≡ x.current))

apart : (p : Place) → HasBegun p → IsLeaving p → ⊥
apart (Leaving stamp) begun leaving = begun
apart p begun leaving = absurd leaving

module _ (tail : ℕ) (x y : Part) where
  -- at its place
  pub goes_steady : y.place ≡ x.place → y.over ≡ x.over → y.current.begin ≡ x.current.begin → (y.current ≡ x.current) ⊎ HasBegun x.place → Goes tail x y
  goes_steady place over begin same = record {
    on = λ h. inl (subst HasBegun place h, begin);
    leaving = λ h.
        let leaves = subst IsLeaving place h in
        ⊎_elim (λ (is : y.current ≡ x.current). (is, inl leaves)) (λ (begun : HasBegun x.place). absurd (apart x.place begun leaves)) same;
    over = λ t m _. inl (subst (λ ts. t ∈ ts) over m);
  }

  pub goes_same : y.place ≡ x.place → y.over ≡ x.over → y.current ≡ x.current → Goes tail x y
  goes_same place over current = goes_steady place over (ap (λ (t : Attempt). t.begin) current) (inl current)

  -- it has not begun yet
  pub goes_early : y.over ≡ x.over → (HasBegun y.place → ⊥) → (IsLeaving y.place → ⊥) → Goes tail x y
  goes_early over begun leaving = record { on = λ h. absurd (begun h); leaving = λ h. absurd (leaving h); over = λ t m _. inl (subst (λ ts. t ∈ ts) over m) }

  -- it begins
  pub goes_new : y.over ≡ x.over → tail ≤ y.current.begin → (IsLeaving y.place → ⊥) → Goes tail x y
  goes_new over begin leaving = record { on = λ _. inr begin; leaving = λ h. absurd (leaving h); over = λ t m _. inl (subst (λ ts. t ∈ ts) over m) }

  -- it goes on
  pub goes_onward : y.over ≡ x.over → HasBegun x.place → y.current.begin ≡ x.current.begin → (IsLeaving y.place → ⊥) → Goes tail x y
  goes_onward over begun begin leaving = record { on = λ h. inl (begun, begin); leaving = λ h. absurd (leaving h); over = λ t m _. inl (subst (λ ts. t ∈ ts) over m) }

  -- it clears its begin word
  pub goes_cleared : y.over ≡ x.over → y.current ≡ x.current → HasBegun x.place → Marked x → (HasBegun y.place → ⊥) → Goes tail x y
  goes_cleared over current begun marked none = record {
    on = λ h. absurd (none h);
    leaving = λ _. (current, inr (begun, marked));
    over = λ t m _. inl (subst (λ ts. t ∈ ts) over m);
  }

  -- it is over, without a range
  pub goes_aborted : y.over ≡ x.over ++ record x.current { decision = Abort } ∷ [] → (HasBegun y.place → ⊥) → (IsLeaving y.place → ⊥) → Goes tail x y
  goes_aborted over begun leaving = record {
    on = λ h. absurd (begun h);
    leaving = λ h. absurd (leaving h);
    over = λ t m commit.
        ⊎_elim (λ (before : t ∈ x.over). inl before)
        (λ (is : t ≡ record x.current { decision = Abort }). let none = ap (λ (u : Attempt). u.decision) is in absurd (cc))
        (∈-push x.over (record x.current { decision = Abort }) t (subst (λ ts. t ∈ ts) over m));
  }

  -- it is over, and has left
  pub goes_left : y.over ≡ x.over ++ x.current ∷ [] → IsLeaving x.place → (HasBegun y.place → ⊥) → (IsLeaving y.place → ⊥) → Goes tail x y
  goes_left over left begun leaving = record {
    on = λ h. absurd (begun h);
    leaving = λ h. absurd (leaving h);
    over = λ t m _.
        ⊎_elim (λ (before : t ∈ x.over). inl before) (λ (is : t ≡ x.current). inr (left, is)) (∈-push x.over x.current t (subst (λ ts. t ∈ ts) over m));
  }

-- two transactions with the same stamps and decision
pub record Alike (t u : Attempt) : Type 0 where
  pub stamp : u.stamp ≡ t.stamp
  pub succ : u.succ ≡ t.succ
  pub decision : u.decision ≡ t.decision

pub alike_same : (t u : Attempt) → u ≡ t → Alike t u
alike_same t u e = record { stamp = ap (λ (a : Attempt). a.stamp) e; succ = ap (λ (a : Attempt). a.succ) e; decision = ap (λ (a : Attempt). a.decision) e }

-- the seat has a commit that goes back with the same stamp
abbrev pub HasAlike : Attempt → Part → Type 0
HasAlike t y = (u : Attempt) × (u ∈ all_of y) × GoesBack u × (u.stamp ≡ t.stamp)

-- the seat's commits that go back are there after a step
pub record Lasts (x y : Part) : Type 0 where
  pub each : (t : Attempt) → t ∈ all_of x → GoesBack t → HasAlike t y

back_alike : (t u : Attempt) → Alike t u → GoesBack t → GoesBack u
back_alike t u same goes = record {
  commit = same.decision ∙ goes.commit;
  less = let a = goes.less in let b = same.succ in let d = same.stamp in omega (arith, a, b, d);
}

no_commit : (t : Attempt) → t.decision ≡ Undecided → GoesBack t → ⊥
no_commit t none goes = let commit = goes.commit in absurd (cc)

-- none is over, and the current one isn't decided, or stays alike
pub lasts_on : (x y : Part) → y.over ≡ x.over → (x.current.decision ≡ Undecided) ⊎ Alike x.current y.current → Lasts x y
lasts_on x y over now = record {
  each = λ t m goes.
      ⊎_elim (λ (before : t ∈ x.over). (t, ∈-front y.over y.current t (subst (λ ts. t ∈ ts) (sym over) before), goes, refl))
      (λ (is : t ≡ x.current).
      let here = subst GoesBack is goes in
      ⊎_elim (λ (undecided : x.current.decision ≡ Undecided). absurd (no_commit x.current undecided here))
      (λ (alike : Alike x.current y.current).
      (y.current, ∈-last y.over y.current, back_alike x.current y.current alike here, alike.stamp ∙ ap (λ (a : Attempt). a.stamp) (sym is))) now)
      (∈-push x.over x.current t m);
}

pub lasts_same : (x y : Part) → y.over ≡ x.over → y.current ≡ x.current → Lasts x y
lasts_same x y over current = lasts_on x y over (inr (alike_same x.current y.current current))

-- the current one is over
pub lasts_over : (d : Decision) (x y : Part) → y.over ≡ x.over ++ record x.current { decision = d } ∷ [] → (x.current.decision ≡ Undecided) ⊎ (d ≡ x.current.decision) → Lasts x y
lasts_over d x y over now = record {
  each = λ t m goes.
      let ended : Attempt = record x.current { decision = d } in
      ⊎_elim
      (λ (before : t ∈ x.over). (t, there t (∈-front x.over ended t before), goes, refl))
      (λ (is : t ≡ x.current).
      let here = subst GoesBack is goes in
      ⊎_elim (λ (undecided : x.current.decision ≡ Undecided). absurd (no_commit x.current undecided here))
      (λ (same : d ≡ x.current.decision).
      (ended, there ended (∈-last x.over ended), back_alike x.current ended (record { stamp = refl; succ = refl; decision = same }) here, ap (λ (a : Attempt). a.stamp) (sym is))) now)
      (∈-push x.over x.current t m);
}
  where
    there : (t : Attempt) → t ∈ (x.over ++ record x.current { decision = d } ∷ []) → t ∈ all_of y
    there t m = ∈-front y.over y.current t (subst (λ ts. t ∈ ts) (sym over) m)
