-- A session as it is told, in the place of one as it ended: an aborted transaction may have read more, an active one may have been sealed, an idle
-- session may have begun a snapshot, and one's snapshot may have ended.
use Rattle.std.proofs.Common.{◌≡◌, ℕ, zero, suc, ◌+◌, ◌≤◌, ◌⊎◌, false, List, [], ◌∷◌, ◌++◌, length, sum_by, slice_get, Some, None, inl, inr, refl, sym, ap, ◌∙◌, subst, arith}
use Rattle.std.proofs.lemmas.Grind.{flat_map-append}
use Rattle.std.proofs.lemmas.List.{append-nil}
use Rattle.std.proofs.lemmas.List.Sums.{sum_by-append, sum_by-cons}
use Rattle.erm_model.specs.History.{History}
use Rattle.erm_model.specs.Lawful.{times_made}
use Rattle.erm_model.specs.Member.{◌∈◌}
use Rattle.erm_model.proofs.Members.{none_in_nil}
use Rattle.erm_machine.proofs.Listed.{∈-cons, ∈-either, ∈-first}
use Rattle.erm_world.specs.Laws.{IsNumbered}
use Rattle.erm_world.specs.World.{Finished, IsCurrent, IsOver, IsWorking, Session, Snapshot, Work, claims_in, commit_of, committed_in, made_in, stamp_of, work_of}
use Rattle.erm_world.specs.World as world
use Rattle.erm_world.proofs.Lists.{∈-last}
use Rattle.erm_lines_at_once.specs.Ends.{one_below, sealed_in}
use Rattle.erm_causes_at_once.proofs.Sealed.{one_most}
use Rattle.erm_cut_at_once.proofs.Rereading.{HasReadMore, read_itself}

-- a transaction of a session, and one with a stamp
abbrev pub HasIn : Session → Work → Type 0
HasIn s w = IsOver s.over w ⊎ IsCurrent s.stand w

abbrev pub StampedIn : Session → Work → ℕ → Type 0
StampedIn s w stamp = ((f : Finished) × (f ∈ s.over) × (f.work ≡ w) × (stamp_of f.fate ≡ Some stamp)) ⊎ (s.stand ≡ world.sealed w stamp)

-- a snapshot that the session, which is told idle, has begun, as its next transaction
pub record IsUntold (s : Session) (u : Work) : Type 0 where
  pub idle : s.stand ≡ world.idle
  pub begin : ℕ
  pub bare : u ≡ world.begun (length s.over + 1) begin

-- a transaction that is told, but for reads, or a snapshot that isn't
abbrev pub ToldOrNot : Session → Work → Type 0
ToldOrNot s u = ((w : Work) × HasIn s w × HasReadMore w u) ⊎ IsUntold s u

-- the one stands for the other, which was sealed, where it was, once more
pub record StandsFor (drew : ℕ) (s t : Session) : Type 0 where
  pub commits : (seat : ℕ) → committed_in seat s.over ≡ committed_in seat t.over
  pub made : (x : ℕ) → made_in s x ≡ made_in t x
  pub claims : claims_in s ≡ claims_in t
  pub current : (work_of s.stand).claims ≡ (work_of t.stand).claims
  pub was : (w : Work) → HasIn s w → (u : Work) × HasIn t u × HasReadMore w u
  pub is : (u : Work) → HasIn t u → ToldOrNot s u
  pub working : (w : Work) → IsWorking s.stand w → IsWorking t.stand w
  pub stamped : (w : Work) (stamp : ℕ) → StampedIn s w stamp → StampedIn t w stamp
  pub numbered : IsNumbered t → IsNumbered s
  pub excluded : (w : Work) (stamp succ pred : ℕ) → record { work = w; fate = world.excluded stamp succ pred } ∈ s.over → record { work = w; fate = world.excluded stamp succ pred } ∈ t.over
  pub sealed : (bound : ℕ) → sealed_in bound t ≤ sealed_in bound s + drew

pub stands_itself : (s : Session) → StandsFor 0 s s
stands_itself s = record {
  commits = λ seat. refl;
  made = λ x. refl;
  claims = refl;
  current = refl;
  was = λ w has. (w, has, read_itself w);
  is = λ u has. inl (u, has, read_itself u);
  working = λ w now. now;
  stamped = λ w stamp has. has;
  numbered = λ is. is;
  excluded = λ w stamp succ pred m. m;
  sealed = λ bound. omega arith;
}

-- IT WAS SEALED
pub stands_unsealed : (over : List Finished) (w : Work) (stamp : ℕ) → StandsFor 1 (record { over = over; stand = world.active w }) (record { over = over; stand = world.sealed w stamp })
stands_unsealed over w stamp = record {
  commits = λ seat. refl;
  made = λ x. refl;
  claims = refl;
  current = refl;
  was = λ x has. (x, has, read_itself x);
  is = λ x has. inl (x, has, read_itself x);
  working = λ x now. now;
  stamped = λ x at has. elim has as (λ _. StampedIn (record { over = over; stand = world.sealed w stamp }) x at) [ inl old ↦ inl old | inr now ↦ absurd (cc now) ];
  numbered = λ is. record { over = is.over; now = λ x now. is.now x now };
  excluded = λ x at succ pred m. m;
  sealed = λ bound. omega (arith, one_most bound (Some stamp));
}

-- IT READ MORE before it was aborted
abbrev aborted : Work → Finished
aborted w = record { work = w; fate = world.aborts }

only_one : (w : Work) (f : Finished) → f ∈ aborted w ∷ [] → aborted w ≡ f
only_one w f m = elim (∈-cons f (aborted w) [] m) as (λ _. aborted w ≡ f) [ inl is ↦ is | inr none ↦ absurd (none_in_nil f none) ]

no_commit : (seat : ℕ) (over : List Finished) (w : Work) → committed_in seat (over ++ aborted w ∷ []) ≡ committed_in seat over ++ []
no_commit seat over w = flat_map-append (λ (f : Finished). commit_of seat f.work f.fate) over (aborted w ∷ [])

ended_sum : (count : Finished → ℕ) (over : List Finished) (w u : Work) → count (aborted w) ≡ count (aborted u) → sum_by count (over ++ aborted w ∷ []) ≡ sum_by count (over ++ aborted u ∷ [])
ended_sum count over w u same =
    omega (arith, sum_by-append count over (aborted w ∷ []), sum_by-append count over (aborted u ∷ []), sum_by-cons count (aborted w) [], sum_by-cons count (aborted u) [], same)

module _ (over : List Finished) (w u : Work) (more : HasReadMore w u) where
  has_ended : (x y : Work) → IsOver (over ++ aborted x ∷ []) y → (IsOver over y) ⊎ (x ≡ y)
  has_ended x y (f, m, is) = elim (∈-either over (aborted x ∷ []) f m) [
    | inl old ↦ inl (f, old, is)
    | inr last ↦ inr (ap (λ (g : Finished). g.work) (only_one x f last) ∙ is)
  ]

  is_older : (x y : Work) → IsOver over y → IsOver (over ++ aborted x ∷ []) y
  is_older x y (f, m, is) = (f, ∈-first over (aborted x ∷ []) f m, is)

  was_there : (x : Work) → IsOver (over ++ aborted w ∷ []) x → (y : Work) × IsOver (over ++ aborted u ∷ []) y × HasReadMore x y
  was_there x has = elim (has_ended w x has) [
    | inl old ↦ (x, is_older u x old, read_itself x)
    | inr last ↦ (u, (aborted u, ∈-last over (aborted u), refl), subst (λ (z : Work). HasReadMore z u) last more)
  ]

  is_there : (y : Work) → IsOver (over ++ aborted u ∷ []) y → (x : Work) × IsOver (over ++ aborted w ∷ []) x × HasReadMore x y
  is_there y has = elim (has_ended u y has) [
    | inl old ↦ (y, is_older w y old, read_itself y)
    | inr last ↦ (w, (aborted w, ∈-last over (aborted w), refl), subst (λ (z : Work). HasReadMore w z) last more)
  ]

  kept_fate : (f : Finished) → f ∈ over ++ aborted w ∷ [] → (stamp_of f.fate ≡ None → ⊥) → f ∈ over ++ aborted u ∷ []
  kept_fate f m some = elim (∈-either over (aborted w ∷ []) f m) as (λ _. f ∈ over ++ aborted u ∷ []) [
    | inl old ↦ ∈-first over (aborted u ∷ []) f old
    | inr last ↦ absurd (some (sym (ap (λ (g : Finished). stamp_of g.fate) (only_one w f last))))
  ]

  -- at each place one with the same number
  same_number : (fs : List Finished) (k : ℕ) (f : Finished) → slice_get (fs ++ aborted w ∷ []) k ≡ Some f → (g : Finished) × (slice_get (fs ++ aborted u ∷ []) k ≡ Some g) × (g.work.number ≡ f.work.number)
  same_number [] zero f at = (aborted u, refl, more.number ∙ ap (λ (x : Finished). x.work.number) (the_one (aborted w) f at))
    where
      the_one : (x y : Finished) → Some x ≡ Some y → x ≡ y
      the_one x y is = cc
  same_number [] (suc k) f at = absurd (cc)
  same_number (g ∷ fs) zero f at = (f, at, refl)
  same_number (g ∷ fs) (suc k) f at = same_number fs k f at

  pub stands_reread : StandsFor 0 (record { over = over ++ record { work = w; fate = world.aborts } ∷ []; stand = world.idle }) (record { over = over ++ record { work = u; fate = world.aborts } ∷ []; stand = world.idle })
  stands_reread = record {
    commits = λ seat. no_commit seat over w ∙ sym (no_commit seat over u);
    made = λ x. omega (arith, ended_sum (λ (f : Finished). times_made f.work.made x) over w u (ap (λ (os : List ℕ). times_made os x) (sym more.made)));
    claims = omega (arith, ended_sum (λ (f : Finished). length f.work.claims) over w u (ap length (sym more.claims)));
    current = refl;
    was = λ x has. elim has [ inl over_was ↦ let (y, there, reads) = was_there x over_was in (y, inl there, reads) | inr now ↦ absurd now ];
    is = λ y has. elim has as (λ _. ToldOrNot (record { over = over ++ aborted w ∷ []; stand = world.idle }) y) [
      | inl over_is ↦ let (x, there, reads) = is_there y over_is in inl (x, inl there, reads)
      | inr now ↦ absurd now
    ];
    working = λ x now. absurd now;
    stamped = λ x stamp has. elim has [
      | inl (f, m, is, at) ↦ inl (f, kept_fate f m (λ none. let no : None ≡ Some stamp = sym none ∙ at in cc), is, at)
      | inr now ↦ absurd (cc now)
    ];
    numbered = λ is. record {
      over = λ k f at. let (g, there, same) = same_number over k f at in sym same ∙ is.over k g there;
      now = λ x now. absurd now;
    };
    excluded = λ x stamp succ pred m. kept_fate (record { work = x; fate = world.excluded stamp succ pred }) m (λ none. absurd (cc none));
    sealed = λ bound. omega (arith, ended_sum (λ (f : Finished). one_below bound (stamp_of f.fate)) over w u refl);
  }

-- IT BEGAN A SNAPSHOT, which no line tells.
abbrev pub watching : List Finished → ℕ → Session
watching over begin = record { over = over; stand = world.snapshot (record { number = length over + 1; begin = begin; is_safe = false }) }

pub stands_unwatched : (over : List Finished) (begin : ℕ) → StandsFor 0 (record { over = over; stand = world.idle }) (watching over begin)
stands_unwatched over begin = record {
  commits = λ seat. refl;
  made = λ x. refl;
  claims = refl;
  current = refl;
  was = λ w has. elim has as (λ _. (u : Work) × HasIn (watching over begin) u × HasReadMore w u) [
    | inl old ↦ (w, inl old, read_itself w)
    | inr now ↦ absurd now
  ];
  is = λ u has. elim has as (λ _. ToldOrNot (record { over = over; stand = world.idle }) u) [
    | inl old ↦ inl (u, inl old, read_itself u)
    | inr now ↦ inr (record { idle = refl; begin = begin; bare = sym now })
  ];
  working = λ w now. absurd now;
  stamped = λ w stamp has. elim has as (λ _. StampedIn (watching over begin) w stamp) [ inl old ↦ inl old | inr now ↦ absurd (cc now) ];
  numbered = λ is. record { over = is.over; now = λ w now. absurd now };
  excluded = λ w stamp succ pred m. m;
  sealed = λ bound. omega arith;
}

-- ITS SNAPSHOT ENDED, behind its last line.
abbrev of_snapshot : Snapshot → Work
of_snapshot x = world.begun x.number x.begin

module _ (over : List Finished) (x : Snapshot) where
  abbrev told_so : Session
  told_so = record { over = over; stand = world.snapshot x }

  abbrev ended_so : Session
  ended_so = record { over = over ++ aborted (of_snapshot x) ∷ []; stand = world.idle }

  ended_was : (w : Work) → HasIn told_so w → HasIn ended_so w
  ended_was w (inl (g, m, is)) = inl (g, ∈-first over (aborted (of_snapshot x) ∷ []) g m, is)
  ended_was w (inr now) = inl (aborted (of_snapshot x), ∈-last over (aborted (of_snapshot x)), now)

  ended_is : (w : Work) → HasIn ended_so w → HasIn told_so w
  ended_is w (inr now) = absurd now
  ended_is w (inl (g, m, is)) = elim (∈-either over (aborted (of_snapshot x) ∷ []) g m) as (λ _. HasIn told_so w) [
    | inl old ↦ inl (g, old, is)
    | inr last ↦ inr (ap (λ (h : Finished). h.work) (only_one (of_snapshot x) g last) ∙ is)
  ]

  one_more : (count : Finished → ℕ) → count (aborted (of_snapshot x)) ≡ 0 → sum_by count over ≡ sum_by count (over ++ aborted (of_snapshot x) ∷ [])
  one_more count none = omega (arith, sum_by-append count over (aborted (of_snapshot x) ∷ []), sum_by-cons count (aborted (of_snapshot x)) [], none)

  -- an aborted one has no stamp and was not excluded
  kept_over : (g : Finished) → g ∈ ended_so.over → (stamp_of g.fate ≡ None → ⊥) → g ∈ over
  kept_over g m some = elim (∈-either over (aborted (of_snapshot x) ∷ []) g m) as (λ _. g ∈ over) [
    | inl old ↦ old
    | inr last ↦ absurd (some (sym (ap (λ (h : Finished). stamp_of h.fate) (only_one (of_snapshot x) g last))))
  ]

  ended_stamped : (w : Work) (stamp : ℕ) → StampedIn told_so w stamp → StampedIn ended_so w stamp
  ended_stamped w stamp (inl (g, m, is, at)) = inl (g, ∈-first over (aborted (of_snapshot x) ∷ []) g m, is, at)
  ended_stamped w stamp (inr now) = absurd (cc now)

  ended_numbered : IsNumbered ended_so → IsNumbered told_so
  ended_numbered is = record {
    over = λ k g at. is.over k g (found over k g at);
    now = λ w now. let last = is.over (length over) (aborted (of_snapshot x)) (at_end over) in omega (arith, last, ap (λ (u : Work). u.number) now);
  }
    where
      found : (gs : List Finished) (k : ℕ) (g : Finished) → slice_get gs k ≡ Some g → slice_get (gs ++ aborted (of_snapshot x) ∷ []) k ≡ Some g
      found [] k g at = absurd (cc at)
      found (h ∷ gs) zero g at = at
      found (h ∷ gs) (suc k) g at = found gs k g at

      at_end : (gs : List Finished) → slice_get (gs ++ aborted (of_snapshot x) ∷ []) (length gs) ≡ Some (aborted (of_snapshot x))
      at_end [] = refl
      at_end (h ∷ gs) = at_end gs

  pub stands_ended : StandsFor 0 (record { over = over; stand = world.snapshot x }) (record { over = over ++ record { work = world.begun x.number x.begin; fate = world.aborts } ∷ []; stand = world.idle })
  stands_ended = record {
    commits = λ seat. append_none (committed_in seat over) ∙ sym (no_commit seat over (of_snapshot x));
    made = λ y. omega (arith, one_more (λ (g : Finished). times_made g.work.made y) refl);
    claims = omega (arith, one_more (λ (g : Finished). length g.work.claims) refl);
    current = refl;
    was = λ w has. (w, ended_was w has, read_itself w);
    is = λ w has. inl (w, ended_is w has, read_itself w);
    working = λ w now. absurd now;
    stamped = ended_stamped;
    numbered = ended_numbered;
    excluded = λ w stamp succ pred m. ∈-first over (aborted (of_snapshot x) ∷ []) (record { work = w; fate = world.excluded stamp succ pred }) m;
    sealed = λ bound. omega (arith, one_more (λ (g : Finished). one_below bound (stamp_of g.fate)) refl);
  }
    where
      append_none : (h : History) → h ≡ h ++ []
      append_none h = sym (append-nil h)
