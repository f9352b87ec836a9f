-- Claims after one goes back: what they found, and that the transaction goes on.
use Rattle.std.proofs.Common.{◌≡◌, refl, ℕ, zero, suc, false, List, [], ◌∷◌, ◌++◌, Some, Option, map, take, inl, inr, sym, ap, ◌∙◌, subst, append-nil}
use Rattle.std.specs.List.{slice_get}
use Rattle.std.specs.Option.{option_map}
use Rattle.std.proofs.lemmas.Option.{slice_get-map}
use Rattle.erm_model.specs.declared.history.VersionWritten.{VersionWritten}
use Rattle.erm_model.specs.History.{IsNewestBelow}
use Rattle.erm_model.specs.Member.{◌∈◌}
use Rattle.erm_model.proofs.Members.{slice_get-push}
use Rattle.erm_model.proofs.Savings.{slice_get-take}
use Rattle.erm_world.specs.Going.{Extends, found_by}
use Rattle.erm_world.specs.Laws.{SeesSnapshot}
use Rattle.erm_world.specs.Saves.{AreSavesOf, HasClaimed, OnceOf, restored, undone, with_claims}
use Rattle.erm_world.specs.World.{View, Work, history_of}

same_oid : (c d : VersionWritten) → found_by c ≡ found_by d → c.oid ≡ d.oid
same_oid c d same = ap (λ (f : ℕ × ℕ × List ℕ). f.0) same

one_at : (c d : VersionWritten) → ◌≡◌ {A = Option VersionWritten} (Some c) (Some d) → c ≡ d
one_at c d same = cc

first_found : (s c : VersionWritten) (saved claims : List VersionWritten) → HasClaimed (s ∷ saved) (c ∷ claims) → found_by c ≡ found_by s
first_found s c saved claims has =
    let first = has zero s refl in
    subst (λ (d : VersionWritten). found_by d ≡ found_by s) (sym (one_at c first.0 first.1)) first.2

rest_found : (s c : VersionWritten) (saved claims : List VersionWritten) → HasClaimed (s ∷ saved) (c ∷ claims) → HasClaimed saved claims
rest_found s c saved claims has k d at = has (suc k) d at

none_found : {X : Type 0} (s : VersionWritten) (saved : List VersionWritten) → HasClaimed (s ∷ saved) [] → X
none_found s saved has = let first = has zero s refl in absurd (cc (first.1))

-- a transaction has claimed what it has
pub HasClaimed-itself : (claims : List VersionWritten) → HasClaimed claims claims
HasClaimed-itself claims k s at = (s, at, refl)

-- a claim is in its place after one goes back, and found what it found
pub at_restored : (saved claims : List VersionWritten) → HasClaimed saved claims → (k : ℕ) (c : VersionWritten) → slice_get claims k ≡ Some c → (r : VersionWritten) × (slice_get (restored saved claims) k ≡ Some r) × (found_by r ≡ found_by c)
at_restored [] [] has k c at = absurd (cc)
at_restored [] (d ∷ claims) has zero c at = (undone d, refl, ap found_by (one_at d c at))
at_restored [] (d ∷ claims) has (suc k) c at = at_restored [] claims (λ i s is. absurd (cc)) k c at
at_restored (s ∷ saved) [] has k c at = none_found s saved has
at_restored (s ∷ saved) (d ∷ claims) has zero c at = (s, refl, sym (first_found s d saved claims has) ∙ ap found_by (one_at d c at))
at_restored (s ∷ saved) (d ∷ claims) has (suc k) c at = at_restored saved claims (rest_found s d saved claims has) k c at

-- and no other is there
pub from_restored : (saved claims : List VersionWritten) → HasClaimed saved claims → (k : ℕ) (r : VersionWritten) → slice_get (restored saved claims) k ≡ Some r → (c : VersionWritten) × (slice_get claims k ≡ Some c) × (found_by r ≡ found_by c)
from_restored [] [] has k r at = absurd (cc)
from_restored [] (d ∷ claims) has zero r at = (d, refl, sym (ap found_by (one_at (undone d) r at)))
from_restored [] (d ∷ claims) has (suc k) r at = from_restored [] claims (λ i s is. absurd (cc)) k r at
from_restored (s ∷ saved) [] has k r at = none_found s saved has
from_restored (s ∷ saved) (d ∷ claims) has zero r at = (d, refl, sym (ap found_by (one_at s r at)) ∙ sym (first_found s d saved claims has))
from_restored (s ∷ saved) (d ∷ claims) has (suc k) r at = from_restored saved claims (rest_found s d saved claims has) k r at

undone_found : (claims : List VersionWritten) → map found_by (map undone claims) ≡ map found_by claims
undone_found [] = refl
undone_found (c ∷ claims) = ap (λ (rest : List (ℕ × ℕ × List ℕ)). found_by c ∷ rest) (undone_found claims)

-- what the claims found stays
pub found_restored : (saved claims : List VersionWritten) → HasClaimed saved claims → map found_by (restored saved claims) ≡ map found_by claims
found_restored [] claims has = undone_found claims
found_restored (s ∷ saved) [] has = none_found s saved has
found_restored (s ∷ saved) (c ∷ claims) has = λ i. sym (first_found s c saved claims has) i ∷ found_restored saved claims (rest_found s c saved claims has) i

undone_at : (claims : List VersionWritten) (k : ℕ) (r : VersionWritten) → slice_get (map undone claims) k ≡ Some r → r.row ≡ r.base
undone_at [] k r at = absurd (cc)
undone_at (c ∷ claims) zero r at = subst (λ (claim : VersionWritten). claim.row ≡ claim.base) (one_at (undone c) r at) refl
undone_at (c ∷ claims) (suc k) r at = undone_at claims k r at

-- one that no write set leaves the row that it found, if those saved do
pub kept_restored : (saved claims : List VersionWritten) → HasClaimed saved claims → ((s : VersionWritten) → s ∈ saved → s.is_set ≡ false → s.row ≡ s.base) → (k : ℕ) (r : VersionWritten) → slice_get (restored saved claims) k ≡ Some r → r.is_set ≡ false → r.row ≡ r.base
kept_restored [] claims has kept k r at unset = undone_at claims k r at
kept_restored (s ∷ saved) [] has kept k r at unset = none_found s saved has
kept_restored (s ∷ saved) (c ∷ claims) has kept zero r at unset = kept r (zero, at) unset
kept_restored (s ∷ saved) (c ∷ claims) has kept (suc k) r at unset =
    kept_restored saved claims (rest_found s c saved claims has) (λ t there. kept t (suc there.0, there.1)) k r at unset

-- each object is claimed once still
pub OnceOf-restored : (saved claims : List VersionWritten) → HasClaimed saved claims → OnceOf claims → OnceOf (restored saved claims)
OnceOf-restored saved claims has once i j c d at_i at_j same =
    let one = from_restored saved claims has i c at_i in
    let other = from_restored saved claims has j d at_j in
    once i j one.0 other.0 one.1 other.1 (sym (same_oid c one.0 one.2) ∙ same ∙ same_oid d other.0 other.2)

-- what another savepoint kept is still in its place
pub HasClaimed-restored : (earlier saved claims : List VersionWritten) → HasClaimed saved claims → HasClaimed earlier claims → HasClaimed earlier (restored saved claims)
HasClaimed-restored earlier saved claims has before k s at =
    let there = before k s at in
    let kept = at_restored saved claims has k there.0 there.1 in
    (kept.0, kept.1, kept.2 ∙ there.2)

-- what stands at a place of a list's front stands there in the list
in_front : {X : Type 0} (xs ys : List X) (k : ℕ) (x : X) → slice_get xs k ≡ Some x → slice_get (xs ++ ys) k ≡ Some x
in_front [] ys k x at = absurd (cc)
in_front (z ∷ xs) ys zero x at = at
in_front (z ∷ xs) ys (suc k) x at = in_front xs ys k x at

mapped : {X Y : Type 0} (f : X → Y) (xs : List X) (k : ℕ) (x : X) → slice_get xs k ≡ Some x → slice_get (map f xs) k ≡ Some (f x)
mapped f xs k x at = slice_get-map f xs k ∙ ap (option_map f) at

unmapped : {X Y : Type 0} (f : X → Y) (xs : List X) (k : ℕ) (y : Y) → slice_get (map f xs) k ≡ Some y → (x : X) × (slice_get xs k ≡ Some x) × (f x ≡ y)
unmapped f [] k y at = absurd (cc)
unmapped f (z ∷ xs) zero y at = (z, refl, cc)
unmapped f (z ∷ xs) (suc k) y at = unmapped f xs k y at

-- a transaction that has gone on still has what it had claimed
pub HasClaimed-extended : (saved : List VersionWritten) (w u : Work) → Extends w u → HasClaimed saved w.claims → HasClaimed saved u.claims
HasClaimed-extended saved w u more has k s at =
    let there = has k s at in
    let front : slice_get (map found_by u.claims) k ≡ Some (found_by there.0) =
    subst (λ (found : List (ℕ × ℕ × List ℕ)). slice_get found k ≡ Some (found_by there.0)) (sym more.claims)
    (in_front (map found_by w.claims) more.claimed k (found_by there.0) (mapped found_by w.claims k there.0 there.1))
    in
    let now = unmapped found_by u.claims k (found_by there.0) front in
    (now.0, now.1, now.2 ∙ there.2)

-- a transaction that has gone back goes on: it has read and made what it had, and its claims found what they did
pub extends_restored : (w : Work) (saved : List VersionWritten) → HasClaimed saved w.claims → Extends w (with_claims (restored saved w.claims) w)
extends_restored w saved has = record {
  number = refl;
  begin = refl;
  read = [];
  reads = sym (append-nil w.reads);
  claimed = [];
  claims = found_restored saved w.claims has ∙ sym (append-nil (map found_by w.claims));
  more = [];
  made = sym (append-nil w.made);
}

-- and it sees the snapshot that it saw
pub sees_restored : (v : View) (w : Work) (saved : List VersionWritten) → HasClaimed saved w.claims → SeesSnapshot v w → SeesSnapshot v (with_claims saved w) → SeesSnapshot v (with_claims (restored saved w.claims) w)
sees_restored v w saved has now then = record {
  reads = now.reads;
  claims = λ r (k, at).
      let from = from_restored saved w.claims has k r at in
      subst (λ (f : ℕ × ℕ × List ℕ). IsNewestBelow (history_of v) v.opening.rows f.0 w.begin f.1 f.2) (sym from.2) (now.claims from.0 (k, from.1));
  kept = λ r (k, at) unset. kept_restored saved w.claims has then.kept k r at unset;
}

-- SAVEPOINTS. A transaction that goes on still has what it had at each, and so one that goes back does.
pub AreSavesOf-extended : (w u : Work) (saves : List (List VersionWritten)) → Extends w u → AreSavesOf w saves → AreSavesOf u saves
AreSavesOf-extended w u saves more are j saved at = HasClaimed-extended saved w u more (are j saved at)

pub AreSavesOf-restored : (w : Work) (saves : List (List VersionWritten)) (k : ℕ) (saved : List VersionWritten) → AreSavesOf w saves → slice_get saves k ≡ Some saved
    → AreSavesOf (with_claims (restored saved w.claims) w) saves
AreSavesOf-restored w saves k saved are at j earlier there = HasClaimed-restored earlier saved w.claims (are k saved at) (are j earlier there)

pub AreSavesOf-front : (n : ℕ) (w : Work) (saves : List (List VersionWritten)) → AreSavesOf w saves → AreSavesOf w (take n saves)
AreSavesOf-front n w saves are j saved at = are j saved (slice_get-take n saves j saved at)

-- and what it has now, where this is saved
pub AreSavesOf-more : (w : Work) (saves : List (List VersionWritten)) → AreSavesOf w saves → AreSavesOf w (saves ++ w.claims ∷ [])
AreSavesOf-more w saves are j saved at =
    elim (slice_get-push saves w.claims saved j at) [
      | inl before ↦ are j saved before.1
      | inr last ↦ subst (λ (claims : List VersionWritten). HasClaimed claims w.claims) last.1 (HasClaimed-itself w.claims)
    ]

-- one that has begun has none
pub AreSavesOf-none : (w : Work) → AreSavesOf w []
AreSavesOf-none w j saved at = absurd (cc)
