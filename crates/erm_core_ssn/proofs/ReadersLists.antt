-- What stands in a list that grows; names of versions.
use Rattle.std.proofs.Common.{◌≡◌, ℕ, zero, suc, ◌<◌, true, List, [], ◌∷◌, ◌++◌, length, Some, refl, ap, ◌∙◌}
use Rattle.std.specs.List.{slice_get}
use Rattle.std.proofs.lemmas.Bool.{and_parts, eqb-true}
use Rattle.std.proofs.lemmas.Option.{slice_get_within, get_or_from_slice_get}
use Rattle.erm_model.specs.Member.{◌∈◌}
use Rattle.erm_model.proofs.Members.{∈-at}
use Rattle.erm_machine.specs.declared.attempt.Attempt.{Attempt}
use Rattle.erm_machine.specs.declared.attempt.Read.{Read}
use Rattle.erm_machine.specs.declared.version.VersionAt.{VersionAt}
use Rattle.erm_machine.specs.Seat.{same_version, read_at, no_read}

module _ {X : Type 0} where
  -- the last one stands there, and those before
  pub ∈-last : (xs : List X) (x : X) → x ∈ (xs ++ x ∷ [])
  ∈-last [] x = (zero, refl)
  ∈-last (y ∷ xs) x = let m = ∈-last xs x in (suc m.0, m.1)

  pub ∈-front : (xs : List X) (y x : X) → x ∈ xs → x ∈ (xs ++ y ∷ [])
  ∈-front xs y x m = at xs y x m.0 m.1
    where
      at : (xs : List X) (y x : X) (k : ℕ) → slice_get xs k ≡ Some x → x ∈ (xs ++ y ∷ [])
      at [] y x k e = absurd (cc)
      at (z ∷ xs) y x zero e = (zero, e)
      at (z ∷ xs) y x (suc k) e = let m = at xs y x k e in (suc m.0, m.1)

-- a read that stands in a list stands at a place, and the other way round
pub record ReadStands (t : Attempt) (r : Read) : Type 0 where
  pub place : ℕ
  pub within : place < length t.reads
  pub is : read_at t place ≡ r

pub read_stands : (t : Attempt) (r : Read) → r ∈ t.reads → ReadStands t r
read_stands t r m = record { place = m.0; within = slice_get_within t.reads m.0 r m.1; is = get_or_from_slice_get t.reads m.0 r no_read m.1 }

pub read_in : (t : Attempt) (k : ℕ) → k < length t.reads → read_at t k ∈ t.reads
read_in t k within = ∈-at t.reads k no_read within

-- two names that are one
version_of : (oid place cell : ℕ) → VersionAt
version_of oid place cell = record { oid = oid; place = place; cell = cell }

pub same_is : (v w : VersionAt) → same_version v w ≡ true → v ≡ w
unfolding version_of
same_is v w e =
    let all = and_parts _ _ e in
    let both = and_parts _ _ all.0 in
    let oid = eqb-true v.oid w.oid both.0 in
    let place = eqb-true v.place w.place both.1 in
    let cell = eqb-true v.cell w.cell all.1 in
    ap (λ n. version_of n v.place v.cell) oid ∙ (ap (λ n. version_of w.oid n v.cell) place ∙ ap (λ n. version_of w.oid w.place n) cell)
