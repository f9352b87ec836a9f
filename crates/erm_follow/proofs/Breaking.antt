-- The least commit that breaks a safe stamp, as commits are looked at one after another.
use Rattle.std.proofs.Common.{◌≡◌, ℕ, ◌<◌, ◌≤◌, ⊎_elim, List, [], ◌∷◌, ◌++◌, Option, Some, None, refl, sym, subst, arith}
use Rattle.erm_model.specs.declared.history.Commit.{Commit}
use Rattle.erm_model.specs.Member.{◌∈◌}
use Rattle.erm_model.proofs.Members.{∈-push}
use Rattle.erm_machine.proofs.Listed.{∈-first, ∈-second, ∈-head}
use Rattle.erm_follow.specs.declared.seen.Broken.{Broken}
use Rattle.erm_follow.specs.Waiting.{IsLeastFrom}

module _ (safe : ℕ) (c : Commit) (xs : List Commit) where
  -- a commit below the safe stamp changes nothing
  pub least-below : (least : Option Broken) → IsLeastFrom safe xs least → c.stamp < safe → IsLeastFrom safe (xs ++ c ∷ []) least
  least-below None old low = λ d there.
      ⊎_elim
      (λ (h : d ∈ xs). old d h)
      (λ (e : d ≡ c). subst (λ (v : Commit). v.stamp < safe) (sym e) low)
      (∈-push xs c d there)
  least-below (Some b) old low = (
    old.0,
    ∈-first xs (c ∷ []) old.0 old.1,
    old.2,
    old.3,
    old.4,
    old.5,
    λ d there high.
        ⊎_elim
        (λ (h : d ∈ xs). old.6 d h high)
        (λ (e : d ≡ c). let less : d.stamp < safe = subst (λ (v : Commit). v.stamp < safe) (sym e) low in absurd (omega (arith, less, high)))
        (∈-push xs c d there),
  )

  -- nor does one behind a commit that breaks it
  pub least-behind : (least : Option Broken) (b : Broken) → IsLeastFrom safe xs least → least ≡ Some b → b.stamp ≤ c.stamp → IsLeastFrom safe (xs ++ c ∷ []) least
  least-behind None b old is behind = absurd (cc)
  least-behind (Some a) b old is behind =
      let same : a ≡ b = cc in
      let after : a.stamp ≤ c.stamp = subst (λ (v : Broken). v.stamp ≤ c.stamp) (sym same) behind in (
        old.0,
        ∈-first xs (c ∷ []) old.0 old.1,
        old.2,
        old.3,
        old.4,
        old.5,
        λ d there high.
            ⊎_elim
            (λ (h : d ∈ xs). old.6 d h high)
            (λ (e : d ≡ c). subst (λ (v : Commit). a.stamp ≤ v.stamp) (sym e) after)
            (∈-push xs c d there),
      )

  least_of : (least : Option Broken) → IsLeastFrom safe xs least → safe ≤ c.stamp → ((b : Broken) → least ≡ Some b → c.stamp < b.stamp) → (d : Commit) → d ∈ xs → safe ≤ d.stamp → c.stamp ≤ d.stamp
  least_of None old high less d there above = absurd (omega (arith, old d there, above))
  least_of (Some b) old high less d there above = omega (arith, less b refl, old.6 d there above)

  -- one that breaks it before all others takes their place
  pub least-before : (least : Option Broken) → IsLeastFrom safe xs least → safe ≤ c.stamp → ((b : Broken) → least ≡ Some b → c.stamp < b.stamp) → IsLeastFrom safe (xs ++ c ∷ []) (Some (record { safe = safe; stamp = c.stamp; succ = c.succ }))
  least-before least old high less = (
    c,
    ∈-second xs (c ∷ []) c (∈-head c []),
    high,
    refl,
    refl,
    refl,
    λ d there above.
        ⊎_elim
        (λ (h : d ∈ xs). least_of least old high less d h above)
        (λ (e : d ≡ c). subst (λ (v : Commit). c.stamp ≤ v.stamp) (sym e) (omega arith))
        (∈-push xs c d there),
  )
