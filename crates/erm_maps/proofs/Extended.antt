-- Arrays that fit a transaction that has gone on fitted it before.
use Rattle.std.proofs.Common.{◌≡◌, ℕ, ◌+◌, ◌<◌, List, ◌++◌, map, eqb, cond, sym, ap, ◌∙◌, subst, arith}
use Rattle.std.proofs.lemmas.List.Sums.{sum_by-append}
use Rattle.erm_model.specs.declared.history.VersionRead.{VersionRead}
use Rattle.erm_model.specs.declared.history.VersionWritten.{VersionWritten}
use Rattle.erm_model.specs.Lawful.{times_made}
use Rattle.erm_model.specs.Member.{◌∈◌}
use Rattle.erm_model.specs.RowTransaction.{Law}
use Rattle.erm_model.specs.Rows.{Rows}
use Rattle.erm_machine.proofs.Listed.{∈-first, ∈-map, ∈-map_from}
use Rattle.erm_world.specs.Going.{Extends, found_by}
use Rattle.erm_world.specs.Laws.{FitsWork}
use Rattle.erm_world.specs.World.{Work}

-- a claim's base is found at its object in an array that fits a claim found the same
same_base : (rows : Rows) (c d : VersionWritten) → found_by d ≡ found_by c → rows d.oid ≡ d.base → rows c.oid ≡ c.base
same_base rows c d same at =
    let oid : d.oid ≡ c.oid = ap (λ (f : ℕ × ℕ × List ℕ). f.0) same in
    let base : d.base ≡ c.base = ap (λ (f : ℕ × ℕ × List ℕ). f.2) same in
    subst (λ n. rows n ≡ c.base) oid (at ∙ base)

made_before : (w u : Work) → Extends w u → (x : ℕ) → 0 < times_made w.made x → 0 < times_made u.made x
made_before w u more x made =
    let all : times_made u.made x ≡ times_made (w.made ++ more.more) x = ap (λ (os : List ℕ). times_made os x) more.made in
    let sum : times_made (w.made ++ more.more) x ≡ times_made w.made x + times_made more.more x = sum_by-append (λ (oid : ℕ). cond (eqb oid x) 1 0) w.made more.more in
    omega (arith, all, sum, made)

pub fitted_before : (law : Law) (w u : Work) → Extends w u → (rows : Rows) → FitsWork law u rows → FitsWork law w rows
fitted_before law w u more rows fits = record {
  meets = fits.meets;
  reads = λ r m. fits.reads r (subst (λ (rs : List VersionRead). r ∈ rs) (sym more.reads) (∈-first w.reads more.read r m));
  claims = λ c m.
      let front : found_by c ∈ map found_by u.claims =
      subst (λ (fs : List (ℕ × ℕ × List ℕ)). found_by c ∈ fs) (sym more.claims) (∈-first (map found_by w.claims) more.claimed (found_by c) (∈-map_from found_by w.claims c m)) in
      let d = ∈-map found_by u.claims (found_by c) front in
      same_base rows c d.0 d.2 (fits.claims d.0 d.1);
  unreached = λ x made. fits.unreached x (made_before w u more x made);
}
