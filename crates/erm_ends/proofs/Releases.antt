-- Claims are released one after another.
use Rattle.std.proofs.Common.{◌≡◌, ℕ, suc, add-one, ◌+◌, ◌<◌, true, List, [], ◌∷◌, ◌++◌, length, get_or, map, Option, Some, None, is_some, unwrap_or, refl, sym, ap, ◌∙◌, subst, arith}
use Rattle.std.specs.Prelude.{IsSome}
use Rattle.std.proofs.lemmas.Bool.{eqb-true}
use Rattle.erm_machine.specs.declared.attempt.Claim.{Claim}
use Rattle.erm_machine.specs.declared.attempt.OwnCell.{OwnCell}
use Rattle.erm_machine.specs.declared.limits.TheConstants.{OBJECT_LIMIT}
use Rattle.erm_machine.specs.declared.part.Part.{Part}
use Rattle.erm_machine.specs.declared.task.Task.TheVariants as task
use Rattle.erm_machine.specs.Core.{claim_at}
use Rattle.erm_machine.specs.Seat.{cells_of, is_own, with_task}
use Rattle.erm_machine.specs.Settling.{given_back}
use Rattle.erm_model.specs.RowTransaction.{Law}
use Rattle.erm_rule.specs.declared.view.Book.{Book}
use Rattle.erm_rule.specs.declared.view.View.{View}
use Rattle.erm_rule.specs.Hands.{IsKnown}
use Rattle.erm_rule.specs.Views.{part_in, part_of, with_part}
use Rattle.erm_rule.proofs.Telling.{changed_here, held_part, is_held, part_of-changed}
use Rattle.erm_cells.specs.Spare.{SpareIs, spare_cells}
use Rattle.erm_entries.specs.Ends.{DidRelease, end_from, IsNextRelease, next_release, released_part}
use Rattle.erm_precommit.specs.declared.pre.KeptClaim.{KeptClaim}
use Rattle.erm_precommit.specs.Pre.{IsClaimKept, no_claim_kept}
use Rattle.erm_ends.specs.Ends.{cells_over, claims_over, DidReleaseClaims, HasCome, MayReleaseClaims, released_to}
use Rattle.erm_ends.specs.Took.{WasFreed}
use Rattle.erm_ends.proofs.Going.{chain, claim_object, come_part, ending_taken, starts_there}
use Rattle.erm_ends.proofs.Over.{append_twice, cells_mapped, cells_more, over_length, over_more, over_next}

-- the cell of a claim that has one
own_cells : (cell : ℕ) (o : Option OwnCell) → is_own cell o ≡ true → map (λ (own : OwnCell). own.cell) (cells_of o) ≡ cell ∷ []
own_cells cell None e = absurd (cc)
own_cells cell (Some own) e = ap (λ (n : ℕ). n ∷ []) (eqb-true own.cell cell e)

-- ONE CLAIM
module _ (v : View) (who oid head : ℕ) (next : IsNextRelease (part_of v who) oid head) where
  abbrev old : Part
  old = part_of v who

  has_old : part_in v who ≡ Some old
  has_old = held_part v who (ending_taken old.place next.place)

  pub release_object : IsKnown v → oid < OBJECT_LIMIT
  release_object known = subst (λ n. n < OBJECT_LIMIT) next.oid_is (claim_object v who known has_old (end_from old).1 next.within)

  module _ (w : View) (did : DidRelease v who oid head w) where
    pub released_held : IsSome (part_in w who)
    released_held = is_held w who (released_part old) (changed_here v who w (released_part old) old has_old did.view_is)

    pub cell_last : (spare : List ℕ) (own : ℕ) → is_own own (next_release old).own ≡ true → SpareIs spare old → spare ++ own ∷ [] ≡ spare_cells (part_of w who)
    cell_last spare own is spares =
        ap (λ (ns : List ℕ). ns ++ own ∷ []) spares
        ∙ ap (λ (ns : List ℕ). spare_cells old ++ ns) (sym (own_cells own (next_release old).own is))
        ∙ sym (cells_mapped old.spare (cells_of (next_release old).own))
        ∙ sym (ap (λ (z : Part). spare_cells z) (part_of-changed v who w (released_part old) old has_old did.view_is))

-- ALL
-- so many claims are released
pub record ReleaseLoop (v : View) (who n : ℕ) (spare : List ℕ) (u : View) : Type 0 where
  pub come : HasCome v who (released_to n (part_of v who)) (0, n, 0, 0) u
  pub spare_is : SpareIs spare (part_of u who)

append_none : (xs : List OwnCell) → xs ++ [] ≡ xs
append_none [] = refl
append_none (x ∷ xs) = ap (λ (ys : List OwnCell). x ∷ ys) (append_none xs)

module _ (v : View) (who : ℕ) (kept : List KeptClaim) (known : IsKnown v) (may : MayReleaseClaims kept (part_of v who)) where
  abbrev x : Part
  x = part_of v who

  has : part_in v who ≡ Some x
  has = held_part v who (ending_taken x.place may.place)

  none_released : released_to 0 x ≡ x
  none_released = ap (λ (os : List OwnCell). record x { spare = os }) (append_none x.spare)

  pub releases_start : (u : View) (spare : List ℕ) → u ≡ v → SpareIs spare x → ReleaseLoop v who 0 spare u
  releases_start u spare same spares =
      subst (λ (t : View). ReleaseLoop v who 0 spare t) (sym same)
      (record {
        come = subst (λ (y : Part). HasCome v who y (0, 0, 0, 0) v) (sym none_released) (starts_there v who (0, 0, 0, 0) has known may.ends);
        spare_is = spares;
      })

  module _ (u : View) (n : ℕ) (spare : List ℕ) (low : n < length kept) (loop : ReleaseLoop v who n spare u) where
    abbrev y : Part
    y = with_task loop.come.task (released_to n x)

    within : n < length x.current.writes
    within = let count = may.claims.count in omega (arith, count, low)

    abbrev claim : KeptClaim
    claim = get_or kept n no_claim_kept

    here : part_of u who ≡ y
    here = come_part v who x (released_to n x) (0, n, 0, 0) u has loop.come

    from_is : end_from y ≡ (0, n, 0, 0)
    from_is = ap (λ (o : Option (ℕ × ℕ × ℕ × ℕ)). unwrap_or o (0, 0, 0, 0)) loop.come.ends

    next_is : next_release y ≡ claim_at x.current n
    next_is = ap (λ (e : ℕ × ℕ × ℕ × ℕ). claim_at y.current e.1) from_is ∙ over_next n x.current.writes

    is_kept : IsClaimKept claim (claim_at x.current n)
    is_kept = may.claims.each n within

    next_there : IsNextRelease y claim.oid claim.overwritten
    next_there = record {
      excluded = may.excluded;
      place = may.place;
      ends = ap (λ (o : Option (ℕ × ℕ × ℕ × ℕ)). is_some o) loop.come.ends;
      within = let more = over_length n x.current.writes in let at = ap (λ (e : ℕ × ℕ × ℕ × ℕ). e.1) from_is in let w = within in omega (arith, more, at, w);
      oid_is = ap (λ (w : Claim). w.version.oid) next_is ∙ sym is_kept.oid;
      cell_is = ap (λ (w : Claim). w.version.cell) next_is ∙ sym is_kept.overwritten;
    }

    pub release_next : IsNextRelease (part_of u who) claim.oid claim.overwritten
    release_next = subst (λ (z : Part). IsNextRelease z claim.oid claim.overwritten) (sym here) next_there

    pub release_own : is_own claim.own (next_release (part_of u who)).own ≡ true
    release_own = ap (λ (z : Part). is_own claim.own (next_release z).own) here ∙ ap (λ (w : Claim). is_own claim.own w.own) next_is ∙ is_kept.own

    -- the part with one more released
    more_given : given_back n (released_to n x) ≡ released_to (suc n) x
    more_given =
        ap (λ (ws : List Claim). record x { current = record x.current { writes = ws }; spare = (x.spare ++ cells_over n x.current.writes) ++ cells_of (claim_at (released_to n x).current n).own }) (over_more n x.current.writes within)
        ∙ ap (λ (w : Claim). record x { current = record x.current { writes = claims_over (suc n) x.current.writes }; spare = (x.spare ++ cells_over n x.current.writes) ++ cells_of w.own }) (over_next n x.current.writes)
        ∙ ap (λ (os : List OwnCell). record x { current = record x.current { writes = claims_over (suc n) x.current.writes }; spare = os })
        (append_twice x.spare (cells_over n x.current.writes) (cells_of (claim_at x.current n).own) ∙ ap (λ (os : List OwnCell). x.spare ++ os) (cells_more n x.current.writes within))

    released_there : released_part y ≡ with_task (task.Ends 0 (n + 1) 0 0) (released_to (n + 1) x)
    released_there =
        ap (λ (e : ℕ × ℕ × ℕ × ℕ). with_task (task.Ends e.0 (e.1 + 1) 0 e.3) (given_back e.1 y)) from_is
        ∙ ap (λ (z : Part). with_task (task.Ends 0 (n + 1) 0 0) z) more_given
        ∙ ap (λ (m : ℕ). with_task (task.Ends 0 (n + 1) 0 0) (released_to m x)) (sym (add-one n))

    pub releases_go_on : (w : View) (left : List ℕ) → DidRelease u who claim.oid claim.overwritten w → SpareIs left (part_of w who) → ReleaseLoop v who (n + 1) left w
    releases_go_on w left did spares =
        let is : w ≡ with_part who (with_task (task.Ends 0 (n + 1) 0 0) (released_to (n + 1) x)) v =
        chain v who u w x y released_part has loop.come.view_is did.view_is ∙ ap (λ (z : Part). with_part who z v) released_there in
        record {
          come = record { task = task.Ends 0 (n + 1) 0 0; ends = refl; view_is = is; known = did.known };
          spare_is = spares;
        }

    -- the release is of the claim at this place
    pub freed_next : (law : Law) (m e : Book) → WasFreed law who (part_of u who).current.number (next_release (part_of u who)).version m e → WasFreed law who x.current.number (claim_at x.current n).version m e
    freed_next law m e was =
        subst (λ (w : Claim). WasFreed law who x.current.number w.version m e) next_is
        (subst (λ (z : Part). WasFreed law who z.current.number (next_release z).version m e) here was)

  pub did_release_all : (u : View) (n : ℕ) (spare : List ℕ) → n ≡ length kept → ReleaseLoop v who n spare u → DidReleaseClaims v who u
  did_release_all u n spare all loop =
      let same : n ≡ length x.current.writes = all ∙ may.claims.count in
      record {
        come = subst (λ (m : ℕ). HasCome v who (released_to m x) (0, m, 0, 0) u) same loop.come;
      }
