-- The row of an object as claims leave it, and as reads have it.
use Rattle.std.proofs.Common.{◌≡◌, ℕ, zero, suc, ◌+◌, ◌<◌, ⊎_elim, Bool, true, false, ◌||◌, eqb, List, [], ◌∷◌, ◌++◌, length, map, take, get_or, Option, Some, None, refl, sym, ap, ◌∙◌, subst, arith}
use Rattle.std.specs.Prelude.{MatchOption, if◌then◌else◌}
use Rattle.std.proofs.lemmas.Bool.{cases_Bool, cond-false, cond-true, eq-eqb, ne_eqb, or_left, or_right}
use Rattle.std.proofs.lemmas.List.{map-append, take_more}
use Rattle.std.proofs.lemmas.List.Folds.{list_any-append}
use Rattle.erm_model.specs.declared.history.VersionRead.{VersionRead}
use Rattle.erm_model.specs.declared.history.VersionWritten.{VersionWritten}
use Rattle.erm_machine.specs.declared.attempt.Claim.{Claim}
use Rattle.erm_machine.specs.declared.attempt.Read.{Read}
use Rattle.erm_machine.specs.Decided.{read_of, written_of}
use Rattle.erm_world.specs.Works.{is_claimed, own_row, row_read}
use Rattle.erm_core_steps.specs.Reads.{HasOwnRow}

-- the row is the one that the claims leave, whatever it was before; there is none where they don't claim the object
pub record LeavesRow (ws : List VersionWritten) (oid : ℕ) (row : List ℕ) : Type 0 where
  pub claimed : is_claimed ws oid ≡ true
  pub is : (base : List ℕ) → own_row ws oid base ≡ row

abbrev pub IsRowOf : List VersionWritten → ℕ → Option (List ℕ) → Type 0
IsRowOf ws oid row = MatchOption row (is_claimed ws oid ≡ false) (λ r. LeavesRow ws oid r)

own_row-push : (ws : List VersionWritten) (c : VersionWritten) (oid : ℕ) (base : List ℕ) → own_row (ws ++ c ∷ []) oid base ≡ (if eqb c.oid oid then c.row else own_row ws oid base)
own_row-push [] c oid base = refl
own_row-push (w ∷ ws) c oid base = own_row-push ws c oid (if eqb w.oid oid then w.row else base)

pub claimed-push : (ws : List VersionWritten) (c : VersionWritten) (oid : ℕ) → is_claimed (ws ++ c ∷ []) oid ≡ (is_claimed ws oid || (eqb c.oid oid || false))
claimed-push ws c oid = list_any-append (λ (w : VersionWritten). eqb w.oid oid) ws (c ∷ [])

-- one more claim
row_here : (ws : List VersionWritten) (c : VersionWritten) (oid : ℕ) → eqb c.oid oid ≡ true → LeavesRow (ws ++ c ∷ []) oid c.row
row_here ws c oid here = record {
  claimed = claimed-push ws c oid ∙ or_right (is_claimed ws oid) (eqb c.oid oid || false) (or_left (eqb c.oid oid) false here);
  is = λ base. own_row-push ws c oid base ∙ cond-true (eqb c.oid oid) c.row (own_row ws oid base) here;
}

row_elsewhere : (ws : List VersionWritten) (c : VersionWritten) (oid : ℕ) (row : Option (List ℕ)) → eqb c.oid oid ≡ false → IsRowOf ws oid row → IsRowOf (ws ++ c ∷ []) oid row
row_elsewhere ws c oid None there none =
    claimed-push ws c oid ∙ ap (λ (b : Bool). b || (eqb c.oid oid || false)) none ∙ ap (λ (b : Bool). b || false) there
row_elsewhere ws c oid (Some r) there is = record {
  claimed = claimed-push ws c oid ∙ or_left (is_claimed ws oid) (eqb c.oid oid || false) is.claimed;
  is = λ base. own_row-push ws c oid base ∙ cond-false (eqb c.oid oid) c.row (own_row ws oid base) there ∙ is.is base;
}

pub row_push : (ws : List VersionWritten) (c : VersionWritten) (oid : ℕ) (row : Option (List ℕ)) → IsRowOf ws oid row → IsRowOf (ws ++ c ∷ []) oid (if eqb c.oid oid then Some c.row else row)
row_push ws c oid row is =
    ⊎_elim
    (λ (here : eqb c.oid oid ≡ true). subst (λ (o : Option (List ℕ)). IsRowOf (ws ++ c ∷ []) oid o) (sym (cond-true (eqb c.oid oid) (Some c.row) row here)) (row_here ws c oid here))
    (λ (there : eqb c.oid oid ≡ false). subst (λ (o : Option (List ℕ)). IsRowOf (ws ++ c ∷ []) oid o) (sym (cond-false (eqb c.oid oid) (Some c.row) row there)) (row_elsewhere ws c oid row there is))
    (cases_Bool (eqb c.oid oid))

pub row_of : (ws : List VersionWritten) (oid : ℕ) (row : Option (List ℕ)) → IsRowOf ws oid row → MatchOption row (is_claimed ws oid ≡ false) (λ r. HasOwnRow ws oid r)
row_of ws oid None is = is
row_of ws oid (Some r) is = record { claimed = is.claimed; is = is.is [] }

-- one more read, of another object
pub read_push : (rs : List VersionRead) (r : VersionRead) (oid : ℕ) → row_read rs oid ≡ None → eqb r.oid oid ≡ false → row_read (rs ++ r ∷ []) oid ≡ None
read_push [] r oid none there = cond-false (eqb r.oid oid) (Some r.row) None there
read_push (q ∷ rs) r oid none there = first_not (eqb q.oid oid) q.row (row_read rs oid) (row_read (rs ++ r ∷ []) oid) none (λ later. read_push rs r oid later there)
  where
    first_not : (b : Bool) (row : List ℕ) (later more : Option (List ℕ)) → (if b then Some row else later) ≡ None → (later ≡ None → more ≡ None) → (if b then Some row else more) ≡ None
    first_not true row later more none f = absurd (cc)
    first_not false row later more none f = f none

-- LOOPS over claims and reads
pub row_more : (ws : List Claim) (i : ℕ) (d : Claim) (oid : ℕ) (row next : Option (List ℕ)) → i < length ws → IsRowOf (map written_of (take i ws)) oid row
    → next ≡ (if eqb (get_or ws i d).version.oid oid then Some (get_or ws i d).row else row) → IsRowOf (map written_of (take (i + 1) ws)) oid next
row_more ws i d oid row next within is e =
    let c = get_or ws i d in
    let more : map written_of (take (i + 1) ws) ≡ map written_of (take i ws) ++ written_of c ∷ [] =
    ap (λ (us : List Claim). map written_of us) (take_more ws i d within) ∙ map-append written_of (take i ws) (c ∷ [])
    in
    subst (λ (us : List VersionWritten). IsRowOf us oid next) (sym more)
    (subst (λ (o : Option (List ℕ)). IsRowOf (map written_of (take i ws) ++ written_of c ∷ []) oid o) (sym e) (row_push (map written_of (take i ws)) (written_of c) oid row is))

pub none_more : (rs : List Read) (i : ℕ) (d : Read) (oid : ℕ) → i < length rs → row_read (map read_of (take i rs)) oid ≡ None → ((get_or rs i d).version.oid ≡ oid → ⊥)
    → row_read (map read_of (take (i + 1) rs)) oid ≡ None
none_more rs i d oid within none other =
    let r = get_or rs i d in
    let more : map read_of (take (i + 1) rs) ≡ map read_of (take i rs) ++ read_of r ∷ [] =
    ap (λ (us : List Read). map read_of us) (take_more rs i d within) ∙ map-append read_of (take i rs) (r ∷ [])
    in
    ap (λ (us : List VersionRead). row_read us oid) more ∙ read_push (map read_of (take i rs)) (read_of r) oid none (ne_eqb r.version.oid oid other)

pub first_at : (rs : List Read) (i : ℕ) (d : Read) (oid : ℕ) → i < length rs → row_read (map read_of (take i rs)) oid ≡ None → (get_or rs i d).version.oid ≡ oid
    → row_read (map read_of rs) oid ≡ Some (get_or rs i d).row
first_at [] i d oid within none here = absurd (omega arith)
first_at (r ∷ rs) zero d oid within none here = cond-true (eqb r.version.oid oid) (Some r.row) (row_read (map read_of rs) oid) (eq-eqb r.version.oid oid here)
first_at (r ∷ rs) (suc i) d oid within none here =
    first_not (eqb r.version.oid oid) r.row (row_read (map read_of (take i rs)) oid) (row_read (map read_of rs) oid) (Some (get_or rs i d).row) none
    (λ later. first_at rs i d oid (omega arith) later here)
  where
    first_not : (b : Bool) (row : List ℕ) (later more found : Option (List ℕ)) → (if b then Some row else later) ≡ None → (later ≡ None → more ≡ found) → (if b then Some row else more) ≡ found
    first_not true row later more found none f = absurd (cc)
    first_not false row later more found none f = f none
