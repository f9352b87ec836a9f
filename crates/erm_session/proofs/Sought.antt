-- What the transaction has read and claimed of an object, by what the session keeps of it.
use Rattle.std.proofs.Common.{◌≡◌, ◌≢◌, ℕ, zero, suc, ◌<◌, Bool, true, false, ◌||◌, List, [], ◌∷◌, length, map, get_or, refl, sym, ap, ◌∙◌, eqb, eqb-true, arith}
use Rattle.std.specs.List.{list_any}
use Rattle.std.proofs.lemmas.List.{get_or-map}
use Rattle.std.proofs.lemmas.Option.{get_or_from_slice_get, slice_get_within}
use Rattle.arrayvec.specs.ArrayVec.{ArrayVec}
use Rattle.erm_machine.specs.declared.attempt.Claim.{Claim}
use Rattle.erm_machine.specs.declared.attempt.Read.{Read}
use Rattle.erm_machine.specs.declared.part.Part.{Part}
use Rattle.erm_machine.specs.Core.{claim_at, no_claim}
use Rattle.erm_machine.specs.Facts.{Holds}
use Rattle.erm_machine.specs.Reading.{has_read}
use Rattle.erm_machine.specs.Seat.{no_read}
use Rattle.erm_precommit.specs.declared.pre.KeptClaim.{KeptClaim}
use Rattle.erm_precommit.specs.declared.pre.KeptRead.{KeptRead}
use Rattle.erm_precommit.specs.Pre.{no_claim_kept, no_read_kept}
use Rattle.erm_rows.specs.declared.active.Active.{Active}
use Rattle.erm_rows.specs.Active.{IsActive}
use Rattle.erm_session.specs.Calls.{HasClaimed, HasRead, IsClaimedAt, IsUnclaimed, IsUnread}

-- the items of a list that lies in a box
pub in_box : {T : Type 0} {v w : ArrayVec T} {items : List T} → items ≡ v.items → v ≡ w → items ≡ w.items
in_box {T} are same = are ∙ ap (λ (u : ArrayVec T). u.items) same

neither : (a b : Bool) → (a ≡ true → ⊥) → b ≡ false → (a || b) ≡ false
neither true b none e = absurd (none refl)
neither false b none e = e

none_read : (oid : ℕ) (rs : List Read) → ((k : ℕ) → k < length rs → (get_or rs k no_read).version.oid ≢ oid) → list_any (λ (r : Read). eqb r.version.oid oid) rs ≡ false
none_read oid [] none = refl
none_read oid (r ∷ rs) none =
    neither (eqb r.version.oid oid) (list_any (λ (s : Read). eqb s.version.oid oid) rs) (λ same. none zero (omega arith) (eqb-true r.version.oid oid same))
    (none_read oid rs (λ k within. none (suc k) (omega (arith, within))))

-- an object of which no version was read, and one that isn't claimed
pub not_read : (x : Part) (oid : ℕ) → IsUnread x oid → has_read oid x.current ≡ false
not_read x oid none = none_read oid x.current.reads none

pub not_held : (x : Part) (oid : ℕ) → IsUnclaimed x oid → Holds x oid → ⊥
not_held x oid none held =
    let at = held.1 in
    none at.0 (slice_get_within x.current.writes at.0 held.0 at.1) (ap (λ (w : Claim). w.version.oid) (get_or_from_slice_get x.current.writes at.0 held.0 no_claim at.1) ∙ held.3)

-- a claim has its row
pub has_row : (x : Part) (oid place : ℕ) → IsClaimedAt x oid place → HasClaimed x oid (claim_at x.current place).row
has_row x oid place at = record { place = place; claimed = at; row_is = refl }

module _ (t : Active) (x : Part) (is : IsActive t x) (oid : ℕ) where
  -- nothing was found
  pub unclaimed : (claims : List KeptClaim) → claims ≡ t.claims.value.items → ((k : ℕ) → k < length claims → (get_or claims k no_claim_kept).oid ≢ oid) → IsUnclaimed x oid
  unclaimed claims claims_are none k within same =
      let count = ap (λ (l : List KeptClaim). length l) claims_are ∙ is.claim_count in
      none k (omega (arith, count, within)) (ap (λ (l : List KeptClaim). (get_or l k no_claim_kept).oid) claims_are ∙ (is.claims k within).oid ∙ same)

  pub unread : (reads : List KeptRead) → reads ≡ t.reads.value.items → ((k : ℕ) → k < length reads → (get_or reads k no_read_kept).oid ≢ oid) → IsUnread x oid
  unread reads reads_are none k within same =
      let count = ap (λ (l : List KeptRead). length l) reads_are ∙ is.read_count in
      none k (omega (arith, count, within)) (ap (λ (l : List KeptRead). (get_or l k no_read_kept).oid) reads_are ∙ (is.reads k within).oid ∙ same)

  -- its claim was found at a place, with its row
  module _ (claims : List KeptClaim) (claims_are : claims ≡ t.claims.value.items) (place : ℕ) (within : place < length claims) (found : (get_or claims place no_claim_kept).oid ≡ oid) where
    claim_within : place < length x.current.writes
    claim_within = let count = ap (λ (l : List KeptClaim). length l) claims_are ∙ is.claim_count in omega (arith, count, within)

    pub claimed : IsClaimedAt x oid place
    claimed = record {
      within = claim_within;
      oid_is = sym (is.claims place claim_within).oid ∙ ap (λ (l : List KeptClaim). (get_or l place no_claim_kept).oid) (sym claims_are) ∙ found;
    }

    pub has_claimed : (rows : List (List ℕ)) (row : List ℕ) → row ≡ get_or rows place row → rows ≡ map (λ (w : Claim). w.row) x.current.writes → HasClaimed x oid row
    has_claimed rows row row_is rows_are = record {
      place = place;
      claimed = claimed;
      row_is =
          row_is
          ∙ ap (λ (rs : List (List ℕ)). get_or rs place row) rows_are
          ∙ get_or-map (λ (w : Claim). w.row) x.current.writes place no_claim row claim_within;
    }

  -- its read was
  module _ (reads : List KeptRead) (reads_are : reads ≡ t.reads.value.items) (place : ℕ) (within : place < length reads) (found : (get_or reads place no_read_kept).oid ≡ oid) where
    read_within : place < length x.current.reads
    read_within = let count = ap (λ (l : List KeptRead). length l) reads_are ∙ is.read_count in omega (arith, count, within)

    pub has_read_row : (rows : List (List ℕ)) (row : List ℕ) → row ≡ get_or rows place row → rows ≡ map (λ (r : Read). r.row) x.current.reads → HasRead x oid row
    has_read_row rows row row_is rows_are = record {
      place = place;
      within = read_within;
      oid_is = sym (is.reads place read_within).oid ∙ ap (λ (l : List KeptRead). (get_or l place no_read_kept).oid) (sym reads_are) ∙ found;
      row_is =
          row_is
          ∙ ap (λ (rs : List (List ℕ)). get_or rs place row) rows_are
          ∙ get_or-map (λ (r : Read). r.row) x.current.reads place no_read row read_within;
    }
