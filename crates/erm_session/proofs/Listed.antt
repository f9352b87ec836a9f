-- What lists of claims and reads show of an object: each object stands in them once.
use Rattle.std.proofs.Common.{◌≡◌, ◌≢◌, ℕ, zero, suc, ◌<◌, false, ◌||◌, eqb, List, [], ◌∷◌, length, map, get_or, Some, None, refl, sym, ap, ◌∙◌, arith}
use Rattle.std.specs.Prelude.{if◌then◌else◌}
use Rattle.std.proofs.lemmas.Bool.{cond-false, cond-true, eq-eqb, ne_eqb}
use Rattle.erm_machine.specs.declared.attempt.Claim.{Claim}
use Rattle.erm_machine.specs.declared.attempt.Read.{Read}
use Rattle.erm_machine.specs.Core.{no_claim}
use Rattle.erm_machine.specs.Decided.{read_of, written_of}
use Rattle.erm_machine.specs.Seat.{no_read}
use Rattle.erm_world.specs.Works.{is_claimed, own_row, row_read}

-- no claim is of the object
abbrev pub NoneClaims : List Claim → ℕ → Type 0
NoneClaims ws oid = (k : ℕ) → k < length ws → (get_or ws k no_claim).version.oid ≢ oid

abbrev pub NoneReads : List Read → ℕ → Type 0
NoneReads rs oid = (k : ℕ) → k < length rs → (get_or rs k no_read).version.oid ≢ oid

-- each object is claimed, and read, once
abbrev pub ClaimsOnce : List Claim → Type 0
ClaimsOnce ws = (j k : ℕ) → j < k → k < length ws → (get_or ws j no_claim).version.oid ≢ (get_or ws k no_claim).version.oid

abbrev pub ReadsOnce : List Read → Type 0
ReadsOnce rs = (j k : ℕ) → j < k → k < length rs → (get_or rs j no_read).version.oid ≢ (get_or rs k no_read).version.oid

none_later : (w : Claim) (ws : List Claim) (oid : ℕ) → NoneClaims (w ∷ ws) oid → NoneClaims ws oid
none_later w ws oid none k within = none (suc k) (omega (arith, within))

pub unclaimed : (ws : List Claim) (oid : ℕ) → NoneClaims ws oid → is_claimed (map written_of ws) oid ≡ false
unclaimed [] oid none = refl
unclaimed (w ∷ ws) oid none =
    ap (λ b. b || is_claimed (map written_of ws) oid) (ne_eqb w.version.oid oid (none 0 (omega arith))) ∙ unclaimed ws oid (none_later w ws oid none)

pub unread : (rs : List Read) (oid : ℕ) → NoneReads rs oid → row_read (map read_of rs) oid ≡ None
unread [] oid none = refl
unread (r ∷ rs) oid none =
    cond-false (eqb r.version.oid oid) (Some r.row) (row_read (map read_of rs) oid) (ne_eqb r.version.oid oid (none 0 (omega arith)))
    ∙ unread rs oid (λ k within. none (suc k) (omega (arith, within)))

-- claims of other objects leave the row
row_left : (ws : List Claim) (oid : ℕ) (row : List ℕ) → NoneClaims ws oid → own_row (map written_of ws) oid row ≡ row
row_left [] oid row none = refl
row_left (w ∷ ws) oid row none =
    ap (λ (r : List ℕ). own_row (map written_of ws) oid r) (cond-false (eqb w.version.oid oid) w.row row (ne_eqb w.version.oid oid (none 0 (omega arith))))
    ∙ row_left ws oid row (none_later w ws oid none)

once_later : (w : Claim) (ws : List Claim) → ClaimsOnce (w ∷ ws) → ClaimsOnce ws
once_later w ws once j k low within = once (suc j) (suc k) (omega (arith, low)) (omega (arith, within))

pub own_row_is : (ws : List Claim) (place oid : ℕ) (base : List ℕ) → ClaimsOnce ws → place < length ws → (get_or ws place no_claim).version.oid ≡ oid
    → own_row (map written_of ws) oid base ≡ (get_or ws place no_claim).row
own_row_is [] place oid base once within is = absurd (omega (arith, within))
own_row_is (w ∷ ws) zero oid base once within is =
    ap (λ (r : List ℕ). own_row (map written_of ws) oid r) (cond-true (eqb w.version.oid oid) w.row base (eq-eqb w.version.oid oid is))
    ∙ row_left ws oid w.row (λ k low same. once 0 (suc k) (omega arith) (omega (arith, low)) (is ∙ sym same))
own_row_is (w ∷ ws) (suc place) oid base once within is = own_row_is ws place oid (if eqb w.version.oid oid then w.row else base) (once_later w ws once) (omega (arith, within)) is

pub row_read_is : (rs : List Read) (place oid : ℕ) → ReadsOnce rs → place < length rs → (get_or rs place no_read).version.oid ≡ oid
    → row_read (map read_of rs) oid ≡ Some (get_or rs place no_read).row
row_read_is [] place oid once within is = absurd (omega (arith, within))
row_read_is (r ∷ rs) zero oid once within is = cond-true (eqb r.version.oid oid) (Some r.row) (row_read (map read_of rs) oid) (eq-eqb r.version.oid oid is)
row_read_is (r ∷ rs) (suc place) oid once within is =
    cond-false (eqb r.version.oid oid) (Some r.row) (row_read (map read_of rs) oid)
    (ne_eqb r.version.oid oid (λ same. once 0 (suc place) (omega arith) within (same ∙ sym is)))
    ∙ row_read_is rs place oid (λ j k low high. once (suc j) (suc k) (omega (arith, low)) (omega (arith, high))) (omega (arith, within)) is
