-- Events on two arrays that have another row of one object.
use Rattle.std.proofs.Common.{◌≡◌, ◌≢◌, ℕ, ◌⊎◌, ◌==◌, Bool, true, false, cond, List, [], ◌∷◌, inl, inr, refl, sym, ap, ◌∙◌, arith}
use Rattle.std.proofs.lemmas.Bool.{cases_eq}
use Rattle.std.proofs.lemmas.Bool.Decides.{nat_tests}
use Rattle.erm_model.specs.RowTransaction.{Event, TellsAll, after_all, did_claim, did_make, did_read, did_write}
use Rattle.erm_model.specs.Rows.{Rows, set_row}
use Rattle.erm_node.specs.Sound.{reached, sound_law}
use Rattle.erm_tree.specs.Tables.{AreClaiming}
use Rattle.erm_told_limits.proofs.Ran.{AreReading}

-- some of these events sets the row of the object
abbrev pub AreWriting : List Event → ℕ → Type 0
AreWriting [] x = ⊥
AreWriting (did_read oid row ∷ events) x = AreWriting events x
AreWriting (did_claim oid ∷ events) x = AreWriting events x
AreWriting (did_write oid row ∷ events) x = (x ≡ oid) ⊎ AreWriting events x
AreWriting (did_make oid ∷ events) x = AreWriting events x

first_or_later : (x oid : ℕ) (P : Type 0) → P ⊎ (P → ⊥) → ((x ≡ oid) ⊎ P) ⊎ ((x ≡ oid) ⊎ P → ⊥)
first_or_later x oid P (inl later) = inl (inr later)
first_or_later x oid P (inr none) = elim (cases_eq x oid) [
  | inl here ↦ inl (inl here)
  | inr other ↦ inr (λ either. elim either [ inl here ↦ other here | inr later ↦ none later ])
]

pub writes_or_not : (events : List Event) (x : ℕ) → AreWriting events x ⊎ (AreWriting events x → ⊥)
writes_or_not [] x = inr (λ no. no)
writes_or_not (did_read oid row ∷ events) x = writes_or_not events x
writes_or_not (did_claim oid ∷ events) x = writes_or_not events x
writes_or_not (did_write oid row ∷ events) x = first_or_later x oid (AreWriting events x) (writes_or_not events x)
writes_or_not (did_make oid ∷ events) x = writes_or_not events x

pub reads_or_not : (events : List Event) (x : ℕ) → AreReading events x ⊎ (AreReading events x → ⊥)
reads_or_not [] x = inr (λ no. no)
reads_or_not (did_read oid row ∷ events) x = first_or_later x oid (AreReading events x) (reads_or_not events x)
reads_or_not (did_claim oid ∷ events) x = reads_or_not events x
reads_or_not (did_write oid row ∷ events) x = reads_or_not events x
reads_or_not (did_make oid ∷ events) x = reads_or_not events x

-- what is set is claimed
pub writes_claim : (events : List Event) (x : ℕ) → AreWriting events x → AreClaiming events x
writes_claim [] x by = absurd by
writes_claim (did_read oid row ∷ events) x by = inr (writes_claim events x by)
writes_claim (did_claim oid ∷ events) x by = inr (writes_claim events x by)
writes_claim (did_write oid row ∷ events) x by = elim by [ inl here ↦ inl here | inr later ↦ inr (writes_claim events x later) ]
writes_claim (did_make oid ∷ events) x by = inr (writes_claim events x by)

other_test : (x oid : ℕ) → x ≢ oid → (x == oid) ≡ false
other_test x oid apart = grind (arith, nat_tests)

same_test : (x oid : ℕ) → x ≡ oid → (x == oid) ≡ true
same_test x oid same = grind (arith, nat_tests)

pub other_row : (rows : Rows) (oid : ℕ) (row : List ℕ) (x : ℕ) → x ≢ oid → set_row rows oid row x ≡ rows x
other_row rows oid row x apart = ap (λ (b : Bool). cond b row (rows x)) (other_test x oid apart)

pub own_row : (rows : Rows) (oid : ℕ) (row : List ℕ) (x : ℕ) → x ≡ oid → set_row rows oid row x ≡ row
own_row rows oid row x same = ap (λ (b : Bool). cond b row (rows x)) (same_test x oid same)

-- the second array has the rows of the first but for one object
abbrev pub SameBut : ℕ → Rows → Rows → Type 0
SameBut x a b = (y : ℕ) → y ≢ x → b y ≡ a y

set_both : (x : ℕ) (a b : Rows) (oid : ℕ) (row : List ℕ) → SameBut x a b → SameBut x (set_row a oid row) (set_row b oid row)
set_both x a b oid row same y apart = ap (λ (r : List ℕ). cond (y == oid) row r) (same y apart)

-- an object that they don't set keeps its row
pub unwritten : (events : List Event) (rows : Rows) (x : ℕ) → (AreWriting events x → ⊥) → after_all events rows x ≡ rows x
unwritten [] rows x none = refl
unwritten (did_read oid row ∷ events) rows x none = unwritten events rows x none
unwritten (did_claim oid ∷ events) rows x none = unwritten events rows x none
unwritten (did_write oid row ∷ events) rows x none =
    unwritten events (set_row rows oid row) x (λ by. none (inr by)) ∙ other_row rows oid row x (λ is. none (inl is))
unwritten (did_make oid ∷ events) rows x none = unwritten events rows x none

pub after_alike : (events : List Event) (a b : Rows) (x : ℕ) → SameBut x a b → SameBut x (after_all events a) (after_all events b)
after_alike [] a b x same = same
after_alike (did_read oid row ∷ events) a b x same = after_alike events a b x same
after_alike (did_claim oid ∷ events) a b x same = after_alike events a b x same
after_alike (did_write oid row ∷ events) a b x same = after_alike events (set_row a oid row) (set_row b oid row) x (set_both x a b oid row same)
after_alike (did_make oid ∷ events) a b x same = after_alike events a b x same

-- one that they set has the row that they set
pub written_same : (events : List Event) (a b : Rows) (x : ℕ) → SameBut x a b → AreWriting events x → after_all events b x ≡ after_all events a x
written_same [] a b x same by = absurd by
written_same (did_read oid row ∷ events) a b x same by = written_same events a b x same by
written_same (did_claim oid ∷ events) a b x same by = written_same events a b x same by
written_same (did_write oid row ∷ events) a b x same by = elim (writes_or_not events x) [
  | inl later ↦ written_same events (set_row a oid row) (set_row b oid row) x (set_both x a b oid row same) later
  | inr none ↦
      let here : x ≡ oid = elim by as (λ _. x ≡ oid) [ inl is ↦ is | inr later ↦ absurd (none later) ] in
      unwritten events (set_row b oid row) x none ∙ own_row b oid row x here ∙ sym (own_row a oid row x here) ∙ sym (unwritten events (set_row a oid row) x none)
]
written_same (did_make oid ∷ events) a b x same by = written_same events a b x same by

-- what tells nothing of its row is so of both
pub tells_alike : (events : List Event) (begun other seen now : Rows) (x : ℕ) → ((y : ℕ) → reached other y ≡ reached begun y) → SameBut x seen now → (AreReading events x → ⊥)
    → TellsAll sound_law events begun seen → TellsAll sound_law events other now
tells_alike [] begun other seen now x reach same none told = tt
tells_alike (did_read oid row ∷ events) begun other seen now x reach same none told =
    (same oid (λ is. none (inl (sym is))) ∙ told.0, tells_alike events begun other seen now x reach same (λ by. none (inr by)) told.1)
tells_alike (did_claim oid ∷ events) begun other seen now x reach same none told = (tt, tells_alike events begun other seen now x reach same none told.1)
tells_alike (did_write oid row ∷ events) begun other seen now x reach same none told =
    (tt, tells_alike events begun other (set_row seen oid row) (set_row now oid row) x reach (set_both x seen now oid row same) none told.1)
tells_alike (did_make oid ∷ events) begun other seen now x reach same none told = (reach oid ∙ told.0, tells_alike events begun other seen now x reach same none told.1)
