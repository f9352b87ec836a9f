-- What a call is to the transaction's work alone: the rows that it sees, and the arrays that fit it.
use Rattle.std.proofs.Common.{◌≡◌, ◌≢◌, ℕ, suc, ◌+◌, ◌<◌, ◌≤◌, ◌⊎◌, ◌↔◌, Bool, true, false, cond, ◌||◌, ◌==◌, List, [], ◌∷◌, ◌++◌, map, Option, Some, None, is_some, inl, inr, refl, sym, ap, ◌∙◌, arith, eq-eqb, eqb-true, option_map}
use Rattle.std.proofs.lemmas.Bool.Decides.{eqb_tells}
use Rattle.std.proofs.lemmas.List.Sums.{sum_by_push}
use Rattle.std.proofs.lemmas.Option.{slice_get-map}
use mathlib.Core.Path.{fun_ext}
use Rattle.erm_model.specs.declared.history.TransactionRecord.{TransactionRecord}
use Rattle.erm_model.specs.declared.history.VersionRead.{VersionRead}
use Rattle.erm_model.specs.declared.history.VersionWritten.{VersionWritten}
use Rattle.erm_model.specs.History.{after_writes}
use Rattle.erm_model.specs.Lawful.{Fits, times_made}
use Rattle.erm_model.specs.Member.{◌∈◌}
use Rattle.erm_model.specs.RowTransaction.{ClaimedBy, Event, Face, Law, ReadBy, Tells, after, did_claim, did_make, did_read, did_write, made_by}
use Rattle.erm_model.specs.Rows.{Rows, set_row}
use Rattle.erm_world.specs.Laws.{FitsWork}
use Rattle.erm_world.specs.World.{Work, bare}
use Rattle.erm_world.specs.Works.{claiming, is_claimed, making, own_row, reading, row_read, seen_by, setting, with_row}
use Rattle.erm_world.proofs.Lists.{∈-before, ∈-last}

-- a number is itself, and another is not
eqb_itself : (x : ℕ) → (x == x) ≡ true
eqb_itself x = eq-eqb x x refl

eqb_turned : (x y : ℕ) → (x == y) ≡ (y == x)
eqb_turned x y = elim (eqb_tells x y) as (λ _. (x == y) ≡ (y == x)) [
  | inl here ↦ here.0 ∙ sym (eq-eqb y x (sym here.1))
  | inr there ↦ elim (eqb_tells y x) as (λ _. (x == y) ≡ (y == x)) [
    | inl here ↦ absurd (there.1 (sym here.1))
    | inr back ↦ there.0 ∙ sym back.0
  ]
]

-- OWN ROWS. That of an object that isn't claimed is the row begun on.
either_none : (here rest : Bool) → (here || rest) ≡ false → (here ≡ false) × (rest ≡ false)
either_none true rest none = cc
either_none false rest none = (refl, none)

pub own_row-unclaimed : (cs : List VersionWritten) (oid : ℕ) (row : List ℕ) → is_claimed cs oid ≡ false → own_row cs oid row ≡ row
own_row-unclaimed [] oid row none = refl
own_row-unclaimed (c ∷ cs) oid row none =
    let parts = either_none (c.oid == oid) (is_claimed cs oid) none in
    ap (λ (here : Bool). own_row cs oid (cond here c.row row)) parts.0 ∙ own_row-unclaimed cs oid row parts.1

-- that of a claimed one is the transaction's own, whichever row it began on
claimed_step : (here : Bool) (cs : List VersionWritten) (oid : ℕ) (new row other : List ℕ) → (here || is_claimed cs oid) ≡ true
    → (is_claimed cs oid ≡ true → own_row cs oid row ≡ own_row cs oid other) → own_row cs oid (cond here new row) ≡ own_row cs oid (cond here new other)
claimed_step true cs oid new row other claimed rest = refl
claimed_step false cs oid new row other claimed rest = rest claimed

pub own_row-claimed : (cs : List VersionWritten) (oid : ℕ) (row other : List ℕ) → is_claimed cs oid ≡ true → own_row cs oid row ≡ own_row cs oid other
own_row-claimed [] oid row other claimed = cc
own_row-claimed (c ∷ cs) oid row other claimed =
    claimed_step (c.oid == oid) cs oid c.row row other claimed (λ later. own_row-claimed cs oid row other later)

-- the rows after writes are the own ones
pub after_writes-own : (cs : List VersionWritten) (rows : Rows) (x : ℕ) → after_writes cs rows x ≡ own_row cs x (rows x)
after_writes-own [] rows x = refl
after_writes-own (c ∷ cs) rows x =
    after_writes-own cs (set_row rows c.oid c.row) x ∙ ap (λ (here : Bool). own_row cs x (cond here c.row (rows x))) (eqb_turned x c.oid)

-- with one claim more
pub own_row-push : (cs : List VersionWritten) (c : VersionWritten) (x : ℕ) (row : List ℕ) → own_row (cs ++ c ∷ []) x row ≡ cond (c.oid == x) c.row (own_row cs x row)
own_row-push [] c x row = refl
own_row-push (d ∷ cs) c x row = own_row-push cs c x (cond (d.oid == x) d.row row)

-- where one object's row is set, the rows of the others stay
pub own_row-set_other : (cs : List VersionWritten) (oid : ℕ) (new : List ℕ) (x : ℕ) (row : List ℕ) → x ≢ oid
    → own_row (map (with_row oid new) cs) x row ≡ own_row cs x row
own_row-set_other [] oid new x row apart = refl
own_row-set_other (c ∷ cs) oid new x row apart =
    own_row-set_other cs oid new x (cond (c.oid == x) (cond (c.oid == oid) new c.row) row) apart
    ∙ ap (own_row cs x) (elim (eqb_tells c.oid x) as (λ _. cond (c.oid == x) (cond (c.oid == oid) new c.row) row ≡ cond (c.oid == x) c.row row) [
      | inl here ↦ elim (eqb_tells c.oid oid) as (λ _. cond (c.oid == x) (cond (c.oid == oid) new c.row) row ≡ cond (c.oid == x) c.row row) [
        | inl it ↦ absurd (apart (sym here.1 ∙ it.1))
        | inr it ↦ ap (λ (at : Bool). cond (c.oid == x) (cond at new c.row) row) it.0
      ]
      | inr there ↦ ap (λ (at : Bool). cond at (cond (c.oid == oid) new c.row) row) there.0 ∙ sym (ap (λ (at : Bool). cond at c.row row) there.0)
    ])

-- and its own is the new one
new_or_new : (at : Bool) (new row : List ℕ) → cond at (cond at new row) new ≡ new
new_or_new true new row = refl
new_or_new false new row = refl

stays_new : (cs : List VersionWritten) (oid : ℕ) (new : List ℕ) → own_row (map (with_row oid new) cs) oid new ≡ new
stays_new [] oid new = refl
stays_new (c ∷ cs) oid new = ap (own_row (map (with_row oid new) cs) oid) (new_or_new (c.oid == oid) new c.row) ∙ stays_new cs oid new

same_step : (here : Bool) (cs : List VersionWritten) (oid : ℕ) (new old row : List ℕ) → (here || is_claimed cs oid) ≡ true
    → (is_claimed cs oid ≡ true → own_row (map (with_row oid new) cs) oid row ≡ new)
    → own_row (map (with_row oid new) cs) oid (cond here (cond here new old) row) ≡ new
same_step true cs oid new old row claimed rest = stays_new cs oid new
same_step false cs oid new old row claimed rest = rest claimed

pub own_row-set_same : (cs : List VersionWritten) (oid : ℕ) (new row : List ℕ) → is_claimed cs oid ≡ true → own_row (map (with_row oid new) cs) oid row ≡ new
own_row-set_same [] oid new row claimed = cc
own_row-set_same (c ∷ cs) oid new row claimed =
    same_step (c.oid == oid) cs oid new c.row row claimed (λ later. own_row-set_same cs oid new row later)

-- CLAIMED. A set row claims nothing.
pub is_claimed-set : (cs : List VersionWritten) (oid : ℕ) (new : List ℕ) (x : ℕ) → is_claimed (map (with_row oid new) cs) x ≡ is_claimed cs x
is_claimed-set [] oid new x = refl
is_claimed-set (c ∷ cs) oid new x = ap (λ (rest : Bool). (c.oid == x) || rest) (is_claimed-set cs oid new x)

-- a test of more
or_nothing : (a : Bool) → (a || false) ≡ a
or_nothing true = refl
or_nothing false = refl

or_more : (a b c : Bool) → (a || (b || c)) ≡ ((a || b) || c)
or_more true b c = refl
or_more false b c = refl

or_is : (a : Bool) (y x : ℕ) → ((a || (y == x)) ≡ true) ↔ ((a ≡ true) ⊎ (x ≡ y))
or_is true y x = (λ at. inl refl, λ at. refl)
or_is false y x = (λ at. inr (sym (eqb-true y x at)), λ at. elim at [ inl none ↦ cc | inr is ↦ eq-eqb y x (sym is) ])

is_at : (before after : Bool) (y x : ℕ) → after ≡ (before || (y == x)) → (after ≡ true) ↔ ((before ≡ true) ⊎ (x ≡ y))
is_at before after y x e = let is = or_is before y x in (λ at. is.0 (sym e ∙ at), λ at. e ∙ is.1 at)

-- with one claim more just its object is claimed besides
pub claimed_push : (cs : List VersionWritten) (c : VersionWritten) (x : ℕ) → is_claimed (cs ++ c ∷ []) x ≡ (is_claimed cs x || (c.oid == x))
claimed_push [] c x = or_nothing (c.oid == x)
claimed_push (d ∷ cs) c x =
    ap (λ (rest : Bool). (d.oid == x) || rest) (claimed_push cs c x) ∙ or_more (d.oid == x) (is_claimed cs x) (c.oid == x)

pub is_claimed-push : (cs : List VersionWritten) (c : VersionWritten) (x : ℕ) → (is_claimed (cs ++ c ∷ []) x ≡ true) ↔ ((is_claimed cs x ≡ true) ⊎ (x ≡ c.oid))
is_claimed-push cs c x = is_at (is_claimed cs x) (is_claimed (cs ++ c ∷ []) x) c.oid x (claimed_push cs c x)

-- READ. With one more just its object is read besides.
read_one : (here : Bool) (row : List ℕ) → is_some (cond here (Some row) None) ≡ here
read_one true row = refl
read_one false row = refl

read_step : (here test : Bool) (row : List ℕ) (before after : Option (List ℕ)) → is_some after ≡ (is_some before || test)
    → is_some (cond here (Some row) after) ≡ (is_some (cond here (Some row) before) || test)
read_step true test row before after e = refl
read_step false test row before after e = e

read_push : (rs : List VersionRead) (r : VersionRead) (x : ℕ) → is_some (row_read (rs ++ r ∷ []) x) ≡ (is_some (row_read rs x) || (r.oid == x))
read_push [] r x = read_one (r.oid == x) r.row
read_push (d ∷ rs) r x = read_step (d.oid == x) (r.oid == x) d.row (row_read rs x) (row_read (rs ++ r ∷ []) x) (read_push rs r x)

pub row_read-push : (rs : List VersionRead) (r : VersionRead) (x : ℕ) → (is_some (row_read (rs ++ r ∷ []) x) ≡ true) ↔ ((is_some (row_read rs x) ≡ true) ⊎ (x ≡ r.oid))
row_read-push rs r x = is_at (is_some (row_read rs x)) (is_some (row_read (rs ++ r ∷ []) x)) r.oid x (read_push rs r x)

-- the version that was read
abbrev pub ReadOf : List VersionRead → ℕ → List ℕ → Type 0
ReadOf rs oid row = (r : VersionRead) × (r ∈ rs) × (r.oid ≡ oid) × (r.row ≡ row)

read_behind : (r : VersionRead) (rs : List VersionRead) (oid : ℕ) (row : List ℕ) → ReadOf rs oid row → ReadOf (r ∷ rs) oid row
read_behind r rs oid row (d, within, at, is) = (d, (suc within.0, within.1), at, is)

found_step : (here : Bool) (r : VersionRead) (rs : List VersionRead) (oid : ℕ) (row : List ℕ) → (here ≡ true → r.oid ≡ oid)
    → (row_read rs oid ≡ Some row → ReadOf rs oid row) → cond here (Some r.row) (row_read rs oid) ≡ Some row → ReadOf (r ∷ rs) oid row
found_step true r rs oid row is later found = (r, (0, refl), is refl, cc)
found_step false r rs oid row is later found = read_behind r rs oid row (later found)

pub row_read-found : (rs : List VersionRead) (oid : ℕ) (row : List ℕ) → row_read rs oid ≡ Some row → ReadOf rs oid row
row_read-found [] oid row found = cc
row_read-found (r ∷ rs) oid row found =
    found_step (r.oid == oid) r rs oid row (λ here. eqb-true r.oid oid here) (λ later. row_read-found rs oid row later) found

-- MADE. One more object.
pub times_made-push : (made : List ℕ) (oid x : ℕ) → times_made (made ++ oid ∷ []) x ≡ times_made made x + made_by (did_make oid) x
times_made-push made oid x =
    sum_by_push (λ (m : ℕ). cond (m == x) 1 0) made oid ∙ ap (λ (here : Bool). times_made made x + cond here 1 0) (eqb_turned oid x)

pub times_made-itself : (made : List ℕ) (oid : ℕ) → 0 < times_made (made ++ oid ∷ []) oid
times_made-itself made oid =
    let one : made_by (did_make oid) oid ≡ 1 = ap (λ (here : Bool). cond here 1 0) (eqb_itself oid) in
    omega (arith, times_made-push made oid oid, one)

-- FITS. An array that fits a record fits one that has read, claimed and made no more.
pub record IsLess (t u : TransactionRecord) : Type 0 where
  pub reads : (r : VersionRead) → r ∈ t.reads → r ∈ u.reads
  pub claims : (c : VersionWritten) → c ∈ t.writes → (d : VersionWritten) × (d ∈ u.writes) × (d.oid ≡ c.oid) × (d.base ≡ c.base)
  pub made : (x : ℕ) → times_made t.made x ≤ times_made u.made x

pub Fits-less : (law : Law) (t u : TransactionRecord) (rows : Rows) → IsLess t u → Fits law u rows → Fits law t rows
Fits-less law t u rows less fits = record {
  meets = fits.meets;
  reads = λ r within. fits.reads r (less.reads r within);
  claims = λ c within. let found = less.claims c within in ap rows (sym found.2) ∙ fits.claims found.0 found.1 ∙ found.3;
  unreached = λ x made. fits.unreached x (omega (arith, less.made x, made));
}

less_reading : (r : VersionRead) (w : Work) → IsLess (bare w) (bare (reading r w))
less_reading r w = record {
  reads = λ d within. ∈-before w.reads (r ∷ []) d within;
  claims = λ c within. (c, within, refl, refl);
  made = λ x. omega arith;
}

less_claiming : (c : VersionWritten) (w : Work) → IsLess (bare w) (bare (claiming c w))
less_claiming c w = record {
  reads = λ d within. within;
  claims = λ d within. (d, ∈-before w.claims (c ∷ []) d within, refl, refl);
  made = λ x. omega arith;
}

less_setting : (oid : ℕ) (row : List ℕ) (w : Work) → IsLess (bare w) (bare (setting oid row w))
less_setting oid row w = record {
  reads = λ d within. within;
  claims = λ c within. (with_row oid row c, (within.0, slice_get-map (with_row oid row) w.claims within.0 ∙ ap (option_map (with_row oid row)) within.1), refl, refl);
  made = λ x. omega arith;
}

less_making : (oid : ℕ) (w : Work) → IsLess (bare w) (bare (making oid w))
less_making oid w = record {
  reads = λ d within. within;
  claims = λ c within. (c, within, refl, refl);
  made = λ x. omega (arith, times_made-push w.made oid x);
}

-- STEPS. A transaction's work alone, as what is called.
abbrev pub work_face : Law → Face Work
work_face law = record {
  law = law;
  active = λ w. Unit {0};
  fits = λ w begun. FitsWork law w begun;
  rows = λ w begun. seen_by w begun;
  made = λ w x. times_made w.made x;
  claims = λ w x. is_claimed w.claims x ≡ true;
  reads = λ w x. is_some (row_read w.reads x) ≡ true;
  follows = λ w u. Unit {0};
  answers = λ w event u. Unit {0};
  stops = λ w asked stop u. Unit {0};
}

-- what an event makes of the work
pub record Moves (law : Law) (w : Work) (event : Event) (u : Work) : Type 0 where
  pub fitted : (rows : Rows) → FitsWork law u rows → FitsWork law w rows
  pub told : (rows : Rows) → FitsWork law u rows → Tells law event rows (seen_by w rows)
  pub seen : (rows : Rows) → FitsWork law u rows → seen_by u rows ≡ after event (seen_by w rows)
  pub made : (x : ℕ) → times_made u.made x ≡ times_made w.made x + made_by event x
  pub claims : (x : ℕ) → (is_claimed u.claims x ≡ true) ↔ ((is_claimed w.claims x ≡ true) ⊎ ClaimedBy event x)
  pub reads : (x : ℕ) → (is_some (row_read u.reads x) ≡ true) ↔ ((is_some (row_read w.reads x) ≡ true) ⊎ ReadBy (work_face law) w event x)

-- nothing more
no_more : (P N : Type 0) → (N → ⊥) → P ↔ (P ⊎ N)
no_more P N none = (λ p. inl p, λ e. elim e [ inl p ↦ p | inr n ↦ absurd (none n) ])

-- what was so already
known : (P N : Type 0) → (N → P) → P ↔ (P ⊎ N)
known P N so = (λ p. inl p, λ e. elim e [ inl p ↦ p | inr n ↦ so n ])

-- the own row is read
pub Moves-own : (law : Law) (w : Work) (oid : ℕ) (row : List ℕ) → is_claimed w.claims oid ≡ true → row ≡ own_row w.claims oid [] → Moves law w (did_read oid row) w
Moves-own law w oid row claimed is = record {
  fitted = λ rows fits. fits;
  told = λ rows fits. after_writes-own w.claims rows oid ∙ own_row-claimed w.claims oid (rows oid) [] claimed ∙ sym is;
  seen = λ rows fits. refl;
  made = λ x. omega arith;
  claims = λ x. no_more (is_claimed w.claims x ≡ true) ⊥ (λ none. none);
  reads = λ x. no_more (is_some (row_read w.reads x) ≡ true) (ReadBy (work_face law) w (did_read oid row) x) (λ new. new.1 claimed);
}

-- the row of an object that isn't claimed is that of the array begun on
seen_unclaimed : (w : Work) (rows : Rows) (oid : ℕ) → is_claimed w.claims oid ≡ false → seen_by w rows oid ≡ rows oid
seen_unclaimed w rows oid none = after_writes-own w.claims rows oid ∙ own_row-unclaimed w.claims oid (rows oid) none

-- a row is read again
pub Moves-again : (law : Law) (w : Work) (oid : ℕ) (row : List ℕ) → is_claimed w.claims oid ≡ false → row_read w.reads oid ≡ Some row → Moves law w (did_read oid row) w
Moves-again law w oid row none found = record {
  fitted = λ rows fits. fits;
  told = λ rows fits. let (r, within, at, is) = row_read-found w.reads oid row found in
      seen_unclaimed w rows oid none ∙ ap rows (sym at) ∙ fits.reads r within ∙ is;
  seen = λ rows fits. refl;
  made = λ x. omega arith;
  claims = λ x. no_more (is_claimed w.claims x ≡ true) ⊥ (λ no. no);
  reads = λ x. known (is_some (row_read w.reads x) ≡ true) (ReadBy (work_face law) w (did_read oid row) x)
      (λ new. ap (λ (y : ℕ). is_some (row_read w.reads y)) new.0 ∙ ap is_some found);
}

-- a row is read for the first time
pub Moves-first : (law : Law) (w : Work) (oid stamp : ℕ) (row : List ℕ) → is_claimed w.claims oid ≡ false
    → Moves law w (did_read oid row) (reading (record { oid = oid; stamp = stamp; row = row }) w)
Moves-first law w oid stamp row none =
    let r : VersionRead = record { oid = oid; stamp = stamp; row = row } in record {
      fitted = λ rows fits. Fits-less law (bare w) (bare (reading r w)) rows (less_reading r w) fits;
      told = λ rows fits. seen_unclaimed w rows oid none ∙ fits.reads r (∈-last w.reads r);
      seen = λ rows fits. refl;
      made = λ x. omega arith;
      claims = λ x. no_more (is_claimed w.claims x ≡ true) ⊥ (λ no. no);
      reads = λ x. (
        λ now. elim ((row_read-push w.reads r x).0 now) [ inl before ↦ inl before | inr is ↦ inr (is, λ claimed. cc) ],
        λ either. (row_read-push w.reads r x).1 (elim either [ inl before ↦ inl before | inr new ↦ inr new.0 ]),
      );
    }

-- a claimed object is claimed again
pub Moves-before : (law : Law) (w : Work) (oid : ℕ) → is_claimed w.claims oid ≡ true → Moves law w (did_claim oid) w
Moves-before law w oid claimed = record {
  fitted = λ rows fits. fits;
  told = λ rows fits. tt;
  seen = λ rows fits. refl;
  made = λ x. omega arith;
  claims = λ x. known (is_claimed w.claims x ≡ true) (x ≡ oid) (λ is. ap (is_claimed w.claims) is ∙ claimed);
  reads = λ x. no_more (is_some (row_read w.reads x) ≡ true) ⊥ (λ no. no);
}

-- a claim leaves the row that it found
laid : (w : Work) (rows : Rows) (oid : ℕ) (base : List ℕ) (x : ℕ) → is_claimed w.claims oid ≡ false → rows oid ≡ base
    → cond (oid == x) base (own_row w.claims x (rows x)) ≡ own_row w.claims x (rows x)
laid w rows oid base x none found = elim (eqb_tells oid x) as (λ _. cond (oid == x) base (own_row w.claims x (rows x)) ≡ own_row w.claims x (rows x)) [
  | inl here ↦ ap (λ (at : Bool). cond at base (own_row w.claims x (rows x))) here.0 ∙ sym found
      ∙ sym (own_row-unclaimed w.claims oid (rows oid) none) ∙ ap (λ (y : ℕ). own_row w.claims y (rows y)) here.1
  | inr there ↦ ap (λ (at : Bool). cond at base (own_row w.claims x (rows x))) there.0
]

-- an object is claimed
pub Moves-claim : (law : Law) (w : Work) (oid stamp : ℕ) (base : List ℕ) → is_claimed w.claims oid ≡ false
    → Moves law w (did_claim oid) (claiming (record { oid = oid; stamp = stamp; base = base; row = base; is_set = false }) w)
Moves-claim law w oid stamp base none =
    let c : VersionWritten = record { oid = oid; stamp = stamp; base = base; row = base; is_set = false } in record {
      fitted = λ rows fits. Fits-less law (bare w) (bare (claiming c w)) rows (less_claiming c w) fits;
      told = λ rows fits. tt;
      seen = λ rows fits. fun_ext (λ x.
          after_writes-own (w.claims ++ c ∷ []) rows x ∙ own_row-push w.claims c x (rows x)
          ∙ laid w rows oid base x none (fits.claims c (∈-last w.claims c)) ∙ sym (after_writes-own w.claims rows x));
      made = λ x. omega arith;
      claims = λ x. is_claimed-push w.claims c x;
      reads = λ x. no_more (is_some (row_read w.reads x) ≡ true) ⊥ (λ no. no);
    }

-- the row of a claimed object is set
laid_new : (w : Work) (rows : Rows) (oid : ℕ) (row : List ℕ) (x : ℕ) → is_claimed w.claims oid ≡ true
    → own_row (map (with_row oid row) w.claims) x (rows x) ≡ cond (x == oid) row (after_writes w.claims rows x)
laid_new w rows oid row x claimed =
    elim (eqb_tells x oid) as (λ _. own_row (map (with_row oid row) w.claims) x (rows x) ≡ cond (x == oid) row (after_writes w.claims rows x)) [
      | inl here ↦ ap (λ (y : ℕ). own_row (map (with_row oid row) w.claims) y (rows x)) here.1 ∙ own_row-set_same w.claims oid row (rows x) claimed
          ∙ sym (ap (λ (at : Bool). cond at row (after_writes w.claims rows x)) here.0)
      | inr there ↦ own_row-set_other w.claims oid row x (rows x) there.1 ∙ sym (after_writes-own w.claims rows x)
          ∙ sym (ap (λ (at : Bool). cond at row (after_writes w.claims rows x)) there.0)
    ]

pub Moves-set : (law : Law) (w : Work) (oid : ℕ) (row : List ℕ) → is_claimed w.claims oid ≡ true → Moves law w (did_write oid row) (setting oid row w)
Moves-set law w oid row claimed = record {
  fitted = λ rows fits. Fits-less law (bare w) (bare (setting oid row w)) rows (less_setting oid row w) fits;
  told = λ rows fits. tt;
  seen = λ rows fits. fun_ext (λ x. after_writes-own (map (with_row oid row) w.claims) rows x ∙ laid_new w rows oid row x claimed);
  made = λ x. omega arith;
  claims = λ x. (
    λ now. inl (sym (is_claimed-set w.claims oid row x) ∙ now),
    λ either. is_claimed-set w.claims oid row x ∙ elim either [ inl before ↦ before | inr is ↦ ap (is_claimed w.claims) is ∙ claimed ],
  );
  reads = λ x. no_more (is_some (row_read w.reads x) ≡ true) ⊥ (λ no. no);
}

-- a write is a claim, and then the row is set
pub Moves-write : (law : Law) (w u : Work) (oid : ℕ) (row : List ℕ) → Moves law w (did_claim oid) u → Moves law w (did_write oid row) (setting oid row u)
Moves-write law w u oid row claim =
    let set = Moves-set law u oid row ((claim.claims oid).1 (inr refl)) in record {
      fitted = λ rows fits. claim.fitted rows (set.fitted rows fits);
      told = λ rows fits. tt;
      seen = λ rows fits. set.seen rows fits ∙ ap (λ (seen : Rows). set_row seen oid row) (claim.seen rows (set.fitted rows fits));
      made = λ x. omega (arith, claim.made x);
      claims = λ x. (
        λ now. elim ((set.claims x).0 now) [ inl before ↦ (claim.claims x).0 before | inr is ↦ inr is ],
        λ either. (set.claims x).1 (inl ((claim.claims x).1 either)),
      );
      reads = λ x. (λ now. elim ((set.reads x).0 now) [ inl before ↦ (claim.reads x).0 before | inr none ↦ absurd none ], λ either. (set.reads x).1 (inl ((claim.reads x).1 either)));
    }

-- an object is made
pub Moves-make : (law : Law) (w : Work) (oid : ℕ) → Moves law w (did_make oid) (making oid w)
Moves-make law w oid = record {
  fitted = λ rows fits. Fits-less law (bare w) (bare (making oid w)) rows (less_making oid w) fits;
  told = λ rows fits. fits.unreached oid (times_made-itself w.made oid);
  seen = λ rows fits. refl;
  made = λ x. times_made-push w.made oid x;
  claims = λ x. no_more (is_claimed w.claims x ≡ true) ⊥ (λ no. no);
  reads = λ x. no_more (is_some (row_read w.reads x) ≡ true) ⊥ (λ no. no);
}
