-- Objects that differ are no more than a list that has each of them.
use Rattle.std.proofs.Common.{◌≡◌, ℕ, zero, suc, ◌+◌, ◌<◌, ◌≤◌, ◌⊎◌, ◌||◌, ◌==◌, Bool, true, false, cond, not, List, [], ◌∷◌, ◌++◌, map, Option, Some, None, is_some, length, replicate, filter, eq-eqb, eqb, refl, sym, ap, ◌∙◌, subst, inl, inr, arith}
use Rattle.std.specs.Cmp.Lexicographic.{same_text}
use Rattle.std.specs.List.{AllByRecursion, IsDistinct, list_any, range_with_len}
use Rattle.std.proofs.lemmas.Bool.{cases_lt}
use Rattle.std.proofs.lemmas.Bool.Decides.{Decides-eqb, eqb_tells}
use Rattle.std.proofs.lemmas.Cmp.{nat_eq_equiv}
use Rattle.std.proofs.lemmas.List.{length-append, length-map}
use Rattle.std.proofs.lemmas.List.Folds.{list_any-append}
use Rattle.std.proofs.lemmas.List.FromFn.{length-range_with_len}
use Rattle.std.proofs.lemmas.List.Sums.{sum_by-cons}
use Rattle.std.proofs.lemmas.Map.Keys.{IsDistinct-cons}
use Rattle.std.proofs.lemmas.Map.Made.{IsDistinct-from_AllPairs, length-le_from_is_member}
use Rattle.std.proofs.lemmas.Map.Steps.{le-length_from_below}
use Rattle.erm_model.specs.declared.history.VersionRead.{VersionRead}
use Rattle.erm_model.specs.declared.limits.TheConstants.{OID_LIMIT, TABLES}
use Rattle.erm_model.specs.declared.TheConstants.{ROW_WORDS}
use Rattle.erm_model.specs.Lawful.{times_made}
use Rattle.erm_model.specs.Rows.{Rows}
use Rattle.erm_node.specs.Sound.{IsSound, reached}
use Rattle.erm_world.specs.Works.{row_read}
use Rattle.erm_lines.specs.Executions.{count_rows, is_zero}
use Rattle.erm_told_limits.proofs.Grown.{Apart}

-- a number stands in a list
abbrev pub Has : List ℕ → ℕ → Type 0
Has xs q = list_any (λ x. q == x) xs ≡ true

pub or_left : (a b : Bool) → a ≡ true → (a || b) ≡ true
or_left true b e = refl
or_left false b e = cc

pub or_right : (a b : Bool) → b ≡ true → (a || b) ≡ true
or_right true b e = refl
or_right false b e = e

pub has_first : (xs ys : List ℕ) (q : ℕ) → Has xs q → Has (xs ++ ys) q
has_first xs ys q has = list_any-append (λ x. q == x) xs ys ∙ or_left (list_any (λ x. q == x) xs) (list_any (λ x. q == x) ys) has

pub has_second : (xs ys : List ℕ) (q : ℕ) → Has ys q → Has (xs ++ ys) q
has_second xs ys q has = list_any-append (λ x. q == x) xs ys ∙ or_right (list_any (λ x. q == x) xs) (list_any (λ x. q == x) ys) has

pub has_range : (a n q : ℕ) → a ≤ q → q < a + n → Has (range_with_len a n) q
has_range a zero q above below = absurd (omega arith)
has_range a (suc n) q above below = elim (eqb_tells q a) as (λ _. ((q == a) || list_any (λ x. q == x) (range_with_len (a + 1) n)) ≡ true) [
  | inl here ↦ or_left (q == a) _ here.0
  | inr there ↦ let apart = there.1 in or_right (q == a) _ (has_range (a + 1) n q (omega (arith, apart)) (omega arith))
]

-- one that a filter keeps
has_kept : (p : ℕ → Bool) (xs : List ℕ) (q : ℕ) → Has xs q → p q ≡ true → Has (filter p xs) q
has_kept p [] q has keeps = cc
has_kept p (x ∷ xs) q has keeps = elim (eqb_tells q x) as (λ _. list_any (λ y. q == y) (cond (p x) (x ∷ filter p xs) (filter p xs)) ≡ true) [
  | inl here ↦
      let kept : p x ≡ true = ap p (sym here.1) ∙ keeps in
      subst (λ b. list_any (λ y. q == y) (cond b (x ∷ filter p xs) (filter p xs)) ≡ true) (sym kept) (or_left (q == x) _ here.0)
  | inr there ↦
      let rest : Has xs q = sym (ap (λ b. b || list_any (λ y. q == y) xs) there.0) ∙ has in
      behind (p x) (has_kept p xs q rest keeps)
]
  where
    behind : (b : Bool) → list_any (λ y. q == y) (filter p xs) ≡ true → list_any (λ y. q == y) (cond b (x ∷ filter p xs) (filter p xs)) ≡ true
    behind true later = or_right (q == x) _ later
    behind false later = later

-- one that was made
made_step : (b : Bool) (n : ℕ) (rest : Bool) → 0 < cond b 1 0 + n → (0 < n → rest ≡ true) → (b || rest) ≡ true
made_step true n rest some later = refl
made_step false n rest some later = later (omega (arith, some))

pub turned_same : (a b : ℕ) → (a == b) ≡ (b == a)
turned_same a b = elim (eqb_tells a b) as (λ _. (a == b) ≡ (b == a)) [
  | inl here ↦ here.0 ∙ sym (eq-eqb b a (sym here.1))
  | inr there ↦ elim (eqb_tells b a) as (λ _. (a == b) ≡ (b == a)) [ inl here ↦ absurd (there.1 (sym here.1)) | inr back ↦ there.0 ∙ sym back.0 ]
]

pub has_made : (made : List ℕ) (x : ℕ) → 0 < times_made made x → Has made x
has_made [] x some = absurd (omega (arith, some))
has_made (oid ∷ made) x some =
    let first : times_made (oid ∷ made) x ≡ cond (oid == x) 1 0 + times_made made x = sum_by-cons (λ (o : ℕ). cond (o == x) 1 0) oid made in
    let split = made_step (oid == x) (times_made made x) (list_any (λ y. x == y) made) (omega (arith, some, first)) (λ later. has_made made x later) in
    ap (λ b. b || list_any (λ y. x == y) made) (turned_same x oid) ∙ split

-- the objects read
abbrev pub oids_read : List VersionRead → List ℕ
oids_read rs = map (λ r. r.oid) rs

unread_none : (rs : List VersionRead) (x : ℕ) → row_read rs x ≡ None → AllByRecursion (λ y. (x == y) ≡ false) (oids_read rs)
unread_none [] x none = tt
unread_none (r ∷ rs) x none =
    let parts = two (r.oid == x) r.row (row_read rs x) none in
    (turned_same x r.oid ∙ parts.0, unread_none rs x parts.1)
  where
    two : (here : Bool) (row : List ℕ) (rest : Option (List ℕ)) → cond here (Some row) rest ≡ None → (here ≡ false) × (rest ≡ None)
    two true row rest e = cc
    two false row rest e = (refl, e)

distinct_reads : (rs : List VersionRead) → Apart rs → IsDistinct eqb (oids_read rs)
unfolding Apart
distinct_reads [] apart = IsDistinct-from_AllPairs Decides-eqb [] (λ i j d less within. absurd (omega (arith, within)))
distinct_reads (r ∷ rs) apart = IsDistinct-cons eqb r.oid (oids_read rs) (unread_none rs r.oid apart.0) (distinct_reads rs apart.1)

-- one was read where it stands among them
read_step : (r : VersionRead) (rs : List VersionRead) (q : ℕ) (b : Bool) → (r.oid == q) ≡ b → Has (oids_read (r ∷ rs)) q → (Has (oids_read rs) q → is_some (row_read rs q) ≡ true) → is_some (cond b (Some r.row) (row_read rs q)) ≡ true
read_step r rs q true e has later = refl
read_step r rs q false e has later = later (sym (ap (λ (here : Bool). here || list_any (λ x. q == x) (oids_read rs)) (turned_same q r.oid ∙ e)) ∙ has)

pub read_before : (rs : List VersionRead) (q : ℕ) → Has (oids_read rs) q → is_some (row_read rs q) ≡ true
read_before [] q has = cc
read_before (r ∷ rs) q has = read_step r rs q (r.oid == q) refl has (λ later. read_before rs q later)

has_step : (r : VersionRead) (rs : List VersionRead) (q : ℕ) (b : Bool) → (r.oid == q) ≡ b → is_some (cond b (Some r.row) (row_read rs q)) ≡ true → (is_some (row_read rs q) ≡ true → Has (oids_read rs) q) → Has (oids_read (r ∷ rs)) q
has_step r rs q true e read later = or_left (q == r.oid) _ (turned_same q r.oid ∙ e)
has_step r rs q false e read later = or_right (q == r.oid) _ (later read)

pub has_read : (rs : List VersionRead) (q : ℕ) → is_some (row_read rs q) ≡ true → Has (oids_read rs) q
has_read [] q read = cc
has_read (r ∷ rs) q read = has_step r rs q (r.oid == q) refl read (λ later. has_read rs q later)

-- Objects read, each of which was read before or stands in a list, are no more than those and the list.
pub reads_grow : (rs old : List VersionRead) (more : List ℕ) → Apart rs → ((q : ℕ) → is_some (row_read rs q) ≡ true → (is_some (row_read old q) ≡ true) ⊎ Has more q) → length rs ≤ length old + length more
reads_grow rs old more apart all =
    let ys = oids_read old ++ more in
    let most = length-le_from_is_member nat_eq_equiv (oids_read rs) ys (distinct_reads rs apart)
    (λ q has. elim (all q (read_before rs q has)) as (λ _. Has ys q) [
      | inl before ↦ has_first (oids_read old) more q (has_read old q before)
      | inr new ↦ has_second (oids_read old) more q new
    ])
    in
    omega (arith, most, length-append (oids_read old) more, length-map rs (λ (r : VersionRead). r.oid), length-map old (λ (r : VersionRead). r.oid))

-- objects read, and one that was not, are no more than a list that has them all
pub read_few : (rs : List VersionRead) (oid : ℕ) (ys : List ℕ) → Apart rs → row_read rs oid ≡ None → ((q : ℕ) → Has (oid ∷ oids_read rs) q → Has ys q) → length rs + 1 ≤ length ys
read_few rs oid ys apart none all =
    let most = length-le_from_is_member nat_eq_equiv (oid ∷ oids_read rs) ys (IsDistinct-cons eqb oid (oids_read rs) (unread_none rs oid none) (distinct_reads rs apart)) all in
    omega (arith, most, length-map rs (λ (r : VersionRead). r.oid))

-- those from a first one on are no more than a list that has them all
pub made_few : (first bound : ℕ) (ys : List ℕ) → ((q : ℕ) → first ≤ q → q < bound → Has ys q) → bound ≤ first + length ys
made_few first bound ys all =
    let whole = range_with_len 0 first ++ ys in
    let most = le-length_from_below whole bound (λ q below. in_whole q below (less_or_more q first)) in
    omega (arith, most, length-append (range_with_len 0 first) ys, length-range_with_len 0 first)
  where
    less_or_more : (a b : ℕ) → (a < b) ⊎ (b ≤ a)
    less_or_more a b = cases_lt a b

    in_whole : (q : ℕ) → q < bound → (q < first) ⊎ (first ≤ q) → Has (range_with_len 0 first ++ ys) q
    in_whole q below (inl less) = has_first (range_with_len 0 first) ys q (has_range 0 first q (omega arith) (omega (arith, less)))
    in_whole q below (inr more) = has_second (range_with_len 0 first) ys q (all q more below)

-- the roots of tables, and the objects whose row isn't zero
pub roots : List ℕ
roots = range_with_len 0 TABLES

pub length_roots : length roots ≡ TABLES
unfolding roots
length_roots = length-range_with_len 0 TABLES

pub filled : Rows → List ℕ
filled rows = filter (λ oid. not (is_zero (rows oid))) (range_with_len 0 OID_LIMIT)

pub length_filled : (rows : Rows) → length (filled rows) ≡ count_rows rows
unfolding filled
length_filled rows = refl

has_root : (x : ℕ) → x < TABLES → Has roots x
unfolding roots
has_root x less = has_range 0 TABLES x (omega arith) (omega (arith, less))

has_filled : (rows : Rows) (x : ℕ) → x < OID_LIMIT → not (is_zero (rows x)) ≡ true → Has (filled rows) x
unfolding filled
has_filled rows x below keeps = has_kept (λ oid. not (is_zero (rows oid))) (range_with_len 0 OID_LIMIT) x (has_range 0 OID_LIMIT x (omega arith) (omega (arith, below))) keeps

-- what sound rows reach is a root, or has a row that isn't zero
pub has_reached : ((rows : Rows) (x : ℕ) → IsSound rows → TABLES ≤ x → rows x ≡ replicate ROW_WORDS 0 → reached rows x ≡ 0) → (rows : Rows) (x : ℕ) → IsSound rows → 0 < reached rows x
    → Has (roots ++ filled rows) x
has_reached zeros rows x sound some = by_size (cases_lt x TABLES)
  where
    is_kept : (b : Bool) → is_zero (rows x) ≡ b → TABLES ≤ x → not (is_zero (rows x)) ≡ true
    is_kept true e above = let none = zeros rows x sound above (same_text (rows x) (replicate ROW_WORDS 0) (sym e)) in absurd (omega (arith, none, some))
    is_kept false e above = ap not e

    bounded : (x < OID_LIMIT) ⊎ (OID_LIMIT ≤ x) → x < OID_LIMIT
    bounded (inl less) = less
    bounded (inr more) = let none = sound.bounded x more in absurd (omega (arith, none, some))

    by_size : (x < TABLES) ⊎ (TABLES ≤ x) → Has (roots ++ filled rows) x
    by_size (inl less) = has_first roots (filled rows) x (has_root x less)
    by_size (inr more) = has_second roots (filled rows) x (has_filled rows x (bounded (cases_lt x OID_LIMIT)) (is_kept (is_zero (rows x)) refl more))
