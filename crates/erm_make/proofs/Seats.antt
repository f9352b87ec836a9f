-- The seats of lines: sessions are numbered by their first lines.
use Rattle.std.proofs.Common.{◌≡◌, ℕ, zero, suc, ◌+◌, ◌-◌, ◌<◌, ◌≤◌, max, Bool, true, false, cond, not, List, [], ◌∷◌, ◌++◌, map, refl, ap, subst, arith}
use Rattle.std.specs.List.{range_with_len, flat_map, filter}
use Rattle.erm_script.specs.declared.script.Command.{Command}
use Rattle.erm_script.specs.declared.script.ScriptLine.{ScriptLine}
use Rattle.erm_script.specs.Script.{AreNumbered}
use Rattle.erm_make.specs.Texts.{is_flush, lines_but_flushes, requests_but_flushes, line_text, script_text}
use Rattle.erm_make.specs.Workload.{Request, numbered}
use Rattle.erm_make.proofs.Spelled.{Each}

-- ---- what holds of each

pub Each-append : {X : Type 0} (P : X → Type 0) (xs ys : List X) → Each P xs → Each P ys → Each P (xs ++ ys)
Each-append P [] ys a b = b
Each-append P (x ∷ xs) ys a b = (a.0, Each-append P xs ys a.1 b)

pub Each-weaker : {X : Type 0} (P Q : X → Type 0) → ((x : X) → P x → Q x) → (xs : List X) → Each P xs → Each Q xs
Each-weaker P Q more [] all = tt
Each-weaker P Q more (x ∷ xs) all = (more x all.0, Each-weaker P Q more xs all.1)

-- of each that is left, by what is left
pub Each-filter : {X : Type 0} (p : X → Bool) (P Q : X → Type 0) → ((x : X) → p x ≡ true → P x → Q x) → (xs : List X) → Each P xs → Each Q (filter p xs)
Each-filter p P Q more [] all = tt
Each-filter {X} p P Q more (x ∷ xs) all =
    let rest = Each-filter p P Q more xs all.1 in
    let by : (b : Bool) → p x ≡ b → Each Q (cond b (x ∷ filter p xs) (filter p xs)) =
    λ b. elim b as (λ t. p x ≡ t → Each Q (cond t (x ∷ filter p xs) (filter p xs))) [ true ↦ λ e. (more x e all.0, rest) | false ↦ λ e. rest ] in
    by (p x) refl

pub Each-map-range : {X : Type 0} (P : X → Type 0) (f : ℕ → X) (a n : ℕ) → ((k : ℕ) → a ≤ k → k < a + n → P (f k)) → Each P (map f (range_with_len a n))
Each-map-range P f a zero all = tt
Each-map-range P f a (suc n) all = (all a (omega arith) (omega arith), Each-map-range P f (a + 1) n (λ k least most. all k (omega arith) (omega arith)))

pub Each-flat_map-range : {X : Type 0} (P : X → Type 0) (f : ℕ → List X) (a n : ℕ) → ((k : ℕ) → a ≤ k → k < a + n → Each P (f k))
    → Each P (flat_map f (range_with_len a n))
Each-flat_map-range P f a zero all = tt
Each-flat_map-range P f a (suc n) all =
    Each-append P (f a) (flat_map f (range_with_len (a + 1) n)) (all a (omega arith) (omega arith))
    (Each-flat_map-range P f (a + 1) n (λ k least most. all k (omega arith) (omega arith)))

-- ---- seats

-- lines, and others behind them
pub seats-append : (n seen mid last : ℕ) (xs ys : List Request) → AreNumbered seen (numbered n xs) mid
    → ((m : ℕ) → AreNumbered mid (numbered m ys) last) → AreNumbered seen (numbered n (xs ++ ys)) last
seats-append n seen mid last [] ys a b =
    let P : ℕ → Type 0 = λ s. AreNumbered s (numbered n ys) last in
    subst P a (b n)
seats-append n seen mid last (x ∷ xs) ys a b = (a.0, seats-append (n + 1) (max seen x.0) mid last xs ys a.1 b)

-- lines of sessions that were seen
pub seats-seen : (n seen : ℕ) (rs : List Request) → Each (λ r. r.0 ≤ seen) rs → AreNumbered seen (numbered n rs) seen
seats-seen n seen [] all = refl
seats-seen n seen (r ∷ rs) all =
    let P : ℕ → Type 0 = λ s. AreNumbered s (numbered (n + 1) rs) seen in
    let within = all.0 in
    (omega arith, subst P (omega arith) (seats-seen (n + 1) seen rs all.1))

-- the first line is one of the first session
abbrev pub BeginsWithFirst : List Request → Type 0
BeginsWithFirst [] = ⊥
BeginsWithFirst (r ∷ rs) = r.0 ≡ 1

pub seats-first : (n : ℕ) (rs : List Request) → BeginsWithFirst rs → Each (λ r. r.0 ≤ 1) rs → AreNumbered 0 (numbered n rs) 1
seats-first n [] first all = absurd first
seats-first n (r ∷ rs) first all =
    let P : ℕ → Type 0 = λ s. AreNumbered s (numbered (n + 1) rs) 1 in
    (omega arith, subst P (omega arith) (seats-seen (n + 1) 1 rs all.1))

-- lines of sessions one after another
pub seats-each : (n seen a size : ℕ) (command : Command) → a ≤ seen + 1
    → AreNumbered seen (numbered n (map (λ seat. (seat, command)) (range_with_len a size))) (max seen (a + size - 1))
seats-each n seen a zero command least = omega arith
seats-each n seen a (suc size) command least =
    let rs : List Request = map (λ seat. (seat, command)) (range_with_len (a + 1) size) in
    let P : ℕ → Type 0 = λ last. AreNumbered (max seen a) (numbered (n + 1) rs) last in
    (least, subst P (omega arith) (seats-each (n + 1) (max seen a) (a + 1) size command (omega arith)))

-- lines that ask for a flush are of no session, so the others are numbered as before
pub seats-filter : (n m seen last : ℕ) (rs : List Request) → Each (λ r. is_flush r.1 ≡ true → r.0 ≡ 0) rs → AreNumbered seen (numbered n rs) last
    → AreNumbered seen (numbered m (requests_but_flushes rs)) last
seats-filter n m seen last [] none all = all
seats-filter n m seen last (r ∷ rs) none all =
    let left : List Request = requests_but_flushes rs in
    let by : (b : Bool) → is_flush r.1 ≡ b → AreNumbered seen (numbered m (cond (not b) (r ∷ left) left)) last =
    λ b. elim b as (λ t. is_flush r.1 ≡ t → AreNumbered seen (numbered m (cond (not t) (r ∷ left) left)) last) [
      | true ↦ λ e.
          let zero_ = none.0 e in
          let P : ℕ → Type 0 = λ s. AreNumbered s (numbered (n + 1) rs) last in
          seats-filter (n + 1) m seen last rs none.1 (subst P (omega arith) all.1)
      | false ↦ λ e. (all.0, seats-filter (n + 1) (m + 1) (max seen r.0) last rs none.1 all.1)
    ] in
    by (is_flush r.1) refl

-- the numbers of lines are not in their text
pub text-numbers : (names : List (List ℕ)) (n m : ℕ) (rs : List Request)
    → script_text names (lines_but_flushes (numbered n rs)) ≡ script_text names (numbered m (requests_but_flushes rs))
text-numbers names n m [] = refl
text-numbers names n m (r ∷ rs) =
    let line : ℕ → ScriptLine = λ k. record { line = k; session = r.0; command = r.1 } in
    let by : (b : Bool) → script_text names (cond (not b) (line n ∷ lines_but_flushes (numbered (n + 1) rs)) (lines_but_flushes (numbered (n + 1) rs)))
    ≡ script_text names (numbered m (cond (not b) (r ∷ requests_but_flushes rs) (requests_but_flushes rs))) =
    λ b. elim b as (λ t. script_text names (cond (not t) (line n ∷ lines_but_flushes (numbered (n + 1) rs)) (lines_but_flushes (numbered (n + 1) rs)))
    ≡ script_text names (numbered m (cond (not t) (r ∷ requests_but_flushes rs) (requests_but_flushes rs)))) [
      | true ↦ text-numbers names (n + 1) m rs
      | false ↦ ap (λ (bs : List ℕ). (line_text names r.0 r.1 ++ 10 ∷ []) ++ bs) (text-numbers names (n + 1) (m + 1) rs)
    ] in
    by (is_flush r.1)
