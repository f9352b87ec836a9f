-- Lines added one after another.
use Rattle.std.proofs.Common.{◌≡◌, ℕ, zero, suc, ◌+◌, ◌-◌, ◌*◌, ◌<◌, ◌≤◌, ◌==◌, ◌%◌, min, true, false, List, [], ◌∷◌, ◌++◌, length, refl, sym, ap, subst, ◌∙◌, append_assoc, arith, add-one, length-append}
use Rattle.std.specs.Int.{div_ceil, to_be_bytes, w64}
use Rattle.std.proofs.Math.Nat.{add-mul, mul-le-mul_right, one-mul}
use Rattle.std.specs.List.{flat_map, range_with_len}
use Rattle.std.proofs.lemmas.List.{append-nil}
use Rattle.std.proofs.lemmas.List.Concat.{flat_map-append}
use Rattle.std.proofs.lemmas.List.FromFn.{map-range_with_len_more}
use Rattle.std.proofs.lemmas.Grind.{div_ceil_times}
use Rattle.erm_script.specs.declared.script.Command.{Command}
use Rattle.erm_script.specs.declared.script.Command.TheVariants.{Begin, Commit, Flush, Get, Put}
use Rattle.erm_script.specs.declared.script.ScriptLine.{ScriptLine}
use Rattle.erm_script.specs.declared.script.TheConstants.{NO_SESSION}
use Rattle.erm_make.specs.Draws.{draw}
use Rattle.erm_make.specs.Workload.{Request, numbered, Adds, loaded, load_transaction, loads, load, accesses, by_each, all_accesses, batch, flush_after, batch_of, batches, workload, first_names, session_name}

pub length-numbered : (n : ℕ) (rs : List Request) → length (numbered n rs) ≡ length rs
length-numbered n [] = refl
length-numbered n (r ∷ rs) = let more = length-numbered (n + 1) rs in omega arith

numbered-append : (n : ℕ) (xs ys : List Request) → numbered n (xs ++ ys) ≡ numbered n xs ++ numbered (n + length xs) ys
numbered-append n [] ys = ap (λ m. numbered m ys) (omega arith)
numbered-append n (x ∷ xs) ys =
    let line : ScriptLine = record { line = n; session = x.0; command = x.1 } in
    ap (λ (ls : List ScriptLine). line ∷ ls) (numbered-append (n + 1) xs ys ∙ ap (λ m. numbered (n + 1) xs ++ numbered m ys) (omega arith))

-- no line is added
pub Adds-none : (a : List ScriptLine) → Adds [] a a
Adds-none a = record { is = sym (append-nil a) }

-- the same, where what no line asks for has another name
pub Adds-same : (rs : List Request) (a : List ScriptLine) → [] ≡ rs → Adds rs a a
Adds-same rs a none = subst (λ (xs : List Request). Adds xs a a) none (Adds-none a)

-- lines are added, and then others
pub Adds-append : {xs ys : List Request} {a b c : List ScriptLine} → Adds xs a b → Adds ys b c → Adds (xs ++ ys) a c
Adds-append {xs} {ys} {a} {b} {c} first then_ =
    let long : length b + 1 ≡ length a + 1 + length xs =
    omega (arith, ap length first.is, length-append a (numbered (length a + 1) xs), length-numbered (length a + 1) xs) in
    record {
      is = then_.is ∙ ap (λ m. b ++ numbered m ys) long
          ∙ ap (λ (bs : List ScriptLine). bs ++ numbered (length a + 1 + length xs) ys) first.is
          ∙ append_assoc a (numbered (length a + 1) xs) (numbered (length a + 1 + length xs) ys)
          ∙ ap (λ (zs : List ScriptLine). a ++ zs) (sym (numbered-append (length a + 1) xs ys));
    }

-- the same, where what they ask for has another name
pub Adds-more : {xs ys : List Request} {a b c : List ScriptLine} (zs : List Request) → Adds xs a b → Adds ys b c → xs ++ ys ≡ zs → Adds zs a c
Adds-more {xs} {ys} {a} {b} {c} zs first then_ same = subst (λ (rs : List Request). Adds rs a c) same (Adds-append first then_)

-- what was added to no lines
pub Adds-all : {xs : List Request} {b : List ScriptLine} → Adds xs [] b → b ≡ numbered 1 xs
Adds-all {xs} {b} added = added.is

range_with_len_more : (a n : ℕ) → range_with_len a (suc n) ≡ range_with_len a n ++ (a + n) ∷ []
range_with_len_more a zero = ap (λ m. m ∷ []) (omega arith)
range_with_len_more a (suc n) =
    ap (λ (ms : List ℕ). a ∷ ms) (range_with_len_more (a + 1) n ∙ ap (λ m. range_with_len (a + 1) n ++ m ∷ []) (omega arith))

flat_map-range_with_len_more : (f : ℕ → List Request) (n : ℕ) → flat_map f (range_with_len 0 n) ++ f n ≡ flat_map f (range_with_len 0 (n + 1))
flat_map-range_with_len_more f n =
    let more : range_with_len 0 (n + 1) ≡ range_with_len 0 n ++ n ∷ [] =
    ap (λ m. range_with_len 0 m) (add-one n) ∙ range_with_len_more 0 n ∙ ap (λ m. range_with_len 0 n ++ m ∷ []) (omega arith) in
    sym (ap (λ (ms : List ℕ). flat_map f ms) more ∙ flat_map-append f (range_with_len 0 n) (n ∷ [])
    ∙ ap (λ (rs : List Request). flat_map f (range_with_len 0 n) ++ rs) (append-nil (f n)))

pub by_each-none : (command : Command) → [] ≡ by_each 0 command
unfolding by_each
by_each-none command = refl

pub by_each-more : (n : ℕ) (command : Command) → by_each n command ++ (n + 1, command) ∷ [] ≡ by_each (n + 1) command
unfolding by_each
by_each-more n command =
    let f : ℕ → Request = λ seat. (seat, command) in
    sym (map-range_with_len_more f 1 n (n + 1) (omega arith))

pub loaded-none : (first : ℕ) → [] ≡ loaded first 0
unfolding loaded
loaded-none first = refl

pub loaded-more : (first n : ℕ) → loaded first n ++ (1, Put 0 (first + n) []) ∷ [] ≡ loaded first (n + 1)
unfolding loaded
loaded-more first n =
    let f : ℕ → Request = λ key. (1, Put 0 key []) in
    sym (map-range_with_len_more f first n (first + n) refl)

pub loads-none : [] ≡ loads 0
unfolding loads
loads-none = refl

pub loads-more : (n : ℕ) → loads n ++ load_transaction n ≡ loads (n + 1)
unfolding loads
loads-more n = flat_map-range_with_len_more load_transaction n

pub all_accesses-none : (first : ℕ) → [] ≡ all_accesses first 0
unfolding all_accesses
all_accesses-none first = refl

pub all_accesses-more : (first n : ℕ) → all_accesses first n ++ accesses (n + 1) (first + n) ≡ all_accesses first (n + 1)
unfolding all_accesses
all_accesses-more first n = flat_map-range_with_len_more (λ place. accesses (place + 1) (first + place)) n

pub batches-none : (count sessions : ℕ) → [] ≡ batches count sessions 0
unfolding batches
batches-none count sessions = refl

pub batches-more : (count sessions n : ℕ) → batches count sessions n ++ batch_of count sessions n ≡ batches count sessions (n + 1)
unfolding batches
batches-more count sessions n = flat_map-range_with_len_more (batch_of count sessions) n

-- the lines of a batch, and the flush after it
pub batch_of-is : (count sessions b first size : ℕ) → first ≡ b * sessions → size ≡ min sessions (count - first)
    → batch first size ++ flush_after b ≡ batch_of count sessions b
unfolding batch_of
batch_of-is count sessions b first size at many =
    ap (λ k. batch first k ++ flush_after b) many ∙ ap (λ k. batch k (min sessions (count - k)) ++ flush_after b) at

pub batch-is : (first size : ℕ) → (by_each size Begin ++ all_accesses first size) ++ by_each size Commit ≡ batch first size
unfolding batch
batch-is first size = refl

pub accesses-is : (seat i key other : ℕ) (value : List ℕ) → key ≡ draw (2 * i) → other ≡ draw (2 * i + 1) → value ≡ to_be_bytes w64 i
    → (((seat, Get 0 key) ∷ []) ++ (seat, Get 0 other) ∷ []) ++ (seat, Put 0 key value) ∷ [] ≡ accesses seat i
unfolding accesses
accesses-is seat i key other value a b c =
    let all : ℕ → ℕ → List ℕ → List Request = λ k o v. (seat, Get 0 k) ∷ (seat, Get 0 o) ∷ (seat, Put 0 k v) ∷ [] in
    ap (λ k. all k other value) a ∙ ap (λ o. all (draw (2 * i)) o value) b ∙ ap (λ (v : List ℕ). all (draw (2 * i)) (draw (2 * i + 1)) v) c

pub load_transaction-is : (i : ℕ) → (((1, Begin) ∷ []) ++ loaded (4 * i) 4) ++ (1, Commit) ∷ [] ≡ load_transaction i
unfolding load_transaction
load_transaction-is i = refl

pub load-is : loads 16 ++ (NO_SESSION, Flush) ∷ [] ≡ load
unfolding load
load-is = refl

pub workload-is : (count sessions n : ℕ) → n ≡ div_ceil count sessions → load ++ batches count sessions n ≡ workload count sessions
unfolding workload
workload-is count sessions n e = ap (λ m. load ++ batches count sessions m) e

-- no flush, and a flush
pub flush_after-no : (b : ℕ) → ((b + 1) % 64 == 0) ≡ false → [] ≡ flush_after b
unfolding flush_after
flush_after-no b e = rw e refl

pub flush_after-yes : (b : ℕ) → ((b + 1) % 64 == 0) ≡ true → (NO_SESSION, Flush) ∷ [] ≡ flush_after b
unfolding flush_after
flush_after-yes b e = rw e refl

pub first_names-none : [] ≡ first_names 0
unfolding first_names
first_names-none = refl

pub first_names-more : (n : ℕ) → first_names n ++ session_name (n + 1) ∷ [] ≡ first_names (n + 1)
unfolding first_names
first_names-more n = sym (map-range_with_len_more session_name 1 n (n + 1) (omega arith))

-- before each of so many batches there are transactions left
pub before_end : (count most b : ℕ) → 0 < most → b < div_ceil count most → b * most < count
before_end count most b some within =
    let bound = (div_ceil_times count most some).1 in
    let less : (b + 1) * most ≤ div_ceil count most * most = mul-le-mul_right most (omega arith) in
    let step : (b + 1) * most ≡ b * most + most = add-mul b 1 most ∙ ap (λ m. b * most + m) (one-mul most) in
    omega (arith, bound, less, step)

-- as many transactions as there are come before the end of the last batch
pub at_end : (count most : ℕ) → 0 < most → count ≤ div_ceil count most * most
at_end count most some = (div_ceil_times count most some).0

pub one_more : (b most : ℕ) → (b + 1) * most ≡ b * most + most
one_more b most = add-mul b 1 most ∙ ap (λ m. b * most + m) (one-mul most)

-- where a batch ends
pub batch_end : (count sessions most b size : ℕ) → most ≡ sessions → b * most < count → size ≡ min most (count - b * most)
    → b * most + size ≡ min count ((b + 1) * sessions)
batch_end count sessions most b size same left many =
    let next = one_more b most in
    let all : b * most + size ≡ min count ((b + 1) * most) = omega (arith, next, left, many) in
    all ∙ ap (λ m. min count ((b + 1) * m)) same

-- where it begins
pub batch_start : (count sessions most b : ℕ) → most ≡ sessions → b * most < count → min count (b * sessions) ≡ b * most
batch_start count sessions most b same left =
    let all : min count (b * most) ≡ b * most = omega (arith, left) in
    ap (λ m. min count (b * m)) (sym same) ∙ all

-- the load alone
pub first_lines : (count sessions : ℕ) (a b : List ScriptLine) → a ≡ [] → Adds load a b → Adds (load ++ batches count sessions 0) [] b
first_lines count sessions a b none added =
    let P : List ScriptLine → Type 0 = λ ls. Adds load ls b in
    Adds-more (load ++ batches count sessions 0) (subst P none added) (Adds-none b) (ap (λ (rs : List Request). load ++ rs) (batches-none count sessions))

-- one more batch
pub more_lines : (count sessions b first size : ℕ) → first ≡ b * sessions → size ≡ min sessions (count - first)
    → (load ++ batches count sessions b) ++ (batch first size ++ flush_after b) ≡ load ++ batches count sessions (b + 1)
more_lines count sessions b first size at many =
    append_assoc load (batches count sessions b) (batch first size ++ flush_after b)
    ∙ ap (λ (rs : List Request). load ++ rs)
    (ap (λ (rs : List Request). batches count sessions b ++ rs) (batch_of-is count sessions b first size at many) ∙ batches-more count sessions b)
