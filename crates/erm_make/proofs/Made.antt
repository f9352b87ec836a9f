-- The workload that is made is a script.
use Rattle.std.proofs.Common.{◌≡◌, ◌≢◌, ℕ, zero, suc, ◌+◌, ◌-◌, ◌*◌, ◌^◌, ◌<◌, ◌≤◌, ◌==◌, ◌%◌, ◌/◌, min, Bool, true, false, cond, not, List, [], ◌∷◌, ◌++◌, length, get_or, decimal, ◌⊎◌, refl, sym, ap, subst, ◌∙◌, arith, inl, inr, mod-lt, lit<}
use Rattle.std.specs.Int.{byte_at, bytes_high_first, div_ceil, to_be_bytes, w64}
use Rattle.std.specs.List.{All, AllPairs, flat_map, range_with_len}
use Rattle.std.proofs.lemmas.Bool.{false≢true}
use Rattle.std.proofs.lemmas.Bool.Decides.{nat_tests}
use Rattle.std.proofs.lemmas.Fmt.{decimal_injective, decimal_is_IsNumeral, length-decimal-le}
use Rattle.std.proofs.lemmas.Grind.{div_ceil_times}
use Rattle.std.proofs.lemmas.List.Elements.{All-cons, All-from_get_or, All-nil}
use Rattle.std.proofs.lemmas.List.FromFn.{get_or-map-range_with_len, length-map-range_with_len}
use Rattle.std.proofs.lemmas.Str.Parse.{digit_at}
use Rattle.erm_model.specs.declared.limits.TheConstants.{SESSIONS}
use Rattle.erm_script.specs.declared.grammar.Grammar.{Grammar}
use Rattle.erm_script.specs.declared.script.Command.{Command}
use Rattle.erm_script.specs.declared.script.Command.TheVariants.{Begin, Commit, Flush, Get, Put}
use Rattle.erm_script.specs.declared.script.TheConstants.{NO_SESSION}
use Rattle.erm_script.specs.Keywords.{has_command, names_session}
use Rattle.erm_script.specs.Script.{AreNumbered, IsCommand, IsInRange, IsName, IsScript, IsValue, is_name_byte, keyword_of}
use Rattle.erm_make.specs.Draws.{draw}
use Rattle.erm_make.specs.Texts.{is_flush, lines_but_flushes, requests_but_flushes, script_text}
use Rattle.erm_make.specs.Workload.{Request, accesses, all_accesses, batch, batch_of, batches, by_each, first_names, flush_after, load, load_transaction, loaded, loads, names_of, numbered, session_name, workload}
use Rattle.erm_make.proofs.Drawing.{draw-small}
use Rattle.erm_make.proofs.Spelled.{Each, IsAsked, script_spelled}
use Rattle.erm_make.proofs.Seats.{BeginsWithFirst, Each-append, Each-filter, Each-flat_map-range, Each-map-range, Each-weaker, seats-append, seats-each, seats-filter, seats-first, seats-seen, text-numbers}

-- ---- what each line asks for

-- a command of sessions that every grammar has
record IsPlain (asked : Command) : Type 0 where
  named : names_session (keyword_of asked) ≡ true
  there : (g : Grammar) → has_command g (keyword_of asked) ≡ true
  in_range : IsInRange asked
  other : is_flush asked ≡ false

record OfSession (sessions : ℕ) (r : Request) : Type 0 where
  some : 1 ≤ r.0
  most : r.0 ≤ sessions
  plain : IsPlain r.1

record AsksFlush (r : Request) : Type 0 where
  none : r.0 ≡ NO_SESSION
  flush : r.1 ≡ Flush

-- a line of the workload asks for a plain command of one of so many sessions, or for a flush
abbrev IsMade : ℕ → Request → Type 0
IsMade sessions r = OfSession sessions r ⊎ AsksFlush r

plain_begin : IsPlain Begin
plain_begin = record { named = refl; there = λ g. refl; in_range = tt; other = refl }

plain_commit : IsPlain Commit
plain_commit = record { named = refl; there = λ g. refl; in_range = tt; other = refl }

plain_get : (key : ℕ) → key < 64 → IsPlain (Get 0 key)
plain_get key small = record { named = refl; there = λ g. refl; in_range = (omega arith, omega arith); other = refl }

plain_put : (key : ℕ) (value : List ℕ) → key < 64 → IsValue value → IsPlain (Put 0 key value)
plain_put key value small ok = record { named = refl; there = λ g. refl; in_range = ((omega arith, omega arith), ok); other = refl }

no_bytes : IsValue []
no_bytes = (omega arith, All-nil (λ b. b < 256))

length-bytes_high_first : (k n : ℕ) → length (bytes_high_first k n) ≡ k
length-bytes_high_first zero n = refl
length-bytes_high_first (suc k) n = let more = length-bytes_high_first k n in omega arith

byte_is_small : (i n : ℕ) → byte_at i n < 256
byte_is_small zero n = mod-lt n (lit< tt)
byte_is_small (suc i) n = mod-lt (n / 256 ^ suc i) (lit< tt)

bytes_are_small : (k n : ℕ) → All (λ b. b < 256) (bytes_high_first k n)
bytes_are_small zero n = All-nil (λ b. b < 256)
bytes_are_small (suc k) n = All-cons (λ b. b < 256) (byte_at k n) (bytes_high_first k n) (byte_is_small k n) (bytes_are_small k n)

number_value : (n : ℕ) → IsValue (to_be_bytes w64 n)
number_value n = (omega (arith, length-bytes_high_first 8 n), bytes_are_small 8 n)

made_loaded : (m first n : ℕ) → 1 ≤ m → first + n ≤ 64 → Each (IsMade m) (loaded first n)
unfolding loaded
made_loaded m first n some small =
    Each-map-range (IsMade m) (λ key. (1, Put 0 key [])) first n
    (λ k least most. inl (record { some = omega arith; most = some; plain = plain_put k [] (omega arith) no_bytes }))

made_load_transaction : (m i : ℕ) → 1 ≤ m → i < 16 → Each (IsMade m) (load_transaction i)
unfolding load_transaction
made_load_transaction m i some small =
    Each-append (IsMade m) ((1, Begin) ∷ loaded (4 * i) 4) ((1, Commit) ∷ [])
    (inl (record { some = omega arith; most = some; plain = plain_begin }), made_loaded m (4 * i) 4 some (omega arith))
    (inl (record { some = omega arith; most = some; plain = plain_commit }), tt)

made_load : (m : ℕ) → 1 ≤ m → Each (IsMade m) load
unfolding load loads
made_load m some =
    Each-append (IsMade m) (loads 16) ((NO_SESSION, Flush) ∷ [])
    (Each-flat_map-range (IsMade m) load_transaction 0 16 (λ k least most. made_load_transaction m k some (omega arith)))
    (inr (record { none = refl; flush = refl }), tt)

made_accesses : (m seat i : ℕ) → 1 ≤ seat → seat ≤ m → Each (IsMade m) (accesses seat i)
unfolding accesses
made_accesses m seat i some most = (
  inl (record { some = some; most = most; plain = plain_get (draw (2 * i)) (draw-small (2 * i)) }),
  (
    inl (record { some = some; most = most; plain = plain_get (draw (2 * i + 1)) (draw-small (2 * i + 1)) }),
    (inl (record { some = some; most = most; plain = plain_put (draw (2 * i)) (to_be_bytes w64 i) (draw-small (2 * i)) (number_value i) }), tt),
  ),
)

made_by_each : (m size : ℕ) (asked : Command) → size ≤ m → IsPlain asked → Each (IsMade m) (by_each size asked)
unfolding by_each
made_by_each m size asked most plain =
    Each-map-range (IsMade m) (λ seat. (seat, asked)) 1 size (λ k least within. inl (record { some = least; most = omega arith; plain = plain }))

made_all_accesses : (m first size : ℕ) → size ≤ m → Each (IsMade m) (all_accesses first size)
unfolding all_accesses
made_all_accesses m first size most =
    Each-flat_map-range (IsMade m) (λ place. accesses (place + 1) (first + place)) 0 size
    (λ k least within. made_accesses m (k + 1) (first + k) (omega arith) (omega arith))

made_batch : (m first size : ℕ) → size ≤ m → Each (IsMade m) (batch first size)
unfolding batch
made_batch m first size most =
    Each-append (IsMade m) (by_each size Begin ++ all_accesses first size) (by_each size Commit)
    (Each-append (IsMade m) (by_each size Begin) (all_accesses first size) (made_by_each m size Begin most plain_begin) (made_all_accesses m first size most))
    (made_by_each m size Commit most plain_commit)

made_flush_after : (m b : ℕ) → Each (IsMade m) (flush_after b)
unfolding flush_after
made_flush_after m b =
    let by : (t : Bool) → Each (IsMade m) (cond t ((NO_SESSION, Flush) ∷ []) []) =
    λ t. elim t as (λ u. Each (IsMade m) (cond u ((NO_SESSION, Flush) ∷ []) [])) [
      | true ↦ (inr (record { none = refl; flush = refl }), tt)
      | false ↦ tt
    ] in
    by ((b + 1) % 64 == 0)

made_batch_of : (count sessions b : ℕ) → Each (IsMade (min count sessions)) (batch_of count sessions b)
unfolding batch_of
made_batch_of count sessions b =
    let first : ℕ = b * sessions in
    let size : ℕ = min sessions (count - first) in
    Each-append (IsMade (min count sessions)) (batch first size) (flush_after b)
    (made_batch (min count sessions) first size (fewer count sessions first)) (made_flush_after (min count sessions) b)
  where
    fewer : (count sessions first : ℕ) → min sessions (count - first) ≤ min count sessions
    fewer count sessions first = omega arith

made_batches : (count sessions n : ℕ) → Each (IsMade (min count sessions)) (batches count sessions n)
unfolding batches
made_batches count sessions n =
    Each-flat_map-range (IsMade (min count sessions)) (batch_of count sessions) 0 n (λ k least most. made_batch_of count sessions k)

made_workload : (count sessions : ℕ) → 1 ≤ count → 1 ≤ sessions → Each (IsMade (min count sessions)) (workload count sessions)
unfolding workload
made_workload count sessions some one =
    Each-append (IsMade (min count sessions)) load (batches count sessions (div_ceil count sessions))
    (made_load (min count sessions) (omega arith)) (made_batches count sessions (div_ceil count sessions))

-- ---- seats

seat_of_made : (m : ℕ) (r : Request) → IsMade m r → r.0 ≤ m
seat_of_made m r (inl of) = of.most
seat_of_made m r (inr of) = let none = of.none in omega arith

seats_are_within : (m : ℕ) (rs : List Request) → Each (IsMade m) rs → Each (λ r. r.0 ≤ m) rs
seats_are_within m rs made = Each-weaker (IsMade m) (λ r. r.0 ≤ m) (seat_of_made m) rs made

load_begins : BeginsWithFirst load
unfolding load loads load_transaction
load_begins = refl

-- the seats of the first batch
seats_batch : (k first size b m : ℕ) → 1 ≤ size → size ≡ m → AreNumbered 1 (numbered k (batch first size ++ flush_after b)) m
unfolding batch by_each
seats_batch k first size b m some all =
    let begins : List Request = by_each size Begin in
    let commits : List Request = by_each size Commit in
    let P : ℕ → Type 0 = λ last. AreNumbered 1 (numbered k begins) last in
    let started : AreNumbered 1 (numbered k begins) m = subst P (omega arith) (seats-each k 1 1 size Begin (omega arith)) in
    let accessed = made_all_accesses m first size (omega arith) in
    let committed = made_by_each m size Commit (omega arith) plain_commit in
    seats-append k 1 m m (batch first size) (flush_after b)
    (seats-append k 1 m m (begins ++ all_accesses first size) commits
    (seats-append k 1 m m begins (all_accesses first size) started (λ j. seats-seen j m (all_accesses first size) (seats_are_within m (all_accesses first size) accessed)))
    (λ j. seats-seen j m commits (seats_are_within m commits committed)))
    (λ j. seats-seen j m (flush_after b) (seats_are_within m (flush_after b) (made_flush_after m b)))

first_batch : (k count sessions : ℕ) → 1 ≤ count → 1 ≤ sessions → AreNumbered 1 (numbered k (batch_of count sessions 0)) (min count sessions)
unfolding batch_of
first_batch k count sessions some one =
    let first : ℕ = 0 * sessions in
    let size : ℕ = min sessions (count - first) in
    let all : size ≡ min count sessions = omega arith in
    seats_batch k first size 0 (min count sessions) (omega arith) all

seats_batches : (k count sessions n : ℕ) → 1 ≤ count → 1 ≤ sessions → 1 ≤ n → AreNumbered 1 (numbered k (batches count sessions n)) (min count sessions)
unfolding batches
seats_batches k count sessions zero some one none = absurd (omega arith)
seats_batches k count sessions (suc n) some one more =
    let m : ℕ = min count sessions in
    let rest : List Request = flat_map (batch_of count sessions) (range_with_len (0 + 1) n) in
    let made : Each (IsMade m) rest = Each-flat_map-range (IsMade m) (batch_of count sessions) (0 + 1) n (λ b least most. made_batch_of count sessions b) in
    seats-append k 1 m m (batch_of count sessions 0) rest (first_batch k count sessions some one) (λ j. seats-seen j m rest (seats_are_within m rest made))

some_batches : (n count sessions : ℕ) → 1 ≤ count → count ≤ n * sessions → 1 ≤ n
some_batches zero count sessions some all = absurd (omega arith)
some_batches (suc n) count sessions some all = omega arith

seats_workload : (count sessions : ℕ) → 1 ≤ count → 1 ≤ sessions → AreNumbered 0 (numbered 1 (workload count sessions)) (min count sessions)
unfolding workload
seats_workload count sessions some one =
    let n : ℕ = div_ceil count sessions in
    let several : 1 ≤ n = some_batches n count sessions some (div_ceil_times count sessions (omega arith)).0 in
    seats-append 1 0 1 (min count sessions) load (batches count sessions n)
    (seats-first 1 load load_begins (seats_are_within 1 load (made_load 1 (omega arith)))) (λ k. seats_batches k count sessions n some one several)

-- ---- names

digit_is_name : (b : ℕ) → 48 ≤ b → b ≤ 57 → is_name_byte b ≡ true
digit_is_name b low high = grind (arith, nat_tests)

name_ok : (seat : ℕ) → seat ≤ SESSIONS → IsName (session_name seat)
name_ok seat few =
    let small : seat < 2 ^ 64 = omega arith in
    let digits = (decimal_is_IsNumeral seat small).0.1 in
    let short = length-decimal-le 2 seat (omega arith) (omega arith) small in
    let P : ℕ → Type 0 = λ b. is_name_byte b ≡ true in
    record {
      some = omega arith;
      few = omega (arith, short);
      bytes = All-cons P 115 (decimal seat) refl
          (All-from_get_or P (decimal seat) 0 (λ i within. let digit = digit_at (decimal seat) i digits within in digit_is_name (get_or (decimal seat) i 0) digit.0 digit.1));
    }

name_at : (m k : ℕ) (d : List ℕ) → k < m → get_or (first_names m) k d ≡ session_name (1 + k)
unfolding first_names
name_at m k d within = get_or-map-range_with_len session_name 1 m k (1 + k) d within refl

length-first_names : (m : ℕ) → length (first_names m) ≡ m
unfolding first_names
length-first_names m = length-map-range_with_len session_name 1 m

names_ok : (m : ℕ) → m ≤ SESSIONS → All IsName (first_names m)
names_ok m few k d within =
    let below : k < m = let long = length-first_names m in omega arith in
    subst IsName (sym (name_at m k d below)) (name_ok (1 + k) (omega arith))

names_differ : (m : ℕ) → m ≤ SESSIONS → AllPairs (λ a b. a ≢ b) (first_names m)
names_differ m few i j d less within e =
    let below : j < m = let long = length-first_names m in omega arith in
    let same : session_name (1 + i) ≡ session_name (1 + j) = sym (name_at m i d (omega arith)) ∙ e ∙ name_at m j d below in
    let digits : decimal (1 + i) ≡ decimal (1 + j) = cc in
    let equal = decimal_injective (1 + i) (1 + j) (omega arith) (omega arith) digits in
    omega arith

-- ---- the whole

-- in a grammar that has flushes, and no threads, each line may be asked for
asked_of_made : (g : Grammar) (names : List (List ℕ)) (m : ℕ) → m ≡ length names → g.log ≡ true → g.threads ≡ false
    → (r : Request) → IsMade m r → IsAsked g names r
asked_of_made g names m long log threads r (inl of) = record {
  ok = record { there = of.plain.there g; in_range = of.plain.in_range };
  who = inl (record { some = of.some; most = (let most = of.most in omega arith); named = of.plain.named });
}
asked_of_made g names m long log threads r (inr of) =
    let P : Command → Type 0 = λ asked. IsCommand g asked in
    record {
      ok = subst P (sym of.flush) (record { there = log; in_range = tt });
      who = inr (record { none = of.none; unnamed = ap (λ asked. names_session (keyword_of asked)) of.flush; one_thread = threads });
    }

-- in any grammar, each line that doesn't ask for a flush
asked_of_left : (g : Grammar) (names : List (List ℕ)) (m : ℕ) → m ≡ length names → (r : Request) → not (is_flush r.1) ≡ true → IsMade m r → IsAsked g names r
asked_of_left g names m long r left (inl of) = record {
  ok = record { there = of.plain.there g; in_range = of.plain.in_range };
  who = inl (record { some = of.some; most = (let most = of.most in omega arith); named = of.plain.named });
}
asked_of_left g names m long r left (inr of) =
    absurd (false≢true (sym (ap (λ asked. not (is_flush asked)) of.flush) ∙ left))

flushes_of_none : (m : ℕ) (r : Request) → IsMade m r → is_flush r.1 ≡ true → r.0 ≡ 0
flushes_of_none m r (inl of) e = absurd (false≢true (sym of.plain.other ∙ e))
flushes_of_none m r (inr of) e = of.none

-- the lines of the workload are those of a script, and so is its text
pub workload_is_script : (g : Grammar) (count sessions : ℕ) → 1 ≤ count → 1 ≤ sessions → sessions ≤ SESSIONS → sessions ≤ g.sessions → g.log ≡ true
    → g.threads ≡ false
    → IsScript g (script_text (names_of count sessions) (numbered 1 (workload count sessions))) (names_of count sessions) (numbered 1 (workload count sessions))
workload_is_script g count sessions some one few fits log threads =
    let m : ℕ = min count sessions in
    let names : List (List ℕ) = names_of count sessions in
    let rs : List Request = workload count sessions in
    let long : m ≡ length names = sym (length-first_names m) in
    let P : ℕ → Type 0 = λ last. AreNumbered 0 (numbered 1 rs) last in
    record {
      spelled = script_spelled g names rs (names_ok m (omega arith))
          (Each-weaker (IsMade m) (IsAsked g names) (asked_of_made g names m long log threads) rs (made_workload count sessions some one));
      numbered = subst P long (seats_workload count sessions some one);
      differ = names_differ m (omega arith);
      few = omega arith;
    }

-- the same without the lines that ask for a flush, whatever commands there are besides those of transactions on one key
pub workload_is_script_but_flushes : (g : Grammar) (count sessions : ℕ) → 1 ≤ count → 1 ≤ sessions → sessions ≤ SESSIONS → sessions ≤ g.sessions
    → IsScript g (script_text (names_of count sessions) (lines_but_flushes (numbered 1 (workload count sessions)))) (names_of count sessions)
    (numbered 1 (requests_but_flushes (workload count sessions)))
workload_is_script_but_flushes g count sessions some one few fits =
    let m : ℕ = min count sessions in
    let names : List (List ℕ) = names_of count sessions in
    let rs : List Request = workload count sessions in
    let left : List Request = requests_but_flushes rs in
    let long : m ≡ length names = sym (length-first_names m) in
    let made : Each (IsMade m) rs = made_workload count sessions some one in
    let P : ℕ → Type 0 = λ last. AreNumbered 0 (numbered 1 left) last in
    let Q : List ℕ → Type 0 = λ bytes. IsScript g bytes names (numbered 1 left) in
    let script : IsScript g (script_text names (numbered 1 left)) names (numbered 1 left) = record {
      spelled = script_spelled g names left (names_ok m (omega arith))
          (Each-filter (λ r. not (is_flush r.1)) (IsMade m) (IsAsked g names) (asked_of_left g names m long) rs made);
      numbered = subst P long (seats-filter 1 1 0 m rs
          (Each-weaker (IsMade m) (λ r. is_flush r.1 ≡ true → r.0 ≡ 0) (flushes_of_none m) rs made) (seats_workload count sessions some one));
      differ = names_differ m (omega arith);
      few = omega arith;
    } in
    subst Q (sym (text-numbers names 1 1 rs)) script
