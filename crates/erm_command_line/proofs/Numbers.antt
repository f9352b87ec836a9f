-- Words that spell numbers.
use Rattle.std.proofs.Common.{◌≡◌, ◌≢◌, ◌<◌, ◌^◌, ℕ, Bool, true, false, List, Result, Ok, Err, Some, None, arith, decimal, sym, ◌∙◌, nat_eq}
use Rattle.std.specs.Result.{result_ok}
use Rattle.std.specs.Cmp.Lexicographic.{pointwise}
use Rattle.std.specs.Str.Parse.{ParsesUnsigned}
use Rattle.std.proofs.lemmas.Fmt.{parse-decimal}
use Rattle.std.proofs.lemmas.Slice.Eq.{slice_eq-Decides}
use Rattle.std.proofs.lemmas.Bool.Decides.{Decides-eqb}
use Rattle.std.proofs.lemmas.Bool.{false≢true}

-- a text that is not read as a number spells none
pub unread_spells_none : {E : Type 0} (bs : List ℕ) (r : Result ℕ E) (n : ℕ) → ParsesUnsigned 32 10 bs r → result_ok r ≡ None → n < 2 ^ 32 → bs ≢ decimal n
unread_spells_none bs r n reads none small e =
    let is : r ≡ Ok n = parse-decimal 32 n bs r small (omega (arith, small)) e reads in
    cc

pub same_read : {E : Type 0} (r : Result ℕ E) (m n : ℕ) → Some m ≡ result_ok r → r ≡ Ok n → m ≡ n
same_read (Ok k) m n some is = cc
same_read (Err e) m n some is = cc

-- bytes that `==` finds apart
pub other_bytes : (xs ys : List ℕ) (r : Bool) → r ≡ pointwise nat_eq xs ys → r ≡ false → xs ≢ ys
other_bytes xs ys r is failed e = false≢true (sym failed ∙ (slice_eq-Decides Decides-eqb xs ys r is).1 e)
