-- Turns one after another: each flushes further than the one before.
use Rattle.std.proofs.Common.{◌≡◌, ℕ, suc, ◌+◌, ◌^◌, ◌<◌, ◌⊎◌, inl, inr, Ok, sym, ◌∙◌, subst, arith}
use Rattle.erm_machine.specs.Core.{Core}
use Rattle.erm_model.specs.RowTransaction.{Law}
use Rattle.erm_rule.specs.declared.view.Start.{Start}
use Rattle.erm_rule.specs.Books.{IsBookOf}
use Rattle.erm_desk.specs.All.{FlushTurns}
use Rattle.erm_desk.specs.Desk.{Sees, TurnsTo}
use Rattle.erm_desk.specs.Known.{IsFlushedTo}

-- no turn has flushed yet, or the last one flushed up to this place
abbrev pub IsLast : ℕ → Sees → Type 0
IsLast place s = (place ≡ 0) ⊎ ((c : Core) × IsBookOf s.book c × IsFlushedTo s.book place)

pub goes_further : (law : Law) (o : Start) (place end : ℕ) (s t : Sees) → IsLast place s → TurnsTo law o (Ok end) s t → place < end
goes_further law o place end s t (inl none) did = let some = did.3.some in omega (arith, none, some)
goes_further law o place end s t (inr (c, is, at)) did =
    let some = did.3.some in
    let same = sym (at c is) ∙ did.3.from c is in
    omega (arith, same, some)

pub last_now : (law : Law) (o : Start) (end : ℕ) (s t : Sees) → TurnsTo law o (Ok end) s t → IsLast end t
last_now law o end s t did = inr (did.3.has.0, did.3.has.1, did.3.to)

pub ends_low : (law : Law) (o : Start) (end : ℕ) (s t : Sees) → TurnsTo law o (Ok end) s t → end < 2 ^ 64
ends_low law o end s t did = let low = did.3.knows.log.places in let same = did.3.end_is in omega (arith, low, same)

-- one turn more
pub one_more : (law : Law) (o : Start) (turns end : ℕ) (s last t : Sees) → FlushTurns law o turns s last → TurnsTo law o (Ok end) last t → FlushTurns law o (turns + 1) s t
one_more law o turns end s last t before did =
    let all : FlushTurns law o (suc turns) s t = (last, before, (end, did)) in
    let same : suc turns ≡ turns + 1 = omega arith in
    subst (λ (n : ℕ). FlushTurns law o n s t) same all
