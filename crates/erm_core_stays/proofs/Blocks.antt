-- Decided blocks that lie end to end stay.
use Rattle.std.proofs.Common.{◌≡◌, ℕ, ◌+◌, List, [], ◌∷◌, ◌++◌, Some, append_assoc, refl, sym, ap, ◌∙◌, subst, arith}
use Rattle.erm_machine.specs.declared.attempt.Attempt.{Attempt}
use Rattle.erm_machine.specs.declared.event.Event.{Event}
use Rattle.erm_machine.specs.declared.event.Kind.{Kind}
use Rattle.erm_machine.specs.Core.{Core}
use Rattle.erm_machine.specs.Sound.{Sound}
use Rattle.erm_machine.specs.Step.{after_event}
use Rattle.erm_core_flush.specs.Turns.{Blocks, words_of}
use Rattle.erm_core_flush.proofs.Forth.{forth}
use Rattle.erm_core_stays.specs.Runs.{Runs}
use Rattle.erm_core_stays.proofs.Running.{KeepsSound, over_run}

-- the same blocks in another state
abbrev pub HasBlocks : Core → (from to : ℕ) → List Attempt → Type 0
HasBlocks d from to ts = (us : List Attempt) × Blocks d.seats from us to × (words_of us ≡ words_of ts)

words_same : (t u : Attempt) (ts us : List Attempt) → u.header ≡ t.header → u.block ≡ t.block → words_of us ≡ words_of ts → words_of (u ∷ us) ≡ words_of (t ∷ ts)
words_same t u ts us header block rest =
    ap (λ h. (h ∷ u.block) ++ words_of us) header ∙ ap (λ (b : List ℕ). (t.header ∷ b) ++ words_of us) block ∙ ap (λ (ws : List ℕ). (t.header ∷ t.block) ++ ws) rest

pub blocks_stay : (c d : Core) (p : ℕ) (k : Kind) → Sound c → after_event c p k ≡ Some d → (ts : List Attempt) (from to : ℕ) → Blocks c.seats from ts to → HasBlocks d from to ts
blocks_stay c d p k sound e [] from to lie = ([], lie, refl)
blocks_stay c d p k sound e (t ∷ ts) from to lie =
    let is = lie.0 in
    let a = forth c p k d sound e is.seat t is.stands is.drawn is.decided in
    let b = a.is in
    let stamp = b.stamp in
    let drawn = is.drawn in
    let rest = blocks_stay c d p k sound e ts (from + t.size) to lie.2 in (
      a.new ∷ rest.0,
      (
        record { seat = is.seat; stands = a.stands; drawn = omega (arith, drawn, stamp); decided = λ u. is.decided (sym b.decision ∙ u) },
        stamp ∙ lie.1,
        subst (λ n. Blocks d.seats (from + n) rest.0 to) (sym b.size) rest.1,
      ),
      words_same t a.new ts rest.0 b.header b.block rest.2,
    )

pub run_blocks : KeepsSound → (es : List Event) (c d : Core) → Sound c → Runs es c d → (ts : List Attempt) (from to : ℕ) → Blocks c.seats from ts to → HasBlocks d from to ts
run_blocks keeps es c d sound run =
    over_run keeps (λ (a b : Core). (ts : List Attempt) (from to : ℕ) → Blocks a.seats from ts to → HasBlocks b from to ts)
    (λ a ts from to lie. (ts, lie, refl))
    (λ a b e first second ts from to lie. let one = first ts from to lie in let two = second one.0 from to one.1 in (two.0, two.1, two.2 ∙ one.2))
    blocks_stay es c d sound run

pub blocks_behind : (c : Core) (ts us : List Attempt) (from mid to : ℕ) → Blocks c.seats from ts mid → Blocks c.seats mid us to → Blocks c.seats from (ts ++ us) to × (words_of (ts ++ us) ≡ words_of ts ++ words_of us)
blocks_behind c [] us from mid to first second = (subst (λ n. Blocks c.seats n us to) (sym first) second, refl)
blocks_behind c (t ∷ ts) us from mid to first second =
    let rest = blocks_behind c ts us (from + t.size) mid to first.2 second in
    ((first.0, first.1, rest.0), ap (λ (ws : List ℕ). (t.header ∷ t.block) ++ ws) rest.1 ∙ sym (append_assoc (t.header ∷ t.block) (words_of ts) (words_of us)))
