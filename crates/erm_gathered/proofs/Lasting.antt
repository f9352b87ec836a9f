-- Blocks that lie end to end stay, and more of them follow.
use Rattle.std.proofs.Common.{◌≡◌, ℕ, zero, suc, List, [], ◌++◌, Some, refl, sym, ap, ◌∙◌, subst}
use Rattle.erm_machine.specs.declared.attempt.Attempt.{Attempt}
use Rattle.erm_machine.specs.declared.event.Kind.{Kind}
use Rattle.erm_machine.specs.Core.{Core}
use Rattle.erm_machine.specs.Sound.{Sound}
use Rattle.erm_machine.specs.Step.{after_event}
use Rattle.erm_core_flush.specs.Turns.{Blocks, words_of}
use Rattle.erm_ring.specs.Turns.{HasBlocks}
use Rattle.erm_rule.specs.declared.view.Book.{Book}
use Rattle.erm_rule.specs.Books.{IsAfter, IsBookOf, IsLater, PassesIn}
use Rattle.erm_rule.proofs.Courses.{joined_later}

-- what the crate below says of one event, and of blocks behind others
abbrev pub BlocksStay : Type 0
BlocksStay = (c d : Core) (seat from to : ℕ) (kind : Kind) (ts : List Attempt) → Sound c → after_event c seat kind ≡ Some d → Blocks c.seats from ts to
    → (us : List Attempt) × Blocks d.seats from us to × (words_of us ≡ words_of ts)

abbrev pub BlocksBehind : Type 0
BlocksBehind = (c : Core) (from mid to : ℕ) (ts us : List Attempt) → Blocks c.seats from ts mid → Blocks c.seats mid us to
    → Blocks c.seats from (ts ++ us) to × (words_of (ts ++ us) ≡ words_of ts ++ words_of us)

module _ (stay : BlocksStay) (from to : ℕ) (words : List ℕ) where
  has_on : (n : ℕ) (c d : Core) → PassesIn n c d → HasBlocks from to words c → HasBlocks from to words d
  has_on zero c d same has = subst (HasBlocks from to words) same has
  has_on (suc n) c d leads has =
      let m : Core = leads.0 in
      let before = has_on n c m leads.1 has in
      let passes = leads.2 in
      let on = stay m d passes.1.0 from to passes.1.1 before.ranges passes.0 passes.1.2 before.blocks in
      record { ranges = on.0; blocks = on.1; words_are = before.words_are ∙ sym on.2 }

  pub has_later : (c d : Core) → IsLater c d → HasBlocks from to words c → HasBlocks from to words d
  has_later c d later has = has_on later.0 c d later.1 has

  pub has_after : (b e : Book) → IsAfter b e → ((c : Core) → IsBookOf b c → HasBlocks from to words c) → (c : Core) → IsBookOf e c → HasBlocks from to words c
  has_after b e goes has c is =
      let w = goes c is in
      has_later w.start c (joined_later w.start w.state c w.since w.later) (has w.start w.is)

pub has_none : (place : ℕ) (c : Core) → HasBlocks place place [] c
has_none place c = record { ranges = []; blocks = refl; words_are = refl }

pub has_both : BlocksBehind → (from mid to : ℕ) (first second : List ℕ) (c : Core) → HasBlocks from mid first c → HasBlocks mid to second c → HasBlocks from to (first ++ second) c
has_both behind from mid to first second c one two =
    let all = behind c from mid to one.ranges two.ranges one.blocks two.blocks in
    record {
      ranges = one.ranges ++ two.ranges;
      blocks = all.0;
      words_are = ap (λ (ws : List ℕ). ws ++ second) one.words_are ∙ ap (λ (ws : List ℕ). words_of one.ranges ++ ws) two.words_are ∙ sym all.1;
    }
