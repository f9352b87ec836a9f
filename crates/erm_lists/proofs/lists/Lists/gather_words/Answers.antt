use Rattle.std.proofs.Common.{◌≡◌, ◌+◌, ◌++◌, ◌∷◌, [], ℕ, List, length-set, refl, sym, ap, ◌∙◌, subst, arith}
use Rattle.std.proofs.lemmas.List.{take_more_set}
use Rattle.erm_core.specs.Cores.{core_of}
use Rattle.erm_machine.specs.Core.{Shared}
use Rattle.erm_machine.specs.Log.{ring_at}
use Rattle.erm_core_turns.specs.Turns.{HasGathered, ring_words}
use Rattle.erm_core_turns.proofs.Gathers.{gathered_both, gathered_none}
use Rattle.erm_core_turns.proofs.Words.{no_words, words_more}
use Rattle.erm_lists.proofs.lists.Lists.gather_words.Goals as goal

pub loop-count-init : goal.loop-count-init
loop-count-init g c =
    let start = core_of c.args.self.now.state in
    let none : c.args.from ≡ c.args.from + 0 = omega arith in
    let room = c.requires.room in (
      c.requires.sound,
      subst (λ (n : ℕ). HasGathered c.args.from n start start) none (gathered_none c.args.from c.args.from start c.requires.gathers),
      refl,
      c.requires.room,
      sym (no_words start.shared c.args.from),
      c.requires.room,
      omega arith,
    )

pub returns-in-None-clause-gathered : goal.returns-in-None-clause-gathered
returns-in-None-clause-gathered g c =
    let inv = c.loop-count.invariant in
    gathered_both c.args.from (c.args.from + c.loop-count.count) (c.args.from + c.loop-count.count) (core_of c.args.self.now.state) (core_of c.loop-count.self.state)
    (core_of c.next_word.new.self.state) inv.1 (c.in-None.ensures.none refl)

pub loop-count-preserved : goal.loop-count-preserved
loop-count-preserved g c =
    let inv = c.loop-count.invariant in
    let start = core_of c.args.self.now.state in
    let before = core_of c.loop-count.self.state in
    let n : ℕ = c.loop-count.count in
    let less = c.loop-count-test.true in
    let there = c.loop-count.words in
    let all = inv.3 in
    let end = inv.5 in
    let next : c.args.from + n + 1 ≡ c.args.from + (n + 1) = omega arith in
    let word : c.in-Some.word ≡ ring_at start.shared (c.args.from + n) = c.in-Some.ensures.word ∙ ap (λ (s : Shared). ring_at s (c.args.from + n)) inv.1.shared in (
      c.next_word.ensures.sound,
      subst (λ (m : ℕ). HasGathered c.args.from m start (core_of c.next_word.new.self.state)) next
          (gathered_both c.args.from (c.args.from + n) (c.args.from + n + 1) start before (core_of c.next_word.new.self.state) inv.1 c.in-Some.ensures.some),
      c.next_word.ensures.sessions ∙ inv.2,
      length-set _ _ _ ∙ inv.3,
      take_more_set there n c.in-Some.word (omega (arith, less, all, end)) ∙ ap (λ (ws : List ℕ). ws ++ c.in-Some.word ∷ []) inv.4
          ∙ ap (λ (w : ℕ). ring_words start.shared c.args.from n ++ w ∷ []) word ∙ sym (words_more start.shared c.args.from n),
      inv.5,
      omega (arith, less),
    )
