-- A load of a stamp, or of the bits of readers, leaves all words, and the word found is the version's.
use Rattle.std.proofs.Common.{◌≡◌, ℕ, ◌<◌, true, Some, sym, ap, ◌∙◌, subst}
use Rattle.std.proofs.lemmas.Bool.{lt-ltb}
use Rattle.std.proofs.lemmas.Option.{same_Some}
use Rattle.erm_machine.specs.declared.event.Kind.{Kind}
use Rattle.erm_machine.specs.declared.event.Kind.TheVariants as kind
use Rattle.erm_machine.specs.declared.limits.TheConstants.{OBJECT_LIMIT}
use Rattle.erm_machine.specs.declared.version.CellWord.{CellWord}
use Rattle.erm_machine.specs.declared.version.VersionAt.{VersionAt}
use Rattle.erm_machine.specs.Core.{Core}
use Rattle.erm_machine.specs.Step.{part_after, is_known}
use Rattle.erm_machine.specs.Words.{cell_word}
use Rattle.erm_rule.specs.declared.view.View.{View}
use Rattle.erm_rule.specs.Steps.{Told}
use Rattle.erm_rule.proofs.Found.{next, event_is}
use Rattle.erm_readers.specs.Calls.{words_of}

-- the state after a step
pub next_is : (v : View) (who : ℕ) (k : Kind) (found : ℕ) (w : View) (told : Told v who k found w) → is_known k ≡ true
    → next told.before who k told.part ≡ told.after
next_is v who k found w told known =
    let part = subst (λ (n : ℕ). part_after who k n told.before.shared (told.before.seats who) ≡ Some told.part) (sym told.met) told.part_is in
    same_Some _ _ (sym (event_is told.before who k told.part known part) ∙ told.event)

module _ (v : View) (who : ℕ) (u : VersionAt) (object : u.oid < OBJECT_LIMIT) (found : ℕ) (w : View) where
  pub stamp_leaves : (word : CellWord) (told : Told v who (kind.LoadStamp u word) found w) → told.after.shared ≡ told.before.shared
  stamp_leaves word told = ap (λ (c : Core). c.shared) (sym (next_is v who (kind.LoadStamp u word) found w told (lt-ltb u.oid OBJECT_LIMIT object)))

  pub stamp_loaded : (word : CellWord) (told : Told v who (kind.LoadStamp u word) found w) → cell_word word (words_of told.after u) ≡ found
  stamp_loaded word told = ap (λ (c : Core). cell_word word (words_of c u)) (sym (next_is v who (kind.LoadStamp u word) found w told (lt-ltb u.oid OBJECT_LIMIT object))) ∙ told.met

  pub readers_loaded : (told : Told v who (kind.LoadReaders u) found w) → (words_of told.after u).readers ≡ found
  readers_loaded told = ap (λ (c : Core). (words_of c u).readers) (sym (next_is v who (kind.LoadReaders u) found w told (lt-ltb u.oid OBJECT_LIMIT object))) ∙ told.met
