use Rattle.std.proofs.Common.{◌≡◌, ℕ, ◌<◌, List, [], length, get_or, subst, sym, ◌∙◌}
use Rattle.erm_rule.specs.Rule.{IsFirst}
use Rattle.erm_rule.proofs.Opens.{first_kept}
use Rattle.erm_rule.proofs.passes.open.Goals as goal

pub of_words-requires : goal.of_words-requires
of_words-requires g c =
    first_kept c.args.opening.now g.L.RowLaw.law c.respects_rows.ensures c.requires.meets c.requires.unreached c.openings_are_sound.ensures c.openings_are_spelled.ensures c.requires.few c.requires.positive c.requires.low c.requires.first
    (sym c.args.opening.now.rows.ok.0 ∙ c.requires.rows)
    (subst (λ (l : List (List ℕ)). (oid : ℕ) → oid < length l → length (get_or l oid []) ≡ 16) c.as_slice.ensures.value c.rows_are_whole.ensures) c.deref.result.now
    (subst (λ (l : List ℕ). IsFirst c.args.opening.now l) (sym c.deref.ensures.value) c.in_ok-words.ensures)
