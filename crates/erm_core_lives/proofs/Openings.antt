-- An opening's state keeps a law of rows that looks at the rows of the objects that there are alone.
use Rattle.std.proofs.Common.{◌≡◌, ℕ, ◌≤◌, ⊎_elim, Bool, [], sym, ap, ◌∙◌, arith}
use Rattle.std.specs.Prelude.{if◌then◌else◌}
use Rattle.std.proofs.lemmas.Bool.{lt-ltb}
use Rattle.erm_model.specs.Member.{◌∈◌}
use Rattle.erm_model.specs.RowTransaction.{Law, RespectsRows, SameRows}
use Rattle.erm_model.specs.Rows.{Rows}
use Rattle.erm_model.proofs.Members.{none_in_nil, ∈-push}
use Rattle.erm_machine.specs.declared.limits.TheConstants.{OBJECT_LIMIT}
use Rattle.erm_machine.specs.declared.attempt.Attempt.{Attempt}
use Rattle.erm_machine.specs.Core.{blank, no_object, opened_object, opening_state, version_at}
use Rattle.erm_machine.specs.Lawful.{Lawful, opening_rows}

-- the rows found at opening are those that it was given
opened_rows : (sessions : ℕ) (rows : Rows) (tail run first cells : ℕ) → SameRows rows (opening_rows (opening_state sessions rows tail run first cells).shared)
opened_rows sessions rows tail run first cells oid within =
    ap (λ (b : Bool). (version_at (if b then opened_object rows oid else no_object) 0).words.row) (sym (lt-ltb oid OBJECT_LIMIT within))

module _ (law : Law) where
  pub opening_lawful : (sessions : ℕ) (rows : Rows) (tail run first cells : ℕ) → RespectsRows law → law.meets rows → ((oid : ℕ) → first ≤ oid → law.reach rows oid ≡ 0)
      → Lawful law (opening_state sessions rows tail run first cells).shared (opening_state sessions rows tail run first cells).seats
  opening_lawful sessions rows tail run first cells respects meets unreached =
      let same = opened_rows sessions rows tail run first cells in
      let found : Rows = opening_rows (opening_state sessions rows tail run first cells).shared in
      record {
        opening = (respects.meets rows found same).0 meets;
        below = λ oid above. sym (respects.reach rows found oid same meets) ∙ unreached oid above;
        lawful = λ seat t m drawn.
            let none : t.stamp ≡ 0 = ⊎_elim (λ (before : t ∈ []). absurd (none_in_nil t before)) (λ (is : t ≡ blank). ap (λ (a : Attempt). a.stamp) is) (∈-push [] blank t m) in
            absurd (omega (arith, none, drawn));
      }
