-- The first object that a world makes, found as its rows are passed in order.
use Rattle.std.proofs.Common.{◌≡◌, ℕ, ◌+◌, ◌-◌, ◌≤◌, Bool, true, false, not, inl, inr, refl, sym, ap, ◌∙◌, replicate, arith}
use Rattle.std.proofs.lemmas.Bool.{cases_lt}
use Rattle.std.specs.Cmp.Lexicographic.{same_text}
use Rattle.erm_model.specs.declared.TheConstants.{ROW_WORDS}
use Rattle.erm_model.specs.declared.limits.TheConstants.{OID_LIMIT, TABLES}
use Rattle.erm_model.specs.Rows.{Rows}
use Rattle.erm_node.specs.Sound.{IsSound, reached}
use Rattle.erm_lines.specs.Executions.{is_zero}
use Rattle.erm_start.specs.Recovered.{IsFirstBelow, IsFirstObject}

pub starts : (rows : Rows) (n first : ℕ) → n ≡ TABLES → first ≡ TABLES → IsFirstBelow rows n first
starts rows n first from least = record {
  tables = omega (arith, least);
  within = omega (arith, from, least);
  zeros = λ oid above below. absurd (omega (arith, from, least, above, below));
  used = λ less. absurd (omega (arith, less, least));
}

-- what a test of a row has told
pub is_used : (b differs : Bool) → differs ≡ not b → differs ≡ true → b ≡ false
is_used true differs e tells = absurd (cc)
is_used false differs e tells = refl

pub is_unused : (b differs : Bool) → differs ≡ not b → differs ≡ false → b ≡ true
is_unused true differs e tells = refl
is_unused false differs e tells = absurd (cc)

pub past_zeros : (rows : Rows) (n first : ℕ) → IsFirstBelow rows n first → is_zero (rows n) ≡ true → IsFirstBelow rows (n + 1) first
past_zeros rows n first is zero_row = record {
  tables = is.tables;
  within = let within = is.within in omega (arith, within);
  zeros = λ oid above below. elim (cases_lt oid n) as (λ _. is_zero (rows oid) ≡ true) [
    | inl less ↦ is.zeros oid above less
    | inr more ↦ (let same : oid ≡ n = omega (arith, more, below) in ap (λ (x : ℕ). is_zero (rows x)) same ∙ zero_row)
  ];
  used = is.used;
}

pub past_used : (rows : Rows) (n : ℕ) → TABLES ≤ n → is_zero (rows n) ≡ false → IsFirstBelow rows (n + 1) (n + 1)
past_used rows n above some = record {
  tables = omega (arith, above);
  within = omega arith;
  zeros = λ oid over below. absurd (omega (arith, over, below));
  used = λ less. (let same : n + 1 - 1 ≡ n = omega arith in ap (λ (x : ℕ). is_zero (rows x)) same ∙ some);
}

-- sound rows reach none of the objects that are made
pub new_unreached : ((rows : Rows) (x : ℕ) → IsSound rows → TABLES ≤ x → rows x ≡ replicate ROW_WORDS 0 → reached rows x ≡ 0) → (rows : Rows) (first : ℕ) → IsSound rows
    → IsFirstObject rows first → (oid : ℕ) → first ≤ oid → reached rows oid ≡ 0
new_unreached zeros rows first sound is oid above =
    let tables = is.tables in
    elim (cases_lt oid OID_LIMIT) as (λ _. reached rows oid ≡ 0) [
      | inl below ↦ zeros rows oid sound (omega (arith, tables, above)) (same_text (rows oid) (replicate ROW_WORDS 0) (sym (is.zeros oid above below)))
      | inr over ↦ sound.bounded oid over
    ]
