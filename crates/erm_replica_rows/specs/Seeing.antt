-- What rows of a replica mean to their reader.
use Rattle.std.specs.Prelude.{◌≡◌, ℕ, List, length}
use Rattle.erm_model.specs.declared.limits.TheConstants.{OID_LIMIT}
use Rattle.erm_model.specs.Rows.{rows_of}
use Rattle.erm_model.specs.RowTransaction.{Face}
use Rattle.erm_node.specs.Sound.{IsSound, sound_law}

-- the rows are sound, one for each object that there may be
pub record AreWhole (rows : List (List ℕ)) : Type 0 where
  pub count : length rows ≡ OID_LIMIT
  pub sound : IsSound (rows_of rows)

-- Rows as they are: they are begun on and seen, and nothing changes them. Every object counts as claimed, so nothing is refused, and no read is
-- registered.
abbrev pub fixed_face : {S : Type 0} → (S → List (List ℕ)) → Face S
fixed_face {S} rows = record {
  law = sound_law;
  active = λ s. AreWhole (rows s);
  fits = λ s begun. begun ≡ rows_of (rows s);
  rows = λ s begun. begun;
  made = λ s x. 0;
  claims = λ s x. Unit {0};
  reads = λ s x. Unit {0};
  follows = λ s t. t ≡ s;
  answers = λ s event t. t ≡ s;
  stops = λ s asked stop t. ⊥;
}
