-- The savepoints that sessions hold.
use Rattle.std.specs.Prelude.{List, Vec, map}
use Rattle.erm_model.specs.declared.history.VersionWritten.{VersionWritten}

-- those of one session, as lists
abbrev pub lists_of : {A : Type 0} → Vec (Vec VersionWritten A) A → List (List VersionWritten)
lists_of held = map (λ saved. saved.items) held.items
