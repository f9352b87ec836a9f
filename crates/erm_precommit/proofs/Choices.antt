-- What follows of an answer's variants.
use Rattle.std.proofs.Common.{Option, Some, None}
use Rattle.std.specs.Prelude.{IfNone, IfSome, MatchOption}

pub some_then : {X : Type 0} (P : Type 0) (Q R : X → Type 0) (o : Option X) → MatchOption o P Q → ((x : X) → Q x → R x) → IfSome o R
some_then P Q R None m f = tt
some_then P Q R (Some x) m f = f x m

pub none_then : {X : Type 0} (P R : Type 0) (Q : X → Type 0) (o : Option X) → MatchOption o P Q → (P → R) → IfNone o R
none_then P R Q None m f = f m
none_then P R Q (Some x) m f = tt
