-- Lists as long as one another, place by place.
use Rattle.std.specs.Prelude.{◌≡◌, ℕ, List, length, Some}
use Rattle.std.specs.List.{slice_get}

-- at each place of both this is so
pub record ArePaired {X Y : Type 0} (So : ℕ → X → Y → Type 0) (xs : List X) (ys : List Y) : Type 0 where
  pub many : length ys ≡ length xs
  pub each : (k : ℕ) (x : X) (y : Y) → slice_get xs k ≡ Some x → slice_get ys k ≡ Some y → So k x y

-- and at each place of three
pub record AreTripled {X Y Z : Type 0} (So : ℕ → X → Y → Z → Type 0) (xs : List X) (ys : List Y) (zs : List Z) : Type 0 where
  pub many : length ys ≡ length xs
  pub as_many : length zs ≡ length xs
  pub each : (k : ℕ) (x : X) (y : Y) (z : Z) → slice_get xs k ≡ Some x → slice_get ys k ≡ Some y → slice_get zs k ≡ Some z → So k x y z
