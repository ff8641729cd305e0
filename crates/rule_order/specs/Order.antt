-- What a list of known indexes keeps.
use Rattle.std.specs.Prelude.{ℕ, ◌<◌, List, All, nat_eq}
use Rattle.std.specs.List.{IsDistinct}

-- each index stands once, and is below 128
pub record IsOrder (indexes : List ℕ) : Type 0 where
  pub distinct : IsDistinct nat_eq indexes
  pub small : All (λ index. index < 128) indexes
