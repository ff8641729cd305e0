-- Growths of classes.
use Rattle.std.specs.Prelude.{◌≢◌, ◌<◌, ◌≤◌, All, length}
use Rattle.std.specs.Str.{chars}
use Rattle.std.specs.String.{string_bytes}
use Rattle.expando_class.specs.declared.table.ClassTable.{ClassTable}
use Rattle.expando_class.specs.Class.{names_of, IsClassOf}
use Rattle.class_bench.specs.declared.growth.Growth.{Growth}

-- the classes are of this table, and the name may be added to the one that grows
pub record IsGrowthOf (table : ClassTable) (growth : Growth) : Type 0 where
  pub from : IsClassOf table growth.from
  pub to : IsClassOf table growth.to
  pub new : All (λ other. other ≢ chars (string_bytes growth.name)) (names_of growth.from)
  pub short : length (string_bytes growth.name) ≤ 64
  pub room : length (names_of growth.from) < 64
