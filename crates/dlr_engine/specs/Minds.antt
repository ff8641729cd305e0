-- What a pass knows beside its rows.
use Rattle.std.specs.Prelude.{◌≡◌, ◌⊎◌, ◌+◌, ℕ}
use Rattle.expando_class.specs.declared.pass.ClassPass.{ClassPass}
use Rattle.expando_class.specs.declared.table.ClassTable.{ClassTable}
use Rattle.dlr_engine.specs.declared.mind.Mind.{Mind}

-- the table of its classes
abbrev pub table_in : Mind → ClassTable
table_in m = m.table.value

-- the classes that it knows
abbrev pub classes_in : Mind → ClassPass
classes_in m = m.classes

-- how often it bound
abbrev pub binds_in : Mind → ℕ
binds_in m = m.binds.count

-- it bound once more, or not
abbrev pub MayHaveBound : Mind → Mind → Type 0
MayHaveBound old new = (binds_in new ≡ binds_in old) ⊎ (binds_in new ≡ binds_in old + 1)
