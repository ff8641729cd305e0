-- What a binding leaves of its context.
use Rattle.std.specs.Prelude.{◌≡◌}
use Rattle.expando_class.specs.Pass.{IsPassOf, KnowsAll}
use Rattle.meta_object.specs.declared.context.BindContext.{BindContext}

-- the table and the pass are the same ones; the pass is of the table, and knows all that it knew
pub record KeepsContext (old new : BindContext) : Type 0 where
  pub table : new.table ≡ old.table
  pub pass : new.pass.ghost_name ≡ old.pass.ghost_name
  pub own : IsPassOf old.table.now new.pass.now
  pub keeps : KnowsAll old.pass.now new.pass.now
