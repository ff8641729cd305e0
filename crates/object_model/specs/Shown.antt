-- The accesses of the code, as the definitions have them.
use Rattle.object_model.specs.declared.access.Access.{Access as Shared}
use Rattle.object_model.specs.declared.access.Access.TheVariants as shared
use Rattle.object_model.specs.Accesses.{Access, Reads, Writes, Deletes, NoKey}

abbrev pub shown : Shared → Access
shown (shared.Read name) = Reads name.now
shown (shared.Write name value) = Writes name.now value.now
shown (shared.Delete name) = Deletes name.now
shown shared.NoKey = NoKey
