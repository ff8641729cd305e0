-- What an operation on an object does to its members.
use Rattle.std.specs.Prelude.{ℕ, Bool, if◌then◌else◌, List, [], ◌∷◌, length, Option, None, Some, nat_eq, nat_le, encode_utf8_all}
use Rattle.dyn_value.specs.declared.value.Value.{Value}
use Rattle.dyn_value.specs.declared.value.Value.TheVariants as value
use Rattle.standard_binders.specs.declared.binder.Binder.{Binder}
use Rattle.standard_binders.specs.declared.binder.Binder.TheVariants.{GetMember, SetMember, DeleteMember, GetIndex, SetIndex, DeleteIndex, InvokeMember}

-- It reads, writes or deletes the member of a name; or its key is the name of none.
pub data Access : Type 0 where
  Reads : List ℕ → Access
  Writes : List ℕ → Value → Access
  Deletes : List ℕ → Access
  NoKey : Access

-- whether a text may be the name of a member: it has at most 64 bytes
abbrev pub is_key : List ℕ → Bool
is_key name = nat_le (length (encode_utf8_all name)) 64

-- the access by a key, which is a text that may be a name
abbrev pub keyed : Value → (List ℕ → Access) → Access
keyed (value.Text name) access = if is_key name then access name else NoKey
keyed _ access = NoKey

-- The access of an operation, by its binder and the operands after the target. There is one where the binder is one on
-- members and the operands suit it: they are as many as it has.
abbrev pub access_of : Binder → List Value → Option Access
access_of (GetMember name ignore_case) [] = Some (Reads name)
access_of (SetMember name ignore_case) (v ∷ []) = Some (Writes name v)
access_of (DeleteMember name ignore_case) [] = Some (Deletes name)
access_of GetIndex (key ∷ []) = Some (keyed key Reads)
access_of SetIndex (key ∷ v ∷ []) = Some (keyed key (λ name. Writes name v))
access_of DeleteIndex (key ∷ []) = Some (keyed key Deletes)
access_of (InvokeMember name ignore_case info) arguments = if nat_eq (length arguments) info.count then Some (Reads name) else None
access_of _ _ = None
