-- Names that are short.
use Rattle.std.specs.Prelude.{ℕ, Bool, true, ◌&&◌, nat_le, List, length, encode_utf8_all}
use Rattle.std.specs.List.{list_all}
use Rattle.std.proofs.Math.Utf8.{scalars}
use Rattle.standard_binders.specs.declared.binder.Binder.{Binder}
use Rattle.standard_binders.specs.declared.binder.Binder.TheVariants as binder

-- whether it is a text of at most 64 bytes
abbrev pub is_short_name : List ℕ → Bool
is_short_name name = scalars name && nat_le (length (encode_utf8_all name)) 64

-- whether the names that a binder carries, of a member and of arguments, are short
abbrev pub has_short_names : Binder → Bool
has_short_names (binder.GetMember name ignore_case) = is_short_name name
has_short_names (binder.SetMember name ignore_case) = is_short_name name
has_short_names (binder.DeleteMember name ignore_case) = is_short_name name
has_short_names (binder.Invoke info) = list_all is_short_name info.names
has_short_names (binder.InvokeMember name ignore_case info) = is_short_name name && list_all is_short_name info.names
has_short_names (binder.CreateInstance info) = list_all is_short_name info.names
has_short_names _ = true
