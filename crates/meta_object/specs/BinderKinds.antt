-- Which of the twelve a binder is.
use Rattle.std.specs.Prelude.{Bool, true, false}
use Rattle.standard_binders.specs.declared.binder.Binder.{Binder}
use Rattle.standard_binders.specs.declared.binder.Binder.TheVariants as binder

abbrev pub is_get_member : Binder → Bool
is_get_member (binder.GetMember name ignore_case) = true
is_get_member _ = false

abbrev pub is_set_member : Binder → Bool
is_set_member (binder.SetMember name ignore_case) = true
is_set_member _ = false

abbrev pub is_delete_member : Binder → Bool
is_delete_member (binder.DeleteMember name ignore_case) = true
is_delete_member _ = false

abbrev pub is_get_index : Binder → Bool
is_get_index binder.GetIndex = true
is_get_index _ = false

abbrev pub is_set_index : Binder → Bool
is_set_index binder.SetIndex = true
is_set_index _ = false

abbrev pub is_delete_index : Binder → Bool
is_delete_index binder.DeleteIndex = true
is_delete_index _ = false

abbrev pub is_invoke : Binder → Bool
is_invoke (binder.Invoke info) = true
is_invoke _ = false

abbrev pub is_invoke_member : Binder → Bool
is_invoke_member (binder.InvokeMember name ignore_case info) = true
is_invoke_member _ = false

abbrev pub is_create_instance : Binder → Bool
is_create_instance (binder.CreateInstance info) = true
is_create_instance _ = false

abbrev pub is_convert : Binder → Bool
is_convert (binder.Convert to) = true
is_convert _ = false

abbrev pub is_unary_operation : Binder → Bool
is_unary_operation (binder.UnaryOperation op) = true
is_unary_operation _ = false

abbrev pub is_binary_operation : Binder → Bool
is_binary_operation (binder.BinaryOperation op) = true
is_binary_operation _ = false
