-- What a value gives when it is converted to a kind.
use Rattle.std.specs.Prelude.{◌≡◌, ◌≢◌, ℕ, false, if◌then◌else◌, not, ◌&&◌, List, Option, Some, None, Result, Ok, Err, ℤ, pos, FitsSigned}
use Rattle.std.specs.Fmt.{signed_decimal}
use Rattle.std.specs.Int.{w64}
use Rattle.std.specs.Ordering.{int_eq}
use Rattle.std.specs.Str.{bytes_eq}
use Rattle.std.specs.Str.Parse.{signed_digits_value}
use Rattle.dyn_value.specs.declared.value.Kind.{Kind}
use Rattle.dyn_value.specs.declared.value.Kind.TheVariants as kind
use Rattle.dyn_value.specs.declared.value.Value.{Value}
use Rattle.dyn_value.specs.declared.value.Value.TheVariants.{Nil, Bool as Truth, Int, Text, Fun, Obj}
use Rattle.dyn_value.specs.declared.fault.Fault.{Fault}
use Rattle.dyn_value.specs.declared.fault.Fault.TheVariants.{NoConvert}
use Rattle.dyn_value.specs.Operations.{fits, truth}
use Rattle.dyn_value.specs.Texts.{plain}

-- the number within 64 bits whose plain text this is: no other than the one that its digits write can be
unfoldable pub number_of : List ℕ → Option ℤ
number_of cs = let n = signed_digits_value 10 cs in if fits n && bytes_eq (signed_decimal n) cs then Some n else None

-- a text as a number
abbrev pub text_to_int : Option ℤ → Result Value Fault
text_to_int (Some n) = Ok (Int n)
text_to_int None = Err NoConvert

-- a value as a number
abbrev pub to_int : Value → Result Value Fault
to_int (Int n) = Ok (Int n)
to_int (Truth b) = Ok (Int (if b then pos 1 else pos 0))
to_int (Text cs) = text_to_int (number_of cs)
to_int _ = Err NoConvert

-- a value as a truth value
abbrev pub to_bool : Value → Result Value Fault
to_bool (Truth b) = truth b
to_bool Nil = truth false
to_bool (Int n) = truth (not (int_eq n (pos 0)))
to_bool _ = Err NoConvert

-- nil, a function or an object of that very kind
abbrev pub kept : Value → Kind → Result Value Fault
kept Nil kind.Nil = Ok Nil
kept (Fun f) kind.Fun = Ok (Fun f)
kept (Obj o) kind.Obj = Ok (Obj o)
kept _ _ = Err NoConvert

-- what converting a value to a kind gives
abbrev pub convert_of : Value → Kind → Result Value Fault
convert_of v kind.Text = Ok (Text (plain v))
convert_of v kind.Int = to_int v
convert_of v kind.Bool = to_bool v
convert_of v to = kept v to

-- what a text gives as a number: the number within 64 bits whose plain text it is, and NoConvert where there is none
abbrev pub IsTextAsInt : List ℕ → Result Value Fault → Type 0
IsTextAsInt cs (Ok v) = (n : ℤ) × (v ≡ Int n) × FitsSigned w64 n × (plain (Int n) ≡ cs)
IsTextAsInt cs (Err fault) = (fault ≡ NoConvert) × ((n : ℤ) → FitsSigned w64 n → plain (Int n) ≢ cs)
