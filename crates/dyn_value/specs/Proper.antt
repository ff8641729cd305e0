-- Proper values: those that a script can have.
use Rattle.std.specs.Prelude.{◌≡◌, ℕ, ◌<◌, ◌≤◌, true, List, length, encode_utf8_all, FitsSigned}
use Rattle.std.specs.Int.{w64}
use Rattle.std.proofs.Math.Utf8.{scalars}
use Rattle.dyn_value.specs.declared.value.Value.{Value}
use Rattle.dyn_value.specs.declared.value.Value.TheVariants.{Nil, Bool, Int, Text, Fun, Obj}

-- Unicode characters, of at most 65,536 bytes in all
abbrev pub IsText : List ℕ → Type 0
IsText cs = (scalars cs ≡ true) × (length (encode_utf8_all cs) ≤ 65536)

-- a number within 64 bits, a text as above, one of 256 functions or of 4,096 objects
abbrev pub IsProper : Value → Type 0
IsProper Nil = Unit {0}
IsProper (Bool b) = Unit {0}
IsProper (Int n) = FitsSigned w64 n
IsProper (Text t) = IsText t
IsProper (Fun f) = f < 256
IsProper (Obj o) = o < 4096

-- proper in a run of so many functions and objects
abbrev pub IsProperIn : ℕ → ℕ → Value → Type 0
IsProperIn functions objects (Fun f) = (f < functions) × (f < 256)
IsProperIn functions objects (Obj o) = (o < objects) × (o < 4096)
IsProperIn functions objects v = IsProper v
