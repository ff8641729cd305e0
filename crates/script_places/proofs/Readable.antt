-- Bytes that are a text, and bytes that are none.
use Rattle.std.proofs.Common.{◌≡◌, ℕ, ◌<◌, true, false, List, [], length, sym, ◌∙◌, refl, arith, subst}
use Rattle.std.specs.Prelude.{IsUtf8, Bool}
use Rattle.std.specs.Str.{IsValidUpTo, chars, is_utf8}
use Rattle.std.proofs.lemmas.Str.{utf8_valid_len-IsUtf8, utf8_valid_len-IsValidUpTo, is_utf8-from_IsUtf8, IsUtf8-from_is_utf8}
use Rattle.script_places.specs.Lines.{readable}

pub not_broken : (bytes : List ℕ) (place : ℕ) → IsUtf8 bytes → IsValidUpTo bytes place → ⊥
not_broken bytes place text broken = omega (arith, broken.short, utf8_valid_len-IsUtf8 bytes text, utf8_valid_len-IsValidUpTo bytes place broken)

pub one_broken : (bytes : List ℕ) (place other : ℕ) → IsValidUpTo bytes place → IsValidUpTo bytes other → place ≡ other
one_broken bytes place other broken also = sym (utf8_valid_len-IsValidUpTo bytes place broken) ∙ utf8_valid_len-IsValidUpTo bytes other also

pub readable_text : (bytes : List ℕ) → IsUtf8 bytes → readable bytes ≡ chars bytes
readable_text bytes text = rw (is_utf8-from_IsUtf8 bytes text)

none_or_text : (bytes : List ℕ) (b : Bool) → b ≡ is_utf8 bytes → (IsUtf8 bytes → ⊥) → is_utf8 bytes ≡ false
none_or_text bytes true is none = absurd (none (IsUtf8-from_is_utf8 bytes (sym is)))
none_or_text bytes false is none = sym is

pub readable_none : (bytes : List ℕ) → (IsUtf8 bytes → ⊥) → readable bytes ≡ []
readable_none bytes none = rw (none_or_text bytes (is_utf8 bytes) refl none)
