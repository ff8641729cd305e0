-- The text of a fault whose names are short fits in a value.
use Rattle.std.proofs.Common.{◌≡◌, ℕ, ◌+◌, ◌*◌, ◌^◌, ◌<◌, ◌≤◌, true, false, Bool, List, [], ◌∷◌, ◌++◌, length, refl, ap, sym, ◌∙◌, subst, arith}
use Rattle.std.proofs.Common.{length-append, codes, lit≤}
use Rattle.std.specs.Prelude.{encode_utf8_all, ◌&&◌, if◌then◌else◌, ◌==◌}
use Rattle.std.specs.List.{flat_map}
use Rattle.std.specs.Fmt.{decimal}
use Rattle.std.specs.Str.{chars, IsUtf8, IsAscii}
use Rattle.std.proofs.Math.Utf8.{scalars, scalar, encode}
use Rattle.std.proofs.lemmas.Str.{encodes-append, encodes-chars, chars-IsAscii, scalars-chars, IsUtf8-from_ascii, length-encode, len_utf8_bounds}
use Rattle.std.proofs.lemmas.Fmt.{IsAscii-decimal, length-decimal-le}
use Rattle.dyn_value.specs.declared.fault.Fault.{Fault}
use Rattle.dyn_value.specs.declared.fault.Fault.TheVariants as fault
use Rattle.dyn_value.specs.declared.value.Kind.{Kind}
use Rattle.dyn_value.specs.declared.value.Kind.TheVariants as kind
use Rattle.dyn_value.specs.Texts.{fault_text, quoted_text, escaped, kind_name}
use Rattle.task_walk.specs.Tales.{IsProperFault, IsName}

-- characters of at most so many bytes
abbrev pub IsShort : ℕ → List ℕ → Type 0
IsShort n cs = (scalars cs ≡ true) × (length (encode_utf8_all cs) ≤ n)

and_parts : (a b : Bool) → (a && b) ≡ true → (a ≡ true) × (b ≡ true)
and_parts true b both = (refl, both)
and_parts false b both = absurd (cc)

and_both : (a b : Bool) → a ≡ true → b ≡ true → (a && b) ≡ true
and_both true b one two = two
and_both false b one two = one

scalars_both : (cs ds : List ℕ) → scalars cs ≡ true → scalars ds ≡ true → scalars (cs ++ ds) ≡ true
scalars_both [] ds one two = two
scalars_both (c ∷ cs) ds one two =
    let parts = and_parts (scalar c) (scalars cs) one in
    and_both (scalar c) (scalars (cs ++ ds)) parts.0 (scalars_both cs ds parts.1 two)

short_both : (m n : ℕ) (cs ds : List ℕ) → IsShort m cs → IsShort n ds → IsShort (m + n) (cs ++ ds)
short_both m n cs ds one two =
    (scalars_both cs ds one.0 two.0, omega (arith, ap length (encodes-append cs ds), length-append (encode_utf8_all cs) (encode_utf8_all ds), one.1, two.1))

short_more : (m n : ℕ) (cs : List ℕ) → m ≤ n → IsShort m cs → IsShort n cs
short_more m n cs more one = (one.0, omega (arith, one.1))

short_if : (b : Bool) (n : ℕ) (cs ds : List ℕ) → IsShort n cs → IsShort n ds → IsShort n (if b then cs else ds)
short_if true n cs ds one two = one
short_if false n cs ds one two = two

short_one : (c : ℕ) → scalar c ≡ true → IsShort (2 * length (encode c)) (c ∷ [])
short_one c is = (and_both (scalar c) true is refl, omega (arith, length-append (encode c) []))

short_escaped : (c : ℕ) → scalar c ≡ true → IsShort (2 * length (encode c)) (escaped c)
unfolding encode
short_escaped c is =
    let some : 2 ≤ 2 * length (encode c) = omega (arith, length-encode c, (len_utf8_bounds c).0) in
    short_if (c == 34) (2 * length (encode c)) _ _ (short_more 2 (2 * length (encode c)) (codes "\\\"") some (refl, lit≤ tt))
    (short_if (c == 92) (2 * length (encode c)) _ _ (short_more 2 (2 * length (encode c)) (codes "\\\\") some (refl, lit≤ tt))
    (short_if (c == 10) (2 * length (encode c)) _ _ (short_more 2 (2 * length (encode c)) (codes "\\n") some (refl, lit≤ tt))
    (short_if (c == 9) (2 * length (encode c)) _ _ (short_more 2 (2 * length (encode c)) (codes "\\t") some (refl, lit≤ tt))
    (short_one c is))))

short_all : (cs : List ℕ) → scalars cs ≡ true → IsShort (2 * length (encode_utf8_all cs)) (flat_map escaped cs)
unfolding encode
short_all [] is = (refl, lit≤ tt)
short_all (c ∷ cs) is =
    let parts = and_parts (scalar c) (scalars cs) is in
    short_more (2 * length (encode c) + 2 * length (encode_utf8_all cs)) (2 * length (encode_utf8_all (c ∷ cs))) (escaped c ++ flat_map escaped cs)
    (omega (arith, length-append (encode c) (encode_utf8_all cs)))
    (short_both (2 * length (encode c)) (2 * length (encode_utf8_all cs)) (escaped c) (flat_map escaped cs) (short_escaped c parts.0) (short_all cs parts.1))

short_quoted : (name : List ℕ) → IsName name → IsShort 1000 (quoted_text name)
unfolding encode
short_quoted name is =
    let inner : IsShort 128 (flat_map escaped name) = short_more (2 * length (encode_utf8_all name)) 128 (flat_map escaped name) (omega (arith, is.1))
    (short_all name is.0) in
    short_more (1 + 128 + 1) 1000 (quoted_text name) (lit≤ tt)
    (short_both (1 + 128) 1 (34 ∷ flat_map escaped name) (34 ∷ []) (short_both 1 128 (34 ∷ []) (flat_map escaped name) (refl, lit≤ tt) inner) (refl, lit≤ tt))

short_decimal : (n : ℕ) → n < 2 ^ 32 → IsShort 10 (decimal n)
short_decimal n less =
    let wide : n < 2 ^ 64 = omega arith in
    let ascii : IsAscii (decimal n) = IsAscii-decimal n wide in
    let utf8 : IsUtf8 (decimal n) = IsUtf8-from_ascii (decimal n) ascii in
    let same : chars (decimal n) ≡ decimal n = chars-IsAscii (decimal n) ascii in
    let scalar_all : scalars (decimal n) ≡ true = subst (λ cs. scalars cs ≡ true) same (scalars-chars (decimal n) utf8) in
    let bytes : encode_utf8_all (decimal n) ≡ decimal n = ap encode_utf8_all (sym same) ∙ encodes-chars (decimal n) utf8 in
    (scalar_all, omega (arith, ap length bytes, length-decimal-le 10 n (omega arith) (omega arith) wide))

short_kind : (k : Kind) → IsShort 4 (kind_name k)
unfolding encode
short_kind kind.Nil = (refl, lit≤ tt)
short_kind kind.Bool = (refl, lit≤ tt)
short_kind kind.Int = (refl, lit≤ tt)
short_kind kind.Text = (refl, lit≤ tt)
short_kind kind.Fun = (refl, lit≤ tt)
short_kind kind.Obj = (refl, lit≤ tt)

named : (label name : List ℕ) → IsShort 20 label → IsName name → IsShort 65536 (label ++ quoted_text name)
named label name one is = short_more (20 + 1000) 65536 (label ++ quoted_text name) (lit≤ tt)
    (short_both 20 1000 label (quoted_text name) one (short_quoted name is))

of_kind : (label : List ℕ) (k : Kind) → IsShort 20 label → IsShort 65536 (label ++ kind_name k)
of_kind label k one = short_more (20 + 4) 65536 (label ++ kind_name k) (lit≤ tt) (short_both 20 4 label (kind_name k) one (short_kind k))

-- the text of a proper fault has at most 65,536 bytes
pub short_fault : (f : Fault) → IsProperFault f → IsShort 65536 (fault_text f)
unfolding encode
short_fault (fault.NoMember name) is = named (codes "NoMember ") name (refl, lit≤ tt) is
short_fault fault.NoIndex is = (refl, lit≤ tt)
short_fault (fault.NotIndexable k) is = of_kind (codes "NotIndexable ") k (refl, lit≤ tt)
short_fault (fault.NotCallable k) is = of_kind (codes "NotCallable ") k (refl, lit≤ tt)
short_fault (fault.WrongCount p n) is =
    short_more (11 + 10 + (1 + 10)) 65536 (fault_text (fault.WrongCount p n)) (lit≤ tt)
    (short_both (11 + 10) (1 + 10) (codes "WrongCount " ++ decimal p) (32 ∷ decimal n)
    (short_both 11 10 (codes "WrongCount ") (decimal p) (refl, lit≤ tt) (short_decimal p is.0))
    (short_both 1 10 (32 ∷ []) (decimal n) (refl, lit≤ tt) (short_decimal n is.1)))
short_fault (fault.NoParameter name) is = named (codes "NoParameter ") name (refl, lit≤ tt) is
short_fault fault.NoOperator is = (refl, lit≤ tt)
short_fault fault.NoConvert is = (refl, lit≤ tt)
short_fault (fault.NotCreatable k) is = of_kind (codes "NotCreatable ") k (refl, lit≤ tt)
short_fault fault.Overflow is = (refl, lit≤ tt)
short_fault fault.ZeroDivide is = (refl, lit≤ tt)
short_fault fault.TextLong is = (refl, lit≤ tt)
short_fault fault.MembersFull is = (refl, lit≤ tt)
short_fault fault.HeapFull is = (refl, lit≤ tt)
short_fault fault.Depth is = (refl, lit≤ tt)
short_fault fault.Turns is = (refl, lit≤ tt)
