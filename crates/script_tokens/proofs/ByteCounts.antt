-- How many bytes characters have.
use Rattle.std.proofs.Common.{◌≡◌, ℕ, ◌+◌, ◌<◌, ◌≤◌, List, [], ◌∷◌, ◌++◌, length, get_or, take, drop, refl, ◌∙◌, ap, arith, length-append, take-append-drop}
use Rattle.std.specs.Prelude.{encode_utf8_all, IsUtf8}
use Rattle.std.specs.Char.{len_utf8}
use Rattle.std.specs.List.{sum_by}
use Rattle.std.specs.Str.{chars}
use Rattle.std.proofs.Math.Utf8.{encode}
use Rattle.std.proofs.lemmas.List.{get_or_read}
use Rattle.std.proofs.lemmas.List.Sums.{sum_by_more, sum_by-cons}
use Rattle.std.proofs.lemmas.Str.{length-encode, encodes-append, encodes-chars}
use Rattle.script_tokens.specs.Lexemes.{byte_count}

-- they are counted one by one
pub byte_count-sum : (cs : List ℕ) → byte_count cs ≡ sum_by len_utf8 cs
byte_count-sum [] = refl
byte_count-sum (c ∷ cs) = omega (arith, length-append (encode c) (encode_utf8_all cs), length-encode c, byte_count-sum cs, sum_by-cons len_utf8 c cs)

pub byte_count-append : (cs ds : List ℕ) → byte_count (cs ++ ds) ≡ byte_count cs + byte_count ds
byte_count-append cs ds = ap length (encodes-append cs ds) ∙ length-append (encode_utf8_all cs) (encode_utf8_all ds)

pub byte_count-take : (n : ℕ) (cs : List ℕ) → byte_count (take n cs) ≤ byte_count cs
byte_count-take n cs = omega (arith, byte_count-append (take n cs) (drop n cs), ap byte_count (take-append-drop n cs))

-- the characters of bytes have as many
pub byte_count-chars : (bytes : List ℕ) → IsUtf8 bytes → byte_count (chars bytes) ≡ length bytes
byte_count-chars bytes text = ap length (encodes-chars bytes text)

-- one character more is counted
pub byte_count-more : (cs : List ℕ) (i bytes n x : ℕ) → i < length cs → x ≡ get_or cs i x → n ≡ len_utf8 x → bytes ≡ byte_count (take i cs) → bytes + n ≡ byte_count (take (i + 1) cs)
byte_count-more cs i bytes n x within read size before =
    let x_is : x ≡ get_or cs i 0 = get_or_read cs i x within read 0 in
    omega (arith, size, before, ap len_utf8 x_is, byte_count-sum (take i cs), byte_count-sum (take (i + 1) cs), sum_by_more len_utf8 cs i 0 within)
