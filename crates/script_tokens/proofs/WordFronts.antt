-- What a word means.
use Rattle.std.proofs.Common.{◌≡◌, ◌≢◌, ℕ, ◌+◌, ◌<◌, ◌≤◌, Bool, true, false, List, [], ◌∷◌, ◌++◌, length, get_or, take, refl, sym, ◌∙◌, ap, ⊎_elim, arith, length-append}
use Rattle.std.specs.Prelude.{encode_utf8_all, IsUtf8}
use Rattle.std.specs.Str.{chars}
use Rattle.std.proofs.lemmas.Bool.{cases_lt}
use Rattle.std.proofs.lemmas.List.{get_or_read, take_all}
use Rattle.std.specs.List.{sum_by}
use Rattle.std.specs.Char.{len_utf8}
use Rattle.std.proofs.Math.Utf8.{encode}
use Rattle.std.proofs.lemmas.Str.{length-encode, chars-encodes, encode_same, len_utf8_bounds}
use Rattle.std.proofs.lemmas.List.Sums.{sum_by_more_le}
use Rattle.script_tokens.specs.declared.token.Keyword.{Keyword}
use Rattle.script_tokens.specs.declared.token.Keyword.TheVariants as word
use Rattle.script_tokens.specs.declared.token.Token.TheVariants.{Name, Int, Text, Word, Mark}
use Rattle.script_tokens.specs.Words.{keyword_text}
use Rattle.script_tokens.specs.Lexemes.{IsWord, Means}
use Rattle.script_tokens.specs.TextFronts.{MeansNothing}
use Rattle.script_tokens.proofs.ByteCounts.{byte_count-sum}
use Rattle.script_tokens.proofs.FirstCharacters.{words_kind}
use Rattle.script_tokens.proofs.TokenMeanings.{means_kind}

keyword_utf8 : (w : Keyword) → encode_utf8_all (keyword_text w) ≡ keyword_text w
unfolding encode
keyword_utf8 word.Shared = refl
keyword_utf8 word.Fn = refl
keyword_utf8 word.Task = refl
keyword_utf8 word.Let = refl
keyword_utf8 word.Delete = refl
keyword_utf8 word.If = refl
keyword_utf8 word.Else = refl
keyword_utf8 word.While = refl
keyword_utf8 word.Return = refl
keyword_utf8 word.Print = refl
keyword_utf8 word.Try = refl
keyword_utf8 word.Catch = refl
keyword_utf8 word.New = refl
keyword_utf8 word.Nil = refl
keyword_utf8 word.True = refl
keyword_utf8 word.False = refl
keyword_utf8 word.Int = refl
keyword_utf8 word.Text = refl
keyword_utf8 word.Bool = refl

keyword_length : (w : Keyword) → length (keyword_text w) ≤ 64
keyword_length word.Shared = omega arith
keyword_length word.Fn = omega arith
keyword_length word.Task = omega arith
keyword_length word.Let = omega arith
keyword_length word.Delete = omega arith
keyword_length word.If = omega arith
keyword_length word.Else = omega arith
keyword_length word.While = omega arith
keyword_length word.Return = omega arith
keyword_length word.Print = omega arith
keyword_length word.Try = omega arith
keyword_length word.Catch = omega arith
keyword_length word.New = omega arith
keyword_length word.Nil = omega arith
keyword_length word.True = omega arith
keyword_length word.False = omega arith
keyword_length word.Int = omega arith
keyword_length word.Text = omega arith
keyword_length word.Bool = omega arith

encode_some : (c : ℕ) (r : List ℕ) → encode c ++ r ≢ []
encode_some c r e = let l = ap length e in omega (arith, length-append (encode c) r, length-encode c, (len_utf8_bounds c).0)

-- texts with the same bytes are the same
pub encode_utf8_all_injective : (cs ds : List ℕ) → encode_utf8_all cs ≡ encode_utf8_all ds → cs ≡ ds
encode_utf8_all_injective [] [] e = refl
encode_utf8_all_injective [] (d ∷ ds) e = absurd (encode_some d (encode_utf8_all ds) (sym e))
encode_utf8_all_injective (c ∷ cs) [] e = absurd (encode_some c (encode_utf8_all cs) e)
encode_utf8_all_injective (c ∷ cs) (d ∷ ds) e =
    let same = encode_same c d (encode_utf8_all cs) (encode_utf8_all ds) e in
    let first = same.0 in
    let others = encode_utf8_all_injective cs ds same.1 in
    cc

-- a word of too many bytes is no token
pub long_means_nothing : (cs : List ℕ) → IsWord cs → 64 < length (encode_utf8_all cs) → MeansNothing cs
long_means_nothing cs is long (Name n) m = omega (arith, m.2)
long_means_nothing cs is long (Word w) m = omega (arith, ap (λ x. length (encode_utf8_all x)) m, ap length (keyword_utf8 w), keyword_length w)
long_means_nothing cs is long (Int z) m = let k = words_kind cs is in let l = means_kind cs (Int z) m in cc
long_means_nothing cs is long (Text t) m = let k = words_kind cs is in let l = means_kind cs (Text t) m in cc
long_means_nothing cs is long (Mark s) m = let k = words_kind cs is in let l = means_kind cs (Mark s) m in cc

pub keyword_means : (cs bytes : List ℕ) (w : Keyword) → bytes ≡ encode_utf8_all cs → bytes ≡ keyword_text w → Means cs (Word w)
keyword_means cs bytes w encoded is = encode_utf8_all_injective cs (keyword_text w) (sym encoded ∙ is ∙ sym (keyword_utf8 w))

-- the characters of a text are those that it was made of
chars_same : (cs bytes : List ℕ) → IsUtf8 bytes → bytes ≡ encode_utf8_all cs → cs ≡ chars bytes
chars_same cs bytes utf8 encoded =
    let same = encode_utf8_all_injective utf8.0 cs (utf8.1.1 ∙ encoded) in
    sym same ∙ sym (chars-encodes utf8.0 utf8.1.0) ∙ ap chars utf8.1.1

pub name_means : (cs bytes name : List ℕ) → IsWord cs → bytes ≡ encode_utf8_all cs → IsUtf8 bytes → ((w : Keyword) → bytes ≢ keyword_text w)
    → length (encode_utf8_all cs) ≤ 64 → name ≡ chars bytes → IsWord cs × ((w : Keyword) → cs ≢ keyword_text w) × (length (encode_utf8_all cs) ≤ 64) × (cs ≡ name)
name_means cs bytes name is encoded utf8 other short same =
    (is, λ w e. other w (encoded ∙ ap encode_utf8_all e ∙ keyword_utf8 w), short, chars_same cs bytes utf8 encoded ∙ sym same)

-- more bytes than 64 up to some character are more in the whole
pub long_by : (cs : List ℕ) (i b n x : ℕ) → i < length cs → x ≡ get_or cs i x → n ≡ len_utf8 x → b ≡ sum_by len_utf8 (take i cs) → 64 < b + n → 64 < length (encode_utf8_all cs)
long_by cs i b n x within read bytes before long =
    let x_is : x ≡ get_or cs i 0 = get_or_read cs i x within read 0 in
    omega (arith, ap len_utf8 x_is, byte_count-sum cs, sum_by_more_le len_utf8 cs i 0 within)

pub short_by : (cs : List ℕ) (i b : ℕ) → length cs ≤ i → b ≡ sum_by len_utf8 (take i cs) → b ≤ 64 → length (encode_utf8_all cs) ≤ 64
short_by cs i b end before short = omega (arith, byte_count-sum cs, ap (sum_by len_utf8) (take_all i cs end))

pub long_unless_short : (n : ℕ) (b : Bool) → b ≡ false → (n ≤ 64 → b ≡ true) → 64 < n
long_unless_short n b is short = ⊎_elim (λ long. long) (λ le. let t = short le in cc) (cases_lt 64 n)
