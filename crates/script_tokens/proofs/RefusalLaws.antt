-- Bytes have tokens, or are refused in one way.
use Rattle.std.proofs.Common.{◌≡◌, ℕ, List, length, sym, ◌∙◌, ap, subst, arith}
use Rattle.std.specs.Prelude.{IsUtf8}
use Rattle.std.specs.Str.{IsValidUpTo, chars}
use Rattle.std.proofs.lemmas.List.{take_all}
use Rattle.std.proofs.lemmas.Str.{utf8_valid_len-IsValidUpTo}
use Rattle.script_tokens.specs.declared.lexer.LexRefused.{LexRefused}
use Rattle.script_tokens.specs.declared.lexer.LexRefused.TheVariants.{NotText, BadToken, TooDeep}
use Rattle.script_tokens.specs.declared.token.Token.{Token}
use Rattle.script_tokens.specs.Lexemes.{places_from, AreTokensAt}
use Rattle.script_tokens.specs.Refusals.{AreTokensOf, IsBadAt, IsTooDeepAt, IsRefused, HasNoTokens}
use Rattle.script_tokens.proofs.RowLaws.{one_row, one_tokens, no_bad, one_bad}
use Rattle.script_tokens.proofs.Depths.{one_depth, not_too_deep}

-- bytes that are refused as no text are none
no_utf8 : (bytes : List ℕ) (place : ℕ) → IsValidUpTo bytes place → IsUtf8 bytes → ⊥
no_utf8 bytes place up text = up.longest (length bytes) up.short (subst IsUtf8 (sym (take_all (length bytes) bytes (omega arith))) text)

pub one_list_at : (cs : List ℕ) (ts us : List Token) (at begin : List ℕ) → AreTokensAt cs ts at → AreTokensAt cs us begin → (ts ≡ us) × (at ≡ begin)
one_list_at cs ts us at begin t u = (
  one_tokens cs ts us t.tokens u.tokens,
  t.begin ∙ ap (places_from 0) (one_row cs ts us t.tokens u.tokens) ∙ sym u.begin,
)

pub one_list : (bytes : List ℕ) (ts us : List Token) (at begin : List ℕ) → AreTokensOf bytes ts at → AreTokensOf bytes us begin → (ts ≡ us) × (at ≡ begin)
one_list bytes ts us at begin t u = one_list_at (chars bytes) ts us at begin t.tokens u.tokens

-- a text with a place at which no token stands has none
pub none_at_bad : (bytes : List ℕ) (place : ℕ) → IsBadAt (chars bytes) place → HasNoTokens bytes
none_at_bad bytes place bad ts places text t = no_bad (chars bytes) ts place t.tokens bad

pub not_refused : (bytes : List ℕ) (ts : List Token) (at : List ℕ) (r : LexRefused) → AreTokensOf bytes ts at → IsRefused bytes r → ⊥
not_refused bytes ts at (NotText place) t r = no_utf8 bytes place r t.text
not_refused bytes ts at (BadToken place) t r = no_bad (chars bytes) ts place t.tokens.tokens r.1
not_refused bytes ts at (TooDeep number) t r =
    not_too_deep ts number t.shallow (subst (λ us. IsTooDeepAt us number) (one_tokens (chars bytes) r.1.0 ts r.1.1.0 t.tokens.tokens) r.1.1.1)

pub one_refusal : (bytes : List ℕ) (r s : LexRefused) → IsRefused bytes r → IsRefused bytes s → r ≡ s
one_refusal bytes (NotText place) (NotText other) r s = ap NotText (sym (utf8_valid_len-IsValidUpTo bytes place r) ∙ utf8_valid_len-IsValidUpTo bytes other s)
one_refusal bytes (NotText place) (BadToken other) r s = absurd (no_utf8 bytes place r s.0)
one_refusal bytes (NotText place) (TooDeep number) r s = absurd (no_utf8 bytes place r s.0)
one_refusal bytes (BadToken place) (NotText other) r s = absurd (no_utf8 bytes other s r.0)
one_refusal bytes (BadToken place) (BadToken other) r s = ap BadToken (one_bad (chars bytes) place other r.1 s.1)
one_refusal bytes (BadToken place) (TooDeep number) r s = absurd (no_bad (chars bytes) s.1.0 place s.1.1.0 r.1)
one_refusal bytes (TooDeep number) (NotText other) r s = absurd (no_utf8 bytes other s r.0)
one_refusal bytes (TooDeep number) (BadToken other) r s = absurd (no_bad (chars bytes) r.1.0 other r.1.1.0 s.1)
one_refusal bytes (TooDeep number) (TooDeep other) r s =
    let same = one_tokens (chars bytes) r.1.0 s.1.0 r.1.1.0 s.1.1.0 in
    ap TooDeep (one_depth s.1.0 number other (subst (λ us. IsTooDeepAt us number) same r.1.1.1) s.1.1.1)
