-- Bytes are one script, or are refused for one cause.
use Rattle.std.proofs.Common.{◌≡◌, ◌<◌, ℕ, List, Some, None, true, length, refl, sym, ap, ◌∙◌, subst, arith}
use Rattle.std.specs.Prelude.{◌↔◌}
use Rattle.script_tokens.specs.declared.lexer.LexRefused.{LexRefused}
use Rattle.script_tokens.specs.declared.lexer.LexRefused.TheVariants as lexer
use Rattle.script_tokens.specs.declared.token.Token.{Token}
use Rattle.script_tokens.specs.Refusals.{AreTokensOf, IsRefused}
use Rattle.script_grammar.specs.declared.tree.Script.{Script}
use Rattle.script_grammar.specs.Refusals.{IsSyntaxPlace}
use Rattle.script_grammar.specs.Spelling.{Tokens, spell}
use Rattle.script_grammar.specs.WrittenStatements.{is_written}
use Rattle.script_names.specs.Scripts.{first_bad}
use Rattle.script_sites.specs.declared.limits.What.{What}
use Rattle.script_sites.specs.Limits.{IsTooMany, IsWithinLimits}
use Rattle.script_program.specs.declared.reading.ScriptRefused.{ScriptRefused}
use Rattle.script_program.specs.declared.reading.ScriptRefused.TheVariants.{TooLong, NotText, BadToken, TooDeep, Syntax, BadName, TooMany}
use Rattle.script_program.specs.Refusals.{IsRefusedScript}
use Rattle.script_program.specs.Scripts.{HasTokens, IsScript, IsShort, Spells}

-- bytes have one list of tokens
abbrev pub OneList : Type 0
OneList = (bytes : List ℕ) (ts us : List Token) (places begin : List ℕ) → AreTokensOf bytes ts places → AreTokensOf bytes us begin → (ts ≡ us) × (places ≡ begin)

-- tokens spell one tree
abbrev pub OneTree : Type 0
OneTree = (s t : Script) → is_written s ≡ true → is_written t ≡ true → spell s ≡ spell t → s ≡ t

-- what is known of tokens
pub record TokenLaws : Type 0 where
  pub one_list : OneList
  pub not_refused : (bytes : List ℕ) (ts : List Token) (places : List ℕ) (refused : LexRefused) → AreTokensOf bytes ts places → IsRefused bytes refused → ⊥

-- of trees
pub record TreeLaws : Type 0 where
  pub one_tree : OneTree
  pub no_place : (s : Script) (i : ℕ) → is_written s ≡ true → IsSyntaxPlace (spell s) i → ⊥

-- and of refusals
pub record RefusalLaws : Type 0 where
  pub one_refusal : (bytes : List ℕ) (refused other : LexRefused) → IsRefused bytes refused → IsRefused bytes other → refused ≡ other
  pub one_place : (ts : Tokens) (i j : ℕ) → IsSyntaxPlace ts i → IsSyntaxPlace ts j → i ≡ j
  pub one_limit : (s : Script) (v w : What) → IsTooMany s v → IsTooMany s w → v ≡ w

abbrev refusal_of : LexRefused → ScriptRefused
refusal_of (lexer.NotText place) = NotText place
refusal_of (lexer.BadToken place) = BadToken place
refusal_of (lexer.TooDeep i) = TooDeep i

-- a tree that can be written is refused so
abbrev IsBad : Script → ScriptRefused → Type 0
IsBad s (BadName i) = first_bad s ≡ Some i
IsBad s (TooMany what) = (first_bad s ≡ None) × IsTooMany s what
IsBad s _ = ⊥

-- how far the reading of the bytes goes
data Cause (bytes : List ℕ) (r : ScriptRefused) : Type 0 where
  Long : 1048576 < length bytes → r ≡ TooLong → Cause bytes r
  Lexed : (q : LexRefused) → IsShort bytes → IsRefused bytes q → r ≡ refusal_of q → Cause bytes r
  Parsed : (i : ℕ) (ts : List Token) → IsShort bytes → HasTokens bytes ts → IsSyntaxPlace ts i → r ≡ Syntax i → Cause bytes r
  Judged : (s : Script) → Spells bytes s → IsBad s r → Cause bytes r

cause_of : (bytes : List ℕ) (r : ScriptRefused) → IsRefusedScript bytes r → Cause bytes r
cause_of bytes TooLong h = Long h refl
cause_of bytes (NotText place) h = Lexed (lexer.NotText place) h.0 h.1 refl
cause_of bytes (BadToken place) h = Lexed (lexer.BadToken place) h.0 h.1 refl
cause_of bytes (TooDeep i) h = Lexed (lexer.TooDeep i) h.0 h.1 refl
cause_of bytes (Syntax i) h = Parsed i h.1.0 h.0 h.1.1.0 h.1.1.1 refl
cause_of bytes (BadName i) h = Judged h.0 h.1.0 h.1.1
cause_of bytes (TooMany what) h = Judged h.0 h.1.0 (h.1.1, h.1.2)

one_bad : RefusalLaws → (s : Script) (r o : ScriptRefused) → IsBad s r → IsBad s o → r ≡ o
one_bad laws s (BadName i) (BadName j) p q = let same : Some i ≡ Some j = sym p ∙ q in cc
one_bad laws s (BadName i) (TooMany w) p q = let same : Some i ≡ None = sym p ∙ q.0 in cc
one_bad laws s (TooMany v) (BadName j) p q = let same : Some j ≡ None = sym q ∙ p.0 in cc
one_bad laws s (TooMany v) (TooMany w) p q = ap TooMany (laws.one_limit s v w p.1 q.1)
one_bad laws s (BadName i) _ p q = absurd q
one_bad laws s (TooMany v) _ p q = absurd q
one_bad laws s _ o p q = absurd p

-- the trees that the bytes spell are one
same_tree : OneList → OneTree → (bytes : List ℕ) (s t : Script) → Spells bytes s → Spells bytes t → s ≡ t
same_tree one_list one_tree bytes s t is it =
    one_tree s t is.written it.written (one_list bytes (spell s) (spell t) is.tokens.0 it.tokens.0 is.tokens.1 it.tokens.1).0

-- where a tree is spelled, no token is the first with which no script goes on
no_syntax : TokenLaws → TreeLaws → (bytes : List ℕ) (s : Script) (i : ℕ) (ts : List Token) → Spells bytes s → HasTokens bytes ts → IsSyntaxPlace ts i → ⊥
no_syntax tokens trees bytes s i ts is has place =
    trees.no_place s i is.written (subst (λ z. IsSyntaxPlace z i) (tokens.one_list bytes ts (spell s) has.0 is.tokens.0 has.1 is.tokens.1).0 place)

same_cause : TokenLaws → TreeLaws → RefusalLaws → (bytes : List ℕ) (r o : ScriptRefused) → Cause bytes r → Cause bytes o → r ≡ o
same_cause tokens trees laws bytes r o (Long h e) (Long k f) = e ∙ sym f
same_cause tokens trees laws bytes r o (Long h e) (Lexed q short _ f) = absurd (omega (arith, h, short))
same_cause tokens trees laws bytes r o (Long h e) (Parsed i ts short _ _ f) = absurd (omega (arith, h, short))
same_cause tokens trees laws bytes r o (Long h e) (Judged s is f) = absurd (omega (arith, h, is.short))
same_cause tokens trees laws bytes r o (Lexed q short _ e) (Long k f) = absurd (omega (arith, k, short))
same_cause tokens trees laws bytes r o (Lexed p _ h e) (Lexed q _ k f) = e ∙ ap refusal_of (laws.one_refusal bytes p q h k) ∙ sym f
same_cause tokens trees laws bytes r o (Lexed q _ h e) (Parsed i ts _ has _ f) = absurd (tokens.not_refused bytes ts has.0 q has.1 h)
same_cause tokens trees laws bytes r o (Lexed q _ h e) (Judged s is f) = absurd (tokens.not_refused bytes (spell s) is.tokens.0 q is.tokens.1 h)
same_cause tokens trees laws bytes r o (Parsed i ts short _ _ e) (Long k f) = absurd (omega (arith, k, short))
same_cause tokens trees laws bytes r o (Parsed i ts _ has _ e) (Lexed q _ k f) = absurd (tokens.not_refused bytes ts has.0 q has.1 k)
same_cause tokens trees laws bytes r o (Parsed i ts _ has place e) (Parsed j us _ had other f) =
    e ∙ ap Syntax (laws.one_place us i j (subst (λ z. IsSyntaxPlace z i) (tokens.one_list bytes ts us has.0 had.0 has.1 had.1).0 place) other) ∙ sym f
same_cause tokens trees laws bytes r o (Parsed i ts _ has place e) (Judged s is f) = absurd (no_syntax tokens trees bytes s i ts is has place)
same_cause tokens trees laws bytes r o (Judged s is e) (Long k f) = absurd (omega (arith, k, is.short))
same_cause tokens trees laws bytes r o (Judged s is e) (Lexed q _ k f) = absurd (tokens.not_refused bytes (spell s) is.tokens.0 q is.tokens.1 k)
same_cause tokens trees laws bytes r o (Judged s is e) (Parsed j ts _ has place f) = absurd (no_syntax tokens trees bytes s j ts is has place)
same_cause tokens trees laws bytes r o (Judged s is e) (Judged t it f) =
    one_bad laws t r o (subst (λ z. IsBad z r) (same_tree tokens.one_list trees.one_tree bytes s t is it) e) f

pub one_refusal : TokenLaws → TreeLaws → RefusalLaws → (bytes : List ℕ) (refused other : ScriptRefused) → IsRefusedScript bytes refused → IsRefusedScript bytes other → refused ≡ other
one_refusal tokens trees laws bytes r o h k = same_cause tokens trees laws bytes r o (cause_of bytes r h) (cause_of bytes o k)

pub one_script : OneList → OneTree → (bytes : List ℕ) (s t : Script) → IsScript bytes s → IsScript bytes t → s ≡ t
one_script one_list one_tree bytes s t is it = same_tree one_list one_tree bytes s t is.spelled it.spelled

-- within all limits none is the first that is passed
abbrev pub HasNoLimit : Type 0
HasNoLimit = (s : Script) → (IsWithinLimits s ↔ ((w : What) → IsTooMany s w → ⊥))

not_bad : HasNoLimit → (s : Script) (r : ScriptRefused) → first_bad s ≡ None → IsWithinLimits s → IsBad s r → ⊥
not_bad none s (BadName i) named limits bad = let same : Some i ≡ None = sym bad ∙ named in cc
not_bad none s (TooMany what) named limits bad = (none s).0 limits what bad.1
not_bad none s _ named limits bad = bad

no_cause : TokenLaws → TreeLaws → HasNoLimit → (bytes : List ℕ) (s : Script) (r : ScriptRefused) → IsScript bytes s → Cause bytes r → ⊥
no_cause tokens trees none bytes s r is (Long h e) = omega (arith, h, is.spelled.short)
no_cause tokens trees none bytes s r is (Lexed q _ h e) = tokens.not_refused bytes (spell s) is.spelled.tokens.0 q is.spelled.tokens.1 h
no_cause tokens trees none bytes s r is (Parsed i ts _ has place e) = no_syntax tokens trees bytes s i ts is.spelled has place
no_cause tokens trees none bytes s r is (Judged t it bad) =
    not_bad none s r is.named is.limits (subst (λ z. IsBad z r) (same_tree tokens.one_list trees.one_tree bytes t s it is.spelled) bad)

pub not_refused : TokenLaws → TreeLaws → HasNoLimit → (bytes : List ℕ) (s : Script) (refused : ScriptRefused) → IsScript bytes s → IsRefusedScript bytes refused → ⊥
not_refused tokens trees none bytes s r is h = no_cause tokens trees none bytes s r is (cause_of bytes r h)
