-- Where tokens are no script's.
use Rattle.std.specs.Prelude.{◌≡◌, ℕ, ◌+◌, ◌<◌, ◌≤◌, true, ◌++◌, take, length}
use Rattle.script_grammar.specs.declared.parser.ParseFault.{ParseFault}
use Rattle.script_grammar.specs.declared.parser.ParseFault.TheVariants as fault
use Rattle.script_grammar.specs.declared.tree.Script.{Script}
use Rattle.script_grammar.specs.Forms.{Tokens, AllPlain}
use Rattle.script_grammar.specs.Spelling.{spell}
use Rattle.script_grammar.specs.WrittenStatements.{is_written}

-- The place of the first token with which no script goes on, or of the end where further ones are missing: the
-- tokens before it begin a script's, whose further ones are the name `a`, words and symbols.
pub record IsSyntaxPlace (ts : Tokens) (i : ℕ) : Type 0 where
  pub within : i ≤ length ts
  pub begins : (s : Script) × (more : Tokens)
      × (is_written s ≡ true) × (spell s ≡ take i ts ++ more) × AllPlain more
  pub not_further : i < length ts → (s : Script) (more : Tokens) → is_written s ≡ true →
      spell s ≡ take (i + 1) ts ++ more → ⊥
  pub not_whole : i ≡ length ts → (s : Script) → is_written s ≡ true → spell s ≡ ts → ⊥

-- the place is that of the first token that does not fit; want of memory may come at any tokens
abbrev pub IsFaultOf : Tokens → ParseFault → Type 0
IsFaultOf ts (fault.Syntax i) = IsSyntaxPlace ts i
IsFaultOf ts fault.Memory = Unit {0}
