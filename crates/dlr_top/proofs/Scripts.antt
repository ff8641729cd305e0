-- What the bytes that were read say of all that the source held.
use Rattle.std.proofs.Common.{◌≡◌, ℕ, ◌≤◌, List, length, take, length-take, Option, None, Some, IfSome, sym, ◌∙◌, ap, subst, arith}
use Rattle.std.proofs.lemmas.List.{take_all}
use Rattle.script_grammar.specs.declared.tree.Script.{Script}
use Rattle.script_program.specs.declared.reading.ScriptRefused.{ScriptRefused}
use Rattle.script_program.specs.declared.reading.ScriptRefused.TheVariants.{TooLong, NotText, BadToken, TooDeep, Syntax, BadName, TooMany}
use Rattle.script_program.specs.Refusals.{IsRefusedScript}
use Rattle.script_program.specs.Scripts.{IsScript}

-- the bytes that were read, where the source tells what it held
abbrev pub ReadOf : Option (List ℕ) → List ℕ → Type 0
ReadOf held bytes = IfSome held (λ all. bytes ≡ take 1048577 all)

few_are_all : (all bytes : List ℕ) → bytes ≡ take 1048577 all → length bytes ≤ 1048576 → bytes ≡ all
few_are_all all bytes is few = is ∙ take_all 1048577 all (omega (arith, ap length is, length-take 1048577 all))

pub script_found : (held : Option (List ℕ)) (bytes : List ℕ) (script : Script) → ReadOf held bytes → IsScript bytes script → IfSome held (λ all. IsScript all script)
script_found None bytes script is found = tt
script_found (Some all) bytes script is found = subst (λ (l : List ℕ). IsScript l script) (few_are_all all bytes is found.spelled.short) found

refused_all : (all bytes : List ℕ) (cause : ScriptRefused) → bytes ≡ take 1048577 all → length bytes ≤ 1048576 → IsRefusedScript bytes cause → IsRefusedScript all cause
refused_all all bytes cause is few refused = subst (λ (l : List ℕ). IsRefusedScript l cause) (few_are_all all bytes is few) refused

refused_whole : (all bytes : List ℕ) (cause : ScriptRefused) → bytes ≡ take 1048577 all → IsRefusedScript bytes cause → IsRefusedScript all cause
refused_whole all bytes TooLong is long = omega (arith, ap length is, length-take 1048577 all, long)
refused_whole all bytes (NotText place) is refused = refused_all all bytes (NotText place) is refused.0 refused
refused_whole all bytes (BadToken place) is refused = refused_all all bytes (BadToken place) is refused.0 refused
refused_whole all bytes (TooDeep i) is refused = refused_all all bytes (TooDeep i) is refused.0 refused
refused_whole all bytes (Syntax i) is refused = refused_all all bytes (Syntax i) is refused.0 refused
refused_whole all bytes (BadName i) is refused = refused_all all bytes (BadName i) is refused.1.0.short refused
refused_whole all bytes (TooMany what) is refused = refused_all all bytes (TooMany what) is refused.1.0.short refused

pub refused_found : (held : Option (List ℕ)) (bytes : List ℕ) (cause : ScriptRefused) → ReadOf held bytes → IsRefusedScript bytes cause → IfSome held (λ all. IsRefusedScript all cause)
refused_found None bytes cause is refused = tt
refused_found (Some all) bytes cause is refused = refused_whole all bytes cause is refused

pub no_script : (held : Option (List ℕ)) (bytes : List ℕ) → ReadOf held bytes → ((script : Script) → IsScript bytes script → ⊥) → IfSome held (λ all. (script : Script) → IsScript all script → ⊥)
no_script None bytes is none = tt
no_script (Some all) bytes is none = λ script found.
    none script (subst (λ (l : List ℕ). IsScript l script) (sym (is ∙ take_all 1048577 all (omega (arith, found.spelled.short)))) found)
