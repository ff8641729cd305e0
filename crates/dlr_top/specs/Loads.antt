-- Why a source gave no program.
use Rattle.std.specs.Prelude.{ℕ, List, Option, IfSome}
use Rattle.byte_devices.specs.Devices.{IsReadThrough, Rose}
use Rattle.script_grammar.specs.declared.tree.Script.{Script}
use Rattle.script_program.specs.Refusals.{IsRefusedScript}
use Rattle.script_program.specs.Scripts.{IsScript}
use Rattle.dlr_top.specs.declared.loading.Unloaded.{Unloaded}
use Rattle.dlr_top.specs.declared.loading.Unloaded.TheVariants.{SourceFailed, Refused, Memory}

-- the source failed; or it was read through, and the bytes that it held are refused for this cause; or memory was
-- refused
abbrev pub FailsToLoad : Option (List ℕ) → Option (List ℕ) → ℕ → ℕ → Unloaded → Type 0
FailsToLoad held after was is SourceFailed = Rose was is
FailsToLoad held after was is (Refused cause) =
    IfSome held (λ bytes. IsRefusedScript bytes cause)
    × IfSome held (λ bytes. (script : Script) → IsScript bytes script → ⊥)
    × IsReadThrough held after
FailsToLoad held after was is Memory = Unit {0}
