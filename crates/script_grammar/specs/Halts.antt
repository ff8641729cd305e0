-- What an end of reading without an answer says.
use Rattle.script_grammar.specs.declared.halt.Halt.{Halt}
use Rattle.script_grammar.specs.declared.halt.Halt.TheVariants as halt
use Rattle.script_grammar.specs.Forms.{Form, Tokens, Stops}

-- the tokens cannot be read on where the form stops
abbrev pub Halts : (F : Form) → Tokens → Halt → Type 0
Halts F ts (halt.Stop rest) = Stops F ts rest.now
Halts F ts halt.Memory = Unit {0}
