-- What a program shows.
use Rattle.std.specs.Prelude.{ℕ, List, map}
use Rattle.standard_binders.specs.declared.binder.Binder.{Binder}
use Rattle.standard_binders.specs.Functions.{Functions}
use Rattle.script_grammar.specs.declared.tree.Function.{Function}
use Rattle.script_grammar.specs.declared.tree.Script.{Script}
use Rattle.script_sites.specs.declared.site_numbering.Numbering.{Numbering}
use Rattle.script_program.specs.declared.program.Program.{Program}
use Rattle.script_program.specs.Built.{IsBuilt}

-- its script tree
abbrev pub script_of : Program → Script
script_of p = p.script

-- the numbers of its sites and binders
abbrev pub numbering_of : Program → Numbering
numbering_of p = p.numbering

-- for each site the number of its binder
abbrev pub sites_of : Program → List ℕ
sites_of p = p.numbering.sites

-- its distinct binders
abbrev pub binders_of : Program → List Binder
binders_of p = p.numbering.binders

abbrev pub params_of : Function → List (List ℕ)
params_of f = f.params

-- the parameters of its functions
abbrev pub functions_of : Program → Functions
functions_of p = map params_of p.script.functions

-- what its type keeps
abbrev pub built_of : (p : Program) → IsBuilt (script_of p) (numbering_of p)
built_of p = p.built
