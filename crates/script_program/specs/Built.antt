-- What the type of a program keeps.
use Rattle.std.specs.Prelude.{◌≡◌, ◌≤◌, true, None, length}
use Rattle.std.specs.List.{list_all}
use Rattle.script_grammar.specs.declared.tree.Script.{Script}
use Rattle.script_grammar.specs.Spelling.{spell}
use Rattle.script_grammar.specs.WrittenStatements.{is_written}
use Rattle.script_names.specs.Scripts.{first_bad}
use Rattle.script_sites.specs.declared.site_numbering.Numbering.{Numbering}
use Rattle.script_sites.specs.Limits.{IsWithinLimits}
use Rattle.script_sites.specs.Numbering.{IsNumbering}
use Rattle.script_sites.specs.Sites.{function_starts, site_binders, task_starts}
use Rattle.script_program.specs.Names.{has_short_names}

-- a script that can be written, keeps the rules on names and is within all limits, and the numbers of its sites
pub record IsBuilt (script : Script) (numbering : Numbering) : Type 0 where
  pub written : is_written script ≡ true
  pub few_tokens : length (spell script) ≤ 1048576
  pub named : first_bad script ≡ None
  pub limits : IsWithinLimits script
  pub short_names : list_all has_short_names (site_binders script) ≡ true
  pub numbers : IsNumbering (site_binders script) numbering.sites numbering.binders
  pub functions : numbering.function_starts ≡ function_starts script
  pub tasks : numbering.task_starts ≡ task_starts script
