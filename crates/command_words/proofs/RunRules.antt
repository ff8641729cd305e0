-- The rules of `run`, as a parse of its words reads them.
use Rattle.std.proofs.Common.{◌≡◌, ℕ, true, refl, [], ◌∷◌, Some, None, codes}
use Rattle.clap.specs.Walk.{Rule, Text, arg_by_index, arg_by_short}
use Rattle.clap.specs.Simple.{Shape, built}
use Rattle.clap.specs.Faults.{is_simple_and_free}
use Rattle.clap.specs.declared.builder.action.ArgAction.TheVariants.{Set}
use Rattle.clap.specs.declared.builder.value_parser.ValueParser.TheVariants as vp
use Rattle.command_words.specs.Parsers.{bare_app, flag_rule, run_app, value_rule}

-- the rule of an option without a value, once the command is built
abbrev pub flag : Text → Rule
flag id = record (flag_rule id) {
  range = Some (record { start_inclusive = 0; end_inclusive = 0 });
  defaults = codes "false" ∷ [];
  missing = codes "true" ∷ [];
  parser = Some vp.Bool;
}

-- the rule of an option with a value
abbrev pub valued : Text → Rule
valued id = record (value_rule id) {
  range = Some (record { start_inclusive = 1; end_inclusive = 1 });
  action = Some Set;
  parser = Some vp.String;
}

-- what a parse of `run`'s words reads
abbrev pub top : Shape
top = (built run_app).top

pub run_simple : is_simple_and_free run_app ≡ true
run_simple = refl

pub check_simple : is_simple_and_free (bare_app (codes "check")) ≡ true
check_simple = refl

pub none_placed : arg_by_index top.rules 1 ≡ None
none_placed = refl

pub none_short : (x : ℕ) → arg_by_short top.rules x ≡ None
none_short x = refl
