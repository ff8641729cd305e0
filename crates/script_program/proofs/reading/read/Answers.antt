use Rattle.std.proofs.Common.{◌≡◌, length, sym, ap, ◌∙◌, subst, arith}
use Rattle.script_grammar.specs.Spelling.{spell}
use Rattle.script_program.specs.Scripts.{HasTokens}
use Rattle.script_program.proofs.ShortNames.{short_names}
use Rattle.script_program.proofs.reading.read.Goals as goal

pub of-requires : goal.of-requires
of-requires c =
    let same : spell c.in_ok-script.script ≡ c.in_ok-tokens.tokens.items = c.in_ok-script.ensures.spelled ∙ c.as_slice.ensures.value in
    record {
      built = record {
        written = c.in_ok-script.ensures.written;
        few_tokens = omega (arith, ap length same, c.in_ok-tokens.ensures.few);
        named = c.in_ok-judge_names.ensures.named;
        limits = c.in_ok-numbering.ensures.limits;
        short_names = short_names c.args.bytes.now c.in_ok-script.script (subst (HasTokens c.args.bytes.now) (sym same) c.in_ok-tokens.ensures.tokens);
        numbers = c.in_ok-numbering.ensures.numbers;
        functions = c.in_ok-numbering.ensures.functions;
        tasks = c.in_ok-numbering.ensures.tasks;
      };
    }
