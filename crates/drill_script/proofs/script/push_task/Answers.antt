use Rattle.std.proofs.Common.{◌∙◌, ◌++◌, ap, string_bytes}
use Rattle.std.specs.Prelude.{codes}
use Rattle.drill_script.specs.Script.{statements_text}
use Rattle.drill_script.proofs.Appending.{gained, replaced, task_joined}
use Rattle.drill_script.proofs.script.push_task.Goals as goal

pub returns-clause-text : goal.returns-clause-text
returns-clause-text c =
    let before = string_bytes c.args.script.now in
    let last = codes "i = (i + 1);\n}\n}\n" in
    let written =
    c.in_ok-push_statements.ensures.text
    ∙ ap (λ t. t ++ statements_text c.args.draws.now.state 0 250)
    (c.in_ok-push_str.ensures.bytes
    ∙ ap (λ t. t ++ codes "let i = 0;\nwhile (i < 50) {\n") c.in_ok-writeln.ensures.bytes) in
    replaced c.push_str-2.result _ _ _
    (gained c.push_str-2.result (string_bytes c.push_statements.new.script) _ last c.push_str-2.ensures.bytes)
    (ap (λ t. t ++ last) written ∙ task_joined before c.args.task (statements_text c.args.draws.now.state 0 250))
