-- What is written of a member that is printed is the text of the statement and the line feed.
use Rattle.std.proofs.Common.{◌∙◌, ◌∷◌, [], ◌++◌, ap, append_assoc}
use Rattle.std.specs.Fmt.{decimal}
use Rattle.std.specs.Prelude.{codes}
use Rattle.drill_script.specs.Statements.{line, statement_text}
use Rattle.drill_script.proofs.Appending.{renamed}
use Rattle.drill_script.proofs.statement.Statement.append_to.Goals as goal

pub returns-in-Print : goal.returns-in-Print
returns-in-Print c =
    let member = decimal c.in-Print.member in
    let rest = codes "; } catch e { print e; }" in
    renamed _ _ _ _ _
    (ap (λ s. line (statement_text s)) c.in-Print.is
    ∙ ap (λ t. codes "try { print s.m" ++ t) (append_assoc member rest (10 ∷ [])))
    c.writeln-in-Print.ensures.bytes
