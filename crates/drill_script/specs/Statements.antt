-- The statements of the drill.
use Rattle.std.specs.Prelude.{ℕ, ◌+◌, ◌*◌, ◌%◌, ◌==◌, if◌then◌else◌, List, [], ◌∷◌, ◌++◌, codes}
use Rattle.std.specs.Fmt.{decimal}
use Rattle.drill_script.specs.declared.statement.Statement.{Statement}
use Rattle.drill_script.specs.declared.statement.Statement.TheVariants.{Set, Print, Delete, SetSum}
use Rattle.drill_script.specs.Draws.{draw}

-- a line: its text and the line feed
abbrev pub line : List ℕ → List ℕ
line text = text ++ 10 ∷ []

-- the member of this number of the shared object
abbrev pub member_text : ℕ → List ℕ
member_text member = codes "s.m" ++ decimal member

-- what tries a thing and prints the fault that it may give
abbrev pub tried : List ℕ → List ℕ
tried statement = codes "try { " ++ statement ++ codes "; } catch e { print e; }"

-- the text of a statement
abbrev pub statement_text : Statement → List ℕ
statement_text (Set member value) = member_text member ++ codes " = " ++ decimal value ++ codes ";"
statement_text (Print member) = tried (codes "print " ++ member_text member)
statement_text (Delete member) = tried (codes "delete " ++ member_text member)
statement_text (SetSum member value) =
    member_text member ++ codes " = (" ++ decimal value ++ codes " + " ++ decimal value ++ codes ");"

-- the statement of this form, on one of eight members, with a value below 100
abbrev pub chosen : ℕ → ℕ → ℕ → Statement
chosen form member value =
    if form % 4 == 0 then Set (member % 8) (value % 100) else
    if form % 4 == 1 then Print (member % 8) else
    if form % 4 == 2 then Delete (member % 8) else
    SetSum (member % 8) (value % 100)

-- the statement of this number, from 0: each is chosen by three draws, in their order
abbrev pub statement_at : ℕ → ℕ → Statement
statement_at x n = chosen (draw x (3 * n)) (draw x (3 * n + 1)) (draw x (3 * n + 2))
