-- Texts that are appended, one after the other.
use Rattle.std.proofs.Common.{◌≡◌, ℕ, List, [], ◌∷◌, ◌++◌, sym, ap, ◌∙◌, append_assoc}
use Rattle.std.specs.Prelude.{Result, Ok, Err, OnOk, is_ok, if◌then◌else◌, codes}
use Rattle.std.specs.Fmt.{decimal}
use Rattle.drill_script.specs.Statements.{line}
use Rattle.drill_script.specs.Script.{task_text}

-- a text that was appended where there was memory, by another name
pub renamed : {A E : Type 0} (r : Result A E) (a b x y : List ℕ) → y ≡ x → OnOk r (b ≡ a ++ x) → OnOk r (b ≡ a ++ y)
renamed (Ok v) a b x y same gained = gained ∙ ap (λ t. a ++ t) (sym same)
renamed (Err e) a b x y same gained = tt

-- a text that became another where there was memory, by another name
pub replaced : {A E : Type 0} (r : Result A E) (b x y : List ℕ) → OnOk r (b ≡ x) → x ≡ y → OnOk r (b ≡ y)
replaced (Ok v) b x y became same = became ∙ same
replaced (Err e) b x y became same = tt

-- a text, and then another, which together have a name
pub continued : (a x y z : List ℕ) → z ≡ x ++ y → (a ++ x) ++ y ≡ a ++ z
continued a x y z same = append_assoc a x y ∙ ap (λ t. a ++ t) (sym same)

-- what was appended where there was memory
pub gained : {A E : Type 0} (r : Result A E) (a b x : List ℕ)
    → b ≡ (if is_ok r then a ++ x else a) → OnOk r (b ≡ a ++ x)
gained (Ok v) a b x same = same
gained (Err e) a b x same = tt

-- the parts of a task, in another grouping
regrouped : (a h d e n b c s x y z : List ℕ)
    → (((a ++ (h ++ (d ++ (e ++ n)))) ++ (b ++ c)) ++ s) ++ (x ++ (y ++ z))
    ≡ a ++ (((((((((h ++ d) ++ e) ++ n) ++ b) ++ c) ++ s) ++ x) ++ y) ++ z)
regrouped a h d e n b c s x y z = simp append_assoc

-- a task is its first lines, its statements and its last lines
pub task_joined : (a : List ℕ) (task : ℕ) (s : List ℕ)
    → (((a ++ (codes "task t" ++ (decimal task ++ codes " {\n"))) ++ codes "let i = 0;\nwhile (i < 50) {\n") ++ s)
    ++ codes "i = (i + 1);\n}\n}\n"
    ≡ a ++ task_text task s
unfolding task_text
task_joined a task s =
    regrouped a (codes "task t") (decimal task) (codes " {") (10 ∷ [])
    (line (codes "let i = 0;")) (line (codes "while (i < 50) {")) s
    (line (codes "i = (i + 1);")) (line (codes "}")) (line (codes "}"))
