-- What an end of reading says of the place where it stops, and that there is one such place at most.
use Rattle.std.proofs.Common.{◌≡◌, ℕ, ◌+◌, ◌-◌, ◌≤◌, ◌<◌, true, length, take, drop, [], ◌∷◌, ◌++◌, inl, inr, refl, sym, ap, ◌∙◌, subst, arith, append_assoc, append-nil, length-append}
use Rattle.std.proofs.lemmas.Bool.{cases_order}
use Rattle.std.proofs.lemmas.List.{take-append-drop, take-append-le, length-take-le}
use Rattle.std.proofs.Math.Seq.{take-append_seam, take-append-add}
use Rattle.script_grammar.specs.declared.tree.Script.{Script}
use Rattle.script_grammar.specs.Forms.{Tokens, Reads, Stops}
use Rattle.script_grammar.specs.Refusals.{IsSyntaxPlace}
use Rattle.script_grammar.specs.Spelling.{spell}
use Rattle.script_grammar.specs.StatementForms.{script_form}
use Rattle.script_grammar.specs.WrittenStatements.{is_written}
use Rattle.script_grammar.proofs.Items.{goes_same}
use Rattle.script_grammar.proofs.ScriptSteps.{script_unique}

-- what was read

pub read_spells : (ts : Tokens) (s : Script) → Reads script_form ts s [] → spell s ≡ ts
read_spells ts s reads = sym (reads.split ∙ append-nil (spell s))

pub read_only : (ts : Tokens) (s : Script) → Reads script_form ts s [] → (t : Script) → is_written t ≡ true → spell t ≡ ts → t ≡ s
read_only ts s reads t w e = script_unique t s w reads.may.0 (e ∙ sym (read_spells ts s reads))

-- where reading stops

not_further : (ts rest : Tokens) (stops : Stops script_form ts rest) → length stops.taken < length ts → (s : Script) (more : Tokens) →
    is_written s ≡ true → spell s ≡ take (length stops.taken + 1) ts ++ more → ⊥
not_further ts [] stops less s more w e =
    let whole = ap length stops.split in
    let parts = length-append stops.taken [] in
    let no : ⊥ = omega arith in
    absurd no
not_further ts (t ∷ rest) stops less s more w e =
    let first : take (length stops.taken + 1) ts ≡ stops.taken ++ t ∷ [] =
    ap (λ z. take (length stops.taken + 1) z) stops.split ∙ take-append-add stops.taken (t ∷ rest) 1 in
    stops.stuck (t ∷ more) (more, refl) s [] (w, refl)
    (sym (append_assoc stops.taken (t ∷ []) more) ∙ ap (λ z. z ++ more) (sym first) ∙ sym e ∙ sym (append-nil (spell s)))

stop_at_length : (ts rest : Tokens) (stops : Stops script_form ts rest) → IsSyntaxPlace ts (length stops.taken)
stop_at_length ts rest stops =
    let before : take (length stops.taken) ts ≡ stops.taken =
    ap (λ z. take (length stops.taken) z) stops.split ∙ take-append_seam stops.taken rest in
    record {
      within = let whole = ap length stops.split in let parts = length-append stops.taken rest in omega arith;
      begins = (stops.tree, stops.more, stops.proper.0, stops.begins ∙ ap (λ z. z ++ stops.more) (sym before), stops.plain);
      not_further = not_further ts rest stops;
      not_whole = λ end s w e. stops.stuck rest (goes_same rest) s [] (w, refl) (sym stops.split ∙ sym e ∙ sym (append-nil (spell s)));
    }

-- the place is the number of tokens that were taken
pub stop_place : (ts rest : Tokens) → Stops script_form ts rest → IsSyntaxPlace ts (length ts - length rest)
stop_place ts rest stops =
    let whole = ap length stops.split in
    let parts = length-append stops.taken rest in
    let same : length stops.taken ≡ length ts - length rest = omega arith in
    subst (λ z. IsSyntaxPlace ts z) same (stop_at_length ts rest stops)

-- a later place is none
no_later : (ts : Tokens) (i j : ℕ) → IsSyntaxPlace ts i → IsSyntaxPlace ts j → i < j → ⊥
no_later ts i j first second less =
    let begins = second.begins in
    let within = second.within in
    let counted : length (take j ts) ≡ j = length-take-le j ts within in
    let short : i + 1 ≤ length (take j ts) = omega arith in
    let inside : i < length ts = omega arith in
    let start : take (i + 1) ts ≡ take (i + 1) (take j ts) =
    ap (λ z. take (i + 1) z) (sym (take-append-drop j ts)) ∙ take-append-le (i + 1) (take j ts) (drop j ts) short in
    let split : take j ts ≡ take (i + 1) ts ++ drop (i + 1) (take j ts) =
    sym (take-append-drop (i + 1) (take j ts)) ∙ ap (λ z. z ++ drop (i + 1) (take j ts)) (sym start) in
    first.not_further inside begins.0 (drop (i + 1) (take j ts) ++ begins.1) begins.2
    (begins.3 ∙ ap (λ z. z ++ begins.1) split ∙ append_assoc (take (i + 1) ts) (drop (i + 1) (take j ts)) begins.1)

pub one_place : (ts : Tokens) (i j : ℕ) → IsSyntaxPlace ts i → IsSyntaxPlace ts j → i ≡ j
one_place ts i j first second = elim (cases_order i j) [
  | inl same ↦ same
  | inr (inl less) ↦ absurd (no_later ts i j first second less)
  | inr (inr more) ↦ absurd (no_later ts j i second first more)
]

-- a script has none
pub script_has_none : (s : Script) (i : ℕ) → is_written s ≡ true → IsSyntaxPlace (spell s) i → ⊥
script_has_none s i w place = elim (cases_order i (length (spell s))) [
  | inl same ↦ place.not_whole same s w refl
  | inr (inl less) ↦ place.not_further less s (drop (i + 1) (spell s)) w (sym (take-append-drop (i + 1) (spell s)))
  | inr (inr more) ↦ let within = place.within in let no : ⊥ = omega arith in no
]
