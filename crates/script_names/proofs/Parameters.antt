-- The parameters of a function, judged one after the other.
use Rattle.std.proofs.Common.{◌≡◌, ◌<◌, ℕ, ◌+◌, Bool, true, false, List, [], ◌∷◌, ◌++◌, length, drop, get_or, refl, sym, ap, ◌∙◌, drop-cons, add-one}
use Rattle.script_names.specs.declared.item_names.ItemNames.{ItemNames}
use Rattle.script_names.specs.Names.{Flags, Names, comma_flags, is_taken, more_row, row_after}
use Rattle.script_names.specs.Scripts.{params_flags}

row_one : (comma : Bool) (part : Flags) (rest : List Flags) → row_after comma (part ∷ rest) ≡ comma_flags comma ++ part ++ more_row rest
row_one true part rest = refl
row_one false part rest = refl

-- the parameters from a place on are the one there and those after it
pub one_parameter : (items : ItemNames) (earlier : Names) (params : Names) (i : ℕ) (d : List ℕ) (comma : Bool) → i < length params →
    row_after comma (params_flags items earlier (drop i params))
    ≡ comma_flags comma ++ (is_taken items earlier (get_or params i d) ∷ []) ++ row_after true (params_flags items (earlier ++ get_or params i d ∷ []) (drop (i + 1) params))
one_parameter items earlier params i d comma h =
    ap (λ z. row_after comma (params_flags items earlier z)) (drop-cons params i d h ∙ ap (λ n. get_or params i d ∷ drop n params) (sym (add-one i)))
    ∙ row_one comma (is_taken items earlier (get_or params i d) ∷ []) (params_flags items (earlier ++ get_or params i d ∷ []) (drop (i + 1) params))
