use Rattle.std.specs.Prelude.{ℕ, List, [], ◌∷◌, ◌++◌, length}
use Rattle.script_places.proofs.TokenPlaces.{found}
use Rattle.script_places.proofs.places.token_or_end_place.Goals as goal

pub returns-in_ok-push-in-Some : goal.returns-in_ok-push-in-Some
returns-in_ok-push-in-Some c =
    found (λ (ps : List ℕ). ps ++ length c.args.bytes.now ∷ []) c.characters_have_one_list_of_tokens.ensures c.args.bytes.now c.in-Some.places.items
    (rw c.in-Some.is at c.in_ok-places.ensures)
    c.args.number c.numbered.result (rw (c.as_slice.ensures.value, c.in_ok-push-in-Some.ensures.items) at c.numbered.ensures)

pub returns-in-None : goal.returns-in-None
returns-in-None c = λ place t. (rw c.in-None.is at c.in_ok-places.ensures) t.0 t.1.0
