use Rattle.std.proofs.Common.{◌≡◌, ◌∙◌, sym, ap, length, Some, arith}
use Rattle.std.proofs.lemmas.List.Edits.{length-remove}
use Rattle.std.proofs.lemmas.Option.{slice_get-get_or}
use Rattle.expando_object.specs.State.{names_in, values_in}
use Rattle.expando_object.proofs.state.ObjState.remove.Goals as goal

pub invariant_of-self : goal.invariant_of-self
invariant_of-self c =
    let state = c.args.self.now in
    let even : length (values_in state) ≡ length (names_in state) = state.even in
    record {
      even = omega (
        arith,
        ap length c.remove-value.ensures.items,
        ap length c.requires.names,
        length-remove (values_in state) c.args.place (omega (arith, c.requires.place)),
        length-remove (names_in state) c.args.place c.requires.place,
      );
    }

pub returns-clause-stood : goal.returns-clause-stood
returns-clause-stood c =
    let state = c.args.self.now in
    let even : length (values_in state) ≡ length (names_in state) = state.even in
    slice_get-get_or (values_in state) c.args.place c.remove-value.result (omega (arith, c.requires.place)) ∙ ap Some (sym c.remove-value.ensures.value)
