use Rattle.std.proofs.Common.{sym, ◌∙◌, arith}
use Rattle.std.specs.Int.{w64}
use Rattle.std.specs.Prelude.{FitsSigned}
use Rattle.std.proofs.lemmas.Int.{ints}
use Rattle.object_model.proofs.TextMembers.{length_member, other_member}
use Rattle.object_model.proofs.plain.text_member.Goals as goal

pub returns-then-eq-clause-outcome : goal.returns-then-eq-clause-outcome
returns-then-eq-clause-outcome c =
    let fits : FitsSigned w64 c.length.result = omega (arith, ints) in
    length_member c.args.text.now c.args.name.now c.as_str.result.now c.length.result c.as_str.ensures.proper.0 c.as_str.ensures.bytes (sym c.eq.ensures ∙ c.if-eq.true) fits c.length.ensures

pub returns-clause-outcome : goal.returns-clause-outcome
returns-clause-outcome c = other_member c.no_member.result c.args.text.now c.args.name.now c.as_str.result.now c.as_str.ensures.bytes (sym c.eq.ensures ∙ c.if-eq.false) c.no_member.ensures
