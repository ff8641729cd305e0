use Rattle.std.proofs.Common.{sym, ◌∙◌, subst, eq-eqb}
use Rattle.std.specs.Str.{IsValidUpTo}
use Rattle.std.proofs.lemmas.Bool.{eqb-true}
use Rattle.script_places.proofs.Readable.{not_broken, one_broken}
use Rattle.script_places.proofs.places.is_broken_at.Goals as goal

pub returns-in-Ok : goal.returns-in-Ok
returns-in-Ok c = (λ t. cc, λ broken. absurd (not_broken c.args.bytes.now c.args.place c.in-Ok.ensures.cases.1 broken))

pub returns-in-Err : goal.returns-in-Err
returns-in-Err c = (
  λ same. subst (IsValidUpTo c.args.bytes.now) (sym c.valid_up_to.ensures ∙ eqb-true c.valid_up_to.result c.args.place same) c.in-Err.ensures.cases.1,
  λ broken. eq-eqb c.valid_up_to.result c.args.place (c.valid_up_to.ensures ∙ one_broken c.args.bytes.now _ c.args.place c.in-Err.ensures.cases.1 broken),
)
