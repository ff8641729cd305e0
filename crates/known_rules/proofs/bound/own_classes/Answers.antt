use Rattle.std.proofs.Common.{Option, subst, sym}
use Rattle.std.specs.Prelude.{IfSome}
use Rattle.expando_class.specs.declared.class.ClassRef.{ClassRef}
use Rattle.expando_class.specs.Class.{IsClassOf}
use Rattle.known_rules.specs.Bounds.{IsClaimedFor}
use Rattle.known_rules.proofs.OwnClasses.{own_adopted}
use Rattle.known_rules.proofs.bound.own_classes.Goals as goal

pub returns : goal.returns
returns c = λ functions claimed.
    let table = c.args.table.now in let pass = c.args.pass.now in let claim = c.args.claim.now in
    own_adopted functions table pass claim c.in-Some.claimed c.copied.result c.known_after.result c.in-Some.is
    (subst (λ (k : Option ClassRef). IfSome k (IsClassOf table)) (sym c.copied.ensures) c.requires.own)
    (record {
      of = c.known_after.ensures.of;
      names = c.known_after.ensures.names;
      number_is = c.known_after.ensures.number;
      none = c.known_after.ensures.none;
    })
    (subst (λ (k : Option ClassRef). IsClaimedFor functions pass k claim) (sym c.copied.ensures) claimed)
