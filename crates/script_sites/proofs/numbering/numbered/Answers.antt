use Rattle.std.proofs.Common.{◌+◌, take, subst, sym}
use Rattle.script_sites.specs.Numbering.{IsNumbering, IsNumberOf}
use Rattle.script_sites.proofs.Numbers.{one_more_taken, few_more}
use Rattle.script_sites.proofs.numbering.numbered.Goals as goal

pub loop-binder-preserved : goal.loop-binder-preserved
loop-binder-preserved c =
    let number = subst (λ z. IsNumberOf z c.loop-binder.binders c.number_of.new.binders c.in_ok-number.number) c.binder-item.is c.in_ok-number.ensures in
    record {
      so_far = subst (λ z. IsNumbering (take (c.loop-binder.binder-index + 1) c.args.at_sites.now) z c.number_of.new.binders) (sym c.in_ok-push.ensures.ok)
          (one_more_taken c.args.at_sites.now c.loop-binder.binder-index c.binder-item.result c.loop-binder.sites c.loop-binder.binders c.number_of.new.binders c.in_ok-number.number c.loop-binder-test.true c.loop-binder.invariant.so_far number);
      few = few_more c.loop-binder.binders c.number_of.new.binders c.in_ok-number.number c.loop-binder.binder-index c.binder-item.result c.loop-binder.invariant.few c.in_ok-number.ensures;
    }
