use Rattle.std.proofs.Common.{Some, cond, ap, ◌∙◌, refl}
use Rattle.std.specs.Ordering.{nat_cmp, is_eq}
use Rattle.std.specs.Map.{lookup}
use Rattle.std.specs.BTreeMap.{get, is_at}
use Rattle.std.specs.HashMap.{get as get_hashed}
use Rattle.expando_class.specs.Listing.{names_eq}
use Rattle.expando_class.proofs.Index.{stays, one_more_known}
use Rattle.expando_class.proofs.pass.ClassPass.learn.Goals as goal

pub invariant_of-self : goal.invariant_of-self
invariant_of-self c = let pass = c.args.self.now in
    let index = stays pass.by_number c.insert.new.self pass.by_names pass.by_names (λ q. ap (lookup (is_at (nat_cmp q))) c.in_err-insert.ensures.err) (λ q. refl) record { root = pass.root; numbered = pass.numbered; gives = pass.gives; given = pass.given } in
    record { root = index.root; numbered = index.numbered; gives = index.gives; given = index.given }

pub invariant_of-self-in-Ok : goal.invariant_of-self-in-Ok
invariant_of-self-in-Ok c = let pass = c.args.self.now in
    let index = one_more_known pass.by_number c.insert.new.self pass.by_names c.insert-2.new.self c.args.class.now c.args.names c.requires.names c.requires.number c.requires.none
    (λ q. c.in_ok-insert.ensures.updates.0 q ∙ (λ i. cond (is_eq (nat_cmp (c.number-number.ensures i) q)) (Some (c.copy.ensures i)) (get nat_cmp pass.by_number q)))
    (λ q. c.in-Ok.ensures.updates.0 q ∙ (λ i. cond (names_eq c.args.names q) (Some (c.number-number.ensures i)) (get_hashed names_eq pass.by_names q)))
    record { root = pass.root; numbered = pass.numbered; gives = pass.gives; given = pass.given } in
    record { root = index.root; numbered = index.numbered; gives = index.gives; given = index.given }
