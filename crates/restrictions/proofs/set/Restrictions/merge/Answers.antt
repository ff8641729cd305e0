use Rattle.std.proofs.Common.{◌≡◌, ◌++◌, length, sym, ap, ◌∙◌, subst, not, arith, length-append}
use Rattle.std.specs.List.{filter}
use Rattle.restrictions.specs.Sets.{is_in, merged, IsSet}
use Rattle.restrictions.proofs.Merged.{merged_is_set, length-merged_le, granted}
use Rattle.restrictions.proofs.set.Restrictions.merge.Goals as goal

pub overflow_add-len : goal.overflow_add-len
overflow_add-len c =
    omega (arith, length-merged_le c.args.self c.args.other, ap length c.self.view_is, ap length c.other.view_is, c.self.invariant.few, c.other.invariant.few)

all : (c : goal.In-Ok) → c.append.new.self.items ≡ merged c.args.self c.args.other
all c =
    let own : c.reserve.new.self.items ≡ c.args.self = c.reserve.ensures.items ∙ c.self.view_is in
    let more : c.without_own-more.result.items ≡ filter (λ r. not (is_in r c.args.self)) c.args.other =
    c.without_own-more.ensures ∙ ap (λ rs. filter (λ r. not (is_in r rs)) c.other.inside.items.items) own ∙ ap (filter (λ r. not (is_in r c.args.self))) c.other.view_is in
    c.in-Ok.ensures.items ∙ ap (λ xs. xs ++ c.without_own-more.result.items) own ∙ ap (λ ys. c.args.self ++ ys) more

pub invariant_of-self-in-Ok : goal.invariant_of-self-in-Ok
invariant_of-self-in-Ok c =
    let own : IsSet c.args.self = subst IsSet c.self.view_is c.self.invariant in
    let others : IsSet c.args.other = subst IsSet c.other.view_is c.other.invariant in
    subst IsSet (sym (all c)) (merged_is_set c.args.self c.args.other own others (omega (arith, c.fresh_in-fresh.ensures, c.len.ensures, ap length c.self.view_is)))

pub unreachable-requires : goal.unreachable-requires
unreachable-requires c =
    let own : c.reserve.new.self.items ≡ c.args.self = c.reserve.ensures.items ∙ c.self.view_is in
    let more : c.without_own-more.result.items ≡ filter (λ r. not (is_in r c.args.self)) c.args.other =
    c.without_own-more.ensures ∙ ap (λ rs. filter (λ r. not (is_in r rs)) c.other.inside.items.items) own ∙ ap (filter (λ r. not (is_in r c.args.self))) c.other.view_is in
    let room = granted c.reserve.result (sym c.is_err.ensures.value ∙ c.if-is_err.false) c.reserve.ensures.ok in
    omega (arith, room, c.in-Err.ensures.full, ap length more, ap length own, length-append c.args.self (filter (λ r. not (is_in r c.args.self)) c.args.other), c.fresh_in-fresh.ensures)
