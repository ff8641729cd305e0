-- The test of two shapes tells whether they are the same.
use Rattle.std.proofs.Common.{◌≡◌, ◌==◌, Decides, refl, ap, eq-eqb, eqb-true}
use Rattle.std.specs.Cmp.Lexicographic.{pointwise}
use Rattle.std.specs.Str.{bytes_eq}
use Rattle.std.proofs.lemmas.Slice.Eq.{bytes_eq-Decides, slice_eq-Decides}
use Rattle.dyn_value.specs.Kinds.{same_kind}
use Rattle.cache_levels.specs.Levels.{TellsEqual}
use Rattle.cache_levels.specs.Shapes.{Look, AtKind, AtFun, AtKey, AtLong, AtNames, same_look, Shape, same_shape}
use Rattle.cache_levels.proofs.SameKinds.{both_parts, both_true, kinds_decide, not_true}

looks_decide : (one other : Look) → Decides (same_look one other) (one ≡ other)
looks_decide (AtKind a k) (AtKind b l) = (
  λ e. let p = both_parts (a == b) (same_kind k l) e in λ i. AtKind (eqb-true a b p.0 i) ((kinds_decide k l).0 p.1 i),
  λ e. both_true (a == b) (same_kind k l) (eq-eqb a b (let q : a ≡ b = cc in q)) ((kinds_decide k l).1 (let q : k ≡ l = cc in q)),
)
looks_decide (AtFun a f) (AtFun b g) = (
  λ e. let p = both_parts (a == b) (f == g) e in λ i. AtFun (eqb-true a b p.0 i) (eqb-true f g p.1 i),
  λ e. both_true (a == b) (f == g) (eq-eqb a b (let q : a ≡ b = cc in q)) (eq-eqb f g (let q : f ≡ g = cc in q)),
)
looks_decide (AtKey a s) (AtKey b t) = (
  λ e. let p = both_parts (a == b) (bytes_eq s t) e in λ i. AtKey (eqb-true a b p.0 i) ((bytes_eq-Decides s t).0 p.1 i),
  λ e. both_true (a == b) (bytes_eq s t) (eq-eqb a b (let q : a ≡ b = cc in q)) ((bytes_eq-Decides s t).1 (let q : s ≡ t = cc in q)),
)
looks_decide (AtLong a) (AtLong b) = (λ e. ap AtLong (eqb-true a b e), λ e. eq-eqb a b (let q : a ≡ b = cc in q))
looks_decide (AtNames ms) (AtNames ns) = let d = slice_eq-Decides bytes_eq-Decides ms ns (pointwise bytes_eq ms ns) refl in
    (λ e. ap AtNames (d.0 e), λ e. d.1 (let q : ms ≡ ns = cc in q))
looks_decide one other = (not_true, λ e. absurd (cc))

pub shapes_decide : TellsEqual same_shape
shapes_decide one other = let binders = one.binder == other.binder in let looks = pointwise same_look one.looks other.looks in
    let d = slice_eq-Decides looks_decide one.looks other.looks looks refl in (
      λ e. let p = both_parts binders looks e in λ i. record { binder = eqb-true one.binder other.binder p.0 i; looks = d.0 p.1 i },
      λ e. both_true binders looks (eq-eqb one.binder other.binder (ap (λ (z : Shape). z.binder) e)) (d.1 (ap (λ (z : Shape). z.looks) e)),
    )
