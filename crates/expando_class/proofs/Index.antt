-- The two maps of a pass, of which one gives the other's keys.
use Rattle.std.proofs.Common.{◌≡◌, ◌≢◌, ℕ, List, [], Option, Some, None, Bool, true, false, cond, option_map, refl, sym, ◌∙◌, ap, subst, ◌⊎◌, ⊎_elim, inl, inr}
use Rattle.std.specs.Ordering.{nat_cmp, is_eq}
use Rattle.std.specs.Cmp.Lexicographic.{pointwise_decides, bytes_decides}
use Rattle.std.specs.HashMap.{get as get_hashed}
use Rattle.std.specs.BTreeMap.{BTreeMap, get}
use Rattle.std.proofs.lemmas.Cmp.{tied_itself, nat_cmp_total}
use Rattle.std.proofs.lemmas.Map.Lookups.{exact_unsigned}
use Rattle.std.specs.Cmp.{Equal-is}
use Rattle.expando_class.specs.declared.class.ClassRef.{ClassRef}
use Rattle.expando_class.specs.Shown.{number_shown, names_shown}
use Rattle.expando_class.specs.Listing.{names_eq}
use Rattle.expando_class.specs.Known.{NumbersByNames, names_at, StandAtNumbers, GivesNumbers, GivesKnown}

abbrev Numbers : Type 0
Numbers = BTreeMap ℕ ClassRef

-- what a pass keeps of its two maps
pub record IsIndex (by_number : Numbers) (by_names : NumbersByNames) : Type 0 where
  pub root : names_at by_number 0 ≡ Some []
  pub numbered : StandAtNumbers by_number
  pub gives : GivesNumbers by_number by_names
  pub given : GivesKnown by_number by_names

abbrev names_in : Option ClassRef → Option (List (List ℕ))
names_in o = option_map (λ (class : ClassRef). names_shown class.token) o

pub stays : (m n : Numbers) (k l : NumbersByNames) → ((q : ℕ) → get nat_cmp n q ≡ get nat_cmp m q) → ((q : List (List ℕ)) → get_hashed names_eq l q ≡ get_hashed names_eq k q) → IsIndex m k → IsIndex n l
stays m n k l numbers lists old = record {
  root = ap names_in (numbers 0) ∙ old.root;
  numbered = λ number class e. old.numbered number class (sym (numbers number) ∙ e);
  gives = λ number names e. lists names ∙ old.gives number names (ap names_in (sym (numbers number)) ∙ e);
  given = λ number names e. ap names_in (numbers number) ∙ old.given number names (sym (lists names) ∙ e);
}

-- a value after an update, by whether the key is the one that was updated
updated : {X : Type 0} (b : Bool) (x y z : X) → cond b x y ≡ z → ((b ≡ true) × (x ≡ z)) ⊎ ((b ≡ false) × (y ≡ z))
updated true x y z e = inl (refl, e)
updated false x y z e = inr (refl, e)

number_tells : (a b : ℕ) → is_eq (nat_cmp a b) ≡ true → a ≡ b
number_tells a b e = exact_unsigned a b ((Equal-is (nat_cmp a b)).0 e)

names_tell : (a b : List (List ℕ)) → names_eq a b ≡ true → a ≡ b
names_tell a b = (pointwise_decides bytes_decides a b).0

names_itself : (a b : List (List ℕ)) → a ≡ b → names_eq a b ≡ true
names_itself a b = (pointwise_decides bytes_decides a b).1

number_itself : (a b : ℕ) → a ≡ b → is_eq (nat_cmp a b) ≡ true
number_itself a b e = subst (λ z. is_eq (nat_cmp a z) ≡ true) e (ap is_eq (tied_itself nat_cmp_total a))

-- one class more, whose number and list were not known
module _ (m n : Numbers) (k l : NumbersByNames) (class : ClassRef) (names : List (List ℕ)) (is : names ≡ names_shown class.token) (new_number : names_at m (number_shown class.token) ≡ None) (new_list : (q : ℕ) → names_at m q ≢ Some (names_shown class.token))
    (numbers : (q : ℕ) → get nat_cmp n q ≡ cond (is_eq (nat_cmp (number_shown class.token) q)) (Some class) (get nat_cmp m q)) (lists : (q : List (List ℕ)) → get_hashed names_eq l q ≡ cond (names_eq names q) (Some (number_shown class.token)) (get_hashed names_eq k q)) (old : IsIndex m k) where
  names_after : (q : ℕ) → names_at n q ≡ cond (is_eq (nat_cmp (number_shown class.token) q)) (Some (names_shown class.token)) (names_at m q)
  names_after q = elim (is_eq (nat_cmp (number_shown class.token) q)) as (λ b. get nat_cmp n q ≡ cond b (Some class) (get nat_cmp m q) → names_at n q ≡ cond b (Some (names_shown class.token)) (names_at m q)) [
    | true ↦ λ e. ap names_in e
    | false ↦ λ e. ap names_in e
  ] (numbers q)

  -- a number whose list was known stays apart
  apart : (q : ℕ) (ns : List (List ℕ)) → names_at m q ≡ Some ns → names_at n q ≡ Some ns
  apart q ns e = elim (is_eq (nat_cmp (number_shown class.token) q)) as (λ b. is_eq (nat_cmp (number_shown class.token) q) ≡ b → names_at n q ≡ cond b (Some (names_shown class.token)) (names_at m q) → names_at n q ≡ Some ns) [
    | true ↦ λ b _. absurd (let s : None ≡ Some ns = sym new_number ∙ ap (λ z. names_at m z) (number_tells (number_shown class.token) q b) ∙ e in cc)
    | false ↦ λ _ h. h ∙ e
  ] refl (names_after q)

  pub one_more_known : IsIndex n l
  one_more_known = record {
    root = apart 0 [] old.root;
    numbered = λ q c e. ⊎_elim (λ h. number_tells (number_shown c.token) q (subst (λ (z : ClassRef). is_eq (nat_cmp (number_shown z.token) q) ≡ true) (let s : Some class ≡ Some c = h.1 in let t : class ≡ c = cc in t) h.0)) (λ h. old.numbered q c h.1)
        (updated (is_eq (nat_cmp (number_shown class.token) q)) (Some class) (get nat_cmp m q) (Some c) (sym (numbers q) ∙ e));
    gives = λ q ns e. ⊎_elim
        (λ h. let s : Some (names_shown class.token) ≡ Some ns = h.1 in let t : names_shown class.token ≡ ns = cc in
        lists ns ∙ ap (λ b. cond b (Some (number_shown class.token)) (get_hashed names_eq k ns)) (names_itself names ns (is ∙ t)) ∙ ap Some (number_tells (number_shown class.token) q h.0))
        (λ h. elim (names_eq names ns) as (λ b. names_eq names ns ≡ b → get_hashed names_eq l ns ≡ cond b (Some (number_shown class.token)) (get_hashed names_eq k ns) → get_hashed names_eq l ns ≡ Some q) [
          | true ↦ λ b _. absurd (new_list q (h.1 ∙ ap Some (sym (names_tell names ns b) ∙ is)))
          | false ↦ λ _ g. g ∙ old.gives q ns h.1
        ] refl (lists ns))
        (updated (is_eq (nat_cmp (number_shown class.token) q)) (Some (names_shown class.token)) (names_at m q) (Some ns) (sym (names_after q) ∙ e));
    given = λ q ns e. ⊎_elim
        (λ h. let s : Some (number_shown class.token) ≡ Some q = h.1 in let t : number_shown class.token ≡ q = cc in
        names_after q ∙ ap (λ b. cond b (Some (names_shown class.token)) (names_at m q)) (number_itself (number_shown class.token) q t) ∙ ap Some (sym is ∙ names_tell names ns h.0))
        (λ h. apart q ns (old.given q ns h.1))
        (updated (names_eq names ns) (Some (number_shown class.token)) (get_hashed names_eq k ns) (Some q) (sym (lists ns) ∙ e));
  }
