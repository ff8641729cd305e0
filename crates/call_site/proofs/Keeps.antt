-- Each kind of step keeps the rule of the words.
use Rattle.std.proofs.Common.{◌≡◌, ◌≢◌, ℕ, zero, suc, ◌+◌, ◌<◌, ◌%◌, ◌^◌, List, [], ◌∷◌, ◌++◌, length, get_or, set, replicate, sym, refl, ap, ◌∙◌, subst, ⊎_elim, arith, length-set, length-append, mod-eq_of_lt}
use mathlib.Core.Option.{some, none, some-injective, some-ne-none}
use lib.ListN.{get_elem?}
use lib.Seq.{set-get_or}
use Rattle.atomic_table.specs.Table.{State, Me, step, keeps, Allows, Splits, Joins, opening}
use Rattle.atomic_table.proofs.Lists.{at_set, at_snoc}
use Rattle.call_site.specs.declared.memo.Memo.{Memo}
use Rattle.call_site.specs.Rule.{WordsHold, first_memo, with_word, with_call, loaded, exchanged, stored, drawn, splitter, newcomer, joined, spent}

same_at : (l : List Memo) (i : ℕ) (x y : Memo) → get_elem? l i ≡ some x → get_elem? l i ≡ some y → x ≡ y
same_at l i x y a b = some-injective x y (sym a ∙ b)

inside : (l : List Memo) (i : ℕ) (x : Memo) → get_elem? l i ≡ some x → i < length l
inside [] i x e = absurd (some-ne-none x (sym e))
inside (y ∷ ys) zero x e = omega arith
inside (y ∷ ys) (suc i) x e = let h = inside ys i x e in omega arith

-- a pass that is alone is the first, and there is no other
only : (count : ℕ) (s : State ℕ Memo) → WordsHold count s → (j : ℕ) (v : Memo) → get_elem? s.views j ≡ some v → v.made ≡ 1 → (j ≡ 0) × (length s.views ≡ 1)
only count s r j v at one = let o = r.counts j v at (λ z. let q : 1 ≡ 0 = sym one ∙ z in omega arith) in (o.0, sym o.1 ∙ one)

-- a step of the pass id, after which its words are those of the table if they were before
stepped_on : (count : ℕ) (s : State ℕ Memo) → WordsHold count s → (id : ℕ) (v w : Memo) (ws : List ℕ) → get_elem? s.views id ≡ some v → w.made ≡ v.made → length ws ≡ length s.words → (v.made ≡ 1 → v.words ≡ s.words → w.words ≡ ws)
    → WordsHold count record { words = ws; homes = s.homes; views = set s.views id w }
stepped_on count s r id v w ws at made long same = let counted : length (set s.views id w) ≡ length s.views = length-set s.views id w in record {
  wide = long ∙ r.wide;
  counts = λ j d e some_made. ⊎_elim
      (λ (q : (j ≡ id) × (w ≡ d)). let is : d.made ≡ v.made = ap (λ (z : Memo). z.made) (sym q.1) ∙ made in let o = r.counts id v at (λ z. some_made (is ∙ z)) in (q.0 ∙ o.0, is ∙ o.1 ∙ sym counted))
      (λ (q : (j ≢ id) × (get_elem? s.views j ≡ some d)). let o = r.counts j d q.1 some_made in (o.0, o.1 ∙ sym counted)) (at_set s.views id j w d e);
  alone = λ j d e one. ⊎_elim
      (λ (q : (j ≡ id) × (w ≡ d)). let was : v.made ≡ 1 = sym made ∙ ap (λ (z : Memo). z.made) q.1 ∙ one in ap (λ (z : Memo). z.words) (sym q.1) ∙ same was (r.alone id v at was))
      (λ (q : (j ≢ id) × (get_elem? s.views j ≡ some d)). let o = only count s r j d q.1 one in let near = inside s.views id v at in absurd (let l = o.1 in let z = o.0 in q.0 (omega arith))) (at_set s.views id j w d e);
}

finds_own : (count : ℕ) (s : State ℕ Memo) (r : WordsHold count s) (id i : ℕ) (v : Memo) → get_elem? s.views id ≡ some v → v.made ≡ 1 → get_or s.words i 0 ≡ get_or v.words i 0
finds_own count s r id i v at one = ap (λ (l : List ℕ). get_or l i 0) (sym (r.alone id v at one))

pub loads : (count slots id i : ℕ) (me : Me ℕ Memo) → Allows (WordsHold count) slots id me i (λ x. x) (loaded (step slots i 0 0 none) me)
loads count slots id i me s r _ at _ = (
  me.0,
  keeps,
  tt,
  stepped_on count s r id me.0 me.0 (set s.words i (get_or s.words i 0)) at refl (length-set s.words i (get_or s.words i 0)) (λ _ e. e ∙ sym (set-get_or s.words i 0)),
  (refl, finds_own count s r id i me.0 at),
)

pub exchanges : (count slots id i new : ℕ) (me : Me ℕ Memo) → Allows (WordsHold count) slots id me i (λ _. new) (exchanged (step slots i new 0 none) me)
exchanges count slots id i new me s r _ at _ = (
  with_call me.0 i new,
  keeps,
  tt,
  stepped_on count s r id me.0 (with_call me.0 i new) (set s.words i new) at refl (length-set s.words i new) (λ _ e. ap (λ (l : List ℕ). set l i new) e),
  refl,
)

pub stores : (count slots id i new : ℕ) (me : Me ℕ Memo) → Allows (WordsHold count) slots id me i (λ _. new) (λ _. stored (step slots i new 0 none) me new)
stores count slots id i new me s r _ at _ = (
  with_word me.0 i new,
  keeps,
  tt,
  stepped_on count s r id me.0 (with_word me.0 i new) (set s.words i new) at refl (length-set s.words i new) (λ _ e. ap (λ (l : List ℕ). set l i new) e),
  refl,
)

pub draws : (count slots id i : ℕ) (me : Me ℕ Memo) → get_or me.0.words i 0 < 2 ^ 60 → Allows (WordsHold count) slots id me i (λ x. (x + 1) % 2 ^ 64) (drawn (step slots i 1 0 none) me)
draws count slots id i me few s r _ at _ = let mine : ℕ = get_or me.0.words i 0 in let found : ℕ = get_or s.words i 0 in let w : Memo = with_word me.0 i (mine + 1) in (
  w,
  keeps,
  tt,
  stepped_on count s r id me.0 w (set s.words i ((found + 1) % 2 ^ 64)) at refl (length-set s.words i ((found + 1) % 2 ^ 64))
      (λ one e. let is : found ≡ mine = finds_own count s r id i me.0 at one in let exact : (found + 1) % 2 ^ 64 ≡ found + 1 = mod-eq_of_lt (omega arith) in
      λ k. set (e k) i ((ap (λ z. z + 1) (sym is) ∙ sym exact) k)),
  (refl, finds_own count s r id i me.0 at),
)

pub splits : (count id : ℕ) (v : Memo) → v.made ≢ 0 → Splits (WordsHold count) id v (splitter v) (newcomer v)
splits count id v first s r at = let left : Memo = splitter v in let right : Memo = newcomer v in let o = r.counts id v at first in let l : List Memo = set s.views id left in
    let near : 0 < length s.views = (let h = inside s.views id v at in omega arith) in
    let counted : length (l ++ right ∷ []) ≡ length s.views + 1 = length-append l (right ∷ []) ∙ ap (λ z. z + 1) (length-set s.views id left) in
    let made_is : left.made ≡ length (l ++ right ∷ []) = ap (λ z. z + 1) o.1 ∙ sym counted in
    let case : (j : ℕ) (d : Memo) → get_elem? (l ++ right ∷ []) j ≡ some d → d.made ≢ 0 → (j ≡ 0) × (d.made ≡ length (l ++ right ∷ [])) = (λ j d e some_made. ⊎_elim
    (λ (g : get_elem? l j ≡ some d). ⊎_elim
    (λ (q : (j ≡ id) × (left ≡ d)). (q.0 ∙ o.0, ap (λ (z : Memo). z.made) (sym q.1) ∙ made_is))
    (λ (q : (j ≢ id) × (get_elem? s.views j ≡ some d)). absurd (q.0 ((r.counts j d q.1 some_made).0 ∙ sym o.0))) (at_set s.views id j left d g))
    (λ (q : right ≡ d). absurd (some_made (ap (λ (z : Memo). z.made) (sym q)))) (at_snoc l right d j e)) in record {
      wide = r.wide;
      counts = case;
      alone = λ j d e one. let c = case j d e (λ z. let q : 1 ≡ 0 = sym one ∙ z in omega arith) in absurd (let a = c.1 in omega arith);
    }

pub joins : (count id : ℕ) (v : Memo) (other : ℕ) (w : Memo) → Joins (WordsHold count) id v other w (joined v w) spent
joins count id v other w s r at apart there = let l : List Memo = set s.views id v in let l' : List Memo = set l other spent in
    let counted : length l' ≡ length s.views = length-set l other spent ∙ length-set s.views id v in
    let was : (j : ℕ) (d : Memo) → get_elem? l' j ≡ some d → d.made ≢ 0 → get_elem? s.views j ≡ some d = (λ j d e some_made. ⊎_elim
    (λ (q : (j ≡ other) × (spent ≡ d)). absurd (some_made (ap (λ (z : Memo). z.made) (sym q.1))))
    (λ (q : (j ≢ other) × (get_elem? l j ≡ some d)). ⊎_elim
    (λ (q : (j ≡ id) × (v ≡ d)). subst (λ (z : ℕ × Memo). get_elem? s.views z.0 ≡ some z.1) (λ i. (sym q.0 i, q.1 i)) at)
    (λ (q : (j ≢ id) × (get_elem? s.views j ≡ some d)). q.1) (at_set s.views id j v d q.1)) (at_set l other j spent d e)) in record {
      wide = r.wide;
      counts = λ j d e some_made. let o = r.counts j d (was j d e some_made) some_made in (o.0, o.1 ∙ sym counted);
      alone = λ j d e one. r.alone j d (was j d e (λ z. let q : 1 ≡ 0 = sym one ∙ z in omega arith)) one;
    }

pub opens : (count : ℕ) (words : List ℕ) → words ≡ replicate count 0 → length words ≡ count → WordsHold count (opening words [] (first_memo count))
opens count words is long = record {
  wide = long;
  counts = λ j d e _. one j d e;
  alone = λ j d e _. let o = view_is j d e in ap (λ (z : Memo). z.words) (sym o.1) ∙ sym is;
}
  where
    view_is : (j : ℕ) (d : Memo) → get_elem? (first_memo count ∷ []) j ≡ some d → (j ≡ 0) × (first_memo count ≡ d)
    view_is zero d e = (refl, some-injective (first_memo count) d e)
    view_is (suc j) d e = absurd (some-ne-none d (sym e))

    one : (j : ℕ) (d : Memo) → get_elem? (first_memo count ∷ []) j ≡ some d → (j ≡ 0) × (d.made ≡ 1)
    one j d e = let o = view_is j d e in (o.0, ap (λ (z : Memo). z.made) (sym o.1))
