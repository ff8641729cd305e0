-- What is given stays given, and a value that writes no number is refused in the end.
use Rattle.std.proofs.Common.{◌≡◌, ◌∙◌, ◌||◌, ◌&&◌, Bool, true, false, cond, not, refl, sym, ap, List, [], ◌∷◌, Option, Some, None, codes, length}
use Rattle.std.specs.Prelude.{IfSome, is_none, nat_lt, option_and_then, option_map}
use Rattle.std.specs.List.{after_first, before_first, list_any, position_or_len}
use Rattle.std.specs.Str.{bytes_eq}
use Rattle.std.proofs.lemmas.Slice.Eq.{bytes_eq-Decides}
use Rattle.clap.specs.Walk.{Text}
use Rattle.command_words.specs.Commands.{Given, number_of, options_after, options_by, takes_next_word, with_equals, with_value, with_word, is_equals, number_within, options_with}
use Rattle.command_words.specs.Parsers.{is_end_mark}

bind : (P : Given → Type 0) (f : Given → Option Given) (o : Option Given) → IfSome o P → ((g : Given) → P g → IfSome (f g) P) → IfSome (option_and_then f o) P
bind P f None h k = tt
bind P f (Some g) h k = k g h

module _ (P : Given → Type 0) (serial : (g : Given) → P g → P (record g { serial = true })) (journal : (g : Given) → P g → P (record g { journal = true }))
    (turns : (g : Given) (v : Text) → is_none g.turns ≡ true → P g → P (record g { turns = Some v }))
    (objects : (g : Given) (v : Text) → is_none g.objects ≡ true → P g → P (record g { objects = Some v })) where
  value_keeps : (name v : Text) (g : Given) → P g → IfSome (with_value name v g) P
  value_keeps name v g h = by (bytes_eq name (codes "--turns")) (bytes_eq name (codes "--objects")) (is_none g.turns) (is_none g.objects) refl refl
    where
      by : (a b c d : Bool) → is_none g.turns ≡ c → is_none g.objects ≡ d
          → IfSome (cond (a && c) (Some (record g { turns = Some v })) (cond (b && d) (Some (record g { objects = Some v })) None)) P
      by true b true d t o = turns g v t h
      by true true false true t o = objects g v o h
      by true true false false t o = tt
      by true false false d t o = tt
      by false true c true t o = objects g v o h
      by false true c false t o = tt
      by false false c d t o = tt

  word_keeps : (word : Text) (g : Given) → P g → IfSome (with_word word g) P
  word_keeps word g h = by (bytes_eq word (codes "--serial") && not g.serial) (bytes_eq word (codes "--journal") && not g.journal)
    where
      tail : (b : Bool) (o : Option Given) → IfSome o P → IfSome (cond b o None) P
      tail true o k = k
      tail false o k = tt

      by : (a b : Bool) → IfSome (cond a (Some (record g { serial = true })) (cond b (Some (record g { journal = true })) (with_equals word g))) P
      by true b = serial g h
      by false true = journal g h
      by false false = tail (nat_lt (position_or_len is_equals word) (length word)) (with_value (before_first is_equals word) (after_first is_equals word) g)
          (value_keeps (before_first is_equals word) (after_first is_equals word) g h)

  words_keep : (words : List Text) (g : Given) → P g → IfSome (options_after words g) P
  words_keep [] g h = h
  words_keep (word ∷ []) g h = word_keeps word g h
  words_keep (word ∷ value ∷ words) g h = by (takes_next_word word)
      (bind P (options_after words) (with_value word value g) (value_keeps word value g h) (λ k p. words_keep words k p))
      (bind P (options_after (value ∷ words)) (with_word word g) (word_keeps word g h) (λ k p. words_keep (value ∷ words) k p))
    where
      by : (b : Bool) → IfSome (option_and_then (options_after words) (with_value word value g)) P
          → IfSome (option_and_then (options_after (value ∷ words)) (with_word word g)) P
          → IfSome (cond b (option_and_then (options_after words) (with_value word value g)) (option_and_then (options_after (value ∷ words)) (with_word word g))) P
      by true x y = x
      by false x y = y

pub refused_by : (o : Option Given) → IfSome o (λ g. options_by g ≡ None) → option_and_then options_by o ≡ None
refused_by None h = refl
refused_by (Some g) h = h

weaker : (P Q : Given → Type 0) (o : Option Given) → ((g : Given) → P g → Q g) → IfSome o P → IfSome o Q
weaker P Q None f h = tt
weaker P Q (Some g) f h = f g h

pub bad_turns : (words : List Text) (g : Given) (t : Text) → number_of t ≡ None → g.turns ≡ Some t → option_and_then options_by (options_after words g) ≡ None
bad_turns words g t bad is = refused_by _ (weaker (λ k. k.turns ≡ Some t) _ (options_after words g) (λ k same. rw (same, bad) refl)
    (words_keep (λ k. k.turns ≡ Some t) (λ k same. same) (λ k same. same)
    (λ k v none same. let some : false ≡ true = ap is_none (sym same) ∙ none in cc) (λ k v none same. same) words g is))

then_none : {A B : Type 0} (f : A → Option B) (o : Option A) → ((a : A) → f a ≡ None) → option_and_then f o ≡ None
then_none f None h = refl
then_none f (Some a) h = h a

no_objects : (g : Given) (t : Text) → number_of t ≡ None → g.objects ≡ Some t → options_by g ≡ None
no_objects g t bad same =
    then_none (λ turns. option_map (options_with g turns) (number_within 0 4032 4032 g.objects)) (number_within 1 1000000 100000 g.turns) (λ n. rw (same, bad) refl)

pub bad_objects : (words : List Text) (g : Given) (t : Text) → number_of t ≡ None → g.objects ≡ Some t → option_and_then options_by (options_after words g) ≡ None
bad_objects words g t bad is = refused_by _ (weaker (λ k. k.objects ≡ Some t) _ (options_after words g) (λ k same. no_objects k t bad same)
    (words_keep (λ k. k.objects ≡ Some t) (λ k same. same) (λ k same. same) (λ k v none same. same)
    (λ k v none same. let some : false ≡ true = ap is_none (sym same) ∙ none in cc) words g is))

pub none_first : (o : Option Given) → o ≡ None → (f : Given → Option Given) → option_and_then options_by (option_and_then f o) ≡ None
none_first o e f = ap (λ x. option_and_then options_by (option_and_then f x)) e

-- a value that writes no number
pub bad_value : (name v : Text) (words : List Text) (g : Given) → number_of v ≡ None
    → option_and_then options_by (option_and_then (options_after words) (with_value name v g)) ≡ None
bad_value name v words g bad = by (bytes_eq name (codes "--turns") && is_none g.turns) (bytes_eq name (codes "--objects") && is_none g.objects)
  where
    by : (a b : Bool) → option_and_then options_by (option_and_then (options_after words)
        (cond a (Some (record g { turns = Some v })) (cond b (Some (record g { objects = Some v })) None))) ≡ None
    by true b = bad_turns words (record g { turns = Some v }) v bad refl
    by false true = bad_objects words (record g { objects = Some v }) v bad refl
    by false false = refl

-- the word `--` is never among the words of options
pub end_mark : (words : List Text) (g : Given) → list_any is_end_mark words ≡ true → option_and_then options_by (options_after words g) ≡ None
end_mark [] g some = cc
end_mark (word ∷ []) g some = by (is_end_mark word) refl some
  where
    by : (b : Bool) → is_end_mark word ≡ b → (b || false) ≡ true → option_and_then options_by (with_word word g) ≡ None
    by true e s = ap (λ w. option_and_then options_by (with_word w g)) ((bytes_eq-Decides word (codes "--")).0 e)
    by false e s = cc
end_mark (word ∷ value ∷ words) g some =
    by (λ k s. end_mark words k s) (λ k s. end_mark (value ∷ words) k s) (takes_next_word word) (is_end_mark word) (is_end_mark value) refl refl refl some
  where
    goes : (o : Option Given) (ws : List Text) → ((k : Given) → option_and_then options_by (options_after ws k) ≡ None)
        → option_and_then options_by (option_and_then (options_after ws) o) ≡ None
    goes None ws h = refl
    goes (Some k) ws h = h k

    by : ((k : Given) → list_any is_end_mark words ≡ true → option_and_then options_by (options_after words k) ≡ None)
        → ((k : Given) → list_any is_end_mark (value ∷ words) ≡ true → option_and_then options_by (options_after (value ∷ words) k) ≡ None)
        → (t a b : Bool) → takes_next_word word ≡ t → is_end_mark word ≡ a → is_end_mark value ≡ b → (a || (b || list_any is_end_mark words)) ≡ true
        → option_and_then options_by (cond t (option_and_then (options_after words) (with_value word value g)) (option_and_then (options_after (value ∷ words)) (with_word word g))) ≡ None
    by after here true true b takes e f s =
        let none : takes_next_word (codes "--") ≡ true = ap takes_next_word (sym ((bytes_eq-Decides word (codes "--")).0 e)) ∙ takes in
        cc
    by after here true false true takes e f s = bad_value word value words g (ap number_of ((bytes_eq-Decides value (codes "--")).0 f))
    by after here true false false takes e f s = goes (with_value word value g) words (λ k. after k s)
    by after here false true b takes e f s = none_first (with_word word g) (ap (λ w. with_word w g) ((bytes_eq-Decides word (codes "--")).0 e)) (options_after (value ∷ words))
    by after here false false b takes e f s = goes (with_word word g) (value ∷ words) (λ k. here k (ap (λ x. x || list_any is_end_mark words) f ∙ s))
