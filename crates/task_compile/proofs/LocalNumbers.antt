-- Locals by their names and by their numbers.
use Rattle.std.proofs.Common.{◌≡◌, ℕ, zero, suc, ◌+◌, ◌<◌, ◌≤◌, Bool, true, false, cond, not, if◌then◌else◌, List, [], ◌∷◌, ◌++◌, length, get_or, take, Option, None, Some, refl, sym, ap, ◌∙◌, arith}
use Rattle.std.specs.Prelude.{nat_lt}
use Rattle.std.specs.List.{position, position_or_len}
use Rattle.std.specs.Option.{option_map}
use Rattle.std.specs.Str.{bytes_eq}
use Rattle.std.proofs.lemmas.Bool.Decides.{nat_tests}
use Rattle.dyn_value.specs.declared.value.Value.{Value}
use Rattle.dyn_value.specs.declared.value.Value.TheVariants as value
use Rattle.task_code.specs.Codes.{put}
use Rattle.task_compile.specs.States.{Names, Local, locals_of, local_value, with_local}

-- the place of a name
abbrev pub place : List ℕ → Names → Option ℕ
place name [] = None
place name (n ∷ ns) = if bytes_eq name n then Some 0 else option_map suc (place name ns)

lt_suc : (n len : ℕ) → nat_lt (1 + n) (suc len) ≡ nat_lt n len
lt_suc n len = grind (arith, nat_tests)

lt_zero : (len : ℕ) → nat_lt 0 (suc len) ≡ true
lt_zero len = grind (arith, nat_tests)

found_later : (b : Bool) (n : ℕ) → cond b (Some (1 + n)) None ≡ option_map suc (cond b (Some n) None)
found_later true n = let e : 1 + n ≡ suc n = omega arith in ap Some e
found_later false n = refl

first_place : (b : Bool) (n len : ℕ) → cond (nat_lt (cond (not b) (1 + n) 0) (suc len)) (Some (cond (not b) (1 + n) 0)) None ≡ (if b then Some 0 else option_map suc (cond (nat_lt n len) (Some n) None))
first_place true n len = ap (λ z. cond z (Some 0) None) (lt_zero len)
first_place false n len = ap (λ z. cond z (Some (1 + n)) None) (lt_suc n len) ∙ found_later (nat_lt n len) n

pub place_is : (name : List ℕ) (scope : Names) → position (bytes_eq name) scope ≡ place name scope
place_is name [] = refl
place_is name (n ∷ ns) =
    first_place (bytes_eq name n) (position_or_len (bytes_eq name) ns) (length ns)
    ∙ ap (λ z. if bytes_eq name n then Some 0 else option_map suc z) (place_is name ns)

abbrev value_at : List Value → ℕ → Value
value_at values k = get_or values k value.Nil

local_by : (b : Bool) (o r : Option ℕ) (v : Value) (values : List Value) (found : Option Value) → found ≡ option_map (value_at values) o
    → (if b then Some v else found) ≡ option_map (value_at (v ∷ values)) (if b then Some 0 else option_map suc o)
local_by true o r v values found h = refl
local_by false None r v values found h = h
local_by false (Some k) r v values found h = h

local_without : (b : Bool) (o : Option ℕ) (found : Option Value) → found ≡ option_map (value_at []) o
    → (if b then Some value.Nil else found) ≡ option_map (value_at []) (if b then Some 0 else option_map suc o)
local_without true o found h = refl
local_without false None found h = h
local_without false (Some k) found h = h

-- the value of a local is the one at its place
local_placed : (name : List ℕ) (scope : Names) (values : List Value) → local_value name (locals_of scope values) ≡ option_map (value_at values) (place name scope)
local_placed name [] values = refl
local_placed name (n ∷ ns) [] = local_without (bytes_eq name n) (place name ns) (local_value name (locals_of ns [])) (local_placed name ns [])
local_placed name (n ∷ ns) (v ∷ vs) = local_by (bytes_eq name n) (place name ns) None v vs (local_value name (locals_of ns vs)) (local_placed name ns vs)

pub local_at : (name : List ℕ) (scope : Names) (values : List Value) → local_value name (locals_of scope values) ≡ option_map (value_at values) (position (bytes_eq name) scope)
local_at name scope values = local_placed name scope values ∙ ap (option_map (value_at values)) (sym (place_is name scope))

-- a local is assigned at its place
abbrev put_placed : Option ℕ → Value → List Value → List Value
put_placed None v values = values
put_placed (Some k) v values = put k v values

assigns_later : (o : Option ℕ) (n : List ℕ) (ns : Names) (v w : Value) (ws : List Value) (after : List Local) → after ≡ locals_of ns (put_placed o v ws)
    → record { name = n; value = w } ∷ after ≡ locals_of (n ∷ ns) (put_placed (option_map suc o) v (w ∷ ws))
assigns_later None n ns v w ws after h = ap (λ z. record { name = n; value = w } ∷ z) h
assigns_later (Some k) n ns v w ws after h = ap (λ z. record { name = n; value = w } ∷ z) h

assigns_past : (o : Option ℕ) (n : List ℕ) (ns : Names) (v : Value) (after : List Local) → after ≡ locals_of ns (put_placed o v [])
    → record { name = n; value = value.Nil } ∷ after ≡ locals_of (n ∷ ns) (put_placed (option_map suc o) v [])
assigns_past None n ns v after h = ap (λ z. record { name = n; value = value.Nil } ∷ z) h
assigns_past (Some k) n ns v after h = ap (λ z. record { name = n; value = value.Nil } ∷ z) h

assigns_by : (b : Bool) (o : Option ℕ) (n : List ℕ) (ns : Names) (v w : Value) (ws : List Value) (after : List Local) → after ≡ locals_of ns (put_placed o v ws)
    → (if b then record { name = n; value = v } ∷ locals_of ns ws else record { name = n; value = w } ∷ after)
    ≡ locals_of (n ∷ ns) (put_placed (if b then Some 0 else option_map suc o) v (w ∷ ws))
assigns_by true o n ns v w ws after h = refl
assigns_by false o n ns v w ws after h = assigns_later o n ns v w ws after h

assigns_without : (b : Bool) (o : Option ℕ) (n : List ℕ) (ns : Names) (v : Value) (after : List Local) → after ≡ locals_of ns (put_placed o v [])
    → (if b then record { name = n; value = v } ∷ locals_of ns [] else record { name = n; value = value.Nil } ∷ after)
    ≡ locals_of (n ∷ ns) (put_placed (if b then Some 0 else option_map suc o) v [])
assigns_without true o n ns v after h = refl
assigns_without false o n ns v after h = assigns_past o n ns v after h

assigns_placed : (name : List ℕ) (v : Value) (scope : Names) (values : List Value) → with_local name v (locals_of scope values) ≡ locals_of scope (put_placed (place name scope) v values)
assigns_placed name v [] values = refl
assigns_placed name v (n ∷ ns) [] = assigns_without (bytes_eq name n) (place name ns) n ns v (with_local name v (locals_of ns [])) (assigns_placed name v ns [])
assigns_placed name v (n ∷ ns) (w ∷ ws) = assigns_by (bytes_eq name n) (place name ns) n ns v w ws (with_local name v (locals_of ns ws)) (assigns_placed name v ns ws)

-- a local that is there is assigned at its place
pub assigns_at : (name : List ℕ) (v : Value) (k : ℕ) (scope : Names) (values : List Value) → position (bytes_eq name) scope ≡ Some k → with_local name v (locals_of scope values) ≡ locals_of scope (put k v values)
assigns_at name v k scope values h = assigns_placed name v scope values ∙ ap (λ z. locals_of scope (put_placed z v values)) (sym (place_is name scope) ∙ h)

-- and no local is, where none has the name
pub assigns_none : (name : List ℕ) (v : Value) (scope : Names) (values : List Value) → position (bytes_eq name) scope ≡ None → with_local name v (locals_of scope values) ≡ locals_of scope values
assigns_none name v scope values h = assigns_placed name v scope values ∙ ap (λ z. locals_of scope (put_placed z v values)) (sym (place_is name scope) ∙ h)

-- a local that is declared has the next number
pub declares_next : (name : List ℕ) (v : Value) (scope : Names) (values : List Value) → locals_of scope values ++ record { name = name; value = v } ∷ [] ≡ locals_of (scope ++ name ∷ []) (put (length scope) v values)
declares_next name v [] [] = refl
declares_next name v [] (w ∷ ws) = refl
declares_next name v (n ∷ ns) [] = ap (λ z. record { name = n; value = value.Nil } ∷ z) (declares_next name v ns [])
declares_next name v (n ∷ ns) (w ∷ ws) = ap (λ z. record { name = n; value = w } ∷ z) (declares_next name v ns ws)

pub length-locals_of : (scope : Names) (values : List Value) → length (locals_of scope values) ≡ length scope
length-locals_of [] values = refl
length-locals_of (n ∷ ns) [] = ap suc (length-locals_of ns [])
length-locals_of (n ∷ ns) (v ∷ vs) = ap suc (length-locals_of ns vs)

-- the locals of an outer block are those that come first
pub cut_scope : (scope more : Names) (values : List Value) → take (length scope) (locals_of (scope ++ more) values) ≡ locals_of scope values
cut_scope [] more values = refl
cut_scope (n ∷ ns) more [] = ap (λ z. record { name = n; value = value.Nil } ∷ z) (cut_scope ns more [])
cut_scope (n ∷ ns) more (v ∷ vs) = ap (λ z. record { name = n; value = v } ∷ z) (cut_scope ns more vs)
