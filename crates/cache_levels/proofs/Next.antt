-- The words of sites and the known rules tell the level of the next operation, and stay what the operations leave.
use Rattle.std.proofs.Common.{Contains, ◌≡◌, ◌≢◌, ℕ, suc, ◌<◌, ◌≤◌, Bool, true, false, cond, List, ◌∷◌, ◌++◌, length, take, replicate, refl, sym, ap, ◌∙◌, subst, arith, All, Option, Some, None, eqb, eq-eqb, ne_eqb}
use Rattle.std.specs.List.{AllZip}
use Rattle.std.proofs.lemmas.List.{take-take}
use Rattle.std.proofs.lemmas.List.Elements.{All-contains}
use mathlib.Core.Logic.{dite}
use native.Mathlib.Decide.{ℕ_discrete}
use Rattle.binder_cache.specs.Known.{KnownRule}
use Rattle.call_site.specs.declared.choice.Level.{Level}
use Rattle.call_site.specs.declared.choice.Level.TheVariants.{Target, Site, Binder, Bind}
use Rattle.call_site.specs.Chosen.{PassedOver, TriesInOrder}
use Rattle.call_site.specs.Passes.{enters}
use Rattle.call_site.specs.Settled.{Settles}
use Rattle.cache_levels.specs.Levels.{Asked, TellsEqual, is_among, last_at, with_new, met_by, level_by, entered_at, level_after, MeetsFew}
use Rattle.cache_levels.specs.Memories.{Memory, AreApart, Fits, NamesShape, TargetHolds, RingHolds, RulesHold, Remembers, Picks, Binds, Answers}
use Rattle.cache_levels.proofs.Members.{contains_first, zip_weaker}
use Rattle.cache_levels.proofs.Hits.{level_is, over_shape, none_shape, target_hit, target_miss, ring_hit, ring_miss, met_hit, met_miss, tests_it}
use Rattle.cache_levels.proofs.Moves.{names_move, names_more, names_own, rules_move, rules_more, used, Used}

-- the next operation, of the shape h, at a site of the list
module _ {R A H : Type 0} (Tests : ℕ → R → H → Type 0) (same : H → H → Bool) (is : TellsEqual same) (binder_of : ℕ → ℕ) (sites : ℕ) (asked : List (Asked H))
    (old new : Memory R A) (mem : Remembers Tests same binder_of sites asked old) (Passes : R → Type 0) (h : H) (site : ℕ) (near : site < sites) (fits : Fits (Tests (binder_of site)) Passes h) where
  -- for which shape a rule of the site's binder is
  abbrev T : R → H → Type 0
  T = Tests (binder_of site)

  abbrev next : Asked H
  next = record { site = site; shape = h }

  abbrev binder : ℕ
  binder = binder_of site

  abbrev last : Option H
  last = last_at asked site

  abbrev entered : List H
  entered = entered_at same binder_of asked site

  abbrev met : List H
  met = met_by same binder_of asked binder

  abbrev before : List (KnownRule R A)
  before = old.known binder

  choice_level : (level : Level) (index : ℕ) → TriesInOrder Passes (old.target site) (old.ring site) before (Some level) index
      → Used Passes before (new.known binder) index → level_after same binder_of asked next ≡ level
  choice_level Target index hit u = level_is same h last entered met true (is_among same h (take 10 entered)) (is_among same h met) (target_hit T same is Passes h fits before (old.target site) index last (mem.rules binder).named (mem.targets site near) hit) refl refl
  choice_level Site index t u = level_is same h last entered met false true (is_among same h met) (target_miss T same is Passes h fits before (old.target site) last (λ s n. over_shape T same is Passes h fits before (old.target site) s n t.0) (mem.targets site near))
      (ring_hit T same is Passes h fits before (old.ring site) entered index (mem.rules binder).named (mem.rings site near) t.1) refl
  choice_level Binder index t u = level_is same h last entered met false false true (target_miss T same is Passes h fits before (old.target site) last (λ s n. over_shape T same is Passes h fits before (old.target site) s n t.0) (mem.targets site near))
      (ring_miss T same is Passes h fits before (old.ring site) entered (λ w c s n. over_shape T same is Passes h fits before w s n (All-contains (PassedOver Passes before) (old.ring site) w t.1 c)) (mem.rings site near))
      (met_hit T same is Passes h fits before met (mem.rules binder) u.rule (u.back u.rule u.here) u.passes)
  choice_level Bind index t u = absurd t

  -- the level of an operation where no known rule passes
  pub none_level : All (λ k. ¬ Passes k.rule) before → level_after same binder_of asked next ≡ Bind
  none_level none = level_is same h last entered met false false false (target_miss T same is Passes h fits before (old.target site) last (λ s n. none_shape T same is Passes h fits before (old.target site) s n none) (mem.targets site near))
      (ring_miss T same is Passes h fits before (old.ring site) entered (λ w _ s n. none_shape T same is Passes h fits before w s n none) (mem.rings site near)) (met_miss T same is Passes h fits before met (mem.rules binder) none)

  picked_level : (word : ℕ) (level : Level) → Picks Passes (old.target site) (old.ring site) before (new.known binder) level word
      → level_after same binder_of asked next ≡ level
  picked_level word level c = choice_level level c.index c.tries (used Passes before (new.known binder) level c.index c.chooses)

  -- the level at which an operation was answered is that of the list
  pub answered_level : (word : ℕ) (level : Level)
      → Answers T Passes h (old.target site) (old.ring site) before (new.known binder) word level
      → level_after same binder_of asked next ≡ level
  answered_level word Target a = picked_level word Target a
  answered_level word Site a = picked_level word Site a
  answered_level word Binder a = picked_level word Binder a
  answered_level word Bind a = none_level a.none

  here : eqb site site ≡ true
  here = eq-eqb site site refl

  last_here : last_at (next ∷ asked) site ≡ Some h
  last_here = ap (λ (c : Bool). cond c (Some h) last) here

  entered_here : (level : Level) → level_after same binder_of asked next ≡ level
      → entered_at same binder_of (next ∷ asked) site ≡ cond (enters level) (h ∷ entered) entered
  entered_here level e = λ i. cond (here i) (cond (enters (e i)) (h ∷ entered) entered) entered

  met_here : (b : Bool) → is_among same h met ≡ b → met_by same binder_of (next ∷ asked) binder ≡ with_new b h met
  met_here b e = λ i. cond (eq-eqb binder binder refl i) (with_new (e i) h met) met

  ring_on : (known : List (KnownRule R A)) (word : ℕ) (bo : Bool) → ((w : ℕ) (s : H) → NamesShape T before w s → NamesShape T known w s)
      → NamesShape T known word h
      → RingHolds T known (cond bo (word ∷ take 9 (old.ring site)) (old.ring site)) (cond bo (h ∷ entered) entered)
  ring_on known word true carry own = let r = mem.rings site near in record {
    words = word ∷ r.words;
    ring_is = ap (λ (z : List ℕ). word ∷ z) (ap (take 9) r.ring_is ∙ take-take 9 10 (r.words ++ replicate 10 0) (omega arith));
    named = (own, zip_weaker (NamesShape T before) (NamesShape T known) carry r.words entered r.named);
  }
  ring_on known word false carry own = let r = mem.rings site near in record { words = r.words; ring_is = r.ring_is; named = zip_weaker (NamesShape T before) (NamesShape T known) carry r.words entered r.named }

  -- the other binders know what they knew
  abbrev Others : Type 0
  Others = (other : ℕ) → other ≢ binder → new.known other ≡ old.known other

  -- of each binder, a word names the shape that it named
  abbrev Carries : Type 0
  Carries = (b w : ℕ) (s : H) → NamesShape (Tests b) (old.known b) w s → NamesShape (Tests b) (new.known b) w s

  carries : ((w : ℕ) (s : H) → NamesShape T before w s → NamesShape T (new.known binder) w s) → Others → Carries
  carries carry others b w s n = dite (ℕ_discrete b binder)
      (λ e. subst (λ (z : ℕ). NamesShape (Tests z) (new.known z) w s) (sym e) (carry w s (subst (λ (z : ℕ). NamesShape (Tests z) (old.known z) w s) e n)))
      (λ ne. subst (λ (z : List (KnownRule R A)). NamesShape (Tests b) z w s) (sym (others b ne)) n)

  target_on : (b word : ℕ) (last : Option H) → Carries → TargetHolds (Tests b) (old.known b) word last → TargetHolds (Tests b) (new.known b) word last
  target_on b word None carry t = t
  target_on b word (Some s) carry t = carry b word s t

  abbrev Settled : ℕ → Level → Type 0
  Settled word level = Settles sites site word level old.target new.target old.ring new.ring

  -- the targets, the rings and the rules after the operation
  targets_on : (word : ℕ) (level : Level) → Carries → NamesShape T (new.known binder) word h → Settled word level → (s : ℕ) → s < sites
      → TargetHolds (Tests (binder_of s)) (new.known (binder_of s)) (new.target s) (last_at (next ∷ asked) s)
  targets_on word level carry own settles s l = dite (ℕ_discrete s site)
      (λ e. subst (λ (z : ℕ). TargetHolds (Tests (binder_of z)) (new.known (binder_of z)) (new.target z) (last_at (next ∷ asked) z)) (sym e)
      (subst (λ (z : Option H). TargetHolds T (new.known binder) (new.target site) z) (sym last_here) (subst (λ (w : ℕ). NamesShape T (new.known binder) w h) (sym settles.target_is) own)))
      (λ ne. subst (λ (c : Bool). TargetHolds (Tests (binder_of s)) (new.known (binder_of s)) (new.target s) (cond c (Some h) (last_at asked s))) (sym (ne_eqb site s (λ q. ne (sym q))))
      (subst (λ (w : ℕ). TargetHolds (Tests (binder_of s)) (new.known (binder_of s)) w (last_at asked s)) (sym (settles.others s l ne).0) (target_on (binder_of s) (old.target s) (last_at asked s) carry (mem.targets s l))))

  entered_other : (s : ℕ) → s ≢ site → entered_at same binder_of (next ∷ asked) s ≡ entered_at same binder_of asked s
  entered_other s ne = let not : eqb site s ≡ false = ne_eqb site s (λ q. ne (sym q)) in let stays = entered_at same binder_of asked s in
      λ i. cond (not i) (cond (enters (level_by same (last_at asked s) stays (met_by same binder_of asked (binder_of s)) h)) (h ∷ stays) stays) stays

  rings_on : (word : ℕ) (level : Level) → level_after same binder_of asked next ≡ level → Carries → NamesShape T (new.known binder) word h
      → Settled word level → (s : ℕ) → s < sites
      → RingHolds (Tests (binder_of s)) (new.known (binder_of s)) (new.ring s) (entered_at same binder_of (next ∷ asked) s)
  rings_on word level level_is carry own settles s l = dite (ℕ_discrete s site)
      (λ e. subst (λ (z : ℕ). RingHolds (Tests (binder_of z)) (new.known (binder_of z)) (new.ring z) (entered_at same binder_of (next ∷ asked) z)) (sym e)
      (subst (λ (z : List ℕ × List H). RingHolds T (new.known binder) z.0 z.1) (λ i. (sym settles.ring_is i, sym (entered_here level level_is) i)) (ring_on (new.known binder) word (enters level) (carry binder) own)))
      (λ ne. let r = mem.rings s l in let stays = entered_at same binder_of asked s in record {
        words = r.words;
        ring_is = (settles.others s l ne).1 ∙ r.ring_is;
        named = subst (λ (z : List H). AllZip (NamesShape (Tests (binder_of s)) (new.known (binder_of s))) r.words z) (sym (entered_other s ne))
            (zip_weaker (NamesShape (Tests (binder_of s)) (old.known (binder_of s))) (NamesShape (Tests (binder_of s)) (new.known (binder_of s))) (carry (binder_of s)) r.words stays r.named);
      })

  rules_on : RulesHold T (new.known binder) (met_by same binder_of (next ∷ asked) binder) → Others → (b : ℕ)
      → RulesHold (Tests b) (new.known b) (met_by same binder_of (next ∷ asked) b)
  rules_on rules others b = let met = met_by same binder_of asked b in dite (ℕ_discrete b binder)
      (λ e. subst (λ (z : ℕ). RulesHold (Tests z) (new.known z) (met_by same binder_of (next ∷ asked) z)) (sym e) rules)
      (λ ne. subst (λ (z : List (KnownRule R A)). RulesHold (Tests b) z (met_by same binder_of (next ∷ asked) b)) (sym (others b ne))
      (subst (λ (c : Bool). RulesHold (Tests b) (old.known b) (cond c (with_new (is_among same h met) h met) met)) (sym (ne_eqb binder b (λ q. ne (sym q)))) (mem.rules b)))

  keeps : (word : ℕ) (level : Level) → level_after same binder_of asked next ≡ level → ((w : ℕ) (s : H) → NamesShape T before w s → NamesShape T (new.known binder) w s)
      → NamesShape T (new.known binder) word h
      → RulesHold T (new.known binder) (met_by same binder_of (next ∷ asked) binder) → Settled word level → Others → Remembers Tests same binder_of sites (next ∷ asked) new
  keeps word level level_is carry own rules settles others = let c = carries carry others in
      record { targets = targets_on word level c own settles; rings = rings_on word level level_is c own settles; rules = rules_on rules others }

  picked_keeps : (word : ℕ) (level : Level) → Picks Passes (old.target site) (old.ring site) before (new.known binder) level word
      → Settled word level → Others
      → Remembers Tests same binder_of sites (next ∷ asked) new
  picked_keeps word level c settles others = let after : List (KnownRule R A) = new.known binder in let u = used Passes before after level c.index c.chooses in let rules = mem.rules binder in
      let tests : T u.rule.rule h = tests_it T same is Passes h fits before met rules u.rule (u.back u.rule u.here) u.passes in
      let word_is : word ≡ u.rule.word = c.word_is u.rule u.here u.at in
      keeps word level (picked_level word level c) (λ w s n. names_move T before after w s u.to u.back n) (subst (λ (w : ℕ). NamesShape T after w h) (sym word_is) (names_own T after u.rule h c.apart u.here tests))
      (subst (RulesHold T after) (sym (met_here true (met_hit T same is Passes h fits before met rules u.rule (u.back u.rule u.here) u.passes))) (rules_move T before after met u.to u.back u.counted c.apart rules)) settles others

  bound_keeps : (word : ℕ) → Binds T Passes h before (new.known binder) word → Settled word Bind → Others
      → Remembers Tests same binder_of sites (next ∷ asked) new
  bound_keeps word b settles others = let k : KnownRule R A = record { index = b.index; word = b.adds.word; rule = b.rule; note = b.note } in let rules = mem.rules binder in let grown : new.known binder ≡ k ∷ before = b.adds.new_is in
      let apart = subst (λ (l : List (KnownRule R A)). AreApart l) grown b.apart in
      let word_is : word ≡ k.word = b.word_is k (subst (λ (l : List (KnownRule R A)). Contains l k) (sym grown) (contains_first k before)) refl in
      keeps word Bind (none_level b.none) (λ w s n. subst (λ (l : List (KnownRule R A)). NamesShape T l w s) (sym grown) (names_more T before k w s apart n))
      (subst (λ (l : List (KnownRule R A)). NamesShape T l word h) (sym grown) (subst (λ (w : ℕ). NamesShape T (k ∷ before) w h) (sym word_is) (names_own T (k ∷ before) k h apart (contains_first k before) b.tests)))
      (subst (λ (z : List (KnownRule R A) × List H). RulesHold T z.0 z.1) (λ i. (sym grown i, sym (met_here false (met_miss T same is Passes h fits before met rules b.none)) i)) (rules_more T h before k met b.tests (λ z. b.word_named (word_is ∙ z)) apart rules)) settles others

  -- what a pass keeps after an operation was answered and its site settled is what one operation more leaves
  pub answered_keeps : (word : ℕ) (level : Level)
      → Answers T Passes h (old.target site) (old.ring site) before (new.known binder) word level → Settled word level → Others
      → Remembers Tests same binder_of sites (next ∷ asked) new
  answered_keeps word Target a settles others = picked_keeps word Target a settles others
  answered_keeps word Site a settles others = picked_keeps word Site a settles others
  answered_keeps word Binder a settles others = picked_keeps word Binder a settles others
  answered_keeps word Bind a settles others = bound_keeps word a settles others

  -- where no known rule passes there is room for one more, unless this operation brings the binder's 65th shape
  pub room : All (λ k. ¬ Passes k.rule) before → MeetsFew same binder_of (next ∷ asked) → length before < 64
  room none few = let n : suc (length met) ≤ 64 = subst (λ (l : List H). length l ≤ 64) (met_here false (met_miss T same is Passes h fits before met (mem.rules binder) none)) (few binder) in let c = (mem.rules binder).counted in omega arith
