use Rattle.std.proofs.Common.{◌≡◌, [], ◌∷◌, ◌++◌, ℕ, List, true, false, length, refl, sym, ap, subst, ◌∙◌, string_bytes}
use Rattle.std.specs.HashMap.{get_by_text}
use Rattle.std.specs.Map.{lookup}
use Rattle.std.specs.Str.{bytes_eq}
use Rattle.std.proofs.lemmas.Map.Text.{hash_map_updates_text}
use Rattle.std.proofs.lemmas.Result.{IfOk-at_ok}
use Rattle.script_names.specs.declared.name_set.NameSet.TheInside.{Inside}
use Rattle.script_names.specs.NamePlaces.{FindsEach}
use Rattle.script_names.specs.Names.{is_in}
use Rattle.script_names.proofs.Places.{Serves, serves_new, serves_old}
use Rattle.script_names.proofs.name_set.NameSet.push.Goals as goal
use Rattle.script_names.proofs.name_set.NameSet.push.Goals.{then-not-contains+in_ok-text+in_ok-insert, else-not-contains}

abbrev SetServes : Inside → List ℕ → Type 0
SetServes set n = Serves (get_by_text set.places) set.names.items n

pub invariant_of-self : goal.invariant_of-self
invariant_of-self c =
    subst (λ es. FindsEach (λ bs. lookup (λ k. bytes_eq bs (string_bytes k)) es) c.self.inside.names.items) (sym c.in_err-insert.ensures.err) c.self.invariant

pub invariant_of-self-in_err-copy : goal.invariant_of-self-in_err-copy
invariant_of-self-in_err-copy c =
    let n = c.args.name.now in
    let serves : SetServes c.if-not-contains.self-inside n = elim c.if-not-contains.branch [
      | then-not-contains+in_ok-text+in_ok-insert w ↦
          let text_is = IfOk-at_ok (λ t. string_bytes t ≡ w.as_str.result.now) w.in_ok-text.was w.from_str.ensures.ok ∙ w.as_str.ensures.bytes in
          let puts = hash_map_updates_text (string_bytes w.in_ok-text.text) c.self.inside.places w.insert.new.self _ w.in_ok-insert.ensures.updates in
          let new : is_in c.self.inside.names.items n ≡ false = cc (w.if-not-contains.true, c.contains.ensures, c.self.view_is) in
          subst (λ s. SetServes s n) (sym w.self-inside-is) (serves_new (get_by_text c.self.inside.places) (get_by_text w.insert.new.self) c.self.inside.names.items n
          (string_bytes w.in_ok-text.text) w.len.result puts text_is (w.len.ensures ∙ c.self.inside.names.ok.0) w.as_str.ensures.proper.0 new c.self.invariant)
      | else-not-contains w ↦
          let known : is_in c.self.inside.names.items n ≡ true = cc (w.if-not-contains.false, c.contains.ensures, c.self.view_is) in
          subst (λ s. SetServes s n) (sym w.self-inside-is) (serves_old (get_by_text c.self.inside.places) c.self.inside.names.items n known c.self.invariant)
    ] in
    serves.0

pub invariant_of-self-in_err-push : goal.invariant_of-self-in_err-push
invariant_of-self-in_err-push c =
    let n = c.args.name.now in
    let serves : SetServes c.if-not-contains.self-inside n = elim c.if-not-contains.branch [
      | then-not-contains+in_ok-text+in_ok-insert w ↦
          let text_is = IfOk-at_ok (λ t. string_bytes t ≡ w.as_str.result.now) w.in_ok-text.was w.from_str.ensures.ok ∙ w.as_str.ensures.bytes in
          let puts = hash_map_updates_text (string_bytes w.in_ok-text.text) c.self.inside.places w.insert.new.self _ w.in_ok-insert.ensures.updates in
          let new : is_in c.self.inside.names.items n ≡ false = cc (w.if-not-contains.true, c.contains.ensures, c.self.view_is) in
          subst (λ s. SetServes s n) (sym w.self-inside-is) (serves_new (get_by_text c.self.inside.places) (get_by_text w.insert.new.self) c.self.inside.names.items n
          (string_bytes w.in_ok-text.text) w.len.result puts text_is (w.len.ensures ∙ c.self.inside.names.ok.0) w.as_str.ensures.proper.0 new c.self.invariant)
      | else-not-contains w ↦
          let known : is_in c.self.inside.names.items n ≡ true = cc (w.if-not-contains.false, c.contains.ensures, c.self.view_is) in
          subst (λ s. SetServes s n) (sym w.self-inside-is) (serves_old (get_by_text c.self.inside.places) c.self.inside.names.items n known c.self.invariant)
    ] in
    subst (λ names. FindsEach (get_by_text c.if-not-contains.self-inside.places) names) (sym c.in_err-push.ensures.items) serves.0

pub invariant_of-self-2 : goal.invariant_of-self-2
invariant_of-self-2 c =
    let n = c.args.name.now in
    let serves : SetServes c.if-not-contains.self-inside n = elim c.if-not-contains.branch [
      | then-not-contains+in_ok-text+in_ok-insert w ↦
          let text_is = IfOk-at_ok (λ t. string_bytes t ≡ w.as_str.result.now) w.in_ok-text.was w.from_str.ensures.ok ∙ w.as_str.ensures.bytes in
          let puts = hash_map_updates_text (string_bytes w.in_ok-text.text) c.self.inside.places w.insert.new.self _ w.in_ok-insert.ensures.updates in
          let new : is_in c.self.inside.names.items n ≡ false = cc (w.if-not-contains.true, c.contains.ensures, c.self.view_is) in
          subst (λ s. SetServes s n) (sym w.self-inside-is) (serves_new (get_by_text c.self.inside.places) (get_by_text w.insert.new.self) c.self.inside.names.items n
          (string_bytes w.in_ok-text.text) w.len.result puts text_is (w.len.ensures ∙ c.self.inside.names.ok.0) w.as_str.ensures.proper.0 new c.self.invariant)
      | else-not-contains w ↦
          let known : is_in c.self.inside.names.items n ≡ true = cc (w.if-not-contains.false, c.contains.ensures, c.self.view_is) in
          subst (λ s. SetServes s n) (sym w.self-inside-is) (serves_old (get_by_text c.self.inside.places) c.self.inside.names.items n known c.self.invariant)
    ] in
    let copied = IfOk-at_ok (λ t. t ≡ n) c.in_ok-copy.was c.copy.ensures in
    subst (λ names. FindsEach (get_by_text c.if-not-contains.self-inside.places) names)
    (sym (c.in_ok-push.ensures.items ∙ ap (λ t. c.if-not-contains.self-inside.names.items ++ t ∷ []) copied)) serves.1
