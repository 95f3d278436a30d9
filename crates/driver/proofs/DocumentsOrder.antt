-- The order of the entries of a document has those that are cited, and no others.
use Rattle.std.proofs.Common.{◌≡◌, ℕ, Bool, true, false, cond, ◌||◌, nat_eq, List, [], ◌∷◌, ◌++◌, refl, sym, ap, ◌∙◌, eqb-true, Option, Some, None}
use Rattle.std.specs.Prelude.{filter}
use Rattle.std.specs.Cmp.{nat_eq_equiv}
use Rattle.std.specs.List.{list_any}
use Rattle.std.proofs.lemmas.List.Folds.{list_any-append}
use Rattle.rendering_style.specs.Styles.{Bibliography}
use Rattle.driver_requests.specs.Order.{is_index_in, ordered}
use Rattle.driver_requests.proofs.Once.{once-any}

has_step : (t r x : Bool) → (t ≡ true → x ≡ true) → (r || x) ≡ x → ((t || r) || x) ≡ x
has_step true r x h ih = sym (h refl)
has_step false r x h ih = ih

wanted_step : (ps ws : List ℕ) (w e : ℕ) (b : Bool) → is_index_in ps w ≡ b → (list_any (nat_eq e) (filter (is_index_in ps) ws) || is_index_in ps e) ≡ is_index_in ps e
    → (list_any (nat_eq e) (cond b (w ∷ filter (is_index_in ps) ws) (filter (is_index_in ps) ws)) || is_index_in ps e) ≡ is_index_in ps e
wanted_step ps ws w e true h ih = has_step (nat_eq e w) (list_any (nat_eq e) (filter (is_index_in ps) ws)) (is_index_in ps e) (λ q. ap (is_index_in ps) (eqb-true e w q) ∙ h) ih
wanted_step ps ws w e false h ih = ih

wanted_has : (ps ws : List ℕ) (e : ℕ) → (list_any (nat_eq e) (filter (is_index_in ps) ws) || is_index_in ps e) ≡ is_index_in ps e
wanted_has ps [] e = refl
wanted_has ps (w ∷ ws) e = wanted_step ps ws w e (is_index_in ps w) refl (wanted_has ps ws e)

pub ordered_has : (b : Option Bibliography) (wanted ps : List ℕ) (e : ℕ) → is_index_in (ordered b wanted ps) e ≡ is_index_in ps e
ordered_has None wanted ps e = refl
ordered_has (Some b) wanted ps e =
    once-any nat_eq_equiv e (filter (is_index_in ps) wanted ++ ps) ∙ list_any-append (nat_eq e) (filter (is_index_in ps) wanted) ps ∙ wanted_has ps wanted e
