-- What cites share stays while the cites of a class are disambiguated.
use Rattle.std.proofs.Common.{◌≡◌, ℕ, ◌+◌, Bool, true, false, cond, not, ◌&&◌, List, [], ◌∷◌, map, length, refl, sym, ap, ◌∙◌, Option, None}
use Rattle.std.specs.List.{enumerate_from, list_any, range_with_len}
use Rattle.std.specs.Option.{option_map, option_map_or}
use Rattle.std.proofs.Math.Path.{fun_ext}
use Rattle.std.proofs.lemmas.Simd.{map-map}
use Rattle.rendering_people.specs.Properties.{Properties, with_name}
use Rattle.rendering_taxonomy.specs.declared.style.DisambiguationRule.{DisambiguationRule}
use Rattle.driver_names.specs.Prints.{Printed}
use Rattle.driver_names.specs.Names.{Member, all_shown_up_to, distinguished_at, distinguished_by, form_wanted, is_newly_distinguished, is_own, member, members, names_may_change, raised_names, raises, rule_for, showing_up_to}
use Rattle.driver_names.specs.Shared.{AreInOrder, agrees_by, last_passing, shared_people, shares}
use Rattle.driver_names.proofs.NamesDistinguished.{any-filter, any-map}

-- a cite without what is found of it
abbrev pub bare : Member → Member
bare m = record m { names = None; is_distinguished = false }

indices_from : (a : ℕ) (ss : List Printed) → map (λ m. m.index) (map member (enumerate_from a ss)) ≡ range_with_len a (length (map member (enumerate_from a ss)))
indices_from a [] = refl
indices_from a (s ∷ ss) = ap (λ ns. a ∷ ns) (indices_from (a + 1) ss)

-- the cites of a class are at their indices
pub in_order : (ss : List Printed) → AreInOrder (members ss)
in_order ss = indices_from 0 ss

shares_bare : (r : Option DisambiguationRule) (ms : List Member) (m : Member) (n : ℕ) → shares r (map bare ms) (bare m) n ≡ shares r ms m n
shares_bare r ms m n =
    any-filter (agrees_by r (n + 1) (bare m)) (λ o. not (is_own (bare m) o)) (map bare ms)
    ∙ any-map (λ o. not (is_own (bare m) o) && agrees_by r (n + 1) (bare m) o) bare ms
    ∙ sym (any-filter (agrees_by r (n + 1) m) (λ o. not (is_own m o)) ms)

-- what a cite shares with others stays without what is found of them
pub shared_one : (most : ℕ) (ms : List Member) (m : Member) → shared_people most (map bare ms) (bare m) ≡ shared_people most ms m
shared_one most ms m = ap (λ t. last_passing 0 t most) (fun_ext (λ n. shares_bare (rule_for m) ms m n))

shared_bare : (most : ℕ) (ms : List Member) → map (shared_people most (map bare ms)) (map bare ms) ≡ map (shared_people most ms) ms
shared_bare most ms = map-map (shared_people most (map bare ms)) bare ms ∙ ap (λ f. map f ms) (fun_ext (shared_one most ms))

bare_raised : (b : Bool) (m : Member) (ns : Option Properties) → bare (record (cond b (record m { names = ns }) m) { is_distinguished = true }) ≡ bare m
bare_raised true m ns = refl
bare_raised false m ns = refl

bare_disambiguated : (b c : Bool) (m : Member) (ns : Option Properties) → bare (cond b (record (cond c (record m { names = ns }) m) { is_distinguished = true }) m) ≡ bare m
bare_disambiguated true c m ns = bare_raised c m ns
bare_disambiguated false c m ns = refl

bare_shown : (b : Bool) (m : Member) (ns : Option Properties) → bare (cond b (record m { names = ns }) m) ≡ bare m
bare_shown true m ns = refl
bare_shown false m ns = refl

pub bare_each : (ms : List Member) (index : ℕ) (m : Member) → bare (showing_up_to (index + 1) (distinguished_at ms index m)) ≡ bare m
bare_each ms index m =
    let distinction_of : Member = distinguished_at ms index m in
    bare_shown (names_may_change distinction_of) distinction_of (option_map (with_name (index + 1)) distinction_of.names)
    ∙ bare_disambiguated (is_newly_distinguished (index + 1) ms m) (raises (rule_for m)) m (option_map (λ ps. option_map_or (λ g. raised_names index g ps) (form_wanted ms m index) ps) m.names)

pub bare_all : (b : Bool) (ms : List Member) (index : ℕ) → map bare (cond b (all_shown_up_to ms index) ms) ≡ map bare ms
bare_all true ms index =
    map-map bare (λ m. showing_up_to (index + 1) (distinguished_at ms index m)) ms ∙ ap (λ f. map f ms) (fun_ext (bare_each ms index))
bare_all false ms index = refl

-- what cites share, after some of them were disambiguated
pub shared_still : (most index : ℕ) (ms new : List Member) (shared : List ℕ) → shared ≡ map (shared_people most ms) ms → new ≡ distinguished_by ms index → shared ≡ map (shared_people most new) new
shared_still most index ms new shared is distinction_of =
    let all : List Member → List ℕ = λ os. map (shared_people most os) os in
    is
    ∙ sym (shared_bare most ms)
    ∙ ap all (sym (bare_all (list_any (is_newly_distinguished (index + 1) ms) ms) ms index))
    ∙ shared_bare most (distinguished_by ms index)
    ∙ ap all (sym distinction_of)
