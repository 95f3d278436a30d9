-- People who are disambiguated before cites are compared.
use Rattle.std.proofs.Common.{◌≡◌, ℕ, ◌+◌, ◌<◌, ◌≤◌, cond, nat_lt, List, [], ◌∷◌, ◌++◌, map, length, get_or, take, drop, fold, sym, ap, ◌∙◌, Some, lt-ltb, le-ltb}
use Rattle.std.specs.Prelude.{count_by}
use Rattle.std.specs.List.{enumerate_from, flat_map, list_any}
use Rattle.std.specs.Option.{option_map}
use Rattle.std.proofs.lemmas.List.{append-nil, drop_all, drop_more, map-append, take_more}
use Rattle.std.proofs.lemmas.List.Concat.{flat_map-append}
use Rattle.literature_values.specs.PersonViews.{Named}
use Rattle.rendering_people.specs.Properties.{Properties}
use Rattle.driver_requests.specs.Suffixes.{Origin}
use Rattle.driver_names.specs.FirstNames.{first_origin, form_first, prints_whole, disambiguated_form, disambiguated_names, disambiguated_state}
use Rattle.driver_names.specs.Names.{Member, is_namesake, states_by_names_of}
use Rattle.driver_names.specs.NamesViews.{is_alike_namesake}
use Rattle.driver_names.specs.Prints.{GivenState}
use Rattle.driver_names.proofs.Counting.{any_count}
use Rattle.rendering_taxonomy.specs.declared.name.DisambiguatedNameForm.{DisambiguatedNameForm}
use Rattle.rendering_taxonomy.specs.declared.style.DisambiguationRule.{DisambiguationRule}

-- a loop that appends what it makes of each member
pub flat_step : {M X Y : Type 0} (view : M → X) (h : X → List Y) (ms : List M) (i : ℕ) (m : M) (old new : List Y) → i < length ms → m ≡ get_or ms i m → old ≡ flat_map h (map view (take i ms)) → new ≡ old ++ h (view m)
    → new ≡ flat_map h (map view (take (i + 1) ms))
flat_step view h ms i m old new low at before after =
    after
    ∙ (λ k. before k ++ h (view m))
    ∙ sym (
    ap (λ os. flat_map h (map view os)) (take_more ms i m low ∙ ap (λ o. take i ms ++ o ∷ []) (sym at))
    ∙ ap (flat_map h) (map-append view (take i ms) (m ∷ []))
    ∙ flat_map-append h (map view (take i ms)) (view m ∷ [])
    ∙ ap (λ ys. flat_map h (map view (take i ms)) ++ ys) (append-nil (h (view m))))

-- a loop that changes something by each member and its index
pub fold_step : {X Y : Type 0} (f : Y → ℕ × X → Y) (xs : List X) (i : ℕ) (x : X) (old new all : Y) → i < length xs → x ≡ get_or xs i x → new ≡ f old (i, x) → fold f old (enumerate_from i (drop i xs)) ≡ all
    → fold f new (enumerate_from (i + 1) (drop (i + 1) xs)) ≡ all
fold_step f xs i x old new all low at is before =
    ap (λ y. fold f y (enumerate_from (i + 1) (drop (i + 1) xs))) is
    ∙ sym (ap (λ ys. fold f old (enumerate_from i ys)) (drop_more xs i x low ∙ ap (λ y. y ∷ drop (i + 1) xs) (sym at)))
    ∙ before

pub fold_end : {X Y : Type 0} (f : Y → ℕ × X → Y) (xs : List X) (i : ℕ) (old all : Y) → length xs ≤ i → fold f old (enumerate_from i (drop i xs)) ≡ all → old ≡ all
fold_end f xs i old all past before = sym (ap (λ ys. fold f old (enumerate_from i ys)) (drop_all i xs past)) ∙ before

-- the form of a person with namesakes, by how many there are
pub form_disambiguated : (rule : DisambiguationRule) (all : List Named) (p : Named) (f g : DisambiguatedNameForm) (n a : ℕ) → n ≡ count_by (is_namesake p) all → a ≡ count_by (is_alike_namesake p) all → 0 < n
    → g ≡ disambiguated_form (prints_whole rule) (nat_lt 0 a) f → g ≡ form_first rule all p f
form_disambiguated rule all p f g n a many alike some is =
    is
    ∙ ap (λ b. disambiguated_form (prints_whole rule) b f) (ap (nat_lt 0) alike ∙ sym (any_count (is_alike_namesake p) all))
    ∙ sym (ap (λ b. cond b (disambiguated_form (prints_whole rule) (list_any (is_alike_namesake p) all) f) f) (any_count (is_namesake p) all ∙ ap (nat_lt 0) (sym many) ∙ lt-ltb 0 n some))

-- the form of one without
pub form_kept : (rule : DisambiguationRule) (all : List Named) (p : Named) (f : DisambiguatedNameForm) (n : ℕ) → n ≡ count_by (is_namesake p) all → n ≤ 0 → f ≡ form_first rule all p f
form_kept rule all p f n many none =
    sym (ap (λ b. cond b (disambiguated_form (prints_whole rule) (list_any (is_alike_namesake p) all) f) f) (any_count (is_namesake p) all ∙ ap (nat_lt 0) (sym many) ∙ le-ltb 0 n none))

-- the state of an entry, where its cite has names
pub disambiguated_some : (rule : DisambiguationRule) (all : List Named) (m : Member) (gs : List GivenState) (o : Origin) (own new : Properties) → m.names ≡ Some own → o ≡ first_origin → new ≡ disambiguated_names rule all m.people own
    → gs ++ states_by_names_of m.cite.entry o (Some own) (Some new) ≡ gs ++ disambiguated_state rule all m
disambiguated_some rule all m gs o own new has is_origin is =
    λ k. gs ++ states_by_names_of m.cite.entry (is_origin k) (sym has k) ((ap (λ ps. Some ps) is ∙ ap (option_map (disambiguated_names rule all m.people)) (sym has)) k)
