-- The levels of ancestors, of entries and of what they hold.
use Rattle.std.proofs.Common.{◌≡◌, List, [], ◌∷◌, ◌++◌, map, refl, sym, ap, subst, ◌∙◌, append_assoc, append-nil, rules}
use Rattle.std.specs.List.{flat_map}
use Rattle.std.proofs.lemmas.List.{map-append}
use Rattle.std.proofs.lemmas.List.Concat.{flat_map-append}
use Rattle.literature_entries.specs.Ancestors.{upwards}
use Rattle.literature_entries.specs.Fields.{Fields}
use Rattle.literature_entries.specs.Views.{key_view, fields_view, parents}
use Rattle.literature_entries.specs.EntriesData.{Holding, wholes, entry_view}
use Rattle.literature_entries.specs.declared.entry.Entry.{Entry, the_lemmas}
use Rattle.literature_entries.proofs.AncestorsWalks.{upwards_more}
use Rattle.rendering_entries.specs.Views.{entry_ancestry}
use Rattle.rendering_entries.specs.Works.{beside, by_level, each_by_level, first_level, later_levels, ancestry}

-- what entries and their ancestors say, level by level
abbrev fields_by_level : List Entry → List (List Fields)
fields_by_level es = each_by_level (wholes (map entry_view es))

whole_is : (e : Entry) → entry_view e ≡ Holding (key_view e) (fields_view e) (wholes (map entry_view (parents e)))
whole_is e = search (rules, the_lemmas)

-- an entry, and the levels of its parents
level_is : (e : Entry) → by_level (entry_view e) ≡ (fields_view e ∷ []) ∷ fields_by_level (parents e)
level_is e = ap by_level (whole_is e)

beside_assoc : {X : Type 0} (ls ms ns : List (List X)) → beside (beside ls ms) ns ≡ beside ls (beside ms ns)
beside_assoc [] ms ns = refl
beside_assoc (l ∷ ls) [] ns = refl
beside_assoc (l ∷ ls) (m ∷ ms) [] = refl
beside_assoc (l ∷ ls) (m ∷ ms) (n ∷ ns) = λ i. append_assoc l m n i ∷ beside_assoc ls ms ns i

-- the levels of two lists of entries are those of both, side by side
fields_append : (es xs : List Entry) → fields_by_level (es ++ xs) ≡ beside (fields_by_level es) (fields_by_level xs)
fields_append [] xs = refl
fields_append (e ∷ es) xs =
    ap (beside (by_level (entry_view e))) (fields_append es xs)
    ∙ sym (beside_assoc (by_level (entry_view e)) (fields_by_level es) (fields_by_level xs))

-- entries are the first level, and their parents begin the others
fields_more : (e : Entry) (es : List Entry) → fields_by_level (e ∷ es) ≡ map fields_view (e ∷ es) ∷ fields_by_level (flat_map parents (e ∷ es))
fields_more e [] =
    ap (λ (ls : List (List Fields)). beside ls []) (level_is e)
    ∙ ap (λ (ps : List Entry). (fields_view e ∷ []) ∷ fields_by_level ps) (sym (append-nil (parents e)))
fields_more e (x ∷ xs) =
    ap (λ (ls : List (List Fields)). beside ls (fields_by_level (x ∷ xs))) (level_is e)
    ∙ ap (beside ((fields_view e ∷ []) ∷ fields_by_level (parents e))) (fields_more x xs)
    ∙ ap (λ (ls : List (List Fields)). map fields_view (e ∷ x ∷ xs) ∷ ls) (sym (fields_append (parents e) (flat_map parents (x ∷ xs))))

-- entries, and then what is above them
upwards_is : (es : List Entry) → upwards es ≡ es ++ upwards (flat_map parents es)
upwards_is [] = refl
upwards_is (e ∷ es) = upwards_more e es

-- ancestors are the parents, and then what is above these
pub fields_upwards : (es : List Entry) → map fields_view (upwards es) ≡ map fields_view es ++ map fields_view (upwards (flat_map parents es))
fields_upwards es = ap (map fields_view) (upwards_is es) ∙ map-append fields_view es (upwards (flat_map parents es))

abbrev others : List (List Fields) → List (List Fields)
others [] = []
others (l ∷ ls) = ls

abbrev IsNone : List (List Fields) → Type 0
IsNone [] = Unit {0}
IsNone (l ∷ ls) = ⊥

-- the levels one after the other are the entries and all that is above them
joined_levels : (ls : List (List Fields)) (es : List Entry) → fields_by_level es ≡ ls → flat_map (λ x. x) ls ≡ map fields_view (upwards es)
joined_levels [] [] is = refl
joined_levels [] (e ∷ es) is = absurd (subst IsNone (sym (sym (fields_more e es) ∙ is)) tt)
joined_levels (l ∷ ls) [] is = absurd (subst IsNone is tt)
joined_levels (l ∷ ls) (e ∷ es) is =
    let level = sym is ∙ fields_more e es in
    (λ i. ap first_level level i ++ joined_levels ls (flat_map parents (e ∷ es)) (sym (ap others level)) i)
    ∙ sym (fields_upwards (e ∷ es))

-- the parents of the entries and of all above them are what is above the entries
parents_upwards : (ls : List (List Fields)) (es : List Entry) → fields_by_level es ≡ ls → flat_map parents (upwards es) ≡ upwards (flat_map parents es)
parents_upwards ls [] is = refl
parents_upwards [] (e ∷ es) is = absurd (subst IsNone (sym (sym (fields_more e es) ∙ is)) tt)
parents_upwards (l ∷ ls) (e ∷ es) is =
    let next = flat_map parents (e ∷ es) in
    ap (flat_map parents) (upwards_is (e ∷ es))
    ∙ flat_map-append parents (e ∷ es) (upwards next)
    ∙ ap (λ (xs : List Entry). next ++ xs) (parents_upwards ls next (sym (ap others (sym is ∙ fields_more e es))))
    ∙ sym (upwards_is next)

pub parents_above : (es : List Entry) → flat_map parents (upwards es) ≡ upwards (flat_map parents es)
parents_above es = parents_upwards (fields_by_level es) es refl

first_level_is : (es : List Entry) → first_level (fields_by_level es) ≡ map fields_view es
first_level_is [] = refl
first_level_is (e ∷ es) = ap first_level (fields_more e es)

later_levels_are : (es : List Entry) → later_levels (fields_by_level es) ≡ map fields_view (upwards (flat_map parents es))
later_levels_are [] = refl
later_levels_are (e ∷ es) =
    ap later_levels (fields_more e es)
    ∙ joined_levels (fields_by_level (flat_map parents (e ∷ es))) (flat_map parents (e ∷ es)) refl

-- what an entry holds stands among works as the entry does
pub ancestry_is : (e : Entry) → ancestry (entry_view e) ≡ entry_ancestry e
ancestry_is e =
    ap ancestry (whole_is e)
    ∙ (λ i. record { key = key_view e; own = fields_view e; parents = first_level_is (parents e) i; further = later_levels_are (parents e) i })
