-- Citations that are put together cite by cite.
use Rattle.std.proofs.Common.{◌≡◌, ℕ, Bool, true, false, true≢false, List, [], ◌∷◌, ◌++◌, fold, length, map, ◌≢◌, refl, sym, ap, ◌∙◌, IfOk, Option, Some, None, Result, Ok, Err}
use Rattle.std.specs.Option.{unwrap_or}
use Rattle.std.specs.Prelude.{if◌then◌else◌}
use Rattle.rendering_page.specs.Pages.{Quotes}
use Rattle.rendering_page.specs.Tail.{ends_in}
use Rattle.rendering_taxonomy.specs.declared.formatting.Formatting.{Formatting}
use Rattle.rendering_tree.specs.Trees.{Child, Children, Text, nothing, before, followed_by, flat, is_nothing, simplified, tree_of}
use Rattle.rendering_tree.specs.Views.{child_view, children_view, tree_view}
use Rattle.rendering_tree.specs.declared.element.ElemChildren.{ElemChildren}
use Rattle.rendering_tree.specs.declared.element.ElemChild.{ElemChild}
use Rattle.rendering_tree.proofs.SimplifySteps.{flat-followed_by, followed_by-assoc, followed_by-nothing}
use Rattle.rendering_tree.proofs.TreesReading.{keeps_tokens}
use Rattle.rendering_style.specs.Styles.{Layout}
use Rattle.driver_citations.specs.Citations.{Shown, affixed, as_printed, citation_by, citation_look, citation_of, cite_after, entry_element, followed_by_text, is_printed, joined_cites, own_delimiter, printed_cites, suffixed, text_after}
use Rattle.driver_citations.specs.Ends.{end_of}
use Rattle.driver_citations.specs.Meeting.{delimiter_before}
use Rattle.rendering_names.specs.Persons.{comma_and_space}
use Rattle.driver_citations.specs.Standalone.{joined_alone, tree_after}
use Rattle.driver_citations.specs.Joining.{finished, put_cite, put_cites, put_shown, shown_view, suffix_put, trees_put}
use Rattle.driver_citations.specs.declared.citation.ShownCite.{ShownCite}

some_last : (xs : Children) (x : Child) → is_nothing (followed_by xs (before x nothing)) ≡ false
some_last nothing x = refl
some_last (before y ys) x = refl

-- cites that are put after something
pub put_after : (o : Option Quotes) (f : Formatting) (xs : Children) (ss : List Shown) → is_nothing xs ≡ false → fold (put_cite o f) xs ss ≡ fold (cite_after o f) xs ss
put_after o f xs [] some = refl
put_after o f xs (s ∷ ss) some =
    let there = text_after o f (own_delimiter o s) xs in
    ap (λ b. fold (put_cite o f) (followed_by (if b then xs else there) (before (entry_element s) nothing)) ss) some
    ∙ put_after o f (cite_after o f xs s) ss (some_last there (entry_element s))

finished_some : (o : Option Quotes) (l : Layout) (xs : Children) → is_nothing xs ≡ false → finished o l true xs ≡ as_printed o xs
finished_some o l nothing some = absurd (true≢false some)
finished_some o l (before x xs) some = refl

finished_in_affixes : (o : Option Quotes) (l : Layout) (xs : Children) → is_nothing xs ≡ false → finished o l false xs ≡ as_printed o (affixed o l xs)
finished_in_affixes o l nothing some = absurd (true≢false some)
finished_in_affixes o l (before x xs) some = refl

-- cites after something are something
some_cites : (o : Option Quotes) (f : Formatting) (xs : Children) (ss : List Shown) → is_nothing xs ≡ false → is_nothing (fold (cite_after o f) xs ss) ≡ false
some_cites o f xs [] some = some
some_cites o f xs (s ∷ ss) some = some_cites o f (cite_after o f xs s) ss (some_last (text_after o f (own_delimiter o s) xs) (entry_element s))

-- cites that were put together are the citation
finished_by : (o : Option Quotes) (l : Layout) (p : Bool) (ss : List Shown) → finished o l p (fold (put_cite o (citation_look l)) nothing ss) ≡ citation_by o l p ss
finished_by o l p [] = refl
finished_by o l true (s ∷ ss) =
    let first = before (entry_element s) nothing in
    ap (finished o l true) (put_after o (citation_look l) first ss refl)
    ∙ finished_some o l (joined_cites o (citation_look l) s ss) (some_cites o (citation_look l) first ss refl)
finished_by o l false (s ∷ ss) =
    let first = before (entry_element s) nothing in
    ap (finished o l false) (put_after o (citation_look l) first ss refl)
    ∙ finished_in_affixes o l (joined_cites o (citation_look l) s ss) (some_cites o (citation_look l) first ss refl)

-- those that are not printed are not put
put_if : (o : Option Quotes) (f : Formatting) (xs : Children) (s : Shown) (ss : List Shown) → ((ys : Children) → fold (put_shown o f) ys ss ≡ fold (put_cite o f) ys (printed_cites o ss)) → (b : Bool)
    → fold (put_shown o f) (if b then put_cite o f xs s else xs) ss ≡ fold (put_cite o f) xs (if b then s ∷ printed_cites o ss else printed_cites o ss)
put_if o f xs s ss others true = others (put_cite o f xs s)
put_if o f xs s ss others false = others xs

put_printed : (o : Option Quotes) (f : Formatting) (xs : Children) (ss : List Shown) → fold (put_shown o f) xs ss ≡ fold (put_cite o f) xs (printed_cites o ss)
put_printed o f xs [] = refl
put_printed o f xs (s ∷ ss) = put_if o f xs s ss (λ ys. put_printed o f ys ss) (is_printed o s.tree)

pub finished_is : (o : Option Quotes) (l : Layout) (p : Bool) (ss : List Shown) → finished o l p (put_cites o (citation_look l) ss) ≡ citation_of o l p ss
finished_is o l p ss = ap (finished o l p) (put_printed o (citation_look l) nothing ss) ∙ finished_by o l p (printed_cites o ss)

-- one more cite is put
pub cite_put : (o : Option Quotes) (f : Formatting) (now new all : Children) (x : ShownCite) (rest items : List ShownCite) → items ≡ x ∷ rest
    → fold (put_shown o f) now (map shown_view items) ≡ all → new ≡ put_shown o f now (shown_view x) → fold (put_shown o f) new (map shown_view rest) ≡ all
cite_put o f now new all x rest items steps h e =
    ap (λ t. fold (put_shown o f) t (map shown_view rest)) e ∙ ap (λ xs. fold (put_shown o f) now (map shown_view xs)) (sym steps) ∙ h

-- one more child is put
pub child_put : (now new all : Children) (x : ElemChild) (rest items : List ElemChild) → items ≡ x ∷ rest → followed_by now (children_view items) ≡ all → new ≡ followed_by now (before (child_view x) nothing)
    → followed_by new (children_view rest) ≡ all
child_put now new all x rest items steps h e =
    ap (λ t. followed_by t (children_view rest)) e ∙ followed_by-assoc now (before (child_view x) nothing) (children_view rest) ∙ ap (λ xs. followed_by now (children_view xs)) (sym steps) ∙ h

-- after the last one
pub none_left : (now all : Children) (items : List ElemChild) → items ≡ [] → followed_by now (children_view items) ≡ all → now ≡ all
none_left now all items none h = sym (followed_by-nothing now) ∙ ap (λ xs. followed_by now (children_view xs)) (sym none) ∙ h

-- what follows a tree may follow its normal form
pub simplified_after : (xs ys : Children) → simplified (followed_by (simplified xs) ys) ≡ simplified (followed_by xs ys)
simplified_after xs ys = ap tree_of (flat-followed_by (simplified xs) ys ∙ ap (λ ts. flat ys ++ ts) (keeps_tokens xs) ∙ sym (flat-followed_by xs ys))

-- a suffix may be put after the normal form
pub suffix_after : (o : Option Quotes) (f : Formatting) (suffix : List ℕ) (xs : Children) → suffix_put o f suffix (simplified xs) ≡ as_printed o (suffixed o f suffix xs)
suffix_after (Some quotes) f suffix xs = refl
suffix_after None f suffix xs =
    let by : (b : Bool) → (if b then simplified xs else simplified (followed_by_text f suffix (simplified xs))) ≡ simplified (if b then xs else followed_by_text f suffix xs) =
    λ b. elim b as (λ c. (if c then simplified xs else simplified (followed_by_text f suffix (simplified xs))) ≡ simplified (if c then xs else followed_by_text f suffix xs))
    [ true ↦ refl | false ↦ simplified_after xs (before (Text f suffix) nothing) ] in
    by (ends_in suffix (end_of (simplified xs)))

-- one more tree is put
pub tree_put : (o : Option Quotes) (f : Formatting) (between own : List ℕ) (is_first : Bool) (now mid new all : Children) (x : ElemChildren) (rest items : List ElemChildren) → items ≡ x ∷ rest
    → own ≡ delimiter_before o (tree_view x) between → trees_put o f between is_first now (map tree_view items) ≡ all → mid ≡ (if is_first then now else text_after o f own now) → new ≡ followed_by mid (tree_view x)
    → trees_put o f between false new (map tree_view rest) ≡ all
tree_put o f between own true now mid new all x rest items steps d h m e =
    ap (λ t. fold (tree_after o f between) t (map tree_view rest)) (e ∙ ap (λ t. followed_by t (tree_view x)) m)
    ∙ ap (λ xs. trees_put o f between true now (map tree_view xs)) (sym steps)
    ∙ h
tree_put o f between own false now mid new all x rest items steps d h m e =
    ap (λ t. fold (tree_after o f between) t (map tree_view rest)) (e ∙ ap (λ t. followed_by t (tree_view x)) (m ∙ ap (λ cs. text_after o f cs now) d))
    ∙ ap (λ xs. trees_put o f between false now (map tree_view xs)) (sym steps)
    ∙ h

pub no_tree_left : (o : Option Quotes) (f : Formatting) (between : List ℕ) (is_first : Bool) (now all : Children) (items : List ElemChildren) → items ≡ []
    → trees_put o f between is_first now (map tree_view items) ≡ all → now ≡ all
no_tree_left o f between true now all items none h = ap (λ xs. trees_put o f between true now (map tree_view xs)) (sym none) ∙ h
no_tree_left o f between false now all items none h = ap (λ xs. trees_put o f between false now (map tree_view xs)) (sym none) ∙ h

-- where there are trees they are joined
pub joined_is : (o : Option Quotes) (l : Layout) (ts : List Children) → (length ts ≢ 0)
    → as_printed o (affixed o l (trees_put o (citation_look l) (unwrap_or l.delimiter comma_and_space) true nothing ts)) ≡ joined_alone o l ts
joined_is o l [] some = absurd (some refl)
joined_is o l (t ∷ ts) some = refl

-- a layout's affixes were put round what is inside
pub affixed_is : {E : Type 0} (o : Option Quotes) (l : Layout) (look : Formatting) (prefix suffix : List ℕ) (inside first mid simple : Children) (r : Result ElemChildren E) → look ≡ citation_look l → prefix ≡ unwrap_or l.prefix [] → suffix ≡ unwrap_or l.suffix []
    → first ≡ followed_by_text look prefix nothing → mid ≡ followed_by first inside → simple ≡ simplified mid → IfOk r (λ t. tree_view t ≡ suffix_put o look suffix simple) → IfOk r (λ t. tree_view t ≡ as_printed o (affixed o l inside))
affixed_is o l look prefix suffix inside first mid simple (Err e) looks p s f m is h = tt
affixed_is o l look prefix suffix inside first mid simple (Ok t) looks p s f m is h =
    h
    ∙ (λ k. suffix_put o (looks k) (s k) ((is ∙ ap simplified (m ∙ ap (λ xs. followed_by xs inside) (f ∙ (λ j. before (Text (looks j) (p j)) nothing)))) k))
    ∙ suffix_after o (citation_look l) (unwrap_or l.suffix []) (before (Text (citation_look l) (unwrap_or l.prefix [])) inside)

-- what was finished is the citation
pub citation_is : {E : Type 0} (o : Option Quotes) (l : Layout) (p : Bool) (look : Formatting) (ss : List Shown) (joined : Children) (r : Result ElemChildren E) → look ≡ citation_look l → joined ≡ put_cites o look ss
    → IfOk r (λ t. tree_view t ≡ finished o l p joined) → IfOk r (λ t. tree_view t ≡ citation_of o l p ss)
citation_is o l p look ss joined (Err e) looks is h = tt
citation_is o l p look ss joined (Ok t) looks is h = h ∙ ap (finished o l p) (is ∙ ap (λ f. put_cites o f ss) looks) ∙ finished_is o l p ss
