-- What is looked for among works.
use Rattle.std.proofs.Common.{◌≡◌, ℕ, ◌+◌, ◌<◌, Bool, true, false, cond, List, [], ◌∷◌, ◌++◌, map, length, get_or, drop, find, Option, Some, None, Result, IfOk, Bor, refl, sym, ap, ◌∙◌}
use Rattle.std.specs.List.{flat_map}
use Rattle.std.specs.Option.{option_or, is_some}
use Rattle.std.proofs.lemmas.List.{map-append, at_drop_more}
use Rattle.std.proofs.lemmas.List.Folds.{find-append}
use Rattle.std.proofs.lemmas.Result.{IfOk-weaker}
use Rattle.literature_entries.specs.Ancestors.{ancestors, AsksFrom, first_of}
use Rattle.literature_entries.specs.Fields.{Fields}
use Rattle.literature_entries.specs.Views.{fields_view, parents, view_in}
use Rattle.literature_entries.specs.declared.entry.Entry.{Entry}
use Rattle.literature_entries.proofs.AncestorsWalks.{found_ok}
use Rattle.rendering_entries.specs.Views.{entry_ancestry}
use Rattle.rendering_entries.specs.Works.{first_answer, nearest}
use Rattle.rendering_entries.proofs.WorksLevels.{fields_upwards, parents_above}

-- where one does not pass, those after it are looked at
pub find_on : {X Y : Type 0} (v : X → Y) (p : Y → Bool) (xs : List X) (i : ℕ) (x : X) → i < length xs → x ≡ get_or xs i x → p (v x) ≡ false → find p (map v (drop (i + 1) xs)) ≡ find p (map v (drop i xs))
find_on v p xs i x low is e =
    sym (at_drop_more (λ ys. find p (map v ys)) xs i x low
    ∙ ap (λ b. cond b (Some (v (get_or xs i x))) (find p (map v (drop (i + 1) xs)))) (ap (λ y. p (v y)) (sym is) ∙ e))

-- where one passes, it is found
pub find_here : {X Y : Type 0} (v : X → Y) (p : Y → Bool) (xs : List X) (i : ℕ) (x : X) → i < length xs → x ≡ get_or xs i x → p (v x) ≡ true → Some (v x) ≡ find p (map v (drop i xs))
find_here v p xs i x low is e =
    sym (at_drop_more (λ ys. find p (map v ys)) xs i x low
    ∙ ap (λ y. find p (v y ∷ map v (drop (i + 1) xs))) (sym is)
    ∙ ap (λ b. cond b (Some (v x)) (find p (map v (drop (i + 1) xs)))) e)

-- the view of something is there where it is
pub view_is_some : {X V : Type 0} (view : X → V) (o : Option (Bor X)) → is_some (view_in view o) ≡ is_some o
view_is_some view None = refl
view_is_some view (Some x) = refl

first_answer_is : {V : Type 0} (look : Fields → Option V) (es : List Entry) → first_of (λ e. look (fields_view e)) es ≡ first_answer look (map fields_view es)
first_answer_is look [] = refl
first_answer_is look (e ∷ es) = ap (option_or (look (fields_view e))) (first_answer_is look es)

nearest_is : {V : Type 0} (look : Fields → Option V) (e : Entry) → first_of (λ a. look (fields_view a)) (e ∷ ancestors e) ≡ nearest look (entry_ancestry e)
nearest_is look e =
    first_answer_is look (e ∷ ancestors e)
    ∙ ap (λ (ws : List Fields). first_answer look (fields_view e ∷ ws)) (fields_upwards (parents e))

-- what is found before others is found in the whole
pub found_in_leading : (p : Fields → Bool) (xs ys : List Fields) (w : Fields) → Some w ≡ find p xs → Some w ≡ find p (xs ++ ys)
found_in_leading p xs ys w e = ap (λ (o : Option Fields). option_or o (find p ys)) e ∙ sym (find-append p xs ys)

-- where nothing is found before, it is found behind
pub found_behind : (p : Fields → Bool) (xs ys : List Fields) → None ≡ find p xs → find p ys ≡ find p (xs ++ ys)
found_behind p xs ys e = ap (λ (o : Option Fields). option_or o (find p ys)) e ∙ sym (find-append p xs ys)

-- what is found first among the parents of each is found first among all parents
first_among : (p : Fields → Bool) (es : List Entry) → first_of (λ e. find p (map fields_view (parents e))) es ≡ find p (map fields_view (flat_map parents es))
first_among p [] = refl
first_among p (e ∷ es) =
    ap (option_or (find p (map fields_view (parents e)))) (first_among p es)
    ∙ sym (find-append p (map fields_view (parents e)) (map fields_view (flat_map parents es)))
    ∙ ap (find p) (sym (map-append fields_view (parents e) (flat_map parents es)))

-- what the parents of ancestors answer first is first among the further ancestors
further_is : (p : Fields → Bool) (e : Entry) → first_of (λ a. find p (map fields_view (parents a))) (ancestors e) ≡ find p (entry_ancestry e).further
further_is p e = first_among p (ancestors e) ∙ ap (λ (es : List Entry). find p (map fields_view es)) (parents_above (parents e))

module _ {F X V E : Type 0} (step : F → Bor Entry → Option (Bor X) → F → Type 0) (view : X → V) where
  -- the first answer of an entry and its ancestors is the nearest
  pub nearest_found : (look : Fields → Option V) (f : F) (e : Entry) (r : Result (Option (Bor X)) E) → IfOk r (AsksFrom step f (e ∷ ancestors e))
      → ((f g : F) (b : Bor Entry) (o : Option (Bor X)) → step f b o g → view_in view o ≡ look (fields_view b.now))
      → IfOk r (λ answer. view_in view answer ≡ nearest look (entry_ancestry e))
  nearest_found look f e r asked says =
      IfOk-weaker r _ _ (λ answer is. is ∙ nearest_is look e) (found_ok step view (λ a. look (fields_view a)) f (e ∷ ancestors e) r asked says)

module _ {F E : Type 0} (step : F → Bor Entry → Option (Bor Entry) → F → Type 0) where
  -- the first that is found among the parents of ancestors is the first further ancestor that passes
  pub further_found : (p : Fields → Bool) (f : F) (e : Entry) (r : Result (Option (Bor Entry)) E) → IfOk r (AsksFrom step f (ancestors e))
      → ((f g : F) (b : Bor Entry) (o : Option (Bor Entry)) → step f b o g → view_in fields_view o ≡ find p (map fields_view (parents b.now)))
      → IfOk r (λ answer. view_in fields_view answer ≡ find p (entry_ancestry e).further)
  further_found p f e r asked says =
      IfOk-weaker r _ _ (λ answer is. is ∙ further_is p e) (found_ok step fields_view (λ a. find p (map fields_view (parents a))) f (ancestors e) r asked says)
