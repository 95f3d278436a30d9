-- Keys that are put in a set one after the other.
use Rattle.std.proofs.Common.{◌≡◌, ◌||◌, ℕ, Bool, true, false, List, [], ◌∷◌, ◌++◌, cond, refl, sym, ap, ◌∙◌}
use Rattle.std.specs.Borrow.{Bor}
use Rattle.std.specs.BTreeSet.{BTreeSet, contains_by}
use Rattle.std.specs.Cmp.Lexicographic.{slice_cmp}
use Rattle.std.specs.List.{list_any}
use Rattle.std.specs.Ordering.{nat_cmp}
use Rattle.std.specs.Str.{bytes_eq}
use Rattle.std.proofs.Math.Path.{fun_ext}
use Rattle.std.proofs.lemmas.Bool.Decides.{Decides-like, same_from_decides}
use Rattle.std.proofs.lemmas.List.Folds.{list_any-append}
use Rattle.std.proofs.lemmas.Map.Text.{is_eq-slice_cmp}
use Rattle.std.proofs.lemmas.Slice.Eq.{bytes_eq-Decides}
use Rattle.cite_requests.specs.Cited.{is_among}
use Rattle.cite_requests.specs.Views.{has}

pub or_false : (b : Bool) → (b || false) ≡ b
or_false true = refl
or_false false = refl

-- some keys more, and then the others
pub among_more : (before : Bool) (keys others : List (List ℕ)) (k : List ℕ) → ((before || is_among keys k) || is_among others k) ≡ (before || is_among (keys ++ others) k)
among_more true keys others k = refl
among_more false keys others k = sym (list_any-append (bytes_eq k) keys others)

pub turned : (a b : List ℕ) → bytes_eq a b ≡ bytes_eq b a
turned a b = same_from_decides (bytes_eq a b) (bytes_eq b a) (bytes_eq-Decides a b) (Decides-like (bytes_eq b a) sym sym (bytes_eq-Decides b a))

either : (before same : Bool) → cond same true before ≡ (before || (same || false))
either true true = refl
either true false = refl
either false true = refl
either false false = refl

-- one key more
pub among_one : (before : Bool) (key k : List ℕ) → cond (bytes_eq key k) true before ≡ (before || is_among (key ∷ []) k)
among_one before key k = either before (bytes_eq key k) ∙ ap (λ (b : Bool). before || (b || false)) (turned key k)

-- a set that is sorted by the order of texts has those that it finds by it
pub has_found : (texts : BTreeSet (Bor (List ℕ))) (t : Bor (List ℕ)) → has texts t ≡ contains_by (λ (x : Bor (List ℕ)). slice_cmp nat_cmp t.now x.now) texts
has_found texts t = ap (λ test. list_any test texts.keys) (fun_ext (λ (x : Bor (List ℕ)). sym (is_eq-slice_cmp t.now x.now)))
