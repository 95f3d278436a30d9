-- A tree has more than white space where its tokens have.
use Rattle.std.proofs.Common.{◌≡◌, ℕ, Bool, true, false, not, ◌||◌, List, [], ◌∷◌, ◌++◌, append_assoc, append-nil, refl, sym, ap, ◌∙◌, Option, Some, None}
use Rattle.std.specs.Char.{is_whitespace}
use Rattle.rendering_page.specs.Pages.{prints}
use Rattle.rendering_tree.specs.Metas.{Meta}
use Rattle.rendering_tree.specs.Tokens.{Token, letter, opening, with_letters}
use Rattle.rendering_tree.specs.Trees.{Child, Children, Text, Elem, Markup, Link, Transparent, nothing, before, enclosed, flat, flat_child}
use Rattle.rendering_taxonomy.specs.declared.formatting.Display.{Display}
use Rattle.rendering_taxonomy.specs.declared.formatting.Formatting.{Formatting}
use Rattle.driver_citations.specs.Contents.{child_has_content, children_have_content, is_visible}
use Rattle.driver_citations.specs.Standalone.{has_content}

other_order : (a b c : Bool) → (a || (b || c)) ≡ ((b || a) || c)
other_order true true c = refl
other_order true false c = refl
other_order false true c = refl
other_order false false c = refl

or-false : (a : Bool) → (a || false) ≡ a
or-false true = refl
or-false false = refl

letters_before : (f : Formatting) (cs : List ℕ) (us ts : List Token) → with_letters f cs us ++ ts ≡ with_letters f cs (us ++ ts)
letters_before f [] us ts = refl
letters_before f (c ∷ cs) us ts = letters_before f cs (letter f c ∷ us) ts

letters_print : (f : Formatting) (cs : List ℕ) (ts : List Token) → prints 0 (with_letters f cs ts) ≡ (is_visible cs || prints 0 ts)
letters_print f [] ts = refl
letters_print f (c ∷ cs) ts = letters_print f cs (letter f c ∷ ts) ∙ other_order (is_visible cs) (not (is_whitespace c)) (prints 0 ts)

-- what prints inside prints with what stands round it
inside_prints : (d : Option Display) (m : Option Meta) (b : Bool) (inside ts : List Token) → ((us : List Token) → prints 0 (inside ++ us) ≡ (b || prints 0 us)) → prints 0 (enclosed d m inside ++ ts) ≡ (b || prints 0 ts)
inside_prints None None b inside ts h = h ts
inside_prints None (Some m) b inside ts h = ap (prints 0) (append_assoc inside (opening None (Some m) ∷ []) ts) ∙ h (opening None (Some m) ∷ ts)
inside_prints (Some d) m b inside ts h = ap (prints 0) (append_assoc inside (opening (Some d) m ∷ []) ts) ∙ h (opening (Some d) m ∷ ts)

mutual
  child_prints : (x : Child) (ts : List Token) → prints 0 (flat_child x ++ ts) ≡ (child_has_content x || prints 0 ts)
  child_prints (Text f cs) ts = ap (prints 0) (letters_before f cs [] ts) ∙ letters_print f cs ts
  child_prints (Elem d m xs) ts = inside_prints d m (children_have_content xs) (flat xs) ts (λ us. children_print xs us)
  child_prints (Markup cs) ts = refl
  child_prints (Link f cs url) ts = refl
  child_prints (Transparent f n) ts = refl

  children_print : (xs : Children) (ts : List Token) → prints 0 (flat xs ++ ts) ≡ (children_have_content xs || prints 0 ts)
  children_print nothing ts = refl
  children_print (before x xs) ts =
      ap (prints 0) (append_assoc (flat xs) (flat_child x) ts)
      ∙ children_print xs (flat_child x ++ ts)
      ∙ ap (λ b. children_have_content xs || b) (child_prints x ts)
      ∙ other_order (children_have_content xs) (child_has_content x) (prints 0 ts)

-- child by child it is the same
pub content_is : (xs : Children) → children_have_content xs ≡ has_content xs
content_is xs = sym (or-false (children_have_content xs)) ∙ sym (children_print xs []) ∙ ap (prints 0) (append-nil (flat xs))
