-- What reading the tokens of a tree makes: its normal form, before what was read already.
use Rattle.std.proofs.Common.{◌≡◌, ℕ, Bool, true, false, List, [], ◌∷◌, ◌++◌, append-nil, append_assoc, refl, sym, ap, ◌∙◌, Option, Some, None}
use Rattle.std.specs.Prelude.{if◌then◌else◌}
use Rattle.std.specs.List.{fold}
use Rattle.std.proofs.lemmas.List.Sums.{fold-append}
use Rattle.rendering_taxonomy.specs.Formats.{looks_like}
use Rattle.rendering_taxonomy.specs.declared.formatting.Display.{Display}
use Rattle.rendering_taxonomy.specs.declared.formatting.Formatting.{Formatting}
use Rattle.rendering_taxonomy.proofs.Indices.{Decides-looks_like}
use Rattle.rendering_tree.specs.Laws.{SimplifyingKeepsTokens}
use Rattle.rendering_tree.specs.Metas.{Meta}
use Rattle.rendering_tree.specs.Tokens.{Token, letter, opening, closing, with_letters}
use Rattle.rendering_tree.specs.Trees.{Child, Children, Text, Elem, Markup, Link, Transparent, nothing, before, enclosed, flat_child, flat, Nest, before_text, take_token, simplified}

-- a text before what was read
abbrev pub letters_before : Formatting → List ℕ → Children → Children
letters_before f [] ys = ys
letters_before f (c ∷ cs) ys = before_text f c (letters_before f cs ys)

abbrev mutual
  -- a child in its normal form before others
  pub child_before : Child → Children → Children
  child_before (Text f cs) ys = letters_before f cs ys
  child_before (Elem None None xs) ys = all_before xs ys
  child_before (Elem None (Some m) xs) ys = before (Elem None (Some m) (all_before xs nothing)) ys
  child_before (Elem (Some d) None xs) ys = before (Elem (Some d) None (all_before xs nothing)) ys
  child_before (Elem (Some d) (Some m) xs) ys = before (Elem (Some d) (Some m) (all_before xs nothing)) ys
  child_before (Markup cs) ys = before (Markup cs) ys
  child_before (Link f cs url) ys = before (Link f cs url) ys
  child_before (Transparent f n) ys = before (Transparent f n) ys

  -- the same of a list
  pub all_before : Children → Children → Children
  all_before nothing ys = ys
  all_before (before x xs) ys = child_before x (all_before xs ys)

read_text : (f : Formatting) (cs : List ℕ) (ts : List Token) (n : Nest) → fold take_token n (with_letters f cs ts) ≡ fold take_token (record n { inside = letters_before f cs n.inside }) ts
read_text f [] ts n = refl
read_text f (c ∷ cs) ts n = read_text f cs (letter f c ∷ ts) n

-- an element is being read
abbrev begun : Nest → Nest
begun n = record { inside = nothing; around = n.inside ∷ n.around }

read_element : (d : Option Display) (m : Option Meta) (ts : List Token) (xs : Children) (n : Nest) → fold take_token (begun n) ts ≡ record (begun n) { inside = xs }
    → fold take_token n (closing ∷ ts ++ opening d m ∷ []) ≡ record n { inside = before (Elem d m xs) n.inside }
read_element d m ts xs n e = fold-append take_token (begun n) ts (opening d m ∷ []) ∙ ap (λ (k : Nest). take_token k (opening d m)) e

mutual
  read_child : (x : Child) (n : Nest) → fold take_token n (flat_child x) ≡ record n { inside = child_before x n.inside }
  read_child (Text f cs) n = read_text f cs [] n
  read_child (Elem None None xs) n = read_all xs n
  read_child (Elem None (Some m) xs) n = read_element None (Some m) (flat xs) (all_before xs nothing) n (read_all xs (begun n))
  read_child (Elem (Some d) None xs) n = read_element (Some d) None (flat xs) (all_before xs nothing) n (read_all xs (begun n))
  read_child (Elem (Some d) (Some m) xs) n = read_element (Some d) (Some m) (flat xs) (all_before xs nothing) n (read_all xs (begun n))
  read_child (Markup cs) n = refl
  read_child (Link f cs url) n = refl
  read_child (Transparent f k) n = refl

  read_all : (xs : Children) (n : Nest) → fold take_token n (flat xs) ≡ record n { inside = all_before xs n.inside }
  read_all nothing n = refl
  read_all (before x xs) n =
      fold-append take_token n (flat xs) (flat_child x)
      ∙ ap (λ (k : Nest). fold take_token k (flat_child x)) (read_all xs n)
      ∙ read_child x (record n { inside = all_before xs n.inside })

-- simplifying goes down the tree
pub simplified_is : (xs : Children) → simplified xs ≡ all_before xs nothing
simplified_is xs = ap (λ (n : Nest). n.inside) (read_all xs (record { inside = nothing; around = [] }))

with_letters-append : (f : Formatting) (cs : List ℕ) (ts : List Token) → with_letters f cs ts ≡ with_letters f cs [] ++ ts
with_letters-append f [] ts = refl
with_letters-append f (c ∷ cs) ts =
    with_letters-append f cs (letter f c ∷ ts)
    ∙ sym (append_assoc (with_letters f cs []) (letter f c ∷ []) ts)
    ∙ ap (λ us. us ++ ts) (sym (with_letters-append f cs (letter f c ∷ [])))

-- the letters of two texts one after the other
pub with_letters-both : (f : Formatting) (cs ds : List ℕ) → with_letters f (cs ++ ds) [] ≡ with_letters f ds [] ++ with_letters f cs []
with_letters-both f cs ds = over cs [] ∙ with_letters-append f ds (with_letters f cs []) where
  over : (bs : List ℕ) (ts : List Token) → with_letters f (bs ++ ds) ts ≡ with_letters f ds (with_letters f bs ts)
  over [] ts = refl
  over (b ∷ bs) ts = over bs (letter f b ∷ ts)

flat-joined : (f g : Formatting) (c : ℕ) (cs : List ℕ) (xs : Children) (b : Bool) → looks_like f g ≡ b
    → flat (if b then before (Text g (c ∷ cs)) xs else before (Text f (c ∷ [])) (before (Text g cs) xs)) ≡ (flat xs ++ with_letters g cs []) ++ letter f c ∷ []
flat-joined f g c cs xs true e =
    ap (λ us. flat xs ++ us) (with_letters-append g cs (letter g c ∷ []))
    ∙ sym (append_assoc (flat xs) (with_letters g cs []) (letter g c ∷ []))
    ∙ ap (λ h. (flat xs ++ with_letters g cs []) ++ letter h c ∷ []) (sym ((Decides-looks_like f g).0 e))
flat-joined f g c cs xs false e = refl

flat-before_text : (f : Formatting) (c : ℕ) (ys : Children) → flat (before_text f c ys) ≡ flat ys ++ letter f c ∷ []
flat-before_text f c nothing = refl
flat-before_text f c (before (Text g cs) xs) = flat-joined f g c cs xs (looks_like f g) refl
flat-before_text f c (before (Elem d m zs) xs) = refl
flat-before_text f c (before (Markup cs) xs) = refl
flat-before_text f c (before (Link g cs url) xs) = refl
flat-before_text f c (before (Transparent g n) xs) = refl

flat-letters_before : (f : Formatting) (cs : List ℕ) (ys : Children) → flat (letters_before f cs ys) ≡ flat ys ++ with_letters f cs []
flat-letters_before f [] ys = sym (append-nil (flat ys))
flat-letters_before f (c ∷ cs) ys =
    flat-before_text f c (letters_before f cs ys)
    ∙ ap (λ us. us ++ letter f c ∷ []) (flat-letters_before f cs ys)
    ∙ append_assoc (flat ys) (with_letters f cs []) (letter f c ∷ [])
    ∙ ap (λ us. flat ys ++ us) (sym (with_letters-append f cs (letter f c ∷ [])))

mutual
  flat-child_before : (x : Child) (ys : Children) → flat (child_before x ys) ≡ flat ys ++ flat_child x
  flat-child_before (Text f cs) ys = flat-letters_before f cs ys
  flat-child_before (Elem None None xs) ys = flat-all_before xs ys
  flat-child_before (Elem None (Some m) xs) ys = ap (λ us. flat ys ++ enclosed None (Some m) us) (flat-all_before xs nothing)
  flat-child_before (Elem (Some d) None xs) ys = ap (λ us. flat ys ++ enclosed (Some d) None us) (flat-all_before xs nothing)
  flat-child_before (Elem (Some d) (Some m) xs) ys = ap (λ us. flat ys ++ enclosed (Some d) (Some m) us) (flat-all_before xs nothing)
  flat-child_before (Markup cs) ys = refl
  flat-child_before (Link f cs url) ys = refl
  flat-child_before (Transparent f n) ys = refl

  flat-all_before : (xs ys : Children) → flat (all_before xs ys) ≡ flat ys ++ flat xs
  flat-all_before nothing ys = sym (append-nil (flat ys))
  flat-all_before (before x xs) ys =
      flat-child_before x (all_before xs ys)
      ∙ ap (λ us. us ++ flat_child x) (flat-all_before xs ys)
      ∙ append_assoc (flat ys) (flat xs) (flat_child x)

pub keeps_tokens : SimplifyingKeepsTokens
keeps_tokens xs = ap flat (simplified_is xs) ∙ flat-all_before xs nothing
