-- Appending to a list.
use Rattle.std.proofs.Common.{◌≡◌, ℕ, Bool, true, false, not, true≢false, List, [], ◌∷◌, ◌++◌, ◌==◌, length, map, rules, append-nil, append_assoc, refl, sym, ap, ◌∙◌, Option, Some, None, Result, Ok, Err, String}
use Rattle.std.proofs.lemmas.Bool.{and_from}
use Rattle.std.proofs.lemmas.List.{map-append}
use Rattle.std.specs.Global.{Global}
use Rattle.std.specs.Prelude.{OnOk, if◌then◌else◌}
use Rattle.laws.specs.Text.{characters, is_filled}
use Rattle.rendering_taxonomy.specs.Formats.{looks_like}
use Rattle.rendering_taxonomy.specs.declared.formatting.Formatting.{Formatting}
use Rattle.rendering_taxonomy.specs.contracts.formatting.FormattingPartialEq.TheImpl as formatting
use Rattle.rendering_taxonomy.specs.declared.formatting.Display.{Display}
use Rattle.rendering_taxonomy.proofs.Indices.{Decides-looks_like, Decides-formattings}
use Rattle.rendering_tree.specs.Laws.{says_something, begins_alike, joins, is_normal_child, is_normal}
use Rattle.rendering_tree.specs.Metas.{Meta}
use Rattle.rendering_tree.specs.Simplify.{is_whole, text_after, Puts}
use Rattle.rendering_tree.specs.Tokens.{Token, with_letters}
use Rattle.rendering_tree.specs.Trees.{Child, Children, Text, Elem, Markup, Link, Transparent, nothing, before, is_nothing, children_of, followed_by, enclosed, flat_child, flat, simplified}
use Rattle.rendering_tree.specs.Views.{child_view, children_view}
use Rattle.rendering_tree.specs.declared.element.ElemChild.{ElemChild}
use Rattle.rendering_tree.specs.declared.element.ElemChild.TheVariants as parts
use Rattle.rendering_tree.specs.declared.element.Formatted.{Formatted}
use Rattle.rendering_tree.proofs.ViewsEquality.{agreed}
use Rattle.rendering_tree.proofs.ViewsLevels.{child-Text}
use Rattle.rendering_tree.proofs.TreesReading.{with_letters-both, keeps_tokens}
use Rattle.rendering_tree.proofs.LawsNormal.{normals, normal_from, simplified_normal, is_simplified}

-- whether there are no children
pub none_in : (xs : List ElemChild) → (length xs == 0) ≡ is_nothing (children_view xs)
none_in [] = refl
none_in (x ∷ xs) = search rules

children_of-append : (xs ys : List Child) → children_of (xs ++ ys) ≡ followed_by (children_of xs) (children_of ys)
children_of-append [] ys = refl
children_of-append (x ∷ xs) ys = ap (before x) (children_of-append xs ys)

-- one run after another
pub children-append : (xs ys : List ElemChild) → children_view (xs ++ ys) ≡ followed_by (children_view xs) (children_view ys)
children-append xs ys = ap children_of (map-append child_view xs ys) ∙ children_of-append (map child_view xs) (map child_view ys)

-- a child after a list
pub put_last : (xs ys : List ElemChild) (x : ElemChild) → ys ≡ xs ++ x ∷ [] → children_view ys ≡ followed_by (children_view xs) (before (child_view x) nothing)
put_last xs ys x e = ap children_view e ∙ children-append xs (x ∷ [])

pub followed_by-nothing : (xs : Children) → followed_by xs nothing ≡ xs
followed_by-nothing nothing = refl
followed_by-nothing (before x xs) = ap (before x) (followed_by-nothing xs)

pub flat-followed_by : (xs ys : Children) → flat (followed_by xs ys) ≡ flat ys ++ flat xs
flat-followed_by nothing ys = sym (append-nil (flat ys))
flat-followed_by (before x xs) ys = ap (λ ts. ts ++ flat_child x) (flat-followed_by xs ys) ∙ append_assoc (flat ys) (flat xs) (flat_child x)

begins-first : (f : Formatting) (x : Child) (xs ys : Children) → begins_alike f (before x xs) ≡ begins_alike f (before x ys)
begins-first f (Text g cs) xs ys = refl
begins-first f (Elem d m zs) xs ys = refl
begins-first f (Markup cs) xs ys = refl
begins-first f (Link g cs url) xs ys = refl
begins-first f (Transparent g n) xs ys = refl

joins-followed_by : (x : Child) (xs ys zs : Children) → ((f : Formatting) → begins_alike f zs ≡ begins_alike f ys) → joins x (followed_by xs zs) ≡ joins x (followed_by xs ys)
joins-followed_by (Text f cs) nothing ys zs e = e f
joins-followed_by (Text f cs) (before w ws) ys zs e = begins-first f w (followed_by ws zs) (followed_by ws ys)
joins-followed_by (Elem d m vs) xs ys zs e = refl
joins-followed_by (Markup cs) xs ys zs e = refl
joins-followed_by (Link g cs url) xs ys zs e = refl
joins-followed_by (Transparent g n) xs ys zs e = refl

-- what comes after a list may be exchanged for what begins like it
pub normal-followed_by : (xs ys zs : Children) → is_normal (followed_by xs ys) ≡ true → is_normal zs ≡ true → ((f : Formatting) → begins_alike f zs ≡ begins_alike f ys)
    → is_normal (followed_by xs zs) ≡ true
normal-followed_by nothing ys zs h k e = k
normal-followed_by (before x xs) ys zs h k e =
    let p = normals x (followed_by xs ys) h in
    normal_from x (followed_by xs zs) p.first (ap not (joins-followed_by x xs ys zs e) ∙ p.apart) (normal-followed_by xs ys zs p.others k e)

pub followed_by-assoc : (xs ys zs : Children) → followed_by (followed_by xs ys) zs ≡ followed_by xs (followed_by ys zs)
followed_by-assoc nothing ys zs = refl
followed_by-assoc (before x xs) ys zs = ap (before x) (followed_by-assoc xs ys zs)

-- a child and a text are put
pub put_both : (xs ys zs : List ElemChild) (x : ElemChild) (t : Formatted) → ys ≡ xs ++ x ∷ [] → zs ≡ ys ++ parts.Text t ∷ []
    → children_view zs ≡ followed_by (children_view xs) (before (child_view x) (before (Text t.formatting (characters t.text)) nothing))
put_both xs ys zs x t d e =
    put_last ys zs (parts.Text t) e
    ∙ ap (λ rs. followed_by rs (before (child_view (parts.Text t)) nothing)) (put_last xs ys x d)
    ∙ followed_by-assoc (children_view xs) (before (child_view x) nothing) (before (child_view (parts.Text t)) nothing)
    ∙ ap (λ y. followed_by (children_view xs) (before (child_view x) (before y nothing))) (child-Text t)

-- two texts that look alike are put as one
pub put_joined : (xs ys : List ElemChild) (f : Formatting) (s : String Global) (ds : List ℕ) (g : Formatting) (cs : List ℕ)
    → ys ≡ xs ++ parts.Text (record { text = s; formatting = f }) ∷ [] → looks_like f g ≡ true → characters s ≡ ds ++ cs → children_view ys ≡ followed_by (children_view xs) (text_after (Text f ds) g cs)
put_joined xs ys f s ds g cs e looks is =
    put_last xs ys (parts.Text (record { text = s; formatting = f })) e
    ∙ ap (λ y. followed_by (children_view xs) (before y nothing)) (child-Text (record { text = s; formatting = f }) ∙ ap (Text f) is)
    ∙ ap (λ b. followed_by (children_view xs) (if b then before (Text f (ds ++ cs)) nothing else before (Text f ds) (before (Text g cs) nothing))) (sym looks)

pub not_false : (b : Bool) → not b ≡ false → b ≡ true
not_false true e = refl
not_false false e = sym e

-- what is equal looks alike
pub looks_equal : (f g : Formatting) → formatting.ghosts.eq f g ≡ true → looks_like f g ≡ true
looks_equal f g e = (Decides-looks_like f g).1 ((Decides-formattings f g).0 e)

-- what is not equal does not look alike
pub looks_other : (f g : Formatting) → formatting.ghosts.eq f g ≡ false → looks_like f g ≡ false
looks_other f g e = agreed (looks_like f g) (formatting.ghosts.eq f g) (Decides-looks_like f g) (Decides-formattings f g) ∙ e

-- two texts that do not look alike are put beside each other
pub apart : (xs : Children) (f g : Formatting) (ds cs : List ℕ) → looks_like f g ≡ false → followed_by xs (before (Text f ds) (before (Text g cs) nothing)) ≡ followed_by xs (text_after (Text f ds) g cs)
apart xs f g ds cs e = ap (λ b. followed_by xs (if b then before (Text f (ds ++ cs)) nothing else before (Text f ds) (before (Text g cs) nothing))) (sym e)

-- what follows where a call did not fail
pub on_ok : {T E P Q : Type 0} (r : Result T E) → (P → Q) → OnOk r P → OnOk r Q
on_ok (Ok x) f p = f p
on_ok (Err d) f p = tt

-- nothing is put
pub puts_nothing : (ts : List Token) (old new : Children) → ts ≡ [] → new ≡ old → Puts ts old new
puts_nothing ts old new e i = record { tokens = ap flat i ∙ ap (λ us. us ++ flat old) (sym e); normal = λ h. ap is_normal i ∙ h }

-- one thing is put, then another one
pub puts_both : (ts us : List Token) (old mid new : Children) → Puts ts old mid → Puts us mid new → Puts (us ++ ts) old new
puts_both ts us old mid new p q =
    record { tokens = q.tokens ∙ ap (λ vs. us ++ vs) p.tokens ∙ sym (append_assoc us ts (flat old)); normal = λ h. q.normal (p.normal h) }

whole_normal : (x : Child) → is_whole x ≡ true → is_normal_child x ≡ true
whole_normal (Text f cs) e = absurd (true≢false (sym e))
whole_normal (Elem d m zs) e = e
whole_normal (Markup cs) e = e
whole_normal (Link g cs url) e = e
whole_normal (Transparent g n) e = e

whole_alone : (x : Child) → is_whole x ≡ true → is_normal (before x nothing) ≡ true
whole_alone (Text f cs) e = absurd (true≢false (sym e))
whole_alone (Elem d m zs) e = normal_from (Elem d m zs) nothing e refl refl
whole_alone (Markup cs) e = refl
whole_alone (Link g cs url) e = refl
whole_alone (Transparent g n) e = refl

whole_begins : (f : Formatting) (x : Child) → is_whole x ≡ true → begins_alike f (before x nothing) ≡ false
whole_begins f (Text g cs) e = absurd (true≢false (sym e))
whole_begins f (Elem d m zs) e = refl
whole_begins f (Markup cs) e = refl
whole_begins f (Link g cs url) e = refl
whole_begins f (Transparent g n) e = refl

-- a child that is no text is put
pub puts_whole : (xs ys : List ElemChild) (x : ElemChild) → is_whole (child_view x) ≡ true → ys ≡ xs ++ x ∷ [] → Puts (flat_child (child_view x)) (children_view xs) (children_view ys)
puts_whole xs ys x w e = record {
  tokens = ap flat (put_last xs ys x e) ∙ flat-followed_by (children_view xs) (before (child_view x) nothing);
  normal = λ h.
      ap is_normal (put_last xs ys x e)
      ∙ normal-followed_by (children_view xs) nothing (before (child_view x) nothing) (ap is_normal (followed_by-nothing (children_view xs)) ∙ h) (whole_alone (child_view x) w) (λ f. whole_begins f (child_view x) w);
}

text_alone : (f : Formatting) (cs : List ℕ) → is_filled cs ≡ true → is_normal (before (Text f cs) nothing) ≡ true
text_alone f [] e = absurd (true≢false (sym e))
text_alone f (c ∷ cs) e = refl

-- the first text is put
pub puts_first : (f : Formatting) (cs : List ℕ) (old new : Children) → is_filled cs ≡ true → old ≡ nothing → new ≡ before (Text f cs) nothing → Puts (with_letters f cs []) old new
puts_first f cs old new e o n = record {
  tokens = ap flat n ∙ sym (append-nil (with_letters f cs [])) ∙ ap (λ us. with_letters f cs [] ++ us) (ap flat (sym o));
  normal = λ h. ap is_normal n ∙ text_alone f cs e;
}

longer_normal : (g : Formatting) (ds cs : List ℕ) → is_filled cs ≡ true → is_normal_child (Text g (ds ++ cs)) ≡ true
longer_normal g (d ∷ ds) cs e = refl
longer_normal g [] (c ∷ cs) e = refl
longer_normal g [] [] e = absurd (true≢false (sym e))

last_normal : (xs ys : Children) → is_normal (followed_by xs ys) ≡ true → is_normal ys ≡ true
last_normal nothing ys h = h
last_normal (before x xs) ys h = let p = normals x (followed_by xs ys) h in last_normal xs ys p.others

normal-joined_text : (xs : Children) (f g : Formatting) (cs ds : List ℕ) (b : Bool) → looks_like g f ≡ b → is_filled cs ≡ true → is_normal (followed_by xs (before (Text g ds) nothing)) ≡ true
    → is_normal (followed_by xs (if b then before (Text g (ds ++ cs)) nothing else before (Text g ds) (before (Text f cs) nothing))) ≡ true
normal-joined_text xs f g cs ds true e i h =
    normal-followed_by xs (before (Text g ds) nothing) (before (Text g (ds ++ cs)) nothing) h (normal_from (Text g (ds ++ cs)) nothing (longer_normal g ds cs i) refl refl) (λ h. refl)
normal-joined_text xs f g cs ds false e i h =
    let own = normals (Text g ds) nothing (last_normal xs (before (Text g ds) nothing) h) in
    normal-followed_by xs (before (Text g ds) nothing) (before (Text g ds) (before (Text f cs) nothing)) h
    (normal_from (Text g ds) (before (Text f cs) nothing) own.first (ap not e) (text_alone f cs i)) (λ h. refl)

normal-other_text : (xs : Children) (x : Child) (f : Formatting) (cs : List ℕ) → not (joins x (before (Text f cs) nothing)) ≡ true → is_filled cs ≡ true → is_normal (followed_by xs (before x nothing)) ≡ true
    → is_normal (followed_by xs (before x (before (Text f cs) nothing))) ≡ true
normal-other_text xs x f cs a i h =
    let own = normals x nothing (last_normal xs (before x nothing) h) in
    normal-followed_by xs (before x nothing) (before x (before (Text f cs) nothing)) h
    (normal_from x (before (Text f cs) nothing) own.first a (text_alone f cs i)) (λ g. begins-first g x (before (Text f cs) nothing) nothing)

normal-text_after : (xs : Children) (x : Child) (f : Formatting) (cs : List ℕ) → is_filled cs ≡ true → is_normal (followed_by xs (before x nothing)) ≡ true
    → is_normal (followed_by xs (text_after x f cs)) ≡ true
normal-text_after xs (Text g ds) f cs i h = normal-joined_text xs f g cs ds (looks_like g f) refl i h
normal-text_after xs (Elem d m zs) f cs i h = normal-other_text xs (Elem d m zs) f cs refl i h
normal-text_after xs (Markup ds) f cs i h = normal-other_text xs (Markup ds) f cs refl i h
normal-text_after xs (Link g ds url) f cs i h = normal-other_text xs (Link g ds url) f cs refl i h
normal-text_after xs (Transparent g n) f cs i h = normal-other_text xs (Transparent g n) f cs refl i h

flat-joined_text : (f g : Formatting) (cs ds : List ℕ) (b : Bool) → looks_like g f ≡ b
    → flat (if b then before (Text g (ds ++ cs)) nothing else before (Text g ds) (before (Text f cs) nothing)) ≡ with_letters f cs [] ++ with_letters g ds []
flat-joined_text f g cs ds true e = with_letters-both g ds cs ∙ ap (λ h. with_letters h cs [] ++ with_letters g ds []) ((Decides-looks_like g f).0 e)
flat-joined_text f g cs ds false e = refl

flat-text_after : (x : Child) (f : Formatting) (cs : List ℕ) → flat (text_after x f cs) ≡ with_letters f cs [] ++ flat (before x nothing)
flat-text_after (Text g ds) f cs = flat-joined_text f g cs ds (looks_like g f) refl
flat-text_after (Elem d m zs) f cs = refl
flat-text_after (Markup ds) f cs = refl
flat-text_after (Link g ds url) f cs = refl
flat-text_after (Transparent g n) f cs = refl

-- a text is put after the last child
pub puts_text : (xs : Children) (x : Child) (f : Formatting) (cs : List ℕ) (old new : Children) → is_filled cs ≡ true → old ≡ followed_by xs (before x nothing)
    → new ≡ followed_by xs (text_after x f cs) → Puts (with_letters f cs []) old new
puts_text xs x f cs old new i o n = record {
  tokens = ap flat n
      ∙ flat-followed_by xs (text_after x f cs)
      ∙ ap (λ ts. ts ++ flat xs) (flat-text_after x f cs)
      ∙ append_assoc (with_letters f cs []) (flat (before x nothing)) (flat xs)
      ∙ ap (λ ts. with_letters f cs [] ++ ts) (sym (flat-followed_by xs (before x nothing)) ∙ ap flat (sym o));
  normal = λ h. ap is_normal n ∙ normal-text_after xs x f cs i (ap is_normal (sym o) ∙ h);
}

filled_or : (cs : List ℕ) → is_filled cs ≡ false → cs ≡ []
filled_or [] e = refl
filled_or (c ∷ cs) e = absurd (true≢false e)

-- an empty text is not put
pub puts_empty : (f : Formatting) (cs : List ℕ) (old new : Children) → is_filled cs ≡ false → new ≡ old → Puts (with_letters f cs []) old new
puts_empty f cs old new e n = puts_nothing (with_letters f cs []) old new (ap (λ bs. with_letters f bs []) (filled_or cs e)) n

-- what was put into nothing is the whole in its normal form
pub puts_all : (ys old new : Children) → old ≡ nothing → Puts (flat ys) old new → new ≡ simplified ys
puts_all ys old new o p = is_simplified new ys (p.normal (ap is_normal o)) (p.tokens ∙ ap (λ xs. flat ys ++ flat xs) o ∙ append-nil (flat ys))

-- an element that says nothing is what it contains
pub silent : (d : Option Display) (m : Option Meta) (xs : Children) → says_something d m ≡ false → flat_child (Elem d m xs) ≡ flat xs
silent None None xs e = refl
silent None (Some m) xs e = absurd (true≢false e)
silent (Some d) None xs e = absurd (true≢false e)
silent (Some d) (Some m) xs e = absurd (true≢false e)

-- an element that says something, with what it contains in its normal form
pub whole_element : (d : Option Display) (m : Option Meta) (xs ys : Children) → says_something d m ≡ true → xs ≡ simplified ys → is_whole (Elem d m xs) ≡ true
whole_element d m xs ys s e = and_from (says_something d m) (is_normal xs) s (ap is_normal e ∙ simplified_normal ys)

-- it keeps its tokens
pub same_tokens : (d : Option Display) (m : Option Meta) (xs ys : Children) → xs ≡ simplified ys → flat_child (Elem d m xs) ≡ flat_child (Elem d m ys)
same_tokens d m xs ys e = ap (enclosed d m) (ap flat e ∙ keeps_tokens ys)
