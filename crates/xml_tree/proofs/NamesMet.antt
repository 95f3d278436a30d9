-- Sets of names, name after name.
use Rattle.std.proofs.Common.{◌≡◌, ℕ, ◌+◌, ◌<◌, ◌≤◌, Bool, true, false, cond, not, ◌&&◌, ◌||◌, List, [], ◌∷◌, ◌++◌, length, map, drop, get_or, Option, Some, None, refl, sym, ap, ◌∙◌, arith}
use Rattle.std.proofs.Math.Path.{fun_ext}
use Rattle.std.proofs.lemmas.List.{at_drop_more, at_drop_all}
use Rattle.std.proofs.lemmas.List.Folds.{list_any-append}
use Rattle.std.proofs.lemmas.Map.Text.{is_eq-slice_cmp}
use Rattle.std.specs.Borrow.{Bor}
use Rattle.std.specs.List.{list_any}
use Rattle.std.specs.Option.{option_cmp}
use Rattle.std.specs.Str.{chars, bytes_eq, IsUtf8}
use Rattle.std.specs.Ordering.{is_eq, ordering_then, nat_cmp}
use Rattle.std.specs.Cmp.{tied_then}
use Rattle.std.specs.Cmp.Lexicographic.{slice_cmp}
use Rattle.std.specs.BTreeMap.{is_at}
use Rattle.std.specs.BTreeSet.{BTreeSet, contains, Updates}
use Rattle.laws.specs.Text.{text}
use Rattle.laws.proofs.Text.{text_of_chars}
use Rattle.xml_text.specs.Tokens.{At, Name}
use Rattle.xml_text.specs.Views.{placed_view}
use Rattle.xml_text.specs.declared.token.Placed.{Placed}
use Rattle.xml_tree.specs.Trees.{FullName}
use Rattle.xml_tree.specs.Scope.{same_text, same_name, same_full_name}
use Rattle.xml_tree.specs.Names.{Valued, is_written, repeated}
use Rattle.xml_tree.specs.Met.{name_of, named_by, Key, text_cmp, key_cmp, key_text, key_of, has_name, AreMet}
use Rattle.xml_tree.specs.Views.{full_name_view, attribute_view}
use Rattle.xml_tree.specs.declared.tree.Attribute.{Attribute}

-- a text against the bytes of another
text_at : (a : Bor (List ℕ)) (cs : List ℕ) → IsUtf8 a.now → is_eq (text_cmp a (key_text cs)) ≡ same_text (chars a.now) cs
text_at a cs u = is_eq-slice_cmp a.now (text cs) ∙ ap (λ (bs : List ℕ). bytes_eq bs (text cs)) (sym (text_of_chars a.now u))

-- a key against a name
plain_at : (a : Bor (List ℕ)) (q : Option (List ℕ)) (cs : List ℕ) → IsUtf8 a.now → is_at (key_cmp (None, a)) (key_of (name_of q cs)) ≡ same_name (name_of None (chars a.now)) (name_of q cs)
plain_at a None cs u = text_at a cs u
plain_at a (Some q) cs u = refl

prefixed_at : (p a : Bor (List ℕ)) (q : Option (List ℕ)) (cs : List ℕ) → IsUtf8 p.now → IsUtf8 a.now
    → is_at (key_cmp (Some p, a)) (key_of (name_of q cs)) ≡ same_name (name_of (Some (chars p.now)) (chars a.now)) (name_of q cs)
prefixed_at p a None cs u v = refl
prefixed_at p a (Some q) cs u v = sym (tied_then (text_cmp p (key_text q)) (text_cmp a (key_text cs))) ∙ (λ i. text_at p q u i && text_at a cs v i)

cond_or : (b c : Bool) → cond b true c ≡ (b || c)
cond_or true c = refl
cond_or false c = refl

-- a set with one more name
pub plain_added : (a : Bor (List ℕ)) (old new : BTreeSet Key) → IsUtf8 a.now → Updates key_cmp old new (None, a) true → (n : Name) → has_name new n ≡ (same_name (name_of None (chars a.now)) n || has_name old n)
plain_added a old new u updates n =
    updates.0 (key_of n) ∙ (ap (λ (b : Bool). cond b true (has_name old n)) (plain_at a n.prefix n.local u) ∙ cond_or (same_name (name_of None (chars a.now)) n) (has_name old n))

pub prefixed_added : (p a : Bor (List ℕ)) (old new : BTreeSet Key) → IsUtf8 p.now → IsUtf8 a.now → Updates key_cmp old new (Some p, a) true
    → (n : Name) → has_name new n ≡ (same_name (name_of (Some (chars p.now)) (chars a.now)) n || has_name old n)
prefixed_added p a old new u v updates n =
    updates.0 (key_of n) ∙ (ap (λ (b : Bool). cond b true (has_name old n)) (prefixed_at p a n.prefix n.local u v) ∙ cond_or (same_name (name_of (Some (chars p.now)) (chars a.now)) n) (has_name old n))

-- a set has a key where it has the name
text_same : (a b : Bor (List ℕ)) → IsUtf8 a.now → text_cmp a b ≡ text_cmp (key_text (chars a.now)) b
text_same a b u = ap (λ (bs : List ℕ). slice_cmp nat_cmp bs b.now) (sym (text_of_chars a.now u))

prefix_same : (p : Bor (List ℕ)) (o : Option (Bor (List ℕ))) → IsUtf8 p.now → option_cmp text_cmp (Some p) o ≡ option_cmp text_cmp (Some (key_text (chars p.now))) o
prefix_same p None u = refl
prefix_same p (Some b) u = text_same p b u

pub plain_had : (a : Bor (List ℕ)) (s : BTreeSet Key) → IsUtf8 a.now → contains key_cmp s (None, a) ≡ has_name s (name_of None (chars a.now))
plain_had a s u = ap (λ (test : Key → Bool). list_any test s.keys) (fun_ext (λ (k : Key). λ i. is_eq (ordering_then (option_cmp text_cmp None k.0) (text_same a k.1 u i))))

pub prefixed_had : (p a : Bor (List ℕ)) (s : BTreeSet Key) → IsUtf8 p.now → IsUtf8 a.now → contains key_cmp s (Some p, a) ≡ has_name s (name_of (Some (chars p.now)) (chars a.now))
prefixed_had p a s u v = ap (λ (test : Key → Bool). list_any test s.keys) (fun_ext (λ (k : Key). λ i. is_eq (ordering_then (prefix_same p k.0 u i) (text_same a k.1 v i))))

-- ---- attributes as they are written

or_turned : (a b : Bool) → (a || b) ≡ (b || (a || false))
or_turned true true = refl
or_turned true false = refl
or_turned false true = refl
or_turned false false = refl

pub none_met : (s : BTreeSet Key) → s.keys ≡ [] → AreMet s []
none_met s none n = ap (λ (ks : List Key). list_any (is_at (key_cmp (key_of n))) ks) none

pub met_more : (old new : BTreeSet Key) (earlier : List (At Valued)) (v : At Valued) → AreMet old earlier → ((n : Name) → has_name new n ≡ (same_name v.v.name n || has_name old n)) → AreMet new (earlier ++ v ∷ [])
met_more old new earlier v so_far added n =
    added n ∙ (ap (λ (b : Bool). same_name v.v.name n || b) (so_far n)
    ∙ (or_turned (same_name v.v.name n) (is_written earlier n) ∙ sym (list_any-append (λ (w : At Valued). same_name w.v.name n) earlier (v ∷ []))))

-- what adding a name says of it
pub was_met : (b h : Bool) → b ≡ not h → b ≡ false → h ≡ true
was_met b true e f = refl
was_met b false e f = absurd cc

pub was_new : (b h : Bool) → b ≡ not h → b ≡ true → h ≡ false
was_new b false e f = refl
was_new b true e f = absurd cc

-- ---- expanded names

-- a set has the expanded name
abbrev pub has_full : BTreeSet Key → FullName → Bool
has_full s n = has_name s (named_by n)

pub none_repeated : (s : BTreeSet Key) (xs : List (Placed Attribute)) → s.keys ≡ [] → repeated (has_full s) (map (placed_view attribute_view) xs) ≡ repeated (λ n. false) (map (placed_view attribute_view) xs)
none_repeated s xs none =
    ap (λ (met : FullName → Bool). repeated met (map (placed_view attribute_view) xs)) (fun_ext (λ (n : FullName). ap (λ (ks : List Key). list_any (is_at (key_cmp (key_of (named_by n)))) ks) none))

module _ (s : BTreeSet Key) (xs : List (Placed Attribute)) (i : ℕ) (x : Placed Attribute) (all : Option ℕ) (so_far : repeated (has_full s) (map (placed_view attribute_view) (drop i xs)) ≡ all) where
  pub repeated_here : i < length xs → x ≡ get_or xs i x → has_full s (full_name_view x.v.name) ≡ true → all ≡ Some x.left
  repeated_here less is met =
      let here : has_full s (full_name_view (get_or xs i x).v.name) ≡ true = ap (λ (y : Placed Attribute). has_full s (full_name_view y.v.name)) (sym is) ∙ met in
      let next : repeated (has_full s) (map (placed_view attribute_view) (get_or xs i x ∷ drop (i + 1) xs)) ≡ Some (get_or xs i x).left = rw here refl in
      sym so_far ∙ (at_drop_more (λ (ys : List (Placed Attribute)). repeated (has_full s) (map (placed_view attribute_view) ys)) xs i x less ∙ (next ∙ ap (λ (y : Placed Attribute). Some y.left) (sym is)))

  pub repeated_later : (new : BTreeSet Key) → i < length xs → x ≡ get_or xs i x → has_full s (full_name_view x.v.name) ≡ false
      → ((n : Name) → has_name new n ≡ (same_name (named_by (full_name_view x.v.name)) n || has_name s n)) → repeated (has_full new) (map (placed_view attribute_view) (drop (i + 1) xs)) ≡ all
  repeated_later new less is met added =
      let others = map (placed_view attribute_view) (drop (i + 1) xs) in
      let here : has_full s (full_name_view (get_or xs i x).v.name) ≡ false = ap (λ (y : Placed Attribute). has_full s (full_name_view y.v.name)) (sym is) ∙ met in
      let tests : has_full new ≡ (λ n. same_full_name (full_name_view x.v.name) n || has_full s n) = fun_ext (λ (n : FullName). added (named_by n)) in
      let next : repeated (has_full s) (map (placed_view attribute_view) (get_or xs i x ∷ drop (i + 1) xs)) ≡ repeated (λ n. same_full_name (full_name_view (get_or xs i x).v.name) n || has_full s n) others = rw here refl in
      ap (λ (met : FullName → Bool). repeated met others) tests ∙ (ap (λ (y : Placed Attribute). repeated (λ n. same_full_name (full_name_view y.v.name) n || has_full s n) others) is
      ∙ (sym next ∙ (sym (at_drop_more (λ (ys : List (Placed Attribute)). repeated (has_full s) (map (placed_view attribute_view) ys)) xs i x less) ∙ so_far)))

pub repeated_nowhere : (s : BTreeSet Key) (xs : List (Placed Attribute)) (i : ℕ) (all : Option ℕ) → repeated (has_full s) (map (placed_view attribute_view) (drop i xs)) ≡ all → length xs ≤ i → all ≡ None
repeated_nowhere s xs i all so_far past = sym so_far ∙ at_drop_all (λ (ys : List (Placed Attribute)). repeated (has_full s) (map (placed_view attribute_view) ys)) xs i past

-- a name alone is not repeated
pub alone_unrepeated : (xs : List (Placed Attribute)) → length xs < 2 → None ≡ repeated (λ n. false) (map (placed_view attribute_view) xs)
alone_unrepeated [] few = refl
alone_unrepeated (x ∷ []) few = refl
alone_unrepeated (x ∷ y ∷ xs) few = absurd (omega arith)
