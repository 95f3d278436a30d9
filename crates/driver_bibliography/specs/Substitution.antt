-- How a text replaces names that repeat those of the item before.
use Rattle.std.specs.Prelude.{ℕ, zero, suc, Bool, true, false, ◌&&◌, ◌||◌, min, List, [], ◌∷◌, filter, length, if◌then◌else◌, Option, Some, None}
use Rattle.std.specs.List.{common_prefix_len}
use Rattle.std.specs.Option.{option_map, option_map_or, option_or, unwrap_or}
use Rattle.std.specs.Cmp.Lexicographic.{pointwise}
use Rattle.rendering_taxonomy.specs.Formats.{plain}
use Rattle.rendering_tree.specs.Metas.{Meta, Name, is_names}
use Rattle.rendering_tree.specs.Same.{are_children, is_element}
use Rattle.rendering_tree.specs.Trees.{Child, Children, Text, Elem, Markup, Link, Transparent, nothing, before, Element, elements, followed_by, simplified}
use Rattle.rendering_taxonomy.specs.declared.formatting.Display.{Display}
use Rattle.rendering_taxonomy.specs.declared.style.SubsequentAuthorSubstituteRule.{SubsequentAuthorSubstituteRule}
use Rattle.rendering_taxonomy.specs.declared.style.SubsequentAuthorSubstituteRule.TheVariants as rules

-- a text without a look of its own
abbrev pub text_alone : List ℕ → Children
text_alone cs = before (Text plain cs) nothing

-- whether an element stands for a single name
abbrev pub is_name : Meta → Bool
is_name (Name v n) = true
is_name m = false

-- whether an element stands for something that is a single name
abbrev pub is_some_name : Option Meta → Bool
is_some_name m = option_map_or is_name m false

-- the single names in an element, in order
abbrev pub name_list : Element → List Element
name_list e = filter (λ n. is_some_name n.meta) (elements e.children)

-- What the text replaces of a names element: nothing, all of it, its lists of single names, or so many of these names, from the first on.
pub data Repeated : Type 0 where
  none_of_them : Repeated
  all_of_them : Repeated
  lists_of_them : Repeated
  first_of_them : ℕ → Repeated

-- all of it, where the names are the same
abbrev pub all_if : Bool → Repeated
all_if true = all_of_them
all_if false = none_of_them

-- all names, where they are the same: the element, or, where the text stands for names alone, the lists in it
abbrev pub names_if : Bool → Bool → Repeated
names_if alone same = if alone && same then lists_of_them else all_if same

-- whether two single names are the same: whether their elements are, or, where the text stands for names alone, what they print
abbrev pub is_same_name : Bool → Element → Element → Bool
is_same_name false n m = is_element n m
is_same_name true n m = are_children n.children m.children

-- What is repeated of a names element without single names: all of it, where it is the same as the one before.
abbrev pub repeated_whole : Element → Element → Repeated
repeated_whole e last = all_if (is_element e last)

-- what is repeated of single names by a rule, against those of the element before
abbrev pub repeated_by : Bool → SubsequentAuthorSubstituteRule → List Element → List Element → Repeated
repeated_by alone rules.CompleteAll names last = names_if alone (pointwise (is_same_name alone) names last)
repeated_by alone rules.CompleteEach names last = if pointwise (is_same_name alone) names last then first_of_them (length names) else none_of_them
repeated_by alone rules.PartialEach names last = first_of_them (common_prefix_len (is_same_name alone) names last)
repeated_by alone rules.PartialFirst names last = first_of_them (min 1 (common_prefix_len (is_same_name alone) names last))

-- what is repeated of a names element, against the one before
abbrev pub repeated_of : Bool → SubsequentAuthorSubstituteRule → Element → Element → List Element → Repeated
repeated_of alone rule e last [] = repeated_whole e last
repeated_of alone rule e last (n ∷ ns) = repeated_by alone rule (n ∷ ns) (name_list last)

-- what is repeated of a names element by a rule, where there is one before it
abbrev pub repeated : Bool → SubsequentAuthorSubstituteRule → Option Element → Option Element → Repeated
repeated alone rule (Some last) (Some e) = repeated_of alone rule e last (name_list e)
repeated alone rule last e = none_of_them

-- an element while n names are wanted: with none wanted as it is; a single name becomes the text; another one has what was made inside it
abbrev pub name_replaced_or_inside : Children → Option Display → Option Meta → Children → Children × ℕ → ℕ → Child × ℕ
name_replaced_or_inside text d m xs inside zero = (Elem d m xs, zero)
name_replaced_or_inside text d m xs inside (suc n) = if is_some_name m then (Elem d m text, n) else (Elem d m inside.0, inside.1)

-- a child before the others, in which so many names are still wanted
abbrev pub then_others : Child × ℕ → (ℕ → Children × ℕ) → Children × ℕ
then_others (x, n) others = (before x (others n).0, (others n).1)

abbrev mutual
  -- a child in which the text replaces so many single names, and how many are then still wanted
  pub names_replaced_in : Children → Child → ℕ → Child × ℕ
  names_replaced_in text (Text f cs) n = (Text f cs, n)
  names_replaced_in text (Elem d m xs) n = name_replaced_or_inside text d m xs (names_replaced text xs n) n
  names_replaced_in text (Markup cs) n = (Markup cs, n)
  names_replaced_in text (Link f cs url) n = (Link f cs url, n)
  names_replaced_in text (Transparent f k) n = (Transparent f k, n)

  -- children in which the text replaces so many single names, and how many are then still wanted
  pub names_replaced : Children → Children → ℕ → Children × ℕ
  names_replaced text nothing n = (nothing, n)
  names_replaced text (before x xs) n = then_others (names_replaced_in text x n) (λ k. names_replaced text xs k)

-- whether a child is a single name
abbrev pub is_single_name : Child → Bool
is_single_name (Text f cs) = false
is_single_name (Elem d m xs) = is_some_name m
is_single_name (Markup cs) = false
is_single_name (Link f cs url) = false
is_single_name (Transparent f k) = false

-- whether one of the children is
abbrev pub has_single_names : Children → Bool
has_single_names nothing = false
has_single_names (before x xs) = is_single_name x || has_single_names xs

-- what stands before the first single name
abbrev pub before_names : Children → Children
before_names nothing = nothing
before_names (before x xs) = if is_single_name x then nothing else before x (before_names xs)

-- what stands after the last one, where there are some
abbrev pub after_names : Children → Children
after_names nothing = nothing
after_names (before x xs) = if has_single_names xs then after_names xs else xs

-- children with the text in the place of the list of single names in them, and of what stands between these
abbrev pub list_replaced : Children → Children → Children
list_replaced text xs = followed_by (before_names xs) (followed_by text (after_names xs))

abbrev mutual
  -- a child with the text in the place of each list of single names
  pub lists_replaced_in : Children → Child → Child
  lists_replaced_in text (Text f cs) = Text f cs
  lists_replaced_in text (Elem d m xs) = Elem d m (if has_single_names xs then list_replaced text xs else lists_replaced text xs)
  lists_replaced_in text (Markup cs) = Markup cs
  lists_replaced_in text (Link f cs url) = Link f cs url
  lists_replaced_in text (Transparent f k) = Transparent f k

  -- children with it
  pub lists_replaced : Children → Children → Children
  lists_replaced text nothing = nothing
  lists_replaced text (before x xs) = before (lists_replaced_in text x) (lists_replaced text xs)

-- whether an element stands for a names node
abbrev pub is_some_names : Option Meta → Bool
is_some_names m = option_map_or is_names m false

-- a names element with its children changed; another one with what was changed inside it, if anything was
abbrev pub names_changed_or_inside : (Children → Children) → Option Display → Option Meta → Children → Option Children → Option Child
names_changed_or_inside change d m xs inside = if is_some_names m then Some (Elem d m (change xs)) else option_map (λ ys. Elem d m ys) inside

-- a changed child before the others as they were; where it was not changed, the child as it was before the changed others
abbrev pub changed_or_others : Child → Children → Option Child → Option Children → Option Children
changed_or_others x xs (Some y) others = Some (before y xs)
changed_or_others x xs None others = option_map (λ ys. before x ys) others

abbrev mutual
  -- a child whose first names element has its children changed, where it has one
  pub changed_in : (Children → Children) → Child → Option Child
  changed_in change (Text f cs) = None
  changed_in change (Elem d m xs) = names_changed_or_inside change d m xs (changed change xs)
  changed_in change (Markup cs) = None
  changed_in change (Link f cs url) = None
  changed_in change (Transparent f k) = None

  -- children whose first names element has its children changed, where they have one
  pub changed : (Children → Children) → Children → Option Children
  changed change nothing = None
  changed change (before x xs) = changed_or_others x xs (changed_in change x) (changed change xs)

-- a tree whose first names element has its children changed; as it was, where it has none
abbrev pub with_names : (Children → Children) → Children → Children
with_names change tree = unwrap_or (changed change tree) tree

-- a tree with the text instead of what is repeated of its first names element
abbrev pub text_for : List ℕ → Repeated → Children → Children
text_for text none_of_them tree = tree
text_for text all_of_them tree = with_names (λ xs. text_alone text) tree
text_for text lists_of_them tree = with_names (lists_replaced (text_alone text)) tree
text_for text (first_of_them n) tree = with_names (λ xs. (names_replaced (text_alone text) xs n).0) tree

-- What is printed of an item: its tree, and its first names as they were before texts met.
pub record Printed : Type 0 where
  pub tree : Children
  pub names : Option Element

-- each item with the names of the last item before it that has some
abbrev pub with_names_before : Option Element → List Printed → List (Option Element × Printed)
with_names_before last [] = []
with_names_before last (p ∷ ps) = (last, p) ∷ with_names_before (option_or p.names last) ps

-- An item after names, with the text instead of what it repeats.
abbrev pub substituted : Bool → SubsequentAuthorSubstituteRule → List ℕ → Option Element × Printed → Children
substituted alone rule text (last, p) = simplified (text_for text (repeated alone rule last p.names) p.tree)
