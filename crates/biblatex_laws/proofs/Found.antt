-- What a name means in two lists of entries that say the same, of which the second has more.
use Rattle.std.proofs.Common.{◌≡◌, ℕ, suc, Bool, true, false, cond, List, [], ◌∷◌, ◌++◌, codes, slice_get, Option, Some, None, refl, ap, subst, ◌∙◌}
use Rattle.std.specs.Prelude.{option_and_then}
use Rattle.std.specs.List.{AllZip, list_any}
use Rattle.std.specs.Option.{option_or}
use Rattle.std.specs.Str.{bytes_eq}
use Rattle.biblatex_entries.specs.Entries.{Source, names_of, text_in}
use Rattle.biblatex_entries.specs.Names.{listed}
use Rattle.biblatex_meaning.specs.Listed.{Listed, IsAsRead, after_first, last_named, entry_named}
use Rattle.biblatex_laws.specs.Reached.{SaysTheSame, SayTheSame}

-- an entry, if it has the name
abbrev if_named : List ℕ → Source → Option Source
if_named name e = cond (list_any (bytes_eq name) (names_of e)) (Some e) None

-- the last entry that has the name
abbrev pub found : List ℕ → List Source → Option Source
found name [] = None
found name (e ∷ es) = option_or (found name es) (if_named name e)

-- an index, and the entry that stands there
abbrev IsAtIndex : List Source → Option ℕ → Option Source → Type 0
IsAtIndex es None None = Unit {0}
IsAtIndex es None (Some e) = ⊥
IsAtIndex es (Some i) None = ⊥
IsAtIndex es (Some i) (Some e) = slice_get es i ≡ Some e

found_at : (name : List ℕ) (es : List Source) → IsAtIndex es (last_named name es) (found name es)
found_at name [] = tt
found_at name (e ∷ es) = by (last_named name es) (found name es) (list_any (bytes_eq name) (names_of e)) (found_at name es)
  where
    by : (o : Option ℕ) (p : Option Source) (b : Bool) → IsAtIndex es o p → IsAtIndex (e ∷ es) (after_first o b) (option_or p (cond b (Some e) None))
    by None None true h = refl
    by None None false h = tt
    by None (Some f) b h = absurd h
    by (Some i) None b h = absurd h
    by (Some i) (Some f) b h = h

stands : (es : List Source) (o : Option ℕ) (p : Option Source) → IsAtIndex es o p → option_and_then (slice_get es) o ≡ p
stands es None None h = refl
stands es None (Some e) h = absurd h
stands es (Some i) None h = absurd h
stands es (Some i) (Some e) h = h

-- in a file a name means the last entry that has it
pub named_found : (file : Listed) → IsAsRead file → (name : List ℕ) → entry_named name file ≡ found name file.entries
named_found file read name =
    ap (option_and_then (slice_get file.entries)) (read name) ∙ stands file.entries (last_named name file.entries) (found name file.entries) (found_at name file.entries)

or_same : (o p q r : Option Source) → SayTheSame o p → SayTheSame q r → SayTheSame (option_or o q) (option_or p r)
or_same None None q r h g = g
or_same None (Some f) q r h g = absurd h
or_same (Some e) None q r h g = absurd h
or_same (Some e) (Some f) q r h g = h

-- entries that say the same have the same names
names_same : (e f : Source) → SaysTheSame e f → names_of e ≡ names_of f
names_same e f h = λ i. h.key i ∷ listed (text_in (h.texts (codes "ids") i))

if_named_same : (name : List ℕ) (e f : Source) → SaysTheSame e f → SayTheSame (if_named name e) (if_named name f)
if_named_same name e f h =
    subst (λ (ns : List (List ℕ)). SayTheSame (if_named name e) (cond (list_any (bytes_eq name) ns) (Some f) None)) (names_same e f h) (by (list_any (bytes_eq name) (names_of e)))
  where
    by : (b : Bool) → SayTheSame (cond b (Some e) None) (cond b (Some f) None)
    by true = h
    by false = tt

found_same : (name : List ℕ) (es fs : List Source) → AllZip SaysTheSame es fs → SayTheSame (found name es) (found name fs)
found_same name [] [] h = tt
found_same name [] (f ∷ fs) h = absurd h
found_same name (e ∷ es) [] h = absurd h
found_same name (e ∷ es) (f ∷ fs) h = or_same (found name es) (found name fs) (if_named name e) (if_named name f) (found_same name es fs h.1) (if_named_same name e f h.0)

-- with more entries among them, none of which the name means
abbrev pub IsNone : Option Source → List Source → Type 0
IsNone o xs = (i : ℕ) (x : Source) → slice_get xs i ≡ Some x → o ≡ Some x → ⊥

found_before : (name : List ℕ) (xs after behind : List Source) → AllZip SaysTheSame after behind → IsNone (found name (xs ++ behind)) xs → SayTheSame (found name after) (found name (xs ++ behind))
found_before name [] after behind h none = found_same name after behind h
found_before name (x ∷ xs) after behind h none =
    by (found name after) (found name (xs ++ behind))
    (found_before name xs after behind h (λ i y at is. none (suc i) y at (ap (λ (o : Option Source). option_or o (if_named name x)) is)))
    (list_any (bytes_eq name) (names_of x)) (none 0 x refl)
  where
    by : (o p : Option Source) → SayTheSame o p → (b : Bool) → (option_or p (cond b (Some x) None) ≡ Some x → ⊥) → SayTheSame o (option_or p (cond b (Some x) None))
    by None None says true not_it = absurd (not_it refl)
    by None None says false not_it = tt
    by None (Some f) says b not_it = absurd says
    by (Some e) None says b not_it = absurd says
    by (Some e) (Some f) says b not_it = says

pub found_with : (name : List ℕ) (xs before ahead after behind : List Source) → AllZip SaysTheSame before ahead → AllZip SaysTheSame after behind
    → IsNone (found name (ahead ++ (xs ++ behind))) xs → SayTheSame (found name (before ++ after)) (found name (ahead ++ (xs ++ behind)))
found_with name xs [] [] after behind h g none = found_before name xs after behind g none
found_with name xs [] (f ∷ ahead) after behind h g none = absurd h
found_with name xs (e ∷ before) [] after behind h g none = absurd h
found_with name xs (e ∷ before) (f ∷ ahead) after behind h g none =
    or_same (found name (before ++ after)) (found name (ahead ++ (xs ++ behind))) (if_named name e) (if_named name f)
    (found_with name xs before ahead after behind h.1 g (λ i x at is. none i x at (ap (λ (o : Option Source). option_or o (if_named name f)) is)))
    (if_named_same name e f h.0)
