-- What elements that say the same say by their attributes, and which elements are in them.
use Rattle.std.proofs.Common.{◌≡◌, ℕ, Bool, true, false, cond, List, [], ◌∷◌, map, Option, Some, None, option_map, is_none, is_some, true≢false, refl, sym, ap}
use Rattle.std.specs.List.{filter_map}
use Rattle.std.specs.Option.{option_map_or, option_and_then, unwrap_or}
use Rattle.std.specs.Str.{bytes_eq}
use Rattle.laws.specs.Text.{text}
use Rattle.xml_tree.specs.Trees.{Attribute, Element, Tagged, Content, Last, Next}
use Rattle.xml_schema.specs.Faults.{is_had, name_of}
use Rattle.csl_words.specs.Looking.{table, in_table, attribute, text_of, says, value_by, is_set, is_true, number_in, number, words_of, words_in, values_by}
use Rattle.csl_words.specs.Printing.{spaced, printed, printed_text}
use Rattle.csl_words.specs.Elements.{is_called, first_called, part_called}
use Rattle.csl_words.specs.declared.options.TheConstants.{BOOLEANS}
use Rattle.csl_locales.specs.Called.{all_called, called}
use Rattle.csl_laws.specs.Alike.{AreAlikeInside}
use Rattle.csl_laws.specs.Trees.{text_counts, Alike}
use Rattle.csl_laws.proofs.Reordered.{found_same}
use Rattle.csl_laws.proofs.SoundTogether.{had_by_name, alike_names}

-- each attribute has one value in both
abbrev pub SaySame : Element → Element → Type 0
SaySame x y = (name : List ℕ) → attribute name x ≡ attribute name y

pub alike_said : (x y : Element) → Alike x y → SaySame x y
alike_said (Tagged left n ps c) (Tagged right m bs d) a name = found_same (λ (v : Attribute). is_had name (record { v = v; left = 0 })) (had_by_name name) ps bs a.1

pub names_same : (x y : Element) → Alike x y → name_of x ≡ name_of y
names_same x y a = alike_names text_counts x y a

module _ (x y : Element) (h : SaySame x y) where
  pub value_same : {X : Type 0} (rows : List (List ℕ × X)) (name : List ℕ) → value_by rows name x ≡ value_by rows name y
  value_same {X} rows name = ap (option_and_then (λ (value : List ℕ). in_table rows (text value))) (h name)

  pub text_same : (name : List ℕ) → text_of name x ≡ text_of name y
  text_same name = ap (λ (o : Option (List ℕ)). unwrap_or o []) (h name)

  pub printed_same : (name : List ℕ) → printed name x ≡ printed name y
  printed_same name = ap (option_map spaced) (h name)

  pub printed_text_same : (name : List ℕ) → printed_text name x ≡ printed_text name y
  printed_text_same name = ap spaced (text_same name)

  pub says_same : (name word : List ℕ) → says name word x ≡ says name word y
  says_same name word = ap (λ (t : List ℕ). bytes_eq (text t) word) (text_same name)

  pub set_same : (name : List ℕ) → is_set name x ≡ is_set name y
  set_same name = value_same (table BOOLEANS.now) name

  pub true_same : (name : List ℕ) → is_true name x ≡ is_true name y
  true_same name = ap (λ (o : Option Bool). unwrap_or o false) (set_same name)

  pub number_same : (name : List ℕ) → number name x ≡ number name y
  number_same name = ap (option_and_then number_in) (h name)

  pub words_same : (name : List ℕ) → words_in name x ≡ words_in name y
  words_same name = ap (λ (t : List ℕ). words_of (text t)) (text_same name)

  pub values_same : {X : Type 0} (rows : List (List ℕ × X)) (name : List ℕ) → values_by rows name x ≡ values_by rows name y
  values_same {X} rows name = ap (filter_map (in_table rows)) (words_same name)

-- elements of that name that say the same, or none
abbrev pub AreFound : List ℕ → Option Element → Option Element → Type 0
AreFound name None None = Unit {0}
AreFound name None (Some f) = ⊥
AreFound name (Some e) None = ⊥
AreFound name (Some e) (Some f) = (is_called name (name_of e) ≡ true) × Alike e f

abbrev pub EachFound : List ℕ → List Element → List Element → Type 0
EachFound name [] [] = Unit {0}
EachFound name [] (f ∷ fs) = ⊥
EachFound name (e ∷ es) [] = ⊥
EachFound name (e ∷ es) (f ∷ fs) = (is_called name (name_of e) ≡ true) × Alike e f × EachFound name es fs

first_found : (name : List ℕ) (here : Bool) (c d : Content) → AreAlikeInside text_counts here c d → AreFound name (first_called name c) (first_called name d)
first_found name here (Last t) (Last u) a = tt
first_found name here (Last t) (Next u f d) a = absurd a
first_found name here (Next t e c) (Last u) a = absurd a
first_found name here (Next t e c) (Next u f d) (ts, es, rest) =
    by_test (is_called name (name_of e)) (is_called name (name_of f)) refl (ap (is_called name) (names_same e f es)) (first_called name c) (first_called name d) (first_found name here c d rest)
  where
    by_test : (a b : Bool) → is_called name (name_of e) ≡ a → a ≡ b → (o p : Option Element) → AreFound name o p → AreFound name (cond a (Some e) o) (cond b (Some f) p)
    by_test true true is same o p more = (is, es)
    by_test true false is same o p more = absurd (true≢false same)
    by_test false true is same o p more = absurd (true≢false (sym same))
    by_test false false is same o p more = more

pub part_found : (name : List ℕ) (x y : Element) → Alike x y → AreFound name (part_called name x) (part_called name y)
part_found name (Tagged left n ps c) (Tagged right m bs d) a = first_found name (text_counts (Tagged left n ps c)) c d a.2

all_found : (name : List ℕ) (here : Bool) (c d : Content) → AreAlikeInside text_counts here c d → EachFound name (all_called name c) (all_called name d)
all_found name here (Last t) (Last u) a = tt
all_found name here (Last t) (Next u f d) a = absurd a
all_found name here (Next t e c) (Last u) a = absurd a
all_found name here (Next t e c) (Next u f d) (ts, es, rest) =
    by_test (is_called name (name_of e)) (is_called name (name_of f)) refl (ap (is_called name) (names_same e f es)) (all_called name c) (all_called name d) (all_found name here c d rest)
  where
    by_test : (a b : Bool) → is_called name (name_of e) ≡ a → a ≡ b → (os ps : List Element) → EachFound name os ps → EachFound name (cond a (e ∷ os) os) (cond b (f ∷ ps) ps)
    by_test true true is same os ps more = (is, es, more)
    by_test true false is same os ps more = absurd (true≢false same)
    by_test false true is same os ps more = absurd (true≢false (sym same))
    by_test false false is same os ps more = more

pub called_found : (name : List ℕ) (x y : Element) → Alike x y → EachFound name (called name x) (called name y)
called_found name (Tagged left n ps c) (Tagged right m bs d) a = all_found name (text_counts (Tagged left n ps c)) c d a.2

-- what is made of them
pub made_same : {R : Type 0} (name : List ℕ) (F : Element → R) (otherwise : R) → ((e f : Element) → is_called name (name_of e) ≡ true → Alike e f → F e ≡ F f) → (o p : Option Element) → AreFound name o p
    → option_map_or F o otherwise ≡ option_map_or F p otherwise
made_same name F otherwise same None None a = refl
made_same name F otherwise same None (Some f) a = absurd a
made_same name F otherwise same (Some e) None a = absurd a
made_same name F otherwise same (Some e) (Some f) a = same e f a.0 a.1

pub mapped_same : {R : Type 0} (name : List ℕ) (F : Element → R) → ((e f : Element) → is_called name (name_of e) ≡ true → Alike e f → F e ≡ F f) → (o p : Option Element) → AreFound name o p
    → option_map F o ≡ option_map F p
mapped_same name F same None None a = refl
mapped_same name F same None (Some f) a = absurd a
mapped_same name F same (Some e) None a = absurd a
mapped_same {R} name F same (Some e) (Some f) a = ap (λ (r : R). Some r) (same e f a.0 a.1)

pub then_same : {R : Type 0} (name : List ℕ) (F : Element → Option R) → ((e f : Element) → is_called name (name_of e) ≡ true → Alike e f → F e ≡ F f) → (o p : Option Element) → AreFound name o p
    → option_and_then F o ≡ option_and_then F p
then_same name F same None None a = refl
then_same name F same None (Some f) a = absurd a
then_same name F same (Some e) None a = absurd a
then_same name F same (Some e) (Some f) a = same e f a.0 a.1

pub none_found : (name : List ℕ) (o p : Option Element) → AreFound name o p → is_none o ≡ is_none p
none_found name None None a = refl
none_found name None (Some f) a = absurd a
none_found name (Some e) None a = absurd a
none_found name (Some e) (Some f) a = refl

pub some_found : (name : List ℕ) (o p : Option Element) → AreFound name o p → is_some o ≡ is_some p
some_found name None None a = refl
some_found name None (Some f) a = absurd a
some_found name (Some e) None a = absurd a
some_found name (Some e) (Some f) a = refl

pub each_same : {R : Type 0} (name : List ℕ) (F : Element → R) → ((e f : Element) → is_called name (name_of e) ≡ true → Alike e f → F e ≡ F f) → (es fs : List Element) → EachFound name es fs
    → map F es ≡ map F fs
each_same name F same [] [] a = refl
each_same name F same [] (f ∷ fs) a = absurd a
each_same name F same (e ∷ es) [] a = absurd a
each_same name F same (e ∷ es) (f ∷ fs) (is, alike, rest) = λ j. same e f is alike j ∷ each_same name F same es fs rest j
