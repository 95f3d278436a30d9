-- Two entries answer alike to all that is named where they do so to each variable and to each kind.
use Rattle.std.proofs.Common.{◌≡◌, ◌↔◌, ◌+◌, ◌<◌, ◌≤◌, ℕ, Bool, true, false, IsTrue, List, [], ◌∷◌, length, map, get_or, drop, true≢false, refl, sym, subst}
use Rattle.std.specs.Prelude.{Contains}
use Rattle.std.specs.List.{AllByRecursion}
use Rattle.std.proofs.lemmas.Bool.{iff_false}
use Rattle.std.proofs.lemmas.List.{at_drop_more, drop_all}
use Rattle.std.proofs.lemmas.List.Elements.{All-contains, All-from_recursion, Contains-get_or, recursion_from_All}
use Rattle.rendering_entries.specs.Answers.{Answers}
use Rattle.rendering_nodes.specs.Named.{AnswerAlike, AreAlike, Named}
use Rattle.rendering_taxonomy.specs.declared.date.LongShortForm.{LongShortForm}
use Rattle.rendering_taxonomy.specs.declared.date.LongShortForm.TheVariants as forms
use Rattle.rendering_taxonomy.specs.declared.kind.Kind.{Kind}
use Rattle.rendering_taxonomy.specs.declared.variable.StandardVariable.{StandardVariable}
use Rattle.rendering_taxonomy.specs.declared.variable.Variable.{Variable}
use Rattle.rendering_taxonomy.specs.declared.variable.Variable.TheVariants as variables
use Rattle.rendering_alike.specs.Naming.{NameTheSame}

-- what holds of each member
pub each_member : {X : Type 0} (P : X → Type 0) (xs : List X) → ((x : X) → Contains xs x → P x) ↔ AllByRecursion P xs
each_member P xs = (
  λ h. recursion_from_All P xs (λ k d low. h _ (Contains-get_or xs k d low)),
  λ all x has. All-contains P xs x (All-from_recursion P xs all) has,
)

module _ (n : Named) (a b : Answers) where
  abbrev KindAlike : Kind → Type 0
  KindAlike k = a.kind k ≡ b.kind k

  abbrev OneText : Variable → Type 0
  OneText v = a.written v ≡ b.written v

  pub all_alike : (so : Bool) → a.english ≡ b.english → AllByRecursion KindAlike n.kinds → AllByRecursion (AnswerAlike a b) n.variables → (IsTrue so ↔ AllByRecursion OneText n.written) → IsTrue so ↔ AreAlike n a b
  all_alike so english kinds variables written = (
    λ is. record {
      variables = (each_member (AnswerAlike a b) n.variables).1 variables;
      written = (each_member OneText n.written).1 (written.0 is);
      kinds = (each_member KindAlike n.kinds).1 kinds;
      english = english;
    },
    λ alike. written.1 ((each_member OneText n.written).0 alike.written),
  )

  pub not_each_alike : (AllByRecursion (AnswerAlike a b) n.variables → ⊥) → IsTrue false ↔ AreAlike n a b
  not_each_alike never = (λ is. absurd (true≢false (sym is)), λ alike. absurd (never ((each_member (AnswerAlike a b) n.variables).0 alike.variables)))

  pub not_all_alike : (AllByRecursion KindAlike n.kinds → ⊥) → IsTrue false ↔ AreAlike n a b
  not_all_alike never = (λ is. absurd (true≢false (sym is)), λ alike. absurd (never ((each_member KindAlike n.kinds).0 alike.kinds)))

  pub not_one_language : (a.english ≡ b.english → ⊥) → IsTrue false ↔ AreAlike n a b
  not_one_language never = (λ is. absurd (true≢false (sym is)), λ alike. absurd (never alike.english))

  -- the same where as much is named, in another order or more often
  pub alike_same : (m : Named) → NameTheSame n m → AreAlike n a b ↔ AreAlike m a b
  alike_same m same = (
    λ h. record {
      variables = λ v has. h.variables v ((same.variables v).1 has);
      written = λ v has. h.written v ((same.written v).1 has);
      kinds = λ k has. h.kinds k ((same.kinds k).1 has);
      english = h.english;
    },
    λ h. record {
      variables = λ v has. h.variables v ((same.variables v).0 has);
      written = λ v has. h.written v ((same.written v).0 has);
      kinds = λ k has. h.kinds k ((same.kinds k).0 has);
      english = h.english;
    },
  )

-- a text in both forms
module _ (a b : Answers) (v : StandardVariable) where
  abbrev InForm : LongShortForm → Type 0
  InForm form = a.standard form v ≡ b.standard form v

  pub both_forms : (so : Bool) → InForm forms.Long → (IsTrue so ↔ InForm forms.Short) → IsTrue so ↔ AnswerAlike a b (variables.Standard v)
  both_forms so long short = (λ is. by (short.0 is), λ alike. short.1 (alike forms.Short))
    where
      by : InForm forms.Short → (form : LongShortForm) → InForm form
      by is forms.Long = long
      by is forms.Short = is

-- what holds of each member, by what is left of a list
module _ {X : Type 0} (P : X → Type 0) (xs : List X) (i : ℕ) (left : AllByRecursion P (drop i xs) ↔ AllByRecursion P xs) where
  module _ (d : X) (b : Bool) (low : i < length xs) (decided : IsTrue b ↔ P (get_or xs i d)) where
    cut : drop i xs ≡ get_or xs i d ∷ drop (i + 1) xs
    cut = at_drop_more (λ ys. ys) xs i d low

    pub one_less : b ≡ true → AllByRecursion P (drop (i + 1) xs) ↔ AllByRecursion P xs
    one_less so = (λ all. left.0 (subst (AllByRecursion P) (sym cut) (decided.0 so, all)), λ all. (subst (AllByRecursion P) cut (left.1 all)).1)

    pub not_this : b ≡ false → IsTrue false ↔ AllByRecursion P xs
    not_this fails = (λ so. absurd (true≢false (sym so)), λ all. absurd (iff_false decided fails (subst (AllByRecursion P) cut (left.1 all)).0))

  pub none_left : length xs ≤ i → IsTrue true ↔ AllByRecursion P xs
  none_left past = (λ so. left.0 (subst (AllByRecursion P) (sym (drop_all i xs past)) tt), λ all. refl)

-- what holds of each member as it is seen
pub each_seen : {X Y : Type 0} (P : Y → Type 0) (f : X → Y) (xs : List X) → AllByRecursion (λ x. P (f x)) xs ↔ AllByRecursion P (map f xs)
each_seen P f [] = (λ h. h, λ h. h)
each_seen P f (x ∷ xs) = let more = each_seen P f xs in (λ h. (h.0, more.0 h.1), λ h. (h.0, more.1 h.1))
