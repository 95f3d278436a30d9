-- Texts that may stand in the braces of a piece.
use Rattle.std.proofs.Common.{◌≡◌, ℕ, zero, suc, true, false, not, List, [], ◌∷◌, ◌++◌, refl, sym, ap, subst, ◌∙◌, append_assoc}
use Rattle.std.specs.List.{list_all}
use Rattle.laws.specs.Characters.{backslash, open_brace, close_brace}
use Rattle.biblatex_content.proofs.Tests.{first_of_two, second_of_two, not_true}
use Rattle.biblatex_grammar.specs.Balanced.{Balanced, nothing, character, group, written, Braces, Stands, bars}
use Rattle.biblatex_grammar.specs.Balanced.{escaped as taken}
use Rattle.biblatex_reading_back.specs.Laws.{IsBalancedText}

pub empty : IsBalancedText []
empty = record { tree = nothing; stands = tt; text = refl }

-- a character that is no brace and no backslash
pub more_character : (c : ℕ) (cs : List ℕ) → bars Braces c ≡ false → IsBalancedText cs → IsBalancedText (c ∷ cs)
more_character c cs free t = record { tree = character c t.tree; stands = (free, t.stands); text = ap (λ (x : List ℕ). c ∷ x) t.text }

-- a backslash and the character after it
pub more_taken : (c : ℕ) (cs : List ℕ) → IsBalancedText cs → IsBalancedText (backslash ∷ c ∷ cs)
more_taken c cs t = record { tree = taken c t.tree; stands = (refl, t.stands); text = ap (λ (x : List ℕ). backslash ∷ c ∷ x) t.text }

-- braces
pub more_group : (inner cs : List ℕ) → IsBalancedText inner → IsBalancedText cs → IsBalancedText (open_brace ∷ (inner ++ close_brace ∷ cs))
more_group inner cs i t = record {
  tree = group i.tree t.tree;
  stands = (i.stands, t.stands);
  text = ap (λ (x : List ℕ). open_brace ∷ (x ++ close_brace ∷ cs)) i.text ∙ ap (λ (x : List ℕ). open_brace ∷ (written i.tree ++ close_brace ∷ x)) t.text;
}

-- characters of which none is a brace or a backslash
pub more_characters : (ds cs : List ℕ) → list_all (λ d. not (bars Braces d)) ds ≡ true → IsBalancedText cs → IsBalancedText (ds ++ cs)
more_characters [] cs free t = t
more_characters (d ∷ ds) cs free t =
    more_character d (ds ++ cs) (not_true (bars Braces d) (first_of_two (not (bars Braces d)) (list_all (λ x. not (bars Braces x)) ds) free))
    (more_characters ds cs (second_of_two (not (bars Braces d)) (list_all (λ x. not (bars Braces x)) ds) free) t)

-- one text after the other
joined : (t u : Balanced) → Stands Braces t → Stands Braces u → IsBalancedText (written t ++ written u)
joined nothing u s v = record { tree = u; stands = v; text = refl }
joined (character c t) u s v = more_character c (written t ++ written u) s.0 (joined t u s.1 v)
joined (taken c t) u s v = more_taken c (written t ++ written u) (joined t u s.1 v)
joined (group i t) u s v =
    subst (λ (x : List ℕ). IsBalancedText (open_brace ∷ x)) (sym (append_assoc (written i) (close_brace ∷ written t) (written u)))
    (more_group (written i) (written t ++ written u) (record { tree = i; stands = s.0; text = refl }) (joined t u s.1 v))

pub both : (cs ds : List ℕ) → IsBalancedText cs → IsBalancedText ds → IsBalancedText (cs ++ ds)
both cs ds t u = subst IsBalancedText (ap (λ (x : List ℕ). x ++ written u.tree) (sym t.text) ∙ ap (λ (x : List ℕ). cs ++ x) (sym u.text)) (joined t.tree u.tree t.stands u.stands)

-- Balanced texts with so many closing braces between them.
abbrev pub AreClosed : ℕ → List ℕ → Type 0
AreClosed zero cs = IsBalancedText cs
AreClosed (suc depth) cs = (inner : List ℕ) × (rest : List ℕ) × IsBalancedText inner × (cs ≡ inner ++ close_brace ∷ rest) × AreClosed depth rest

-- what may stand before a balanced text may stand before the first of several
pub before_first : (f : List ℕ → List ℕ) → ((xs ys : List ℕ) → f (xs ++ ys) ≡ f xs ++ ys) → ((xs : List ℕ) → IsBalancedText xs → IsBalancedText (f xs)) → (depth : ℕ) (cs : List ℕ) → AreClosed depth cs → AreClosed depth (f cs)
before_first f parts more zero cs t = more cs t
before_first f parts more (suc depth) cs (inner, rest, t, is, others) = (f inner, rest, more inner t, ap f is ∙ parts inner (close_brace ∷ rest), others)
