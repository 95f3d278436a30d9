-- The tokens of a text stay what they are where another text follows them, but for the places at which they stand.
use Rattle.std.proofs.Common.{◌≡◌, ◌≤◌, inl, inr, ℕ, Bool, true, false, cond, not, ◌||◌, ◌==◌, List, [], ◌∷◌, ◌++◌, length, is_ok, Ok, Err, codes, true≢false, refl, sym, ap, ◌∙◌, subst, append_assoc, arith, eqb-true}
use Rattle.laws.specs.Results.{◌>>=◌}
use Rattle.laws.specs.Runs.{AllPassTest}
use Rattle.xml_text.specs.Tokens.{At, Name, Attribute, Tag, Token, Start, End, Characters, Refers, Section, Nothing}
use Rattle.xml_text.specs.Reading.{Refusal, left_of, word_at, stands}
use Rattle.xml_text.specs.Grammar.{IsSpace, IsPlainName, IsName, IsReference, AreAttributes, IsTagEnd, IsStartTag, IsEndTag, IsInstruction, IsComment, IsSection, EndsData, IsToken, AreTokens}
use Rattle.csl_laws.specs.Places.{AreEachSame, IsSameAttribute, IsSameTag, IsSameToken, AreSameTokens}
use Rattle.csl_laws.proofs.MovedAttributes.{head, heads, begins_again, Frees, Moves, Then, Again, frees_as, then_moves, until, space_moves, plain_moves, name_moves, reference_frees, attributes_move}

-- ---- words that end texts

one_word : (w c : ℕ) (ws cs : List ℕ) → stands (w ∷ ws) (c ∷ cs) ≡ cond (c == w) (stands ws cs) false
one_word w c ws cs = by_test (c == w) _
  where
    by_test : (b : Bool) (f : Refusal) → is_ok (cond b (Ok cs) (Err f) >>= λ rest. word_at ws rest) ≡ cond b (stands ws cs) false
    by_test true f = refl
    by_test false f = refl

-- a word that is no longer than one that stands behind a text
stands_same : (word p q r s : List ℕ) → length word ≤ length q → stands word (p ++ (q ++ r)) ≡ stands word (p ++ (q ++ s))
stands_same [] p q r s long = refl
stands_same (w ∷ ws) (c ∷ p) q r s long =
    one_word w c ws (p ++ (q ++ r)) ∙ (ap (λ (b : Bool). cond (c == w) b false) (stands_same ws p q r s (omega arith)) ∙ sym (one_word w c ws (p ++ (q ++ s))))
stands_same (w ∷ ws) [] [] r s long = absurd (omega arith)
stands_same (w ∷ ws) [] (c ∷ q) r s long =
    one_word w c ws (q ++ r) ∙ (ap (λ (b : Bool). cond (c == w) b false) (stands_same ws [] q r s (omega arith)) ∙ sym (one_word w c ws (q ++ s)))

-- a word without the characters before which character data ends
no_word : (w : ℕ) (ws r : List ℕ) → (w == 60 || w == 38) ≡ false → EndsData r → stands (w ∷ ws) r ≡ false
no_word w ws [] other ends = refl
no_word w ws (c ∷ r) other ends = one_word w c ws r ∙ by_test (c == w) refl
  where
    by_test : (b : Bool) → (c == w) ≡ b → cond b (stands ws r) false ≡ false
    by_test true is = absurd (true≢false (sym ends ∙ (ap (λ (d : ℕ). d == 60 || d == 38) (eqb-true c w is) ∙ other)))
    by_test false is = refl

data_same : (word p r s : List ℕ) → AllPassTest (λ w. not (w == 60 || w == 38)) word → EndsData r → EndsData s → stands word (p ++ r) ≡ stands word (p ++ s)
data_same [] p r s plain ends ends_too = refl
data_same (w ∷ ws) (c ∷ p) r s plain ends ends_too =
    one_word w c ws (p ++ r) ∙ (ap (λ (b : Bool). cond (c == w) b false) (data_same ws p r s plain.1 ends ends_too) ∙ sym (one_word w c ws (p ++ s)))
data_same (w ∷ ws) [] r s plain ends ends_too = no_word w ws r (other (w == 60 || w == 38) plain.0) ends ∙ sym (no_word w ws s (other (w == 60 || w == 38) plain.0) ends_too)
  where
    other : (b : Bool) → not b ≡ true → b ≡ false
    other true e = absurd (true≢false (sym e))
    other false e = refl

-- text among which no such word stands, of legal characters
abbrev GoesPast : (List ℕ → Bool) → (ℕ → Bool) → List ℕ → List ℕ → Type 0
GoesPast word legal [] rest = Unit {0}
GoesPast word legal (c ∷ t) rest = ((word (c ∷ t ++ rest) || not (legal c)) ≡ false) × GoesPast word legal t rest

past_same : (word : List ℕ → Bool) (legal : ℕ → Bool) (t r s : List ℕ) → GoesPast word legal t r → ((c : ℕ) (p : List ℕ) → word (c ∷ p ++ r) ≡ word (c ∷ p ++ s)) → GoesPast word legal t s
past_same word legal [] r s goes same = tt
past_same word legal (c ∷ t) r s goes same = (ap (λ (b : Bool). b || not (legal c)) (sym (same c t)) ∙ goes.0, past_same word legal t r s goes.1 same)

-- ---- tags

-- the name and the attributes of a tag
abbrev BeforeEnd : Tag → List ℕ → List ℕ → Type 0
BeforeEnd tag = Then (λ u v. IsName u tag.name v) (Again (List (At Attribute)) (AreEachSame IsSameAttribute) AreAttributes tag.attributes)

start_frees : (tag : Tag) (cs rest : List ℕ) → IsStartTag cs tag rest → Frees (Again Tag IsSameTag IsStartTag tag) cs rest
start_frees tag cs rest (a, b, name, attributes, end) = by_end tag.empty refl end
  where
    begins_tag : Moves (BeforeEnd tag) cs b
    begins_tag = then_moves (λ u v. IsName u tag.name v) (Again (List (At Attribute)) (AreEachSame IsSameAttribute) AreAttributes tag.attributes) cs a b (name_moves tag.name cs a name)
        (attributes_move tag.attributes a b attributes)

    by_end : (empty : Bool) → tag.empty ≡ empty → IsTagEnd b empty rest → Frees (Again Tag IsSameTag IsStartTag tag) cs rest
    by_end false is ends =
        frees_as (λ u v. BeforeEnd tag u (62 ∷ v)) (Again Tag IsSameTag IsStartTag tag) cs rest
        (λ u v k. record {
          it = record { name = tag.name; attributes = k.second.it; empty = false };
          same = (refl, k.second.same, is);
          stands = (k.mid, 62 ∷ v, k.first, k.second.stands, refl);
        })
        (until (BeforeEnd tag) 62 [] cs rest
        (subst (Moves (BeforeEnd tag) cs) ends begins_tag))
    by_end true is ends =
        frees_as (λ u v. BeforeEnd tag u (47 ∷ 62 ∷ v)) (Again Tag IsSameTag IsStartTag tag) cs rest
        (λ u v k. record {
          it = record { name = tag.name; attributes = k.second.it; empty = true };
          same = (refl, k.second.same, is);
          stands = (k.mid, 47 ∷ 62 ∷ v, k.first, k.second.stands, refl);
        })
        (until (BeforeEnd tag) 47 (62 ∷ []) cs rest
        (subst (Moves (BeforeEnd tag) cs) ends begins_tag))

abbrev pub SameNamed : At Name → At Name → Type 0
SameNamed n m = n.v ≡ m.v

end_frees : (n : At Name) (cs rest : List ℕ) → IsEndTag cs n rest → Frees (Again (At Name) SameNamed IsEndTag n) cs rest
end_frees n cs rest (a, place, name, space) =
    frees_as (λ u v. Then (λ u v. IsName u n.v v) IsSpace u (62 ∷ v)) (Again (At Name) SameNamed IsEndTag n) cs rest
    (λ u v k. record { it = record { v = n.v; left = left_of u }; same = refl; stands = (k.mid, refl, k.first, k.second) })
    (until (Then (λ u v. IsName u n.v v) IsSpace) 62 [] cs rest (then_moves (λ u v. IsName u n.v v) IsSpace cs a (62 ∷ rest) (name_moves n.v cs a name) (space_moves a (62 ∷ rest) space)))

-- ---- tokens

-- before each text before which character data ends, if it ended before the one that followed
pub record Follows (k : Token) (cs rest : List ℕ) : Type 0 where
  pub w : List ℕ
  pub is : cs ≡ w ++ rest
  pub on : (r : List ℕ) → (EndsData rest → EndsData r) → Again Token IsSameToken IsToken k (w ++ r) r

comment_frees : (cs rest : List ℕ) → IsComment cs rest → Frees IsComment cs rest
comment_frees cs rest (a, t, e, (f, goes)) = record {
  w = codes "--" ++ (t ++ codes "-->");
  is = e ∙ (ap (λ (u : List ℕ). codes "--" ++ u) (f ∙ sym (append_assoc t (codes "-->") rest)));
  on = λ r. (
    t ++ (codes "-->" ++ r),
    t,
    ap (λ (u : List ℕ). codes "--" ++ u) (append_assoc t (codes "-->") r),
    (refl, past_same (stands (codes "--")) _ t (codes "-->" ++ rest) (codes "-->" ++ r) goes (λ c p. stands_same (codes "--") (c ∷ p) (codes "-->") rest r (omega arith))),
  );
}

section_frees : (t cs rest : List ℕ) → IsSection cs t rest → Frees (λ u v. IsSection u t v) cs rest
section_frees t cs rest (a, e, (f, goes)) = record {
  w = codes "[CDATA[" ++ (t ++ codes "]]>");
  is = e ∙ (ap (λ (u : List ℕ). codes "[CDATA[" ++ u) (f ∙ sym (append_assoc t (codes "]]>") rest)));
  on = λ r. (
    t ++ (codes "]]>" ++ r),
    ap (λ (u : List ℕ). codes "[CDATA[" ++ u) (append_assoc t (codes "]]>") r),
    (refl, past_same (stands (codes "]]>")) _ t (codes "]]>" ++ rest) (codes "]]>" ++ r) goes (λ c p. stands_same (codes "]]>") (c ∷ p) (codes "]]>") rest r (omega arith))),
  );
}

instruction_frees : (cs rest : List ℕ) → IsInstruction cs rest → Frees IsInstruction cs rest
instruction_frees cs rest (target, a, name, free, inl e) =
    frees_as (λ u v. IsPlainName u target (63 ∷ 62 ∷ v)) IsInstruction cs rest (λ u v k. (target, 63 ∷ 62 ∷ v, k, free, inl refl))
    (until (λ u v. IsPlainName u target v) 63 (62 ∷ []) cs rest (subst (Moves (λ u v. IsPlainName u target v) cs) e (plain_moves target cs a name)))
instruction_frees cs rest (target, a, name, free, inr (begin, (t, (f, goes)))) =
    let m : Moves (λ u v. IsPlainName u target v) cs a = plain_moves target cs a name in
    let first : (r : List ℕ) → head (t ++ (codes "?>" ++ rest)) ≡ head (t ++ (codes "?>" ++ r)) = λ r. heads t (codes "?>" ++ rest) (codes "?>" ++ r) refl in
    let whole : (r : List ℕ) → m.w ++ (t ++ (codes "?>" ++ r)) ≡ (m.w ++ (t ++ codes "?>")) ++ r =
    λ r. ap (λ (u : List ℕ). m.w ++ u) (sym (append_assoc t (codes "?>") r)) ∙ sym (append_assoc m.w (t ++ codes "?>") r) in
    record {
      w = m.w ++ (t ++ codes "?>");
      is = m.is ∙ (ap (λ (u : List ℕ). m.w ++ u) f ∙ whole rest);
      on = λ r. (
        target,
        t ++ (codes "?>" ++ r),
        subst (λ (u : List ℕ). IsPlainName u target (t ++ (codes "?>" ++ r))) (whole r) (m.on (t ++ (codes "?>" ++ r)) (ap head f ∙ first r)),
        free,
        inr (begins_again _ (t ++ (codes "?>" ++ r)) (t ++ (codes "?>" ++ rest)) a f (first r) begin, (t, (refl, past_same (stands (codes "?>")) _ t (codes "?>" ++ rest) (codes "?>" ++ r) goes (λ c p. stands_same (codes "?>") (c ∷ p) (codes "?>") rest r (omega arith))))),
      );
    }

three : {a b c d e f : Bool} → a ≡ b → c ≡ d → e ≡ f → (a || c || e) ≡ (b || d || f)
three p q r = λ j. p j || q j || r j

abbrev ends_data : List ℕ → Bool
ends_data cs = stands (codes "<") cs || stands (codes "&") cs || stands (codes "]]>") cs

token_follows : (k : Token) (cs rest : List ℕ) → IsToken cs k rest → Follows k cs rest
token_follows (Start tag) cs rest (a, e, is) =
    let f : Frees (Again Tag IsSameTag IsStartTag tag) a rest = start_frees tag a rest is in
    record {
      w = 60 ∷ f.w;
      is = e ∙ ap (λ (u : List ℕ). 60 ∷ u) f.is;
      on = λ r ends. record { it = Start (f.on r).it; same = ((f.on r).it, refl, (f.on r).same); stands = (f.w ++ r, refl, (f.on r).stands) };
    }
token_follows (End n) cs rest (a, e, is) =
    let f : Frees (Again (At Name) SameNamed IsEndTag n) a rest = end_frees n a rest is in
    record {
      w = 60 ∷ 47 ∷ f.w;
      is = e ∙ ap (λ (u : List ℕ). 60 ∷ 47 ∷ u) f.is;
      on = λ r ends. record { it = End (f.on r).it; same = ((f.on r).it, refl, (f.on r).same); stands = (f.w ++ r, refl, (f.on r).stands) };
    }
token_follows (Characters t) cs rest (filled, (e, goes), ends) = record {
  w = t;
  is = e;
  on = λ r more. record {
    it = Characters t;
    same = refl;
    stands = (
      filled,
      (
        refl,
        past_same ends_data _ t rest r goes (λ c p. three
            (one_word 60 c [] (p ++ rest) ∙ sym (one_word 60 c [] (p ++ r))) (one_word 38 c [] (p ++ rest) ∙ sym (one_word 38 c [] (p ++ r)))
            (data_same (codes "]]>") (c ∷ p) rest r (refl, (refl, (refl, tt))) ends (more ends))),
      ),
      more ends,
    );
  };
}
token_follows (Refers x) cs rest (a, e, is) =
    let f : Frees (λ u v. IsReference u x v) a rest = reference_frees x a rest is in
    record {
      w = 38 ∷ f.w;
      is = e ∙ ap (λ (u : List ℕ). 38 ∷ u) f.is;
      on = λ r ends. record { it = Refers x; same = refl; stands = (f.w ++ r, refl, f.on r) };
    }
token_follows (Section t) cs rest (a, e, is) =
    let f : Frees (λ u v. IsSection u t v) a rest = section_frees t a rest is in
    record {
      w = 60 ∷ 33 ∷ f.w;
      is = e ∙ ap (λ (u : List ℕ). 60 ∷ 33 ∷ u) f.is;
      on = λ r ends. record { it = Section t; same = refl; stands = (f.w ++ r, refl, f.on r) };
    }
token_follows Nothing cs rest (a, inl (e, is)) =
    let f : Frees IsComment a rest = comment_frees a rest is in
    record {
      w = 60 ∷ 33 ∷ f.w;
      is = e ∙ ap (λ (u : List ℕ). 60 ∷ 33 ∷ u) f.is;
      on = λ r ends. record { it = Nothing; same = refl; stands = (f.w ++ r, inl (refl, f.on r)) };
    }
token_follows Nothing cs rest (a, inr (e, is)) =
    let f : Frees IsInstruction a rest = instruction_frees a rest is in
    record {
      w = 60 ∷ 63 ∷ f.w;
      is = e ∙ ap (λ (u : List ℕ). 60 ∷ 63 ∷ u) f.is;
      on = λ r ends. record { it = Nothing; same = refl; stands = (f.w ++ r, inr (refl, f.on r)) };
    }

-- ---- all tokens before a text

pub record AllFollow (ts : List (At Token)) (cs rest : List ℕ) : Type 0 where
  pub w : List ℕ
  pub is : cs ≡ w ++ rest
  pub on : (r : List ℕ) → (EndsData rest → EndsData r) → Again (List (At Token)) AreSameTokens AreTokens ts (w ++ r) r

ends_later : (w rest r : List ℕ) → (EndsData rest → EndsData r) → EndsData (w ++ rest) → EndsData (w ++ r)
ends_later [] rest r more ends = more ends
ends_later (c ∷ w) rest r more ends = ends

pub tokens_follow : (ts : List (At Token)) (cs rest : List ℕ) → AreTokens cs ts rest → AllFollow ts cs rest
tokens_follow [] cs rest e = record { w = []; is = e; on = λ r more. record { it = []; same = tt; stands = refl } }
tokens_follow (x ∷ ts) cs rest (a, place, first, others) =
    let t : Follows x.v cs a = token_follows x.v cs a first in
    let m : AllFollow ts a rest = tokens_follow ts a rest others in
    let one : (r : List ℕ) → (EndsData rest → EndsData r) → Again Token IsSameToken IsToken x.v (t.w ++ (m.w ++ r)) (m.w ++ r) =
    λ r more. t.on (m.w ++ r) (λ ends. ends_later m.w rest r more (subst EndsData m.is ends)) in
    record {
      w = t.w ++ m.w;
      is = t.is ∙ (ap (λ (u : List ℕ). t.w ++ u) m.is ∙ sym (append_assoc t.w m.w rest));
      on = λ r more. record {
        it = record { v = (one r more).it; left = left_of ((t.w ++ m.w) ++ r) } ∷ (m.on r more).it;
        same = ((one r more).same, (m.on r more).same);
        stands = (m.w ++ r, refl, subst (λ (u : List ℕ). IsToken u (one r more).it (m.w ++ r)) (sym (append_assoc t.w m.w r)) (one r more).stands, (m.on r more).stands);
      };
    }
