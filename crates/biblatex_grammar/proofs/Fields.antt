-- Fields that the grammar relates are read, and those that are read it relates.
use Rattle.std.proofs.Common.{◌≡◌, ℕ, Bool, true, false, cond, eqb, List, [], ◌∷◌, Option, Some, None, Result, Ok, Err, refl, ap, ◌∙◌, subst, inl, inr, ◌⊎◌}
use Rattle.std.proofs.lemmas.Bool.{eqb-true, eq-eqb}
use Rattle.laws.specs.Results.{◌>>=◌}
use Rattle.laws.proofs.Results.{bind_ok}
use Rattle.laws.proofs.Steps.{each-none, each-some}
use Rattle.biblatex_text.specs.Raw.{Field}
use Rattle.biblatex_text.specs.Reading.{Refusal, token_at, after_blanks, identifier_at}
use Rattle.biblatex_text.specs.Value.{value_at}
use Rattle.biblatex_text.specs.Fields.{field_at, closing, field_or_end_at, comma_or_end_at, next_field_at, more_fields_at, fields_from, definitions_at}
use Rattle.biblatex_text.specs.Items.{key_run}
use Rattle.biblatex_text.specs.declared.token.Token.TheVariants as tokens
use Rattle.biblatex_text.specs.declared.token.Fault.TheVariants.{Expected}
use Rattle.biblatex_text.proofs.ReadingShorter.{fields_shorten}
use Rattle.biblatex_grammar.specs.Characters.{is_first_of_identifier, is_of_key}
use Rattle.biblatex_grammar.specs.Gaps.{IsGap, IsAfterGap}
use Rattle.biblatex_grammar.specs.Values.{IsIdentifier}
use Rattle.biblatex_grammar.specs.Items.{IsField, EndsOrGoesOn, AreFields}
use Rattle.biblatex_grammar.proofs.Classes.{differs}
use Rattle.biblatex_grammar.proofs.States.{Bracket, blank, brace, parenthesis}
use Rattle.biblatex_grammar.proofs.Runs.{takes_key, takes_round_key}
use Rattle.biblatex_grammar.proofs.Runs.{Takes as TakesRun}
use Rattle.biblatex_grammar.proofs.Gaps.{gap-again, gap-takes}
use Rattle.biblatex_grammar.proofs.Offsets.{Within, within-offset, within-tail, within-after}
use Rattle.biblatex_grammar.proofs.Steps.{Again, Takes, given, some_of, token-takes, Steps, each-takes}
use Rattle.biblatex_grammar.proofs.ValuesAgain.{identifier-again, value-again}
use Rattle.biblatex_grammar.proofs.ValuesTakes.{identifier-takes, value-takes}

-- ---- a field

pub field-again : (n : ℕ) → Again (IsField n) (field_at n)
unfolding field_at
field-again n cs rest f (a, b, c, name, sign, gap, value) =
    rw (identifier-again n cs a f.name name, gap-again a (61 ∷ b) sign, gap-again b c gap, value-again n c rest f.value value) refl

pub field-takes : (n : ℕ) → Takes n (IsField n) (field_at n)
unfolding field_at
field-takes n cs p within e =
    let name = bind_ok (identifier_at n cs) (λ name. token_at 61 tokens.Equals (after_blanks name.1) >>= λ following. value_at n (after_blanks following) >>= λ value. Ok (record { name = name.0; value = value.0 }, value.1)) p e in
    let following = bind_ok (token_at 61 tokens.Equals (after_blanks name.0.1)) (λ following. value_at n (after_blanks following) >>= λ value. Ok (record { name = name.0.0; value = value.0 }, value.1)) p name.2 in
    let value = bind_ok (value_at n (after_blanks following.0)) (λ value. Ok (record { name = name.0.0; value = value.0 }, value.1)) p following.2 in
    let name_is : IsIdentifier n cs name.0.0 name.0.1 = identifier-takes n cs name.0 within name.1 in
    let sign : after_blanks name.0.1 ≡ 61 ∷ following.0 = token-takes 61 tokens.Equals (after_blanks name.0.1) following.0 following.1 in
    let within_name : Within n name.0.1 = within-offset n name.0.0.end name.0.1 name_is.2.1 in
    let within_sign : Within n (61 ∷ following.0) = subst (Within n) sign (within-after n blank name.0.1 within_name) in
    let within_value : Within n (after_blanks following.0) = within-after n blank following.0 (within-tail n 61 following.0 within_sign) in
    given (λ q. IsField n cs q.0 q.1) (record { name = name.0.0; value = value.0.0 }) value.0.1 p value.2
    (name.0.1, following.0, after_blanks following.0, name_is, subst (IsGap name.0.1) sign (gap-takes name.0.1), gap-takes following.0, value-takes n (after_blanks following.0) value.0 within_value value.1)

pub field-within : (n : ℕ) (cs rest : List ℕ) (f : Field) → IsField n cs f rest → Within n rest
field-within n cs rest f (a, b, c, name, sign, gap, (are, at)) = within-offset n f.value.end rest at.1

-- ---- what closes an item

-- what is known of the brackets of items
pub record Usual (bracket : Bracket) : Type 0 where
  pub comma : eqb 44 (closing bracket) ≡ false
  pub first : is_first_of_identifier (closing bracket) ≡ false
  pub key : TakesRun (key_run bracket) (is_of_key (closing bracket))

pub usual_brace : Usual brace
usual_brace = record { comma = refl; first = refl; key = takes_key }

pub usual_parenthesis : Usual parenthesis
usual_parenthesis = record { comma = refl; first = refl; key = takes_round_key }

-- what follows a key or a field
abbrev pub AreMore : ℕ → ℕ → List ℕ → List Field → List ℕ → Type 0
AreMore n mark cs fs rest = EndsOrGoesOn mark fs (λ c. AreFields n mark c fs rest) cs rest

field_closed : (n : ℕ) (bracket : Bracket) (rest : List ℕ) → field_or_end_at n bracket (closing bracket ∷ rest) ≡ Ok (None, rest)
field_closed n bracket rest = rw (eq-eqb (closing bracket) (closing bracket) refl) refl

comma_closed : (n : ℕ) (bracket : Bracket) (rest : List ℕ) → comma_or_end_at n bracket (closing bracket ∷ rest) ≡ Ok (None, rest)
comma_closed n bracket rest = rw (eq-eqb (closing bracket) (closing bracket) refl) refl

comma_goes_on : (n : ℕ) (bracket : Bracket) → Usual bracket → (a : List ℕ) → comma_or_end_at n bracket (44 ∷ a) ≡ field_or_end_at n bracket (after_blanks a)
comma_goes_on n bracket usual a = rw usual.comma refl

field_there : (n : ℕ) (bracket : Bracket) → Usual bracket → (cs rest : List ℕ) (f : Field) → IsField n cs f rest → field_or_end_at n bracket cs ≡ Ok (Some f, rest)
field_there n bracket usual [] rest f (a, b, c, (begins, run, at), sign, gap, value) = absurd begins
field_there n bracket usual (c ∷ cs) rest f (a, b, d, name, sign, gap, value) =
    let other : eqb c (closing bracket) ≡ false = differs is_first_of_identifier c (closing bracket) name.0 usual.first in
    let here : field_or_end_at n bracket (c ∷ cs) ≡ some_of (field_at n (c ∷ cs)) = rw other refl in
    here ∙ ap some_of (field-again n (c ∷ cs) rest f (a, b, d, name, sign, gap, value))

-- the next step after a comma, and after what closes the item
next_closed : (n : ℕ) (bracket : Bracket) (cs rest : List ℕ) → IsAfterGap (closing bracket) cs rest → next_field_at n bracket cs ≡ Ok (None, rest)
unfolding next_field_at
next_closed n bracket cs rest gap = ap (comma_or_end_at n bracket) (gap-again cs (closing bracket ∷ rest) gap) ∙ comma_closed n bracket rest

next_goes_on : (n : ℕ) (bracket : Bracket) → Usual bracket → (cs a : List ℕ) → IsAfterGap 44 cs a → next_field_at n bracket cs ≡ field_or_end_at n bracket (after_blanks a)
unfolding next_field_at
next_goes_on n bracket usual cs a gap = ap (comma_or_end_at n bracket) (gap-again cs (44 ∷ a) gap) ∙ comma_goes_on n bracket usual a

pub more-again : (n : ℕ) (bracket : Bracket) → Usual bracket → (fs : List Field) (cs rest : List ℕ) → AreMore n (closing bracket) cs fs rest → more_fields_at n bracket cs ≡ Ok (fs, rest)
more-again n bracket usual [] cs rest (inl gap) = each-none (next_field_at n bracket) cs rest (next_closed n bracket cs rest gap)
more-again n bracket usual [] cs rest (inr (a, comma, gap)) =
    each-none (next_field_at n bracket) cs rest (next_goes_on n bracket usual cs a comma ∙ (ap (field_or_end_at n bracket) (gap-again a (closing bracket ∷ rest) gap) ∙ field_closed n bracket rest))
more-again n bracket usual (f ∷ fs) cs rest (inl never) = absurd never
more-again n bracket usual (f ∷ fs) cs rest (inr (a, comma, (b, c, gap, field, more))) =
    let step : next_field_at n bracket cs ≡ Ok (Some f, c) = next_goes_on n bracket usual cs a comma ∙ (ap (field_or_end_at n bracket) (gap-again a b gap) ∙ field_there n bracket usual b c f field) in
    each-some (next_field_at n bracket) (fields_shorten n bracket) cs c f step
    ∙ ap (λ (r : Result (List Field × List ℕ) Refusal). r >>= λ q. Ok (f ∷ q.0, q.1)) (more-again n bracket usual fs c rest more)

pub definitions-again : (n : ℕ) (bracket : Bracket) → Usual bracket → (fs : List Field) (cs rest : List ℕ) → AreFields n (closing bracket) cs fs rest → definitions_at n bracket cs ≡ Ok (fs, rest)
unfolding definitions_at
definitions-again n bracket usual [] cs rest gap =
    let first : field_or_end_at n bracket (after_blanks cs) ≡ Ok (None, rest) = ap (field_or_end_at n bracket) (gap-again cs (closing bracket ∷ rest) gap) ∙ field_closed n bracket rest in
    rw first refl
definitions-again n bracket usual (f ∷ fs) cs rest (a, b, gap, field, more) =
    let first : field_or_end_at n bracket (after_blanks cs) ≡ Ok (Some f, b) = ap (field_or_end_at n bracket) (gap-again cs a gap) ∙ field_there n bracket usual a b f field in
    rw (first, more-again n bracket usual fs b rest more) refl

-- ---- what was read

-- a field, or what closes the item
abbrev FieldOrEnd : ℕ → ℕ → List ℕ → Option Field × List ℕ → Type 0
FieldOrEnd n mark cs (None, rest) = cs ≡ mark ∷ rest
FieldOrEnd n mark cs (Some f, rest) = IsField n cs f rest

field_or_end-takes : (n : ℕ) (bracket : Bracket) (cs : List ℕ) (p : Option Field × List ℕ) → Within n cs → field_or_end_at n bracket cs ≡ Ok p → FieldOrEnd n (closing bracket) cs p
field_or_end-takes n bracket [] p within e = absurd cc
field_or_end-takes n bracket (c ∷ cs) p within e = by_test (eqb c (closing bracket)) refl e
  where
    by_test : (b : Bool) → eqb c (closing bracket) ≡ b → cond b (Ok (None, cs)) (some_of (field_at n (c ∷ cs))) ≡ Ok p → FieldOrEnd n (closing bracket) (c ∷ cs) p
    by_test true is d = given (FieldOrEnd n (closing bracket) (c ∷ cs)) None cs p d (ap (λ (x : ℕ). x ∷ cs) (eqb-true c (closing bracket) is))
    by_test false other d =
        let f = bind_ok (field_at n (c ∷ cs)) (λ f. Ok (Some f.0, f.1)) p d in
        given (FieldOrEnd n (closing bracket) (c ∷ cs)) (Some f.0.0) f.0.1 p f.2 (field-takes n (c ∷ cs) f.0 within f.1)

-- the same after a comma, or what closes the item
abbrev MoreOrEnd : ℕ → ℕ → List ℕ → Option Field × List ℕ → Type 0
MoreOrEnd n mark cs (None, rest) = IsAfterGap mark cs rest ⊎ ((a : List ℕ) × IsAfterGap 44 cs a × IsAfterGap mark a rest)
MoreOrEnd n mark cs (Some f, rest) = (a : List ℕ) × IsAfterGap 44 cs a × IsField n (after_blanks a) f rest

after_comma : (n mark : ℕ) (cs a : List ℕ) (p : Option Field × List ℕ) → IsAfterGap 44 cs a → FieldOrEnd n mark (after_blanks a) p → MoreOrEnd n mark cs p
after_comma n mark cs a (None, rest) comma is = inr (a, comma, subst (IsGap a) is (gap-takes a))
after_comma n mark cs a (Some f, rest) comma is = (a, comma, is)

next_field-takes : (n : ℕ) (bracket : Bracket) (cs : List ℕ) (p : Option Field × List ℕ) → Within n cs → next_field_at n bracket cs ≡ Ok p → MoreOrEnd n (closing bracket) cs p
unfolding next_field_at
next_field-takes n bracket cs p within e = by_rest (after_blanks cs) refl e
  where
    by_test : (c : ℕ) (ds : List ℕ) → after_blanks cs ≡ c ∷ ds → (a b : Bool) → eqb c (closing bracket) ≡ a → eqb c 44 ≡ b
        → cond a (Ok (None, ds)) (cond b (field_or_end_at n bracket (after_blanks ds)) (Err (Expected tokens.Comma, c ∷ ds))) ≡ Ok p → MoreOrEnd n (closing bracket) cs p
    by_test c ds at true b is other d =
        given (MoreOrEnd n (closing bracket) cs) None ds p d (inl (subst (IsGap cs) (at ∙ ap (λ (x : ℕ). x ∷ ds) (eqb-true c (closing bracket) is)) (gap-takes cs)))
    by_test c ds at false true other is d =
        let comma : after_blanks cs ≡ 44 ∷ ds = at ∙ ap (λ (x : ℕ). x ∷ ds) (eqb-true c 44 is) in
        let inside : Within n (44 ∷ ds) = subst (Within n) comma (within-after n blank cs within) in
        let more : Within n (after_blanks ds) = within-after n blank ds (within-tail n 44 ds inside) in
        after_comma n (closing bracket) cs ds p (subst (IsGap cs) comma (gap-takes cs)) (field_or_end-takes n bracket (after_blanks ds) p more d)
    by_test c ds at false false other another d = absurd cc

    by_rest : (ds : List ℕ) → after_blanks cs ≡ ds → comma_or_end_at n bracket ds ≡ Ok p → MoreOrEnd n (closing bracket) cs p
    by_rest [] at d = absurd cc
    by_rest (c ∷ ds) at d = by_test c ds at (eqb c (closing bracket)) (eqb c 44) refl refl d

-- fields up to what closes an item, which stands within the text
pub record More (n mark : ℕ) (cs : List ℕ) (fs : List Field) (rest : List ℕ) : Type 0 where
  pub are : AreMore n mark cs fs rest
  pub within : Within n rest

-- what closes an item stands within the text
gap-within : (n mark : ℕ) (cs rest : List ℕ) → Within n cs → IsAfterGap mark cs rest → Within n rest
gap-within n mark cs rest within gap = within-tail n mark rest (subst (Within n) (gap-again cs (mark ∷ rest) gap) (within-after n blank cs within))

ended : (n mark : ℕ) (cs rest : List ℕ) → Within n cs → MoreOrEnd n mark cs (None, rest) → More n mark cs [] rest
ended n mark cs rest within (inl gap) = record { are = inl gap; within = gap-within n mark cs rest within gap }
ended n mark cs rest within (inr (a, comma, gap)) = record { are = inr (a, comma, gap); within = gap-within n mark a rest (gap-within n 44 cs a within comma) gap }

more_steps : (n : ℕ) (bracket : Bracket) → Steps (Within n) (More n (closing bracket)) (next_field_at n bracket)
more_steps n bracket = record {
  shorter = fields_shorten n bracket;
  none = λ cs rest within e. ended n (closing bracket) cs rest within (next_field-takes n bracket cs (None, rest) within e);
  within = λ cs a f within e. let m = next_field-takes n bracket cs (Some f, a) within e in field-within n (after_blanks m.0) a f m.2;
  one = λ cs a f within e fs rest more. let m = next_field-takes n bracket cs (Some f, a) within e in record { are = inr (m.0, m.1, (after_blanks m.0, a, gap-takes m.0, m.2, more.are)); within = more.within };
}

pub more-takes : (n : ℕ) (bracket : Bracket) (cs : List ℕ) (p : List Field × List ℕ) → Within n cs → more_fields_at n bracket cs ≡ Ok p → More n (closing bracket) cs p.0 p.1
more-takes n bracket cs p within e = each-takes (Within n) (More n (closing bracket)) (next_field_at n bracket) (more_steps n bracket) cs p within e

-- abbreviations
pub record Defined (n mark : ℕ) (cs : List ℕ) (p : List Field × List ℕ) : Type 0 where
  pub are : AreFields n mark cs p.0 p.1
  pub within : Within n p.1

pub definitions-takes : (n : ℕ) (bracket : Bracket) (cs : List ℕ) (p : List Field × List ℕ) → Within n cs → definitions_at n bracket cs ≡ Ok p → Defined n (closing bracket) cs p
unfolding definitions_at
definitions-takes n bracket cs p within e =
    let first = bind_ok (field_or_end_at n bracket (after_blanks cs)) (λ first. fields_from n bracket first.0 first.1) p e in
    by_first first.0 (field_or_end-takes n bracket (after_blanks cs) first.0 (within-after n blank cs within) first.1) first.2
  where
    by_first : (o : Option Field × List ℕ) → FieldOrEnd n (closing bracket) (after_blanks cs) o → fields_from n bracket o.0 o.1 ≡ Ok p → Defined n (closing bracket) cs p
    by_first (None, rest) is d =
        let gap : IsAfterGap (closing bracket) cs rest = subst (IsGap cs) is (gap-takes cs) in
        given (Defined n (closing bracket) cs) [] rest p d (record { are = gap; within = gap-within n (closing bracket) cs rest within gap })
    by_first (Some f, a) is d =
        let fs = bind_ok (more_fields_at n bracket a) (λ fs. Ok (f ∷ fs.0, fs.1)) p d in
        let more : More n (closing bracket) a fs.0.0 fs.0.1 = more-takes n bracket a fs.0 (field-within n (after_blanks cs) a f is) fs.1 in
        given (Defined n (closing bracket) cs) (f ∷ fs.0.0) fs.0.1 p fs.2 (record { are = (after_blanks cs, a, gap-takes cs, is, more.are); within = more.within })
