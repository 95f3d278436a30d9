-- Beginnings, locators, cites and markers of the grammar are those that are read.
use Rattle.std.proofs.Common.{◌≡◌, ◌⊎◌, ℕ, Bool, true, false, List, [], ◌∷◌, ◌++◌, Option, Some, None, Result, Ok, Err, inl, inr, refl, sym, ap, ◌∙◌, subst}
use Rattle.std.specs.Option.{ok_or}
use Rattle.laws.specs.Results.{◌>>=◌}
use Rattle.laws.specs.Runs.{prefix_of, after}
use Rattle.laws.specs.Steps.{each}
use Rattle.laws.specs.Text.{is_filled, text as text_of}
use Rattle.laws.proofs.Results.{bind_ok, ok_is}
use Rattle.laws.proofs.Steps.{each-some, each-none, each-err}
use Rattle.texts.specs.Reading.{token_at, taken}
use Rattle.texts.specs.declared.reader.Unreadable.{Unreadable}
use Rattle.texts.specs.declared.reader.Unreadable.TheVariants.{NotThere}
use Rattle.rendering_taxonomy.specs.declared.cite.CitePurpose.{CitePurpose}
use Rattle.rendering_taxonomy.specs.declared.locator.Locator.{Locator}
use Rattle.cite_markers.specs.Character.{passes}
use Rattle.cite_markers.specs.Words.{purpose_of, label_of}
use Rattle.cite_markers.specs.Marker.{CiteLocator, Cite, Beginning, passing, word_at, purpose_at, purpose_if_no_sign, beginning_at, is_value, locator_at, locator_if_space, cite_at, further_cite_at, cite_if_semicolon, next_cite_at, cites_at, marker_at}
use Rattle.cite_markers.proofs.MarkerLeaving.{cites_shorten}
use Rattle.cite_markers_grammar.specs.Characters.{is_of_name, is_of_value, IsRun, IsOptional, IsTight}
use Rattle.cite_markers_grammar.specs.Words.{written_purpose, written_label, is_named}
use Rattle.cite_markers_grammar.specs.Markers.{IsPurpose, IsBeginning, IsLocator, IsCite, AreCites, IsMarker}
use Rattle.cite_markers_grammar.proofs.Classes.{of_name, of_value}
use Rattle.cite_markers_grammar.proofs.Steps.{Again, Takes, given, read_same, head_same, tail_same, never_empty, token-takes, taken-again, taken-takes, run-prefix, run-after, run-takes, passing-ok, ok_or-ok}
use Rattle.cite_markers_grammar.proofs.Trims.{value-again, value-takes}
use Rattle.cite_markers_grammar.proofs.Words.{purpose_read, label_read, label_found, label_named, purpose-takes, label-takes}

abbrev Read : Type 0 → Type 0
Read X = Result (X × List ℕ) Unreadable

-- runs of names and of values
name-prefix : (cs t rest : List ℕ) → IsRun is_of_name cs t rest → prefix_of (passes of_name) cs ≡ t
unfolding passes cite_at
name-prefix cs t rest run = run-prefix is_of_name cs t rest run

name-after : (cs t rest : List ℕ) → IsRun is_of_name cs t rest → after (passes of_name) cs ≡ rest
unfolding passes cite_at
name-after cs t rest run = run-after is_of_name cs t rest run

name-takes : (cs : List ℕ) → is_filled (prefix_of (passes of_name) cs) ≡ true → IsRun is_of_name cs (prefix_of (passes of_name) cs) (after (passes of_name) cs)
unfolding passes cite_at
name-takes cs filled = run-takes is_of_name cs filled

value-prefix : (cs t rest : List ℕ) → IsRun is_of_value cs t rest → prefix_of (passes of_value) cs ≡ t
unfolding passes locator_at
value-prefix cs t rest run = run-prefix is_of_value cs t rest run

value-after : (cs t rest : List ℕ) → IsRun is_of_value cs t rest → after (passes of_value) cs ≡ rest
unfolding passes locator_at
value-after cs t rest run = run-after is_of_value cs t rest run

value_run-takes : (cs : List ℕ) → is_filled (prefix_of (passes of_value) cs) ≡ true → IsRun is_of_value cs (prefix_of (passes of_value) cs) (after (passes of_value) cs)
unfolding passes locator_at
value_run-takes cs filled = run-takes is_of_value cs filled

-- purposes
purpose-again : (p : Option CitePurpose) (cs rest : List ℕ) → IsPurpose cs p (64 ∷ rest) → purpose_if_no_sign (taken 64 cs) ≡ Ok (p, rest)
purpose-again None cs rest e = ap (λ (x : List ℕ). purpose_if_no_sign (taken 64 x)) e
purpose-again (Some p) cs rest e = ap (λ (x : List ℕ). purpose_if_no_sign (taken 64 x)) e ∙ purpose_read p rest

purpose-stands : (p : CitePurpose) (cs a rest : List ℕ) → cs ≡ written_purpose p ++ 32 ∷ a → a ≡ 64 ∷ rest → IsPurpose cs (Some p) (64 ∷ rest)
purpose-stands p cs a rest e f = e ∙ ap (λ (x : List ℕ). written_purpose p ++ 32 ∷ x) f

purpose_at-takes : (cs : List ℕ) (q : Option CitePurpose × List ℕ) → purpose_at cs ≡ Ok q → IsPurpose cs q.0 (64 ∷ q.1)
unfolding purpose_at
purpose_at-takes cs q e =
    let word = bind_ok (word_at cs) (λ word. ok_or (purpose_of word.0) NotThere >>= λ purpose. token_at 64 word.1 >>= λ rest. Ok (Some purpose, rest)) q e in
    let purpose = bind_ok (ok_or (purpose_of word.0.0) NotThere) (λ purpose. token_at 64 word.0.1 >>= λ rest. Ok (Some purpose, rest)) q word.2 in
    let sign = bind_ok (token_at 64 word.0.1) (λ rest. Ok (Some purpose.0, rest)) q purpose.2 in
    given (λ p. IsPurpose cs p.0 (64 ∷ p.1)) (Some purpose.0) sign.0 q sign.2
    (purpose-stands purpose.0 cs word.0.1 sign.0 (purpose-takes cs word.0 purpose.0 word.1 (ok_or-ok (purpose_of word.0.0) purpose.0 purpose.1)) (token-takes 64 word.0.1 sign.0 sign.1))

purpose_if-takes : (cs : List ℕ) (q : Option CitePurpose × List ℕ) → purpose_if_no_sign (taken 64 cs) ≡ Ok q → IsPurpose cs q.0 (64 ∷ q.1)
purpose_if-takes cs q e = by_taken (taken 64 cs).0 (taken 64 cs).1 (taken-takes 64 cs) e
  where
    by_taken : (b : Bool) (r : List ℕ) → IsOptional 64 cs b r → purpose_if_no_sign (b, r) ≡ Ok q → IsPurpose cs q.0 (64 ∷ q.1)
    by_taken true r is e = given (λ p. IsPurpose cs p.0 (64 ∷ p.1)) None r q e is
    by_taken false r (is, bars) e = subst (λ x. IsPurpose x q.0 (64 ∷ q.1)) (sym is) (purpose_at-takes r q e)

-- beginnings
abbrev begun : Bool → Option CitePurpose × List ℕ → Read Beginning
begun hidden purpose = Ok (record { hidden = hidden; purpose = purpose.0 }, purpose.1)

pub beginning-again : Again IsBeginning beginning_at
unfolding beginning_at
beginning-again cs rest b (a, hyphen, purpose) =
    ap (λ (t : Bool × List ℕ). purpose_if_no_sign (taken 64 t.1) >>= begun t.0) (taken-again 45 b.hidden cs a hyphen)
    ∙ ap (λ (r : Read (Option CitePurpose)). r >>= begun b.hidden) (purpose-again b.purpose a rest purpose)

pub beginning-takes : Takes IsBeginning beginning_at
unfolding beginning_at
beginning-takes cs q e =
    let purpose = bind_ok (purpose_if_no_sign (taken 64 (taken 45 cs).1)) (begun (taken 45 cs).0) q e in
    given (λ p. IsBeginning cs p.0 p.1) (record { hidden = (taken 45 cs).0; purpose = purpose.0.0 }) purpose.0.1 q purpose.2
    ((taken 45 cs).1, taken-takes 45 cs, purpose_if-takes (taken 45 cs).1 purpose.0 purpose.1)

-- locators
abbrev value_of : List ℕ × List ℕ → List ℕ
value_of word = prefix_of (passes of_value) word.1

abbrev located : List ℕ × List ℕ → Locator → List ℕ → Read (Option CiteLocator)
located word label value = Ok (Some (record { label = label; value = value }), after (passes of_value) word.1)

abbrev valued : List ℕ × List ℕ → Locator → Read (Option CiteLocator)
valued word label = passing (is_value (text_of (value_of word))) (value_of word) >>= located word label

abbrev labelled : List ℕ × List ℕ → Read (Option CiteLocator)
labelled word = ok_or (label_of word.0) NotThere >>= valued word

valued-again : (word : List ℕ) (l : CiteLocator) (cs rest : List ℕ) → IsRun is_of_value cs l.value rest → IsTight l.value → valued (word, cs) l.label ≡ Ok (Some l, rest)
valued-again word l cs rest run tight =
    ap (λ (v : List ℕ). passing (is_value (text_of v)) v >>= located (word, cs) l.label) (value-prefix cs l.value rest run)
    ∙ (ap (λ b. passing b l.value >>= located (word, cs) l.label) (value-again l.value run.3 tight)
    ∙ ap (λ (x : List ℕ). Ok (Some l, x)) (value-after cs l.value rest run))

locator_at-again : (l : CiteLocator) (cs rest : List ℕ) → is_named l.label ≡ true → IsRun is_of_value cs l.value rest → IsTight l.value
    → locator_at (written_label l.label ++ 32 ∷ cs) ≡ Ok (Some l, rest)
unfolding locator_at
locator_at-again l cs rest named run tight =
    ap (λ (r : Read (List ℕ)). r >>= labelled) (label_read l.label cs)
    ∙ (ap (λ (o : Option Locator). ok_or o NotThere >>= valued (written_label l.label, cs)) (label_found l.label named)
    ∙ valued-again (written_label l.label) l cs rest run tight)

locator-again : (l : Option CiteLocator) (cs rest : List ℕ) → IsLocator cs l rest → locator_if_space (taken 32 cs) ≡ Ok (l, rest)
locator-again None cs rest is = ap locator_if_space (taken-again 32 false cs rest is)
locator-again (Some l) cs rest (named, a, e, run, tight) = ap (λ (x : List ℕ). locator_if_space (taken 32 x)) e ∙ locator_at-again l a rest named run tight

locator_at-takes : (cs : List ℕ) (q : Option CiteLocator × List ℕ) → locator_at cs ≡ Ok q → IsLocator (32 ∷ cs) q.0 q.1
unfolding locator_at
locator_at-takes cs q e =
    let word = bind_ok (word_at cs) labelled q e in
    let label = bind_ok (ok_or (label_of word.0.0) NotThere) (valued word.0) q word.2 in
    let value = bind_ok (passing (is_value (text_of (value_of word.0))) (value_of word.0)) (located word.0 label.0) q label.2 in
    let passed = passing-ok (is_value (text_of (value_of word.0))) (value_of word.0) value.0 value.1 in
    let fine = value-takes (value_of word.0) passed.0 in
    let run = value_run-takes word.0.1 fine.0 in
    let found : label_of word.0.0 ≡ Some label.0 = ok_or-ok (label_of word.0.0) label.0 label.1 in
    let stands : cs ≡ written_label label.0 ++ 32 ∷ word.0.1 = label-takes cs word.0 label.0 word.1 found in
    given (λ p. IsLocator (32 ∷ cs) p.0 p.1) (Some (record { label = label.0; value = value.0 })) (after (passes of_value) word.0.1) q value.2
    (label_named word.0.0 label.0 found, word.0.1, ap (λ (x : List ℕ). 32 ∷ x) stands, subst (λ v. IsRun is_of_value word.0.1 v (after (passes of_value) word.0.1)) passed.1 run, subst IsTight passed.1 fine.1)

locator-takes : (cs : List ℕ) (q : Option CiteLocator × List ℕ) → locator_if_space (taken 32 cs) ≡ Ok q → IsLocator cs q.0 q.1
locator-takes cs q e = by_taken (taken 32 cs).0 (taken 32 cs).1 (taken-takes 32 cs) e
  where
    by_taken : (b : Bool) (r : List ℕ) → IsOptional 32 cs b r → locator_if_space (b, r) ≡ Ok q → IsLocator cs q.0 q.1
    by_taken true r is e = subst (λ x. IsLocator x q.0 q.1) (sym is) (locator_at-takes r q e)
    by_taken false r is e = given (λ p. IsLocator cs p.0 p.1) None r q e is

-- cites
abbrev name_of : Beginning × List ℕ → List ℕ
name_of b = prefix_of (passes of_name) b.1

abbrev made : Beginning × List ℕ → List ℕ → Option CiteLocator × List ℕ → Read Cite
made b name locator = Ok (record { name = name; hidden = b.0.hidden; purpose = b.0.purpose; locator = locator.0 }, locator.1)

abbrev pointed : Beginning × List ℕ → List ℕ → Read Cite
pointed b name = locator_if_space (taken 32 (after (passes of_name) b.1)) >>= made b name

abbrev named : Beginning × List ℕ → Read Cite
named b = passing (is_filled (name_of b)) (name_of b) >>= pointed b

pub cite-again : Again IsCite cite_at
unfolding cite_at
cite-again cs rest c (a, b, begins, run, points) =
    let beginning : Beginning = record { hidden = c.hidden; purpose = c.purpose } in
    ap (λ (r : Read Beginning). r >>= named) (beginning-again cs a beginning begins)
    ∙ (ap (λ (t : List ℕ). passing (is_filled t) t >>= pointed (beginning, a)) (name-prefix a c.name b run)
    ∙ (ap (λ (f : Bool). passing f c.name >>= pointed (beginning, a)) run.3
    ∙ (ap (λ (x : List ℕ). locator_if_space (taken 32 x) >>= made (beginning, a) c.name) (name-after a c.name b run)
    ∙ ap (λ (r : Read (Option CiteLocator)). r >>= made (beginning, a) c.name) (locator-again c.locator b rest points))))

pub cite-takes : Takes IsCite cite_at
unfolding cite_at
cite-takes cs q e =
    let begins = bind_ok (beginning_at cs) named q e in
    let name = bind_ok (passing (is_filled (name_of begins.0)) (name_of begins.0)) (pointed begins.0) q begins.2 in
    let locator = bind_ok (locator_if_space (taken 32 (after (passes of_name) begins.0.1))) (made begins.0 name.0) q name.2 in
    let passed = passing-ok (is_filled (name_of begins.0)) (name_of begins.0) name.0 name.1 in
    given (λ p. IsCite cs p.0 p.1) (record { name = name.0; hidden = begins.0.0.hidden; purpose = begins.0.0.purpose; locator = locator.0.0 }) locator.0.1 q locator.2 (
      begins.0.1,
      after (passes of_name) begins.0.1,
      beginning-takes cs begins.0 begins.1,
      subst (λ t. IsRun is_of_name begins.0.1 t (after (passes of_name) begins.0.1)) passed.1 (name-takes begins.0.1 passed.0),
      locator-takes (after (passes of_name) begins.0.1) locator.0 locator.1,
    )

-- lists of cites
abbrev before : Cite → List Cite × List ℕ → Read (List Cite)
before c others = Ok (c ∷ others.0, others.1)

abbrev with_others : Cite × List ℕ → Read (List Cite)
with_others first = each next_cite_at first.1 >>= before first.0

abbrev some_cite : Cite × List ℕ → Read (Option Cite)
some_cite c = Ok (Some c.0, c.1)

next_is : (cs : List ℕ) (r : Read Cite) → cite_at cs ≡ r → next_cite_at (59 ∷ 32 ∷ cs) ≡ (r >>= some_cite)
unfolding next_cite_at further_cite_at
next_is cs r is = ap (λ (r : Read Cite). r >>= some_cite) is

-- after a semicolon and a space the further cites are cites
further : (cs : List ℕ) → each next_cite_at (59 ∷ 32 ∷ cs) ≡ cites_at cs
unfolding cites_at
further cs = by_cite (cite_at cs) refl
  where
    by_cite : (r : Read Cite) → cite_at cs ≡ r → each next_cite_at (59 ∷ 32 ∷ cs) ≡ (cite_at cs >>= with_others)
    by_cite (Ok c) is = each-some next_cite_at cites_shorten (59 ∷ 32 ∷ cs) c.1 c.0 (next_is cs (Ok c) is) ∙ sym (ap (λ (r : Read Cite). r >>= with_others) is)
    by_cite (Err f) is = each-err next_cite_at (59 ∷ 32 ∷ cs) f (next_is cs (Err f) is) ∙ sym (ap (λ (r : Read Cite). r >>= with_others) is)

none_at_bracket : (rest : List ℕ) → each next_cite_at (93 ∷ rest) ≡ Ok ([], 93 ∷ rest)
unfolding next_cite_at
none_at_bracket rest = each-none next_cite_at (93 ∷ rest) (93 ∷ rest) refl

cites-again : (cites : List Cite) (cs rest : List ℕ) → AreCites cs cites rest → cites_at cs ≡ Ok (cites, 93 ∷ rest)
unfolding cites_at
cites-again [] cs rest are = absurd are
cites-again (c ∷ cites) cs rest (a, is, ends) = ap (λ (r : Read Cite). r >>= with_others) (cite-again cs a c is) ∙ ap (λ (r : Read (List Cite)). r >>= before c) (by_end ends (λ b more. cites-again cites b rest more))
  where
    by_end : ((cites ≡ []) × (a ≡ 93 ∷ rest)) ⊎ ((b : List ℕ) × (a ≡ 59 ∷ 32 ∷ b) × AreCites b cites rest) → ((b : List ℕ) → AreCites b cites rest → cites_at b ≡ Ok (cites, 93 ∷ rest))
        → each next_cite_at a ≡ Ok (cites, 93 ∷ rest)
    by_end (inl (none, e)) more = ap (each next_cite_at) e ∙ (none_at_bracket rest ∙ ap (λ (x : List Cite). Ok (x, 93 ∷ rest)) (sym none))
    by_end (inr (b, e, are)) more = ap (each next_cite_at) e ∙ (further b ∙ more b are)

-- how the cites after a first end
abbrev Ends : List ℕ → List Cite → List ℕ → Type 0
Ends a cites rest = ((cites ≡ []) × (a ≡ 93 ∷ rest)) ⊎ ((b : List ℕ) × (a ≡ 59 ∷ 32 ∷ b) × AreCites b cites rest)

none_further : (a r : List ℕ) → taken 59 a ≡ (false, r) → each next_cite_at a ≡ Ok ([], r)
unfolding next_cite_at
none_further a r is = each-none next_cite_at a r (ap cite_if_semicolon is)

no_space : (r : List ℕ) → token_at 32 r ≡ Err NotThere → each next_cite_at (59 ∷ r) ≡ Err NotThere
unfolding next_cite_at further_cite_at
no_space r is = each-err next_cite_at (59 ∷ r) NotThere (ap (λ (t : Result (List ℕ) Unreadable). t >>= λ rest. cite_at rest >>= some_cite) is)

refused_is : (q : List Cite × List ℕ) → ◌≡◌ {A = Read (List Cite)} (Err NotThere) (Ok q) → ⊥
refused_is q e = cc

ends-takes : (cites : List Cite) (a rest : List ℕ) → ((b : List ℕ) → cites_at b ≡ Ok (cites, 93 ∷ rest) → AreCites b cites rest) → each next_cite_at a ≡ Ok (cites, 93 ∷ rest) → Ends a cites rest
ends-takes cites a rest more e = by_taken (taken 59 a).0 (taken 59 a).1 refl (taken-takes 59 a)
  where
    by_space : (r : List ℕ) → a ≡ 59 ∷ r → (t : Result (List ℕ) Unreadable) → token_at 32 r ≡ t → Ends a cites rest
    by_space r is (Ok b) space =
        let stands : a ≡ 59 ∷ 32 ∷ b = is ∙ ap (λ (x : List ℕ). 59 ∷ x) (token-takes 32 r b space) in
        inr (b, stands, more b (sym (further b) ∙ (sym (ap (each next_cite_at) stands) ∙ e)))
    by_space r is (Err NotThere) space = absurd (refused_is (cites, 93 ∷ rest) (sym (ap (each next_cite_at) is ∙ no_space r space) ∙ e))

    by_taken : (b : Bool) (r : List ℕ) → taken 59 a ≡ (b, r) → IsOptional 59 a b r → Ends a cites rest
    by_taken true r is stands = by_space r stands (token_at 32 r) refl
    by_taken false r is (stands, bars) =
        let same : ([], r) ≡ (cites, 93 ∷ rest) = ok_is {F = Unreadable} ([], r) (cites, 93 ∷ rest) (sym (none_further a r is) ∙ e) in
        inl (sym (ap (λ (q : List Cite × List ℕ). q.0) same), stands ∙ ap (λ (q : List Cite × List ℕ). q.1) same)

cites-takes : (cites : List Cite) (cs rest : List ℕ) → cites_at cs ≡ Ok (cites, 93 ∷ rest) → AreCites cs cites rest
unfolding cites_at
cites-takes [] cs rest e =
    let first = bind_ok (cite_at cs) with_others ([], 93 ∷ rest) e in
    let others = bind_ok (each next_cite_at first.0.1) (before first.0.0) ([], 93 ∷ rest) first.2 in
    absurd (never_empty first.0.0 others.0.0 (ap (λ (q : List Cite × List ℕ). q.0) (ok_is {F = Unreadable} (first.0.0 ∷ others.0.0, others.0.1) ([], 93 ∷ rest) others.2)))
cites-takes (c ∷ cites) cs rest e =
    let first = bind_ok (cite_at cs) with_others (c ∷ cites, 93 ∷ rest) e in
    let others = bind_ok (each next_cite_at first.0.1) (before first.0.0) (c ∷ cites, 93 ∷ rest) first.2 in
    let same = ok_is {F = Unreadable} (first.0.0 ∷ others.0.0, others.0.1) (c ∷ cites, 93 ∷ rest) others.2 in
    let list : first.0.0 ∷ others.0.0 ≡ c ∷ cites = ap (λ (q : List Cite × List ℕ). q.0) same in
    let read : each next_cite_at first.0.1 ≡ Ok (cites, 93 ∷ rest) = others.1 ∙ read_same others.0.0 cites others.0.1 (93 ∷ rest) (tail_same first.0.0 c others.0.0 cites list) (ap (λ (q : List Cite × List ℕ). q.1) same) in
    (first.0.1, subst (λ x. IsCite cs x first.0.1) (head_same first.0.0 c others.0.0 cites list) (cite-takes cs first.0 first.1), ends-takes cites first.0.1 rest (λ b h. cites-takes cites b rest h) read)

-- markers
abbrev closed : List Cite × List ℕ → Read (List Cite)
closed cites = token_at 93 cites.1 >>= λ rest. Ok (cites.0, rest)

abbrev opened : List ℕ → Read (List Cite)
opened cs = cites_at cs >>= closed

pub marker-again : Again IsMarker marker_at
unfolding marker_at
marker-again cs rest cites (a, e, are) = ap (λ (x : List ℕ). token_at 91 x >>= opened) e ∙ ap (λ (r : Read (List Cite)). r >>= closed) (cites-again cites a rest are)

pub marker-takes : Takes IsMarker marker_at
unfolding marker_at
marker-takes cs q e =
    let start = bind_ok (token_at 91 cs) opened q e in
    let cites = bind_ok (cites_at start.0) closed q start.2 in
    let end = bind_ok (token_at 93 cites.0.1) (λ rest. Ok (cites.0.0, rest)) q cites.2 in
    let read : cites_at start.0 ≡ Ok (cites.0.0, 93 ∷ end.0) = cites.1 ∙ read_same cites.0.0 cites.0.0 cites.0.1 (93 ∷ end.0) refl (token-takes 93 cites.0.1 end.0 end.1) in
    given (λ p. IsMarker cs p.0 p.1) cites.0.0 end.0 q end.2 (start.0, token-takes 91 cs start.0 start.1, cites-takes cites.0.0 start.0 end.0 read)
