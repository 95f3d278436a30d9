-- Openings and marks of the grammar are those that the reader sees.
use Rattle.std.proofs.Common.{◌≡◌, ℕ, Bool, true, false, cond, eqb, ◌&&◌, ◌||◌, List, [], ◌∷◌, Option, Some, None, Result, Ok, Err, inl, inr, refl, ap, ◌∙◌, subst}
use Rattle.std.specs.Prelude.{is_ok, is_some}
use Rattle.std.proofs.lemmas.Bool.{eqb-true, and_parts}
use Rattle.laws.specs.Results.{◌>>=◌}
use Rattle.laws.proofs.Results.{bind_ok}
use Rattle.texts.specs.Reading.{token_at}
use Rattle.texts.specs.declared.reader.Unreadable.{Unreadable}
use Rattle.cite_markers.specs.Marker.{Cite, Beginning, beginning_at, opening_at}
use Rattle.cite_markers.specs.Document.{is_opening, escaped, is_opening_or_escape}
use Rattle.cite_markers_grammar.specs.Markers.{IsMarker, IsOpening}
use Rattle.cite_markers_grammar.specs.Documents.{IsEscape, IsMark}
use Rattle.cite_markers_grammar.proofs.Steps.{denied, both_ways, token-takes}
use Rattle.cite_markers_grammar.proofs.Cites.{beginning-again, beginning-takes}

pub opening-again : (cs : List ℕ) → IsOpening cs → is_opening cs ≡ true
unfolding is_opening opening_at
opening-again cs (a, b, rest, e, begins) = ap (λ (x : List ℕ). is_ok (token_at 91 x >>= beginning_at)) e ∙ ap is_ok (beginning-again a rest b begins)

opening_at-takes : (cs : List ℕ) (q : Beginning × List ℕ) → opening_at cs ≡ Ok q → IsOpening cs
unfolding opening_at
opening_at-takes cs q e =
    let start = bind_ok (token_at 91 cs) beginning_at q e in
    (start.0, q.0, q.1, token-takes 91 cs start.0 start.1, beginning-takes start.0 q start.2)

pub opening-takes : (cs : List ℕ) → is_opening cs ≡ true → IsOpening cs
unfolding is_opening
opening-takes cs e = by_read (opening_at cs) refl e
  where
    by_read : (r : Result (Beginning × List ℕ) Unreadable) → opening_at cs ≡ r → is_ok r ≡ true → IsOpening cs
    by_read (Ok q) is e = opening_at-takes cs q is
    by_read (Err f) is e = absurd cc

-- a marker begins with an opening
pub marker-opens : (cs rest : List ℕ) (cites : List Cite) → IsMarker cs cites rest → IsOpening cs
marker-opens cs rest [] (a, e, are) = absurd are
marker-opens cs rest (c ∷ cites) (a, e, (b, is, ends)) = (a, record { hidden = c.hidden; purpose = c.purpose }, is.0, e, is.2)

-- nothing opens at the end of the text
pub none_opens : is_opening [] ≡ false
unfolding is_opening opening_at
none_opens = refl

-- no bracket is a backslash
pub unescaped : (cs : List ℕ) → is_opening cs ≡ true → escaped cs ≡ None
unescaped cs opens =
    let is = opening-takes cs opens in
    ap escaped is.3

abbrev when : Bool → List ℕ → Option (List ℕ)
when b cs = cond b (Some cs) None

pub escape-again : (cs opening : List ℕ) → IsEscape cs opening → escaped cs ≡ Some opening
escape-again cs opening (e, opens) = ap escaped e ∙ ap (λ b. when b opening) (opening-again opening opens)

some_is : (x y : List ℕ) → Some x ≡ Some y → x ≡ y
some_is x y e = cc

none_is : (x : List ℕ) → ◌≡◌ {A = Option (List ℕ)} None (Some x) → ⊥
none_is x e = cc

pub escape-takes : (cs opening : List ℕ) → escaped cs ≡ Some opening → IsEscape cs opening
escape-takes [] opening e = absurd (none_is opening e)
escape-takes (c ∷ cs) opening e = by_test (eqb c 92 && is_opening cs) refl e
  where
    by_test : (b : Bool) → (eqb c 92 && is_opening cs) ≡ b → when b cs ≡ Some opening → IsEscape (c ∷ cs) opening
    by_test true both is =
        let t = and_parts (eqb c 92) (is_opening cs) both in
        let same : cs ≡ opening = some_is cs opening is in
        ((λ j. eqb-true c 92 t.0 j ∷ same j), subst IsOpening same (opening-takes cs t.1))
    by_test false both is = absurd (none_is opening is)

-- marks
or_right : (a b : Bool) → b ≡ true → a || b ≡ true
or_right true b e = refl
or_right false b e = e

pub mark-again : (cs : List ℕ) → IsMark cs → is_opening_or_escape cs ≡ true
mark-again cs (inl opens) = or_right (is_some (escaped cs)) (is_opening cs) (opening-again cs opens)
mark-again cs (inr (opening, escape)) = ap (λ o. is_some o || is_opening cs) (escape-again cs opening escape)

pub mark-takes : (cs : List ℕ) → is_opening_or_escape cs ≡ true → IsMark cs
mark-takes cs e = by_escape (escaped cs) refl e
  where
    by_escape : (o : Option (List ℕ)) → escaped cs ≡ o → is_some o || is_opening cs ≡ true → IsMark cs
    by_escape (Some opening) is e = inr (opening, escape-takes cs opening is)
    by_escape None is e = inl (opening-takes cs e)

pub unmarked-again : (cs : List ℕ) → (IsMark cs → ⊥) → is_opening_or_escape cs ≡ false
unmarked-again cs never = denied (is_opening_or_escape cs) (λ e. never (mark-takes cs e))

pub unmarked-takes : (cs : List ℕ) → is_opening_or_escape cs ≡ false → IsMark cs → ⊥
unmarked-takes cs e is = both_ways (is_opening_or_escape cs) (mark-again cs is) e
