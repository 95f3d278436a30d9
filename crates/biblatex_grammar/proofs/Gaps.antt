-- Gaps and skipped text are what the reader's runs skip.
use Rattle.std.proofs.Common.{◌≡◌, ℕ, Bool, true, false, cond, not, ◌||◌, eqb, List, [], ◌∷◌, ◌++◌, Some, None, refl, sym, ap, ◌∙◌, subst, inl, inr}
use Rattle.std.proofs.lemmas.Bool.{eqb-true}
use Rattle.std.specs.Char.{is_whitespace}
use Rattle.laws.specs.Runs.{AllPassTest, Bars}
use Rattle.biblatex_text.specs.Run.{only_if, next, after}
use Rattle.biblatex_text.specs.Reading.{after_blanks}
use Rattle.biblatex_text.specs.Items.{next_item_at}
use Rattle.biblatex_grammar.specs.Gaps.{Part, character, hidden, EndsLine, AreParts, IsGap, is_skipped, IsOutside}
use Rattle.biblatex_grammar.proofs.Classes.{differs, neither, none_of_both}
use Rattle.biblatex_grammar.proofs.States.{Run, blank, comment, outside}
use Rattle.biblatex_grammar.proofs.States.{hidden as hidden_run}

abbrev no_line_feed : ℕ → Bool
no_line_feed c = not (eqb c 10)

abbrev pub begins_part : (ℕ → Bool) → ℕ → Bool
begins_part test c = eqb c 37 || test c

-- A run that skips characters of a test, and another that hides what follows a percent sign on its line.
pub record Skips (run hiding : Run) (test : ℕ → Bool) : Type 0 where
  pub bars : test 37 ≡ false
  pub plain : (c : ℕ) → eqb c 37 ≡ false → next run c ≡ only_if (test c) run
  pub percent : next run 37 ≡ Some hiding
  pub line : (c : ℕ) → next hiding c ≡ Some (cond (eqb c 10) run hiding)

pub skips_blanks : Skips blank comment is_whitespace
skips_blanks = record { bars = refl; plain = λ c e. rw e refl; percent = refl; line = λ c. refl }

pub skips_outside : Skips outside hidden_run is_skipped
unfolding next_item_at
skips_outside = record { bars = refl; plain = λ c e. by_sign c (eqb c 64) e; percent = refl; line = λ c. refl }
  where
    by_sign : (c : ℕ) (b : Bool) → eqb c 37 ≡ false → cond (eqb c 37) (Some hidden_run) (only_if (not b) outside) ≡ only_if (not (b || eqb c 37)) outside
    by_sign c true e = rw e refl
    by_sign c false e = rw e refl

module _ (run hiding : Run) (test : ℕ → Bool) (skips : Skips run hiding test) where
  -- one character further
  goes : (now then : Run) (c : ℕ) (cs : List ℕ) → next now c ≡ Some then → after now (c ∷ cs) ≡ after then cs
  goes now then c cs e = rw e refl

  stops : (rest : List ℕ) → Bars (begins_part test) rest → after run rest ≡ rest
  stops [] bars = refl
  stops (c ∷ rest) bars =
      let two = neither (eqb c 37) (test c) bars in
      let here : next run c ≡ None = skips.plain c two.0 ∙ ap (λ b. only_if b run) two.1 in
      rw here refl

  passes_one : (c : ℕ) (cs : List ℕ) → test c ≡ true → after run (c ∷ cs) ≡ after run cs
  passes_one c cs is = goes run run c cs (skips.plain c (differs test c 37 is skips.bars) ∙ ap (λ b. only_if b run) is)

  hides : (t b a : List ℕ) → AllPassTest no_line_feed t → EndsLine b a → after hiding (t ++ b) ≡ after run a
  hides [] b a all (inl e) = ap (after hiding) e ∙ goes hiding run 10 a (skips.line 10)
  hides [] b a all (inr (e, f)) = ap (after hiding) e ∙ ap (after run) (sym f)
  hides (c ∷ t) b a all ends =
      let no : eqb c 10 ≡ false = not_true (eqb c 10) all.0 in
      goes hiding hiding c (t ++ b) (skips.line c ∙ ap (λ x. Some (cond x run hiding)) no) ∙ hides t b a all.1 ends
    where
      not_true : (b : Bool) → not b ≡ true → b ≡ false
      not_true true e = sym e
      not_true false e = refl

  parts-again : (ps : List Part) (cs rest : List ℕ) → AreParts test cs ps rest → after run cs ≡ rest
  parts-again [] cs rest (e, bars) = ap (after run) e ∙ stops rest bars
  parts-again (character c ∷ ps) cs rest (a, (e, is), more) = ap (after run) e ∙ (passes_one c a is ∙ parts-again ps a rest more)
  parts-again (hidden t ∷ ps) cs rest (a, (b, e, all, ends), more) =
      ap (after run) e ∙ (goes run hiding 37 (t ++ b) skips.percent ∙ (hides t b a all ends ∙ parts-again ps a rest more))

  -- what a text is from its first character on, where it is shown and where it is hidden
  record Both (cs : List ℕ) : Type 0 where
    shown : (ps : List Part) × AreParts test cs ps (after run cs)
    behind : (t : List ℕ) × (b : List ℕ) × (a : List ℕ) × (ps : List Part) × (cs ≡ t ++ b) × AllPassTest no_line_feed t × EndsLine b a × AreParts test a ps (after hiding cs)

  further : (c : ℕ) (cs : List ℕ) → Both cs → Both (c ∷ cs)
  further c cs more = record { shown = by_percent (eqb c 37) refl; behind = by_line (eqb c 10) refl }
    where
      by_class : eqb c 37 ≡ false → (b : Bool) → test c ≡ b → (ps : List Part) × AreParts test (c ∷ cs) ps (after run (c ∷ cs))
      by_class other true is = (character c ∷ more.shown.0, (cs, (refl, is), rw (passes_one c cs is) more.shown.1))
      by_class other false is =
          let bars : Bars (begins_part test) (c ∷ cs) = none_of_both (eqb c 37) (test c) other is in
          let stays : after run (c ∷ cs) ≡ c ∷ cs = stops (c ∷ cs) bars in
          ([], (sym stays, subst (Bars (begins_part test)) (sym stays) bars))

      by_percent : (b : Bool) → eqb c 37 ≡ b → (ps : List Part) × AreParts test (c ∷ cs) ps (after run (c ∷ cs))
      by_percent true is =
          let sign : c ≡ 37 = eqb-true c 37 is in
          let h = more.behind in
          let there : after run (c ∷ cs) ≡ after hiding cs = goes run hiding c cs (ap (next run) sign ∙ skips.percent) in
          (hidden h.0 ∷ h.3, (h.2, (h.1, ap (λ x. x ∷ cs) sign ∙ ap (λ (x : List ℕ). 37 ∷ x) h.4, h.5, h.6), rw there h.7))
      by_percent false is = by_class is (test c) refl

      by_line : (b : Bool) → eqb c 10 ≡ b
          → (t : List ℕ) × (b : List ℕ) × (a : List ℕ) × (ps : List Part) × (c ∷ cs ≡ t ++ b) × AllPassTest no_line_feed t × EndsLine b a × AreParts test a ps (after hiding (c ∷ cs))
      by_line true is =
          let there : after hiding (c ∷ cs) ≡ after run cs = goes hiding run c cs (skips.line c ∙ ap (λ x. Some (cond x run hiding)) is) in
          ([], c ∷ cs, cs, more.shown.0, refl, tt, inl (ap (λ x. x ∷ cs) (eqb-true c 10 is)), rw there more.shown.1)
      by_line false is =
          let h = more.behind in
          let there : after hiding (c ∷ cs) ≡ after hiding cs = goes hiding hiding c cs (skips.line c ∙ ap (λ x. Some (cond x run hiding)) is) in
          (c ∷ h.0, h.1, h.2, h.3, ap (λ (x : List ℕ). c ∷ x) h.4, (ap not is, h.5), h.6, rw there h.7)

  both : (cs : List ℕ) → Both cs
  both [] = record { shown = ([], (refl, tt)); behind = ([], [], [], [], refl, tt, inr (refl, refl), (refl, tt)) }
  both (c ∷ cs) = further c cs (both cs)

pub gap-again : (cs rest : List ℕ) → IsGap cs rest → after_blanks cs ≡ rest
gap-again cs rest (ps, are) = parts-again blank comment is_whitespace skips_blanks ps cs rest are

pub gap-takes : (cs : List ℕ) → IsGap cs (after_blanks cs)
gap-takes cs = (both blank comment is_whitespace skips_blanks cs).shown

pub outside-again : (cs rest : List ℕ) → IsOutside cs rest → after outside cs ≡ rest
outside-again cs rest (ps, are) = parts-again outside hidden_run is_skipped skips_outside ps cs rest are

pub outside-takes : (cs : List ℕ) → IsOutside cs (after outside cs)
outside-takes cs = (both outside hidden_run is_skipped skips_outside cs).shown
