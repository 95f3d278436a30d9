-- The laws of ordinary fields.
use Rattle.std.proofs.Common.{◌≡◌, ℕ, List, [], ◌∷◌, Result, Ok, Err, refl, sym, ap, ◌∙◌, subst, inl, inr}
use Rattle.std.specs.Prelude.{◌⊎◌}
use Rattle.laws.specs.Characters.{close_brace}
use Rattle.biblatex_tex.specs.declared.error.ContentError.{ContentError}
use Rattle.biblatex_tex.specs.declared.error.ContentError.TheVariants.{MalformedCommand}
use Rattle.biblatex_content.specs.declared.chunk.Kind.TheVariants.{Normal}
use Rattle.biblatex_content.specs.Styled.{Member}
use Rattle.biblatex_content.specs.Ordinary.{ordinary}
use Rattle.biblatex_readings_grammar.specs.Ordinary.{AreRows, IsOrdinary}
use Rattle.biblatex_readings_grammar.proofs.Modes.{free}
use Rattle.biblatex_readings_grammar.proofs.AccentMarks.{done_with, left_with}
use Rattle.biblatex_readings_grammar.proofs.Whole.{whole, gave, ordinary-whole, close-fails, nil-ends}
use Rattle.biblatex_readings_grammar.proofs.ContentAgain.{rows-again}
use Rattle.biblatex_readings_grammar.proofs.ContentTakes.{Rows, Fails, rows-take}

all_done : (ms : List Member) → done_with [] [] ms ≡ ms
all_done [] = refl
all_done (m ∷ ms) = refl

abbrev read : List Member → Result (List Member) ContentError
read ms = Ok ms

abbrev refused : ContentError → Result (List Member) ContentError
refused f = Err f

never : (ms : List Member) (f : ContentError) → read ms ≡ refused f → ⊥
never ms f e = cc

read_is : (ms ns : List Member) → read ms ≡ read ns → ms ≡ ns
read_is ms ns e = cc

pub ordinary-again : (cs : List ℕ) (ms : List Member) → IsOrdinary cs ms → ordinary cs ≡ Ok ms
ordinary-again cs ms is =
    ordinary-whole cs
    ∙ (rows-again Normal cs ms [] is [] [] []
    ∙ (nil-ends Normal (done_with [] [] ms) (left_with free [] ms) ∙ ap read (all_done ms)))

-- a piece is related to members, or it is malformed
decided : (cs : List ℕ) → ((ms : List Member) × IsOrdinary cs ms) ⊎ (ordinary cs ≡ Err MalformedCommand)
decided cs = by_rows (rows-take Normal cs)
  where
    by_rows : Rows Normal cs ⊎ Fails Normal cs → ((ms : List Member) × IsOrdinary cs ms) ⊎ (ordinary cs ≡ Err MalformedCommand)
    by_rows (inr fails) = inr (ordinary-whole cs ∙ fails [] [] [])
    by_rows (inl r) = by_end r.stops
      where
        by_end : (r.rest ≡ []) ⊎ ((q : List ℕ) × (r.rest ≡ close_brace ∷ q)) → ((ms : List Member) × IsOrdinary cs ms) ⊎ (ordinary cs ≡ Err MalformedCommand)
        by_end (inl e) = inl (r.members, subst (AreRows Normal cs r.members) e r.are)
        by_end (inr (q, e)) =
            inr (ordinary-whole cs
            ∙ (rows-again Normal cs r.members r.rest r.are [] [] []
            ∙ (ap (λ (x : List ℕ). whole x (gave Normal [] free [] [] r.members)) e ∙ close-fails Normal (done_with [] [] r.members) (left_with free [] r.members) q)))

pub ordinary-takes : (cs : List ℕ) (ms : List Member) → ordinary cs ≡ Ok ms → IsOrdinary cs ms
ordinary-takes cs ms e = by_cases (decided cs)
  where
    by_cases : ((ns : List Member) × IsOrdinary cs ns) ⊎ (ordinary cs ≡ Err MalformedCommand) → IsOrdinary cs ms
    by_cases (inl (ns, is)) = subst (IsOrdinary cs) (read_is ns ms (sym (ordinary-again cs ns is) ∙ e)) is
    by_cases (inr f) = absurd (never ms MalformedCommand (sym e ∙ f))

pub unique : (cs : List ℕ) (ms ns : List Member) → IsOrdinary cs ms → IsOrdinary cs ns → ms ≡ ns
unique cs ms ns is also = read_is ms ns (sym (ordinary-again cs ms is) ∙ ordinary-again cs ns also)

pub malformed-unrelated : (cs : List ℕ) → ordinary cs ≡ Err MalformedCommand → (ms : List Member) → IsOrdinary cs ms → ⊥
malformed-unrelated cs e ms is = never ms MalformedCommand (sym (ordinary-again cs ms is) ∙ e)

pub unrelated-malformed : (cs : List ℕ) → ((ms : List Member) → IsOrdinary cs ms → ⊥) → ordinary cs ≡ Err MalformedCommand
unrelated-malformed cs none = by_cases (decided cs)
  where
    by_cases : ((ns : List Member) × IsOrdinary cs ns) ⊎ (ordinary cs ≡ Err MalformedCommand) → ordinary cs ≡ Err MalformedCommand
    by_cases (inl (ns, is)) = absurd (none ns is)
    by_cases (inr f) = f
