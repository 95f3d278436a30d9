-- Characters of one kind are shown as one piece.
use Rattle.std.proofs.Common.{◌≡◌, ℕ, Bool, true, false, List, [], ◌∷◌, ◌++◌, refl, sym, ap, ◌∙◌, append_assoc}
use Rattle.laws.specs.Text.{is_filled}
use Rattle.biblatex.specs.Styled.{Member, letters}
use Rattle.bib_show.specs.Shown.{kind_of, shown_character, shown_characters, turning, shown_from}

-- after characters of their kind
same_kind : (v : Bool) (cs : List ℕ) (more : List Member) → shown_from v (letters (kind_of v) cs ++ more) ≡ shown_characters cs ++ shown_from v more
same_kind v [] more = refl
same_kind true (c ∷ cs) more = ap (λ (x : List ℕ). shown_character c ++ x) (same_kind true cs more) ∙ sym (append_assoc (shown_character c) (shown_characters cs) (shown_from true more))
same_kind false (c ∷ cs) more = ap (λ (x : List ℕ). shown_character c ++ x) (same_kind false cs more) ∙ sym (append_assoc (shown_character c) (shown_characters cs) (shown_from false more))

-- after any
any_kind : (open_before v : Bool) (cs : List ℕ) (more : List Member) → is_filled cs ≡ true → shown_from open_before (letters (kind_of v) cs ++ more) ≡ turning open_before v ++ (shown_characters cs ++ shown_from v more)
any_kind open_before v [] more e = absurd cc
any_kind open_before true (c ∷ cs) more e = ap (λ (x : List ℕ). turning open_before true ++ x) (same_kind true (c ∷ cs) more)
any_kind open_before false (c ∷ cs) more e = ap (λ (x : List ℕ). turning open_before false ++ x) (same_kind false (c ∷ cs) more)

-- what was shown, a brace if one is wanted, and the characters
pub put_text : (old mid new : List ℕ) (open_before v : Bool) (cs : List ℕ) (more : List Member) → is_filled cs ≡ true → mid ≡ old ++ turning open_before v → new ≡ mid ++ shown_characters cs
    → new ++ shown_from v more ≡ old ++ shown_from open_before (letters (kind_of v) cs ++ more)
put_text old mid new open_before v cs more filled e f =
    ap (λ (x : List ℕ). x ++ shown_from v more) (f ∙ ap (λ (x : List ℕ). x ++ shown_characters cs) e)
    ∙ (append_assoc (old ++ turning open_before v) (shown_characters cs) (shown_from v more)
    ∙ (append_assoc old (turning open_before v) (shown_characters cs ++ shown_from v more)
    ∙ ap (λ (x : List ℕ). old ++ x) (sym (any_kind open_before v cs more filled))))
