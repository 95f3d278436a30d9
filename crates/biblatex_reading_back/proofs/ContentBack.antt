-- Ordinary contents that were written are read back.
use Rattle.std.proofs.Common.{◌≡◌, ℕ, Bool, true, false, true≢false, not, ◌&&◌, ◌==◌, List, [], ◌∷◌, ◌++◌, Some, None, Result, Ok, refl, sym, ap, subst, ◌∙◌, append_assoc}
use Rattle.std.specs.Prelude.{if◌then◌else◌}
use Rattle.std.specs.List.{list_all}
use Rattle.std.proofs.lemmas.Bool.{eqb-true}
use Rattle.laws.specs.Characters.{dollar_sign, hyphen, open_brace}
use Rattle.laws.specs.Results.{◌>>=◌}
use Rattle.laws.specs.Runs.{Bars}
use Rattle.biblatex_tex.specs.Character.{passes}
use Rattle.biblatex_tex.specs.declared.character.Class.TheVariants.{Hyphen}
use Rattle.biblatex_tex.specs.declared.error.ContentError.{ContentError}
use Rattle.biblatex_tex.specs.Token.{Token, paired}
use Rattle.biblatex_tex.proofs.TokenPairing.{paired_of-ok}
use Rattle.biblatex_content.specs.declared.chunk.Kind.{Kind}
use Rattle.biblatex_content.specs.declared.chunk.Kind.TheVariants.{Normal, Verbatim}
use Rattle.biblatex_content.specs.Styled.{Member, Letter, Math}
use Rattle.biblatex_content.specs.Ordinary.{State, begun, steps, ended_in, ordinary}
use Rattle.biblatex_content.specs.Tidy.{tidied}
use Rattle.biblatex_content.specs.Writing.{guard, is_grouped, written_character, written_from, written_ordinary}
use Rattle.biblatex_content.proofs.Tests.{first_of_two, second_of_two}
use Rattle.biblatex_writing.specs.SettledContent.{hyphen_kind, are_of_one_kind, has_single_hyphens, is_math, is_tidy_styled, is_writable, is_settled_ordinary}
use Rattle.biblatex_reading_back.proofs.ContentTokens.{Reads, at_end, closed}
use Rattle.biblatex_reading_back.proofs.ContentCharacters.{character_read, no_hyphen, group_read}
use Rattle.biblatex_reading_back.proofs.ContentMath.{math_piece}
use Rattle.biblatex_reading_back.proofs.TidySame.{tidied_same}

-- hyphens are single in what follows a member
single_tail : (m : Member) (ms : List Member) → has_single_hyphens (m ∷ ms) ≡ true → has_single_hyphens ms ≡ true
single_tail m [] single = refl
single_tail m (n ∷ ms) single = second_of_two (not (are_of_one_kind (hyphen_kind m) (hyphen_kind n))) (has_single_hyphens (n ∷ ms)) single

-- a character after a hyphen of its kind is no hyphen
other_normal : (b : Bool) → not (are_of_one_kind (Some Normal) (if b then Some Normal else None)) ≡ true → b ≡ false
other_normal true e = absurd (true≢false (sym e))
other_normal false e = refl

other_verbatim : (b : Bool) → not (are_of_one_kind (Some Verbatim) (if b then Some Verbatim else None)) ≡ true → b ≡ false
other_verbatim true e = absurd (true≢false (sym e))
other_verbatim false e = refl

-- no hyphen stands in what is written after a hyphen
after_hyphen : (kind : Kind) (ms : List Member) → has_single_hyphens (Letter kind hyphen ∷ ms) ≡ true → Bars (passes Hyphen) (written_from (is_grouped kind) ms)
unfolding passes
after_hyphen Normal [] single = tt
after_hyphen Verbatim [] single = refl
after_hyphen Normal (Letter Normal c ∷ ms) single =
    no_hyphen c (written_from false ms) (other_normal (c == hyphen) (first_of_two (not (are_of_one_kind (Some Normal) (if c == hyphen then Some Normal else None))) (has_single_hyphens (Letter Normal c ∷ ms)) single))
after_hyphen Normal (Letter Verbatim c ∷ ms) single = refl
after_hyphen Verbatim (Letter Normal c ∷ ms) single = refl
after_hyphen Verbatim (Letter Verbatim c ∷ ms) single =
    no_hyphen c (written_from true ms) (other_verbatim (c == hyphen) (first_of_two (not (are_of_one_kind (Some Verbatim) (if c == hyphen then Some Verbatim else None))) (has_single_hyphens (Letter Verbatim c ∷ ms)) single))
after_hyphen Normal (Math math ∷ ms) single = refl
after_hyphen Verbatim (Math math ∷ ms) single = refl

-- the same of a character that is perhaps a hyphen
after_letter : (kind : Kind) (c : ℕ) (ms : List Member) → has_single_hyphens (Letter kind c ∷ ms) ≡ true → (c == hyphen) ≡ true → Bars (passes Hyphen) (written_from (is_grouped kind) ms)
after_letter kind c ms single is = after_hyphen kind ms (subst (λ (x : ℕ). has_single_hyphens (Letter kind x ∷ ms) ≡ true) (eqb-true c hyphen is) single)

ordinary_reads : (is_open : Bool) (ms : List Member) → has_single_hyphens ms ≡ true → list_all is_writable ms ≡ true → Reads is_open (written_from is_open ms) ms
ordinary_reads false [] single all = at_end
ordinary_reads true [] single all = closed [] [] at_end
ordinary_reads false (Letter Normal c ∷ ms) single all =
    character_read false c (written_from false ms) ms (after_letter Normal c ms single) (ordinary_reads false ms (single_tail (Letter Normal c) ms single) all)
ordinary_reads true (Letter Normal c ∷ ms) single all =
    closed (written_character c ++ written_from false ms) (Letter Normal c ∷ ms)
    (character_read false c (written_from false ms) ms (after_letter Normal c ms single) (ordinary_reads false ms (single_tail (Letter Normal c) ms single) all))
ordinary_reads true (Letter Verbatim c ∷ ms) single all =
    character_read true c (written_from true ms) ms (after_letter Verbatim c ms single) (ordinary_reads true ms (single_tail (Letter Verbatim c) ms single) all)
ordinary_reads false (Letter Verbatim c ∷ ms) single all =
    subst (λ (x : List ℕ). Reads false (open_brace ∷ x) (Letter Verbatim c ∷ ms)) (sym (append_assoc (guard (written_character c)) (written_character c) (written_from true ms)))
    (group_read c (written_from true ms) (Letter Verbatim c ∷ ms) (character_read true c (written_from true ms) ms (after_letter Verbatim c ms single) (ordinary_reads true ms (single_tail (Letter Verbatim c) ms single) all)))
ordinary_reads false (Math math ∷ ms) single all =
    math_piece math (written_from false ms) ms (first_of_two (is_math math) (list_all is_writable ms) all) (ordinary_reads false ms (single_tail (Math math) ms single) (second_of_two (is_math math) (list_all is_writable ms) all))
ordinary_reads true (Math math ∷ ms) single all =
    closed (dollar_sign ∷ (math ++ dollar_sign ∷ written_from false ms)) (Math math ∷ ms)
    (math_piece math (written_from false ms) ms (first_of_two (is_math math) (list_all is_writable ms) all) (ordinary_reads false ms (single_tail (Math math) ms single) (second_of_two (is_math math) (list_all is_writable ms) all)))

read_whole : (cs : List ℕ) (ms : List Member) → Reads false cs ms → ordinary cs ≡ Ok ms
unfolding ordinary
read_whole cs ms r =
    ap (λ (q : Result (List Token) ContentError). q >>= λ tokens. steps tokens (begun []) >>= λ (s : State). ended_in s.mode s.frames s.done) (paired_of-ok cs r.tokens (paired r.tokens) r.are refl)
    ∙ ap (λ (q : Result State ContentError). q >>= λ (s : State). ended_in s.mode s.frames s.done) (r.give [])

pub ordinary_back : (ms : List Member) → is_settled_ordinary ms ≡ true → (ordinary (written_ordinary ms) ≡ Ok ms) × (tidied ms ≡ ms)
ordinary_back ms settled =
    let front = first_of_two (is_tidy_styled ms && has_single_hyphens ms) (list_all is_writable ms) settled in (
      read_whole (written_ordinary ms) ms
          (ordinary_reads false ms (second_of_two (is_tidy_styled ms) (has_single_hyphens ms) front) (second_of_two (is_tidy_styled ms && has_single_hyphens ms) (list_all is_writable ms) settled)),
      tidied_same ms (first_of_two (is_tidy_styled ms) (has_single_hyphens ms) front),
    )
