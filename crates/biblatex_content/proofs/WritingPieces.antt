-- Fields that are written piece by piece.
use Rattle.std.proofs.Common.{◌≡◌, ℕ, Bool, true, List, [], ◌∷◌, ◌++◌, refl, sym, ap, ◌∙◌, append_assoc}
use Rattle.std.specs.List.{flat_map}
use Rattle.std.proofs.lemmas.List.{append-nil}
use Rattle.biblatex_text.specs.declared.spanned.Spanned.{Spanned}
use Rattle.biblatex_content.specs.declared.chunk.Kind.{Kind}
use Rattle.biblatex_content.specs.declared.chunk.Kind.TheVariants.{Normal, Verbatim}
use Rattle.biblatex_content.specs.declared.chunk.Chunk.{Chunk}
use Rattle.biblatex_content.specs.declared.chunk.Chunk.TheVariants as chunks
use Rattle.biblatex_content.specs.Styled.{Member, Letter, letters}
use Rattle.biblatex_tex.specs.Token.{begins_command}
use Rattle.biblatex_content.specs.Views.{chunk_text, members, styled}
use Rattle.laws.specs.Characters.{open_brace, close_brace}
use Rattle.laws.specs.Text.{characters}
use Rattle.biblatex_content.specs.Writing.{guard, turning, is_grouped, written_character, written_from, written_as_is, written_verbatim}

-- a group that begins with a command has a guard
pub guard_stands : (cs : List ℕ) → begins_command cs ≡ true → guard cs ≡ open_brace ∷ close_brace ∷ []
guard_stands cs e = rw e refl

-- one more character of an ordinary field
pub letter_more : (done turned new : List ℕ) (is_open : Bool) (kind : Kind) (c : ℕ) (ms : List Member) → turned ≡ done ++ turning is_open kind c → new ≡ turned ++ written_character c → new ++ written_from (is_grouped kind) ms ≡ done ++ written_from is_open (Letter kind c ∷ ms)
letter_more done turned new is_open kind c ms e f =
    let rest = written_from (is_grouped kind) ms in
    rw (f, e) (ap (λ (x : List ℕ). x ++ rest) (append_assoc done (turning is_open kind c) (written_character c)) ∙ append_assoc done (turning is_open kind c ++ written_character c) rest)

verbatim_letters : (kind : Kind) (cs : List ℕ) (ms : List Member) → written_verbatim (letters kind cs ++ ms) ≡ flat_map written_as_is cs ++ written_verbatim ms
verbatim_letters kind [] ms = refl
verbatim_letters kind (c ∷ cs) ms = ap (λ (x : List ℕ). written_as_is c ++ x) (verbatim_letters kind cs ms) ∙ sym (append_assoc (written_as_is c) (flat_map written_as_is cs) (written_verbatim ms))

-- a chunk of a verbatim field, and what follows it
pub verbatim_members : (c : Chunk) (ms : List Member) → written_verbatim (members c ++ ms) ≡ flat_map written_as_is (chunk_text c) ++ written_verbatim ms
verbatim_members (chunks.Normal s) ms = verbatim_letters Normal (characters s) ms
verbatim_members (chunks.Verbatim s) ms = verbatim_letters Verbatim (characters s) ms
verbatim_members (chunks.Math s) ms = refl

-- one more chunk of a verbatim field
pub verbatim_more : (done : List ℕ) (c : Spanned Chunk) (cs : List (Spanned Chunk)) → (done ++ flat_map written_as_is (chunk_text c.v)) ++ written_verbatim (styled cs) ≡ done ++ written_verbatim (styled (c ∷ cs))
verbatim_more done c cs = append_assoc done (flat_map written_as_is (chunk_text c.v)) (written_verbatim (styled cs)) ∙ ap (λ (x : List ℕ). done ++ x) (sym (verbatim_members c.v (styled cs)))

-- what is written of a chunk of a verbatim field that stands alone
pub verbatim_alone : (c : Chunk) → flat_map written_as_is (chunk_text c) ≡ written_verbatim (members c)
verbatim_alone c =
    let one : written_verbatim (members c) ≡ flat_map written_as_is (chunk_text c) ++ [] = ap written_verbatim (sym (append-nil (members c))) ∙ verbatim_members c [] in
    sym (one ∙ append-nil (flat_map written_as_is (chunk_text c)))
