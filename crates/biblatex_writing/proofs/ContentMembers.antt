-- Contents, chunk after chunk.
use Rattle.std.proofs.Common.{◌≡◌, ℕ, ◌+◌, ◌<◌, Bool, true, false, if◌then◌else◌, List, [], ◌∷◌, ◌++◌, length, drop, get_or, refl, sym, ap, ◌∙◌, append_assoc}
use Rattle.std.specs.Char.{is_ascii}
use Rattle.std.specs.Fmt.{WritesInCalls}
use Rattle.std.specs.List.{list_all}
use Rattle.std.specs.Str.{chars, IsUtf8}
use Rattle.std.proofs.lemmas.List.{at_drop_more}
use Rattle.laws.specs.Characters.{dollar_sign, open_brace, close_brace}
use Rattle.laws.specs.Text.{text}
use Rattle.biblatex_tex.specs.Token.{begins_command}
use Rattle.biblatex_content.specs.declared.chunk.Kind.{Kind}
use Rattle.biblatex_content.specs.declared.chunk.Kind.TheVariants.{Normal, Verbatim}
use Rattle.biblatex_content.specs.declared.chunk.Chunk.{Chunk}
use Rattle.biblatex_content.specs.Styled.{Member, Math, letters}
use Rattle.biblatex_content.specs.Views.{chunk_text, members}
use Rattle.biblatex_content.specs.Writing.{closing, turning, is_grouped, written_character, written_from, written_verbatim}
use Rattle.biblatex_content.proofs.WritingPieces.{verbatim_members}
use Rattle.biblatex_writing.specs.ContentPieces.{spelled, WritesMembers}
use Rattle.biblatex_writing.proofs.Calls.{one_ascii, one_text, more_characters, same_characters}

-- the member at an index is the first of what is left
pub at_item : {X Y : Type 0} (F : List X → Y) (xs : List X) (i : ℕ) (x : X) → i < length xs → x ≡ get_or xs i x → F (drop i xs) ≡ F (x ∷ drop (i + 1) xs)
at_item F xs i x lt is = at_drop_more F xs i x lt ∙ ap (λ y. F (y ∷ drop (i + 1) xs)) (sym is)

pub closing_ascii : (is_open : Bool) → list_all is_ascii (closing is_open) ≡ true
closing_ascii true = refl
closing_ascii false = refl

turning_ascii : (is_open : Bool) (kind : Kind) (c : ℕ) → list_all is_ascii (turning is_open kind c) ≡ true
turning_ascii is_open Normal c = closing_ascii is_open
turning_ascii true Verbatim c = refl
turning_ascii false Verbatim c = by_test (begins_command (written_character c))
  where
    by_test : (b : Bool) → list_all is_ascii (open_brace ∷ (if b then open_brace ∷ close_brace ∷ [] else [])) ≡ true
    by_test true = refl
    by_test false = refl

-- nothing stands between characters of one kind
no_turning : (kind : Kind) (c : ℕ) → turning (is_grouped kind) kind c ≡ []
no_turning Normal c = refl
no_turning Verbatim c = refl

-- characters of one kind after others of it
letters_after : (kind : Kind) (cs : List ℕ) (ms : List Member) → written_from (is_grouped kind) (letters kind cs ++ ms) ≡ spelled false cs ++ written_from (is_grouped kind) ms
letters_after kind [] ms = refl
letters_after kind (c ∷ cs) ms =
    ap (λ (x : List ℕ). (x ++ written_character c) ++ written_from (is_grouped kind) (letters kind cs ++ ms)) (no_turning kind c)
    ∙ (ap (λ (x : List ℕ). written_character c ++ x) (letters_after kind cs ms) ∙ sym (append_assoc (written_character c) (spelled false cs) (written_from (is_grouped kind) ms)))

-- and the first of them
letters_first : (is_open : Bool) (kind : Kind) (c : ℕ) (cs : List ℕ) (ms : List Member)
    → turning is_open kind c ++ (spelled false (c ∷ cs) ++ written_from (is_grouped kind) ms) ≡ written_from is_open (letters kind (c ∷ cs) ++ ms)
letters_first is_open kind c cs ms =
    ap (λ (x : List ℕ). turning is_open kind c ++ x)
    (append_assoc (written_character c) (spelled false cs) (written_from (is_grouped kind) ms) ∙ ap (λ (x : List ℕ). written_character c ++ x) (sym (letters_after kind cs ms)))
    ∙ sym (append_assoc (turning is_open kind c) (written_character c) (written_from (is_grouped kind) (letters kind cs ++ ms)))

module _ {W : Type 0} (took : W → List ℕ → W → Type 0) where
  -- no characters
  pub no_letters : (w : W) (is_open : Bool) (kind : Kind) (cs : List ℕ) → cs ≡ [] → WritesMembers took w is_open (letters kind cs) w is_open
  no_letters w is_open kind cs none = λ more u written. same_characters took w (written_from is_open more) (written_from is_open (letters kind cs ++ more)) u (ap (λ (x : List ℕ). written_from is_open (letters kind x ++ more)) (sym none)) written

  -- characters of one kind, after what stands before the first of them
  pub letters_written : (w : W) (is_open : Bool) (kind : Kind) (all : List ℕ) (c : ℕ) (cs turn : List ℕ) (m v : W) (is_next : Bool) → chars all ≡ c ∷ cs → turn ≡ turning is_open kind c → took w turn m
      → WritesInCalls took m (text (spelled false (chars all))) v → is_next ≡ is_grouped kind → WritesMembers took w is_open (letters kind (chars all)) v is_next
  letters_written w is_open kind all c cs turn m v is_next first turns t run next = λ more u written.
      let before = one_ascii took w turn (turning is_open kind c) m turns (turning_ascii is_open kind c) t in
      let after = same_characters took v (written_from is_next more) (written_from (is_grouped kind) more) u (ap (λ (b : Bool). written_from b more) next) written in
      let here = same_characters took m (spelled false (chars all)) (spelled false (c ∷ cs)) v (ap (spelled false) first) run in
      let whole = more_characters took w (turning is_open kind c) m (spelled false (c ∷ cs) ++ written_from (is_grouped kind) more) u before
      (more_characters took m (spelled false (c ∷ cs)) v (written_from (is_grouped kind) more) u here after) in
      same_characters took w _ (written_from is_open (letters kind (chars all) ++ more)) u
      (letters_first is_open kind c cs more ∙ ap (λ (x : List ℕ). written_from is_open (letters kind x ++ more)) (sym first)) whole

  -- a math piece
  pub math_written : (w : W) (is_open : Bool) (end math : List ℕ) (a b d v : W) → IsUtf8 math → end ≡ closing is_open → took w end a → took a (dollar_sign ∷ []) b → took b math d
      → took d (dollar_sign ∷ []) v → WritesMembers took w is_open (Math (chars math) ∷ []) v false
  math_written w is_open end math a b d v utf8 ends first opens inside closes = λ more u written.
      let rest = written_from false more in
      let sign = dollar_sign ∷ [] in
      let before = one_ascii took w end (closing is_open) a ends (closing_ascii is_open) first in
      let within = more_characters took a sign b (chars math) d (one_ascii took a sign sign b refl refl opens) (one_text took b math d utf8 inside) in
      let after = more_characters took d sign v rest u (one_ascii took d sign sign v refl refl closes) written in
      more_characters took w (closing is_open ++ dollar_sign ∷ chars math) d (dollar_sign ∷ rest) u (more_characters took w (closing is_open) a (dollar_sign ∷ chars math) d before within) after

  -- a chunk of a verbatim field, before others
  pub verbatim_written : (w : W) (c : Chunk) (cs : List ℕ) (ms : List Member) (m u : W) → cs ≡ chunk_text c → WritesInCalls took w (text (spelled true cs)) m
      → WritesInCalls took m (text (written_verbatim ms)) u → WritesInCalls took w (text (written_verbatim (members c ++ ms))) u
  verbatim_written w c cs ms m u is here others =
      same_characters took w (spelled true cs ++ written_verbatim ms) (written_verbatim (members c ++ ms)) u
      (ap (λ (x : List ℕ). spelled true x ++ written_verbatim ms) is ∙ sym (verbatim_members c ms))
      (more_characters took w (spelled true cs) m (written_verbatim ms) u here others)
