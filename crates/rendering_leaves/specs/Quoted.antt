-- The double quotes of a text, which are those of the locale in a published style.
use Rattle.std.specs.Prelude.{ℕ, Bool, true, false, not, ◌==◌, ◌||◌, List, [], ◌∷◌, map, if◌then◌else◌}
use Rattle.std.specs.List.{flat_map, list_any}
use Rattle.laws.specs.Characters.{left_double_quotation_mark, right_double_quotation_mark}
use Rattle.laws.specs.Text.{is_filled}
use Rattle.literature_values.specs.TextViews.{Chunk}
use Rattle.literature_values.specs.declared.text.ChunkKind.{ChunkKind}
use Rattle.literature_values.specs.declared.text.ChunkKind.TheVariants as kinds
use Rattle.rendering_locale.specs.Locales.{Locale}
use Rattle.rendering_locale.specs.Lookup.{quote_text}
use Rattle.rendering_context.specs.Answering.{Answer, pieces}
use Rattle.rendering_context.specs.Contexts.{Context}
use Rattle.rendering_taxonomy.specs.declared.term.OtherTerm.{OtherTerm}
use Rattle.rendering_taxonomy.specs.declared.term.OtherTerm.TheVariants as others
use Rattle.rendering_taxonomy.specs.declared.term.Term.TheVariants as terms

-- the open quotes, of which those inside others are of another kind
abbrev pub open_term : Bool → OtherTerm
open_term false = others.OpenQuote
open_term true = others.OpenInnerQuote

-- the close quotes, of which those inside others are of another kind
abbrev pub close_term : Bool → OtherTerm
close_term false = others.CloseQuote
close_term true = others.CloseInnerQuote

-- a quote of a locale, or the character as it is written where no locale has one
abbrev pub quote_or : List ℕ → ℕ → List ℕ
quote_or quote c = if is_filled quote then quote else c ∷ []

-- a character of a text: a double quote is the locale's outer one, or its inner one where the text stands in outer quotes
abbrev pub requoted_character : List Locale → Bool → ℕ → List ℕ
requoted_character ls inner c =
    if c == left_double_quotation_mark
    then quote_or (quote_text ls (terms.Other (open_term inner))) c
    else if c == right_double_quotation_mark
    then quote_or (quote_text ls (terms.Other (close_term inner))) c
    else c ∷ []

abbrev pub requoted_text : List Locale → Bool → List ℕ → List ℕ
requoted_text ls inner cs = flat_map (requoted_character ls inner) cs

-- a formula stays
abbrev pub requoted_value : List Locale → Bool → ChunkKind → List ℕ → List ℕ
requoted_value ls inner kinds.Math cs = cs
requoted_value ls inner kind cs = requoted_text ls inner cs

abbrev pub requoted_chunk : List Locale → Bool → Chunk → Chunk
requoted_chunk ls inner k = record { value = requoted_value ls inner k.kind k.value; kind = k.kind }

abbrev pub requoted_chunks : List Locale → Bool → List Chunk → List Chunk
requoted_chunks ls inner ks = map (requoted_chunk ls inner) ks

-- whether the quotes of a text are inner ones: outer ones stand around it, its own or those of a macro
abbrev pub are_inner : Bool → Bool → Bool
are_inner quotes inside = if quotes then not inside else inside

-- an answer whose texts have the quotes of the locale
abbrev pub with_quotes : List Locale → Bool → Answer → Answer
with_quotes ls inner (pieces ks) = pieces (requoted_chunks ls inner ks)
with_quotes ls inner h = h

-- in a published style the texts of an answer have the quotes of the locale
abbrev pub quoted_if : Bool → List Locale → Bool → Answer → Answer
quoted_if is_published ls inner h = if is_published then with_quotes ls inner h else h

abbrev pub requoted : Context → Bool → Answer → Answer
requoted c inner h = quoted_if c.is_published c.locales inner h

-- Whether something has a double quote: only then a text is copied.
abbrev pub is_quote : ℕ → Bool
is_quote c = c == left_double_quotation_mark || c == right_double_quotation_mark

abbrev pub is_unquoted : ℕ → Bool
is_unquoted c = not (is_quote c)

abbrev pub value_has_quote : ChunkKind → List ℕ → Bool
value_has_quote kinds.Math cs = false
value_has_quote kind cs = list_any is_quote cs

abbrev pub chunk_has_quote : Chunk → Bool
chunk_has_quote k = value_has_quote k.kind k.value
