-- Texts without double quotes stay as they are.
use Rattle.std.proofs.Common.{◌≡◌, ◌||◌, ◌==◌, not, ℕ, Bool, true, false, List, [], ◌∷◌, ◌++◌, refl, ap, ◌∙◌, append_assoc}
use Rattle.std.specs.Prelude.{if◌then◌else◌}
use Rattle.std.specs.List.{list_any}
use Rattle.std.proofs.lemmas.Bool.{or_parts}
use Rattle.laws.specs.Characters.{left_double_quotation_mark, right_double_quotation_mark}
use Rattle.laws.specs.Runs.{after}
use Rattle.laws.specs.Text.{is_filled}
use Rattle.literature_values.specs.TextViews.{Chunk}
use Rattle.literature_values.specs.declared.text.ChunkKind.{ChunkKind}
use Rattle.literature_values.specs.declared.text.ChunkKind.TheVariants as kinds
use Rattle.rendering_locale.specs.Locales.{Locale}
use Rattle.rendering_locale.specs.Lookup.{quote_text}
use Rattle.rendering_leaves.specs.Quoted.{chunk_has_quote, close_term, is_quote, is_unquoted, open_term, quote_or, requoted_character, requoted_chunks, requoted_text, requoted_value, value_has_quote}
use Rattle.rendering_taxonomy.specs.declared.term.Term.TheVariants as terms

-- what stands from the first quote on is there where there is a quote
pub from_quote : (cs : List ℕ) → is_filled (after is_unquoted cs) ≡ list_any is_quote cs
from_quote [] = refl
from_quote (c ∷ cs) = by (is_quote c) (from_quote cs)
  where
    by : (b : Bool) → is_filled (after is_unquoted cs) ≡ list_any is_quote cs → is_filled (if not b then after is_unquoted cs else c ∷ cs) ≡ (b || list_any is_quote cs)
    by true rest = refl
    by false rest = rest

module _ (ls : List Locale) (inner : Bool) where
  character_stays : (c : ℕ) → is_quote c ≡ false → requoted_character ls inner c ≡ c ∷ []
  character_stays c none = by (c == left_double_quotation_mark) (c == right_double_quotation_mark) none
    where
      by : (b d : Bool) → (b || d) ≡ false
          → (if b then quote_or (quote_text ls (terms.Other (open_term inner))) c else if d then quote_or (quote_text ls (terms.Other (close_term inner))) c else c ∷ []) ≡ c ∷ []
      by true d none = absurd cc
      by false true none = absurd cc
      by false false none = refl

  pub text_stays : (cs : List ℕ) → list_any is_quote cs ≡ false → requoted_text ls inner cs ≡ cs
  text_stays [] none = refl
  text_stays (c ∷ cs) none =
      let parts = or_parts (is_quote c) (list_any is_quote cs) none in
      λ i. character_stays c parts.0 i ++ text_stays cs parts.1 i

  value_stays : (k : ChunkKind) (cs : List ℕ) → value_has_quote k cs ≡ false → requoted_value ls inner k cs ≡ cs
  value_stays kinds.Normal cs none = text_stays cs none
  value_stays kinds.Verbatim cs none = text_stays cs none
  value_stays kinds.Math cs none = refl

  pub chunks_stay : (ks : List Chunk) → list_any chunk_has_quote ks ≡ false → requoted_chunks ls inner ks ≡ ks
  chunks_stay [] none = refl
  chunks_stay (k ∷ ks) none =
      let parts = or_parts (chunk_has_quote k) (list_any chunk_has_quote ks) none in
      λ i. record { value = value_stays k.kind k.value parts.0 i; kind = k.kind } ∷ chunks_stay ks parts.1 i

  -- one character more
  pub put_requoted : (old new : List ℕ) (c : ℕ) (cs : List ℕ) → new ≡ old ++ requoted_character ls inner c → new ++ requoted_text ls inner cs ≡ old ++ requoted_text ls inner (c ∷ cs)
  put_requoted old new c cs put =
      ap (λ (ds : List ℕ). ds ++ requoted_text ls inner cs) put ∙ append_assoc old (requoted_character ls inner c) (requoted_text ls inner cs)
