-- The fields of an entry of a file.
use Rattle.std.proofs.Common.{ℕ, List, [], ◌∷◌, ◌++◌, refl, inl, inr}
use Rattle.std.specs.List.{AllByRecursion}
use Rattle.laws.specs.Characters.{line_feed, space, comma, equals_sign, open_brace, close_brace}
use Rattle.biblatex_text.specs.Raw.{normal, Field}
use Rattle.biblatex_grammar.specs.Items as grammar
use Rattle.biblatex_grammar.proofs.Offsets.{Within, within-tail}
use Rattle.biblatex_reading_back.specs.Spelled.{Pair, field_then, fields_then, IsField, SaysField, SayFields}
use Rattle.biblatex_reading_back.proofs.SpelledParts.{within_rest, located, located_at, no_gap, blank_gap, no_number_sign, begins, identifier_held}

-- what closes a content is within the text, and so is what follows fields
within_field : (n : ℕ) (f : Pair) (rest : List ℕ) → Within n (field_then f rest) → Within n (close_brace ∷ comma ∷ line_feed ∷ rest)
within_field n f rest within =
    let closed = close_brace ∷ comma ∷ line_feed ∷ rest in
    let inside = f.1 ++ closed in
    let value = open_brace ∷ inside in
    let b = space ∷ value in
    let signed = equals_sign ∷ b in
    within_rest n f.1 closed (within-tail n open_brace inside (within-tail n space value (within-tail n equals_sign b (within-tail n space signed (within_rest n f.0 (space ∷ signed) within)))))

within_line : (n : ℕ) (f : Pair) (rest : List ℕ) → Within n (field_then f rest) → Within n (line_feed ∷ rest)
within_line n f rest within = within-tail n comma (line_feed ∷ rest) (within-tail n close_brace (comma ∷ line_feed ∷ rest) (within_field n f rest within))

pub within_fields : (n : ℕ) (fs : List Pair) (rest : List ℕ) → Within n (fields_then fs rest) → Within n rest
within_fields n [] rest within = within
within_fields n (f ∷ fs) rest within = within_fields n fs rest (within-tail n line_feed (fields_then fs rest) (within_line n f (fields_then fs rest) within))

-- a field that is held, and what it says
pub record HeldField (n : ℕ) (f : Pair) (cs rest : List ℕ) : Type 0 where
  pub field : Field
  pub held : grammar.IsField n cs field rest
  pub says : SaysField f field

pub field_held : (n : ℕ) (f : Pair) (rest : List ℕ) → IsField f → Within n (field_then f rest) → HeldField n f (field_then f rest) (comma ∷ line_feed ∷ rest)
field_held n f rest is within =
    let after = comma ∷ line_feed ∷ rest in
    let closed = close_brace ∷ after in
    let inside = f.1 ++ closed in
    let value = open_brace ∷ inside in
    let b = space ∷ value in
    let signed = equals_sign ∷ b in
    let a = space ∷ signed in
    let w_value = within-tail n space value (within-tail n equals_sign b (within-tail n space signed (within_rest n f.0 a within))) in
    let w_inside = within-tail n open_brace inside w_value in
    let w_closed = within_field n f rest within in
    let w_after = within-tail n close_brace after w_closed in
    let piece = located n inside closed (normal f.1) in
    record {
      field = record { name = located n (f.0 ++ a) a f.0; value = located n value after (piece ∷ []) };
      held = (
        a,
        b,
        value,
        identifier_held n f.0 a is.name refl within,
        blank_gap space signed refl refl,
        blank_gap space value refl refl,
        (
          (after, inl (inside, f.1, refl, (is.content.tree, is.content.stands, is.content.text, refl), refl, located_at n inside closed (normal f.1) w_inside w_closed), refl, λ c h. no_number_sign (line_feed ∷ rest) c h),
          located_at n value after (piece ∷ []) w_value w_after,
        ),
      );
      says = record { name = refl; piece = piece; alone = refl; content = refl };
    }

-- fields that are held, up to the brace that closes the entry
pub record HeldFields (n : ℕ) (fs : List Pair) (cs rest : List ℕ) : Type 0 where
  pub fields : List Field
  pub held : grammar.AreFields n close_brace cs fields rest
  pub say : SayFields fs fields

pub fields_held : (n : ℕ) (fs : List Pair) (rest : List ℕ) → AllByRecursion IsField fs → Within n (line_feed ∷ fields_then fs (close_brace ∷ rest)) → HeldFields n fs (line_feed ∷ fields_then fs (close_brace ∷ rest)) rest
fields_held n [] rest all within = record { fields = []; held = blank_gap line_feed (close_brace ∷ rest) refl refl; say = tt }
fields_held n (f ∷ fs) rest all within =
    let more = fields_then fs (close_brace ∷ rest) in
    let whole = field_then f more in
    let w_whole = within-tail n line_feed whole within in
    let one = field_held n f more all.0 w_whole in
    let others = fields_held n fs rest all.1 (within_line n f more w_whole) in
    record {
      fields = one.field ∷ others.fields;
      held = (
        whole,
        comma ∷ line_feed ∷ more,
        blank_gap line_feed whole refl (begins f.0 (space ∷ equals_sign ∷ space ∷ open_brace ∷ (f.1 ++ close_brace ∷ comma ∷ line_feed ∷ more)) all.0.name refl).bars,
        one.held,
        inr (line_feed ∷ more, no_gap (comma ∷ line_feed ∷ more) refl, others.held),
      );
      say = (one.says, others.say);
    }
