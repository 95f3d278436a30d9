-- Fields that are read of characters are made of characters.
use Rattle.std.proofs.Common.{◌≡◌, ℕ, zero, suc, Bool, true, false, cond, List, [], ◌∷◌, ◌++◌, length, get_or, Option, Some, None, Result, Ok, Err, refl, sym, subst, ◌∙◌, arith}
use Rattle.std.specs.Prelude.{IfOk, IfSome, if◌then◌else◌}
use Rattle.std.specs.Char.{is_ascii}
use Rattle.std.specs.List.{AllByRecursion, list_all}
use Rattle.std.specs.Str.{bytes_eq, IsUtf8}
use Rattle.std.proofs.lemmas.Option.{none-some, same_Some}
use Rattle.std.proofs.lemmas.Slice.Eq.{bytes_eq-Decides}
use Rattle.laws.specs.Text.{lowered}
use Rattle.laws.proofs.Results.{bind_if_ok}
use Rattle.biblatex_text.specs.Raw.{At, Piece, normal, abbreviation, Field}
use Rattle.biblatex_tex.specs.declared.error.ContentError.{ContentError}
use Rattle.biblatex_content.specs.declared.chunk.Kind.TheVariants.{Verbatim}
use Rattle.biblatex_content.specs.Ordinary.{ordinary}
use Rattle.biblatex_content.specs.Spans.{after_at, all_at, without_spans}
use Rattle.biblatex_content.specs.Styled.{Member, letters, plain}
use Rattle.biblatex_content.specs.Tidy.{tidied}
use Rattle.biblatex_content.specs.Verbatim.{is_verbatim_name, verbatim_text}
use Rattle.biblatex_fields.specs.Abbreviations.{Glossary, Sense, circular, spelled, defined, index_of, month_or_unknown, pieces_at, sense, sense_in, sense_of}
use Rattle.biblatex_fields.specs.Fields.{Named, fields_after, value_named, with_field}
use Rattle.biblatex_fields.specs.Month.{month}
use Rattle.biblatex_fields.specs.Refusals.{Refusal}
use Rattle.biblatex_fields.specs.Value.{Reading, Value, by_sense, deep, in_order, members_of, read, reading, spanned, text_read, value_from, value_in, value_of}
use Rattle.biblatex_fields.proofs.FieldsLookUps.{put_found}
use Rattle.biblatex_laws.specs.Members.{AreMembersText, IsMemberText}
use Rattle.biblatex_laws.specs.Raw.{AreCharacters, AreFieldsText, ArePiecesText, IsFieldText, IsPieceText}
use Rattle.biblatex_laws.specs.Values.{IsTableText, IsValueText}
use Rattle.biblatex_laws.proofs.ContentCharacters.{ordinary_characters, plain_characters, tidied_characters, verbatim_text_characters}
use Rattle.biblatex_laws.proofs.TextsOfCharacters.{ascii_characters, lowered_is_utf8}

-- members with their spans
abbrev AreText : List (At Member) → Type 0
AreText ms = AllByRecursion (λ m. IsMemberText m.v) ms

after_text : (ms ns : List (At Member)) → AreText ms → AreText ns → AreText (ms ++ ns)
after_text [] ns p q = q
after_text (m ∷ ms) ns p q = (p.0, after_text ms ns p.1 q)

spanned_text : (start end : ℕ) (ms : List Member) → AreMembersText ms → AreText (all_at start end ms)
spanned_text start end [] p = tt
spanned_text start end (m ∷ ms) p = (p.0, spanned_text start end ms p.1)

unspanned : (ms : List (At Member)) → AreText ms → AreMembersText (without_spans ms)
unspanned [] p = tt
unspanned (m ∷ ms) p = (p.0, unspanned ms p.1)

-- months
month_ascii : (name : List ℕ) → IfSome (month name) (λ w. list_all is_ascii w ≡ true)
month_ascii name = grind arith

-- what a piece stands for
abbrev IsSenseText : Sense → Type 0
IsSenseText (spelled cs) = AreCharacters cs
IsSenseText (defined ps) = ArePiecesText ps

month_sense : (name : At (List ℕ)) (o : Option (List ℕ)) → IfSome o (λ w. list_all is_ascii w ≡ true) → IfOk (month_or_unknown name o) IsSenseText
month_sense name None small = tt
month_sense name (Some w) small = ascii_characters w small

pieces_text : (ds : List Field) (index : ℕ) → AreFieldsText ds → ArePiecesText (pieces_at ds index)
pieces_text [] index all = tt
pieces_text (d ∷ ds) zero all = all.0.pieces
pieces_text (d ∷ ds) (suc index) all = pieces_text ds index all.1

module _ (g : Glossary) (definitions : AreFieldsText g.definitions) where
  sense_by : (name : At (List ℕ)) (o : Option ℕ) → IfOk (sense_of g name o) IsSenseText
  sense_by name None = month_sense name (month (lowered name.v)) (month_ascii (lowered name.v))
  sense_by name (Some index) = by (get_or g.flags index false)
    where
      by : (b : Bool) → IfOk {E = Refusal} (if b then Err (circular name) else Ok (defined (pieces_at g.definitions index))) IsSenseText
      by true = tt
      by false = pieces_text g.definitions index definitions

  sense_text : (start end : ℕ) (p : Piece) → IsPieceText p → IfOk (sense_in g start end p) IsSenseText
  sense_text start end (normal cs) p = p
  sense_text start end (abbreviation name) p = sense_by (record { v = name; start = start; end = end }) (index_of (lowered name) g.definitions)

  -- texts
  at_members : (start end : ℕ) (done : List (At Member)) (r : Result (List Member) ContentError) → AreText done → IfOk r AreMembersText → IfOk (spanned start end (after_at start end done r)) AreText
  at_members start end done (Ok ms) p q = after_text done (all_at start end ms) p (spanned_text start end ms q)
  at_members start end done (Err f) p q = tt

  text_read_text : (v : Bool) (start end : ℕ) (cs : List ℕ) (done : List (At Member)) → AreCharacters cs → AreText done → IfOk (text_read v start end cs done) AreText
  text_read_text true start end cs done p q =
      after_text done (all_at start end (letters Verbatim (verbatim_text cs))) q (spanned_text start end (letters Verbatim (verbatim_text cs)) (verbatim_text_characters cs p))
  text_read_text false start end cs done p q = at_members start end done (ordinary cs) q (ordinary_characters cs p)

  -- pieces one after the other
  abbrev ReadsText : (At Piece → Reading) → Type 0
  ReadsText inner = (p : At Piece) (done : List (At Member)) → IsPieceText p.v → AreText done → IfOk (inner p done) AreText

  order_text : (inner : At Piece → Reading) → ReadsText inner → (ps : List (At Piece)) (done : List (At Member)) → ArePiecesText ps → AreText done → IfOk (in_order inner ps done) AreText
  order_text inner reads [] done p q = q
  order_text inner reads (piece ∷ ps) done p q = bind_if_ok AreText AreText (inner piece done) (λ ms. in_order inner ps ms) (reads piece done p.0 q) (λ ms r. order_text inner reads ps ms p.1 r)

  by_sense_text : (inner : At Piece → Reading) → ReadsText inner → (v : Bool) (start end : ℕ) (s : Sense) (done : List (At Member)) → IsSenseText s → AreText done → IfOk (by_sense inner v start end s done) AreText
  by_sense_text inner reads v start end (spelled cs) done p q = text_read_text v start end cs done p q
  by_sense_text inner reads v start end (defined ps) done p q = order_text inner reads ps done p q

  deep_text : (v : Bool) (n : ℕ) → ReadsText (λ p. deep (reading g v) (λ ms. Ok ms) n p)
  deep_text v zero p done is q = q
  deep_text v (suc n) p done is q =
      bind_if_ok IsSenseText AreText (sense g p) (λ s. by_sense (λ r. deep (reading g v) (λ ms. Ok ms) n r) v p.start p.end s done) (sense_text p.start p.end p.v is)
      (λ s text. by_sense_text (λ r. deep (reading g v) (λ ms. Ok ms) n r) (deep_text v n) v p.start p.end s done text q)

  read_text : (v : Bool) → ReadsText (read g v)
  unfolding read
  read_text v p done is q = deep_text v (suc (length g.definitions)) p done is q

  -- values
  value_text : (f : Field) → IsFieldText f → IfOk (value_of g f) (λ v. AreCharacters (plain v.text))
  unfolding value_in
  value_text f is =
      bind_if_ok AreText (λ (v : Value). AreCharacters (plain v.text)) (members_of g f.name.v f.value.v) (λ ms. Ok (value_from ms))
      (order_text (read g (is_verbatim_name (lowered f.name.v))) (read_text (is_verbatim_name (lowered f.name.v))) f.value.v [] is.pieces tt)
      (λ ms q. plain_characters (tidied (without_spans ms)) (tidied_characters (without_spans ms) (unspanned ms q)))

  -- fields
  put_text : (done : List Named) (k : List ℕ) (x : Value) → IsTableText (λ n. value_named n done) → IsUtf8 k → AreCharacters (plain x.text) → IsTableText (λ n. value_named n (with_field done k x))
  put_text done k x so_far utf8 text name v is = by (bytes_eq name k) refl (sym (put_found done k x name) ∙ is)
    where
      by : (b : Bool) → bytes_eq name k ≡ b → cond b (Some x) (value_named name done) ≡ Some v → IsValueText name v
      by true same e =
          record { utf8 = subst IsUtf8 (sym ((bytes_eq-Decides name k).0 same)) utf8; text = subst (λ (w : Value). AreCharacters (plain w.text)) (same_Some x v e) text }
      by false other e = so_far name v e

  fields_text : (fs : List Field) (done : List Named) → AreFieldsText fs → IsTableText (λ n. value_named n done) → IfOk (fields_after g done fs) (λ xs. IsTableText (λ n. value_named n xs))
  fields_text [] done all so_far = so_far
  fields_text (f ∷ fs) done all so_far =
      bind_if_ok (λ (v : Value). AreCharacters (plain v.text)) (λ (xs : List Named). IsTableText (λ n. value_named n xs)) (value_of g f) (λ v. fields_after g (with_field done (lowered f.name.v) v) fs)
      (value_text f all.0)
      (λ v text. fields_text fs (with_field done (lowered f.name.v) v) all.1 (put_text done (lowered f.name.v) v so_far (lowered_is_utf8 f.name.v all.0.name) text))

  pub fields_are_text : (fs : List Field) → AreFieldsText fs → IfOk (fields_after g [] fs) (λ xs. IsTableText (λ n. value_named n xs))
  fields_are_text fs all = fields_text fs [] all (λ name v is. absurd (none-some v is))
