-- One more comment or processing instruction in a text says nothing.
use Rattle.std.proofs.Common.{◌≡◌, ◌≤◌, inl, inr, ⊎_elim, ℕ, Bool, true, false, cond, ◌&&◌, ◌||◌, ◌==◌, List, [], ◌∷◌, ◌++◌, length, Option, Some, None, Result, Ok, Err, codes, true≢false, refl, sym, ap, ◌∙◌, subst, arith, append_assoc, append-nil, length-append, eqb-true}
use Rattle.std.proofs.lemmas.List.{nil_from_length}
use Rattle.laws.specs.Runs.{Bars}
use Rattle.laws.proofs.Results.{ok_is}
use Rattle.xml_text.specs.Character.{passes, is_space}
use Rattle.xml_text.specs.Tokens.{At, Piece, Literal, Referred, Attribute, Token, Nothing}
use Rattle.xml_text.specs.Reading.{Refusal, left_of}
use Rattle.xml_text.specs.Markup.{token_at, instruction_at}
use Rattle.xml_text.specs.Grammar.{IsToken, AreTokens, AreAttributes, EndsData}
use Rattle.xml_text.specs.Prolog.{literal_text, literal_value, is_called, is_version, is_utf8, is_answer, extra_fault, standalone_fault, encoding_fault, declaration_fault, IsDeclaration, BeginsNoDeclaration, IsProlog}
use Rattle.xml_text.specs.declared.fault.Fault.TheVariants.{Declaration, Encoding, ReservedTarget}
use Rattle.xml_text.proofs.GrammarAgain.{token-again}
use Rattle.xml_text.proofs.GrammarProlog.{prolog-again}
use Rattle.xml_tree.specs.Trees.{Element}
use Rattle.xml_tree.specs.Building.{most_open}
use Rattle.xml_tree.specs.Grammar.{IsDocument, Spells}
use Rattle.csl_laws.specs.Alike.{AreAlike}
use Rattle.csl_laws.specs.Comments.{IsNote}
use Rattle.csl_laws.specs.Laws.{SayTheSame}
use Rattle.csl_laws.specs.Places.{AreEachSame, IsSamePiece, IsSameAttribute, IsSameToken, AreSameTokens}
use Rattle.csl_laws.specs.Trees.{text_counts}
use Rattle.csl_laws.proofs.MovedAttributes.{heads, begins_again, Moves, Again, attributes_move}
use Rattle.csl_laws.proofs.MovedTokens.{AllFollow, tokens_follow}
use Rattle.csl_laws.proofs.MovedTrees.{each_join, tokens_themselves, document_again, depth_same}
use Rattle.csl_laws.proofs.PiecesAlike.{parted, comments_nothing}

-- ---- lists

-- what stands before one rest
cancelled : (a b c : List ℕ) → a ++ c ≡ b ++ c → a ≡ b
cancelled a b c e =
    ⊎_elim
    (λ (k : (m : List ℕ) × (a ≡ b ++ m) × (c ≡ m ++ c)).
    let one : length c ≡ length (k.0 ++ c) = ap length k.2 in
    let two = length-append k.0 c in
    k.1 ∙ (ap (λ (z : List ℕ). b ++ z) (nil_from_length k.0 (omega arith)) ∙ append-nil b))
    (λ (k : (x : ℕ) × (m : List ℕ) × (b ≡ a ++ (x ∷ m)) × (c ≡ x ∷ m ++ c)).
    let one : length c ≡ length (k.0 ∷ k.1 ++ c) = ap length k.3 in
    let two = length-append (k.0 ∷ k.1) c in
    absurd (omega arith))
    (parted a c b c e)

-- ---- the tokens of a text are one list

none_there : (cs b : List ℕ) (y : At Token) → cs ≡ [] → token_at cs ≡ Ok (Some y, b) → ⊥
none_there cs b y e f =
    let pairs = ok_is {F = Refusal} (None, []) (Some y, b) (sym (ap token_at e) ∙ f) in
    let firsts : ◌≡◌ {A = Option (At Token)} None (Some y) = ap (λ (p : Option (At Token) × List ℕ). p.0) pairs in
    absurd cc

tokens_once : (ts us : List (At Token)) (cs : List ℕ) → AreTokens cs ts [] → AreTokens cs us [] → ts ≡ us
tokens_once [] [] cs p q = refl
tokens_once [] (y ∷ us) cs p (b, place, is, more) = absurd (none_there cs b y p (token-again cs b y place is))
tokens_once (x ∷ ts) [] cs (a, place, is, more) q = absurd (none_there cs a x q (token-again cs a x place is))
tokens_once (x ∷ ts) (y ∷ us) cs (a, place, is, more) (b, other, too, later) =
    let both : ◌≡◌ {A = Option (At Token) × List ℕ} (Some x, a) (Some y, b) = ok_is {F = Refusal} (Some x, a) (Some y, b) (sym (token-again cs a x place is) ∙ token-again cs b y other too) in
    let rests : a ≡ b = ap (λ (p : Option (At Token) × List ℕ). p.1) both in
    let firsts : ◌≡◌ {A = Option (At Token)} (Some x) (Some y) = ap (λ (p : Option (At Token) × List ℕ). p.0) both in
    let first : x ≡ y = cc in
    (λ j. first j ∷ tokens_once ts us b (subst (λ (z : List ℕ). AreTokens z ts []) rests more) later j)

tokens_joined : (ts us : List (At Token)) (cs a rest : List ℕ) → AreTokens cs ts a → AreTokens a us rest → AreTokens cs (ts ++ us) rest
tokens_joined [] us cs a rest e more = subst (λ (z : List ℕ). AreTokens z us rest) (sym e) more
tokens_joined (x ∷ ts) us cs a rest (b, place, is, others) more = (b, place, is, tokens_joined ts us b a rest others more)

-- ---- no token begins as a declaration does

spaces : (s : ℕ) (P : ℕ → Type 0) → is_space s ≡ true → P 32 → P 9 → P 10 → P 13 → P s
spaces s P is p q r t = by_first (s == 32) refl is
  where
    by_last : (b : Bool) → (s == 13) ≡ b → b ≡ true → P s
    by_last true e f = subst P (sym (eqb-true s 13 e)) t
    by_last false e f = absurd (true≢false (sym f))

    by_third : (b : Bool) → (s == 10) ≡ b → (b || s == 13) ≡ true → P s
    by_third true e f = subst P (sym (eqb-true s 10 e)) r
    by_third false e f = by_last (s == 13) refl f

    by_second : (b : Bool) → (s == 9) ≡ b → ((b || s == 10) || s == 13) ≡ true → P s
    by_second true e f = subst P (sym (eqb-true s 9 e)) q
    by_second false e f = by_third (s == 10) refl f

    by_first : (b : Bool) → (s == 32) ≡ b → (((b || s == 9) || s == 10) || s == 13) ≡ true → P s
    by_first true e f = subst P (sym (eqb-true s 32 e)) p
    by_first false e f = by_second (s == 9) refl f

never : {A F : Type 0} (r : Result A F) (f : F) (x : A) → r ≡ Err f → r ≡ Ok x → ⊥
never r f x e g = absurd cc

refused : (s : ℕ) (a : List ℕ) (x : At Token) (rest : List ℕ) → is_space s ≡ true → token_at (codes "<?xml" ++ s ∷ a) ≡ Ok (Some x, rest) → ⊥
unfolding instruction_at passes lib.Utf8.encode
refused s a x rest is = spaces s (λ (c : ℕ). token_at (codes "<?xml" ++ c ∷ a) ≡ Ok (Some x, rest) → ⊥) is
    (λ e. never (token_at (codes "<?xml" ++ 32 ∷ a)) (ReservedTarget, codes "<?xml" ++ 32 ∷ a) (Some x, rest) refl e)
    (λ e. never (token_at (codes "<?xml" ++ 9 ∷ a)) (ReservedTarget, codes "<?xml" ++ 9 ∷ a) (Some x, rest) refl e)
    (λ e. never (token_at (codes "<?xml" ++ 10 ∷ a)) (ReservedTarget, codes "<?xml" ++ 10 ∷ a) (Some x, rest) refl e)
    (λ e. never (token_at (codes "<?xml" ++ 13 ∷ a)) (ReservedTarget, codes "<?xml" ++ 13 ∷ a) (Some x, rest) refl e)

no_declaration : (cs : List ℕ) (x : At Token) (rest : List ℕ) → token_at cs ≡ Ok (Some x, rest) → BeginsNoDeclaration cs
unfolding passes
no_declaration cs x rest is [] e = refl
no_declaration cs x rest is (s ∷ a) e = by_test (is_space s) refl
  where
    by_test : (b : Bool) → is_space s ≡ b → b ≡ false
    by_test true f = absurd (refused s a x rest f (sym (ap token_at e) ∙ is))
    by_test false f = refl

-- ---- what stands before the tokens

literal_same : (ps qs : List Piece) → AreEachSame IsSamePiece ps qs → literal_value ps ≡ literal_value qs
literal_same [] [] all = refl
literal_same [] (q ∷ qs) all = absurd all
literal_same (p ∷ ps) [] all = absurd all
literal_same (p ∷ []) (q ∷ []) (one, all) = by_piece p q one
  where
    by_piece : (p q : Piece) → IsSamePiece p q → literal_text p ≡ literal_text q
    by_piece (Literal t) (Literal u) same = same
    by_piece (Literal t) (Referred s) same = absurd same
    by_piece (Referred r) (Literal u) same = absurd same
    by_piece (Referred r) (Referred s) same = refl
literal_same (p ∷ []) (q ∷ v ∷ qs) (one, all) = absurd all
literal_same (p ∷ u ∷ ps) (q ∷ []) (one, all) = absurd all
literal_same (p ∷ u ∷ ps) (q ∷ v ∷ qs) all = refl

standalone_same : (xs ys : List (At Attribute)) → AreEachSame IsSameAttribute xs ys → standalone_fault xs ≡ standalone_fault ys
standalone_same [] [] all = refl
standalone_same [] (y ∷ ys) all = absurd all
standalone_same (x ∷ xs) [] all = absurd all
standalone_same (x ∷ xs) (y ∷ ys) ((names, values), all) =
    λ j. cond (is_called (codes "standalone") (names j) && is_answer (literal_same x.v.value y.v.value values j)) (extra_same xs ys all j) (Some Declaration)
  where
    extra_same : (xs ys : List (At Attribute)) → AreEachSame IsSameAttribute xs ys → extra_fault xs ≡ extra_fault ys
    extra_same [] [] all = refl
    extra_same [] (y ∷ ys) all = absurd all
    extra_same (x ∷ xs) [] all = absurd all
    extra_same (x ∷ xs) (y ∷ ys) all = refl

encoding_same : (xs ys : List (At Attribute)) → AreEachSame IsSameAttribute xs ys → encoding_fault xs ≡ encoding_fault ys
encoding_same [] [] all = refl
encoding_same [] (y ∷ ys) all = absurd all
encoding_same (x ∷ xs) [] all = absurd all
encoding_same (x ∷ xs) (y ∷ ys) ((names, values), all) =
    λ j. cond (is_called (codes "encoding") (names j)) (cond (is_utf8 (literal_same x.v.value y.v.value values j)) (standalone_same xs ys all j) (Some Encoding))
    (standalone_same (x ∷ xs) (y ∷ ys) ((names, values), all) j)

declaration_same : (xs ys : List (At Attribute)) → AreEachSame IsSameAttribute xs ys → declaration_fault xs ≡ declaration_fault ys
declaration_same [] [] all = refl
declaration_same [] (y ∷ ys) all = absurd all
declaration_same (x ∷ xs) [] all = absurd all
declaration_same (x ∷ xs) (y ∷ ys) ((names, values), all) =
    λ j. cond (is_called (codes "version") (names j) && is_version (literal_same x.v.value y.v.value values j)) (encoding_same xs ys all j) (Some Declaration)

-- a declaration before another rest
declaration_again : (a body : List ℕ) → IsDeclaration a body → (w : List ℕ) × (a ≡ codes "<?xml" ++ (w ++ (codes "?>" ++ body))) × ((r : List ℕ) → IsDeclaration (codes "<?xml" ++ (w ++ (codes "?>" ++ r))) r)
declaration_again a body (b, attributes, e, begin, are, none) =
    let m : Moves (Again (List (At Attribute)) (AreEachSame IsSameAttribute) AreAttributes attributes) b (codes "?>" ++ body) = attributes_move attributes b (codes "?>" ++ body) are in (
      m.w,
      e ∙ ap (λ (z : List ℕ). codes "<?xml" ++ z) m.is,
      λ r. (
        m.w ++ (codes "?>" ++ r),
        (m.on (codes "?>" ++ r) refl).it,
        refl,
        begins_again _ (m.w ++ (codes "?>" ++ r)) (m.w ++ (codes "?>" ++ body)) b m.is (heads m.w (codes "?>" ++ body) (codes "?>" ++ r) refl) begin,
        (m.on (codes "?>" ++ r) refl).stands,
        sym (declaration_same attributes (m.on (codes "?>" ++ r) refl).it (m.on (codes "?>" ++ r) refl).same) ∙ none,
      ),
    )

prolog_moves : (start body r : List ℕ) → IsProlog (start ++ body) body → (Bars (λ c. c == 0xFEFF) body → Bars (λ c. c == 0xFEFF) r) → BeginsNoDeclaration r → IsProlog (start ++ r) r
prolog_moves start body r (a, inl mark, inl declares) bars plain =
    let k = declaration_again a body declares in
    let w : List ℕ = 0xFEFF ∷ (codes "<?xml" ++ (k.0 ++ codes "?>")) in
    let regrouped : (z : List ℕ) → 0xFEFF ∷ (codes "<?xml" ++ (k.0 ++ (codes "?>" ++ z))) ≡ w ++ z = λ z. ap (λ (u : List ℕ). 0xFEFF ∷ (codes "<?xml" ++ u)) (sym (append_assoc k.0 (codes "?>") z)) in
    let same : start ≡ w = cancelled start w body (mark ∙ (ap (λ (z : List ℕ). 0xFEFF ∷ z) k.1 ∙ regrouped body)) in
    (codes "<?xml" ++ (k.0 ++ (codes "?>" ++ r)), inl (ap (λ (z : List ℕ). z ++ r) same ∙ sym (regrouped r)), inl (k.2 r))
prolog_moves start body r (a, inl mark, inr (e, others)) bars plain =
    let same : start ≡ 0xFEFF ∷ [] = cancelled start (0xFEFF ∷ []) body (mark ∙ ap (λ (z : List ℕ). 0xFEFF ∷ z) e) in
    (r, inl (ap (λ (z : List ℕ). z ++ r) same), inr (refl, plain))
prolog_moves start body r (a, inr (is, unmarked), inl declares) bars plain =
    let k = declaration_again a body declares in
    let w : List ℕ = codes "<?xml" ++ (k.0 ++ codes "?>") in
    let regrouped : (z : List ℕ) → codes "<?xml" ++ (k.0 ++ (codes "?>" ++ z)) ≡ w ++ z = λ z. ap (λ (u : List ℕ). codes "<?xml" ++ u) (sym (append_assoc k.0 (codes "?>") z)) in
    let same : start ≡ w = cancelled start w body (is ∙ (k.1 ∙ regrouped body)) in
    let whole : start ++ r ≡ codes "<?xml" ++ (k.0 ++ (codes "?>" ++ r)) = ap (λ (z : List ℕ). z ++ r) same ∙ sym (regrouped r) in
    (codes "<?xml" ++ (k.0 ++ (codes "?>" ++ r)), inr (whole, subst (Bars (λ c. c == 0xFEFF)) (sym whole) refl), inl (k.2 r))
prolog_moves start body r (a, inr (is, unmarked), inr (e, others)) bars plain =
    let same : start ≡ [] = cancelled start [] body (is ∙ e) in
    let whole : start ++ r ≡ r = ap (λ (z : List ℕ). z ++ r) same in
    (r, inr (whole, subst (Bars (λ c. c == 0xFEFF)) (sym whole) (bars (subst (Bars (λ c. c == 0xFEFF)) (is ∙ e) unmarked))), inr (refl, plain))

-- ---- the law

-- a note begins with an angle bracket
note_begins : (note back : List ℕ) → IsNote note → (more : List ℕ) × (note ++ back ≡ 60 ∷ more)
note_begins note back is = by_kind (is back)
  where
    by_kind : IsToken (note ++ back) Nothing back → (more : List ℕ) × (note ++ back ≡ 60 ∷ more)
    by_kind (a, inl (e, comment)) = (33 ∷ a, e)
    by_kind (a, inr (e, instruction)) = (63 ∷ a, e)

begins_token : (ts us : List (At Token)) (x : At Token) (cs rest : List ℕ) → AreTokens cs (ts ++ (x ∷ us)) rest → (y : At Token) × (more : List ℕ) × (token_at cs ≡ Ok (Some y, more))
begins_token [] us x cs rest (a, place, is, more) = (x, a, token-again cs a x place is)
begins_token (t ∷ ts) us x cs rest (a, place, is, more) = (t, a, token-again cs a t place is)

-- no byte order mark begins it where none began
unmarked_again : (front note back : List ℕ) → IsNote note → Bars (λ c. c == 0xFEFF) (front ++ back) → Bars (λ c. c == 0xFEFF) (front ++ (note ++ back))
unmarked_again [] note back is bars = let k : (more : List ℕ) × (note ++ back ≡ 60 ∷ more) = note_begins note back is in subst (Bars (λ c. c == 0xFEFF)) (sym k.1) refl
unmarked_again (c ∷ front) note back is bars = bars

pub notes_nothing : (start front note back : List ℕ) (before after : List (At Token)) → IsProlog (start ++ (front ++ back)) (front ++ back) → AreTokens (front ++ back) before back → AreTokens back after []
    → IsNote note → (x : Element) → Spells x (start ++ (front ++ back)) → SayTheSame (start ++ (front ++ back)) (start ++ (front ++ (note ++ back)))
notes_nothing start front note back before after prolog first second is x (body, ts, other, tokens, document, deep) =
    let cs : List ℕ = start ++ (front ++ back) in
    let r : List ℕ = front ++ (note ++ back) in
    let n : At Token = record { v = Nothing; left = left_of (note ++ back) } in
    let same_body : body ≡ front ++ back = ok_is {F = Refusal} body (front ++ back) (sym (prolog-again cs body other) ∙ prolog-again cs (front ++ back) prolog) in
    let same_tokens : ts ≡ before ++ after =
    tokens_once ts (before ++ after) (front ++ back) (subst (λ (z : List ℕ). AreTokens z ts []) same_body tokens) (tokens_joined before after (front ++ back) back [] first second) in
    let noted : IsDocument (before ++ n ∷ after) x = comments_nothing x before after (left_of (note ++ back)) (subst (λ (z : List (At Token)). IsDocument z x) same_tokens document) in
    let f : AllFollow before (front ++ back) back = tokens_follow before (front ++ back) back first in
    let begin : (more : List ℕ) × (note ++ back ≡ 60 ∷ more) = note_begins note back is in
    let k : Again (List (At Token)) AreSameTokens AreTokens before (f.w ++ (note ++ back)) (note ++ back) = f.on (note ++ back) (λ e. subst EndsData (sym begin.1) refl) in
    let here : AreTokens r k.it (note ++ back) = subst (λ (z : List ℕ). AreTokens (z ++ (note ++ back)) k.it (note ++ back)) (sym (cancelled front f.w back f.is)) k.stands in
    let every : AreTokens r (k.it ++ n ∷ after) [] = tokens_joined k.it (n ∷ after) r (note ++ back) [] here (back, refl, is back, second) in
    let d : (y : Element) × IsDocument (k.it ++ n ∷ after) y × AreAlike text_counts x y =
    document_again text_counts (before ++ n ∷ after) (k.it ++ n ∷ after) x noted
    (each_join (λ (p : At Token) (q : At Token). IsSameToken p.v q.v) before (n ∷ after) k.it (n ∷ after) k.same (tokens_themselves (n ∷ after))) in
    let t : (y : At Token) × (more : List ℕ) × (token_at r ≡ Ok (Some y, more)) = begins_token k.it after n r [] every in
    let spelled : IsProlog (start ++ r) r = prolog_moves start (front ++ back) r prolog (unmarked_again front note back is) (no_declaration r t.0 t.1 t.2) in
    (x, d.0, (body, ts, other, tokens, document, deep), (r, k.it ++ n ∷ after, spelled, every, d.1, subst (λ (z : ℕ). z ≤ most_open) (depth_same text_counts x d.0 d.2) deep), d.2)
