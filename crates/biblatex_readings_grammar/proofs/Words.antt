-- Words of the relation are those that are read.
use Rattle.std.proofs.Common.{◌≡◌, ℕ, Bool, true, false, List, [], ◌∷◌, ◌++◌, refl, sym, ap, ◌∙◌, subst, append_assoc, append-nil}
use Rattle.std.specs.List.{filter, flat_map}
use Rattle.laws.specs.Characters.{space}
use Rattle.laws.specs.Text.{is_filled}
use Rattle.biblatex_lists.specs.declared.styled_char.StyledChar.{StyledChar}
use Rattle.biblatex_lists.specs.StyledChars.{plain}
use Rattle.biblatex_lists.specs.Words.{words, joined_words}
use Rattle.biblatex_readings_grammar.specs.Words.{Text, is_blank, AllAnswer, IsFilled, EndsOrParts, AreWords, SayWords}
use Rattle.biblatex_readings_grammar.specs.Names.{AreWordsOf}
use Rattle.biblatex_readings_grammar.proofs.Cuts.{mark_first, no_mark, mark_after}

-- what follows white space has the words
blanks_first : (g rest : Text) → AllAnswer is_blank true g → words (g ++ rest) ≡ words rest
blanks_first [] rest all = refl
blanks_first (s ∷ g) rest all = ap (filter is_filled) (mark_first is_blank s (g ++ rest) all.0) ∙ blanks_first g rest all.1

no_words : (g : Text) → AllAnswer is_blank true g → words g ≡ []
no_words [] all = refl
no_words (s ∷ g) all = ap (filter is_filled) (mark_first is_blank s g all.0) ∙ no_words g all.1

-- a word before white space or the end is the first one
word_first : (w rest : Text) → IsFilled w → AllAnswer is_blank false w → EndsOrParts rest → words (w ++ rest) ≡ w ∷ words rest
word_first [] rest some all ends = absurd some
word_first (s ∷ w) [] some all ends = ap words (append-nil (s ∷ w)) ∙ ap (filter is_filled) (no_mark is_blank (s ∷ w) all)
word_first (s ∷ w) (t ∷ rest) some all ends =
    ap (filter is_filled) (mark_after is_blank (s ∷ w) t rest all ends) ∙ ap (λ (x : List Text). (s ∷ w) ∷ x) (sym (ap (filter is_filled) (mark_first is_blank t rest ends)))

-- the words that are read are those of the relation
pub words_are : (ws : List Text) (ss : Text) → AreWords ss ws → words ss ≡ ws
words_are [] ss all = no_words ss all
words_are (w ∷ ws) ss (g, rest, e, blanks, some, all, ends, more) =
    ap words e ∙ (blanks_first g (w ++ rest) blanks ∙ (word_first w rest some all ends ∙ ap (λ (x : List Text). w ∷ x) (words_are ws rest more)))

pub words_of_are : (ps ws : List Text) → AreWordsOf ps ws → flat_map words ps ≡ ws
words_of_are [] ws e = sym e
words_of_are (p ∷ ps) ws (us, vs, are, more, e) = (λ i. words_are us p are i ++ words_of_are ps vs more i) ∙ sym e

pub said_are : (ws : List Text) (cs : List ℕ) → SayWords ws cs → joined_words ws ≡ cs
said_are [] cs e = sym e
said_are (w ∷ []) cs e = append-nil (plain w) ∙ sym e
said_are (w ∷ v ∷ ws) cs (ds, say, e) = ap (λ (x : List ℕ). plain w ++ space ∷ x) (said_are (v ∷ ws) ds say) ∙ sym e

-- words can be said
pub are_said : (ws : List Text) → SayWords ws (joined_words ws)
are_said [] = refl
are_said (w ∷ []) = append-nil (plain w)
are_said (w ∷ v ∷ ws) = (joined_words (v ∷ ws), are_said (v ∷ ws), refl)

-- The words of a text.
pub record HasWords (ss : Text) : Type 0 where
  pub list : List Text
  pub are : AreWords ss list

-- white space before a text
blank_before : (s : StyledChar) (ws : List Text) (ss : Text) → is_blank s ≡ true → AreWords ss ws → AreWords (s ∷ ss) ws
blank_before s [] ss is all = (is, all)
blank_before s (w ∷ ws) ss is (g, rest, e, blanks, some, all, ends, more) = (s ∷ g, rest, ap (λ (x : Text). s ∷ x) e, (is, blanks), some, all, ends, more)

-- a word before a text that ends it
word_before : (w rest : Text) → IsFilled w → AllAnswer is_blank false w → EndsOrParts rest → HasWords rest → HasWords (w ++ rest)
word_before w rest some all ends more = record { list = w ∷ more.list; are = ([], rest, refl, tt, some, all, ends, more.are) }

filled_after : (w : Text) (s : StyledChar) → IsFilled (w ++ s ∷ [])
filled_after [] s = tt
filled_after (t ∷ w) s = tt

answer_after : (test : StyledChar → Bool) (answer : Bool) (w : Text) (s : StyledChar) → AllAnswer test answer w → test s ≡ answer → AllAnswer test answer (w ++ s ∷ [])
answer_after test answer [] s all is = (is, tt)
answer_after test answer (t ∷ w) s all is = (all.0, answer_after test answer w s all.1 is)

-- a text has words by itself, and after the first characters of a word
record Read (ss : Text) : Type 0 where
  pub alone : HasWords ss
  pub after : (w : Text) → IsFilled w → AllAnswer is_blank false w → HasWords (w ++ ss)

read : (ss : Text) → Read ss
read [] = record { alone = record { list = []; are = tt }; after = λ w some all. word_before w [] some all tt (record { list = []; are = tt }) }
read (s ∷ ss) = by_test (read ss) (is_blank s) refl
  where
    by_test : Read ss → (b : Bool) → is_blank s ≡ b → Read (s ∷ ss)
    by_test more true e =
        let here : HasWords (s ∷ ss) = record { list = more.alone.list; are = blank_before s more.alone.list ss e more.alone.are } in
        record { alone = here; after = λ w some all. word_before w (s ∷ ss) some all e here }
    by_test more false e = record {
      alone = more.after (s ∷ []) tt (e, tt);
      after = λ w some all. subst (λ (x : Text). HasWords x) (append_assoc w (s ∷ []) ss) (more.after (w ++ s ∷ []) (filled_after w s) (answer_after is_blank false w s all e));
    }

pub words_in : (ss : Text) → HasWords ss
words_in ss = (read ss).alone

-- The words of texts.
pub record HasWordsOf (ps : List Text) : Type 0 where
  pub list : List Text
  pub are : AreWordsOf ps list

pub words_in_all : (ps : List Text) → HasWordsOf ps
words_in_all [] = record { list = []; are = refl }
words_in_all (p ∷ ps) =
    let first = words_in p in
    let more = words_in_all ps in
    record { list = first.list ++ more.list; are = (first.list, more.list, first.are, more.are, refl) }
