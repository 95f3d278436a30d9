-- What calls of a target wrote, one after the other: bytes, and the characters that they spell.
use Rattle.std.proofs.Common.{◌≡◌, ℕ, true, List, [], ◌++◌, sym, ap, subst, ◌∙◌}
use Rattle.std.specs.Char.{is_ascii}
use Rattle.std.specs.Fmt.{WritesInCalls}
use Rattle.std.specs.List.{list_all}
use Rattle.std.specs.Str.{chars, IsUtf8}
use Rattle.std.proofs.Output.{writes_in_calls_nil, writes_in_calls_single, writes_in_calls_append}
use Rattle.std.proofs.lemmas.Bool.{ltb-true}
use Rattle.std.proofs.lemmas.List.Sums.{AllPass-from_list_all}
use Rattle.std.proofs.lemmas.Str.Ascii.{IsAscii-from_all}
use Rattle.laws.specs.Text.{text}
use Rattle.laws.proofs.Text.{text-append, text_of_chars}
use Rattle.texts.proofs.GrowingWritten.{text-ascii}

-- characters below 128 are their own bytes
pub own_bytes : (cs : List ℕ) → list_all is_ascii cs ≡ true → text cs ≡ cs
own_bytes cs e = let all = AllPass-from_list_all is_ascii cs e in text-ascii cs (IsAscii-from_all cs (λ k d l. ltb-true _ 128 (all k d l)))

module _ {W : Type 0} (took : W → List ℕ → W → Type 0) where
  -- nothing was written
  pub nothing : (w : W) (bs : List ℕ) → bs ≡ [] → WritesInCalls took w bs w
  nothing w bs none = subst (λ (x : List ℕ). WritesInCalls took w x w) (sym none) (writes_in_calls_nil took w)

  -- a call wrote bytes
  pub one : (w : W) (bs cs : List ℕ) (v : W) → bs ≡ cs → took w bs v → WritesInCalls took w cs v
  one w bs cs v is t = subst (λ (x : List ℕ). WritesInCalls took w x v) is (writes_in_calls_single took w bs v t)

  -- more was written after it
  pub more : (w : W) (bs : List ℕ) (v : W) (cs : List ℕ) (u : W) → WritesInCalls took w bs v → WritesInCalls took v cs u → WritesInCalls took w (bs ++ cs) u
  more w bs v cs u p q = writes_in_calls_append took w bs v cs u p q

  -- bytes in another form
  pub same : (w : W) (bs cs : List ℕ) (v : W) → bs ≡ cs → WritesInCalls took w bs v → WritesInCalls took w cs v
  same w bs cs v is t = subst (λ (x : List ℕ). WritesInCalls took w x v) is t

  -- a call wrote characters below 128
  pub one_ascii : (w : W) (bs cs : List ℕ) (v : W) → bs ≡ cs → list_all is_ascii cs ≡ true → took w bs v → WritesInCalls took w (text cs) v
  one_ascii w bs cs v is e t = one w bs (text cs) v (is ∙ sym (own_bytes cs e)) t

  -- a call wrote a text
  pub one_text : (w : W) (bs : List ℕ) (v : W) → IsUtf8 bs → took w bs v → WritesInCalls took w (text (chars bs)) v
  one_text w bs v utf8 t = one w bs (text (chars bs)) v (sym (text_of_chars bs utf8)) t

  -- more characters were written after others
  pub more_characters : (w : W) (cs : List ℕ) (v : W) (ds : List ℕ) (u : W) → WritesInCalls took w (text cs) v → WritesInCalls took v (text ds) u → WritesInCalls took w (text (cs ++ ds)) u
  more_characters w cs v ds u p q = same w (text cs ++ text ds) (text (cs ++ ds)) u (sym (text-append cs ds)) (more w (text cs) v (text ds) u p q)

  -- characters in another form
  pub same_characters : (w : W) (cs ds : List ℕ) (v : W) → cs ≡ ds → WritesInCalls took w (text cs) v → WritesInCalls took w (text ds) v
  same_characters w cs ds v is t = same w (text cs) (text ds) v (ap text is) t
