use Rattle.std.proofs.Common.{◌≡◌, ◌+◌, ◌*◌, ℕ, List, sym, ap, ◌∙◌, arith, rules}
use Rattle.std.specs.Prelude.{min}
use Rattle.std.specs.Char.{digit_value}
use Rattle.std.specs.Str.{chars}
use Rattle.std.specs.Str.Parse.{digits_value_after}
use Rattle.xml_text.proofs.Numbers.{cut_digits}
use Rattle.xml_text.proofs.value.number_of.Goals as goal

pub loop-c-preserved : goal.loop-c-preserved
loop-c-preserved c =
    let radix = c.args.radix in
    let number = c.loop-c.number in
    let more = chars c.in-Some.more.now in
    let digit = c.digit_value.ensures.value in
    let next : c.min-number.result ≡ min (number * radix + c.digit_value.result) 0x110000 = search rules in
    let same : c.min-number.result ≡ min (number * radix + digit_value c.in-Some.c) 0x110000 = next ∙ ap (λ (x : ℕ). min (number * radix + x) 0x110000) digit in (
      omega (arith, next),
      ap (λ (x : ℕ). min (digits_value_after radix x more) 0x110000) same
          ∙ (cut_digits radix more (number * radix + digit_value c.in-Some.c) (omega (arith, c.requires.some))
          ∙ (ap (λ (x : List ℕ). min (digits_value_after radix number x) 0x110000) (sym c.in-Some.ensures.chars) ∙ c.loop-c.invariant.1)),
      search rules,
    )
