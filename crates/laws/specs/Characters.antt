-- Characters that definitions speak of, by their names. Characters are numbers.
use Rattle.std.specs.Prelude.{ℕ}

abbrev pub tab : ℕ
tab = 9

abbrev pub line_feed : ℕ
line_feed = 10

abbrev pub form_feed : ℕ
form_feed = 12

abbrev pub carriage_return : ℕ
carriage_return = 13

abbrev pub space : ℕ
space = 32

abbrev pub exclamation_mark : ℕ
exclamation_mark = 33

abbrev pub double_quote : ℕ
double_quote = 34

abbrev pub number_sign : ℕ
number_sign = 35

abbrev pub dollar_sign : ℕ
dollar_sign = 36

abbrev pub percent_sign : ℕ
percent_sign = 37

abbrev pub ampersand : ℕ
ampersand = 38

abbrev pub apostrophe : ℕ
apostrophe = 39

abbrev pub open_parenthesis : ℕ
open_parenthesis = 40

abbrev pub close_parenthesis : ℕ
close_parenthesis = 41

abbrev pub asterisk : ℕ
asterisk = 42

abbrev pub plus_sign : ℕ
plus_sign = 43

abbrev pub comma : ℕ
comma = 44

abbrev pub hyphen : ℕ
hyphen = 45

abbrev pub full_stop : ℕ
full_stop = 46

abbrev pub slash : ℕ
slash = 47

abbrev pub digit_zero : ℕ
digit_zero = 48

abbrev pub colon : ℕ
colon = 58

abbrev pub semicolon : ℕ
semicolon = 59

abbrev pub less_than_sign : ℕ
less_than_sign = 60

abbrev pub equals_sign : ℕ
equals_sign = 61

abbrev pub greater_than_sign : ℕ
greater_than_sign = 62

abbrev pub question_mark : ℕ
question_mark = 63

abbrev pub at_sign : ℕ
at_sign = 64

abbrev pub upper_t : ℕ
upper_t = 84

abbrev pub upper_z : ℕ
upper_z = 90

abbrev pub open_bracket : ℕ
open_bracket = 91

abbrev pub backslash : ℕ
backslash = 92

abbrev pub close_bracket : ℕ
close_bracket = 93

abbrev pub circumflex : ℕ
circumflex = 94

abbrev pub underscore : ℕ
underscore = 95

abbrev pub grave_accent : ℕ
grave_accent = 96

abbrev pub lower_a : ℕ
lower_a = 97

abbrev pub lower_c : ℕ
lower_c = 99

abbrev pub lower_d : ℕ
lower_d = 100

abbrev pub lower_e : ℕ
lower_e = 101

abbrev pub lower_h : ℕ
lower_h = 104

abbrev pub lower_i : ℕ
lower_i = 105

abbrev pub lower_j : ℕ
lower_j = 106

abbrev pub lower_l : ℕ
lower_l = 108

abbrev pub lower_m : ℕ
lower_m = 109

abbrev pub lower_n : ℕ
lower_n = 110

abbrev pub lower_o : ℕ
lower_o = 111

abbrev pub lower_r : ℕ
lower_r = 114

abbrev pub lower_s : ℕ
lower_s = 115

abbrev pub lower_t : ℕ
lower_t = 116

abbrev pub lower_v : ℕ
lower_v = 118

abbrev pub lower_x : ℕ
lower_x = 120

abbrev pub open_brace : ℕ
open_brace = 123

abbrev pub vertical_bar : ℕ
vertical_bar = 124

abbrev pub close_brace : ℕ
close_brace = 125

abbrev pub tilde : ℕ
tilde = 126

abbrev pub no_break_space : ℕ
no_break_space = 160

abbrev pub pound_sign : ℕ
pound_sign = 163

abbrev pub section_sign : ℕ
section_sign = 167

abbrev pub copyright_sign : ℕ
copyright_sign = 169

abbrev pub pilcrow_sign : ℕ
pilcrow_sign = 182

abbrev pub upper_a_ring : ℕ
upper_a_ring = 197

abbrev pub upper_ae : ℕ
upper_ae = 198

abbrev pub upper_eth : ℕ
upper_eth = 208

abbrev pub upper_o_stroke : ℕ
upper_o_stroke = 216

abbrev pub upper_thorn : ℕ
upper_thorn = 222

abbrev pub sharp_s : ℕ
sharp_s = 223

abbrev pub lower_a_ring : ℕ
lower_a_ring = 229

abbrev pub lower_ae : ℕ
lower_ae = 230

abbrev pub lower_eth : ℕ
lower_eth = 240

abbrev pub lower_o_stroke : ℕ
lower_o_stroke = 248

abbrev pub lower_thorn : ℕ
lower_thorn = 254

abbrev pub dotless_i : ℕ
dotless_i = 305

abbrev pub upper_l_stroke : ℕ
upper_l_stroke = 321

abbrev pub lower_l_stroke : ℕ
lower_l_stroke = 322

abbrev pub upper_oe : ℕ
upper_oe = 338

abbrev pub lower_oe : ℕ
lower_oe = 339

abbrev pub dotless_j : ℕ
dotless_j = 567

abbrev pub combining_grave : ℕ
combining_grave = 768

abbrev pub combining_acute : ℕ
combining_acute = 769

abbrev pub combining_circumflex : ℕ
combining_circumflex = 770

abbrev pub combining_tilde : ℕ
combining_tilde = 771

abbrev pub combining_macron : ℕ
combining_macron = 772

abbrev pub combining_breve : ℕ
combining_breve = 774

abbrev pub combining_dot_above : ℕ
combining_dot_above = 775

abbrev pub combining_diaeresis : ℕ
combining_diaeresis = 776

abbrev pub combining_ring : ℕ
combining_ring = 778

abbrev pub combining_double_acute : ℕ
combining_double_acute = 779

abbrev pub combining_caron : ℕ
combining_caron = 780

abbrev pub combining_dot_below : ℕ
combining_dot_below = 803

abbrev pub combining_cedilla : ℕ
combining_cedilla = 807

abbrev pub combining_ogonek : ℕ
combining_ogonek = 808

abbrev pub combining_macron_below : ℕ
combining_macron_below = 817

abbrev pub thin_space : ℕ
thin_space = 8201

abbrev pub en_dash : ℕ
en_dash = 8211

abbrev pub em_dash : ℕ
em_dash = 8212

abbrev pub left_single_quotation_mark : ℕ
left_single_quotation_mark = 8216

abbrev pub right_single_quotation_mark : ℕ
right_single_quotation_mark = 8217

abbrev pub left_double_quotation_mark : ℕ
left_double_quotation_mark = 8220

abbrev pub right_double_quotation_mark : ℕ
right_double_quotation_mark = 8221

abbrev pub horizontal_ellipsis : ℕ
horizontal_ellipsis = 8230
