-- A line feed after a JSON text changes nothing of what the text says.
use Rattle.std.proofs.Common.{◌≡◌, ℕ, ◌+◌, ◌-◌, Bool, true, false, cond, ◌&&◌, List, [], ◌∷◌, ◌++◌, length, take, drop, Option, Some, None, option_and_then, refl, ap, ◌∙◌, arith}
use Rattle.std.specs.Prelude.{option_map, ◌==◌, ◌||◌}
use Rattle.std.specs.List.{prefix_len}
use Rattle.std.specs.Char.{is_ascii_digit, is_digit, encode_utf8}
use Rattle.std.specs.Str.{IsUtf8}
use Rattle.std.proofs.lemmas.List.{length-append, take-append-le, drop-append-le}
use Rattle.std.proofs.lemmas.List.Sums.{prefix_len-le-length}
use Rattle.std.proofs.lemmas.Str.{IsUtf8-append}
use Rattle.json.specs.Token.{Token, boolean, null}
use Rattle.json.specs.Text.{code_unit, short_escape, is_high_surrogate, is_low_surrogate, Within, plain, after_backslash, after_u, after_high, prepend, content}
use Rattle.json.specs.Ascii as ascii
use Rattle.json.specs.Word.{ends_word, after_digits, after_minus, after_sign, after_whole, after_fraction, after_exponent, after_number, number_before, literal, word}
use Rattle.json.specs.Lex.{Class, quote, backslash, operator, space, other, class, Mode, between, in_word, in_string, in_escape, lex_byte, lex, fresh, punctuate}
use Rattle.json.proofs.Printed.Utf8.{IsUtf8-are_ascii}
use Rattle.json.specs.Json.{value, if_last}
use Rattle.serde_json.specs.Data.{Data}
use Rattle.serde_json.specs.Read.{max_depth, of_json, read}

-- the text with a line feed after it
abbrev pub ended : List ℕ → List ℕ
ended t = t ++ 10 ∷ []

-- ---- strings

none_and : (b : Bool) → (b && false) ≡ false
none_and true = refl
none_and false = refl

no_unit : (a b c : ℕ) → code_unit a b c 10 ≡ None
unfolding code_unit
no_unit a b c = rw (none_and (is_digit a 16 && is_digit b 16 && is_digit c 16)) refl

neither : {X : Type 0} (b : Bool) → cond b None None ≡ (let none : Option X = None in none)
neither true = refl
neither false = refl

-- what an escaped code unit and the text after it stand for
abbrev from_unit : List ℕ → Option ℕ → Option (List ℕ)
from_unit xs o = option_and_then (λ u. cond (is_high_surrogate u) (content (after_high u) xs) (cond (is_low_surrogate u) None (prepend (encode_utf8 u) (content plain xs)))) o

unit_ended : (xs : List ℕ) (o : Option ℕ) → ((u : ℕ) → content (after_high u) (ended xs) ≡ content (after_high u) xs) → content plain (ended xs) ≡ content plain xs → from_unit (ended xs) o ≡ from_unit xs o
unit_ended xs None high same = refl
unit_ended xs (Some u) high same = rw (high u, same) refl

-- the content of a string
content_ended : (w : Within) (xs : List ℕ) → content w (ended xs) ≡ content w xs
unfolding content short_escape
content_ended plain [] = refl
content_ended plain (x ∷ xs) = rw (content_ended after_backslash xs, content_ended plain xs) refl
content_ended after_backslash [] = refl
content_ended after_backslash (x ∷ xs) = rw (content_ended after_u xs, content_ended plain xs) refl
content_ended after_u [] = refl
content_ended after_u (a ∷ []) = refl
content_ended after_u (a ∷ b ∷ []) = refl
content_ended after_u (a ∷ b ∷ c ∷ []) = ap (from_unit []) (no_unit a b c)
content_ended after_u (a ∷ b ∷ c ∷ d ∷ xs) = unit_ended xs (code_unit a b c d) (λ u. content_ended (after_high u) xs) (content_ended plain xs)
content_ended (after_high h) [] = refl
content_ended (after_high h) (s ∷ []) = refl
content_ended (after_high h) (s ∷ u ∷ []) = refl
content_ended (after_high h) (s ∷ u ∷ a ∷ []) = refl
content_ended (after_high h) (s ∷ u ∷ a ∷ b ∷ []) = refl
content_ended (after_high h) (s ∷ u ∷ a ∷ b ∷ c ∷ []) = rw (no_unit a b c) (neither ((s == ascii.backslash) && (u == ascii.lower_u)))
content_ended (after_high h) (s ∷ u ∷ a ∷ b ∷ c ∷ d ∷ xs) = rw (content_ended plain xs) refl

-- ---- numbers and the three literals

-- what a part of the grammar leaves, with the line feed
abbrev left : Option (List ℕ) → Option (List ℕ)
left o = option_map ended o

-- a part of the grammar leaves the line feed
abbrev Leaves : (List ℕ → Option (List ℕ)) → Type 0
Leaves f = (t : List ℕ) → f (ended t) ≡ left (f t)

left_either : (b : Bool) (x y : Option (List ℕ)) → cond b (left x) (left y) ≡ left (cond b x y)
left_either true x y = refl
left_either false x y = refl

either_ended : (b : Bool) (x y : List ℕ) → cond b (ended x) (ended y) ≡ ended (cond b x y)
either_ended true x y = refl
either_ended false x y = refl

run_ended : (t : List ℕ) → prefix_len is_ascii_digit (ended t) ≡ prefix_len is_ascii_digit t
run_ended [] = refl
run_ended (x ∷ t) = ap (λ n. cond (is_ascii_digit x) (1 + n) 0) (run_ended t)

digits_ended : Leaves after_digits
digits_ended t =
    let run : ℕ = prefix_len is_ascii_digit t in
    ap (λ n. cond (n == 0) None (Some (drop n (ended t)))) (run_ended t)
    ∙ ap (λ r. cond (run == 0) None (Some r)) (drop-append-le run t (10 ∷ []) (prefix_len-le-length is_ascii_digit t))
    ∙ left_either (run == 0) None (Some (drop run t))

minus_ended : (t : List ℕ) → after_minus (ended t) ≡ ended (after_minus t)
minus_ended [] = refl
minus_ended (x ∷ t) = either_ended (x == ascii.minus) t (x ∷ t)

sign_ended : (t : List ℕ) → after_sign (ended t) ≡ ended (after_sign t)
sign_ended [] = refl
sign_ended (x ∷ t) = either_ended ((x == ascii.minus) || (x == ascii.plus)) t (x ∷ t)

whole_ended : Leaves after_whole
whole_ended [] = refl
whole_ended (x ∷ t) = ap (cond (x == ascii.zero) (Some (ended t))) (digits_ended (x ∷ t)) ∙ left_either (x == ascii.zero) (Some t) (after_digits (x ∷ t))

fraction_ended : Leaves after_fraction
fraction_ended [] = refl
fraction_ended (x ∷ t) = ap (λ r. cond (x == ascii.dot) r (Some (ended (x ∷ t)))) (digits_ended t) ∙ left_either (x == ascii.dot) (after_digits t) (Some (x ∷ t))

exponent_ended : Leaves after_exponent
exponent_ended [] = refl
exponent_ended (x ∷ t) =
    ap (λ r. cond ((x == ascii.lower_e) || (x == ascii.upper_e)) r (Some (ended (x ∷ t)))) (ap after_digits (sign_ended t) ∙ digits_ended (after_sign t))
    ∙ left_either ((x == ascii.lower_e) || (x == ascii.upper_e)) (after_digits (after_sign t)) (Some (x ∷ t))

-- one part after another
next_ended : (f : List ℕ → Option (List ℕ)) → Leaves f → (o : Option (List ℕ)) → option_and_then f (left o) ≡ left (option_and_then f o)
next_ended f leaves None = refl
next_ended f leaves (Some t) = leaves t

number_ended : Leaves after_number
unfolding after_number
number_ended t =
    let whole : after_whole (after_minus (ended t)) ≡ left (after_whole (after_minus t)) = ap after_whole (minus_ended t) ∙ whole_ended (after_minus t) in
    ap (λ o. option_and_then after_exponent (option_and_then after_fraction o)) whole
    ∙ ap (option_and_then after_exponent) (next_ended after_fraction fraction_ended (after_whole (after_minus t)))
    ∙ next_ended after_exponent exponent_ended (option_and_then after_fraction (after_whole (after_minus t)))

word_ends : (t : List ℕ) → ends_word (ended t) ≡ ends_word t
word_ends [] = refl
word_ends (x ∷ t) = refl

-- the number is as long as before
taken : (t r : List ℕ) → take (length (ended t) - length (ended r)) (ended t) ≡ take (length t - length r) t
taken t r =
    let same : length (ended t) - length (ended r) ≡ length t - length r = omega (arith, length-append t (10 ∷ []), length-append r (10 ∷ [])) in
    ap (λ n. take n (ended t)) same ∙ take-append-le (length t - length r) t (10 ∷ []) (omega arith)

before_ended : (t : List ℕ) (o : Option (List ℕ)) → number_before (ended t) (left o) ≡ number_before t o
before_ended t None = refl
before_ended t (Some r) = rw (word_ends r, taken t r) refl

number_word : (t : List ℕ) → number_before (ended t) (after_number (ended t)) ≡ number_before t (after_number t)
number_word t = ap (number_before (ended t)) (number_ended t) ∙ before_ended t (after_number t)

true_ended : (k : Token) (t : List ℕ) → literal ascii.true_text k (ended t) ≡ literal ascii.true_text k t
true_ended k [] = refl
true_ended k (a ∷ []) = refl
true_ended k (a ∷ b ∷ []) = refl
true_ended k (a ∷ b ∷ c ∷ []) = refl
true_ended k (a ∷ b ∷ c ∷ d ∷ t) = rw (word_ends t) refl

false_ended : (k : Token) (t : List ℕ) → literal ascii.false_text k (ended t) ≡ literal ascii.false_text k t
false_ended k [] = refl
false_ended k (a ∷ []) = refl
false_ended k (a ∷ b ∷ []) = refl
false_ended k (a ∷ b ∷ c ∷ []) = refl
false_ended k (a ∷ b ∷ c ∷ d ∷ []) = refl
false_ended k (a ∷ b ∷ c ∷ d ∷ e ∷ t) = rw (word_ends t) refl

null_ended : (k : Token) (t : List ℕ) → literal ascii.null_text k (ended t) ≡ literal ascii.null_text k t
null_ended k [] = refl
null_ended k (a ∷ []) = refl
null_ended k (a ∷ b ∷ []) = refl
null_ended k (a ∷ b ∷ c ∷ []) = refl
null_ended k (a ∷ b ∷ c ∷ d ∷ t) = rw (word_ends t) refl

word_ended : (x : ℕ) (t : List ℕ) → word (x ∷ ended t) ≡ word (x ∷ t)
unfolding word
word_ended x t = rw (true_ended (boolean true) (x ∷ t), false_ended (boolean false) (x ∷ t), null_ended null (x ∷ t), number_word (x ∷ t)) refl

-- ---- the whole text

byte_ended : (m : Mode) (c : Class) (x : ℕ) (t : List ℕ) → ((n : Mode) → lex n (ended t) ≡ lex n t) → lex_byte m c x (ended t) (λ n. lex n (ended t)) ≡ lex_byte m c x t (λ n. lex n t)
byte_ended between quote x t same = rw (content_ended plain t, same in_string) refl
byte_ended between backslash x t same = rw (same in_word) refl
byte_ended between operator x t same = rw (same between) refl
byte_ended between space x t same = same between
byte_ended between other x t same = rw (word_ended x t, same in_word) refl
byte_ended in_word quote x t same = same in_word
byte_ended in_word backslash x t same = same in_word
byte_ended in_word operator x t same = rw (same between) refl
byte_ended in_word space x t same = same between
byte_ended in_word other x t same = same in_word
byte_ended in_string quote x t same = same between
byte_ended in_string backslash x t same = same in_escape
byte_ended in_string operator x t same = same in_string
byte_ended in_string space x t same = same in_string
byte_ended in_string other x t same = same in_string
byte_ended in_escape c x t same = same in_string

lex_ended : (m : Mode) (t : List ℕ) → lex m (ended t) ≡ lex m t
unfolding lex
lex_ended between [] = refl
lex_ended in_word [] = refl
lex_ended in_string [] = refl
lex_ended in_escape [] = refl
lex_ended m (x ∷ t) = byte_ended m (class x) x t (λ n. lex_ended n t)

-- the value that tokens say
abbrev value_said : List Token → Option Data
value_said ts = option_and_then of_json (option_and_then (λ p. if_last p.0 p.1) (value max_depth ts))

-- it is read as before
pub read_ended : (t : List ℕ) → read (ended t) ≡ read t
read_ended t = ap (λ ls. value_said (punctuate fresh ls)) (lex_ended between t)

-- and it is UTF-8 as before
pub utf8_ended : (t : List ℕ) → IsUtf8 t → IsUtf8 (ended t)
utf8_ended t is = IsUtf8-append t (10 ∷ []) is (IsUtf8-are_ascii (10 ∷ []) refl)
