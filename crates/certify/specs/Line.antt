-- What a whole line of a log is, as a function of its bytes.
use Rattle.std.specs.Prelude.{ℕ, ◌^◌, Bool, true, false, ◌&&◌, ◌==◌, nat_lt, nat_le, if◌then◌else◌, bytes_eq, codes, List, [], ◌∷◌, length, Option, None, Some}
use Rattle.std.specs.List.{list_all}
use Rattle.std.specs.Option.{option_and_then, option_map}
use Rattle.std.specs.Char.{is_ascii_digit}
use Rattle.std.specs.Str.Parse.{digits_value}
use Rattle.set_model.specs.declared.call.Call.{Call}
use Rattle.set_model.specs.declared.call.Call.TheVariants.{Insert, Remove, Contains}
use Rattle.certify.specs.Trim.{trimmed}
use Rattle.certify.specs.declared.claimed.Claimed.{Claimed}
use Rattle.certify.specs.declared.line.Line.{Line}
use Rattle.certify.specs.declared.line.Line.TheVariants.{Blank, Claim, Order, Number, Bad}

-- 1 to so many digits, whose value fits 64 bits
abbrev pub is_number : ℕ → List ℕ → Bool
is_number most text =
    list_all is_ascii_digit text && (nat_lt 0 (length text) && (nat_le (length text) most
    && nat_lt (digits_value 10 text) (2 ^ 64)))

-- the number that the text writes, if it writes one
abbrev pub number_in : ℕ → List ℕ → Option ℕ
number_in most text = if is_number most text then Some (digits_value 10 text) else None

-- a caller of 1 or 2 digits, below 64
abbrev pub caller_in : List ℕ → Option ℕ
caller_in text =
    option_and_then (λ who. if nat_lt who 64 then Some who else None) (number_in 2 text)

-- the call that a sign asks for
abbrev pub call_in : ℕ → Option Call
call_in b = if b == 43 then Some Insert
    else (if b == 45 then Some Remove else (if b == 63 then Some Contains else None))

-- a sign directly followed by a key
abbrev pub asked_in : List ℕ → Option (Call × ℕ)
asked_in [] = None
asked_in (sign ∷ key) = option_and_then (λ call. option_map (λ k. (call, k)) (number_in 20 key))
    (call_in sign)

-- the answer that a word gives
abbrev pub answer_in : List ℕ → Option Bool
answer_in word = if bytes_eq word (codes "true") then Some true
    else (if bytes_eq word (codes "false") then Some false else None)

-- the parts round the first space
abbrev pub split_once : List ℕ → Option (List ℕ × List ℕ)
split_once [] = None
split_once (b ∷ bytes) = if b == 32 then Some ([], bytes)
    else option_map (λ parts. (b ∷ parts.0, parts.1)) (split_once bytes)

-- a call by its three words: the caller, the call with its key, and the answer
abbrev pub claimed_by : List ℕ → List ℕ → List ℕ → Option Claimed
claimed_by who asked word =
    option_and_then (λ w. option_and_then (λ a. option_map
    (λ answer. record { who = w; call = a.0; key = a.1; answer = answer })
    (answer_in word)) (asked_in asked)) (caller_in who)

-- a call: three words with one space between them
abbrev pub claimed_in : List ℕ → Option Claimed
claimed_in text = option_and_then (λ first. option_and_then
    (λ second. claimed_by first.0 second.0 second.1) (split_once first.1)) (split_once text)

-- a line that is no call is bad
abbrev pub call_or_bad : Option Claimed → Line
call_or_bad None = Bad
call_or_bad (Some claimed) = Claim claimed

-- a line that is no number is a call, or bad
abbrev pub number_or : Option ℕ → Option Claimed → Line
number_or None claimed = call_or_bad claimed
number_or (Some number) claimed = Number number

-- what is left of a line is: nothing, `order`, a number, a call, or bad
abbrev pub judged : List ℕ → Line
judged [] = Blank
judged (b ∷ rest) = if bytes_eq (b ∷ rest) (codes "order") then Order
    else number_or (number_in 20 (b ∷ rest)) (claimed_in (b ∷ rest))

-- what a whole line is, its LF left out
abbrev pub line_of : List ℕ → Line
line_of text = judged (trimmed text)
