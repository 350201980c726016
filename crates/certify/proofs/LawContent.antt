-- What stands in a line is found, and what is found stands there.
use Rattle.std.proofs.Common.{◌≡◌, ℕ, ◌==◌, Bool, true, false, ◌&&◌, nat_lt, bytes_eq, codes, List, [], ◌∷◌, ◌++◌, None, Some, refl, sym, ap, ◌∙◌, append_assoc, arith}
use Rattle.std.specs.List.{list_all}
use Rattle.std.specs.Char.{is_ascii_digit}
use Rattle.std.specs.Option.{option_map}
use Rattle.std.proofs.lemmas.Bool.Decides.{nat_tests}
use Rattle.std.proofs.lemmas.List.Folds.{list_all-append}
use Rattle.set_model.specs.declared.call.Call.{Call}
use Rattle.set_model.specs.declared.call.Call.TheVariants.{Insert, Remove, Contains}
use Rattle.certify.specs.Line.{number_in, caller_in, asked_in, answer_in, split_once, claimed_in, call_or_bad, number_or, judged}
use Rattle.certify.specs.Grammar.{WritesCall, sign_of, word_of, IsTextOf}
use Rattle.certify.specs.declared.claimed.Claimed.{Claimed}
use Rattle.certify.specs.declared.line.Line.{Line}
use Rattle.certify.specs.declared.line.Line.TheVariants.{Blank, Claim, Order, Number, Bad}
use Rattle.certify.proofs.LawTrim.{is_other, split_once-at}
use Rattle.certify.proofs.LawTight.{IsTight}
use Rattle.certify.proofs.LawNumber.{Begins, begins, digit_first, digits_other, number_found}

-- the word `order`
pub order_tight : IsTight (codes "order")
order_tight = record {
  first = 111;
  tail = codes "rder";
  begins = refl;
  first_other = refl;
  front = codes "orde";
  last = 114;
  ends = refl;
  last_other = refl;
  no_cr = refl;
}

word_front : Bool → List ℕ
word_front true = codes "tru"
word_front false = codes "fals"

word_ends : (answer : Bool) → word_of answer ≡ word_front answer ++ 101 ∷ []
unfolding word_front
word_ends true = refl
word_ends false = refl

-- three words, put together from the left and from the right
pub three_words : (who sign key word : List ℕ)
    → who ++ codes " " ++ sign ++ key ++ codes " " ++ word ≡ who ++ 32 ∷ ((sign ++ key) ++ 32 ∷ word)
three_words who sign key word =
    append_assoc (((who ++ codes " ") ++ sign) ++ key) (codes " ") word
    ∙ append_assoc ((who ++ codes " ") ++ sign) key (32 ∷ word)
    ∙ append_assoc (who ++ codes " ") sign (key ++ 32 ∷ word)
    ∙ append_assoc who (codes " ") (sign ++ (key ++ 32 ∷ word))
    ∙ ap (λ (t : List ℕ). who ++ 32 ∷ t) (sym (append_assoc sign key (32 ∷ word)))

module _ (text : List ℕ) (claimed : Claimed) (writes : WritesCall text claimed) where
  -- the sign and the key
  abbrev asked : List ℕ
  asked = sign_of claimed.call ++ writes.key

  abbrev word : List ℕ
  word = word_of claimed.answer

  -- the three words
  in_words : text ≡ writes.who ++ 32 ∷ (asked ++ 32 ∷ word)
  in_words = writes.is ∙ three_words writes.who (sign_of claimed.call) writes.key word

  pub call_tight : IsTight text
  call_tight =
      let one = begins writes.who writes.who_is.some writes.who_is.digits in
      let front = (((writes.who ++ codes " ") ++ sign_of claimed.call) ++ writes.key) ++ codes " " in
      record {
        first = one.first;
        tail = one.tail ++ 32 ∷ (asked ++ 32 ∷ word);
        begins = in_words ∙ ap (λ (t : List ℕ). t ++ 32 ∷ (asked ++ 32 ∷ word)) one.is;
        first_other = digit_first one.first one.digit;
        front = front ++ word_front claimed.answer;
        last = 101;
        ends = writes.is ∙ ap (λ (t : List ℕ). front ++ t) (word_ends claimed.answer)
            ∙ sym (append_assoc front (word_front claimed.answer) (101 ∷ []));
        last_other = refl;
        no_cr = refl;
      }

  -- no number is written there
  no_number : number_in 20 text ≡ None
  no_number =
      let test : list_all is_ascii_digit text ≡ false =
      ap (list_all is_ascii_digit) in_words
      ∙ list_all-append is_ascii_digit writes.who (32 ∷ (asked ++ 32 ∷ word))
      ∙ ap (λ b. b && false) writes.who_is.digits in
      rw test refl

  asked_other : list_all is_other asked ≡ true
  asked_other =
      list_all-append is_other (sign_of claimed.call) writes.key
      ∙ ap (λ b. b && list_all is_other writes.key) (sign_other claimed.call) ∙ digits_other writes.key writes.key_is.digits where
        sign_other : (call : Call) → list_all is_other (sign_of call) ≡ true
        sign_other Insert = refl
        sign_other Remove = refl
        sign_other Contains = refl

  asked_found : (call : Call) → asked_in (sign_of call ++ writes.key) ≡ Some (call, claimed.key)
  asked_found Insert = ap (option_map (λ (k : ℕ). (Insert, k))) (number_found 20 writes.key claimed.key writes.key_is)
  asked_found Remove = ap (option_map (λ (k : ℕ). (Remove, k))) (number_found 20 writes.key claimed.key writes.key_is)
  asked_found Contains = ap (option_map (λ (k : ℕ). (Contains, k))) (number_found 20 writes.key claimed.key writes.key_is)

  caller_found : caller_in writes.who ≡ Some claimed.who
  caller_found =
      let below = writes.below in
      let test : nat_lt claimed.who 64 ≡ true = grind (arith, nat_tests) in
      rw (number_found 2 writes.who claimed.who writes.who_is, test) refl

  answer_found : (answer : Bool) → answer_in (word_of answer) ≡ Some answer
  answer_found true = refl
  answer_found false = refl

  call_found : claimed_in text ≡ Some claimed
  call_found =
      let one = ap split_once in_words
      ∙ split_once-at writes.who 32 (asked ++ 32 ∷ word) (digits_other writes.who writes.who_is.digits) refl in
      let two = split_once-at asked 32 word asked_other refl in
      rw (one, two, caller_found, asked_found claimed.call, answer_found claimed.answer) refl

-- a text that begins with a digit isn't `order`
not_order : (text : List ℕ) → Begins text → bytes_eq text (codes "order") ≡ false
not_order text one =
    let digit = one.digit in
    let apart : (one.first == 111) ≡ false = grind (arith, nat_tests) in
    ap (λ (t : List ℕ). bytes_eq t (codes "order")) one.is ∙ ap (λ b. b && bytes_eq one.tail (codes "rder")) apart

judged_by : (text : List ℕ) → Begins text → judged text ≡ number_or (number_in 20 text) (claimed_in text)
judged_by [] one = let clash = one.is in cc
judged_by (b ∷ rest) one = rw (not_order (b ∷ rest) one) refl

-- what stands there is found
pub found : (rest : List ℕ) (line : Line) → IsTextOf rest line → judged rest ≡ line
found rest Blank is = ap judged is
found rest Order is = ap judged is
found rest (Number number) writes =
    judged_by rest (begins rest writes.some writes.digits) ∙ ap (λ o. number_or o (claimed_in rest)) (number_found 20 rest number writes)
found rest (Claim claimed) writes =
    let one = begins writes.who writes.who_is.some writes.who_is.digits in
    let first : Begins rest = record {
      first = one.first;
      tail = one.tail ++ 32 ∷ (asked rest claimed writes ++ 32 ∷ word rest claimed writes);
      is = in_words rest claimed writes
          ∙ ap (λ (t : List ℕ). t ++ 32 ∷ (asked rest claimed writes ++ 32 ∷ word rest claimed writes)) one.is;
      digit = one.digit;
    } in
    judged_by rest first ∙ ap (λ o. number_or o (claimed_in rest)) (no_number rest claimed writes)
    ∙ ap call_or_bad (call_found rest claimed writes)
found rest Bad never = absurd never
