-- What a line is found to be stands in it.
use Rattle.std.proofs.Common.{if◌then◌else◌, ◌≡◌, ℕ, ◌<◌, ◌==◌, Bool, true, false, nat_lt, bytes_eq, codes, List, [], ◌∷◌, ◌++◌, Option, None, Some, ◌⊎◌, ◌↔◌, inl, inr, refl, sym, ap, ◌∙◌, subst, arith}
use Rattle.std.specs.Option.{option_map, option_and_then}
use Rattle.std.proofs.lemmas.Bool.Decides.{nat_tests}
use Rattle.set_model.specs.declared.call.Call.{Call}
use Rattle.set_model.specs.declared.call.Call.TheVariants.{Insert, Remove, Contains}
use Rattle.certify.specs.Trim.{trimmed}
use Rattle.certify.specs.Line.{number_in, caller_in, call_in, asked_in, answer_in, split_once, claimed_by, claimed_in, judged, line_of}
use Rattle.certify.specs.Grammar.{Spells, WritesNumber, WritesCall, sign_of, word_of, IsTextOf, IsGoodLine, IsLogLine}
use Rattle.certify.specs.declared.claimed.Claimed.{Claimed}
use Rattle.certify.specs.declared.line.Line.{Line}
use Rattle.certify.specs.declared.line.Line.TheVariants.{Blank, Claim, Order, Number, Bad}
use Rattle.certify.proofs.LawTight.{says_trimmed, trimmed-tight, trimmed-nothing}
use Rattle.certify.proofs.LawNumber.{same_bytes, given, mapped, number_written, number_tight}
use Rattle.certify.proofs.LawContent.{three_words, order_tight, call_tight, found}

-- the parts round the first space
split_found : (text : List ℕ) (parts : List ℕ × List ℕ) → split_once text ≡ Some parts → text ≡ parts.0 ++ 32 ∷ parts.1
split_found [] parts h = cc
split_found (b ∷ bytes) parts h = go (λ p. split_found bytes p) (b == 32) refl where
  go : ((p : List ℕ × List ℕ) → split_once bytes ≡ Some p → bytes ≡ p.0 ++ 32 ∷ p.1) → (test : Bool) → (b == 32) ≡ test
      → b ∷ bytes ≡ parts.0 ++ 32 ∷ parts.1
  go more true e =
      let is : Some ([], bytes) ≡ Some parts = rw e at h in
      let pair : ([], bytes) ≡ parts = cc in
      let space : b ≡ 32 = grind (arith, nat_tests) in
      ap (λ (c : ℕ). c ∷ bytes) space ∙ ap (λ (q : List ℕ × List ℕ). q.0 ++ 32 ∷ q.1) pair
  go more false e =
      let is : option_map (λ (q : List ℕ × List ℕ). (b ∷ q.0, q.1)) (split_once bytes) ≡ Some parts = rw e at h in
      let m = mapped (λ (q : List ℕ × List ℕ). (b ∷ q.0, q.1)) (split_once bytes) parts is in
      ap (λ (t : List ℕ). b ∷ t) (more m.value m.there) ∙ ap (λ (q : List ℕ × List ℕ). q.0 ++ 32 ∷ q.1) m.gives

caller_written : (text : List ℕ) (who : ℕ) → caller_in text ≡ Some who → WritesNumber 2 text who × (who < 64)
caller_written text who h =
    let one = given (λ w. if nat_lt w 64 then Some w else None) (number_in 2 text) who h in
    go one.value one.there (nat_lt one.value 64) refl one.gives where
      go : (value : ℕ) → number_in 2 text ≡ Some value → (test : Bool) → nat_lt value 64 ≡ test
          → (if nat_lt value 64 then Some value else None) ≡ Some who → WritesNumber 2 text who × (who < 64)
      go value there true e gives =
          let is : Some value ≡ Some who = rw e at gives in
          let same : value ≡ who = cc in
          let below : value < 64 = grind (arith, nat_tests) in
          (subst (WritesNumber 2 text) same (number_written 2 text value there), subst (λ (n : ℕ). n < 64) same below)
      go value there false e gives = let is : None ≡ Some who = rw e at gives in cc

call_written : (b : ℕ) (call : Call) → call_in b ≡ Some call → b ∷ [] ≡ sign_of call
call_written b call h = first (b == 43) refl where
  third : (b == 43) ≡ false → (b == 45) ≡ false → (test : Bool) → (b == 63) ≡ test → b ∷ [] ≡ sign_of call
  third one two true e =
      let is : Some Contains ≡ Some call = rw (one, two, e) at h in
      let same : Contains ≡ call = cc in
      let code : b ≡ 63 = grind (arith, nat_tests) in
      ap (λ (c : ℕ). c ∷ []) code ∙ ap sign_of same
  third one two false e = let is : None ≡ Some call = rw (one, two, e) at h in cc

  second : (b == 43) ≡ false → (test : Bool) → (b == 45) ≡ test → b ∷ [] ≡ sign_of call
  second one true e =
      let is : Some Remove ≡ Some call = rw (one, e) at h in
      let same : Remove ≡ call = cc in
      let code : b ≡ 45 = grind (arith, nat_tests) in
      ap (λ (c : ℕ). c ∷ []) code ∙ ap sign_of same
  second one false e = third one e (b == 63) refl

  first : (test : Bool) → (b == 43) ≡ test → b ∷ [] ≡ sign_of call
  first true e =
      let is : Some Insert ≡ Some call = rw e at h in
      let same : Insert ≡ call = cc in
      let code : b ≡ 43 = grind (arith, nat_tests) in
      ap (λ (c : ℕ). c ∷ []) code ∙ ap sign_of same
  first false e = second e (b == 45) refl

-- a sign with its key
pub record Asks (asked : List ℕ) (call : Call) (number : ℕ) : Type 0 where
  pub key : List ℕ
  pub is : asked ≡ sign_of call ++ key
  pub key_is : WritesNumber 20 key number

asked_written : (asked : List ℕ) (a : Call × ℕ) → asked_in asked ≡ Some a → Asks asked a.0 a.1
asked_written [] a h = cc
asked_written (sign ∷ key) a h =
    let one = given (λ (call : Call). option_map (λ (k : ℕ). (call, k)) (number_in 20 key)) (call_in sign) a h in
    let two = mapped (λ (k : ℕ). (one.value, k)) (number_in 20 key) a one.gives in
    subst (λ (p : Call × ℕ). Asks (sign ∷ key) p.0 p.1) two.gives (record {
      key = key;
      is = ap (λ (t : List ℕ). t ++ key) (call_written sign one.value one.there);
      key_is = number_written 20 key two.value two.there;
    })

answer_written : (word : List ℕ) (answer : Bool) → answer_in word ≡ Some answer → word ≡ word_of answer
answer_written word answer h = first (bytes_eq word (codes "true")) refl where
  second : bytes_eq word (codes "true") ≡ false → (test : Bool) → bytes_eq word (codes "false") ≡ test → word ≡ word_of answer
  second one true e =
      let is : Some false ≡ Some answer = rw (one, e) at h in
      let same : false ≡ answer = cc in
      same_bytes word (codes "false") e ∙ ap word_of same
  second one false e = let is : None ≡ Some answer = rw (one, e) at h in cc

  first : (test : Bool) → bytes_eq word (codes "true") ≡ test → word ≡ word_of answer
  first true e =
      let is : Some true ≡ Some answer = rw e at h in
      let same : true ≡ answer = cc in
      same_bytes word (codes "true") e ∙ ap word_of same
  first false e = second e (bytes_eq word (codes "false")) refl

call_written_in : (text : List ℕ) (claimed : Claimed) → claimed_in text ≡ Some claimed → WritesCall text claimed
call_written_in text claimed h =
    let first = given (λ (p : List ℕ × List ℕ). option_and_then (λ (q : List ℕ × List ℕ). claimed_by p.0 q.0 q.1) (split_once p.1))
    (split_once text) claimed h in
    let who = first.value.0 in
    let second = given (λ (q : List ℕ × List ℕ). claimed_by who q.0 q.1) (split_once first.value.1) claimed first.gives in
    let asked = second.value.0 in
    let word = second.value.1 in
    let w = given (λ (w : ℕ). option_and_then (λ (a : Call × ℕ). option_map
    (λ (answer : Bool). let c : Claimed = record { who = w; call = a.0; key = a.1; answer = answer } in c)
    (answer_in word)) (asked_in asked)) (caller_in who) claimed second.gives in
    let a = given (λ (a : Call × ℕ). option_map
    (λ (answer : Bool). let c : Claimed = record { who = w.value; call = a.0; key = a.1; answer = answer } in c)
    (answer_in word)) (asked_in asked) claimed w.gives in
    let r = mapped (λ (answer : Bool). let c : Claimed = record { who = w.value; call = a.value.0; key = a.value.1; answer = answer } in c)
    (answer_in word) claimed a.gives in
    let caller = caller_written who w.value w.there in
    let asks = asked_written asked a.value a.there in
    let tells = answer_written word r.value r.there in
    subst (WritesCall text) r.gives (record {
      who = who;
      key = asks.key;
      is = split_found text first.value first.there
          ∙ ap (λ (t : List ℕ). who ++ 32 ∷ t) (split_found first.value.1 second.value second.there
          ∙ ap (λ (t : List ℕ). t ++ 32 ∷ word) asks.is
          ∙ ap (λ (t : List ℕ). (sign_of a.value.0 ++ asks.key) ++ 32 ∷ t) tells)
          ∙ sym (three_words who (sign_of a.value.0) asks.key (word_of r.value));
      who_is = caller.0;
      below = caller.1;
      key_is = asks.key_is;
    })

-- what is left of a line is bad, or what it is found to be stands there
what_stands : (rest : List ℕ) → (judged rest ≡ Bad) ⊎ IsTextOf rest (judged rest)
what_stands [] = inr refl
what_stands (b ∷ bytes) = go (bytes_eq (b ∷ bytes) (codes "order")) refl where
  rest : List ℕ
  rest = b ∷ bytes

  last : bytes_eq (b ∷ bytes) (codes "order") ≡ false → number_in 20 (b ∷ bytes) ≡ None → (c : Option Claimed) → claimed_in (b ∷ bytes) ≡ c
      → (judged (b ∷ bytes) ≡ Bad) ⊎ IsTextOf (b ∷ bytes) (judged (b ∷ bytes))
  last other none None e = inl (rw (other, none, e) refl)
  last other none (Some claimed) e =
      let is : judged (b ∷ bytes) ≡ Claim claimed = rw (other, none, e) refl in
      inr (subst (IsTextOf (b ∷ bytes)) (sym is) (call_written_in (b ∷ bytes) claimed e))

  numbered : bytes_eq (b ∷ bytes) (codes "order") ≡ false → (n : Option ℕ) → number_in 20 (b ∷ bytes) ≡ n
      → (judged (b ∷ bytes) ≡ Bad) ⊎ IsTextOf (b ∷ bytes) (judged (b ∷ bytes))
  numbered other None e = last other e (claimed_in (b ∷ bytes)) refl
  numbered other (Some number) e =
      let is : judged (b ∷ bytes) ≡ Number number = rw (other, e) refl in
      inr (subst (IsTextOf (b ∷ bytes)) (sym is) (number_written 20 (b ∷ bytes) number e))

  go : (test : Bool) → bytes_eq (b ∷ bytes) (codes "order") ≡ test → (judged (b ∷ bytes) ≡ Bad) ⊎ IsTextOf (b ∷ bytes) (judged (b ∷ bytes))
  go true e =
      let is : judged (b ∷ bytes) ≡ Order = rw e refl in
      inr (subst (IsTextOf (b ∷ bytes)) (sym is) (same_bytes (b ∷ bytes) (codes "order") e))
  go false e = numbered e (number_in 20 (b ∷ bytes)) refl

-- what is left of a good line
left_of_good : (text : List ℕ) (line : Line) (rest : List ℕ) → Spells text rest → IsTextOf rest line → trimmed text ≡ rest
left_of_good text Blank rest says none =
    trimmed-nothing text (subst (Spells text) none says) ∙ sym none
left_of_good text Order rest says is =
    trimmed-tight text (codes "order") (subst (Spells text) is says) order_tight ∙ sym is
left_of_good text (Number number) rest says writes = trimmed-tight text rest says (number_tight 20 rest number writes)
left_of_good text (Claim claimed) rest says writes = trimmed-tight text rest says (call_tight rest claimed writes)
left_of_good text Bad rest says never = absurd never

-- a good line is found to be what it is
good_found : (text : List ℕ) (line : Line) → IsGoodLine text line → line_of text ≡ line
good_found text line good = ap judged (left_of_good text line good.0 good.1 good.2) ∙ found good.0 line good.2

good_when : (text : List ℕ) (line : Line) → line_of text ≡ line → (line ≡ Bad → ⊥) → IsGoodLine text line
good_when text line e good = elim (what_stands (trimmed text)) [
  | inl bad ↦ absurd (good (sym e ∙ bad))
  | inr writes ↦ (trimmed text, says_trimmed text, subst (IsTextOf (trimmed text)) e writes)
]

never_good : (text : List ℕ) → line_of text ≡ Bad → (line : Line) → ¬ IsGoodLine text line
never_good text e Bad good = absurd good.2
never_good text e Blank good = let is = good_found text Blank good in let clash : Bad ≡ Blank = sym e ∙ is in cc
never_good text e Order good = let is = good_found text Order good in let clash : Bad ≡ Order = sym e ∙ is in cc
never_good text e (Number number) good =
    let is = good_found text (Number number) good in let clash : Bad ≡ Number number = sym e ∙ is in cc
never_good text e (Claim claimed) good =
    let is = good_found text (Claim claimed) good in let clash : Bad ≡ Claim claimed = sym e ∙ is in cc

bad_found : (text : List ℕ) → ((line : Line) → ¬ IsGoodLine text line) → line_of text ≡ Bad
bad_found text none = elim (what_stands (trimmed text)) [
  | inl bad ↦ bad
  | inr writes ↦ absurd (none (line_of text) (trimmed text, says_trimmed text, writes))
]

-- each whole line is exactly one thing
pub each_line : (text : List ℕ) (line : Line) → (IsLogLine text line) ↔ (line_of text ≡ line)
each_line text Blank = (good_found text Blank, λ e. good_when text Blank e (λ h. cc))
each_line text Order = (good_found text Order, λ e. good_when text Order e (λ h. cc))
each_line text (Number number) = (good_found text (Number number), λ e. good_when text (Number number) e (λ h. cc))
each_line text (Claim claimed) = (good_found text (Claim claimed), λ e. good_when text (Claim claimed) e (λ h. cc))
each_line text Bad = (bad_found text, never_good text)
