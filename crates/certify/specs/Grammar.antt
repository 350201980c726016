-- The grammar of logs: what a whole line is, its LF left out.
use Rattle.std.specs.Prelude.{◌≡◌, ℕ, ◌^◌, ◌<◌, ◌≤◌, Bool, true, false, codes, List, [], ◌∷◌, ◌++◌, length}
use Rattle.std.specs.List.{list_all}
use Rattle.std.specs.Char.{is_ascii_digit}
use Rattle.std.specs.Str.Parse.{digits_value}
use Rattle.set_model.specs.declared.call.Call.{Call}
use Rattle.set_model.specs.declared.call.Call.TheVariants.{Insert, Remove, Contains}
use Rattle.certify.specs.Trim.{cr, is_blank}
use Rattle.certify.specs.declared.claimed.Claimed.{Claimed}
use Rattle.certify.specs.declared.line.Line.{Line}
use Rattle.certify.specs.declared.line.Line.TheVariants.{Blank, Claim, Order, Number, Bad}

-- nothing, or one CR
abbrev pub IsEnding : List ℕ → Type 0
IsEnding [] = Unit {0}
IsEnding (b ∷ bytes) = (b ≡ cr) × (bytes ≡ [])

-- the line says this: blanks may stand at both ends, and one CR at the very end
pub record Spells (text rest : List ℕ) : Type 0 where
  pub before : List ℕ
  pub after : List ℕ
  pub ending : List ℕ
  pub is : text ≡ before ++ rest ++ after ++ ending
  pub blank_before : list_all is_blank before ≡ true
  pub blank_after : list_all is_blank after ≡ true
  pub ends : IsEnding ending

-- 1 to so many digits write the number, which fits 64 bits
pub record WritesNumber (most : ℕ) (text : List ℕ) (number : ℕ) : Type 0 where
  pub digits : list_all is_ascii_digit text ≡ true
  pub some : 0 < length text
  pub few : length text ≤ most
  pub value : digits_value 10 text ≡ number
  pub fits : number < 2 ^ 64

-- the sign that asks for a call
abbrev pub sign_of : Call → List ℕ
sign_of Insert = codes "+"
sign_of Remove = codes "-"
sign_of Contains = codes "?"

-- the word that tells an answer
abbrev pub word_of : Bool → List ℕ
word_of true = codes "true"
word_of false = codes "false"

-- the caller, the call with its key, and the answer, with one space between them
pub record WritesCall (text : List ℕ) (claimed : Claimed) : Type 0 where
  pub who : List ℕ
  pub key : List ℕ
  pub is : text ≡ who ++ codes " " ++ sign_of claimed.call ++ key ++ codes " "
      ++ word_of claimed.answer
  pub who_is : WritesNumber 2 who claimed.who
  pub below : claimed.who < 64
  pub key_is : WritesNumber 20 key claimed.key

-- what stands in a good line
abbrev pub IsTextOf : List ℕ → Line → Type 0
IsTextOf rest Blank = rest ≡ []
IsTextOf rest (Claim claimed) = WritesCall rest claimed
IsTextOf rest Order = rest ≡ codes "order"
IsTextOf rest (Number number) = WritesNumber 20 rest number
IsTextOf rest Bad = ⊥

-- the line is a good one of this kind
abbrev pub IsGoodLine : List ℕ → Line → Type 0
IsGoodLine text line = (rest : List ℕ) × Spells text rest × IsTextOf rest line

-- what a whole line is: bad where it is no good one of any kind
abbrev pub IsLogLine : List ℕ → Line → Type 0
IsLogLine text Bad = (line : Line) → ¬ IsGoodLine text line
IsLogLine text other = IsGoodLine text other
