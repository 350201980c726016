-- Calls that read the set, woven into a legal history where each reads it, leave it legal.
use Rattle.std.proofs.Common.{◌≡◌, ℕ, suc, ◌+◌, Bool, true, false, not, List, [], ◌∷◌, ◌++◌, length, All, refl, sym, ap, ◌∙◌, subst, arith, append-nil}
use Rattle.std.proofs.lemmas.List.Elements.{All-head, All-tail, All-cons, All-append}
use mathlib.Core.List.{IsPrefix}
use native.Mathlib.Decide.{ℕ_discrete}
use Rattle.set_model.specs.Call.{answer_where, members_after_call}
use Rattle.set_model.specs.History.{IsLegal, members_after}
use Rattle.set_model.specs.declared.call.Call.{Call}
use Rattle.set_model.specs.declared.call.Call.TheVariants.{Insert, Remove, Contains}
use Rattle.set_model.specs.declared.entry.Entry.{Entry}
use Rattle.set_model.proofs.LawMembers.{members_after_call-Insert, members_after_call-Remove, members_after_call-Contains, members_after_call-other}
use Rattle.fset.specs.Standing.{IsReading}
use Rattle.hash_set.specs.OneHistory.{woven}

-- the entry's call reads the set of these members, and changes nothing
abbrev pub ReadsFrom : (ℕ → Bool) → Entry → Type 0
ReadsFrom members entry = IsReading entry.call entry.answer × (entry.answer ≡ answer_where entry.call (members entry.key))

-- a call that leaves its key as it was leaves every key
leaves_all : (call : Call) (key : ℕ) (members : ℕ → Bool) → members_after_call call key members key ≡ members key
    → (other : ℕ) → members_after_call call key members other ≡ members other
leaves_all call key members here other = elim (ℕ_discrete other key) [
  | yes same ↦ subst (λ (k : ℕ). members_after_call call key members k ≡ members k) (sym same) here
  | no apart ↦ members_after_call-other call key members other apart
]

-- what isn't absent is present
present : (member : Bool) → not member ≡ false → true ≡ member
present true absent = refl
present false absent = absent

-- a reading leaves its key as it was
leaves_key : (call : Call) (key : ℕ) (answer : Bool) (members : ℕ → Bool) → IsReading call answer
    → answer ≡ answer_where call (members key) → members_after_call call key members key ≡ members key
leaves_key Insert key answer members reading right =
    members_after_call-Insert key members ∙ present (members key) (sym right ∙ reading)
leaves_key Remove key answer members reading right = members_after_call-Remove key members ∙ sym reading ∙ right
leaves_key Contains key answer members reading right = members_after_call-Contains key members key

-- so the members after it are those before
reading_leaves : (members : ℕ → Bool) (entry : Entry) → ReadsFrom members entry
    → members_after_call entry.call entry.key members ≡ members
reading_leaves members entry reads = λ i other.
    leaves_all entry.call entry.key members (leaves_key entry.call entry.key entry.answer members reads.0 reads.1) other i

-- readings in front of a legal history make one
legal_behind_readings : (members : ℕ → Bool) (readings rest : List Entry) → All (ReadsFrom members) readings → IsLegal members rest
    → IsLegal members (readings ++ rest)
legal_behind_readings members [] rest reads legal = legal
legal_behind_readings members (entry ∷ readings) rest reads legal =
    let first = All-head (ReadsFrom members) entry readings reads in (
      first.1,
      subst (λ (after : ℕ → Bool). IsLegal after (readings ++ rest)) (sym (reading_leaves members entry first))
          (legal_behind_readings members readings rest (All-tail (ReadsFrom members) entry readings reads) legal),
    )

-- at each place of a history stand readings of the set that the entries before it leave
abbrev pub ReadInPlace : (ℕ → List Entry) → ℕ → (ℕ → Bool) → List Entry → Type 0
ReadInPlace at seen members history = (front : List Entry) (place : ℕ) → IsPrefix front history → place ≡ seen + length front
    → All (ReadsFrom (members_after members front)) (at place)

-- readings woven into a legal history, each where it reads, leave it legal
pub woven_is_legal : (at : ℕ → List Entry) (seen : ℕ) (members : ℕ → Bool) (history : List Entry) → ReadInPlace at seen members history
    → IsLegal members history → IsLegal members (woven at seen history)
woven_is_legal at seen members [] reads legal =
    subst (IsLegal members) (append-nil (at seen))
    (legal_behind_readings members (at seen) [] (reads [] seen ([], refl) (omega arith)) legal)
woven_is_legal at seen members (entry ∷ rest) reads legal =
    let further : ReadInPlace at (suc seen) (members_after_call entry.call entry.key members) rest =
    λ front place begins is. reads (entry ∷ front) place (begins.0, ap (λ (list : List Entry). entry ∷ list) begins.1) (omega arith) in
    legal_behind_readings members (at seen) (entry ∷ woven at (suc seen) rest)
    (reads [] seen (entry ∷ rest, refl) (omega arith))
    (legal.0, woven_is_legal at (suc seen) (members_after_call entry.call entry.key members) rest further legal.1)

-- what holds of a history's entries and of those woven in holds of all
pub all_woven : (P : Entry → Type 0) (at : ℕ → List Entry) (seen : ℕ) (history : List Entry) → ((place : ℕ) → All P (at place))
    → All P history → All P (woven at seen history)
all_woven P at seen [] others own = others seen
all_woven P at seen (entry ∷ rest) others own =
    All-append P (at seen) (entry ∷ woven at (suc seen) rest) (others seen)
    (All-cons P entry (woven at (suc seen) rest) (All-head P entry rest own)
    (all_woven P at (suc seen) rest others (All-tail P entry rest own)))
