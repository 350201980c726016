-- What a worker of a round did with its pass: the records whose calls it began, and how these ended.
use Rattle.std.specs.Prelude.{◌≡◌, ℕ, ◌+◌, ◌-◌, ◌<◌, ◌⊎◌, Bool, true, if◌then◌else◌, List, [], ◌∷◌, ◌++◌, length, map, slice_index, slice_index_or, All}
use Rattle.std.specs.List.{Any, filter}
use Rattle.set_model.specs.History.{IsLegal}
use Rattle.set_model.specs.Keys.{is_in}
use Rattle.set_model.specs.declared.entry.Entry.{Entry}
use Rattle.cells.specs.Tokens.{PassValue}
use Rattle.rounds.specs.Closings.{account_of}
use Rattle.rounds.specs.Halts.{HaltedValue}
use Rattle.chain.specs.Chain.{Asked, ShowsCause, WasReading, asked_at}
use Rattle.chain.specs.Changing.{is_changing}

-- an entry of the pass's own is the call of the record that it began with the entry's serial
pub record IsMine (asked : List Asked) (made : List ℕ) (pass : PassValue) (entry : Entry)
    : Type 0 where
  pub who : entry.who ≡ pass.view.number
  pub begun : entry.serial < length made
  pub call : entry.call ≡ (asked_at asked (slice_index made entry.serial)).call
  pub key : entry.key ≡ (asked_at asked (slice_index made entry.serial)).key

-- the call with the serial was answered: it has an entry, or it was a reading of what its pass has seen
abbrev pub WasAnswered : List Asked → List ℕ → PassValue → ℕ → Type 0
WasAnswered asked made pass serial = Any (λ entry. entry.serial ≡ serial) pass.view.mine
    ⊎ WasReading (is_in pass.view.facts.keys) pass.view.front
    (asked_at asked (slice_index made serial))

-- the last call was refused: it has no entry, and the pass shows the cause
pub record WasRefused (turns : ℕ) (made : List ℕ) (pass : PassValue) : Type 0 where
  pub some : 0 < length made
  pub absent : All (λ entry. entry.serial + 1 < length made) pass.view.mine
  pub cause : ShowsCause turns (account_of pass)

-- how many of the calls were answered: all, or all but the last
abbrev pub answered_count : List ℕ → Bool → ℕ
answered_count made refused = length made - (if refused then 1 else 0)

-- The pass began the calls of the records with these numbers, in order; those whose call changed the set
-- are these; all were answered, but for the last where it was refused.
pub record HasMade (asked : List Asked) (turns : ℕ) (made changed : List ℕ) (refused : Bool)
    (pass : PassValue) : Type 0 where
  pub calls : pass.calls ≡ length made
  pub mine : All (IsMine asked made pass) pass.view.mine
  pub changing : changed
      ≡ map (λ entry. slice_index made entry.serial) (filter is_changing pass.view.mine)
  pub answered : (serial : ℕ) → serial < answered_count made refused
      → WasAnswered asked made pass serial
  pub refusal : refused ≡ true → WasRefused turns made pass

-- what a worker hands in when its round ends, its pass apart
pub record HandedIn : Type 0 where
  pub made : List ℕ
  pub refused : Bool

-- with its pass each worker of the halted round did what it handed in, and these are its records whose
-- call changed the set
pub record HaveWorked (asked : List Asked) (turns : ℕ) (halted : HaltedValue)
    (hands : List HandedIn) (changed : List (List ℕ)) : Type 0 where
  pub count : length hands ≡ length halted.passes
  pub lists : length changed ≡ length hands
  pub each : (k : ℕ) (hand : HandedIn) (numbers : List ℕ) (pass : PassValue) → k < length hands
      → HasMade asked turns (slice_index_or hands k hand).made (slice_index_or changed k numbers)
      (slice_index_or hands k hand).refused (slice_index_or halted.passes k pass)

-- a call that was refused: which worker's, with its serial, and what it asked for
pub record RefusedCall : Type 0 where
  pub who : ℕ
  pub serial : ℕ
  pub asked : Asked

-- the call that an entry answers
abbrev pub call_answered : Entry → RefusedCall
call_answered entry = record {
  who = entry.who;
  serial = entry.serial;
  asked = record { call = entry.call; key = entry.key };
}

-- the refused call of the worker with this number, if its last one was
abbrev pub refused_by : List Asked → ℕ → HandedIn → List RefusedCall
refused_by asked who hand = if hand.refused
    then record {
      who = who;
      serial = length hand.made - 1;
      asked = asked_at asked (slice_index hand.made (length hand.made - 1));
    } ∷ []
    else []

-- the refused calls of the workers from a number on, in their order
abbrev pub refused_from : List Asked → ℕ → List HandedIn → List RefusedCall
refused_from asked who [] = []
refused_from asked who (hand ∷ hands) =
    refused_by asked who hand ++ refused_from asked (who + 1) hands

-- The refused calls of these workers, in their order, each with a plain set's answer, from the members
-- of a test on.
pub record AreSettled (asked : List Asked) (hands : List HandedIn) (members : ℕ → Bool)
    (settled : List Entry) : Type 0 where
  pub calls : map call_answered settled ≡ refused_from asked 0 hands
  pub legal : IsLegal members settled
