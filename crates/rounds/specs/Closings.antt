-- What a round ends with.
use Rattle.std.specs.Prelude.{◌≡◌, ℕ, ◌+◌, ◌≤◌, List, length, map, sum_by, All, Option, None, slice_index_or}
use Rattle.std.specs.List.Sorted.{IsStrictlyIncreasing}
use mathlib.Core.List.{IsPrefix}
use Rattle.set_model.specs.History.{IsLegal, set_after}
use Rattle.set_model.specs.Keys.{is_in, keys_set}
use Rattle.set_model.specs.declared.entry.Entry.{Entry}
use Rattle.step_core.specs.Content.{exponent_of}
use Rattle.step_core.specs.declared.views.RoundFacts.{RoundFacts}
use Rattle.cells.specs.Lone.{ledger_of}
use Rattle.cells.specs.Past.{IsInOrder, IsOfPasses, entries_by}
use Rattle.cells.specs.Tokens.{HasBegunCalls, IsPassOf, PassValue}
use Rattle.rounds.specs.Halts.{AreNumbered, HaltedValue}

-- what a pass did in its round: the calls that it began, the NEXT that its draw past the end found,
-- the words that it drew, the exchanges that it won and the turns that it lost
pub record AccountValue : Type 0 where
  pub calls : ℕ
  pub spent : Option ℕ
  pub drawn : ℕ
  pub won : ℕ
  pub lost : ℕ

-- the account of a pass
abbrev pub account_of : PassValue → AccountValue
account_of pass = record {
  calls = pass.calls;
  spent = pass.view.spent;
  drawn = pass.view.drawn;
  won = pass.view.won;
  lost = pass.view.lost;
}

-- the end of a round: the keys of its set, its head's exponent, its last NEXT, its whole history,
-- and the accounts of its passes, by number
pub record ClosingValue : Type 0 where
  pub keys : List ℕ
  pub exponent : ℕ
  pub next : ℕ
  pub front : List Entry
  pub accounts : List AccountValue

-- the account of a pass that made no step
abbrev pub no_account : AccountValue
no_account = record { calls = 0; spent = None; drawn = 0; won = 0; lost = 0 }

-- the account of the pass with the number
abbrev pub account_at : List AccountValue → ℕ → AccountValue
account_at accounts number = slice_index_or accounts number no_account

-- the words that all passes drew
abbrev pub all_drawn : List AccountValue → ℕ
all_drawn accounts = sum_by (λ account. account.drawn) accounts

-- the exchanges that all passes won
abbrev pub all_won : List AccountValue → ℕ
all_won accounts = sum_by (λ account. account.won) accounts

-- the pass lost at most as many turns as the others won exchanges
abbrev pub IsPaidFor : List AccountValue → AccountValue → Type 0
IsPaidFor accounts account = account.lost + account.won ≤ all_won accounts

-- The history has of the pass the entries of those of its answered calls that have one, in order, and
-- no others; the pass began those calls, and what it has seen begins the history.
pub record HasPartOf (front : List Entry) (pass : PassValue) : Type 0 where
  pub own : entries_by pass.view.number front ≡ pass.view.mine
  pub order : IsInOrder front pass.view.number
  pub begun : HasBegunCalls pass
  pub seen : IsPrefix pass.view.front front

-- it is the whole history of a round with these passes
pub record IsWholeHistory (facts : RoundFacts) (passes : List PassValue) (front : List Entry)
    : Type 0 where
  pub legal : IsLegal (is_in facts.keys) front
  pub who : All (IsOfPasses facts.seats) front
  pub parts : All (HasPartOf front) passes

-- the ledger of the round's only pass tells how it ends
pub record ClosesLedger (closing : ClosingValue) (pass : PassValue) : Type 0 where
  pub keys : closing.keys ≡ (ledger_of pass.view).keys
  pub exponent : closing.exponent ≡ (ledger_of pass.view).exponent
  pub next : closing.next ≡ (ledger_of pass.view).next

-- this is how the halted round ends
pub record Closes (halted : HaltedValue) (closing : ClosingValue) : Type 0 where
  pub front : closing.front ≡ halted.front
  pub history : IsWholeHistory halted.round.facts halted.passes closing.front
  -- the keys are the set after the history
  pub rising : IsStrictlyIncreasing closing.keys
  pub keys : keys_set closing.keys ≡ set_after (keys_set halted.round.facts.keys) closing.front
  pub exponent : closing.exponent ≡ exponent_of halted.words
  -- the passes are the round's, and each has its account at its number
  pub ours : All (IsPassOf halted.round) halted.passes
  pub numbered : AreNumbered halted.round halted.passes
  pub accounts : closing.accounts ≡ map account_of halted.passes
  pub count : length closing.accounts ≡ halted.round.facts.seats
  pub next : closing.next ≡ halted.round.facts.opened + all_drawn closing.accounts
  pub paid : All (IsPaidFor closing.accounts) closing.accounts
  pub alone : halted.round.facts.seats ≡ 1 → All (ClosesLedger closing) halted.passes
