-- What contracts see of the fields of an account, a halted round and a closing, and what holds of
-- these fields.
use Rattle.std.specs.Prelude.{◌≡◌, map}
use Rattle.std.specs.List.Sorted.{IsStrictlyIncreasing}
use Rattle.cells.specs.Ends.{AreAllPasses, EndsRound}
use Rattle.cells.specs.Tokens.{PassValue}
use Rattle.rounds.specs.Closings.{ClosingValue, account_of}
use Rattle.rounds.specs.Halts.{AreAtRest, AreNumbered, HaltedValue}
use Rattle.rounds.specs.declared.account.Account.TheInside as account
use Rattle.rounds.specs.declared.closing.Closing.TheInside as closing
use Rattle.rounds.specs.declared.halted.Halted.TheInside as halted

-- an account is the pass as it was
abbrev pub account_value : account.Inside → PassValue
account_value inside = inside.pass.value

-- an account's number, calls and where it was spent are the pass's
pub record AccountsFor (inside : account.Inside) : Type 0 where
  pub number : inside.number ≡ inside.pass.value.view.number
  pub calls : inside.calls ≡ inside.pass.value.calls
  pub spent : inside.spent ≡ inside.pass.value.view.spent

-- a halted round is its fields
abbrev pub halted_value : halted.Inside → HaltedValue
halted_value inside = record {
  round = inside.round.value;
  words = inside.words;
  front = inside.front;
  passes = inside.accounts.items;
}

-- words and history are those with which its round ended, whose passes these are
pub record IsHalted (inside : halted.Inside) : Type 0 where
  pub all : AreAllPasses inside.round.value inside.accounts.items
  pub numbered : AreNumbered inside.round.value inside.accounts.items
  pub at_rest : AreAtRest inside.accounts.items
  pub ends : EndsRound inside.round.value.facts inside.accounts.items inside.words inside.front

-- a closing is its fields, and the accounts of the passes
abbrev pub closing_value : closing.Inside → ClosingValue
closing_value inside = record {
  keys = inside.keys.items;
  exponent = inside.exponent;
  next = inside.next;
  front = inside.front;
  accounts = map account_of inside.accounts.items;
}

-- a closing's keys rise
abbrev pub HasRisingKeys : closing.Inside → Type 0
HasRisingKeys inside = IsStrictlyIncreasing inside.keys.items
