-- What the hands of a round's workers say of the calls that are to be settled.
use Rattle.std.specs.Prelude.{◌≡◌, ℕ, ◌<◌, true, List, length, map, All}
use Rattle.std.specs.FinSet.{FinSet}
use Rattle.std.specs.FinSet as set
use Rattle.std.specs.Ordering.{nat_cmp}
use Rattle.chain.specs.Chain.{Asked, HasBegunCall}
use Rattle.chain.specs.Changing.{is_insert}
use Rattle.chain.specs.Workers.{HandedIn, call_answered, refused_by}
use Rattle.idfiles.specs.declared.id_record.IdRecord.{IdRecord}
use Rattle.set_model.specs.History.{IsLegal, set_after}
use Rattle.set_model.specs.declared.entry.Entry.{Entry}
use Rattle.dedup.specs.Workers.{is_refused}
use Rattle.dedup.specs.declared.worker.Hand.{Hand}

-- what a worker hands in beside its pass
abbrev pub handed_in : Hand → HandedIn
handed_in hand = record { made = hand.made.items; refused = is_refused hand.stop }

-- the lists of numbers that the workers began
abbrev pub lists_of : List Hand → List (List ℕ)
lists_of hands = map (λ hand. hand.made.items) hands

-- a hand has a last record where it was refused, and numbers of records alone
pub record CanSettle (records : List IdRecord) (hand : Hand) : Type 0 where
  pub some : is_refused hand.stop ≡ true → 0 < length hand.made.items
  pub numbers : All (λ number. number < length records) hand.made.items

-- the entry is an insert that the worker with its number began
pub record HasCall (hands : List Hand) (entry : Entry) : Type 0 where
  pub insert : is_insert entry.call ≡ true
  pub begun : HasBegunCall (lists_of hands) entry.who entry.serial

-- The refused call of a worker, if its last was, was made on the set: these entries answer it.
pub record SettlesHand (asked : List Asked) (who : ℕ) (hand : HandedIn)
    (old new : FinSet nat_cmp) (entries : List Entry) : Type 0 where
  pub calls : map call_answered entries ≡ refused_by asked who hand
  pub legal : IsLegal (set.contains old) entries
  pub after : new ≡ set_after old entries
