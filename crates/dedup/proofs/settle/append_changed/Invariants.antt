use Rattle.std.proofs.Common.{◌≡◌, ◌++◌, map, take}
use Rattle.std.specs.List.{filter}
use Rattle.chain.specs.Chain.{number_of_entry}
use Rattle.chain.specs.Changing.{is_changing}
use Rattle.dedup.specs.Settling.{lists_of}
use Rattle.dedup.proofs.settle.append_changed.Given as goal

-- those of the entries so far stand behind
abbrev pub invariant-loop-entry : goal.invariant-loop-entry
invariant-loop-entry l =
    l.changed.items ≡ l.fn.changed.items
    ++ map (number_of_entry (lists_of l.hands)) (filter is_changing (take l.entry-index l.settled))
