-- Which keys a row holds for a pass that read it.
use Rattle.std.specs.Prelude.{◌≡◌, ℕ, ◌+◌, ◌==◌, min, Bool, if◌then◌else◌, List, length}
use Rattle.set_model.specs.History.{members_after}
use Rattle.set_model.specs.Keys.{is_in}
use Rattle.step_core.specs.Members.{keys_with_op}
use Rattle.step_core.specs.Rising.{place_in}
use Rattle.step_core.specs.declared.views.PassView.{PassView}
use Rattle.cells.specs.Exchanges.{list_with_op}
use Rattle.cells.specs.Known.{block_at, keys_at}
use Rattle.fset.specs.declared.seen.Seen.{Seen}

-- the content of a row as it was read: its keys, with its operation applied where the result
-- decides it
abbrev pub seen_content : PassView → Seen → ℕ → Bool
seen_content view seen =
    if seen.op == 0 then is_in (keys_at view seen.at)
    else keys_with_op (block_at view.known seen.op) seen.result (is_in (keys_at view seen.at))

-- the same as a rising list
abbrev pub seen_keys : PassView → Seen → List ℕ
seen_keys view seen =
    if seen.op == 0 then keys_at view seen.at
    else list_with_op (block_at view.known seen.op) seen.result (keys_at view seen.at)

-- whether the set after the history that the pass has seen has the key
abbrev pub front_has : PassView → ℕ → Bool
front_has view key = members_after (is_in view.facts.keys) view.front key

-- of the key, the content of the row as it was read says what the set after the pass's front says
abbrev pub Agrees : PassView → Seen → ℕ → Type 0
Agrees view seen key = seen_content view seen key ≡ front_has view key

-- how many keys are loaded to look for one in a rising list: those below it and the next, if there
-- is one
abbrev pub loads_to_find : List ℕ → ℕ → ℕ
loads_to_find keys key = min (place_in keys key + 1) (length keys)
