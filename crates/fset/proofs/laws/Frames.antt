-- What calls leave of a pass's view adds up: what the first learned, drew and lost, and then the second.
use Rattle.std.proofs.Common.{◌≡◌, ℕ, ◌+◌, ◌*◌, ◌≤◌, inl, inr, ◌⊎◌, ⊎_elim, Contains, List, [], ◌∷◌, ◌++◌, length, Option, Some, refl, sym, ap, ◌∙◌, subst, append_assoc, add-zero, zero-add, length-append, arith}
use mathlib.Core.List.{IsPrefix}
use base.Growing.{prefix_refl, prefix_trans}
use Rattle.std.proofs.Math.Nat.{le-max_left, le-max_right}
use Rattle.std.proofs.lemmas.Bool.{cases_lt}
use Rattle.std.proofs.lemmas.List.Elements.{Contains-append_left, Contains-append_right}
use Rattle.std.proofs.lemmas.Nat.{mul-le}
use Rattle.std.specs.List.Sorted.{IsStrictlyIncreasing}
use Rattle.set_model.specs.declared.entry.Entry.{Entry}
use Rattle.step_core.specs.declared.published.Published.{Published}
use Rattle.step_core.specs.declared.published.Published.TheVariants.{Generation, Row, Op}
use Rattle.step_core.specs.declared.published.RowBlock.{RowBlock}
use Rattle.step_core.specs.declared.views.Known.{Known}
use Rattle.step_core.specs.declared.views.PassView.{PassView}
use Rattle.step_core.proofs.lists.Calls.{length-inside}
use Rattle.cells.specs.Frames.{OnlyDraws, after_reads}
use Rattle.cells.specs.Known.{known_block}
use Rattle.cells.specs.Past.{inserted_keys}
use Rattle.cells.specs.Sound.{IsSound}
use Rattle.cells.proofs.laws.AfterSwaps.{inside_of}
use Rattle.cells.proofs.laws.Known.{knows_new}
use Rattle.fset.specs.Frames.{AreKeysOf, IsBehind, Grows, KeepsOwn, Spends, latest_row, row_or, turns_cost, width_of, widest}
use Rattle.fset.specs.Standing.{HasPast}

-- A list is behind itself, and behind what is behind one that it is behind.
pub behind_self : {A : Type 0} (list : List A) → IsBehind list list
behind_self list = ([], refl)

pub behind_then : {A : Type 0} (old between new : List A) → IsBehind old between → IsBehind between new → IsBehind old new
behind_then {A} old between new (first, one) (second, two) =
    (second ++ first, two ∙ ap (λ (list : List A). second ++ list) one ∙ sym (append_assoc second first old))

-- A view that grew and grew again grew by both.
pub grows_then : (first second : List Known) (words more losses lost : ℕ) (old between new : PassView)
    → Grows first words losses old between → Grows second more lost between new
    → Grows (second ++ first) (words + more) (losses + lost) old new
grows_then first second words more losses lost old between new one two = record {
  number = two.number ∙ one.number;
  facts = two.facts ∙ one.facts;
  front = prefix_trans old.front between.front new.front one.front two.front;
  known = two.known ∙ ap (λ (known : List Known). second ++ known) one.known ∙ sym (append_assoc second first old.known);
  fixed = behind_then old.fixed between.fixed new.fixed one.fixed two.fixed;
  asked = behind_then old.asked between.asked new.asked one.asked two.asked;
  drawn = omega (arith, one.drawn, two.drawn);
  lost = omega (arith, one.lost, two.lost);
}

-- What loses no turn, and then something that loses some, loses as many.
pub then_loses : (first second : List Known) (losses : ℕ) (old between new : PassView) → Grows first 0 0 old between
    → Grows second 0 losses between new → Grows (second ++ first) 0 losses old new
then_loses first second losses old between new one two =
    subst (λ (sum : ℕ). Grows (second ++ first) 0 sum old new) (let sum : 0 + losses ≡ losses = omega arith in sum)
    (grows_then first second 0 0 0 losses old between new one two)

-- The pass's own stays over both where it stays over each.
pub own_then : (old between new : PassView) → KeepsOwn old between → KeepsOwn between new → KeepsOwn old new
own_then old between new one two = record {
  mine = two.mine ∙ one.mine;
  flight = two.flight ∙ one.flight;
  used = two.used ∙ one.used;
}

-- Loads that told nothing new leave the view, and the pass's own.
pub reads_grow : (loads : ℕ) (view : PassView) → Grows [] 0 0 view (after_reads loads view)
reads_grow loads view = record {
  number = refl;
  facts = refl;
  front = prefix_refl view.front;
  known = refl;
  fixed = behind_self view.fixed;
  asked = behind_self view.asked;
  drawn = sym (add-zero view.drawn);
  lost = sym (add-zero view.lost);
}

pub reads_own : (loads : ℕ) (view : PassView) → KeepsOwn view (after_reads loads view)
reads_own loads view = record { mine = refl; flight = refl; used = refl }

-- Draws and writes leave what is known and lost, and the pass's own.
pub draws_grow : (words : ℕ) (old new : PassView) → OnlyDraws old new → new.drawn ≡ old.drawn + words → Grows [] words 0 old new
draws_grow words old new only drawn = record {
  number = ap (λ (view : PassView). view.number) only;
  facts = ap (λ (view : PassView). view.facts) only;
  front = subst (IsPrefix old.front) (sym (ap (λ (view : PassView). view.front) only)) (prefix_refl old.front);
  known = ap (λ (view : PassView). view.known) only;
  fixed = ([], ap (λ (view : PassView). view.fixed) only);
  asked = ([], ap (λ (view : PassView). view.asked) only);
  drawn = drawn;
  lost = ap (λ (view : PassView). view.lost) only ∙ sym (add-zero old.lost);
}

pub draws_own : (old new : PassView) → OnlyDraws old new → KeepsOwn old new
draws_own old new only = record {
  mine = ap (λ (view : PassView). view.mine) only;
  flight = ap (λ (view : PassView). view.flight) only;
  used = ap (λ (view : PassView). view.used) only;
}

-- Among learned blocks none behind the first is wider than the widest.
widest-more : (known : Known) (others : List Known) → widest others ≤ widest (known ∷ others)
widest-more known others = le-max_right (width_of known.block) (widest others)

-- the row that was learned last, by the kind of the first block
latest_fits : (block : Published) (other : Option RowBlock) (most : ℕ) (row : RowBlock) → row_or block other ≡ Some row → width_of block ≤ most
    → (other ≡ Some row → length row.keys ≤ most) → length row.keys ≤ most
latest_fits (Generation generation) other most row latest fits behind = behind latest
latest_fits (Row first) other most row latest fits behind =
    let same : first ≡ row = cc in subst (λ (row : RowBlock). length row.keys ≤ most) same fits
latest_fits (Op op) other most row latest fits behind = behind latest

-- Nor is the row that was learned last.
pub widest-latest : (learned : List Known) (row : RowBlock) → latest_row learned ≡ Some row → length row.keys ≤ widest learned
widest-latest [] row latest = absurd (cc)
widest-latest (known ∷ others) row latest =
    latest_fits known.block (latest_row others) (widest (known ∷ others)) row latest (le-max_left (width_of known.block) (widest others))
    (λ behind. let fits = widest-latest others row behind in let more = widest-more known others in omega (arith, fits, more))

-- it is among them, by the kind of the first block
latest_at : (at : ℕ) (block : Published) (others : List Known) (row : RowBlock) → row_or block (latest_row others) ≡ Some row
    → (latest_row others ≡ Some row → (from : ℕ) × Contains others (known_block from (Row row)))
    → (from : ℕ) × Contains (known_block at block ∷ others) (known_block from (Row row))
latest_at at (Generation generation) others row latest behind = let there = behind latest in
    (there.0, Contains-append_right (known_block at (Generation generation) ∷ []) others (known_block there.0 (Row row)) there.1)
latest_at at (Row first) others row latest behind =
    let same : first ≡ row = cc in (at, (0, omega arith, ap (λ (row : RowBlock). known_block at (Row row)) same))
latest_at at (Op op) others row latest behind = let there = behind latest in
    (there.0, Contains-append_right (known_block at (Op op) ∷ []) others (known_block there.0 (Row row)) there.1)

-- The row that was learned last is among those that were learned.
pub latest-there : (learned : List Known) (row : RowBlock) → latest_row learned ≡ Some row
    → (at : ℕ) × Contains learned (known_block at (Row row))
latest-there [] row latest = absurd (cc)
latest-there (known ∷ others) row latest = latest_at known.at known.block others row latest (latest-there others row)

-- the row that was learned last where others were learned before, by the kind of the first block
by_block : (block : Published) (behind all : Option RowBlock) (row : RowBlock) → row_or block behind ≡ Some row
    → (behind ≡ Some row → all ≡ Some row) → row_or block all ≡ Some row
by_block (Generation generation) behind all row latest more = more latest
by_block (Row first) behind all row latest more = latest
by_block (Op op) behind all row latest more = more latest

-- What turns may draw rises with the width,
pub turns_cost_rises : (turns one all : ℕ) → one ≤ all → turns_cost turns one ≤ turns_cost turns all
turns_cost_rises turns one all less = mul-le turns (2 * one + 8) turns (2 * all + 8) (omega arith) (omega (arith, less))

-- and adds up.
pub costs_add : (turns more words others one two all : ℕ) → (one ≤ all) × (two ≤ all) → words ≤ turns_cost turns one → others ≤ turns_cost more two
    → words + others ≤ turns_cost (turns + more) all
costs_add turns more words others one two all (first, second) low high =
    let less = turns_cost_rises turns one all first in
    let rest = turns_cost_rises more two all second in
    let sum : (turns + more) * (2 * all + 8) ≡ turns * (2 * all + 8) + more * (2 * all + 8) = grind (arith) in
    omega (arith, low, high, less, rest, sum)

-- The row learned last is the last of those learned then, if there is one.
pub latest_row-append : (first second : List Known) (row : RowBlock) → latest_row second ≡ Some row → latest_row (second ++ first) ≡ Some row
latest_row-append first [] row latest = absurd (cc)
latest_row-append first (known ∷ second) row latest =
    by_block known.block (latest_row second) (latest_row (second ++ first)) row latest (latest_row-append first second row)

-- Keys of rows among some blocks are so among more,
pub keys_of-more : (more blocks : List Known) (keys : List ℕ) → AreKeysOf blocks keys → AreKeysOf (more ++ blocks) keys
keys_of-more more blocks keys of = record {
  rising = of.rising;
  from = λ key here. let row = of.from key here in
      (row.0, row.1, Contains-append_right more blocks (known_block row.0 (Row row.1)) row.2, row.3);
}

-- also where the others were learned before.
pub keys_of-behind : (blocks others : List Known) (keys : List ℕ) → AreKeysOf blocks keys → AreKeysOf (blocks ++ others) keys
keys_of-behind blocks others keys of = record {
  rising = of.rising;
  from = λ key here. let row = of.from key here in
      (row.0, row.1, Contains-append_left blocks others (known_block row.0 (Row row.1)) row.2, row.3);
}

-- No keys are the keys of any rows,
pub keys_of-none : (blocks : List Known) → AreKeysOf blocks []
keys_of-none blocks = record { rising = (λ k within. absurd (omega (arith, within))); from = λ key here. absurd (cc) }

-- and those of a row among the blocks are.
pub keys_of-row : (blocks : List Known) (at : ℕ) (row : RowBlock) → Contains blocks (known_block at (Row row)) → IsStrictlyIncreasing row.keys
    → AreKeysOf blocks row.keys
keys_of-row blocks at row there rising = record { rising = rising; from = λ key here. (at, row, there, here) }

-- the longer of two lists
pub record IsLonger (one two all : List ℕ) : Type 0 where
  pub first : length one ≤ length all
  pub second : length two ≤ length all
  pub which : (all ≡ one) ⊎ (all ≡ two)

pub longer : (one two : List ℕ) → (all : List ℕ) × IsLonger one two all
longer one two =
    let Longer : Type 0 = (all : List ℕ) × IsLonger one two all in
    elim (cases_lt (length one) (length two)) as (λ _. Longer) [
      | inl less ↦ (two, record { first = omega (arith, less); second = omega arith; which = inr refl })
      | inr more ↦ (one, record { first = omega arith; second = omega (arith, more); which = inl refl })
    ]

-- The keys of rows that were learned first, or then, are keys of rows that were learned.
pub keys_of-either : (first second : List Known) (one two all : List ℕ) → AreKeysOf first one → AreKeysOf second two
    → (all ≡ one) ⊎ (all ≡ two) → AreKeysOf (second ++ first) all
keys_of-either first second one two all of other which = ⊎_elim
    (λ (is : all ≡ one). subst (AreKeysOf (second ++ first)) (sym is) (keys_of-more second first one of))
    (λ (is : all ≡ two). subst (AreKeysOf (second ++ first)) (sym is) (keys_of-behind second first two other))
    which

-- What one call spent, and then another, is what both may, where their costs add up so.
abbrev pub spends_both : (cost more sum : ℕ → ℕ) (losses lost total : ℕ) (old between new : PassView) → losses + lost ≡ total
    → ((words others one two all : ℕ) → one ≤ all → two ≤ all → words ≤ cost one → others ≤ more two → words + others ≤ sum all)
    → Spends cost losses old between → Spends more lost between new → Spends sum total old new
spends_both cost more sum losses lost total old between new adds up one two =
    let all = longer one.wide two.wide in
    record {
      learned = two.learned ++ one.learned;
      words = one.words + two.words;
      grows = subst (λ (sum : ℕ). Grows (two.learned ++ one.learned) (one.words + two.words) sum old new) adds
          (grows_then one.learned two.learned one.words two.words losses lost old between new one.grows two.grows);
      wide = all.0;
      keys = keys_of-either one.learned two.learned one.wide two.wide all.0 one.keys two.keys all.1.which;
      bound = up one.words two.words (length one.wide) (length two.wide) (length all.0) all.1.first all.1.second one.bound two.bound;
    }

-- What turns spent, and then further ones, is what all of them may.
abbrev pub spends_then : (turns more losses lost total : ℕ) (old between new : PassView) → losses + lost ≡ total
    → Spends (turns_cost turns) losses old between → Spends (turns_cost more) lost between new
    → Spends (turns_cost (turns + more)) total old new
spends_then turns more losses lost total old between new sum one two =
    spends_both (turns_cost turns) (turns_cost more) (turns_cost (turns + more)) losses lost total old between new sum
    (λ words others first second all less also low high. costs_add turns more words others first second all (less, also) low high) one two

-- What was learned before or behind costs nothing more.
abbrev pub spends_after : (cost : ℕ → ℕ) (losses : ℕ) (first : List Known) (old between new : PassView) → Grows first 0 0 old between
    → Spends cost losses between new → Spends cost losses old new
spends_after cost losses first old between new grown spends = record {
  learned = spends.learned ++ first;
  words = spends.words;
  grows = subst (λ (z : ℕ × ℕ). Grows (spends.learned ++ first) z.0 z.1 old new)
      (λ i. (zero-add spends.words i, zero-add losses i))
      (grows_then first spends.learned 0 spends.words 0 losses old between new grown spends.grows);
  wide = spends.wide;
  keys = keys_of-behind spends.learned first spends.wide spends.keys;
  bound = spends.bound;
}

abbrev pub spends_before : (cost : ℕ → ℕ) (losses : ℕ) (last : List Known) (old between new : PassView) → Spends cost losses old between
    → Grows last 0 0 between new → Spends cost losses old new
spends_before cost losses last old between new spends grown = record {
  learned = last ++ spends.learned;
  words = spends.words;
  grows = subst (λ (z : ℕ × ℕ). Grows (last ++ spends.learned) z.0 z.1 old new)
      (λ i. (add-zero spends.words i, add-zero losses i))
      (grows_then spends.learned last spends.words 0 losses 0 old between new spends.grows grown);
  wide = spends.wide;
  keys = keys_of-more last spends.learned spends.wide spends.keys;
  bound = spends.bound;
}

-- Turns that are lost then cost nothing more either.
abbrev pub spends_lost : (cost : ℕ → ℕ) (losses : ℕ) (last : List Known) (old between new : PassView) → Spends cost 0 old between
    → Grows last 0 losses between new → Spends cost losses old new
spends_lost cost losses last old between new spends grown = record {
  learned = last ++ spends.learned;
  words = spends.words;
  grows = subst (λ (z : ℕ × ℕ). Grows (last ++ spends.learned) z.0 z.1 old new)
      (λ i. (add-zero spends.words i, zero-add losses i))
      (grows_then spends.learned last spends.words 0 0 losses old between new spends.grows grown);
  wide = spends.wide;
  keys = keys_of-more last spends.learned spends.wide spends.keys;
  bound = spends.bound;
}

-- What is bounded by one cost is by a greater one.
abbrev pub spends_more : (cost more : ℕ → ℕ) (losses : ℕ) (old new : PassView) → ((width : ℕ) → cost width ≤ more width)
    → Spends cost losses old new → Spends more losses old new
spends_more cost more losses old new less spends = record {
  learned = spends.learned;
  words = spends.words;
  grows = spends.grows;
  wide = spends.wide;
  keys = spends.keys;
  bound = omega (arith, spends.bound, less (length spends.wide));
}

-- A call that takes effect past a later front does so past an earlier one.
pub past_from : (before between now : List Entry) (entry : Entry) → IsPrefix before between → HasPast between now entry → HasPast before now entry
past_from before between now entry grows past = record {
  past = past.past;
  rest = past.rest;
  begins = prefix_trans before between past.past grows past.begins;
  is_front = past.is_front;
}

-- No row that a call read or wrote has more keys than the opening has and inserts that the pass met.
pub wide_fits : (cost : ℕ → ℕ) (losses : ℕ) (old new : PassView) (spends : Spends cost losses old new) → IsSound new
    → length spends.wide ≤ length new.facts.keys + length (inserted_keys new.horizon)
wide_fits cost losses old new spends sound =
    let all : List ℕ = new.facts.keys ++ inserted_keys new.horizon in
    let fits = length-inside spends.wide all spends.keys.rising (λ key here.
    let from = spends.keys.from key here in
    inside_of from.1.keys all
    (sound.given from.0 from.1 (knows_new spends.learned old new spends.grows.known from.0 (Row from.1) from.2)) key from.3) in
    omega (arith, fits, length-append new.facts.keys (inserted_keys new.horizon))
