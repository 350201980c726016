-- A block that was drawn and written whole has the row, and a refused draw leaves no row.
use Rattle.std.proofs.Common.{◌≡◌, ◌≢◌, ℕ, suc, ◌+◌, ◌-◌, ◌^◌, ◌<◌, ◌≤◌, true, false, List, [], ◌∷◌, ◌++◌, length, take, drop, slice_range, Option, Some, None, inl, inr, ⊎_elim, add-zero, refl, sym, ap, ◌∙◌, subst, append_assoc, take_all, length-append, length-drop, arith}
use Rattle.std.proofs.lemmas.List.{length-take-le}
use Rattle.std.proofs.lemmas.List.Edits.{length-remove}
use Rattle.std.specs.List.{insert, remove}
use Rattle.std.specs.List.Sorted.{IsStrictlyIncreasing}
use Rattle.set_model.specs.Keys.{is_in}
use Rattle.set_model.specs.declared.call.Call.{Call}
use Rattle.set_model.specs.declared.call.Call.TheVariants.{Remove}
use Rattle.step_core.specs.Format.{row_words}
use Rattle.step_core.specs.Ledger.{drawing}
use Rattle.step_core.specs.Rising.{ChangesKeys, keys_after_call, place_in, with_key}
use Rattle.step_core.specs.declared.format.TheConstants.{FIRST_KEY}
use Rattle.step_core.specs.declared.views.PassView.{PassView}
use Rattle.step_core.specs.declared.views.StepCounts.{StepCounts}
use Rattle.step_core.proofs.lists.Places.{with_key-parts, without_key-parts, length-with_key, place_in-here}
use Rattle.cells.specs.Frames.{OnlyDraws, after_reads}
use Rattle.cells.specs.Known.{keys_at, row_at}
use Rattle.cells.specs.Sound.{IsSound}
use Rattle.cells.specs.Steps.{RefusesDraw, Writes}
use Rattle.cells.specs.Tokens.{BlockValue}
use Rattle.cells.proofs.laws.AfterDraws.{draws_keep, full_keeps, overdraws_keep, writes_keep}
use Rattle.cells.proofs.laws.Within.{row_within}
use Rattle.cells.proofs.laws.WritesAddUp.{length-drawn, writes_both, writes_whole}
use Rattle.fset.specs.Frames.{row_cost}
use Rattle.fset.specs.Rows.{Builds, OnlyBuilds, Overdrew, RefusesRow, StartsRow, WasSpent}
use Rattle.fset.specs.Seen.{IsSeen}
use Rattle.fset.specs.declared.seen.Seen.{Seen}
use Rattle.fset.proofs.laws.AloneRows.{ends_after_reads, refused_ends, row_ends}
use Rattle.fset.proofs.laws.Copying.{writes_keys, writes_reads}
use Rattle.fset.proofs.laws.Reading.{after_reads-both, after_reads-none}

-- Draws and writes that follow each other keep what each keeps.
pub draws_then : (old between new : PassView) → OnlyDraws old between → OnlyDraws between new → OnlyDraws old new
draws_then old between new one two = two
    ∙ ap (λ (view : PassView). record view {
      hands = new.hands;
      drawn = new.drawn;
      spent = new.spent;
      events = new.events;
      begun = new.begun;
      won_since = new.won_since;
      cursor = new.cursor;
      made = new.made;
    }) one

-- where only these counts of steps are others, only these steps were made
only_builds : (sealed drawn writes : ℕ) (before after : StepCounts)
    → after ≡ record before { sealed_loads = sealed; draws = drawn; writes = before.writes + writes } → drawn ≤ before.draws + 1
    → OnlyBuilds writes before after
only_builds sealed drawn writes before after only few = subst (OnlyBuilds writes before) (sym only) (record { only = refl; draws = few })

-- no step but so many draws
only_draws : (drawn : ℕ) (before after : StepCounts) → after ≡ record before { draws = drawn } → drawn ≤ before.draws + 1
    → OnlyBuilds 0 before after
only_draws drawn before after only few = only_builds before.sealed_loads drawn 0 before after
    (only ∙ (λ i. record before { draws = drawn; writes = sym (add-zero before.writes) i })) few

-- Where the words before the keys stand in a block drawn for them, and the keys were written behind, the row stands in it.
pub row_built : (keys : List ℕ) (block : BlockValue) (loads : ℕ) (old started new : PassView) → StartsRow (length keys) block old started
    → Writes block.at FIRST_KEY keys (after_reads loads started) new → Builds keys block old new
row_built keys block loads old started new starts rest =
    let at = block.at in
    let between = starts.between in
    let front : List ℕ = length keys ∷ 0 ∷ 0 ∷ [] in
    let first = writes_reads at 0 loads front between started starts.writes in
    let whole = writes_both at 0 FIRST_KEY front keys (after_reads loads between) (after_reads loads started) new refl first rest in
    let drawn = draws_keep old at (row_cost (length keys)) between starts.draws in
    let written = writes_keep at 0 (row_words keys) (after_reads loads between) new whole in
    record {
      only = draws_then old between new drawn.0 (draws_then between (after_reads loads between) new refl written.0);
      built = writes_whole at (row_words keys) (after_reads loads between) new whole
          (omega (arith, length-drawn old at (row_cost (length keys)) between starts.draws));
      long = starts.long;
      words = row_cost (length keys);
      drawn = written.1 ∙ drawn.1;
      bound = omega arith;
      unspent = starts.draws.unspent;
      spent = written.2 ∙ drawn.2;
      steps = only_builds (old.made.sealed_loads + loads) (old.made.draws + 1) (row_cost (length keys)) old.made new.made
          (ap (λ (view : PassView). view.made) whole.only
          ∙ ap (λ (view : PassView). record view.made {
            sealed_loads = view.made.sealed_loads + loads;
            writes = view.made.writes + length (row_words keys);
          }) starts.draws.view
          ∙ (λ i. record old.made {
            sealed_loads = old.made.sealed_loads + loads;
            draws = old.made.draws + 1;
            writes = old.made.writes + (let long : length (row_words keys) ≡ row_cost (length keys) = omega arith in long) i;
          }))
          (omega arith);
      alone = row_ends old at (row_cost (length keys)) between loads (row_words keys) new starts.draws whole;
    }

-- Drawing a block and writing into it leaves the keys that are known.
pub started_keys : (count row : ℕ) (block : BlockValue) (old new : PassView) → StartsRow count block old new
    → keys_at new row ≡ keys_at old row
started_keys count row block old new starts =
    writes_keys block.at 0 row (count ∷ 0 ∷ 0 ∷ []) starts.between new starts.writes
    ∙ ap (λ (view : PassView). keys_at view row) starts.draws.view

-- A refused draw by whether the pass was spent.
refused : (spent : Option ℕ) (keys : List ℕ) (old new : PassView) → old.spent ≡ spent → RefusesDraw old (row_cost (length keys)) new
    → RefusesRow keys old new
refused None keys old new was full =
    let over = full.overdrew was in
    let keeps = overdraws_keep old over.0 (row_cost (length keys)) new over.1 in
    record {
      only = keeps.0;
      words = row_cost (length keys);
      drawn = keeps.2;
      bound = omega arith;
      full = inr (record { at = over.0; spent = keeps.3; behind = over.1.found.behind; past = over.1.past });
      steps = only_draws (old.made.draws + 1) old.made new.made (ap (λ (view : PassView). view.made) over.1.view) (omega arith);
      alone = refused_ends old (row_cost (length keys)) new full;
    }
refused (Some place) keys old new was full =
    let some : old.spent ≢ None = λ (none : old.spent ≡ None). (let clash : Some place ≡ None = sym was ∙ none in cc) in
    let same = full.spent some in
    let keeps = full_keeps old (row_cost (length keys)) new full in
    record {
      only = keeps.keeps;
      words = 0;
      drawn = omega (arith, ap (λ (view : PassView). view.drawn) same);
      bound = omega arith;
      full = inl (record { before = some; still = ap (λ (view : PassView). view.spent) same; none = refl });
      steps = only_draws old.made.draws old.made new.made (ap (λ (view : PassView). view.made) same) (omega arith);
      alone = refused_ends old (row_cost (length keys)) new full;
    }

-- A refused draw of a row's words leaves the pass spent, and no row.
pub row_refused : (keys : List ℕ) (count : ℕ) (old new : PassView) → length keys ≡ count → RefusesDraw old (row_cost count) new
    → RefusesRow keys old new
row_refused keys count old new long full =
    refused old.spent keys old new refl (subst (λ (n : ℕ). RefusesDraw old (row_cost n) new) (sym long) full)

-- a part of a row up to its end, and one from its front on
part_from : (keys : List ℕ) (from to : ℕ) → to ≡ length keys → slice_range keys from to ≡ drop from keys
part_from keys from to end = take_all (to - from) (drop from keys) (omega (arith, end, length-drop from keys))

part_to : (keys : List ℕ) (to : ℕ) → slice_range keys 0 to ≡ take to keys
part_to keys to = ap (λ (count : ℕ). take count keys) (let same : to - 0 ≡ to = omega arith in same)

-- the first part of the keys, as it was written
lower : (keys : List ℕ) (before at : ℕ) (v1 v2 : PassView)
    → Writes at FIRST_KEY (slice_range keys 0 before) (after_reads (before - 0) v1) v2
    → Writes at FIRST_KEY (take before keys) (after_reads before v1) v2
lower keys before at v1 v2 low = subst (λ (z : List ℕ × ℕ). Writes at FIRST_KEY z.0 (after_reads z.1 v1) v2)
    (λ i. (part_to keys before i, (let same : before - 0 ≡ before = omega arith in same) i)) low

-- what was written behind the first part, and then behind that
behind : (at before loads more : ℕ) (low middle : List ℕ) (v1 v2 v3 : PassView) → before ≡ FIRST_KEY + length low
    → Writes at FIRST_KEY low (after_reads loads v1) v2 → Writes at before middle (after_reads more v2) v3
    → Writes at FIRST_KEY (low ++ middle) (after_reads (loads + more) v1) v3
behind at before loads more low middle v1 v2 v3 place first second =
    subst (λ (view : PassView). Writes at FIRST_KEY (low ++ middle) view v3) (after_reads-both loads more v1)
    (writes_both at FIRST_KEY before low middle (after_reads more (after_reads loads v1)) (after_reads more v2) v3 place
    (writes_reads at FIRST_KEY more low (after_reads loads v1) v2 first) second)

-- the length of the first part
length-low : (keys : List ℕ) (before : ℕ) → before ≤ length keys → length (take before keys) ≡ before
length-low keys before within = length-take-le before keys within

module _ (keys : List ℕ) (before count : ℕ) (is_count : count ≡ length keys)
    (block : BlockValue) (v0 v1 v2 : PassView) (within : before ≤ count)
    (low : Writes block.at FIRST_KEY (slice_range keys 0 before) (after_reads (before - 0) v1) v2) where
  -- The keys below a new one, that one, and the keys behind it are the keys with it.
  pub with_built : (key : ℕ) (v3 v4 : PassView) → before ≡ place_in keys key → is_in keys key ≡ false → StartsRow (count + 1) block v0 v1
      → Writes block.at (FIRST_KEY + before) (key ∷ []) v2 v3
      → Writes block.at (FIRST_KEY + before + 1) (slice_range keys before count) (after_reads (count - before) v3) v4
      → Builds (with_key key keys) block v0 v4
  with_built key v3 v4 is_place absent starts put high =
      let long = length-low keys before (omega (arith, within, is_count)) in
      let first = lower keys before block.at v1 v2 low in
      let second = behind block.at (FIRST_KEY + before) before 0 (take before keys) (key ∷ []) v1 v2 v3 (omega (arith, long)) first
      (subst (λ (view : PassView). Writes block.at (FIRST_KEY + before) (key ∷ []) view v3) (sym (after_reads-none v2)) put) in
      let third = behind block.at (FIRST_KEY + before + 1) (before + 0) (count - before) (take before keys ++ key ∷ []) (drop before keys) v1 v3 v4
      (omega (arith, long, length-append (take before keys) (key ∷ []))) second
      (subst (λ (list : List ℕ). Writes block.at (FIRST_KEY + before + 1) list (after_reads (count - before) v3) v4)
      (part_from keys before count is_count) high) in
      let whole : (take before keys ++ key ∷ []) ++ drop before keys ≡ with_key key keys =
      append_assoc (take before keys) (key ∷ []) (drop before keys)
      ∙ ap (λ (place : ℕ). insert keys place key) is_place ∙ sym (with_key-parts key keys absent) in
      row_built (with_key key keys) block (before + 0 + (count - before)) v0 v1 v4
      (subst (λ (n : ℕ). StartsRow n block v0 v1) (let more : count + 1 ≡ length (with_key key keys) =
      omega (arith, is_count, length-with_key key keys absent) in more) starts)
      (subst (λ (list : List ℕ). Writes block.at FIRST_KEY list (after_reads (before + 0 + (count - before)) v1) v4) whole third)

  -- The keys before one of them and the keys behind it are the keys without it.
  pub without_built : (v3 : PassView) → before < count → StartsRow (count - 1) block v0 v1
      → Writes block.at (FIRST_KEY + before) (slice_range keys (before + 1) count) (after_reads (count - (before + 1)) v2) v3
      → Builds (remove keys before) block v0 v3
  without_built v3 inside starts high =
      let long = length-low keys before (omega (arith, within, is_count)) in
      let first = lower keys before block.at v1 v2 low in
      let second = behind block.at (FIRST_KEY + before) before (count - (before + 1)) (take before keys) (drop (before + 1) keys) v1 v2 v3
      (omega (arith, long)) first
      (subst (λ (list : List ℕ). Writes block.at (FIRST_KEY + before) list (after_reads (count - (before + 1)) v2) v3)
      (part_from keys (before + 1) count is_count) high) in
      let whole : take before keys ++ drop (before + 1) keys ≡ remove keys before =
      ap (λ (n : ℕ). take before keys ++ drop n keys) (let next : before + 1 ≡ suc before = omega arith in next) in
      row_built (remove keys before) block (before + (count - (before + 1))) v0 v1 v3
      (subst (λ (n : ℕ). StartsRow n block v0 v1) (let fewer : count - 1 ≡ length (remove keys before) =
      omega (arith, is_count, length-remove keys before (omega (arith, inside, is_count))) in fewer) starts)
      (subst (λ (list : List ℕ). Writes block.at FIRST_KEY list (after_reads (before + (count - (before + 1))) v1) v3) whole second)

-- What a remove leaves of rising keys are those without the one at its key's place, which is among them.
pub removed : (call : Call) (key : ℕ) (keys : List ℕ) (before : ℕ) → call ≡ Remove → IsStrictlyIncreasing keys → ChangesKeys call key keys
    → before ≡ place_in keys key → (before < length keys) × (remove keys before ≡ keys_after_call call key keys)
removed call key keys before is rising changes place =
    let here = subst (λ (call : Call). ChangesKeys call key keys) is changes in
    let inside = place_in-here keys key rising here in (
      omega (arith, inside.0, place),
      ap (remove keys) place ∙ sym (without_key-parts key keys rising here) ∙ ap (λ (call : Call). keys_after_call call key keys) (sym is),
    )

-- A known row with one key more fits into one draw.
pub row_room : (view : PassView) (seen : Seen) → IsSound view → IsSeen view seen → FIRST_KEY + seen.count + 1 ≤ 2 ^ 28
row_room view seen sound agrees =
    let inside = row_within view sound seen.at (row_at view.known seen.at) agrees.known in
    omega (arith, inside.small, inside.behind_base, agrees.count)

-- What was built, or refused, behind loads that told nothing new was so from before them.
pub built_after_reads : (keys : List ℕ) (block : BlockValue) (loads : ℕ) (old new : PassView)
    → Builds keys block (after_reads loads old) new → Builds keys block old new
built_after_reads keys block loads old new builds = record {
  only = builds.only;
  built = builds.built;
  long = builds.long;
  words = builds.words;
  drawn = builds.drawn;
  bound = builds.bound;
  unspent = builds.unspent;
  spent = builds.spent;
  steps = record { only = builds.steps.only; draws = builds.steps.draws };
  alone = ends_after_reads (drawing (row_cost (length keys))) false loads old new builds.alone;
}

pub refused_after_reads : (keys : List ℕ) (loads : ℕ) (old new : PassView) → RefusesRow keys (after_reads loads old) new
    → RefusesRow keys old new
refused_after_reads keys loads old new refuses = record {
  only = refuses.only;
  words = refuses.words;
  drawn = refuses.drawn;
  bound = refuses.bound;
  full = ⊎_elim
      (λ (was : WasSpent refuses.words (after_reads loads old) new). inl (record { before = was.before; still = was.still; none = was.none }))
      (λ (over : Overdrew refuses.words (after_reads loads old) new).
      inr (record { at = over.at; spent = over.spent; behind = over.behind; past = over.past }))
      refuses.full;
  steps = record { only = refuses.steps.only; draws = refuses.steps.draws };
  alone = ends_after_reads (drawing (row_cost (length keys))) true loads old new refuses.alone;
}
