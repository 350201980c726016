-- How a turn ends, from the key's bucket and row being found: it is answered by reading or by its exchange, is lost, or is Full.
use Rattle.std.proofs.Common.{◌≡◌, ◌≢◌, ℕ, ◌+◌, ◌-◌, ◌^◌, ◌≤◌, ◌<◌, Bool, true, false, not, ◌&&◌, ◌||◌, nat_eq, List, [], ◌∷◌, ◌++◌, length, drop, Option, Some, None, inl, inr, ⊎_elim, refl, sym, ap, ◌∙◌, subst, add-zero, zero-add, arith}
use base.Growing.{prefix_refl, prefix_trans}
use Rattle.std.proofs.lemmas.Bool.Decides.{nat_tests}
use Rattle.std.specs.List.Sorted.{IsStrictlyIncreasing}
use Rattle.set_model.specs.Call.{answer_where, members_after_call}
use Rattle.set_model.specs.History.{members_after}
use Rattle.set_model.specs.Keys.{is_in}
use Rattle.set_model.specs.declared.call.Call.{Call}
use Rattle.set_model.specs.declared.call.Call.TheVariants.{Insert, Remove, Contains}
use Rattle.set_model.specs.declared.entry.Entry.{Entry}
use Rattle.step_core.specs.Buckets.{key_bucket}
use Rattle.step_core.specs.Content.{InClass}
use Rattle.step_core.specs.Format.{row_address}
use Rattle.step_core.specs.Rising.{ChangesKeys, change_of, keys_after_call}
use Rattle.step_core.specs.declared.format.TheConstants.{FIRST_KEY}
use Rattle.step_core.specs.declared.published.Published.TheVariants.{Row}
use Rattle.step_core.specs.declared.published.RowBlock.{RowBlock}
use Rattle.step_core.specs.declared.views.PassView.{PassView}
use Rattle.step_core.specs.declared.views.RoundFacts.{RoundFacts}
use Rattle.step_core.specs.declared.views.StepCounts.{StepCounts}
use Rattle.step_core.proofs.lists.Calls.{IsStrictlyIncreasing-after_call, is_in-after_call}
use Rattle.step_core.proofs.lists.Change.{change_of-after_call}
use Rattle.step_core.proofs.lists.Places.{length-with_key, length-without_key}
use Rattle.cells.specs.Exchanges.{MaySwapRow, SwapsRow, LosesSwap, content_keys, entry_by, hand_keys, named_row, swap_change, swap_entry, swapped_row}
use Rattle.cells.specs.Frames.{after_reads}
use Rattle.cells.specs.Known.{known_block, row_at, keys_at, KnowsRow}
use Rattle.cells.specs.Sound.{IsSound}
use Rattle.cells.specs.Tokens.{BlockValue}
use Rattle.cells.proofs.laws.AfterSwaps.{row_fits, won_front, won_mine}
use Rattle.cells.proofs.laws.Known.{knows_first}
use Rattle.cells.proofs.laws.Swaps.{content_keys-plain}
use Rattle.fset.specs.Standing.{Enters, entry_for}
use Rattle.fset.specs.Content.{front_has, seen_content}
use Rattle.fset.specs.Frames.{AreKeysOf, Grows, KeepsOwn, Spends, filling_cost, row_cost, turns_cost}
use Rattle.fset.specs.Rows.{Builds, Overdrew, RefusesRow, WasSpent}
use Rattle.fset.specs.Seen.{IsSeen}
use Rattle.fset.specs.Seeking.{DrawsToFill, FindsFrozen, FindsNil, IsUnderWay, OnlyForFills, Seeks}
use Rattle.fset.specs.Turns.{AnswersTurn, DrawsOneRow, LosesTurn, RefusesTurn, WouldChange, leaves_key, most_keys}
use Rattle.fset.specs.declared.seeking.Sought.{Sought}
use Rattle.fset.proofs.laws.Frames.{IsLonger, behind_self, draws_grow, draws_own, grows_then, keys_of-row, latest-there, longer, own_then, reads_grow, reads_own, spends_before, spends_lost, spends_more}
use Rattle.fset.proofs.laws.Built.{row_room}
use Rattle.fset.proofs.laws.Reading.{seen_content-plain}
use Rattle.fset.proofs.laws.Sought.{under_way_then}

-- a test that denies another
not_true : (b : Bool) → not b ≡ true → b ≡ false
not_true true is = absurd (cc)
not_true false is = refl

not_false : (b : Bool) → not b ≡ false → b ≡ true
not_false true is = refl
not_false false is = absurd (cc)

-- An insert or a remove that has an answer of true changes the keys.
pub changes_keys : (call : Call) (key : ℕ) (keys : List ℕ) (taken : Bool) → call ≢ Contains → taken ≡ is_in keys key
    → answer_where call taken ≡ true → ChangesKeys call key keys
changes_keys Insert key keys taken writes is answer = sym is ∙ not_true taken answer
changes_keys Remove key keys taken writes is answer = sym is ∙ answer
changes_keys Contains key keys taken writes is answer = absurd (writes refl)

-- One that has an answer of false leaves its key as it is.
stays_as : (call : Call) (key : ℕ) (taken : Bool) → call ≢ Contains → answer_where call taken ≡ false → taken ≡ leaves_key call
stays_as Insert key taken writes answer = not_false taken answer
stays_as Remove key taken writes answer = answer
stays_as Contains key taken writes answer = absurd (writes refl)

-- A change leaves its key in the keys where it inserts it,
is_left : (call : Call) (key : ℕ) (keys : List ℕ) → IsStrictlyIncreasing keys → ChangesKeys call key keys
    → is_in (keys_after_call call key keys) key ≡ leaves_key call
unfolding members_after_call
is_left Insert key keys rising changes =
    is_in-after_call Insert key keys key rising ∙ ap (λ (b : Bool). b || is_in keys key) (let self : nat_eq key key ≡ true = grind (arith, nat_tests) in self)
is_left Remove key keys rising changes =
    is_in-after_call Remove key keys key rising
    ∙ ap (λ (b : Bool). not b && is_in keys key) (let self : nat_eq key key ≡ true = grind (arith, nat_tests) in self)
is_left Contains key keys rising changes = absurd changes

-- and the keys are at most one more then.
at_most_one_more : (call : Call) (key : ℕ) (keys : List ℕ) → IsStrictlyIncreasing keys → ChangesKeys call key keys
    → length (keys_after_call call key keys) ≤ length keys + 1
at_most_one_more Insert key keys rising changes = omega (arith, length-with_key key keys changes)
at_most_one_more Remove key keys rising changes = omega (arith, length-without_key key keys rising changes)
at_most_one_more Contains key keys rising changes = absurd changes

-- No known row without an operation is wider than a row may be.
width_bound : (view : PassView) (at : ℕ) (row : RowBlock) (width : ℕ) → IsSound view → KnowsRow view at row → width ≡ length row.keys
    → width ≤ most_keys view
width_bound view at row width sound known is = omega (arith, is, row_fits view at row sound known)

-- What an exchange leaves: lost, a turn more is lost,
lost_grows : (view new : PassView) → LosesSwap view new → Grows [] 0 1 view new
lost_grows view new lost = subst (Grows [] 0 1 view) (sym lost.view_is) (record {
  number = refl;
  facts = refl;
  front = prefix_refl view.front;
  known = refl;
  fixed = behind_self view.fixed;
  asked = behind_self view.asked;
  drawn = sym (add-zero view.drawn);
  lost = refl;
})

-- and won, the row is known.
won_grown : (serial old at : ℕ) (view new : PassView) → SwapsRow serial old at view new
    → Grows (known_block at (Row (swapped_row view old at)) ∷ []) 0 0 view new
won_grown serial old at view new won =
    subst (Grows (known_block at (Row (swapped_row view old at)) ∷ []) 0 0 view) (sym won.view_is) (record {
      number = refl;
      facts = refl;
      front = prefix_trans view.front won.history (won.history ++ swap_entry view serial old at ∷ []) won.grows
          (swap_entry view serial old at ∷ [], refl);
      known = refl;
      fixed = behind_self view.fixed;
      asked = behind_self view.asked;
      drawn = sym (add-zero view.drawn);
      lost = sym (add-zero view.lost);
    })

-- what filling a bucket costs fits into a turn
row_in_turn : (width : ℕ) → row_cost width ≤ turns_cost 1 width
row_in_turn width = omega arith

-- where no bucket was filled, none was frozen
none_frozen : (old new : PassView) → OnlyForFills old.made new.made → new.made.fills ≡ old.made.fills → new.made.freezes ≤ old.made.freezes
none_frozen old new fills same = let freezes = fills.freezes in omega (arith, freezes, same)

-- A turn is lost where its bucket was frozen: so it has other passes in its round,
pub frozen_turn : (call : Call) (key : ℕ) (old new : PassView) → FindsFrozen old new → IsSound new → LosesTurn call key old new
frozen_turn call key old new frozen sound = record {
  spends = spends_more row_cost (turns_cost 1) 1 old new row_in_turn frozen.spends;
  own = frozen.own;
  cause = inr frozen;
  unspent = frozen.unspent;
  unfilled = λ same. (
    let none = (frozen.unfilled same).0 in omega (arith, none),
    none_frozen old new frozen.for_fills same,
  );
  closed = frozen.closed;
  spent = frozen.spent;
  others = λ alone.
      let none = sound.lone (ap (λ (facts : RoundFacts). facts.seats) frozen.spends.grows.facts ∙ alone) in
      absurd (omega (arith, none, frozen.spends.grows.lost));
}

-- and Full where no block to fill it with was to be had.
pub nil_turn : (call : Call) (key : ℕ) (old new : PassView) → FindsNil key old new → RefusesTurn call key old new
nil_turn call key old new nil = record {
  spends = spends_more filling_cost (turns_cost 1) 0 old new (λ width. omega arith) nil.spends;
  own = nil.own;
  needed = inr nil;
  before = 0;
  last = nil.spends.words;
  words = sym (zero-add nil.spends.words);
  full = ⊎_elim
      (λ (was : WasSpent nil.spends.words old new). inl was)
      (λ (over : Overdrew nil.spends.words old new). inr (record {
        at = over.at;
        spent = over.spent;
        behind = let behind = over.behind in omega (arith, behind);
        past = over.past;
      }))
      nil.full;
}

module _ (key : ℕ) (call : Call) (v0 v1 v2 : PassView) (sought : Sought) (seeks : Seeks key v0 sought v1) (loads : ℕ)
    (same : v2 ≡ after_reads loads v1) (sound : IsSound v2) (taken : Bool) (found : taken ≡ is_in (keys_at v1 sought.row.at) key)
    (writes : call ≢ Contains) where
  abbrev at : ℕ
  at = sought.row.at

  abbrev keys : List ℕ
  keys = keys_at v2 at

  -- looking for the key leaves the turn under way
  abbrev way : IsUnderWay key row_cost v0 sought v2
  way =
      let spent = seeks.under_way.spends in
      under_way_then key row_cost row_cost 0 v0 sought v1 v2 sound seeks.under_way (subst (Grows [] 0 0 v1) (sym same) (reads_grow loads v1))
      (subst (KeepsOwn v1) (sym same) (reads_own loads v1)) (ap (λ (view : PassView). view.turn) same) spent.wide spent.keys
      (omega (arith, spent.bound))

  abbrev spends : Spends row_cost 0 v0 v2
  spends = way.spends

  -- so far no row has an operation
  plain : (row_at v2.known at).op ≡ 0
  plain = sound.no_op at (row_at v2.known at) way.seen.known

  rising : IsStrictlyIncreasing keys
  rising = (sound.rows at (row_at v2.known at) way.seen.known).rising

  -- The row is as it was read,
  pub is_seen_still : IsSeen v2 sought.row
  is_seen_still = way.seen

  -- and has fewer keys than the arena has words.
  pub row_small : sought.row.count < 2 ^ 32
  row_small = let room = row_room v2 sought.row sound way.seen in omega (arith, room)

  is : taken ≡ is_in keys key
  is = found ∙ sym (ap (λ (view : PassView). is_in (keys_at view at) key) same)

  -- the row is among those that the turn learned
  keys_read : AreKeysOf spends.learned keys
  keys_read =
      let there = latest-there spends.learned way.row way.latest in
      subst (AreKeysOf spends.learned) (sym (ap (λ (row : RowBlock). row.keys) way.is_row))
      (keys_of-row spends.learned there.0 way.row there.1 (subst (λ (row : RowBlock). IsStrictlyIncreasing row.keys) way.is_row rising))

  -- the wider of it and of the row that filled the bucket
  abbrev wider : (wide : List ℕ) × IsLonger spends.wide keys wide
  wider = longer spends.wide keys

  wider_read : AreKeysOf spends.learned wider.0
  wider_read = ⊎_elim
      (λ (is : wider.0 ≡ spends.wide). subst (AreKeysOf spends.learned) (sym is) spends.keys)
      (λ (is : wider.0 ≡ keys). subst (AreKeysOf spends.learned) (sym is) keys_read)
      wider.1.which

  -- where no bucket was filled nothing was drawn
  unfilled : DrawsToFill spends.words v0 v2
  unfilled fills =
      let none = seeks.unfilled (sym (ap (λ (view : PassView). view.made.fills) same) ∙ fills) in
      (omega (arith, none.0), ap (λ (view : PassView). view.hands) same ∙ none.1)

  -- nor was one frozen
  unfrozen : v2.made.fills ≡ v0.made.fills → v2.made.freezes ≤ v0.made.freezes
  unfrozen fills =
      let none = none_frozen v0 v1 seeks.for_fills (sym (ap (λ (view : PassView). view.made.fills) same) ∙ fills) in
      omega (arith, none, ap (λ (view : PassView). view.made.freezes) same)

  -- the row agrees with the set after the front
  content : is_in keys key ≡ front_has v2 key
  content =
      sym (seen_content-plain v2 sought.row key (way.seen.op ∙ plain))
      ∙ subst (λ (view : PassView). seen_content view sought.row key ≡ front_has view key) (sym same) seeks.agrees

  -- the pass is spent as before
  spent_same : v2.spent ≡ v0.spent
  spent_same = ap (λ (view : PassView). view.spent) same ∙ seeks.spent

  -- A turn is answered by reading where the call wouldn't change the content.
  pub answered_by_reading : (serial : ℕ) → answer_where call taken ≡ false
      → AnswersTurn serial call key (record { changed = false; width = sought.row.count }) v0 v2
  answered_by_reading serial answer =
      let is_keys : content_keys v2 way.row ≡ keys =
      content_keys-plain v2 way.row (sym (ap (λ (row : RowBlock). row.op) way.is_row) ∙ plain) ∙ sym (ap (λ (row : RowBlock). row.keys) way.is_row) in
      record {
        spends = spends_more row_cost (turns_cost 1) 0 v0 v2 row_in_turn spends;
        unfilled = λ fills. (let none = (unfilled fills).0 in omega (arith, none), unfrozen fills);
        closed = λ changed. absurd (cc);
        reads = λ unchanged. (spends.bound, unfilled);
        spent = spent_same;
        stands = record { own = way.own; answer_is = sym answer ∙ ap (answer_where call) (is ∙ content) };
        width = record {
          row = way.row;
          latest = way.latest;
          home = way.home;
          counts = way.seen.count ∙ sym (ap length is_keys);
          after = ap (λ (list : List ℕ). is_in list key) is_keys ∙ sym is ∙ stays_as call key taken writes answer;
          bound = width_bound v2 at (row_at v2.known at) sought.row.count sound way.seen.known way.seen.count;
        };
      }

  module _ (answer : answer_where call taken ≡ true) where
    -- Else the call changes the keys.
    pub changes : ChangesKeys call key keys
    changes = changes_keys call key keys taken writes is answer

    abbrev changed : List ℕ
    changed = keys_after_call call key keys

    -- while the front stays, the call would change the set after it
    still_wanted : (view : PassView) → view.facts ≡ v2.facts → view.front ≡ v2.front → WouldChange call key view
    still_wanted view facts front =
        ap (answer_where call) ((λ i. members_after (is_in (facts i).keys) (front i) key) ∙ sym content ∙ sym is) ∙ answer

    -- what filling its bucket and its row cost
    cost_fits : (words : ℕ) → words ≤ row_cost (length changed) → spends.words + words ≤ turns_cost 1 (length wider.0)
    cost_fits words bound =
        omega (arith, bound, spends.bound, wider.1.first, wider.1.second, at_most_one_more call key keys rising changes)

    -- It is Full where the row was refused a block.
    pub full_turn : (v3 : PassView) → RefusesRow changed v2 v3 → RefusesTurn call key v0 v3
    full_turn v3 refuses = record {
      spends = record {
        learned = spends.learned;
        words = spends.words + refuses.words;
        grows = grows_then spends.learned [] spends.words refuses.words 0 0 v0 v2 v3 spends.grows
            (draws_grow refuses.words v2 v3 refuses.only refuses.drawn);
        wide = wider.0;
        keys = wider_read;
        bound = cost_fits refuses.words refuses.bound;
      };
      own = own_then v0 v2 v3 way.own (draws_own v2 v3 refuses.only);
      needed = inl (still_wanted v3 (ap (λ (view : PassView). view.facts) refuses.only) (ap (λ (view : PassView). view.front) refuses.only));
      before = spends.words;
      last = refuses.words;
      words = refl;
      full = ⊎_elim
          (λ (was : WasSpent refuses.words v2 v3). inl (record {
            before = subst (λ (spent : Option ℕ). spent ≢ None) spent_same was.before;
            still = was.still ∙ spent_same;
            none = ⊎_elim
                (λ (unspent : v0.spent ≡ None). absurd (was.before (spent_same ∙ unspent)))
                (λ (none : seeks.under_way.spends.words ≡ 0). let all : spends.words + refuses.words ≡ 0 = omega (arith, none, was.none) in all)
                seeks.unspent;
          }))
          (λ (over : Overdrew refuses.words v2 v3). inr (record {
            at = over.at;
            spent = over.spent;
            behind = subst (λ (z : RoundFacts × ℕ). z.0.opened + z.1 ≤ over.at)
                (λ i. (spends.grows.facts i, spends.grows.drawn i)) over.behind;
            past = subst (λ (facts : RoundFacts). facts.cap < over.at + refuses.words) spends.grows.facts over.past;
          }))
          refuses.full;
    }

    module _ (block : BlockValue) (v3 : PassView) (builds : Builds changed block v2 v3) (sound3 : IsSound v3) where
      -- The new row has no more than one key more.
      pub changed_small : block.len - FIRST_KEY < 2 ^ 32
      changed_small = let room = row_room v2 sought.row sound way.seen in
          omega (arith, room, way.seen.count, builds.long, at_most_one_more call key keys rising changes)

      abbrev built : IsUnderWay key (turns_cost 1) v0 sought v3
      built = under_way_then key row_cost (turns_cost 1) builds.words v0 sought v2 v3 sound3 way
          (draws_grow builds.words v2 v3 builds.only builds.drawn) (draws_own v2 v3 builds.only)
          (ap (λ (view : PassView). view.turn) builds.only) wider.0 wider_read (cost_fits builds.words builds.bound)

      -- where no bucket was filled, it drew its row alone
      plain_turn : (words : ℕ) (v4 : PassView) → words ≡ built.spends.words → v4.made.fills ≡ v3.made.fills → v4.made.freezes ≡ v3.made.freezes
          → DrawsOneRow words (length built.spends.wide) v0 v4
      plain_turn words v4 is same_fills same_freezes fills =
          let before : v2.made.fills ≡ v0.made.fills =
          sym (ap (λ (made : StepCounts). made.fills) builds.steps.only) ∙ sym same_fills ∙ fills in
          let none = (unfilled before).0 in
          let frozen = unfrozen before in (
            omega (arith, is, none, builds.bound, wider.1.second, at_most_one_more call key keys rising changes),
            omega (arith, frozen, same_freezes, ap (λ (made : StepCounts). made.freezes) builds.steps.only),
          )

      -- the row that the word names is the one that was read
      named : named_row v3 sought.word ≡ row_at v2.known at
      named = ap (row_at v3.known) (sym built.address)
          ∙ ap (λ (view : PassView). row_at view.known at) builds.only

      named_known : KnowsRow v3 (row_address sought.word) (named_row v3 sought.word)
      named_known = subst (λ (from : ℕ). KnowsRow v3 from (row_at v3.known from)) built.address built.seen.known

      in_hand : hand_keys v3 block.at ≡ changed
      in_hand = ap (drop FIRST_KEY) builds.built

      -- Its exchange makes the call's change,
      pub is_change : swap_change v3 sought.word block.at ≡ Some (record { call = call; key = key })
      is_change =
          (λ i. change_of ((content_keys-plain v3 (named_row v3 sought.word) (ap (λ (row : RowBlock). row.op) named ∙ plain)
          ∙ ap (λ (row : RowBlock). row.keys) named) i) (in_hand i))
          ∙ change_of-after_call call key keys rising changes

      -- and may be made.
      pub may_exchange : v0.flight ≡ None → MaySwapRow v3 sought.place sought.word block.at
      may_exchange idle = record {
        turn = built.loaded.turn;
        is_turn = built.loaded.is_turn;
        bucket = key_bucket built.loaded.generation.exponent key;
        generation = built.loaded.generation;
        is_word = built.loaded.is_word;
        loaded = built.loaded.loaded;
        some_row = built.loaded.some_row;
        mutable = built.loaded.mutable;
        known = named_known;
        settled = inl (ap (λ (row : RowBlock). row.op) named ∙ plain);
        keys = changed;
        built = builds.built;
        rising = IsStrictlyIncreasing-after_call call key keys rising;
        change = record { call = call; key = key };
        is_change = is_change;
        class = refl;
        no_flight = built.own.flight ∙ idle;
      }

      -- It is lost with that.
      pub lost_turn : (v4 : PassView) → LosesSwap v3 v4 → LosesTurn call key v0 v4
      lost_turn v4 lost =
          let unspent : v0.spent ≡ None = sym spent_same ∙ builds.unspent in
          record {
            spends = spends_lost (turns_cost 1) 1 [] v0 v3 v4 built.spends (lost_grows v3 v4 lost);
            own = own_then v0 v3 v4 built.own (record {
              mine = ap (λ (view : PassView). view.mine) lost.view_is;
              flight = ap (λ (view : PassView). view.flight) lost.view_is;
              used = ap (λ (view : PassView). view.used) lost.view_is;
            });
            cause = inl (record {
              wanted = still_wanted v4
                  (ap (λ (view : PassView). view.facts) lost.view_is ∙ ap (λ (view : PassView). view.facts) builds.only)
                  (ap (λ (view : PassView). view.front) lost.view_is ∙ ap (λ (view : PassView). view.front) builds.only);
              exchanged = ap (λ (view : PassView). view.made.row_swaps) lost.view_is
                  ∙ ap (λ (count : ℕ). count + 1) (ap (λ (made : StepCounts). made.row_swaps) builds.steps.only
                  ∙ ap (λ (view : PassView). view.made.row_swaps) same ∙ ap (λ (made : StepCounts). made.row_swaps) seeks.steps.only);
              unspent = unspent;
            });
            unspent = inl unspent;
            unfilled = plain_turn built.spends.words v4 refl (ap (λ (view : PassView). view.made.fills) lost.view_is)
                (ap (λ (view : PassView). view.made.freezes) lost.view_is);
            closed = ap (λ (view : PassView). view.turn) lost.view_is;
            spent = ap (λ (view : PassView). view.spent) lost.view_is ∙ builds.spent ∙ spent_same;
            others = subst (λ (facts : RoundFacts). facts.seats ≢ 1) built.spends.grows.facts lost.others;
          }

      module _ (v4 : PassView) (serial : ℕ) (won : SwapsRow serial sought.word block.at v3 v4) where
        abbrev published : RowBlock
        published = swapped_row v3 sought.word block.at

        -- the row that it published has the changed keys
        published_keys : content_keys v4 published ≡ changed
        published_keys = in_hand

        published_known : KnowsRow v4 block.at published
        published_known = knows_first block.at (Row published) [] v3 v4 (ap (λ (view : PassView). view.known) won.view_is)

        -- the entry is that of the call
        is_entry : swap_entry v3 serial sought.word block.at ≡ entry_for v0.number serial call key true
        is_entry = (λ i. entry_by (built.spends.grows.number i) serial (is_change i))

        entered : v0.flight ≡ None → Enters (entry_for v0.number serial call key true) v0 v4
        entered idle = record {
          past = record {
            past = won.history;
            rest = [];
            begins = prefix_trans v0.front v3.front won.history built.spends.grows.front won.grows;
            is_front = won_front serial sought.word block.at v3 v4 won ∙ ap (λ (entry : Entry). won.history ++ entry ∷ []) is_entry;
          };
          mine = won_mine serial sought.word block.at v3 v4 won
              ∙ (λ i. built.own.mine i ++ is_entry i ∷ []);
          landed = ap (λ (view : PassView). view.flight) won.view_is ∙ built.own.flight ∙ idle;
        }

        -- It is answered where that is won.
        pub answered_by_exchange : (width : ℕ) → IsSound v4 → v0.flight ≡ None → width ≡ length changed
            → AnswersTurn serial call key (record { changed = true; width = width }) v0 v4
        answered_by_exchange width sound4 idle is = record {
          spends = spends_before (turns_cost 1) 0 (known_block block.at (Row published) ∷ []) v0 v3 v4 built.spends
              (won_grown serial sought.word block.at v3 v4 won);
          stands = entered idle;
          unfilled = plain_turn built.spends.words v4 refl (ap (λ (view : PassView). view.made.fills) won.view_is)
              (ap (λ (view : PassView). view.made.freezes) won.view_is);
          closed = λ changed. ap (λ (view : PassView). view.turn) won.view_is;
          reads = λ unchanged. absurd (cc);
          spent = ap (λ (view : PassView). view.spent) won.view_is ∙ builds.spent ∙ spent_same;
          width = record {
            row = published;
            latest = refl;
            home = subst (λ (row : RowBlock). InClass row.exponent row.bucket key) (sym (named ∙ way.is_row)) way.home;
            counts = is ∙ sym (ap length published_keys);
            after = ap (λ (list : List ℕ). is_in list key) published_keys ∙ is_left call key keys rising changes;
            bound = width_bound v4 block.at published width sound4 published_known (is ∙ sym (ap length in_hand));
          };
        }
