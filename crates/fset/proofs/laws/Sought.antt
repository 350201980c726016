-- A key's bucket that was loaded, and then its row read, is sought; and a turn that loaded it goes on while it is open.
use Rattle.std.proofs.Common.{◌≡◌, ℕ, ◌+◌, ◌≤◌, List, [], ◌++◌, length, sym, ap, ◌∙◌, subst, add-zero, arith}
use Rattle.set_model.specs.Keys.{is_in}
use Rattle.step_core.specs.Buckets.{key_bucket}
use Rattle.step_core.specs.Format.{IsFrozen, IsMutable, row_address}
use Rattle.step_core.specs.declared.views.Known.{Known}
use Rattle.step_core.specs.declared.views.PassView.{PassView}
use Rattle.step_core.specs.declared.views.StepCounts.{StepCounts}
use Rattle.cells.specs.Known.{row_at, KnowsRow}
use Rattle.cells.specs.Sound.{IsSound}
use Rattle.cells.proofs.laws.Known.{bucket_word_stays}
use Rattle.fset.specs.Content.{seen_content, front_has}
use Rattle.fset.specs.Frames.{AreKeysOf, Grows, KeepsOwn, row_cost}
use Rattle.fset.specs.Seeking.{AreOneSeek, FindsFrozen, GoesOn, HasKeyBucket, IsUnderWay, LoadsKeyBucket, Seeks}
use Rattle.fset.specs.Seen.{KnowsRowAt, ReadsRow}
use Rattle.fset.specs.declared.seeking.LoadedBucket.{LoadedBucket}
use Rattle.fset.specs.declared.seeking.Sought.{Sought}
use Rattle.fset.specs.declared.seen.Seen.{Seen}
use Rattle.fset.proofs.laws.Frames.{grows_then, own_then}
use Rattle.fset.proofs.laws.Reading.{seen_content-plain, seen_stays}

-- What the open turn loaded it goes on to have loaded, while more becomes known.
pub loaded_stays : (learned : List Known) (old new : PassView) (key place word : ℕ) → new.known ≡ learned ++ old.known
    → new.turn ≡ old.turn → HasKeyBucket old key place word → HasKeyBucket new key place word
loaded_stays learned old new key place word more same loaded = record {
  turn = loaded.turn;
  is_turn = same ∙ loaded.is_turn;
  generation = loaded.generation;
  is_word = bucket_word_stays learned old new more place loaded.turn.head (key_bucket loaded.generation.exponent key) loaded.generation
      loaded.is_word;
  loaded = loaded.loaded;
  some_row = loaded.some_row;
  mutable = loaded.mutable;
}

-- A turn under way goes on by what tells nothing new of blocks and leaves it open, at the cost of what was drawn for keys that it read.
abbrev pub under_way_then : (key : ℕ) (cost more : ℕ → ℕ) (words : ℕ) (old : PassView) (sought : Sought) (between new : PassView) → IsSound new
    → (way : IsUnderWay key cost old sought between) → Grows [] words 0 between new → KeepsOwn between new → new.turn ≡ between.turn
    → (wide : List ℕ) → AreKeysOf way.spends.learned wide → way.spends.words + words ≤ more (length wide)
    → IsUnderWay key more old sought new
under_way_then key cost more words old sought between new sound way grows own same wide of bound =
    let stays = seen_stays [] grows.fixed.0 between new sought.row sound grows.known grows.fixed.1 way.seen in
    record {
      spends = record {
        learned = way.spends.learned;
        words = way.spends.words + words;
        grows = grows_then way.spends.learned [] way.spends.words words 0 0 old between new way.spends.grows grows;
        wide = wide;
        keys = of;
        bound = bound;
      };
      row = way.row;
      own = own_then old between new way.own own;
      loaded = loaded_stays [] between new key sought.place sought.word grows.known same way.loaded;
      address = way.address;
      seen = stays;
      latest = way.latest;
      is_row = ap (λ (known : List Known). row_at known sought.row.at) grows.known ∙ way.is_row;
      home = way.home;
    }

-- The key's bucket was frozen when it was loaded.
pub finds_frozen : (key : ℕ) (old : PassView) (bucket : LoadedBucket) (new : PassView) → LoadsKeyBucket key old bucket new
    → IsFrozen bucket.word → FindsFrozen old new
finds_frozen key old bucket new loads frozen =
    let lost = loads.frozen frozen in
    record {
      spends = record {
        learned = loads.spends.learned;
        words = loads.spends.words;
        grows = subst (λ (losses : ℕ). Grows loads.spends.learned loads.spends.words losses old new) lost.0 loads.spends.grows;
        wide = loads.spends.wide;
        keys = loads.spends.keys;
        bound = loads.spends.bound;
      };
      own = loads.own;
      closed = lost.1;
      unspent = loads.unspent;
      unfilled = loads.unfilled;
      for_fills = loads.for_fills;
      spent = loads.spent;
      steps = loads.steps;
    }

-- Else its row may be read.
pub key_row_known : (key : ℕ) (old : PassView) (bucket : LoadedBucket) (new : PassView) → LoadsKeyBucket key old bucket new
    → KnowsRowAt new (row_address bucket.word)
key_row_known key old bucket new loads = subst (KnowsRow new (row_address bucket.word)) (sym loads.is_row) loads.known

module _ (key : ℕ) (v0 v1 v2 : PassView) (bucket : LoadedBucket) (seen : Seen) (loads : LoadsKeyBucket key v0 bucket v1)
    (even : IsMutable bucket.word) (reads : ReadsRow (row_address bucket.word) v1 seen v2) (sound_now : IsSound v2) where
  abbrev at : ℕ
  at = row_address bucket.word

  goes_on : GoesOn key bucket loads.losses v1
  goes_on = loads.mutable even

  -- so far it has no operation
  plain : seen.op ≡ 0
  plain = reads.agrees.op ∙ sound_now.no_op seen.at (row_at v2.known seen.at) reads.agrees.known

  -- so reading it tells nothing new
  grown : Grows [] 0 0 v1 v2
  grown = subst (λ (learned : List Known). Grows learned 0 0 v1 v2) (reads.nothing plain) reads.reads.grows

  same_row : row_at v2.known seen.at ≡ loads.row
  same_row = ap (row_at v2.known) reads.place ∙ reads.same ∙ loads.is_row

  -- the row's keys are what the set after the front has
  agrees : seen_content v2 seen key ≡ front_has v2 key
  agrees =
      seen_content-plain v2 seen key plain
      ∙ ap (λ (a : ℕ). is_in (row_at v2.known a).keys key) reads.place
      ∙ (reads.marked plain key goes_on.marked).0

  no_loss : Grows loads.spends.learned loads.spends.words 0 v0 v1
  no_loss = subst (λ (losses : ℕ). Grows loads.spends.learned loads.spends.words losses v0 v1) goes_on.none_lost loads.spends.grows

  abbrev under_way : IsUnderWay key row_cost v0 (record { place = bucket.place; word = bucket.word; row = seen }) v2
  under_way = record {
    spends = record {
      learned = loads.spends.learned;
      words = loads.spends.words;
      grows = subst (λ (sum : ℕ). Grows loads.spends.learned sum 0 v0 v2) (add-zero loads.spends.words)
          (grows_then loads.spends.learned [] loads.spends.words 0 0 0 v0 v1 v2 no_loss grown);
      wide = loads.spends.wide;
      keys = loads.spends.keys;
      bound = loads.spends.bound;
    };
    row = loads.row;
    own = own_then v0 v1 v2 loads.own (record {
      mine = ap (λ (view : PassView). view.mine) reads.reads.only;
      flight = ap (λ (view : PassView). view.flight) reads.reads.only;
      used = ap (λ (view : PassView). view.used) reads.reads.only;
    });
    loaded = loaded_stays [] v1 v2 key bucket.place bucket.word grown.known (ap (λ (view : PassView). view.turn) reads.reads.only)
        goes_on.loaded;
    address = reads.place;
    seen = reads.agrees;
    latest = loads.latest;
    is_row = same_row;
    home = loads.home;
  }

  -- reading makes two loads of sealed words more
  read_steps : AreOneSeek v0.made v2.made
  read_steps = record {
    only = subst (λ (made : StepCounts). made ≡ record v0.made {
      head_loads = v0.made.head_loads + 1;
      sealed_loads = made.sealed_loads;
      bucket_loads = made.bucket_loads;
      draws = made.draws;
      writes = made.writes;
      fills = made.fills;
      freezes = made.freezes;
    }) (sym reads.reads.made) (ap (λ (made : StepCounts). record made { sealed_loads = v1.made.sealed_loads + 2 }) loads.steps.only);
    some_bucket = omega (arith, loads.steps.some_bucket, ap (λ (made : StepCounts). made.bucket_loads) reads.reads.made);
    buckets = omega (
      arith,
      loads.steps.buckets,
      ap (λ (made : StepCounts). made.bucket_loads) reads.reads.made,
      ap (λ (made : StepCounts). made.fills) reads.reads.made,
    );
    draws = omega (arith, loads.steps.draws, ap (λ (made : StepCounts). made.draws) reads.reads.made);
    no_fewer = omega (arith, loads.steps.no_fewer, ap (λ (made : StepCounts). made.fills) reads.reads.made);
    fills = omega (arith, loads.steps.fills, ap (λ (made : StepCounts). made.fills) reads.reads.made);
    freezes = omega (arith, loads.steps.freezes, ap (λ (made : StepCounts). made.freezes) reads.reads.made);
  }

  -- The key's bucket and row are found.
  pub found_key : Seeks key v0 (record { place = bucket.place; word = bucket.word; row = seen }) v2
  found_key = record {
    under_way = under_way;
    agrees = agrees;
    unspent = loads.unspent;
    unfilled = λ same.
        let none = loads.unfilled (sym (ap (λ (made : StepCounts). made.fills) reads.reads.made) ∙ same) in
        (none.0, ap (λ (view : PassView). view.hands) reads.reads.only ∙ none.1);
    for_fills = record {
      draws = omega (
        arith,
        loads.for_fills.draws,
        ap (λ (made : StepCounts). made.draws) reads.reads.made,
        ap (λ (made : StepCounts). made.fills) reads.reads.made,
      );
      freezes = omega (
        arith,
        loads.for_fills.freezes,
        ap (λ (made : StepCounts). made.freezes) reads.reads.made,
        ap (λ (made : StepCounts). made.fills) reads.reads.made,
      );
    };
    spent = ap (λ (view : PassView). view.spent) reads.reads.only ∙ loads.spent;
    steps = read_steps;
  }
