-- When a row may fill a bucket, and what building one leaves once the bucket's sources are closed.
use Rattle.std.proofs.Common.{◌≡◌, ℕ, ◌+◌, ◌^◌, ◌<◌, ◌≤◌, ◌⊎◌, List, [], ◌++◌, All, inl, inr, ⊎_elim, refl, sym, ap, ◌∙◌, subst, arith}
use Rattle.std.specs.List.Sorted.{IsStrictlyIncreasing}
use Rattle.set_model.specs.Keys.{is_in}
use Rattle.arena.specs.Hands.{words_at}
use Rattle.step_core.specs.Content.{bucket_of, spot_of, InClass}
use Rattle.step_core.specs.Format.{row_words}
use Rattle.step_core.specs.Limits.{max_exponent}
use Rattle.step_core.specs.declared.format.TheConstants.{FIRST_BUCKET}
use Rattle.step_core.specs.declared.published.Published.TheVariants.{Generation}
use Rattle.step_core.specs.declared.views.Known.{Known}
use Rattle.step_core.specs.declared.views.PassView.{PassView}
use Rattle.step_core.specs.declared.views.RoundFacts.{RoundFacts}
use Rattle.step_core.specs.declared.views.StepCounts.{StepCounts}
use Rattle.cells.specs.Exchanges.{content_keys}
use Rattle.cells.specs.Filling.{KnowsClosed, MayFill, source_row}
use Rattle.cells.specs.Frames.{OnlyDraws}
use Rattle.cells.specs.Known.{IsBucketWord, KnowsGeneration}
use Rattle.cells.specs.Sound.{IsSound}
use Rattle.cells.specs.Tokens.{BlockValue}
use Rattle.cells.proofs.laws.Known.{bucket_word_stays, knows_more}
use Rattle.fset.specs.Ensuring.{IsFilling, IsSource, KeepsNotes, OnlyCloses, OnlyFillSteps, OnlyFills}
use Rattle.fset.specs.Frames.{Grows, KeepsOwn}
use Rattle.fset.specs.Rows.{IsOutOfWords, OnlyBuilds, Overdrew, WasSpent}
use Rattle.fset.specs.declared.ensuring.Filling.{Filling}
use Rattle.fset.proofs.laws.Closing.{closes_own}
use Rattle.fset.proofs.laws.Frames.{behind_then, draws_grow, draws_own, grows_then, own_then}

-- Steps that fill, and then further ones, are steps that fill.
pub fill_steps_then : (before between after : StepCounts) → OnlyFillSteps before between → OnlyFillSteps between after
    → OnlyFillSteps before after
fill_steps_then before between after one two = two
    ∙ ap (λ (made : StepCounts). record made {
      sealed_loads = after.sealed_loads;
      draws = after.draws;
      writes = after.writes;
      fills = after.fills;
      freezes = after.freezes;
    }) one

-- So are those of building a row.
builds_steps : (writes : ℕ) (before after : StepCounts) → OnlyBuilds writes before after → OnlyFillSteps before after
builds_steps writes before after builds = builds.only
    ∙ (λ i. record before {
      sealed_loads = after.sealed_loads;
      draws = after.draws;
      writes = sym (ap (λ (made : StepCounts). made.writes) builds.only) i;
      fills = sym (ap (λ (made : StepCounts). made.fills) builds.only) i;
      freezes = sym (ap (λ (made : StepCounts). made.freezes) builds.only) i;
    })

module _ (v0 v1 v2 : PassView) (learned : List Known) (closed : Grows learned 0 0 v0 v1) (only : OnlyCloses v0 v1) where
  -- what is left where a block was to be had: the steps,
  pub built_steps : (writes : ℕ) → OnlyFillSteps v0.made v1.made → v1.made.freezes ≤ v0.made.freezes + 2 → v1.made.draws ≡ v0.made.draws
      → v1.made.fills ≡ v0.made.fills → OnlyBuilds writes v1.made v2.made → OnlyFills v0.made v2.made
  built_steps writes steps few no_draw no_fill builds = record {
    only = fill_steps_then v0.made v1.made v2.made steps (builds_steps writes v1.made v2.made builds);
    draws = omega (arith, no_draw, builds.draws);
    no_fewer = omega (arith, no_fill, ap (λ (made : StepCounts). made.fills) builds.only);
    fills = omega (arith, no_fill, ap (λ (made : StepCounts). made.fills) builds.only);
    freezes = omega (arith, few, ap (λ (made : StepCounts). made.freezes) builds.only);
  }

  module _ (draws : OnlyDraws v1 v2) where
    -- the words drawn,
    pub built_grown : (words : ℕ) → v2.drawn ≡ v1.drawn + words → Grows learned words 0 v0 v2
    built_grown words drawn = subst (λ (sum : ℕ). Grows learned sum 0 v0 v2) (let sum : 0 + words ≡ words = omega arith in sum)
        (grows_then learned [] 0 words 0 0 v0 v1 v2 closed (draws_grow words v1 v2 draws drawn))

    -- the pass's own,
    pub built_own : KeepsOwn v0 v2
    built_own = own_then v0 v1 v2 (closes_own v0 v1 only) (draws_own v1 v2 draws)

    -- the open turn,
    pub built_turn : v2.turn ≡ v0.turn
    built_turn = ap (λ (view : PassView). view.turn) draws ∙ ap (λ (view : PassView). view.turn) only

    -- and what was noted of heads and buckets
    pub built_notes : KeepsNotes v0 v2
    built_notes = record {
      heads = ap (λ (view : PassView). view.heads) draws ∙ ap (λ (view : PassView). view.heads) only;
      nils = ap (λ (view : PassView). view.nils) draws ∙ ap (λ (view : PassView). view.nils) only;
      filled = ([], ap (λ (view : PassView). view.filled) draws ∙ ap (λ (view : PassView). view.filled) only);
    }

-- What was noted stays also over two parts of a call.
pub notes_then : (old between new : PassView) → KeepsNotes old between → KeepsNotes between new → KeepsNotes old new
notes_then old between new one two = record {
  heads = two.heads ∙ one.heads;
  nils = two.nils ∙ one.nils;
  filled = behind_then old.filled between.filled new.filled one.filled two.filled;
}

-- Where a block was refused, it was so from before what drew nothing.
pub refused_from : (words : ℕ) (learned : List Known) (losses : ℕ) (old between new : PassView) → Grows learned 0 losses old between
    → between.spent ≡ old.spent → IsOutOfWords words between new → IsOutOfWords words old new
refused_from words learned losses old between new grows spent = ⊎_elim
    (λ (was : WasSpent words between new).
    let refused : IsOutOfWords words old new = inl (record {
      before = λ unspent. was.before (spent ∙ unspent);
      still = was.still ∙ spent;
      none = was.none;
    }) in refused)
    (λ (past : Overdrew words between new).
    let refused : IsOutOfWords words old new = inr (record {
      at = past.at;
      spent = past.spent;
      behind = let behind = past.behind in omega (arith, behind, ap (λ (facts : RoundFacts). facts.opened) grows.facts, grows.drawn);
      past = let end = past.past in omega (arith, end, ap (λ (facts : RoundFacts). facts.cap) grows.facts);
    }) in refused)

module _ (filling : Filling) (v0 : PassView) (f : IsFilling v0 filling) (sound : IsSound v0) where
  abbrev place : ℕ
  place = filling.head + FIRST_BUCKET + filling.bucket

  -- Both exponents are at most 24,
  pub exponents_small : (filling.exponent ≤ max_exponent) × (filling.before ≤ max_exponent)
  exponents_small = (
    let small = sound.generations filling.head f.generation f.is_word.known in omega (arith, small, f.exponent),
    let small = sound.generations filling.predecessor f.source f.before in omega (arith, small, f.of_source),
  )

  -- and the one is one more than the other.
  pub next_exponents : (filling.exponent ≡ filling.before + 1) ⊎ (filling.before ≡ filling.exponent + 1)
  next_exponents = ⊎_elim
      (λ (more : f.generation.exponent ≡ f.source.exponent + 1).
      let grown : (filling.exponent ≡ filling.before + 1) ⊎ (filling.before ≡ filling.exponent + 1) =
      inl (omega (arith, more, f.exponent, f.of_source)) in grown)
      (λ (less : f.source.exponent ≡ f.generation.exponent + 1).
      let shrunk : (filling.exponent ≡ filling.before + 1) ⊎ (filling.before ≡ filling.exponent + 1) =
      inr (omega (arith, less, f.exponent, f.of_source)) in shrunk)
      (sound.nexts filling.head f.generation f.source f.is_word.known
      (subst (λ (at : ℕ). KnowsGeneration v0 at f.source) (sym f.predecessor) f.before))

  pub more_bits : filling.before < filling.exponent → filling.exponent ≡ filling.before + 1
  more_bits more = ⊎_elim
      (λ (grown : filling.exponent ≡ filling.before + 1). grown)
      (λ (shrunk : filling.before ≡ filling.exponent + 1). absurd (omega (arith, more, shrunk)))
      next_exponents

  pub fewer_exponent : filling.exponent ≤ filling.before → filling.before ≡ filling.exponent + 1
  fewer_exponent less = ⊎_elim
      (λ (grown : filling.exponent ≡ filling.before + 1). absurd (omega (arith, less, grown)))
      (λ (shrunk : filling.before ≡ filling.exponent + 1). shrunk)
      next_exponents

  -- a bucket of the generation before
  pub source_word : (learned : List Known) (now : PassView) → now.known ≡ learned ++ v0.known → (bucket : ℕ) → bucket < 2 ^ filling.before
      → IsBucketWord now (filling.predecessor + FIRST_BUCKET + bucket) filling.predecessor bucket f.source
  source_word learned now more bucket within = record {
    known = knows_more learned v0 now more filling.predecessor (Generation f.source) f.before;
    within = omega (arith, within, ap (λ (e : ℕ). 2 ^ e) f.of_source);
    here = refl;
  }

  -- It may be frozen, also later.
  pub is_source : (learned : List Known) (now : PassView) → now.known ≡ learned ++ v0.known → (bucket : ℕ) → bucket < 2 ^ filling.before
      → IsSource now filling.predecessor bucket
  is_source learned now more bucket within = record {
    generation = f.source;
    is_word = source_word learned now more bucket within;
    later = filling.head;
    newer = f.generation;
    known = knows_more learned v0 now more filling.head (Generation f.generation) f.is_word.known;
    follows = f.predecessor;
  }

  -- the bucket is one of its generation
  pub filling_within : filling.bucket < 2 ^ filling.exponent
  filling_within = omega (arith, f.is_word.within, ap (λ (e : ℕ). 2 ^ e) f.exponent)

  -- A row of these keys may fill the bucket,
  module _ (v3 : PassView) (block : BlockValue) (learned : List Known) (more : v3.known ≡ learned ++ v0.known)
      (closed : (spot : ℕ) → bucket_of filling.exponent spot ≡ filling.bucket
      → KnowsClosed v3 filling.predecessor (bucket_of filling.before spot)) (keys : List ℕ)
      (built : words_at v3.hands block.at ≡ row_words keys) (rising : IsStrictlyIncreasing keys)
      (class : All (InClass filling.exponent filling.bucket) keys)
      (content : (key : ℕ) → InClass filling.exponent filling.bucket key → is_in keys key
      ≡ is_in (content_keys v3 (source_row v3 filling.predecessor (bucket_of filling.before (spot_of key)))) key) where
    pub may_fill : MayFill v3 place block.at
    may_fill = record {
      head = filling.head;
      bucket = filling.bucket;
      generation = f.generation;
      is_word = bucket_word_stays learned v0 v3 more place filling.head filling.bucket f.generation f.is_word;
      source = f.source;
      before = subst (λ (at : ℕ). KnowsGeneration v3 at f.source) (sym f.predecessor)
          (knows_more learned v0 v3 more filling.predecessor (Generation f.source) f.before);
      closed = λ spot is. subst (λ (z : ℕ × ℕ). KnowsClosed v3 z.0 (bucket_of z.1 spot))
          (λ i. (sym f.predecessor i, f.of_source i)) (closed spot (ap (λ (e : ℕ). bucket_of e spot) f.exponent ∙ is));
      keys = keys;
      built = built;
      rising = rising;
      class = subst (λ (e : ℕ). All (InClass e filling.bucket) keys) f.exponent class;
      content = λ key of. content key (ap (λ (e : ℕ). bucket_of e (spot_of key)) f.exponent ∙ of)
          ∙ (λ i. is_in (content_keys v3 (source_row v3 (sym f.predecessor i) (bucket_of (f.of_source i) (spot_of key)))) key);
    }
