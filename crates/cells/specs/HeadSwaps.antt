-- The exchange of the head: when it may be made, and what it tells.
use Rattle.std.specs.Prelude.{◌≡◌, ◌≢◌, ℕ, ◌+◌, ◌^◌, ◌<◌, ◌≤◌, ◌⊎◌, true, ◌∷◌, replicate, slice_index, None}
use Rattle.arena.specs.Hands.{words_at, without}
use Rattle.step_core.specs.Ledger.{resized}
use Rattle.step_core.specs.Limits.{max_exponent}
use Rattle.step_core.specs.declared.published.Published.TheVariants.{Generation}
use Rattle.step_core.specs.declared.published.GenerationBlock.{GenerationBlock}
use Rattle.step_core.specs.declared.views.PassView.{PassView}
use Rattle.cells.specs.Known.{known_block, KnowsGeneration}
use Rattle.cells.specs.Lone.{head_at, is_among, ledger_of}

-- The generation in hand at the address may become the head in place of the one at `old`: the pass
-- knows that no bucket of that is nil, and the one in hand follows it, has one bucket bit more or less,
-- and all its buckets are nil.
pub record MaySwapHead (view : PassView) (old at : ℕ) : Type 0 where
  pub generation : GenerationBlock
  pub known : KnowsGeneration view old generation
  pub filled : (bucket : ℕ) → bucket < 2 ^ generation.exponent
      → (is_among view.filled old bucket ≡ true) ⊎ (generation.predecessor ≡ 0)
  pub exponent : ℕ
  pub next : (exponent ≡ generation.exponent + 1) ⊎ (generation.exponent ≡ exponent + 1)
  pub small : exponent ≤ max_exponent
  pub built : words_at view.hands at ≡ exponent ∷ old ∷ replicate (2 ^ exponent) 0

-- the generation in hand, once it is the head
abbrev pub next_generation : PassView → ℕ → ℕ → GenerationBlock
next_generation view old at =
    record { exponent = slice_index (words_at view.hands at) 0; predecessor = old }

-- A won exchange: the generation is published and the head, and no turn is open.
abbrev pub view_after_swap_head : ℕ → ℕ → PassView → PassView
view_after_swap_head old at view = record view {
  known = known_block at (Generation (next_generation view old at)) ∷ view.known;
  hands = without at view.hands;
  heads = record { at = at; front = view.front } ∷ view.heads;
  won = view.won + 1;
  turn = None;
  won_since = view.won_since + 1;
  made = record view.made { head_swaps = view.made.head_swaps + 1 };
}

-- A lost exchange: the block stays in hand, and no turn is open.
abbrev pub view_after_lost_head : PassView → PassView
view_after_lost_head view = record view {
  turn = None;
  made = record view.made { head_swaps = view.made.head_swaps + 1 };
}

-- what a won exchange tells
pub record SwapsHead (old at : ℕ) (view new : PassView) : Type 0 where
  pub view_is : new ≡ view_after_swap_head old at view
  pub alone : view.facts.seats ≡ 1
      → ledger_of new ≡ resized (next_generation view old at).exponent (ledger_of view)

-- what a lost exchange tells: where the pass is the only one, another generation was the head
pub record LosesHead (old : ℕ) (view new : PassView) : Type 0 where
  pub view_is : new ≡ view_after_lost_head view
  pub alone : view.facts.seats ≡ 1 → head_at view ≢ old
