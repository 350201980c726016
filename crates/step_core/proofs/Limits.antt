-- The constants of the code are the limits of a round and the numbers of its format: another number is refused here.
use Rattle.std.proofs.Common.{◌≡◌, refl, arith}
use Rattle.step_core.specs.Limits.{max_passes, max_words, max_draw, max_exponent, max_keys, max_calls, max_turns}
use Rattle.step_core.specs.Format.{block_len}
use Rattle.step_core.specs.declared.published.OpBlock.{OpBlock}
use Rattle.step_core.specs.declared.published.Published.TheVariants.{Op}
use Rattle.step_core.specs.declared.format.TheConstants.{MAX_SEATS, MAX_WORDS, MAX_DRAW, MAX_EXPONENT, MAX_KEYS, MAX_CALLS, MAX_TURNS, OP_LEN, SPOT_FACTOR}

-- the most passes
pub max_passes-constant : MAX_SEATS ≡ max_passes
max_passes-constant = refl

-- the most words
pub max_words-constant : MAX_WORDS ≡ max_words
max_words-constant = refl

-- the most words of one draw
pub max_draw-constant : MAX_DRAW ≡ max_draw
max_draw-constant = refl

-- the greatest exponent
pub max_exponent-constant : MAX_EXPONENT ≡ max_exponent
max_exponent-constant = refl

-- the most keys of an opening
pub max_keys-constant : MAX_KEYS ≡ max_keys
max_keys-constant = refl

-- the most calls of a pass
pub max_calls-constant : MAX_CALLS ≡ max_calls
max_calls-constant = refl

-- the most turns of a plan
pub max_turns-constant : MAX_TURNS ≡ max_turns
max_turns-constant = refl

-- an operation's block has this many words
pub op_len-constant : (op : OpBlock) → OP_LEN ≡ block_len (Op op)
op_len-constant op = omega arith

-- the factor of a spot is 2 ^ 64 divided by the golden ratio, as an odd number
pub spot_factor-constant : SPOT_FACTOR ≡ 11400714819323198485
spot_factor-constant = refl
