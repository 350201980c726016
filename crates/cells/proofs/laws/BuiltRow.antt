-- A row that a pass has written into a block in hand: its keys and words, and where it lies.
use Rattle.std.proofs.Common.{◌≡◌, ◌*◌, ◌^◌, ℕ, ◌<◌, List, length, drop, sym, ap, ◌∙◌, arith}
use Rattle.arena.specs.Hands.{words_at}
use Rattle.step_core.specs.Format.{row_words}
use Rattle.step_core.specs.declared.format.TheConstants.{FIRST_KEY}
use Rattle.step_core.specs.declared.views.PassView.{PassView}
use Rattle.cells.specs.Exchanges.{hand_keys}
use Rattle.cells.specs.Sound.{IsSound}
use Rattle.cells.proofs.laws.Within.{hand_within}

module _ (view : PassView) (at : ℕ) (keys : List ℕ) (built : words_at view.hands at ≡ row_words keys) where
  -- the keys in hand are those of the row that was written
  pub built_keys : hand_keys view at ≡ keys
  built_keys = ap (drop FIRST_KEY) built

  -- so its words stand in the hand
  pub built_row : words_at view.hands at ≡ row_words (hand_keys view at)
  built_row = built ∙ ap row_words (sym built_keys)

  -- the row in hand lies in the arena, so its bucket word is a word
  pub built_fits : IsSound view → 2 * at < 2 ^ 64
  built_fits sound =
      let within = hand_within view sound at 0 (omega (arith, ap length built)) in
      let small = within.small in omega arith
