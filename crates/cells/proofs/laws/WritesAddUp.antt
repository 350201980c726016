-- Writes into a block in hand add up, and what a draw leaves in hand.
use Rattle.std.proofs.Common.{◌≡◌, ◌≢◌, ℕ, ◌+◌, ◌-◌, ◌<◌, Bool, true, false, cond, leb, List, [], ◌∷◌, ◌++◌, length, take, set, replicate, refl, sym, ap, ◌∙◌, append_assoc, append-nil, add-zero, take_all, length-set, length-append, arith}
use Rattle.std.proofs.lemmas.Bool.Decides.{nat_tests}
use Rattle.std.proofs.lemmas.List.{set_past, take_more_set, length-replicate}
use native.Mathlib.Decide.{dec_le}
use Rattle.arena.specs.declared.held.Held.{Held}
use Rattle.arena.specs.Hands.{words_at, written}
use Rattle.arena.proofs.laws.Hands.{words_at-written, words_at-written_here, words_at-drawn_same, words_at-drawn_other}
use Rattle.step_core.specs.declared.views.PassView.{PassView}
use Rattle.cells.specs.Sound.{IsSound}
use Rattle.cells.specs.Steps.{Writes, Draws, view_after_write}

-- a write to a word of one block leaves the others
written_other : (view : PassView) (at offset value other : ℕ) → IsSound view → offset < length (words_at view.hands at)
    → other ≢ at → words_at (written (at + offset) value view.hands) other ≡ words_at view.hands other
written_other view at offset value other sound within apart = elim (dec_le other (at + offset)) [
  | no behind ↦ words_at-written view.hands (at + offset) value other
      ∙ ap (λ (b : Bool). cond b (set (words_at view.hands other) (at + offset - other) value) (words_at view.hands other))
      (let test : leb other (at + offset) ≡ false = grind (arith, nat_tests) in test)
  | yes begun ↦ words_at-written view.hands (at + offset) value other
      ∙ ap (λ (b : Bool). cond b (set (words_at view.hands other) (at + offset - other) value) (words_at view.hands other))
      (let test : leb other (at + offset) ≡ true = grind (arith, nat_tests) in test)
      ∙ set_past (words_at view.hands other) (at + offset - other) value
      (elim (dec_le (length (words_at view.hands other)) (at + offset - other)) [
        | yes past ↦ past
        | no inside ↦ absurd (apart (sound.hands_apart other at (at + offset)
            (record { begun = begun; within = omega arith }) (record { begun = omega arith; within = omega arith })))
      ])
]

-- One write is a piece of writing.
pub writes_one : (at offset value : ℕ) (old new : PassView) → IsSound old → offset < length (words_at old.hands at)
    → new ≡ view_after_write (at + offset) value old → Writes at offset (value ∷ []) old new
writes_one at offset value old new sound within view =
    let here : words_at new.hands at ≡ set (words_at old.hands at) offset value =
    ap (λ (view : PassView). words_at view.hands at) view ∙ words_at-written_here old.hands at offset value in
    record {
      only = view ∙ ap (λ (hands : List Held). record old { hands = hands; made = record old.made { writes = old.made.writes + 1 } })
          (sym (ap (λ (view : PassView). view.hands) view));
      long = ap length here ∙ length-set (words_at old.hands at) offset value;
      words = ap (take (offset + 1)) here ∙ take_more_set (words_at old.hands at) offset value within;
      others = λ other apart. ap (λ (view : PassView). words_at view.hands other) view
          ∙ written_other old at offset value other sound within apart;
    }

-- Writing nothing is a piece of writing.
pub writes_none : (at offset : ℕ) (view : PassView) → Writes at offset [] view view
writes_none at offset view = record {
  only = λ i. record view { made = record view.made { writes = sym (add-zero view.made.writes) i } };
  long = refl;
  words = ap (λ (count : ℕ). take count (words_at view.hands at)) (add-zero offset)
      ∙ sym (append-nil (take offset (words_at view.hands at)));
  others = λ other apart. refl;
}

-- What was written first, and behind it what was written then, is what both wrote.
pub writes_both : (at offset middle : ℕ) (first second : List ℕ) (old between new : PassView)
    → middle ≡ offset + length first → Writes at offset first old between → Writes at middle second between new
    → Writes at offset (first ++ second) old new
writes_both at offset middle first second old between new place one two = record {
  only = two.only
      ∙ ap (λ (view : PassView). record view {
        hands = new.hands;
        made = record view.made { writes = view.made.writes + length second };
      }) one.only
      ∙ ap (λ (count : ℕ). record old { hands = new.hands; made = record old.made { writes = count } })
      (let more : old.made.writes + length first + length second ≡ old.made.writes + length (first ++ second) =
      omega (arith, length-append first second) in more);
  long = two.long ∙ one.long;
  words = ap (λ (count : ℕ). take count (words_at new.hands at)) (omega (arith, length-append first second))
      ∙ two.words
      ∙ ap (λ (front : List ℕ). front ++ second)
      (ap (λ (count : ℕ). take count (words_at between.hands at)) place ∙ one.words)
      ∙ append_assoc (take offset (words_at old.hands at)) first second;
  others = λ other apart. two.others other apart ∙ one.others other apart;
}

-- A block that was written whole has what was written.
pub writes_whole : (at : ℕ) (values : List ℕ) (old new : PassView) → Writes at 0 values old new
    → length values ≡ length (words_at old.hands at) → words_at new.hands at ≡ values
writes_whole at values old new writes whole =
    sym (take_all (0 + length values) (words_at new.hands at) (omega (arith, writes.long))) ∙ writes.words

-- A draw gives a block of zeros,
pub words_at-drawn : (old : PassView) (at len : ℕ) (new : PassView) → Draws old at len new
    → words_at new.hands at ≡ replicate len 0
words_at-drawn old at len new draws =
    ap (λ (view : PassView). words_at view.hands at) draws.view ∙ words_at-drawn_same old.hands at len

-- leaves the others,
pub words_at-drawn_else : (old : PassView) (at len : ℕ) (new : PassView) → Draws old at len new
    → (other : ℕ) → other ≢ at → words_at new.hands other ≡ words_at old.hands other
words_at-drawn_else old at len new draws other apart =
    ap (λ (view : PassView). words_at view.hands other) draws.view ∙ words_at-drawn_other old.hands at len other apart

-- and no block that was in hand begins where it does.
pub drawn_apart : (old : PassView) (at len : ℕ) (new : PassView) → Draws old at len new
    → (other : ℕ) → 0 < length (words_at old.hands other)
    → (other ≢ at) × (words_at new.hands other ≡ words_at old.hands other)
drawn_apart old at len new draws other some =
    let apart : other ≢ at = λ (same : other ≡ at).
    let none : length (words_at old.hands other) ≡ 0 =
    ap (λ (place : ℕ). length (words_at old.hands place)) same ∙ ap length draws.fresh in
    omega arith in
    (apart, words_at-drawn_else old at len new draws other apart)

-- A drawn block has as many words as were drawn.
pub length-drawn : (old : PassView) (at len : ℕ) (new : PassView) → Draws old at len new
    → length (words_at new.hands at) ≡ len
length-drawn old at len new draws = ap length (words_at-drawn old at len new draws) ∙ length-replicate len 0
