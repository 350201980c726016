-- What stands after an exchange of HEAD that found the known head: the generation in hand is published and the head.
use Rattle.std.proofs.Common.{◌≡◌, ◌⊎◌, ⊎_elim, inr, ℕ, ◌+◌, ◌<◌, ◌≤◌, ◌^◌, true, List, ◌∷◌, length, replicate, get_or, set, None, sym, ap, ◌∙◌, subst, arith, length-set}
use mathlib.Core.Option.{some}
use lib.ListN.{get_elem?}
use Rattle.std.proofs.lemmas.Nat.{mod_below, pow_pos}
use Rattle.set_model.specs.declared.entry.Entry.{Entry}
use Rattle.arena.specs.Hands.{words_at}
use Rattle.arena.specs.LaidOut.{IsRange, cell_count, published_words}
use Rattle.arena.specs.Laws.{IsReady}
use Rattle.arena.specs.Moves.{with_head, after_publish}
use Rattle.arena.specs.Owners.{hand}
use Rattle.arena.proofs.keeps.Fixed.{head_keeps}
use Rattle.arena.proofs.keeps.Publish.{publish_keeps}
use Rattle.arena.proofs.laws.Apart.{hands_are_new}
use Rattle.arena.proofs.laws.Hands.{KeepsFronts-refl}
use Rattle.step_core.specs.Content.{bucket_of}
use Rattle.step_core.specs.Format.{IsNil, sealed_words, open_words}
use Rattle.step_core.specs.Limits.{max_exponent}
use Rattle.step_core.specs.States.{RoundState, AreLaidOut, IsGeneration, hands_of}
use Rattle.step_core.specs.declared.format.TheConstants.{HEAD}
use Rattle.step_core.specs.declared.published.Published.TheVariants.{Generation}
use Rattle.step_core.specs.declared.published.GenerationBlock.{GenerationBlock}
use Rattle.step_core.specs.declared.views.PassView.{PassView}
use Rattle.step_core.specs.declared.views.RoundFacts.{RoundFacts}
use Rattle.step_core.proofs.changes.Headed.{BecomesHead, heading, chain_headed, members_headed, homes_headed, announces_headed}
use Rattle.step_core.proofs.changes.Published.{row_before_generation, op_before_generation}
use Rattle.step_core.proofs.seen.Shown.{some_word}
use Rattle.cells.specs.HeadSwaps.{MaySwapHead, next_generation, view_after_swap_head}
use Rattle.cells.specs.Invariant.{HoldsRound}
use Rattle.cells.specs.Lone.{is_among}
use Rattle.cells.specs.Sound.{IsSound}
use Rattle.cells.proofs.laws.FoundBucket.{among_filled}
use Rattle.cells.proofs.laws.Sound.{is_published, sound_view}
use Rattle.cells.proofs.parts.PutState.{Stands}

-- an exchange of HEAD that finds the head that the pass expects, in a round of which the invariant holds
pub record WonHead (facts : RoundFacts) (words : List ℕ) (state : RoundState) (history : List Entry) : Type 0 where
  pub round : HoldsRound facts words state history
  pub old : PassView
  pub there : get_elem? state.views old.number ≡ some old
  pub head : ℕ
  pub at : ℕ
  pub may : MaySwapHead old head at
  pub found : get_or words HEAD 0 ≡ head

module _ {facts : RoundFacts} {words : List ℕ} {state : RoundState} {history : List Entry} (s : WonHead facts words state history) where
  -- its fields
  abbrev round : HoldsRound facts words state history
  round = s.round

  abbrev old : PassView
  old = s.old

  abbrev there : get_elem? state.views old.number ≡ some old
  there = s.there

  abbrev head : ℕ
  head = s.head

  abbrev at : ℕ
  at = s.at

  abbrev may : MaySwapHead old head at
  may = s.may

  -- the generation in hand
  abbrev pub generation : GenerationBlock
  generation = next_generation old head at

  -- the pass's view is sound
  sound : IsSound old
  sound = sound_view round old.number old there

  -- what the pass expects is the head
  is_head : head ≡ state.head
  is_head = sym s.found ∙ round.fits.holds.laid.fixed_words.head_shown

  -- the block in hand has the exponent,
  exponent_is : generation.exponent ≡ may.exponent
  exponent_is = ap (λ (list : List ℕ). get_or list 0 0) may.built

  -- and its words are those with which the generation is published
  words_are : words_at old.hands at ≡ published_words sealed_words open_words (Generation generation)
  words_are = may.built ∙ (λ i. sym exponent_is i ∷ head ∷ replicate (2 ^ sym exponent_is i) 0)

  long : 0 < length (words_at old.hands at)
  long = omega (arith, ap length may.built)

  -- nothing is published there yet,
  unpublished : state.blocks at ≡ None
  unpublished = hands_are_new sealed_words open_words hands_of round.fits.holds.laid some_word old.number at
      (record { view = old; is_view = there; begun = omega arith; within = omega (arith, long) })

  -- so all its cells are 0
  pub nil : (bucket : ℕ) → IsNil (state.cells at bucket)
  nil bucket =
      let none : cell_count open_words (state.blocks at) ≡ 0 = ap (cell_count open_words) unpublished in
      round.fits.holds.laid.no_cells at bucket (omega (arith, none))

  -- the head's generation is the one that the pass knows
  head_here : IsGeneration state.blocks state.head may.generation
  head_here = subst (λ (a : ℕ). IsGeneration state.blocks a may.generation) is_head
      (is_published round old.number old there head (Generation may.generation) may.known)

  -- none of its buckets is nil
  head_filled : (spot : ℕ) → ¬ IsNil (state.cells state.head (bucket_of may.generation.exponent spot))
  head_filled spot =
      let bucket : ℕ = bucket_of may.generation.exponent spot in
      ⊎_elim
      (λ (known : is_among old.filled head bucket ≡ true).
      subst (λ (a : ℕ). ¬ IsNil (state.cells a bucket)) is_head
      (among_filled state.cells old.filled head bucket (round.filled old.number old there) known))
      (λ (first : may.generation.predecessor ≡ 0). round.fits.holds.chain.filled state.head may.generation spot head_here (inr first))
      (may.filled bucket (mod_below spot (2 ^ may.generation.exponent) (pow_pos may.generation.exponent)))

  -- so the generation in hand may become the head
  pub becomes : BecomesHead state.head state.blocks state.cells at generation
  becomes = record {
    unpublished = unpublished;
    some_place = omega (arith, (sound.hands at at (record { begun = omega arith; within = omega (arith, long) })).behind_base);
    some_head = omega (arith, is_head, (sound.blocks head (Generation may.generation) may.known).behind_base);
    predecessor = is_head;
    old = may.generation;
    here = head_here;
    next = subst (λ (e : ℕ). (e ≡ may.generation.exponent + 1) ⊎ (may.generation.exponent ≡ e + 1)) (sym exponent_is) may.next;
    small = subst (λ (e : ℕ). e ≤ max_exponent) (sym exponent_is) may.small;
    filled = head_filled;
    nil = nil;
  }

  -- the old head isn't 0, as it lies behind the fixed words
  pub some_predecessor : ¬ IsNil generation.predecessor
  some_predecessor = omega (arith, (sound.blocks head (Generation may.generation) may.known).behind_base)

  -- the view and the state after the exchange
  abbrev pub new_view : PassView
  new_view = view_after_swap_head head at old

  abbrev pub after : RoundState
  after = with_head (after_publish sealed_words open_words state old.number new_view at (Generation generation)) at

  abbrev pub new_words : List ℕ
  new_words = set words HEAD at

  ready : IsReady sealed_words open_words words state.owners old.number at (Generation generation)
  ready = record {
    in_hand = subst (λ (list : List ℕ). IsRange words state.owners at list (hand old.number at)) words_are
        (round.fits.holds.laid.hands old.number old there at);
    some_word = some_word (Generation generation);
  }

  -- the words show the state
  laid : AreLaidOut (length words) facts.seats new_words after
  laid = head_keeps sealed_words open_words hands_of
      (publish_keeps sealed_words open_words hands_of round.fits.holds.laid old.number new_view at (Generation generation) ready
      (record { old = old; is_view = there; fronts = KeepsFronts-refl new_view.hands })) at

  -- what the invariant says without a view
  pub stands : Stands facts new_words after history
  stands = record {
    size = length-set words HEAD at ∙ round.fits.size;
    holds = record {
      laid = subst (λ (cap : ℕ). AreLaidOut cap facts.seats new_words after) (sym (length-set words HEAD at)) laid;
      chain = chain_headed becomes round.fits.holds.chain;
      homes = homes_headed becomes round.fits.holds.homes;
    };
    announces = announces_headed becomes facts.seats state.announced round.fits.announces;
    given = λ from row here. round.given from row (row_before_generation (heading becomes) from row here);
    members = members_headed becomes round.fits.holds.chain facts.keys history round.members;
    legal = round.past.legal;
    who = round.past.who;
    ordered = round.past.ordered;
    no_op = λ from op here. round.no_op from op (op_before_generation (heading becomes) from op here);
  }
