-- The words of a table of plain rows fit: they are laid out, the generation is the whole chain, and rows are at home.
use Rattle.std.proofs.Common.{◌≡◌, ◌≢◌, ℕ, ◌+◌, ◌^◌, ◌<◌, ◌≤◌, nat_eq, nat_lt, Bool, cond, ◌&&◌, List, [], length, slice_index, refl, sym, ap, ◌∙◌, arith, inl, inr}
use mathlib.Core.Option.{some, some-ne-none}
use lib.ListN.{get_elem?}
use Rattle.std.proofs.lemmas.Bool.{cases_Bool, cases_eq}
use Rattle.std.proofs.lemmas.Bool.Decides.{nat_tests}
use Rattle.arena.specs.Hands.{words_at}
use Rattle.arena.specs.LaidOut.{IsBlock, IsBounded, cell_count}
use Rattle.step_core.specs.Content.{bucket_of}
use Rattle.step_core.specs.Fits.{IsAtHome, IsClosed, IsChain, HoldsBlocks, KeepsHome, IsWellFormed, FollowsAnother, generation_before}
use Rattle.step_core.specs.Format.{next_of, sealed_words, open_words, IsMutable, IsNil, row_address, mutable_word}
use Rattle.step_core.specs.Plain.{PlainTable, IsPlainTable}
use Rattle.step_core.specs.States.{RoundState, AreLaidOut, IsGeneration, Each, hands_of}
use Rattle.step_core.specs.Limits.{max_exponent}
use Rattle.step_core.specs.declared.format.TheConstants.{TICKET, FIRST_ANNOUNCED}
use Rattle.step_core.specs.declared.published.GenerationBlock.{GenerationBlock}
use Rattle.step_core.specs.declared.published.Published.TheVariants.{Generation, Row}
use Rattle.step_core.specs.declared.views.PassView.{PassView}
use Rattle.step_core.proofs.tables.Blocks.{only_generation, plain_row, table_blocks}
use Rattle.step_core.proofs.tables.Plain.{row_there, generation_there, each_block, each_generation, each_row, bucket_low, row_low, address_is}
use Rattle.step_core.proofs.tables.Owned.{table_owners, owner-fixed, owner-sealed, owner-cell, owner-row, owner-behind}

-- the cells: the generation's buckets name the rows
unfoldable pub table_cells : PlainTable → ℕ → ℕ → ℕ
table_cells table at k = cond (nat_eq at table.head && nat_lt k (2 ^ table.exponent)) (mutable_word (table.starts k)) 0

-- the state that the words show
abbrev pub table_state : ℕ → List ℕ → PlainTable → List PassView → RoundState
table_state seats words table views = record {
  head = table.head;
  next = next_of words;
  ticket = slice_index words TICKET;
  announced = λ pass. slice_index words (FIRST_ANNOUNCED + pass);
  owners = table_owners seats table;
  blocks = table_blocks table;
  cells = table_cells table;
  views = views;
}

-- no pass has a block in hand
abbrev pub HaveNoHands : List PassView → Type 0
HaveNoHands views = Each (λ number view. hands_of view ≡ []) views

no_view : (pass : ℕ) (view : PassView) → get_elem? [] pass ≡ some view → ⊥
no_view pass view there = some-ne-none view (sym there)

module _ {seats : ℕ} {words : List ℕ} {table : PlainTable} (is : IsPlainTable seats words table) where
  cell-here : (k : ℕ) → k < 2 ^ table.exponent → table_cells table table.head k ≡ mutable_word (table.starts k)
  unfolding table_cells
  cell-here k low = grind (arith, nat_tests)

  cell-past : (at k : ℕ) → 2 ^ table.exponent ≤ k → table_cells table at k ≡ 0
  unfolding table_cells
  cell-past at k past = grind (arith, nat_tests)

  cell-other : (at k : ℕ) → at ≢ table.head → table_cells table at k ≡ 0
  unfolding table_cells
  cell-other at k other = grind (arith, nat_tests)

  bounds : IsBounded (length words) seats (next_of words) (table_owners seats table)
  bounds = record {
    below_base = owner-fixed is;
    from_next = λ a le. owner-behind is a (omega (arith, is.drawn, le));
    past_end = λ a le. owner-behind is a (omega (arith, is.within, le));
  }

  generation_stands : IsBlock sealed_words open_words words (table_owners seats table) (table_cells table table.head) table.head
      (Generation (only_generation table))
  generation_stands = record {
    sealed_part = record { shown = is.sealed; owned = owner-sealed is };
    cell_part = record { shown = λ k low. is.named k low ∙ sym (cell-here k low); owned = owner-cell is };
  }

  row_stands : (bucket : ℕ) → bucket < 2 ^ table.exponent
      → IsBlock sealed_words open_words words (table_owners seats table) (table_cells table (table.starts bucket)) (table.starts bucket)
      (Row (plain_row table bucket))
  row_stands bucket low = record {
    sealed_part = record { shown = is.rows bucket low; owned = λ k lt. owner-row is bucket k low (omega (arith, lt)) };
    cell_part = record { shown = λ k lt. absurd (omega arith); owned = λ k lt. absurd (omega arith) };
  }

  no_cells : (at k : ℕ) → cell_count open_words (table_blocks table at) ≤ k → table_cells table at k ≡ 0
  no_cells at k le =
      elim (cases_eq at table.head) [
        | inl here ↦
            let count : cell_count open_words (table_blocks table at) ≡ 2 ^ table.exponent =
            ap (λ (a : ℕ). cell_count open_words (table_blocks table a)) here ∙ ap (cell_count open_words) (generation_there is) in
            cell-past at k (omega arith)
        | inr other ↦ cell-other at k other
      ]

  -- the words are laid out as this state, whatever the passes know, if they have no block in hand
  table_laid_out : (views : List PassView) → HaveNoHands views → AreLaidOut (length words) seats words (table_state seats words table views)
  table_laid_out views empty = record {
    size = refl;
    fixed_words = record {
      head_shown = is.here;
      next_shown = refl;
      ticket_shown = refl;
      announced_shown = λ pass lt. refl;
    };
    bounds = bounds;
    rest = is.empty;
    blocks = each_block is (λ at block. IsBlock sealed_words open_words words (table_owners seats table) (table_cells table at) at block)
        generation_stands row_stands;
    no_cells = no_cells;
    hands = λ pass view there at.
        let none = ap (λ hands. length (words_at hands at)) (empty pass view there) in
        record { shown = λ k lt. absurd (omega arith); owned = λ k lt. absurd (omega arith) };
  }

  pub spot_cell : (spot : ℕ)
      → table_cells table table.head (bucket_of table.exponent spot) ≡ mutable_word (table.starts (bucket_of table.exponent spot))
  spot_cell spot = cell-here (bucket_of table.exponent spot) (bucket_low is spot)

  pub filled : (spot : ℕ) → ¬ IsNil (table_cells table table.head (bucket_of table.exponent spot))
  filled spot nil = absurd (omega (arith, nil, spot_cell spot, row_low is spot))

  even : (bucket : ℕ) → IsMutable (table_cells table table.head bucket)
  unfolding table_cells
  even bucket =
      elim (cases_Bool (nat_eq table.head table.head && nat_lt bucket (2 ^ table.exponent))) [
        | inl here ↦ omega (arith, ap (λ (b : Bool). cond b (mutable_word (table.starts bucket)) 0) here)
        | inr past ↦ omega (arith, ap (λ (b : Bool). cond b (mutable_word (table.starts bucket)) 0) past)
      ]

  at_home : (spot : ℕ)
      → IsAtHome (table_blocks table) (row_address (table_cells table table.head (bucket_of table.exponent spot)))
      (only_generation table) spot
  at_home spot = record {
    row = plain_row table (bucket_of table.exponent spot);
    here = ap (table_blocks table) (ap row_address (spot_cell spot) ∙ address_is is (table.starts (bucket_of table.exponent spot)))
        ∙ row_there is (bucket_of table.exponent spot) (bucket_low is spot);
    exponent = refl;
    bucket = refl;
  }

  -- no other address has a generation
  only_head : (at : ℕ) (generation : GenerationBlock) → IsGeneration (table_blocks table) at generation → at ≡ table.head
  only_head = each_generation is (λ at generation. at ≡ table.head) refl

  -- the head isn't at 0
  no_base : 0 ≡ table.head → ⊥
  no_base same = absurd (omega (arith, same, is.first))

  -- the generation is the whole chain
  table_chain : IsChain table.head (table_blocks table) (table_cells table)
  unfolding generation_before
  table_chain = record {
    head_there = (only_generation table, generation_there is);
    reached = each_generation is (λ at generation. (count : ℕ) × (at ≡ generation_before (table_blocks table) table.head count)) (0, refl);
    follows = each_generation is
        (λ at generation. generation.predecessor ≢ 0
        → FollowsAnother table.head (table_blocks table) generation) (λ some. absurd (some refl));
    small = each_generation is (λ at generation. generation.exponent ≤ max_exponent) is.small;
    mutable = even;
    filled = λ at generation spot here first.
        each_generation is (λ at generation. ¬ IsNil (table_cells table at (bucket_of generation.exponent spot)))
        (filled spot) at generation here;
    names = λ at generation spot here some.
        each_generation is
        (λ at generation. IsAtHome (table_blocks table) (row_address (table_cells table at
        (bucket_of generation.exponent spot))) generation spot)
        (at_home spot) at generation here;
    older = λ at generation spot here not_head other. absurd (not_head (only_head at generation here));
    sources = λ generation other spot here there some.
        each_generation is (λ at generation. IsGeneration (table_blocks table) generation.predecessor other
        → IsClosed (table_blocks table) (table_cells table) (table_cells table generation.predecessor (bucket_of other.exponent spot)))
        (λ there. absurd (no_base (only_head 0 other there))) table.head generation here there;
  }

  -- the words and the table's blocks fit
  pub table_holds : (views : List PassView) → HaveNoHands views → HoldsBlocks seats words (table_state seats words table views)
  table_holds views empty = record {
    laid = table_laid_out views empty;
    chain = table_chain;
    homes = each_row is (λ at row. KeepsHome (table_blocks table) row)
        (λ bucket low. record {
          holds = record { rising = is.rising bucket low; class = is.class bucket low };
          op = λ some. absurd (some refl);
        });
  }

  -- so the words are well formed
  pub table_well_formed : IsWellFormed words
  table_well_formed = (seats, table_state seats words table [], table_holds [] (λ pass view there. absurd (no_view pass view there)))
