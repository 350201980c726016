-- The words of an opening fit the views with which its round begins.
use Rattle.std.proofs.Common.{◌≡◌, ℕ, zero, suc, ◌+◌, ◌^◌, ◌≤◌, List, [], length, map, refl, sym, ap, ◌∙◌, subst, arith, inl, sum_by}
use mathlib.Core.Option.{some, some-injective, some-ne-none}
use lib.ListN.{get_elem?}
use Rattle.std.specs.List.{range_with_len}
use Rattle.std.specs.List.Sorted.{IsStrictlyIncreasing}
use Rattle.std.proofs.lemmas.List.Elements.{All-nil}
use Rattle.std.proofs.lemmas.List.Sums.{sum_by-cons}
use Rattle.std.proofs.lemmas.List.FromFn.{length-map-range_with_len}
use Rattle.step_core.specs.Fits.{Fits, AnnouncesOps, BeginsRound, IsAccount, IsOfRound, IsPublished, KnowsPublished, PassedItsEnd, spent_count}
use Rattle.step_core.specs.Openings.{opening_words, opening_of, opening_facts}
use Rattle.step_core.specs.States.{RoundState, Each, IsOp, fresh_view, fresh_views, hands_of}
use Rattle.step_core.specs.declared.published.Published.TheVariants.{Op}
use Rattle.step_core.specs.declared.published.OpBlock.{OpBlock}
use Rattle.step_core.specs.declared.views.PassView.{PassView}
use Rattle.step_core.specs.declared.views.RoundFacts.{RoundFacts}
use Rattle.step_core.proofs.tables.Opened.{opening_announced, opening_table, opening_is_table}
use Rattle.step_core.proofs.tables.Written.{length-opening_of}
use Rattle.step_core.proofs.tables.Plain.{each_block}
use Rattle.step_core.proofs.tables.Fitting.{table_state, table_holds}

-- each of the first views is fresh, and has its number
view_at : (facts : RoundFacts) (first count pass : ℕ) (view : PassView)
    → get_elem? (map (fresh_view facts) (range_with_len first count)) pass ≡ some view
    → view ≡ fresh_view facts (first + pass)
view_at facts first zero pass view there = absurd (some-ne-none view (sym there))
view_at facts first (suc count) zero view there =
    sym (some-injective (fresh_view facts first) view there) ∙ ap (fresh_view facts) (let same : first ≡ first + 0 = omega arith in same)
view_at facts first (suc count) (suc pass) view there =
    view_at facts (first + 1) count pass view there
    ∙ ap (fresh_view facts) (let same : first + 1 + pass ≡ first + suc pass = omega arith in same)

-- the view of a pass among the fresh views is that pass's fresh view
pub fresh_is : (facts : RoundFacts) (pass : ℕ) (view : PassView) → get_elem? (fresh_views facts) pass ≡ some view
    → view ≡ fresh_view facts pass
fresh_is facts pass view there =
    view_at facts 0 facts.seats pass view there ∙ ap (fresh_view facts) (let same : 0 + pass ≡ pass = omega arith in same)

-- what holds of each fresh view holds of each
pub each_fresh : (P : ℕ → PassView → Type 0) (facts : RoundFacts) → ((pass : ℕ) → P pass (fresh_view facts pass))
    → Each P (fresh_views facts)
each_fresh P facts holds pass view there = subst (P pass) (sym (fresh_is facts pass view there)) (holds pass)

-- they count for nothing
pub nothing_counted : (f : PassView → ℕ) (facts : RoundFacts) → ((number : ℕ) → f (fresh_view facts number) ≡ 0)
    → (first count : ℕ) → sum_by f (map (fresh_view facts) (range_with_len first count)) ≡ 0
nothing_counted f facts none first zero = refl
nothing_counted f facts none first (suc count) =
    sum_by-cons f (fresh_view facts first) (map (fresh_view facts) (range_with_len (first + 1) count))
    ∙ omega (arith, none first, nothing_counted f facts none (first + 1) count)

module _ (seats cap : ℕ) (keys : List ℕ) (rising : IsStrictlyIncreasing keys) (few : length keys ≤ 2 ^ 24)
    (fits : opening_words seats keys ≤ cap) where
  abbrev facts : RoundFacts
  facts = opening_facts seats cap keys

  abbrev words : List ℕ
  words = opening_of seats cap keys

  abbrev state : RoundState
  state = table_state seats words (opening_table seats keys) (fresh_views facts)

  no_op : (at : ℕ) (op : OpBlock) → IsOp state.blocks at op → ⊥
  no_op at op there =
      each_block (opening_is_table seats cap keys rising few fits) (λ at block. block ≡ Op op → ⊥)
      (λ e. cc) (λ bucket low e. cc) at (Op op) there refl

  announces : AnnouncesOps seats state.announced state.blocks state.cells
  announces = record {
    ops = λ at op there. absurd (no_op at op there);
    words = λ pass lt. inl (opening_announced seats cap keys rising few fits pass lt);
  }

  account : IsAccount facts state.next state.ticket state.views
  account =
      let none_drawn = nothing_counted (λ view. view.drawn) facts (λ number. refl) 0 seats in
      let none_spent = nothing_counted spent_count facts (λ number. refl) 0 seats in
      record {
        sum = omega (arith, none_drawn);
        bound = omega (arith, none_spent);
        spent = each_fresh (PassedItsEnd cap state.next) facts (λ pass place e. cc);
        tickets = omega arith;
      }

  -- the words of an opening fit the fresh views
  pub opening_fits : Fits facts words state
  opening_fits = record {
    size = length-opening_of seats cap keys fits;
    holds = table_holds (opening_is_table seats cap keys rising few fits) (fresh_views facts)
        (each_fresh (λ number view. hands_of view ≡ []) facts (λ pass. refl));
    announces = announces;
    account = account;
    passes = length-map-range_with_len (fresh_view facts) 0 seats;
    numbered = each_fresh (IsOfRound facts) facts (λ pass. record { same_round = refl; is_pass = refl });
    known = each_fresh (KnowsPublished state.blocks) facts (λ pass. All-nil (IsPublished state.blocks));
  }

  -- so a round may begin with them
  pub opening_begins : BeginsRound facts words
  opening_begins = (state, refl, opening_fits)
