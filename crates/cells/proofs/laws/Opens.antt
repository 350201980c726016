-- At the start of a round its table keeps the rule: the words are an opening, and the first table seat speaks for all passes.
use Rattle.std.proofs.Common.{◌≡◌, ℕ, zero, suc, ◌+◌, ◌^◌, ◌<◌, ◌≤◌, List, [], ◌∷◌, length, map, refl, sym, ap, ◌∙◌, subst, arith, All}
use mathlib.Core.Option.{some, some-injective, some-ne-none}
use lib.ListN.{get_elem?}
use Rattle.std.specs.List.{range_with_len}
use Rattle.std.specs.List.Sorted.{IsStrictlyIncreasing}
use Rattle.std.proofs.lemmas.List.Elements.{All-nil, All-cons}
use Rattle.atomic_table.specs.Table.{opening}
use Rattle.step_core.specs.Openings.{exponent_for, opening_of, opening_words, opening_facts}
use Rattle.set_model.specs.declared.entry.Entry.{Entry}
use Rattle.step_core.specs.Format.{base_of}
use Rattle.step_core.specs.Plain.{IsPlainTable}
use Rattle.step_core.specs.States.{RoundState, IsGeneration, fresh_view, fresh_views}
use Rattle.step_core.specs.declared.published.Published.TheVariants.{Op}
use Rattle.step_core.specs.declared.layout.Layout.{Layout}
use Rattle.step_core.specs.declared.layout.Plan.{Plan}
use Rattle.step_core.specs.declared.views.PassView.{PassView}
use Rattle.step_core.specs.declared.views.RoundFacts.{RoundFacts}
use Rattle.step_core.proofs.tables.Begins.{each_fresh, opening_fits}
use Rattle.step_core.proofs.lists.Above.{increasing}
use Rattle.step_core.proofs.tables.Held.{opening_held}
use Rattle.step_core.proofs.tables.Opened.{opening_table, opening_is_table}
use Rattle.step_core.proofs.tables.Plain.{generation_there, each_block, each_row}
use Rattle.step_core.proofs.tables.Written.{length-opening_of}
use Rattle.step_core.proofs.tables.Fitting.{table_state}
use Rattle.cells.specs.Begins.{MayBegin, IsOpeningOf, facts_from}
use Rattle.cells.specs.Invariant.{IsFilled, IsFrozenCell, KnowsFilled, KnowsFixed, HoldsRound}
use Rattle.cells.specs.Lone.{KnowsAlone, first_generation}
use Rattle.cells.specs.Modeled.{IsRound}
use Rattle.cells.specs.Paid.{wins_of, IsPaid}
use Rattle.cells.specs.Past.{HoldsHistory, BeginsHistory, OwnsEntries, IsOfPasses, UsesSerials, HasGivenKeys, IsGivenBlock, KnowsGiven}
use Rattle.cells.specs.Hindsight.{HasStood, StoodInHead, StoodInSources, HasHindsight}
use Rattle.cells.specs.SoFar.{HasNoOp}
use Rattle.cells.specs.Sound.{AreFacts}
use Rattle.cells.specs.Seats.{IsRuled, IsSeat, AreSeated, SpeaksFor, facts_of, first_seat}
use Rattle.cells.specs.declared.round.Round.TheInside as round
use Rattle.cells.specs.declared.rule.SeatView.{SeatView}
use Rattle.cells.specs.declared.rule.Setup.{Setup}
use Rattle.cells.proofs.laws.Facts.{facts_from-opening}
use Rattle.cells.proofs.laws.Given.{given_class}

-- the view of a pass as its round begins
pub fresh_there : (facts : RoundFacts) (first count pass : ℕ) → pass < count
    → get_elem? (map (fresh_view facts) (range_with_len first count)) pass ≡ some (fresh_view facts (first + pass))
fresh_there facts first zero pass lt = absurd (omega arith)
fresh_there facts first (suc count) zero lt =
    ap (λ (n : ℕ). some (fresh_view facts n)) (let same : first ≡ first + 0 = omega arith in same)
fresh_there facts first (suc count) (suc pass) lt =
    fresh_there facts (first + 1) count pass (omega arith)
    ∙ ap (λ (n : ℕ). some (fresh_view facts n)) (let same : first + 1 + pass ≡ first + suc pass = omega arith in same)

-- what holds of the fresh view of each of these numbers holds of all of them
pub all_fresh : (Fact : PassView → Type 0) (facts : RoundFacts) (first count : ℕ)
    → ((number : ℕ) → first ≤ number → number < first + count → Fact (fresh_view facts number))
    → All Fact (map (fresh_view facts) (range_with_len first count))
all_fresh Fact facts first zero holds = All-nil Fact
all_fresh Fact facts first (suc count) holds =
    All-cons Fact (fresh_view facts first) (map (fresh_view facts) (range_with_len (first + 1) count))
    (holds first (omega arith) (omega arith))
    (all_fresh Fact facts (first + 1) count (λ number ge lt. holds number (omega arith) (omega arith)))

module _ (facts : RoundFacts) where
  -- the views of the passes as they begin
  abbrev fresh : List PassView
  fresh = fresh_views facts

  -- the table seat with all of them
  abbrev whole_seat : SeatView
  whole_seat = record { front = []; rights = fresh }

  -- it speaks for each of them
  fresh_speaks : All (SpeaksFor fresh (λ _. 0) 0) fresh
  fresh_speaks =
      all_fresh (SpeaksFor fresh (λ _. 0) 0) facts 0 facts.seats (λ number ge lt. record {
        is_view = fresh_there facts 0 facts.seats number (omega arith)
            ∙ ap (λ (n : ℕ). some (fresh_view facts n)) (let same : 0 + number ≡ number = omega arith in same);
        only = refl;
      })

  -- it is the only table seat
  fresh_seat : (number : ℕ) (seat : SeatView) → get_elem? (whole_seat ∷ []) number ≡ some seat
      → IsSeat fresh [] (λ _. 0) number seat
  fresh_seat zero seat there =
      subst (IsSeat fresh [] (λ _. 0) 0) (some-injective whole_seat seat there) (record {
        front = ([], refl);
        rights = fresh_speaks;
      })
  fresh_seat (suc number) seat there = absurd (some-ne-none seat (sym there))

  -- the first table seat speaks for all passes
  pub fresh_seated : AreSeated fresh [] (whole_seat ∷ [])
  fresh_seated = record { owner = λ _. 0; each = fresh_seat }

module _ (seats cap : ℕ) (keys : List ℕ) (rising : IsStrictlyIncreasing keys) (few : length keys ≤ 2 ^ 24)
    (fits : opening_words seats keys ≤ cap) (small : AreFacts (opening_facts seats cap keys)) where
  -- what never changes in the round
  abbrev facts : RoundFacts
  facts = opening_facts seats cap keys

  -- the words of the opening
  abbrev words : List ℕ
  words = opening_of seats cap keys

  -- its passes' views
  abbrev views : List PassView
  views = fresh_views facts

  -- the state that the words stand for
  abbrev state : RoundState
  state = table_state seats words (opening_table seats keys) views

  -- nothing has taken effect yet
  opening_past : HoldsHistory facts state.blocks state.cells views []
  opening_past = record {
    legal = tt;
    begun = each_fresh (BeginsHistory []) facts (λ pass. record { front = ([], refl); heard = ([], refl); horizon = ([], refl) });
    whole = record {
      pass = 0;
      view = fresh_view facts 0;
      is_view = fresh_there facts 0 seats 0 (omega (arith, small.some_pass));
      all = refl;
    };
    own = each_fresh (OwnsEntries state.blocks state.cells []) facts (λ pass. refl);
    who = All-nil (IsOfPasses seats);
    ordered = λ pass. increasing [] tt;
    used = each_fresh (UsesSerials []) facts (λ pass. All-nil (λ (entry : Entry). entry.serial < 0));
    given = each_fresh (KnowsGiven keys) facts (λ pass. All-nil (IsGivenBlock keys []));
  }

  -- the opening is a table of plain rows
  is_table : IsPlainTable seats words (opening_table seats keys)
  is_table = opening_is_table seats cap keys rising few fits

  -- its generation is the head's
  first_there : IsGeneration state.blocks (base_of seats) (first_generation facts)
  first_there = generation_there is_table

  -- no operation is published
  no_op : HasNoOp state.blocks
  no_op at op there = each_block is_table (λ at block. block ≡ Op op → ⊥) (λ e. cc) (λ bucket low e. cc) at (Op op) there refl

  -- an opening holds with no history
  pub opening_holds : HoldsRound facts words state []
  opening_holds = record {
    small = small;
    fits = opening_fits seats cap keys rising few fits;
    past = opening_past;
    given = each_row is_table (λ at row. HasGivenKeys keys [] row)
        (λ bucket low. given_class keys (exponent_for (length keys)) bucket);
    paid = each_fresh (λ pass view. IsPaid (wins_of views) state.head state.cells view) facts (λ pass. record {
      lost = omega arith;
      turn = λ turn there. cc;
    });
    filled = each_fresh (KnowsFilled state.cells) facts (λ pass. All-nil (IsFilled state.cells));
    fixed = each_fresh (KnowsFixed state.blocks state.cells) facts (λ pass. All-nil (IsFrozenCell state.blocks state.cells));
    hindsight = each_fresh (HasHindsight keys state.blocks state.cells []) facts (λ pass. record {
      marks = All-nil (HasStood keys state.blocks state.cells []);
      heads = All-nil (StoodInHead keys state.blocks state.cells []);
      nils = All-nil (StoodInSources keys state.blocks state.cells []);
    });
    members = opening_held seats cap keys rising few fits;
    alone = each_fresh (KnowsAlone facts state.head state.blocks state.cells) facts (λ pass alone. record {
      head_is = refl;
      generation = first_there;
      nil = λ bucket within test. absurd (cc);
    });
    no_op = no_op;
  }

  -- and keeps the rule with the first table seat
  pub opening_ruled : IsRuled facts (opening words [] (record { front = []; rights = views }))
  opening_ruled = record {
    state = state;
    history = [];
    holds = opening_holds;
    seated = fresh_seated facts;
  }

-- a round that may begin has such facts
pub begins_facts : {words : List ℕ} {layout : Layout} {plan : Plan} (begins : MayBegin words layout plan)
    → AreFacts (opening_facts layout.seats layout.cap begins.keys)
begins_facts {words} {layout} {plan} begins =
    let planned = begins.planned in
    record {
      some_pass = omega (arith, planned.some_pass, begins.seats);
      few_passes = omega (arith, planned.few_passes, begins.seats);
      fixed_words = omega (arith, begins.opening.room);
      few_words = begins.few_words;
      rising = begins.opening.rising;
    }

-- the facts that the table of a round is told are the opening's
pub setup_facts : {words : List ℕ} {layout : Layout} {plan : Plan} (setup : Setup) → setup.seats ≡ layout.seats
    → setup.words.value ≡ words → (keys : List ℕ) → IsOpeningOf words layout plan keys
    → facts_of setup ≡ opening_facts layout.seats layout.cap keys
setup_facts {words} {layout} {plan} setup seats told keys is =
    (λ i. facts_from (seats i) (told i)) ∙ facts_from-opening words layout plan keys is

-- the rule holds of the table that a round begins with
pub begins_ruled : {words : List ℕ} {layout : Layout} {plan : Plan} → MayBegin words layout plan → (setup : Setup)
    → setup.seats ≡ layout.seats → setup.words.value ≡ words
    → IsRuled (facts_of setup) (opening words [] (first_seat setup))
begins_ruled {words} {layout} {plan} begins setup seats told =
    let is = begins.opening in
    let Ruled : RoundFacts × List ℕ → Type 0 =
    λ z. IsRuled z.0 (opening z.1 [] (record { front = []; rights = fresh_views z.0 })) in
    subst Ruled (λ i. (sym (setup_facts setup seats told begins.keys is) i, sym is.laid_out i))
    (opening_ruled layout.seats layout.cap begins.keys is.rising is.few (omega (arith, is.room)) (begins_facts begins))

-- and the round is one
pub begins_round : {words : List ℕ} (inside : round.Inside) (setup : Setup) → MayBegin words inside.layout inside.plan
    → setup.seats ≡ inside.layout.seats → setup.words.value ≡ words → inside.table.shared.key ≡ setup
    → inside.table.shared.table_id.words ≡ length words → inside.table.shared.table_id.slots ≡ 0 → IsRound inside
begins_round {words} inside setup begins seats told key count slots =
    let is = begins.opening in
    let facts = ap facts_of key ∙ setup_facts setup seats told begins.keys is in
    record {
      words = count
          ∙ ap length is.laid_out
          ∙ length-opening_of inside.layout.seats inside.layout.cap begins.keys (omega (arith, is.room));
      slots = slots;
      cap = ap (λ (f : RoundFacts). f.cap) facts;
      seats = ap (λ (f : RoundFacts). f.seats) facts;
      small = subst AreFacts (sym facts) (begins_facts begins);
      plan = begins.planned;
      planned = sym begins.seats;
    }
