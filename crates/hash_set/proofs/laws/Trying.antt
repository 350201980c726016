-- A call that lost some turns, and then makes another, is answered, refused, or has lost one more.
use Rattle.std.proofs.Common.{◌≡◌, ◌≢◌, ℕ, ◌+◌, ◌⊎◌, ◌<◌, ◌≤◌, Bool, true, false, [], ◌∷◌, ◌++◌, length, None, inl, inr, ⊎_elim, refl, sym, ap, ◌∙◌, subst, add-zero, arith}
use base.Growing.{prefix_refl}
use Rattle.set_model.specs.declared.call.Call.{Call}
use Rattle.set_model.specs.declared.call.Call.TheVariants.{Insert, Remove, Contains}
use Rattle.step_core.specs.declared.views.PassView.{PassView}
use Rattle.step_core.specs.declared.views.RoundFacts.{RoundFacts}
use Rattle.step_core.specs.declared.views.StepCounts.{StepCounts}
use Rattle.fset.specs.Standing.{AnswerStands, HasPast, IsReading, TriedStands, entry_for}
use Rattle.fset.specs.Frames.{KeepsOwn, Spends, turns_cost}
use Rattle.fset.specs.Rows.{OverdrewAfter, WasSpent}
use Rattle.fset.specs.Turns.{AnswersTurn, AreOneTurn, LosesTurn, RefusesTurn}
use Rattle.fset.specs.declared.outcomes.Answered.{Answered}
use Rattle.fset.proofs.laws.Frames.{behind_self, keys_of-none, latest_row-append, longer, own_then, past_from, spends_then, turns_cost_rises}
use Rattle.hash_set.specs.Calls.{AnswersCall, AreTurns, LosesCall, LosesLast, RefusesCall, Tries}

-- so many turns were made, and lost
pub record LosesTurns (call : Call) (key turns : ℕ) (old new : PassView) : Type 0 where
  pub tries : Tries turns turns old new
  pub own : KeepsOwn old new
  pub spent : new.spent ≡ old.spent
  pub unspent : (old.spent ≡ None) ⊎ (tries.spends.words ≡ 0)
  pub last : turns ≢ 0 → LosesLast turns call key old new

-- turns that follow each other make the steps of all of them
turns_then : (turns : ℕ) (before between after : StepCounts) → AreTurns turns before between → AreOneTurn between after
    → AreTurns (turns + 1) before after
turns_then turns before between after some_turns one = record {
  heads = omega (arith, some_turns.heads, one.heads);
  some_buckets = omega (arith, some_turns.some_buckets, one.some_bucket);
  buckets = omega (arith, some_turns.buckets, one.buckets);
  draws = omega (arith, some_turns.draws, one.draws);
  swaps = omega (arith, some_turns.swaps, one.swaps);
  no_fewer = omega (arith, some_turns.no_fewer, one.no_fewer);
  fills = omega (arith, some_turns.fills, one.fills);
  freezes = omega (arith, some_turns.freezes, one.freezes);
  head_swaps = one.head_swaps ∙ some_turns.head_swaps;
  notes = one.notes ∙ some_turns.notes;
  learned = one.learned ∙ some_turns.learned;
}

-- No turn was made yet.
pub none_lost : (call : Call) (key : ℕ) (view : PassView) → LosesTurns call key 0 view view
none_lost call key view = record {
  tries = record {
    spends = record {
      learned = [];
      words = 0;
      grows = record {
        number = refl;
        facts = refl;
        front = prefix_refl view.front;
        known = refl;
        fixed = behind_self view.fixed;
        asked = behind_self view.asked;
        drawn = sym (add-zero view.drawn);
        lost = sym (add-zero view.lost);
      };
      wide = [];
      keys = keys_of-none [];
      bound = omega arith;
    };
    steps = record {
      heads = sym (add-zero view.made.head_loads);
      some_buckets = omega arith;
      buckets = omega arith;
      draws = omega arith;
      swaps = omega arith;
      no_fewer = omega arith;
      fills = omega arith;
      freezes = omega arith;
      head_swaps = refl;
      notes = refl;
      learned = refl;
    };
    others = λ some_lost. absurd (some_lost refl);
  };
  own = record { mine = refl; flight = refl; used = refl };
  spent = refl;
  unspent = inr refl;
  last = λ some_lost. absurd (some_lost refl);
}

-- a reading with the answer false
reads_false : (call : Call) → call ≢ Contains → IsReading call false
reads_false Insert writes = refl
reads_false Remove writes = refl
reads_false Contains writes = absurd (writes refl)

-- An answer that stands as that of a tried call stands.
tried_stands : (serial : ℕ) (call : Call) (key : ℕ) (changed : Bool) (old new : PassView) → call ≢ Contains
    → TriedStands serial call key changed old new → AnswerStands serial call key changed old new
tried_stands serial call key true old new writes stands = inl stands
tried_stands serial call key false old new writes stands = inr (reads_false call writes, stands)

module _ (call : Call) (key losses : ℕ) (old between : PassView) (lost : LosesTurns call key losses old between) where
  -- an answer that stands from later on stands from the start on
  from_start : (serial : ℕ) (changed : Bool) (new : PassView) → TriedStands serial call key changed between new
      → TriedStands serial call key changed old new
  from_start serial true new stands = record {
    past = subst (λ (who : ℕ). HasPast old.front new.front (entry_for who serial call key true)) lost.tries.spends.grows.number
        (past_from old.front between.front new.front (entry_for between.number serial call key true) lost.tries.spends.grows.front stands.past);
    mine = stands.mine
        ∙ (λ i. lost.own.mine i ++ entry_for (lost.tries.spends.grows.number i) serial call key true ∷ []);
    landed = stands.landed;
  }
  from_start serial false new stands = record {
    own = own_then old between new lost.own stands.own;
    answer_is = stands.answer_is;
  }

  -- the turns and one more, which wasn't lost
  abbrev and_one : (new : PassView) → Spends (turns_cost 1) 0 between new → Spends (turns_cost (losses + 1)) losses old new
  and_one new spends = spends_then losses 1 losses 0 losses old between new (add-zero losses) lost.tries.spends spends

  -- The next turn is lost as well.
  pub then_lost : (new : PassView) → LosesTurn call key between new → AreOneTurn between.made new.made → LosesTurns call key (losses + 1) old new
  then_lost new turn one = record {
    tries = record {
      spends = spends_then losses 1 losses 1 (losses + 1) old between new refl lost.tries.spends turn.spends;
      steps = turns_then losses old.made between.made new.made lost.tries.steps one;
      others = λ some_lost. subst (λ (facts : RoundFacts). facts.seats ≢ 1) lost.tries.spends.grows.facts turn.others;
    };
    own = own_then old between new lost.own turn.own;
    spent = turn.spent ∙ lost.spent;
    unspent = ⊎_elim
        (λ (unspent : old.spent ≡ None). inl unspent)
        (λ (none : lost.tries.spends.words ≡ 0). ⊎_elim
        (λ (unspent : between.spent ≡ None). inl (sym lost.spent ∙ unspent))
        (λ (too : turn.spends.words ≡ 0). inr (omega (arith, none, too)))
        turn.unspent)
        lost.unspent;
    last = λ some_lost. record { before = losses; count = refl; start = between; earlier = lost.tries; turn = turn };
  }

  -- It is answered.
  pub then_answered : (fast serial : ℕ) (answered : Answered) (new : PassView) → losses < fast → call ≢ Contains
      → AnswersTurn serial call key answered between new → AreOneTurn between.made new.made → AnswersCall fast serial call key answered old new
  then_answered fast serial answered new few writes turn one =
      let stands = from_start serial answered.changed new turn.stands in
      let wide = longer lost.tries.spends.wide turn.spends.wide in
      let lost_fit : lost.tries.spends.words ≤ turns_cost losses (length wide.0) =
      omega (arith, lost.tries.spends.bound, turns_cost_rises losses (length lost.tries.spends.wide) (length wide.0) wide.1.first) in
      record {
        losses = losses;
        few = few;
        tries = record {
          spends = and_one new turn.spends;
          steps = turns_then losses old.made between.made new.made lost.tries.steps one;
          others = lost.tries.others;
        };
        stands = tried_stands serial call key answered.changed old new writes stands;
        tried = stands;
        width = record {
          row = turn.width.row;
          latest = latest_row-append lost.tries.spends.learned turn.spends.learned turn.width.row turn.width.latest;
          home = turn.width.home;
          counts = turn.width.counts;
          after = turn.width.after;
          bound = turn.width.bound;
        };
        spent = turn.spent ∙ lost.spent;
        reads = λ unchanged.
            let last = (turn.reads unchanged).0 in
            omega (arith, last, lost_fit, wide.1.second);
        unfilled = λ unchanged same.
            let none = ((turn.reads unchanged).1 (omega (arith, same, lost.tries.steps.no_fewer, one.no_fewer))).0 in
            omega (arith, none, lost_fit);
      }

  -- a turn that was refused for want of words, told from the start on
  out_of_words : (new : PassView) (turn : RefusesTurn call key between new) → WasSpent (lost.tries.spends.words + turn.spends.words) old new
      ⊎ OverdrewAfter (lost.tries.spends.words + turn.before) turn.last old new
  out_of_words new turn = ⊎_elim
      (λ (was : WasSpent turn.spends.words between new). inl (record {
        before = λ (none : old.spent ≡ None). was.before (lost.spent ∙ none);
        still = was.still ∙ lost.spent;
        none = ⊎_elim
            (λ (unspent : old.spent ≡ None). absurd (was.before (lost.spent ∙ unspent)))
            (λ (none : lost.tries.spends.words ≡ 0).
            let all : lost.tries.spends.words + turn.spends.words ≡ 0 = omega (arith, none, was.none) in all)
            lost.unspent;
      }))
      (λ (over : OverdrewAfter turn.before turn.last between new). inr (record {
        at = over.at;
        spent = over.spent;
        behind = let behind = over.behind in
            omega (arith, behind, ap (λ (facts : RoundFacts). facts.opened) lost.tries.spends.grows.facts, lost.tries.spends.grows.drawn);
        past = subst (λ (facts : RoundFacts). facts.cap < over.at + turn.last) lost.tries.spends.grows.facts over.past;
      }))
      turn.full

  -- It is refused.
  pub then_full : (fast : ℕ) (new : PassView) → losses < fast → RefusesTurn call key between new → AreOneTurn between.made new.made
      → RefusesCall fast call key old new
  then_full fast new few turn one = record {
    losses = losses;
    few = few;
    tries = record {
      spends = and_one new turn.spends;
      steps = turns_then losses old.made between.made new.made lost.tries.steps one;
      others = lost.tries.others;
    };
    own = own_then old between new lost.own turn.own;
    start = between;
    earlier = lost.tries;
    turn = turn;
    before = lost.tries.spends.words + turn.before;
    last = turn.last;
    words = omega (arith, turn.words);
    full = out_of_words new turn;
  }

  -- No further turn is made.
  pub all_lost : losses ≢ 0 → LosesCall losses call key old between
  all_lost some_lost = record {
    tries = lost.tries;
    own = lost.own;
    last = lost.last some_lost;
    unspent = lost.unspent;
    spent = lost.spent;
    others = lost.tries.others some_lost;
  }
