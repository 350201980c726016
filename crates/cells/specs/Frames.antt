-- What a step leaves of its pass's view, as one equation. Fields that later kinds of steps will change
-- are left open with those that today's change.
use Rattle.std.specs.Prelude.{◌≡◌, ℕ, ◌+◌}
use Rattle.step_core.specs.declared.views.PassView.{PassView}

-- loads change at most the front and the horizon, the known blocks and buckets, the lost turns, the open turn, and
-- what is noted of loads and beginnings
abbrev pub OnlyLoads : PassView → PassView → Type 0
OnlyLoads old new = new ≡ record old {
  front = new.front;
  horizon = new.horizon;
  known = new.known;
  filled = new.filled;
  lost = new.lost;
  turn = new.turn;
  marks = new.marks;
  heads = new.heads;
  nils = new.nils;
  trials = new.trials;
  fixed = new.fixed;
  events = new.events;
  begun = new.begun;
  won_since = new.won_since;
  cursor = new.cursor;
  made = new.made;
}

-- loads of sealed words change at most the front, what is known, and what is noted of loads
abbrev pub OnlyReads : PassView → PassView → Type 0
OnlyReads old new = new ≡ record old {
  front = new.front;
  known = new.known;
  marks = new.marks;
  trials = new.trials;
  fixed = new.fixed;
  made = new.made;
}

-- draws and writes change at most the blocks in hand, the words drawn, whether a draw passed the
-- end, and what is noted of beginnings
abbrev pub OnlyDraws : PassView → PassView → Type 0
OnlyDraws old new = new ≡ record old {
  hands = new.hands;
  drawn = new.drawn;
  spent = new.spent;
  events = new.events;
  begun = new.begun;
  won_since = new.won_since;
  cursor = new.cursor;
  made = new.made;
}

-- exchanges of rows change at most the front and the horizon, what is known, the blocks in hand, the pass's entries,
-- its turns and exchanges won, and what is noted of beginnings and events
abbrev pub OnlySwaps : PassView → PassView → Type 0
OnlySwaps old new = new ≡ record old {
  front = new.front;
  horizon = new.horizon;
  known = new.known;
  hands = new.hands;
  mine = new.mine;
  used = new.used;
  won = new.won;
  lost = new.lost;
  turn = new.turn;
  marks = new.marks;
  trials = new.trials;
  events = new.events;
  begun = new.begun;
  won_since = new.won_since;
  cursor = new.cursor;
  made = new.made;
}

-- learning from a note changes at most the front
abbrev pub OnlyLearns : PassView → PassView → Type 0
OnlyLearns old new = new ≡ record old { front = new.front; made = new.made }

-- the view after so many loads of sealed words that told nothing new
abbrev pub after_reads : ℕ → PassView → PassView
after_reads count view = record view {
  made = record view.made { sealed_loads = view.made.sealed_loads + count };
}
