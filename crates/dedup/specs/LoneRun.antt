-- The run of one worker as a function of its ids: what the ledger makes of them, round by round.
use Rattle.std.specs.Prelude.{◌≡◌, ℕ, ◌+◌, ◌-◌, ◌<◌, ◌&&◌, not, Bool, true, false, nat_lt, List, [], ◌∷◌, drop, length, slice_index, None}
use Rattle.set_model.specs.Keys.{is_in}
use Rattle.set_model.specs.declared.call.Call.TheVariants.{Insert}
use Rattle.set_model.specs.declared.entry.Entry.{Entry}
use Rattle.step_core.specs.Ledger.{Ledger, Outcome, answer_of, resize, width_of, write}
use Rattle.step_core.specs.Openings.{exponent_for, opening_words}
use Rattle.step_core.specs.Rising.{keys_after}
use Rattle.chain.specs.Chain.{RoundEnd}
use Rattle.dedup.specs.Growing.{may_grow, most_keys}

-- the ledger as a round begins that is opened with these keys and so much room
abbrev pub opened : ℕ → List ℕ → Ledger
opened room keys = record {
  keys = keys;
  exponent = exponent_for (length keys);
  untouched = λ bucket. false;
  next = opening_words 1 keys;
  cap = opening_words 1 keys + room;
  spent = None;
}

-- the table grows, or stays as it is
abbrev pub grown_where : Bool → Ledger → Ledger
grown_where true ledger = (resize (ledger.exponent + 1) ledger).ledger
grown_where false ledger = ledger

-- it grows after an insert that changed the set and left its bucket wide, unless the next table would
-- be too large for the room
abbrev pub after_insert : ℕ → Bool → ℕ → Ledger → Ledger
after_insert room changed width ledger =
    grown_where (changed && nat_lt most_keys width && may_grow ledger.exponent room) ledger

-- a round's only worker: its ledger, how many inserts it began, and whether the last was refused
pub record Serving : Type 0 where
  pub ledger : Ledger
  pub begun : ℕ
  pub refused : Bool

-- before the first insert
abbrev pub serving_none : ℕ → List ℕ → Serving
serving_none room keys = record { ledger = opened room keys; begun = 0; refused = false }

-- an insert of the key more, which was refused or not
abbrev pub serving_after : Bool → ℕ → ℕ → Serving → Outcome → Serving
serving_after true room key before outcome =
    record { ledger = outcome.ledger; begun = before.begun + 1; refused = true }
serving_after false room key before outcome = record {
  ledger = after_insert room (answer_of Insert key before.ledger) (width_of key outcome.ledger)
      outcome.ledger;
  begun = before.begun + 1;
  refused = false;
}

-- none is begun once one was refused
abbrev pub serve_where : Bool → ℕ → ℕ → Serving → Serving
serve_where true room key serving = serving
serve_where false room key serving =
    serving_after (write Insert key serving.ledger).full room key serving
    (write Insert key serving.ledger)

abbrev pub serve : ℕ → ℕ → Serving → Serving
serve room key serving = serve_where serving.refused room key serving

-- the inserts of these keys, in order
unfoldable pub served : ℕ → List ℕ → Serving → Serving
served room [] serving = serving
served room (key ∷ keys) serving = served room keys (serve room key serving)

-- the refused insert, as it is answered behind the round
abbrev pub refused_entry : List ℕ → Serving → Entry
refused_entry ids serving = record {
  who = 0;
  serial = serving.begun - 1;
  call = Insert;
  key = slice_index ids (serving.begun - 1);
  answer = not (is_in serving.ledger.keys (slice_index ids (serving.begun - 1)));
}

abbrev pub settled_where : Bool → List ℕ → Serving → List Entry
settled_where true ids serving = refused_entry ids serving ∷ []
settled_where false ids serving = []

-- the round's only worker ended so
pub record EndsLone (ids : List ℕ) (serving : Serving) (round : RoundEnd) : Type 0 where
  pub keys : round.closing.keys ≡ serving.ledger.keys
  pub exponent : round.closing.exponent ≡ serving.ledger.exponent
  pub next : round.closing.next ≡ serving.ledger.next
  pub settled : round.settled ≡ settled_where serving.refused ids serving

-- a round that is opened with the keys, while these ids are still to come
abbrev pub IsLoneRound : ℕ → List ℕ → List ℕ → RoundEnd → Type 0
IsLoneRound room keys ids round = EndsLone ids (served room ids (serving_none room keys)) round

-- what it leaves: the keys of the set, once it is settled,
abbrev pub keys_left : RoundEnd → List ℕ
keys_left round = keys_after round.closing.keys round.settled

-- and the ids whose inserts weren't begun
abbrev pub ids_left : ℕ → List ℕ → List ℕ → List ℕ
ids_left room keys ids = drop (served room ids (serving_none room keys)).begun ids

-- the rounds, one behind the other, from keys and ids that are still to come to others; each has some
unfoldable pub IsLoneRun : ℕ → List ℕ → List ℕ → List RoundEnd → List ℕ → List ℕ → Type 0
IsLoneRun room keys ids [] last left = (last ≡ keys) × (left ≡ ids)
IsLoneRun room keys ids (round ∷ rounds) last left =
    (0 < length ids) × IsLoneRound room keys ids round
    × IsLoneRun room (keys_left round) (ids_left room keys ids) rounds last left
