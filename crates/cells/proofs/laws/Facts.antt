-- What never changes in a round that begins with an opening is what the opening says.
use Rattle.std.proofs.Common.{◌≡◌, ℕ, ◌^◌, ◌≤◌, nat_eq, Bool, ◌||◌, List, [], ◌∷◌, length, refl, sym, ap, ◌∙◌, arith}
use Rattle.std.specs.List.Sorted.{IsStrictlyIncreasing}
use Rattle.std.specs.Cmp.{nat_cmp_total}
use Rattle.std.specs.FinSet as set
use Rattle.std.proofs.lemmas.List.Sorted.{IsPermutation-refl}
use Rattle.set_model.specs.Keys.{keys_set, is_in}
use Rattle.set_model.proofs.LawRising.{rising_list_is_one}
use Rattle.step_core.specs.Content.{HasMembers}
use Rattle.step_core.specs.Fits.{IsWellFormed}
use Rattle.step_core.specs.Openings.{opening_of, opening_words, opening_facts}
use Rattle.step_core.specs.Plain.{all_live_keys}
use Rattle.step_core.specs.declared.layout.Layout.{Layout}
use Rattle.step_core.specs.declared.layout.Plan.{Plan}
use Rattle.step_core.proofs.lists.Above.{Rises, increasing}
use Rattle.step_core.proofs.tables.Begins.{opening_fits}
use Rattle.step_core.proofs.tables.Live.{collected_members}
use Rattle.step_core.proofs.tables.Opened.{opening_is_table, opening_members}
use Rattle.step_core.proofs.tables.Written.{length-opening_of}
use Rattle.step_core.proofs.lists.Rising.{rises-with_key, is_in-with_key}
use Rattle.step_core.proofs.tables.Members.{table_plain}
use Rattle.cells.specs.Begins.{IsOpeningOf}
use Rattle.cells.specs.Begins.{rising_keys, opening_keys, facts_from}

-- the keys of a list, each once, rise
pub rises-rising_keys : (keys : List ℕ) → Rises (rising_keys keys)
unfolding rising_keys
rises-rising_keys [] = tt
rises-rising_keys (key ∷ keys) = rises-with_key key (rising_keys keys) (rises-rising_keys keys)

-- and are those of the list
pub is_in-rising_keys : (keys : List ℕ) (key : ℕ) → is_in (rising_keys keys) key ≡ is_in keys key
unfolding rising_keys
is_in-rising_keys [] key = refl
is_in-rising_keys (first ∷ keys) key =
    is_in-with_key first (rising_keys keys) key
    ∙ ap (λ (b : Bool). nat_eq first key || b) (is_in-rising_keys keys key)

-- two lists whose members are those of the same words
pub rising_keys-members : (words found keys : List ℕ) → IsStrictlyIncreasing keys → HasMembers words (keys_set found)
    → HasMembers words (keys_set keys) → rising_keys found ≡ keys
rising_keys-members words found keys rising finds has =
    rising_list_is_one (rising_keys found) keys (increasing (rising_keys found) (rises-rising_keys found)) rising
    (set.same_set nat_cmp_total set.nat_cmp-IsAntisymmetric (keys_set (rising_keys found)) (keys_set keys) (λ key.
    set.contains-from_list_nat (rising_keys found) key
    ∙ is_in-rising_keys found key
    ∙ sym (set.contains-from_list_nat found key)
    ∙ finds key
    ∙ sym (has key)))

module _ (seats cap : ℕ) (keys : List ℕ) (rising : IsStrictlyIncreasing keys) (few : length keys ≤ 2 ^ 24)
    (fits : opening_words seats keys ≤ cap) where
  -- the words of the opening
  abbrev words : List ℕ
  words = opening_of seats cap keys

  -- the keys that its rows have
  abbrev found : List ℕ
  found = all_live_keys words

  -- they are the members of its set
  opening_finds : HasMembers words (keys_set found)
  opening_finds =
      let fit = opening_fits seats cap keys rising few fits in
      let well : IsWellFormed words = (seats, _, fit.holds) in
      collected_members words well (table_plain (opening_is_table seats cap keys rising few fits)) found
      (IsPermutation-refl found)

  -- the rows of an opening have its keys
  pub opening_keys-opening : opening_keys words ≡ keys
  opening_keys-opening =
      rising_keys-members words found keys rising opening_finds (opening_members seats cap keys rising few fits)

  -- and so the facts from its words are its own
  pub facts_from-opening_of : facts_from seats words ≡ opening_facts seats cap keys
  facts_from-opening_of =
      let long = length-opening_of seats cap keys fits in
      λ i. record {
        seats = seats;
        cap = long i;
        opened = opening_words seats keys;
        keys = opening_keys-opening i;
      }

-- the facts from the words of an opening are the opening's
pub facts_from-opening : (words : List ℕ) (layout : Layout) (plan : Plan) (keys : List ℕ)
    → IsOpeningOf words layout plan keys → facts_from layout.seats words ≡ opening_facts layout.seats layout.cap keys
facts_from-opening words layout plan keys is =
    ap (facts_from layout.seats) is.laid_out
    ∙ facts_from-opening_of layout.seats layout.cap keys is.rising is.few (omega (arith, is.room))
