-- The refused calls of a round's workers, and the settled entries that answer them.
use Rattle.std.proofs.Common.{◌≡◌, ℕ, zero, suc, ◌+◌, ◌-◌, ◌<◌, Bool, true, false, if◌then◌else◌, List, [], ◌∷◌, ◌++◌, length, map, slice_index, slice_index_or, refl, sym, ap, ◌∙◌, subst, arith}
use Rattle.std.specs.List.{All, Any, Contains}
use Rattle.std.specs.List.Sorted.{IsStrictlyIncreasing}
use Rattle.std.proofs.lemmas.List.{get_or-map, get_or_default, length-map}
use Rattle.std.proofs.lemmas.List.Elements.{All-append, All-cons, All-map, All-nil, All-weaker, Contains-append_left, Contains-append_right}
use Rattle.set_model.specs.declared.call.Call.TheVariants.{Insert}
use Rattle.set_model.specs.declared.entry.Entry.{Entry}
use Rattle.chain.specs.Chain.{Asked, asked_at}
use Rattle.chain.specs.Workers.{AreSettled, HandedIn, RefusedCall, call_answered, refused_by, refused_from}

-- an entry, where some entry is asked for
abbrev pub no_entry : Entry
no_entry = record { who = 0; serial = 0; call = Insert; key = 0; answer = false }

-- a worker that handed nothing in
abbrev pub no_hand : HandedIn
no_hand = record { made = []; refused = false }

-- what the worker at the place handed in
abbrev pub hand_at : List HandedIn → ℕ → HandedIn
hand_at hands place = slice_index_or hands place no_hand

-- the last call of a worker
abbrev pub last_call : List Asked → ℕ → HandedIn → RefusedCall
last_call asked who hand = record {
  who = who;
  serial = length hand.made - 1;
  asked = asked_at asked (slice_index hand.made (length hand.made - 1));
}

-- the call is the last of a worker whose last was refused, the workers counted from a number on
pub record IsLastOf (asked : List Asked) (first : ℕ) (hands : List HandedIn) (call : RefusedCall) : Type 0 where
  pub place : ℕ
  pub within : place < length hands
  pub refused : (hand_at hands place).refused ≡ true
  pub same : call ≡ last_call asked (first + place) (hand_at hands place)

either_all : (P : RefusedCall → Type 0) (refused : Bool) (call : RefusedCall) → (refused ≡ true → P call)
    → All P (if refused then call ∷ [] else [])
either_all P true call holds = All-cons P call [] (holds refl) (All-nil P)
either_all P false call holds = All-nil P

-- each refused call is such a one
pub refused_are : (asked : List Asked) (first : ℕ) (hands : List HandedIn)
    → All (IsLastOf asked first hands) (refused_from asked first hands)
refused_are asked first [] = All-nil (IsLastOf asked first [])
refused_are asked first (hand ∷ hands) =
    let Is : RefusedCall → Type 0 = IsLastOf asked first (hand ∷ hands) in
    let rest = refused_from asked (first + 1) hands in
    let here : first ≡ first + 0 = omega arith in
    All-append Is (refused_by asked first hand) rest (either_all Is hand.refused (last_call asked first hand) (λ refused. record {
      place = 0;
      within = omega arith;
      refused = refused;
      same = ap (λ who. last_call asked who hand) here;
    })) (All-weaker (IsLastOf asked (first + 1) hands) Is (λ call is.
    let further : first + 1 + is.place ≡ first + suc is.place = omega arith in
    record {
      place = suc is.place;
      within = omega (arith, is.within);
      refused = is.refused;
      same = is.same ∙ ap (λ who. last_call asked who (hand_at hands is.place)) further;
    }) rest (refused_are asked (first + 1) hands))

rises-cons : (x : ℕ) (xs : List ℕ) → All (λ y. x < y) xs → IsStrictlyIncreasing xs → IsStrictlyIncreasing (x ∷ xs)
rises-cons x xs above rises zero less = above 0 0 (omega (arith, less))
rises-cons x xs above rises (suc k) less =
    let next : suc (k + 1) ≡ suc k + 1 = omega arith in
    subst (λ n. slice_index (x ∷ xs) (suc k) < slice_index (x ∷ xs) n) next (rises k (omega (arith, less)))

either_rises : (refused : Bool) (call : RefusedCall) (rest : List RefusedCall) → All (λ other. call.who < other.who) rest
    → IsStrictlyIncreasing (map (λ other. other.who) rest)
    → IsStrictlyIncreasing (map (λ other. other.who) ((if refused then call ∷ [] else []) ++ rest))
either_rises true call rest above rises =
    rises-cons call.who (map (λ other. other.who) rest) (All-map (λ who. call.who < who) (λ other. other.who) rest above) rises
either_rises false call rest above rises = rises

-- their workers rise
pub refused_rise : (asked : List Asked) (first : ℕ) (hands : List HandedIn)
    → IsStrictlyIncreasing (map (λ call. call.who) (refused_from asked first hands))
refused_rise asked first [] = λ k less. absurd (omega (arith, less))
refused_rise asked first (hand ∷ hands) =
    let rest = refused_from asked (first + 1) hands in
    let above = All-weaker (IsLastOf asked (first + 1) hands) (λ other. first < other.who)
    (λ call is. omega (arith, ap (λ (c : RefusedCall). c.who) is.same)) rest (refused_are asked (first + 1) hands) in
    either_rises hand.refused (last_call asked first hand) rest above (refused_rise asked (first + 1) hands)

either_contains : (refused : Bool) (call : RefusedCall) → refused ≡ true → Contains (if refused then call ∷ [] else []) call
either_contains true call is = (0, omega arith, refl)
either_contains false call is = absurd cc

-- the last call of a worker whose last was refused is among them
pub refused_contains : (asked : List Asked) (first : ℕ) (hands : List HandedIn) (place : ℕ) → place < length hands
    → (hand_at hands place).refused ≡ true
    → Contains (refused_from asked first hands) (last_call asked (first + place) (hand_at hands place))
refused_contains asked first [] place within refused = absurd (omega (arith, within))
refused_contains asked first (hand ∷ hands) zero within refused =
    let rest = refused_from asked (first + 1) hands in
    let here : first ≡ first + 0 = omega arith in
    subst (λ who. Contains (refused_from asked first (hand ∷ hands)) (last_call asked who hand)) here
    (Contains-append_left (refused_by asked first hand) rest (last_call asked first hand)
    (either_contains hand.refused (last_call asked first hand) refused))
refused_contains asked first (hand ∷ hands) (suc place) within refused =
    let rest = refused_from asked (first + 1) hands in
    let its = hand_at hands place in
    let further : first + 1 + place ≡ first + suc place = omega arith in
    subst (λ who. Contains (refused_from asked first (hand ∷ hands)) (last_call asked who its)) further
    (Contains-append_right (refused_by asked first hand) rest (last_call asked (first + 1 + place) its)
    (refused_contains asked (first + 1) hands place (omega (arith, within)) refused))

-- the entry answers the last call of its worker, which was refused
pub record AnswersLast (asked : List Asked) (hands : List HandedIn) (entry : Entry) : Type 0 where
  pub worker : entry.who < length hands
  pub refused : (hand_at hands entry.who).refused ≡ true
  pub same : call_answered entry ≡ last_call asked entry.who (hand_at hands entry.who)

answers_last : (asked : List Asked) (hands : List HandedIn) (entry : Entry) → IsLastOf asked 0 hands (call_answered entry)
    → AnswersLast asked hands entry
answers_last asked hands entry last =
    let number : entry.who ≡ 0 + last.place = ap (λ (c : RefusedCall). c.who) last.same in
    let who : last.place ≡ entry.who = omega (arith, number) in
    record {
      worker = omega (arith, last.within, who);
      refused = subst (λ w. (hand_at hands w).refused ≡ true) who last.refused;
      same = last.same
          ∙ ap (λ w. last_call asked w (hand_at hands last.place)) (sym number)
          ∙ ap (λ w. last_call asked entry.who (hand_at hands w)) who;
    }

map_who : (entries : List Entry) → map (λ call. call.who) (map call_answered entries) ≡ map (λ entry. entry.who) entries
map_who [] = refl
map_who (entry ∷ rest) = ap (λ numbers. entry.who ∷ numbers) (map_who rest)

module _ (asked : List Asked) (hands : List HandedIn) (members : ℕ → Bool) (settled : List Entry)
    (are : AreSettled asked hands members settled) where
  -- the workers of the settled entries rise
  pub settled_rise : IsStrictlyIncreasing (map (λ entry. entry.who) settled)
  settled_rise =
      subst IsStrictlyIncreasing (ap (λ calls. map (λ (c : RefusedCall). c.who) calls) (sym are.calls) ∙ map_who settled)
      (refused_rise asked 0 hands)

  -- each answers the last call of its worker
  pub settled_answer : All (AnswersLast asked hands) settled
  settled_answer k d within =
      let entry = slice_index_or settled k d in
      let call = call_answered entry in
      let at : slice_index_or (refused_from asked 0 hands) k call ≡ call =
      ap (λ calls. slice_index_or calls k call) (sym are.calls) ∙ get_or-map call_answered settled k d call within in
      let inside : k < length (refused_from asked 0 hands) =
      omega (arith, within, length-map settled call_answered, ap length are.calls) in
      answers_last asked hands entry (subst (IsLastOf asked 0 hands) at (refused_are asked 0 hands k call inside))

  -- and each refused call has its entry
  pub settled_has : (who : ℕ) → who < length hands → (hand_at hands who).refused ≡ true
      → Any (λ entry. call_answered entry ≡ last_call asked who (hand_at hands who)) settled
  settled_has who within refused =
      let call = last_call asked who (hand_at hands who) in
      let from : 0 + who ≡ who = omega arith in
      let among = subst (λ w. Contains (refused_from asked 0 hands) (last_call asked w (hand_at hands who))) from
      (refused_contains asked 0 hands who within refused) in
      let found : Contains (map call_answered settled) call = subst (λ calls. Contains calls call) (sym are.calls) among in
      let inside : found.0 < length settled = omega (arith, found.1, length-map settled call_answered) in
      let entry = slice_index_or settled found.0 no_entry in
      let at = get_or-map call_answered settled found.0 no_entry call inside in
      (found.0, entry, inside, get_or_default settled found.0 entry no_entry inside, sym at ∙ found.2)
