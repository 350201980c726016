-- Histories of inserts alone: what they leave in the set, and the keys of those that changed it.
use Rattle.std.proofs.Common.{◌≡◌, ℕ, zero, suc, ◌==◌, ◌||◌, ◌&&◌, Bool, true, false, not, cond, nat_eq, List, [], ◌∷◌, take, map, refl, sym, ap, ◌∙◌, arith}
use Rattle.std.specs.List.{AllByRecursion, IsDistinct, filter}
use Rattle.std.specs.Cmp.{nat_eq_equiv}
use Rattle.std.proofs.lemmas.Bool.{or_left, or_right, or_parts}
use Rattle.std.proofs.lemmas.Bool.Decides.{nat_tests}
use Rattle.std.proofs.lemmas.Map.Keys.{IsDistinct-cons}
use Rattle.set_model.specs.Call.{answer_where, members_after_call}
use Rattle.set_model.specs.History.{IsLegal, members_after}
use Rattle.set_model.specs.Keys.{is_in}
use Rattle.set_model.specs.declared.call.Call.{Call}
use Rattle.set_model.specs.declared.call.Call.TheVariants.{Insert}
use Rattle.set_model.specs.declared.entry.Entry.{Entry}
use Rattle.chain.specs.Changing.{is_changing, is_insert}

-- the entry is an insert
abbrev pub IsInsert : Entry → Type 0
IsInsert entry = entry.call ≡ Insert

-- the keys of the entries
abbrev pub entry_keys : List Entry → List ℕ
entry_keys entries = map (λ entry. entry.key) entries

-- the keys of those that changed the set
abbrev pub changing_keys : List Entry → List ℕ
changing_keys entries = entry_keys (filter is_changing entries)

-- an insert adds its key
after_insert : (call : Call) (key : ℕ) (members : ℕ → Bool) (other : ℕ) → call ≡ Insert
    → members_after_call call key members other ≡ (other == key || members other)
unfolding members_after_call
after_insert call key members other is = ap (λ c. members_after_call c key members other) is

or_none : (here : Bool) → here ≡ (here || false)
or_none true = refl
or_none false = refl

added : (key other : ℕ) (here later : Bool) → ((other == key || here) || later) ≡ (here || (nat_eq key other || later))
added key other here later = grind (arith, nat_tests)

-- after inserts the members are the old ones and the keys
pub members_after-inserts : (members : ℕ → Bool) (entries : List Entry) (key : ℕ) → AllByRecursion IsInsert entries
    → members_after members entries key ≡ (members key || is_in (entry_keys entries) key)
members_after-inserts members [] key all = or_none (members key)
members_after-inserts members (entry ∷ rest) key all =
    members_after-inserts (members_after_call entry.call entry.key members) rest key all.1
    ∙ ap (λ here. here || is_in (entry_keys rest) key) (after_insert entry.call entry.key members key all.0)
    ∙ added entry.key key (members key) (is_in (entry_keys rest) key)

-- a member stays one
pub inserts_keep : (members : ℕ → Bool) (entries : List Entry) (key : ℕ) → AllByRecursion IsInsert entries
    → members key ≡ true → members_after members entries key ≡ true
inserts_keep members entries key all here =
    members_after-inserts members entries key all ∙ or_left (members key) (is_in (entry_keys entries) key) here

-- a key that is put in is one
pub inserts_add : (members : ℕ → Bool) (entries : List Entry) (key : ℕ) → AllByRecursion IsInsert entries
    → is_in (entry_keys entries) key ≡ true → members_after members entries key ≡ true
inserts_add members entries key all here =
    members_after-inserts members entries key all ∙ or_right (members key) (is_in (entry_keys entries) key) here

-- a member at a place of the history is one at its end
pub inserts_keep_from : (members : ℕ → Bool) (entries : List Entry) (place key : ℕ) → AllByRecursion IsInsert entries
    → members_after members (take place entries) key ≡ true → members_after members entries key ≡ true
inserts_keep_from members entries zero key all here = inserts_keep members entries key all here
inserts_keep_from members [] (suc place) key all here = here
inserts_keep_from members (entry ∷ rest) (suc place) key all here =
    inserts_keep_from (members_after_call entry.call entry.key members) rest place key all.1 here

-- an insert of a legal history changed the set where its key was absent
changing_where : (members : ℕ → Bool) (entry : Entry) → IsInsert entry
    → entry.answer ≡ answer_where entry.call (members entry.key) → is_changing entry ≡ not (members entry.key)
changing_where members entry is answer =
    ap (λ c. is_insert c && entry.answer) is ∙ answer ∙ ap (λ c. answer_where c (members entry.key)) is

is_in-either : (changes : Bool) (entry : Entry) (later : List Entry) (key : ℕ)
    → is_in (entry_keys (cond changes (entry ∷ later) later)) key
    ≡ (changes && nat_eq entry.key key || is_in (entry_keys later) key)
is_in-either true entry later key = refl
is_in-either false entry later key = refl

new_or_later : (members : ℕ → Bool) (key other : ℕ) (later : Bool)
    → (not (members key) && nat_eq key other || (later && not (other == key || members other)))
    ≡ ((nat_eq key other || later) && not (members other))
new_or_later members key other later = grind (arith, nat_tests)

-- the changing keys are those that were absent
pub changing_keys-absent : (members : ℕ → Bool) (entries : List Entry) (key : ℕ) → AllByRecursion IsInsert entries
    → IsLegal members entries → is_in (changing_keys entries) key ≡ (is_in (entry_keys entries) key && not (members key))
changing_keys-absent members [] key all legal = refl
changing_keys-absent members (entry ∷ rest) key all legal =
    let after = members_after_call entry.call entry.key members in
    is_in-either (is_changing entry) entry (filter is_changing rest) key
    ∙ ap (λ b. b && nat_eq entry.key key || is_in (changing_keys rest) key) (changing_where members entry all.0 legal.0)
    ∙ ap (λ b. not (members entry.key) && nat_eq entry.key key || b) (changing_keys-absent after rest key all.1 legal.1)
    ∙ ap (λ b. not (members entry.key) && nat_eq entry.key key || (is_in (entry_keys rest) key && not b))
    (after_insert entry.call entry.key members key all.0)
    ∙ new_or_later members entry.key key (is_in (entry_keys rest) key)

added_once : (here later : Bool) → (here || later) ≡ (here || (later && not here))
added_once true later = refl
added_once false true = refl
added_once false false = refl

-- and with the old members they are the members after the history
pub members_after-changing : (members : ℕ → Bool) (entries : List Entry) (key : ℕ) → AllByRecursion IsInsert entries
    → IsLegal members entries → members_after members entries key ≡ (members key || is_in (changing_keys entries) key)
members_after-changing members entries key all legal =
    members_after-inserts members entries key all
    ∙ added_once (members key) (is_in (entry_keys entries) key)
    ∙ ap (λ b. members key || b) (sym (changing_keys-absent members entries key all legal))

apart : (key : ℕ) (keys : List ℕ) → is_in keys key ≡ false → AllByRecursion (λ y. nat_eq key y ≡ false) keys
apart key [] absent = tt
apart key (first ∷ keys) absent =
    let parts = or_parts (nat_eq first key) (is_in keys key) absent in
    (nat_eq_equiv.symm key first ∙ parts.0, apart key keys parts.1)

not_again : (key : ℕ) (here later : Bool) → (later && not (key == key || here)) ≡ false
not_again key here later = grind (arith, nat_tests)

distinct-either : (changes : Bool) (entry : Entry) (later : List Entry) → is_in (entry_keys later) entry.key ≡ false
    → IsDistinct nat_eq (entry_keys later) → IsDistinct nat_eq (entry_keys (cond changes (entry ∷ later) later))
distinct-either true entry later absent differ =
    IsDistinct-cons nat_eq entry.key (entry_keys later) (apart entry.key (entry_keys later) absent) differ
distinct-either false entry later absent differ = differ

-- the changing keys differ from one another
pub changing_keys-differ : (members : ℕ → Bool) (entries : List Entry) → AllByRecursion IsInsert entries
    → IsLegal members entries → IsDistinct nat_eq (changing_keys entries)
unfolding IsDistinct
changing_keys-differ members [] all legal = tt
changing_keys-differ members (entry ∷ rest) all legal =
    let after = members_after_call entry.call entry.key members in
    let absent = changing_keys-absent after rest entry.key all.1 legal.1
    ∙ ap (λ b. is_in (entry_keys rest) entry.key && not b) (after_insert entry.call entry.key members entry.key all.0)
    ∙ not_again entry.key (members entry.key) (is_in (entry_keys rest) entry.key) in
    distinct-either (is_changing entry) entry (filter is_changing rest) absent (changing_keys-differ after rest all.1 legal.1)
