-- The draw for a row ends as the ledger of a pass that is the only one says; loads that tell nothing new and writes leave that ledger.
use Rattle.std.proofs.Common.{◌≡◌, ◌≢◌, ℕ, ◌+◌, nat_le, Bool, true, false, List, length, Option, Some, None, is_some, Result, Ok, Err, IfOk, IfErr, is_err, refl, sym, ap, ◌∙◌, subst, arith, add_assoc}
use Rattle.std.proofs.lemmas.Bool.Decides.{nat_tests}
use Rattle.set_model.specs.History.{members_after}
use Rattle.set_model.specs.Keys.{is_in}
use Rattle.std.specs.List.Sorted.{IsStrictlyIncreasing}
use Rattle.step_core.specs.Ledger.{Ledger, Outcome, drawing, drawing_where}
use Rattle.step_core.specs.declared.views.PassView.{PassView}
use Rattle.step_core.specs.declared.views.RoundFacts.{RoundFacts}
use Rattle.step_core.proofs.lists.Histories.{IsStrictlyIncreasing-after, is_in-after}
use Rattle.cells.specs.Frames.{after_reads}
use Rattle.cells.specs.Lone.{ledger_of, EndsAlone, EndsAs, SameLedger}
use Rattle.cells.specs.Sound.{IsSound}
use Rattle.cells.specs.Steps.{Draws, Overdraws, RefusesDraw, Writes}
use Rattle.cells.specs.Tokens.{BlockValue}
use Rattle.cells.proofs.laws.Drawing.{draw_spent}
use Rattle.cells.proofs.laws.Lone.{ledger_of-keys}
use Rattle.cells.proofs.laws.Outcomes.{ends_from}
use Rattle.fset.specs.Frames.{row_cost}
use Rattle.fset.specs.Rows.{Builds, RefusesRow}

-- A pass that is the only one of its round is so later.
pub still_alone : (old new : PassView) → new.facts ≡ old.facts → old.facts.seats ≡ 1 → new.facts.seats ≡ 1
still_alone old new facts alone = ap (λ (f : RoundFacts). f.seats) facts ∙ alone

-- What leaves the ledger twice leaves it.
pub same_then : (old between new : PassView) → SameLedger old between → SameLedger between new → SameLedger old new
same_then old between new one two = record { front = two.front ∙ one.front; ledger = two.ledger ∙ one.ledger }

-- Loads of sealed words that tell nothing new leave it.
pub reads_same : (loads : ℕ) (view : PassView) → SameLedger view (after_reads loads view)
unfolding ledger_of
reads_same loads view = record { front = refl; ledger = refl }

-- So do writes.
writes_same : (at offset : ℕ) (values : List ℕ) (old new : PassView) → Writes at offset values old new → ledger_of new ≡ ledger_of old
unfolding ledger_of
writes_same at offset values old new writes = ap ledger_of writes.only

-- The keys of the ledger are those that the set after the front has,
pub ledger_has : (view : PassView) (key : ℕ) → IsSound view → is_in (ledger_of view).keys key ≡ members_after (is_in view.facts.keys) view.front key
ledger_has view key sound =
    ap (λ (keys : List ℕ). is_in keys key) (ledger_of-keys view) ∙ is_in-after view.facts.keys view.front sound.facts.rising key

-- rising.
pub ledger_rises : (view : PassView) → IsSound view → IsStrictlyIncreasing (ledger_of view).keys
ledger_rises view sound = subst IsStrictlyIncreasing (sym (ledger_of-keys view)) (IsStrictlyIncreasing-after view.facts.keys view.front sound.facts.rising)

-- an outcome of which it is known how it is
ends_as : (spent : Option ℕ) (fits full : Bool) (len : ℕ) (old new : PassView) → (ledger_of old).spent ≡ spent
    → nat_le ((ledger_of old).next + len) (ledger_of old).cap ≡ fits → full ≡ (drawing_where spent fits len (ledger_of old)).full
    → ledger_of new ≡ (drawing_where spent fits len (ledger_of old)).ledger → EndsAs (drawing len (ledger_of old)) full new
ends_as spent fits full len old new is test is_full ledger =
    subst (λ (z : Option ℕ × Bool). EndsAs (drawing_where z.0 z.1 len (ledger_of old)) full new) (λ i. (sym is i, sym test i))
    (record { is_full = is_full; ledger = ledger })

-- A draw that gave a block ends so,
draws_end : (old : PassView) (at len : ℕ) (new : PassView) → Draws old at len new → EndsAlone (drawing len) false old new
unfolding ledger_of
draws_end old at len new draws alone =
    let ledger : Ledger = ledger_of old in
    let place : at ≡ ledger.next = draws.found.alone alone in
    let within = draws.within in
    let test : nat_le (ledger.next + len) ledger.cap ≡ true = grind (arith, nat_tests) in
    ends_as None true false len old new draws.unspent test refl
    (ap ledger_of draws.view ∙ (λ i. record ledger { next = sym (add_assoc old.facts.opened old.drawn len) i }))

-- and so does one that passed the end,
overdraws_end : (old : PassView) (at len : ℕ) (new : PassView) → old.spent ≡ None → Overdraws old at len new → EndsAlone (drawing len) true old new
unfolding ledger_of
overdraws_end old at len new unspent draws alone =
    let ledger : Ledger = ledger_of old in
    let place : at ≡ ledger.next = draws.found.alone alone in
    let past = draws.past in
    let test : nat_le (ledger.next + len) ledger.cap ≡ false = grind (arith, nat_tests) in
    ends_as None false true len old new unspent test refl
    (ap ledger_of draws.view
    ∙ (λ i. record ledger { next = sym (add_assoc old.facts.opened old.drawn len) i; spent = Some (place i) }))

-- or that was refused, since the pass was spent.
refused_by : (spent : Option ℕ) (old : PassView) (len : ℕ) (new : PassView) → old.spent ≡ spent → RefusesDraw old len new
    → EndsAlone (drawing len) true old new
refused_by None old len new was full alone =
    let over = full.overdrew was in overdraws_end old over.0 len new was over.1 alone
refused_by (Some place) old len new was full alone =
    let some : old.spent ≢ None = λ (none : old.spent ≡ None). (let clash : Some place ≡ None = sym was ∙ none in cc) in
    subst (EndsAs (drawing len (ledger_of old)) true) (sym (full.spent some)) (draw_spent old len (ap is_some was))

pub refused_ends : (old : PassView) (len : ℕ) (new : PassView) → RefusesDraw old len new → EndsAlone (drawing len) true old new
refused_ends old len new full = refused_by old.spent old len new refl full

-- So does the draw of a row that was written then.
pub row_ends : (old : PassView) (at len : ℕ) (between : PassView) (loads : ℕ) (values : List ℕ) (new : PassView) → Draws old at len between
    → Writes at 0 values (after_reads loads between) new → EndsAlone (drawing len) false old new
row_ends old at len between loads values new draws writes alone =
    let ends = draws_end old at len between draws alone in
    record {
      is_full = ends.is_full;
      ledger = writes_same at 0 values (after_reads loads between) new writes ∙ (reads_same loads between).ledger ∙ ends.ledger;
    }

-- How a part of a call ended, so it did from before loads that told nothing new.
pub ends_after_reads : (part : Ledger → Outcome) (full : Bool) (loads : ℕ) (old new : PassView) → EndsAlone part full (after_reads loads old) new
    → EndsAlone part full old new
ends_after_reads part full loads old new ends alone =
    ends_from part full old (after_reads loads old) new (reads_same loads old) (ends alone)

-- However the building of a row ends, its draw does.
pub builds_end : {E : Type 0} (keys : List ℕ) (old new : PassView) (r : Result BlockValue E) → IfOk r (λ block. Builds keys block old new)
    → IfErr r (λ _. RefusesRow keys old new) → EndsAlone (drawing (row_cost (length keys))) (is_err r) old new
builds_end keys old new (Ok block) built refused = built.alone
builds_end keys old new (Err e) built refused = refused.alone
