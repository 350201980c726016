-- Loading the number of a known row's keys or one of them tells nothing new, and what was read stays true while more becomes known.
use Rattle.std.proofs.Common.{◌≡◌, ◌≢◌, ℕ, ◌+◌, ◌<◌, List, [], ◌∷◌, ◌++◌, length, inr, refl, sym, ap, ◌∙◌, subst, add-zero, add_assoc, Bool, cond, eq-eqb, Contains, arith}
use Rattle.std.proofs.lemmas.List.Elements.{Contains-append_right}
use Rattle.set_model.specs.Keys.{is_in}
use Rattle.step_core.specs.Members.{keys_with_op}
use Rattle.step_core.specs.declared.format.TheConstants.{FIRST_KEY}
use Rattle.step_core.specs.declared.published.Published.TheVariants.{Row, Op}
use Rattle.step_core.specs.declared.published.RowBlock.{RowBlock}
use Rattle.step_core.specs.declared.views.Known.{Known}
use Rattle.step_core.specs.declared.views.FixedCell.{FixedCell}
use Rattle.step_core.specs.declared.views.PassView.{PassView}
use Rattle.step_core.specs.declared.views.StepCounts.{StepCounts}
use Rattle.cells.specs.Exchanges.{list_with_op}
use Rattle.cells.specs.Frames.{OnlyReads, after_reads}
use Rattle.cells.specs.Known.{known_block, KnowsRow, block_at, row_at, keys_at}
use Rattle.cells.specs.Sound.{IsSound}
use Rattle.cells.specs.Steps.{AgreesAtFront, LoadsSealed}
use Rattle.cells.proofs.laws.Known.{row_stays}
use Rattle.cells.proofs.laws.HeadLoads.{load_sealed_known, load_sealed_still}
use Rattle.cells.proofs.laws.Sealed.{row_count, row_op}
use Rattle.fset.specs.Content.{seen_content, seen_keys}
use Rattle.fset.specs.Frames.{Grows}
use Rattle.fset.specs.Seen.{KnowsRowAt, HasResult, IsSeen, ReadsRow, fixed_result}
use Rattle.fset.specs.declared.seen.Seen.{Seen}
use Rattle.fset.proofs.laws.AloneRows.{reads_same, same_then}
use Rattle.fset.proofs.laws.Frames.{behind_self}

-- So many loads of sealed words more.
abbrev more_loads : ℕ → StepCounts → StepCounts
more_loads count made = record made { sealed_loads = made.sealed_loads + count }

-- None more, and some more and then others.
more_loads-none : (made : StepCounts) → more_loads 0 made ≡ made
more_loads-none made = λ i. record made { sealed_loads = add-zero made.sealed_loads i }

more_loads-both : (first second : ℕ) (made : StepCounts) → more_loads second (more_loads first made) ≡ more_loads (first + second) made
more_loads-both first second made = λ i. record made { sealed_loads = add_assoc made.sealed_loads first second i }

-- A view after no load and after loads that follow each other.
pub after_reads-none : (view : PassView) → after_reads 0 view ≡ view
after_reads-none view = λ i. record view { made = more_loads-none view.made i }

pub after_reads-both : (first second : ℕ) (view : PassView) → after_reads second (after_reads first view) ≡ after_reads (first + second) view
after_reads-both first second view = λ i. record view { made = more_loads-both first second view.made i }

-- A row's words, read, are those of the row that the pass knows.
is_seen : (view : PassView) (seen : Seen) (row : RowBlock) → KnowsRow view seen.at row → row_at view.known seen.at ≡ row
    → seen.count ≡ length row.keys → seen.op ≡ row.op → HasResult view seen.op seen.result → IsSeen view seen
is_seen view seen row known same count op result = record {
  known = subst (KnowsRow view seen.at) (sym same) known;
  count = count ∙ ap (λ (row : RowBlock). length row.keys) (sym same);
  op = op ∙ ap (λ (row : RowBlock). row.op) (sym same);
  result = result;
}

-- A row as it was read is so still when more is known of blocks and of results.
pub seen_stays : (learned : List Known) (settled : List FixedCell) (old new : PassView) (seen : Seen) → IsSound new
    → new.known ≡ learned ++ old.known → new.fixed ≡ settled ++ old.fixed → IsSeen old seen → IsSeen new seen
seen_stays learned settled old new seen sound more fixed agrees =
    let row = row_at old.known seen.at in
    let stays = row_stays learned old new sound more seen.at row agrees.known in
    is_seen new seen row stays.0 stays.1 agrees.count agrees.op (record {
      none = agrees.result.none;
      settled = λ some_result. subst (λ (list : List FixedCell). Contains list (fixed_result seen.op seen.result)) (sym fixed)
          (Contains-append_right settled old.fixed (fixed_result seen.op seen.result) (agrees.result.settled some_result));
    })

-- A row without an operation has its keys as content.
pub seen_content-plain : (view : PassView) (seen : Seen) (key : ℕ) → seen.op ≡ 0
    → seen_content view seen key ≡ is_in (keys_at view seen.at) key
seen_content-plain view seen key plain =
    let keys : ℕ → Bool = is_in (keys_at view seen.at) in
    ap (λ (b : Bool). cond b keys (keys_with_op (block_at view.known seen.op) seen.result keys) key) (eq-eqb seen.op 0 plain)

-- The same as a rising list.
pub seen_keys-plain : (view : PassView) (seen : Seen) → seen.op ≡ 0 → seen_keys view seen ≡ keys_at view seen.at
seen_keys-plain view seen plain =
    let keys = keys_at view seen.at in
    ap (λ (b : Bool). cond b keys (list_with_op (block_at view.known seen.op) seen.result keys)) (eq-eqb seen.op 0 plain)

-- So far no row has an operation, so its content is its keys, also after loads that told nothing new.
pub seen_keys_are : (loads : ℕ) (old new : PassView) (seen : Seen) → IsSound old → IsSeen old seen → new ≡ after_reads loads old
    → seen_keys old seen ≡ keys_at new seen.at
seen_keys_are loads old new seen sound agrees same =
    seen_keys-plain old seen (agrees.op ∙ sound.no_op seen.at (row_at old.known seen.at) agrees.known)
    ∙ sym (ap (λ (view : PassView). keys_at view seen.at) same)

module _ (at : ℕ) (old : PassView) (known : KnowsRowAt old at) (word : ℕ) (new : PassView) where
  -- a load of a word that isn't the second is counted, and changes nothing else
  keeps_all : (place k : ℕ) → k ≢ 1 → k < FIRST_KEY + length (keys_at old at) → place ≡ at + k → LoadsSealed place old word new
      → new ≡ after_reads 1 old
  keeps_all place k other within here loads =
      load_sealed_still place old word new loads at k (Row (row_at old.known at))
      (record { known = known; sealed = omega (arith, within); here = here }) other

  -- Loading the number of a known row's keys changes nothing else.
  pub count_keeps : LoadsSealed at old word new → new ≡ after_reads 1 old
  count_keeps loads = keeps_all at 0 (λ e. absurd (omega arith)) (omega arith) (omega arith) loads

  -- Nor does loading one of its keys.
  pub key_keeps : (i : ℕ) → i < length (keys_at old at) → LoadsSealed (at + FIRST_KEY + i) old word new → new ≡ after_reads 1 old
  key_keeps i within loads =
      keeps_all (at + FIRST_KEY + i) (FIRST_KEY + i) (λ e. absurd (omega arith)) (omega arith) (omega arith) loads

  -- Loading the address of its operation, once its number of keys was loaded, makes at most the operation known.
  op_read : (count : ℕ) → count ≡ length (keys_at old at) → IsSound new → LoadsSealed (at + 1) (after_reads 1 old) word new
      → ReadsRow at old (record { at = at; count = count; op = word; result = 0 }) new
  op_read count is_count sound loads =
      let row = row_at old.known at in
      let between : PassView = after_reads 1 old in
      let more = load_sealed_known (at + 1) between word new loads in
      let stays = row_stays loads.learned old new sound more at row known in
      let is_op : word ≡ row.op = row_op between at row known word loads.reads in
      record {
        place = refl;
        same = stays.1;
        agrees = is_seen new (record { at = at; count = count; op = word; result = 0 }) row stays.0 stays.1 is_count is_op
            (record { none = λ zero. refl; settled = λ some_result. absurd (some_result refl) });
        learned = loads.learned;
        reads = record {
          only = subst (OnlyReads old) (sym loads.view) refl;
          grows = subst (Grows loads.learned 0 0 old) (sym loads.view) (record {
            number = refl;
            facts = refl;
            front = loads.grows;
            known = refl;
            fixed = behind_self old.fixed;
            asked = behind_self old.asked;
            drawn = sym (add-zero old.drawn);
            lost = sym (add-zero old.lost);
          });
          made = ap (λ (view : PassView). view.made) loads.view ∙ more_loads-both 1 1 old.made;
        };
        nothing = λ zero. loads.nothing at 1 (Row row)
            (record { known = known; sealed = omega arith; here = refl }) (inr (sym is_op ∙ zero));
        unfixed = λ zero. ap (λ (view : PassView). view.fixed) loads.view;
        learns_op = λ some_op.
            let learns = loads.op at row (record { known = known; sealed = omega arith; here = refl }) (λ zero. some_op (is_op ∙ zero)) in
            (learns.0, learns.1 ∙ ap (λ (a : ℕ). known_block a (Op learns.0) ∷ []) (sym is_op));
        unread = refl;
        marked = λ zero key mark.
            let told = loads.agrees at row (record { known = known; sealed = omega arith; here = refl }) (sym is_op ∙ zero) key
            (record { mark = mark.mark; others = mark.others; latest = mark.latest; row = mark.row; now = mark.now; of_key = mark.of_key }) in
            (subst (λ (row : RowBlock). AgreesAtFront new row key) (sym stays.1) told.0, told.1);
        alone = λ alone. same_then old between new (reads_same 1 old) (loads.alone alone);
      }

-- Loading the first two words of a known row reads it.
pub row_read : (at count op : ℕ) (old between new : PassView) → KnowsRowAt old at → IsSound new → LoadsSealed at old count between
    → LoadsSealed (at + 1) between op new → ReadsRow at old (record { at = at; count = count; op = op; result = 0 }) new
row_read at count op old between new known sound first second =
    let is_count : count ≡ length (keys_at old at) = row_count old at (row_at old.known at) known count first.reads in
    let same : between ≡ after_reads 1 old = count_keeps at old known count between first in
    op_read at old known op new count is_count sound (subst (λ (view : PassView). LoadsSealed (at + 1) view op new) same second)
