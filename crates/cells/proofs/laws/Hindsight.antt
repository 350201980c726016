-- What stood has stood for ever: rows that stay published keep what they have, and the history only grows.
use Rattle.std.proofs.Common.{◌≡◌, ◌⊎◌, ⊎_elim, ℕ, ◌<◌, ◌^◌, List, length, Option, sym, ◌∙◌, subst, arith}
use mathlib.Core.List.{IsPrefix}
use base.Growing.{prefix_anti, prefix_trans}
use Rattle.std.proofs.lemmas.List.Elements.{All-weaker}
use Rattle.set_model.specs.declared.entry.Entry.{Entry}
use Rattle.step_core.specs.Content.{InClass}
use Rattle.step_core.specs.Format.{IsFrozen, row_address}
use Rattle.step_core.specs.Members.{row_content}
use Rattle.step_core.specs.States.{IsGeneration, IsRow}
use Rattle.step_core.specs.declared.published.Published.{Published}
use Rattle.step_core.specs.declared.published.GenerationBlock.{GenerationBlock}
use Rattle.step_core.specs.declared.published.RowBlock.{RowBlock}
use Rattle.step_core.specs.declared.views.HeadLoad.{HeadLoad}
use Rattle.step_core.specs.declared.views.Mark.{Mark}
use Rattle.step_core.specs.declared.views.NilBucket.{NilBucket}
use Rattle.step_core.specs.declared.views.PassView.{PassView}
use Rattle.cells.specs.Hindsight.{InMark, bucket_mark, shared_mark, HasStood, StoodInHead, StoodInSources, HasHindsight}
use Rattle.cells.proofs.laws.Fronts.{shorter_begins}

-- every key is of the one bucket of exponent 0
pub in_only_bucket : (key : ℕ) → InClass 0 0 key
in_only_bucket key = omega arith

-- two fronts of one history that are as long are one
pub same_fronts : (front other history : List Entry) → IsPrefix front history → IsPrefix other history → length front ≡ length other
    → front ≡ other
same_fronts front other history first second long =
    prefix_anti front other (shorter_begins front other history first second (omega (arith, long)))
    (shorter_begins other front history second first (omega (arith, long)))

module _ (keys : List ℕ) (blocks : ℕ → Option Published) (cells : ℕ → ℕ → ℕ) (history : List Entry) where
  -- what stood for the keys of a bucket stood for those that another shares
  pub stood_shared : (row : ℕ) (front : List Entry) (exponent bucket other_exponent other_bucket : ℕ)
      → HasStood keys blocks cells history (bucket_mark row front other_exponent other_bucket)
      → HasStood keys blocks cells history (shared_mark row front exponent bucket other_exponent other_bucket)
  stood_shared row front exponent bucket other_exponent other_bucket stood =
      let whole : (key : ℕ) → InMark (shared_mark row front exponent bucket other_exponent other_bucket) key
      → InMark (bucket_mark row front other_exponent other_bucket) key =
      λ key shared. record { first = shared.second; second = in_only_bucket key } in
      record {
        row = stood.row;
        here = stood.here;
        home = λ key shared. stood.home key (whole key shared);
        past = stood.past;
        further = stood.further;
        begins = stood.begins;
        held = λ key shared. stood.held key (whole key shared);
      }

  -- a mark may be from an earlier front
  pub stood_earlier : (mark : Mark) (front : List Entry) → IsPrefix front mark.front → HasStood keys blocks cells history mark
      → HasStood keys blocks cells history (record mark { front = front })
  stood_earlier mark front earlier stood = record {
    row = stood.row;
    here = stood.here;
    home = λ key of. stood.home key (record { first = of.first; second = of.second });
    past = stood.past;
    further = prefix_trans front mark.front stood.past earlier stood.further;
    begins = stood.begins;
    held = λ key of. stood.held key (record { first = of.first; second = of.second });
  }

-- a change after which each row has what it had, and the history has grown or stayed
pub record KeepsRows (blocks : ℕ → Option Published) (cells : ℕ → ℕ → ℕ) (history : List Entry)
    (new_blocks : ℕ → Option Published) (new_cells : ℕ → ℕ → ℕ) (new_history : List Entry) : Type 0 where
  pub rows : (at : ℕ) (row : RowBlock) → IsRow blocks at row → IsRow new_blocks at row
  pub contents : (at : ℕ) (row : RowBlock) (key : ℕ) → IsRow blocks at row
      → row_content new_blocks new_cells row key ≡ row_content blocks cells row key
  pub grows : IsPrefix history new_history

-- after it a marked row that stood has stood
pub stood_stays : {blocks : ℕ → Option Published} {cells : ℕ → ℕ → ℕ} {history : List Entry} {new_blocks : ℕ → Option Published}
    {new_cells : ℕ → ℕ → ℕ} {new_history : List Entry} → KeepsRows blocks cells history new_blocks new_cells new_history
    → (keys : List ℕ) (mark : Mark) → HasStood keys blocks cells history mark → HasStood keys new_blocks new_cells new_history mark
stood_stays {history = history} {new_history = new_history} keeps keys mark stood = record {
  row = stood.row;
  here = keeps.rows mark.row stood.row stood.here;
  home = stood.home;
  past = stood.past;
  further = stood.further;
  begins = prefix_trans stood.past history new_history stood.begins keeps.grows;
  held = λ key of. keeps.contents mark.row stood.row key stood.here ∙ stood.held key of;
}

-- a change after which all that stood has stood
pub record KeepsStanding (keys : List ℕ) (blocks : ℕ → Option Published) (cells : ℕ → ℕ → ℕ) (history : List Entry)
    (new_blocks : ℕ → Option Published) (new_cells : ℕ → ℕ → ℕ) (new_history : List Entry) : Type 0 where
  pub rows : (at : ℕ) (row : RowBlock) → IsRow blocks at row → IsRow new_blocks at row
  pub generations : (at : ℕ) (generation : GenerationBlock) → IsGeneration blocks at generation → IsGeneration new_blocks at generation
  pub contents : (at : ℕ) (row : RowBlock) (key : ℕ) → IsRow blocks at row
      → row_content new_blocks new_cells row key ≡ row_content blocks cells row key
  pub grows : IsPrefix history new_history
  -- a bucket that is frozen then has the word that it had, or its row stands still
  pub frozen : (at : ℕ) (generation : GenerationBlock) (bucket : ℕ) → IsGeneration blocks at generation
      → bucket < 2 ^ generation.exponent → IsFrozen (new_cells at bucket)
      → (new_cells at bucket ≡ cells at bucket)
      ⊎ ((front : List Entry) → IsPrefix front history → HasStood keys new_blocks new_cells new_history
      (bucket_mark (row_address (new_cells at bucket)) front generation.exponent bucket))

module _ {keys : List ℕ} {blocks : ℕ → Option Published} {cells : ℕ → ℕ → ℕ} {history : List Entry}
    {new_blocks : ℕ → Option Published} {new_cells : ℕ → ℕ → ℕ} {new_history : List Entry}
    (keeps : KeepsStanding keys blocks cells history new_blocks new_cells new_history) where
  -- a marked row that stood has stood,
  pub stood_keeps : (mark : Mark) → HasStood keys blocks cells history mark → HasStood keys new_blocks new_cells new_history mark
  stood_keeps mark stood =
      stood_stays (record { rows = keeps.rows; contents = keeps.contents; grows = keeps.grows }) keys mark stood

  -- so have those that a head named,
  head_keeps : (load : HeadLoad) → StoodInHead keys blocks cells history load → StoodInHead keys new_blocks new_cells new_history load
  head_keeps load stood = record {
    generation = stood.generation;
    here = keeps.generations load.at stood.generation stood.here;
    begins = prefix_trans load.front history new_history stood.begins keeps.grows;
    frozen = λ bucket within odd.
        let Stood : ℕ → Type 0 =
        λ word. HasStood keys new_blocks new_cells new_history (bucket_mark (row_address word) load.front stood.generation.exponent bucket) in
        ⊎_elim
        (λ (same : new_cells load.at bucket ≡ cells load.at bucket). subst Stood (sym same)
        (stood_keeps (bucket_mark (row_address (cells load.at bucket)) load.front stood.generation.exponent bucket)
        (stood.frozen bucket within (subst IsFrozen same odd))))
        (λ (now : (front : List Entry) → IsPrefix front history → HasStood keys new_blocks new_cells new_history
        (bucket_mark (row_address (new_cells load.at bucket)) front stood.generation.exponent bucket)). now load.front stood.begins)
        (keeps.frozen load.at stood.generation bucket stood.here within odd);
  }

  -- and those that the sources of a nil bucket named
  nil_keeps : (nil : NilBucket) → StoodInSources keys blocks cells history nil
      → StoodInSources keys new_blocks new_cells new_history nil
  nil_keeps nil stood = record {
    generation = stood.generation;
    here = keeps.generations nil.at stood.generation stood.here;
    source = stood.source;
    there = keeps.generations stood.generation.predecessor stood.source stood.there;
    begins = prefix_trans nil.front history new_history stood.begins keeps.grows;
    frozen = λ bucket within odd.
        let at : ℕ = stood.generation.predecessor in
        let Stood : ℕ → Type 0 =
        λ word. HasStood keys new_blocks new_cells new_history
        (shared_mark (row_address word) nil.front stood.generation.exponent nil.bucket stood.source.exponent bucket) in
        ⊎_elim
        (λ (same : new_cells at bucket ≡ cells at bucket). subst Stood (sym same)
        (stood_keeps
        (shared_mark (row_address (cells at bucket)) nil.front stood.generation.exponent nil.bucket stood.source.exponent bucket)
        (stood.frozen bucket within (subst IsFrozen same odd))))
        (λ (now : (front : List Entry) → IsPrefix front history → HasStood keys new_blocks new_cells new_history
        (bucket_mark (row_address (new_cells at bucket)) front stood.source.exponent bucket)).
        stood_shared keys new_blocks new_cells new_history (row_address (new_cells at bucket)) nil.front stood.generation.exponent nil.bucket
        stood.source.exponent bucket (now nil.front stood.begins))
        (keeps.frozen at stood.source bucket stood.there within odd);
  }

  -- So what a view noted is so still.
  pub hindsight_keeps : (pass : ℕ) (view : PassView) → HasHindsight keys blocks cells history pass view
      → HasHindsight keys new_blocks new_cells new_history pass view
  hindsight_keeps pass view sees = record {
    marks = All-weaker (HasStood keys blocks cells history) (HasStood keys new_blocks new_cells new_history) stood_keeps
        view.marks sees.marks;
    heads = All-weaker (StoodInHead keys blocks cells history) (StoodInHead keys new_blocks new_cells new_history) head_keeps
        view.heads sees.heads;
    nils = All-weaker (StoodInSources keys blocks cells history) (StoodInSources keys new_blocks new_cells new_history) nil_keeps
        view.nils sees.nils;
  }
