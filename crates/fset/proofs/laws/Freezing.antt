-- Of all buckets only sources of the one that is filled are frozen.
use Rattle.std.proofs.Common.{◌≡◌, ℕ, ◌+◌, List, [], ◌∷◌, ◌++◌, sym, ap, ◌∙◌, subst, arith}
use Rattle.std.proofs.lemmas.List.Elements.{All-cons, All-nil, All-weaker}
use Rattle.step_core.specs.Content.{bucket_of}
use Rattle.step_core.specs.declared.published.Published.TheVariants.{Generation}
use Rattle.step_core.specs.declared.views.FixedCell.{FixedCell}
use Rattle.step_core.specs.declared.views.Known.{Known}
use Rattle.step_core.specs.declared.views.PassView.{PassView}
use Rattle.cells.specs.Known.{KnowsGeneration}
use Rattle.cells.proofs.laws.Known.{knows_more}
use Rattle.fset.specs.Ensuring.{FreezesSources, IsFilling, IsSourceCell, cell_of}
use Rattle.fset.specs.declared.ensuring.Filling.{Filling}

module _ (head bucket : ℕ) (old between new : PassView) where
  -- So it is where steps that freeze nothing came before,
  pub sources_behind : between.fixed ≡ old.fixed → between.made.freezes ≡ old.made.freezes → FreezesSources head bucket between new
      → FreezesSources head bucket old new
  sources_behind fixed freezes frozen = record {
    generation = frozen.generation;
    known = frozen.known;
    cells = frozen.cells;
    fixed = frozen.fixed ∙ ap (λ (list : List FixedCell). frozen.cells ++ list) fixed;
    freezes = omega (arith, frozen.freezes, freezes);
    sources = frozen.sources;
  }

  -- or come behind.
  pub sources_before : (learned : List Known) → new.known ≡ learned ++ between.known → new.fixed ≡ between.fixed
      → new.made.freezes ≡ between.made.freezes → FreezesSources head bucket old between → FreezesSources head bucket old new
  sources_before learned more fixed freezes frozen = record {
    generation = frozen.generation;
    known = knows_more learned between new more head (Generation frozen.generation) frozen.known;
    cells = frozen.cells;
    fixed = fixed ∙ frozen.fixed;
    freezes = freezes ∙ frozen.freezes;
    sources = All-weaker (IsSourceCell between frozen.generation bucket) (IsSourceCell new frozen.generation bucket)
        (λ cell is. record {
          source = is.source;
          known = knows_more learned between new more frozen.generation.predecessor (Generation is.source) is.known;
          at = is.at;
          spot = is.spot;
          of_bucket = is.of_bucket;
          place = is.place;
        })
        frozen.cells frozen.sources;
  }

module _ (filling : Filling) (v0 : PassView) (f : IsFilling v0 filling) (learned : List Known) (now : PassView)
    (more : now.known ≡ learned ++ v0.known) where
  -- a bucket that shares a spot with the one that is filled
  source_cell : (spot place word : ℕ) → bucket_of filling.exponent spot ≡ filling.bucket → place ≡ bucket_of filling.before spot
      → IsSourceCell now f.generation filling.bucket (cell_of filling.predecessor place word)
  source_cell spot place word of_bucket here = record {
    source = f.source;
    known = subst (λ (at : ℕ). KnowsGeneration now at f.source) (sym f.predecessor)
        (knows_more learned v0 now more filling.predecessor (Generation f.source) f.before);
    at = sym f.predecessor;
    spot = spot;
    of_bucket = ap (λ (e : ℕ). bucket_of e spot) (sym f.exponent) ∙ of_bucket;
    place = here ∙ ap (λ (e : ℕ). bucket_of e spot) f.of_source;
  }

  -- One was frozen,
  pub froze_one : (spot place word : ℕ) → bucket_of filling.exponent spot ≡ filling.bucket → place ≡ bucket_of filling.before spot
      → now.fixed ≡ cell_of filling.predecessor place word ∷ v0.fixed → now.made.freezes ≡ v0.made.freezes + 1
      → FreezesSources filling.head filling.bucket v0 now
  froze_one spot place word of_bucket here fixed freezes = record {
    generation = f.generation;
    known = knows_more learned v0 now more filling.head (Generation f.generation) f.is_word.known;
    cells = cell_of filling.predecessor place word ∷ [];
    fixed = fixed;
    freezes = freezes;
    sources = All-cons (IsSourceCell now f.generation filling.bucket) (cell_of filling.predecessor place word) []
        (source_cell spot place word of_bucket here) (All-nil (IsSourceCell now f.generation filling.bucket));
  }

  -- or two.
  pub froze_two : (spot place word other_spot other_place other_word : ℕ) → bucket_of filling.exponent spot ≡ filling.bucket
      → place ≡ bucket_of filling.before spot → bucket_of filling.exponent other_spot ≡ filling.bucket
      → other_place ≡ bucket_of filling.before other_spot
      → now.fixed ≡ cell_of filling.predecessor other_place other_word ∷ cell_of filling.predecessor place word ∷ v0.fixed
      → now.made.freezes ≡ v0.made.freezes + 2 → FreezesSources filling.head filling.bucket v0 now
  froze_two spot place word other_spot other_place other_word of_bucket here of_too there fixed freezes = record {
    generation = f.generation;
    known = knows_more learned v0 now more filling.head (Generation f.generation) f.is_word.known;
    cells = cell_of filling.predecessor other_place other_word ∷ cell_of filling.predecessor place word ∷ [];
    fixed = fixed;
    freezes = freezes;
    sources = All-cons (IsSourceCell now f.generation filling.bucket) (cell_of filling.predecessor other_place other_word)
        (cell_of filling.predecessor place word ∷ []) (source_cell other_spot other_place other_word of_too there)
        (All-cons (IsSourceCell now f.generation filling.bucket) (cell_of filling.predecessor place word) []
        (source_cell spot place word of_bucket here) (All-nil (IsSourceCell now f.generation filling.bucket)));
  }
