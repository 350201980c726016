use Rattle.std.proofs.Common.{◌≡◌, ℕ, ◌<◌, ◌^◌, length, slice_index, sym, ap, ◌∙◌, subst, arith}
use Rattle.step_core.specs.Content.{live_generation}
use Rattle.step_core.specs.Plain.{finest_exponent}
use Rattle.step_core.proofs.seen.Predecessor.{finest_small}
use Rattle.step_core.proofs.tables.Live.{live_row_shown, live_class_keys-whole}
use Rattle.step_core.proofs.reading.class_count.Goals as goal

pub word-requires : goal.word-requires
word-requires c =
    omega (
      arith,
      c.live_generation-generation.ensures,
      (live_row_shown c.args.words.now c.requires.well_formed c.args.class).generation.within,
    )

pub returns-then-word-from : goal.returns-then-word-from
returns-then-word-from c =
    let words = c.args.words.now in
    let class = c.args.class in
    let low : class < 2 ^ finest_exponent words = subst (λ (e : ℕ). class < 2 ^ e) c.requires.exponent c.requires.class in
    let same : slice_index words (live_generation words class) ≡ finest_exponent words =
    sym (c.word.ensures ∙ ap (slice_index words) c.live_generation-generation.ensures)
    ∙ c.if-word-from.true
    ∙ c.from.ensures
    ∙ c.requires.exponent in
    let whole = live_class_keys-whole words c.requires.well_formed class low same in
    ap length (c.keys_in_bucket-row.ensures ∙ sym whole)

pub part_count-requires : goal.part_count-requires
part_count-requires c = omega (arith, c.requires.exponent, finest_small c.requires.well_formed.2)
