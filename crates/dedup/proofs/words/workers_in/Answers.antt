use Rattle.std.proofs.Common.{◌∙◌, Some, ap, codes}
use Rattle.std.specs.Option.{option_map_or}
use Rattle.clap.proofs.WalkLemmas.{first_value-rows}
use Rattle.clap.specs.Words.{found_of}
use Rattle.dedup.specs.Words.{workers_written}
use Rattle.dedup.specs.Limits.{usual_workers}
use Rattle.dedup.proofs.words.workers_in.Goals as goal

-- a number of workers is given
pub returns-in-Some-clause-value : goal.returns-in-Some-clause-value
returns-in-Some-clause-value c =
    c.number_in.ensures.value
    ∙ ap (λ given. option_map_or workers_written given (Some usual_workers))
    (c.in-Some.ensures ∙ first_value-rows (found_of c.args.matches.now) (codes "workers"))

-- none is
pub returns-in-None-clause-value : goal.returns-in-None-clause-value
returns-in-None-clause-value c =
    ap (λ given. option_map_or workers_written given (Some usual_workers))
    (c.in-None.ensures ∙ first_value-rows (found_of c.args.matches.now) (codes "workers"))
