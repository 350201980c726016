use Rattle.std.proofs.Common.{◌∙◌, true, ap, codes}
use Rattle.std.specs.Option.{option_map_or}
use Rattle.clap.proofs.WalkLemmas.{first_value-rows}
use Rattle.clap.specs.Words.{found_of}
use Rattle.dedup.specs.Words.{is_way}
use Rattle.dedup.proofs.words.has_one_way.Goals as goal

-- a way is given
pub returns-in-Some : goal.returns-in-Some
returns-in-Some c =
    c.eq.ensures
    ∙ ap (λ given. option_map_or is_way given true) (c.in-Some.ensures ∙ first_value-rows (found_of c.args.matches.now) (codes "way"))

-- none is
pub returns-in-None : goal.returns-in-None
returns-in-None c =
    ap (λ given. option_map_or is_way given true) (c.in-None.ensures ∙ first_value-rows (found_of c.args.matches.now) (codes "way"))
