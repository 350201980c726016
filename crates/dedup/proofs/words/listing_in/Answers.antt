use Rattle.std.proofs.Common.{◌∙◌, Some, ap, codes}
use Rattle.std.specs.Option.{option_map_or}
use Rattle.clap.proofs.WalkLemmas.{first_value-rows}
use Rattle.clap.specs.Words.{found_of}
use Rattle.dedup.specs.Words.{listing_named}
use Rattle.dedup.specs.declared.command.Listing.TheVariants.{Keep}
use Rattle.dedup.proofs.words.listing_in.Goals as goal

-- a list is named
pub returns-in-Some : goal.returns-in-Some
returns-in-Some c =
    c.listing_named.ensures
    ∙ ap (λ given. option_map_or listing_named given (Some Keep))
    (c.in-Some.ensures ∙ first_value-rows (found_of c.args.matches.now) (codes "list"))

-- none is
pub returns-in-None : goal.returns-in-None
returns-in-None c =
    ap (λ given. option_map_or listing_named given (Some Keep))
    (c.in-None.ensures ∙ first_value-rows (found_of c.args.matches.now) (codes "list"))
