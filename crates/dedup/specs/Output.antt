-- The text of each list.
use Rattle.std.specs.Prelude.{◌≡◌, ℕ, List, flat_map, length}
use Rattle.idfiles.specs.Print.{count_line, id_line, keep_line}
use Rattle.idfiles.specs.declared.id_record.IdRecord.{IdRecord}
use Rattle.chain.specs.Chain.{RoundEnd}
use Rattle.dedup.specs.Records.{AreDistinctIds, AreKept}
use Rattle.dedup.specs.declared.command.Listing.{Listing}
use Rattle.dedup.specs.declared.command.Listing.TheVariants.{Keep, Ids, Count}

-- the line of a record that is kept
abbrev pub kept_line : IdRecord → List ℕ
kept_line kept = keep_line kept.id kept.file kept.line

-- The text of the list: each distinct id, rising, and under `keep` with the record whose insert changed
-- the set in these rounds; or how many records and distinct ids there are.
abbrev pub IsListing : Listing → List IdRecord → List RoundEnd → List ℕ → Type 0
IsListing Keep records rounds text = (kept : List IdRecord) × AreKept records rounds kept
    × (text ≡ flat_map kept_line kept)
IsListing Ids records rounds text = (ids : List ℕ) × AreDistinctIds records ids
    × (text ≡ flat_map id_line ids)
IsListing Count records rounds text = (ids : List ℕ) × AreDistinctIds records ids
    × (text ≡ count_line (length records) (length ids))
