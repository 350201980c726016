-- The text of each printed line.
use Rattle.std.specs.Prelude.{ℕ, List, ◌++◌, codes, decimal}

-- an id, and the file and the line where it stands
abbrev pub keep_line : ℕ → ℕ → ℕ → List ℕ
keep_line id file line =
    decimal id ++ codes " " ++ decimal file ++ codes ":" ++ decimal line ++ codes "\n"

-- an id
abbrev pub id_line : ℕ → List ℕ
id_line id = decimal id ++ codes "\n"

-- the number of records and the number of their distinct ids
abbrev pub count_line : ℕ → ℕ → List ℕ
count_line records distinct =
    codes "records " ++ decimal records ++ codes " distinct " ++ decimal distinct ++ codes "\n"
