-- Which keys the words of a round hold.
use Rattle.std.specs.Prelude.{◌≡◌, ℕ, ◌+◌, ◌*◌, ◌/◌, ◌%◌, ◌^◌, ◌==◌, nat_eq, Bool, not, ◌&&◌, ◌||◌, if◌then◌else◌, List, take, drop, slice_index}
use Rattle.std.specs.List.{list_any}
use Rattle.std.specs.Ordering.{nat_cmp}
use Rattle.std.specs.FinSet.{FinSet, contains}
use Rattle.step_core.specs.Format.{head_of, row_address}
use Rattle.step_core.specs.declared.format.TheConstants.{FIRST_BUCKET, FIRST_KEY, SPOT_FACTOR}

-- a key's spot, by which every generation finds its bucket
abbrev pub spot_of : ℕ → ℕ
spot_of key = key * SPOT_FACTOR % 2 ^ 64 / 2 ^ 32

-- the bucket of a spot among 2 ^ exponent buckets
abbrev pub bucket_of : ℕ → ℕ → ℕ
bucket_of exponent spot = spot % 2 ^ exponent

-- the key is of the bucket's class
abbrev pub InClass : ℕ → ℕ → ℕ → Type 0
InClass exponent bucket key = bucket_of exponent (spot_of key) ≡ bucket

-- the exponent of the head generation
abbrev pub exponent_of : List ℕ → ℕ
exponent_of words = slice_index words (head_of words)

-- the word of a spot's bucket in the generation
abbrev pub bucket_word : List ℕ → ℕ → ℕ → ℕ
bucket_word words generation spot =
    slice_index words (generation + FIRST_BUCKET + bucket_of (slice_index words generation) spot)

-- the keys that stand in the row
abbrev pub row_keys : List ℕ → ℕ → List ℕ
row_keys words row = take (slice_index words row) (drop (row + FIRST_KEY) words)

-- the row has an operation, and it is decided: its result is 1 or 2
abbrev pub is_decided : List ℕ → ℕ → Bool
is_decided words op =
    not (op == 0) && (slice_index words (op + 4) == 1 || slice_index words (op + 4) == 2)

-- the keys, as a test, with the operation applied: kind 1 inserts its key, kind 2 removes it
abbrev pub applied : List ℕ → ℕ → (ℕ → Bool) → ℕ → Bool
applied words op keys key =
    if slice_index words (op + 1) == 1
    then key == slice_index words (op + 2) || keys key
    else (not (key == slice_index words (op + 2)) && keys key)

-- the content of the row: its keys, with its operation applied where that is decided
abbrev pub content_of : List ℕ → ℕ → ℕ → Bool
content_of words row key =
    let op = slice_index words (row + 1) in
    let keys = λ (k : ℕ). list_any (λ y. nat_eq y k) (row_keys words row) in
    if is_decided words op then applied words op keys key else keys key

-- the generation where a key of the spot is looked for: the head or, where its bucket of the spot is
-- nil, its predecessor
abbrev pub live_generation : List ℕ → ℕ → ℕ
live_generation words spot =
    if bucket_word words (head_of words) spot == 0
    then slice_index words (head_of words + 1)
    else head_of words

-- the word of its bucket of the spot
abbrev pub live_word : List ℕ → ℕ → ℕ
live_word words spot = bucket_word words (live_generation words spot) spot

-- the live row of a key
abbrev pub live_row : List ℕ → ℕ → ℕ
live_row words key = row_address (live_word words (spot_of key))

-- the key is a member: it is in the content of its live row
abbrev pub is_member : List ℕ → ℕ → Bool
is_member words key = content_of words (live_row words key) key

-- the members of the words are this set
abbrev pub HasMembers : List ℕ → FinSet nat_cmp → Type 0
HasMembers words keys = (key : ℕ) → contains keys key ≡ is_member words key
