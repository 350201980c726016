-- Where a file stands among files in memory, and what is left of it.
use Rattle.std.proofs.Common.{◌≡◌, ℕ, zero, suc, ◌+◌, ◌<◌, ◌≤◌, Bool, true, false, not, cond, ◌||◌, nat_lt, bytes_eq, List, [], ◌∷◌, length, None, Some, String, string_bytes, Vec, refl, sym, ap, ◌∙◌, arith, get_or}
use Rattle.std.specs.declared.alloc.Global.{Global}
use Rattle.std.specs.List.{position_or_len}
use Rattle.std.proofs.lemmas.Bool.Decides.{nat_tests}
use Rattle.std.proofs.lemmas.List.Sums.{position_or_len_is}
use Rattle.std.proofs.lemmas.Bool.{false≢true}
use Rattle.outside.specs.Files.{Files, files_of, has_file, bytes_of}
use Rattle.outside.specs.Script.{content_at, IsPlaceOf}

one_plus : (n : ℕ) → 1 + n ≡ suc n
one_plus n = omega arith

shifted : (a b : ℕ) → nat_lt (1 + a) (suc b) ≡ nat_lt a b
shifted a b = grind (arith, nat_tests)

module _ (name : List ℕ) where
  -- whether a file has the name
  abbrev pub named : String Global × Vec ℕ Global → Bool
  named file = bytes_eq (string_bytes file.0) name

  content_at-position : (files : List (String Global × Vec ℕ Global))
      → content_at files (position_or_len named files) ≡ bytes_of (files_of files) name
  content_at-position [] = refl
  content_at-position (file ∷ files) =
      let rest = position_or_len named files in
      elim (named file) as (λ b. content_at (file ∷ files) (cond (not b) (1 + rest) 0)
      ≡ cond b file.1.items (bytes_of (files_of files) name)) [
        | true ↦ refl
        | false ↦ ap (content_at (file ∷ files)) (one_plus rest) ∙ content_at-position files
      ]

  is_there : (files : List (String Global × Vec ℕ Global))
      → nat_lt (position_or_len named files) (length files) ≡ has_file (files_of files) name
  is_there [] = refl
  is_there (file ∷ files) =
      let rest = position_or_len named files in
      elim (named file) as (λ b. nat_lt (cond (not b) (1 + rest) 0) (suc (length files)) ≡ (b || has_file (files_of files) name)) [
        | true ↦ grind (arith, nat_tests)
        | false ↦ shifted rest (length files) ∙ is_there files
      ]

-- the first file of the name is found
pub first_named : (files : List (String Global × Vec ℕ Global)) (name : List ℕ) (place : ℕ)
    (default : String Global × Vec ℕ Global) → place < length files
    → ((k : ℕ) → k < place → named name (get_or files k default) ≡ false) → named name (get_or files place default) ≡ true
    → IsPlaceOf files name (Some place)
first_named files name place default within before here =
    let at : position_or_len (named name) files ≡ place =
    position_or_len_is (named name) files place default (omega arith) before (λ _. here) in
    let below : nat_lt (position_or_len (named name) files) (length files) ≡ true = grind (arith, nat_tests) in
    (sym (is_there name files) ∙ below, ap (content_at files) (sym at) ∙ content_at-position name files)

-- no file of the name is found
pub none_named : (files : List (String Global × Vec ℕ Global)) (name : List ℕ)
    → ((k : ℕ) (default : String Global × Vec ℕ Global) → k < length files → named name (get_or files k default) ≡ false)
    → IsPlaceOf files name None
none_named [] name each = refl
none_named (file ∷ files) name each =
    let all = file ∷ files in
    let at : position_or_len (named name) all ≡ length all =
    position_or_len_is (named name) all (length all) file (omega arith) (λ k below. each k file below)
    (λ past. absurd (omega (arith, past))) in
    let past : nat_lt (position_or_len (named name) all) (length all) ≡ false = grind (arith, nat_tests) in
    sym (is_there name all) ∙ past

-- a file that is there holds what stands at its place
pub content_at-get : (files : List (String Global × Vec ℕ Global)) (place : ℕ)
    (default : String Global × Vec ℕ Global) → place < length files
    → content_at files place ≡ (get_or files place default).1.items
content_at-get [] place default within = absurd (omega (arith, within))
content_at-get (file ∷ files) zero default within = refl
content_at-get (file ∷ files) (suc place) default within = content_at-get files place default (omega (arith, within))

-- past the last file there is nothing
pub content_at-past : (files : List (String Global × Vec ℕ Global)) (place : ℕ) → length files ≤ place → content_at files place ≡ []
content_at-past [] place past = refl
content_at-past (file ∷ files) zero past = absurd (omega (arith, past))
content_at-past (file ∷ files) (suc place) past = content_at-past files place (omega (arith, past))

-- a name that no file has has no bytes
pub bytes_of-absent : (files : Files) (name : List ℕ) → has_file files name ≡ false → bytes_of files name ≡ []
bytes_of-absent [] name gone = refl
bytes_of-absent (file ∷ files) name gone =
    elim (bytes_eq file.0 name) as (λ b. (b || has_file files name) ≡ false → cond b file.1 (bytes_of files name) ≡ []) [
      | true ↦ λ e. absurd (false≢true (sym e))
      | false ↦ λ e. bytes_of-absent files name e
    ] gone
