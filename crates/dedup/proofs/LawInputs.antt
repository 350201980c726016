-- The records and the first fault of files, with one file more.
use Rattle.std.proofs.Common.{◌≡◌, ℕ, ◌+◌, ◌-◌, ◌<◌, ◌≤◌, List, [], ◌∷◌, ◌++◌, length, take, drop, get_or, map, Option, None, Some, IfSome, Result, Ok, Err, Vec, append_assoc, refl, sym, ap, subst, ◌∙◌, arith}
use Rattle.std.specs.Option.{option_map, option_or}
use Rattle.std.specs.declared.alloc.Global.{Global}
use Rattle.std.specs.Borrow.{Bor}
use Rattle.std.proofs.lemmas.List.{append-nil, get_or-map, drop_more, take_all, length-append, length-map, length-take-le, map-append, take-append-drop, take_more}
use Rattle.std.proofs.Math.Seq.{get_or-append_seam, take-append_seam}
use Rattle.outside.specs.Files.{Files, bytes_of}
use Rattle.idfiles.specs.Lines.{records_of, first_fault}
use Rattle.idfiles.specs.declared.id_record.IdRecord.{IdRecord}
use Rattle.idfiles.specs.Answer.{AnswersFile, IsFineBefore, Refuses}
use Rattle.idfiles.specs.declared.fault.IdFault.{IdFault}
use Rattle.idfiles.specs.declared.fault.IdFault.TheVariants.{NoMemory, BadLine, ReadFault, TooLong, TooMany}
use Rattle.dedup.specs.Inputs.{AnswersFiles, AreContents, HasLoaded, SaysOf, fault_of_files, records_of_files, run_fault, run_records}
use Rattle.dedup.specs.Limits.{most_records}

-- the records of files one after the other
pub records_of_files-append : (xs ys : List (List ℕ)) (number : ℕ)
    → records_of_files number (xs ++ ys) ≡ records_of_files number xs ++ records_of_files (number + length xs) ys
records_of_files-append [] ys number = ap (λ n. records_of_files n ys) (let same : number ≡ number + 0 = omega arith in same)
records_of_files-append (x ∷ xs) ys number =
    ap (λ rest. records_of number x ++ rest) (records_of_files-append xs ys (number + 1))
    ∙ sym (append_assoc (records_of number x) (records_of_files (number + 1) xs) (records_of_files (number + 1 + length xs) ys))
    ∙ ap (λ n. (records_of number x ++ records_of_files (number + 1) xs) ++ records_of_files n ys)
    (let same : number + 1 + length xs ≡ number + length (x ∷ xs) = omega arith in same)

option_or-assoc : {T : Type 0} → (a b c : Option T) → option_or a (option_or b c) ≡ option_or (option_or a b) c
option_or-assoc None b c = refl
option_or-assoc (Some x) b c = refl

-- the first fault of files one after the other
pub fault_of_files-append : (xs ys : List (List ℕ)) (number room : ℕ)
    → fault_of_files number room (xs ++ ys)
    ≡ option_or (fault_of_files number room xs) (fault_of_files (number + length xs) (room - length (records_of_files number xs)) ys)
fault_of_files-append [] ys number room =
    let same : number ≡ number + 0 = omega arith in
    let left : room ≡ room - 0 = omega arith in
    λ i. fault_of_files (same i) (left i) ys
fault_of_files-append (x ∷ xs) ys number room =
    let first : Option IdFault = first_fault number room x in
    let left : ℕ = room - length (records_of number x) in
    let behind : List IdRecord = records_of_files (number + 1) xs in
    let place : number + 1 + length xs ≡ number + length (x ∷ xs) = omega arith in
    let less : left - length behind ≡ room - length (records_of number x ++ behind) =
    omega (arith, length-append (records_of number x) behind) in
    ap (option_or first) (fault_of_files-append xs ys (number + 1) left)
    ∙ option_or-assoc first (fault_of_files (number + 1) left xs) (fault_of_files (number + 1 + length xs) (left - length behind) ys)
    ∙ (λ i. option_or (option_or first (fault_of_files (number + 1) left xs)) (fault_of_files (place i) (less i) ys))

-- the contents of a file, some where they aren't told
abbrev pub content_in : Option Files → List ℕ → List ℕ
content_in None name = []
content_in (Some files) name = bytes_of files name

-- the contents with one file more, and with files behind it
pub are-more : (told : Option Files) (before behind contents : List (List ℕ)) (name bytes : List ℕ) → AreContents told before contents
    → IfSome (option_map (λ files. bytes_of files name) told) (λ all. bytes ≡ all)
    → AreContents told (before ++ name ∷ behind) (contents ++ bytes ∷ map (content_in told) behind)
are-more None before behind contents name bytes are is = record {
  each = omega (
    arith,
    are.each,
    length-append before (name ∷ behind),
    length-append contents (bytes ∷ map (content_in None) behind),
    length-map behind (content_in None),
  );
  same = tt;
}
are-more (Some files) before behind contents name bytes are is = record {
  each = omega (
    arith,
    are.each,
    length-append before (name ∷ behind),
    length-append contents (bytes ∷ map (content_in (Some files)) behind),
    length-map behind (content_in (Some files)),
  );
  same = (λ i. are.same i ++ is i ∷ map (bytes_of files) behind) ∙ sym (map-append (bytes_of files) before (name ∷ behind));
}

-- the first fault, where the files before have none
pub fault-behind : (contents rest : List (List ℕ)) (place : ℕ) (records : List IdRecord) (bytes : List ℕ) (found : Option IdFault)
    → length contents ≡ place → run_fault contents ≡ None → records ≡ run_records contents
    → first_fault (place + 1) (most_records - length records) bytes ≡ found → run_fault (contents ++ bytes ∷ rest)
    ≡ option_or found (fault_of_files (place + 1 + 1) (most_records - length records - length (records_of (place + 1) bytes)) rest)
fault-behind contents rest place records bytes found long none all is =
    let number : 1 + length contents ≡ place + 1 = omega (arith, long) in
    let left : most_records - length (run_records contents) ≡ most_records - length records =
    ap (λ (r : List IdRecord). most_records - length r) (sym all) in
    fault_of_files-append contents (bytes ∷ rest) 1 most_records
    ∙ (λ i. option_or (none i) (fault_of_files (number i) (left i) (bytes ∷ rest)))
    ∙ ap (λ f. option_or f (fault_of_files (place + 1 + 1) (most_records - length records - length (records_of (place + 1) bytes)) rest)) is

none_told : (told : Option Files) → IfSome told (λ files. [] ≡ map (bytes_of files) [])
none_told None = tt
none_told (Some files) = refl

-- nothing was read
pub HasLoaded-none : (told : Option Files) (names : List (List ℕ)) → HasLoaded told names 0 []
HasLoaded-none told names = record {
  contents = [];
  are = record { each = refl; same = none_told told };
  none = refl;
  all = refl;
  few = omega arith;
}

-- one file more was read
pub HasLoaded-more : (told : Option Files) (names : List (List ℕ)) (place : ℕ) (records now : List IdRecord) (bytes : List ℕ)
    → HasLoaded told names place records → place < length names
    → IfSome (option_map (λ files. bytes_of files (get_or names place [])) told) (λ all. bytes ≡ all)
    → first_fault (place + 1) (most_records - length records) bytes ≡ None → now ≡ records ++ records_of (place + 1) bytes
    → length now ≤ most_records → HasLoaded told names (place + 1) now
HasLoaded-more told names place records now bytes so_far within is none all few =
    let name : List ℕ = get_or names place [] in
    let longer : take (place + 1) names ≡ take place names ++ name ∷ [] = take_more names place [] within in
    let long : length so_far.contents ≡ place = so_far.are.each ∙ length-take-le place names (omega arith) in
    let number : place + 1 ≡ 1 + length so_far.contents = omega (arith, long) in
    record {
      contents = so_far.contents ++ bytes ∷ [];
      are = subst (λ front. AreContents told front (so_far.contents ++ bytes ∷ [])) (sym longer)
          (are-more told (take place names) [] so_far.contents name bytes so_far.are is);
      none = fault-behind so_far.contents [] place records bytes None long so_far.none so_far.all none;
      all = all ∙ ap (λ (rs : List IdRecord). rs ++ records_of (place + 1) bytes) so_far.all
          ∙ ap (λ r. run_records so_far.contents ++ r) (sym (append-nil (records_of (place + 1) bytes)))
          ∙ ap (λ n. run_records so_far.contents ++ records_of_files n (bytes ∷ [])) number
          ∙ sym (records_of_files-append so_far.contents (bytes ∷ []) 1);
      few = few;
    }

-- the contents of all files, where one more than was read is known
abbrev pub contents_with : Option Files → List (List ℕ) → ℕ → List (List ℕ) → List ℕ → List (List ℕ)
contents_with told names place contents bytes = contents ++ bytes ∷ map (content_in told) (drop (place + 1) names)

are-all : (told : Option Files) (names : List (List ℕ)) (place : ℕ) (contents : List (List ℕ)) (bytes : List ℕ) → place < length names
    → AreContents told (take place names) contents
    → IfSome (option_map (λ files. bytes_of files (get_or names place [])) told) (λ all. bytes ≡ all)
    → AreContents told names (contents_with told names place contents bytes)
are-all told names place contents bytes within are is =
    let whole : take place names ++ get_or names place [] ∷ drop (place + 1) names ≡ names =
    ap (λ rest. take place names ++ rest) (sym (drop_more names place [] within)) ∙ take-append-drop place names in
    subst (λ all. AreContents told all (contents_with told names place contents bytes)) whole
    (are-more told (take place names) (drop (place + 1) names) contents (get_or names place []) bytes are is)

-- all files were read
pub AnswersFiles-all : (told : Option Files) (names : List (List ℕ)) (left : Option (List ℕ)) (place : ℕ) (records : Vec IdRecord Global)
    → HasLoaded told names place records.items → place ≡ length names → AnswersFiles told names left (Ok records)
AnswersFiles-all told names left place records so_far end =
    let whole : take place names ≡ names = take_all place names (omega (arith, end)) in
    (so_far.contents, subst (λ all. AreContents told all so_far.contents) whole so_far.are, (so_far.none, so_far.all))

-- how a file was refused
refused : (told : Option Files) (names : List (List ℕ)) (left : Option (List ℕ)) (place : ℕ) (records : List IdRecord) (fault : IdFault)
    → (so_far : HasLoaded told names place records) → place < length names → (bytes : List ℕ) → (rest : List (List ℕ))
    → Refuses (place + 1) (most_records - length records) bytes left fault → SaysOf (so_far.contents ++ bytes ∷ rest) left fault
refused told names left place records fault so_far within bytes rest is = go fault is where
  long : length so_far.contents ≡ place
  long = so_far.are.each ∙ length-take-le place names (omega (arith, within))

  whole : List (List ℕ)
  whole = so_far.contents ++ bytes ∷ rest

  first : (found : IdFault) → first_fault (place + 1) (most_records - length records) bytes ≡ Some found → run_fault whole ≡ Some found
  first found found_is = fault-behind so_far.contents rest place records bytes (Some found) long so_far.none so_far.all found_is

  go : (fault : IdFault) → Refuses (place + 1) (most_records - length records) bytes left fault → SaysOf whole left fault
  go NoMemory is = tt
  go (BadLine file line) is = first (BadLine file line) is
  go (TooLong file) is = first (TooLong file) is
  go TooMany is = first TooMany is
  go (ReadFault file) is =
      let at : file - 1 ≡ length so_far.contents = omega (arith, is.0, long) in
      let front : take (file - 1) whole ≡ so_far.contents =
      ap (λ (n : ℕ). take n whole) at
      ∙ take-append_seam so_far.contents (bytes ∷ rest) in
      let room : most_records - length (run_records (take (file - 1) whole)) ≡ most_records - length records =
      ap (λ (rs : List IdRecord). most_records - length rs) (ap run_records front ∙ sym so_far.all) in
      let element : get_or whole (file - 1) [] ≡ bytes =
      ap (λ (n : ℕ). get_or whole n []) at ∙ get_or-append_seam so_far.contents bytes rest [] in
      record {
        some = omega (arith, is.0);
        within = omega (arith, is.0, long, length-append so_far.contents (bytes ∷ rest));
        before = ap run_fault front ∙ so_far.none;
        here = subst (λ bs. IsFineBefore file (most_records - length (run_records (take (file - 1) whole))) bs left) (sym element)
            (subst (λ room. IsFineBefore file room bytes left) (sym room)
            (subst (λ n. IsFineBefore n (most_records - length records) bytes left) (sym is.0) is.1));
      }

-- a file was refused
pub AnswersFiles-fault : {T : Type 0} (gives : T → List IdRecord → Type 0) (told : Option Files) (names : List (List ℕ))
    (left : Option (List ℕ)) (place : ℕ) (records : List IdRecord) (fault : IdFault) → HasLoaded told names place records → place < length names
    → AnswersFile (place + 1) (most_records - length records) told (get_or names place []) left (Err fault) gives
    → AnswersFiles told names left (Err fault)
AnswersFiles-fault gives told names left place records fault so_far within answer = (
  contents_with told names place so_far.contents answer.0,
  are-all told names place so_far.contents answer.0 within so_far.are answer.1,
  refused told names left place records fault so_far within answer.0 (map (content_in told) (drop (place + 1) names)) answer.2,
)

told_all : (told : Option Files) (names : List (List ℕ)) → IfSome told (λ files. map (content_in told) names ≡ map (bytes_of files) names)
told_all None names = tt
told_all (Some files) names = refl

-- some contents of all files
pub are-some : (told : Option Files) (names : List (List ℕ)) → AreContents told names (map (content_in told) names)
are-some told names = record { each = length-map names (content_in told); same = told_all told names }

-- what one file's reading answers, in the words of the files so far
pub answer-here : (now told : Option Files) (refs : List (Bor (List ℕ))) (ref : Bor (List ℕ)) (left : Option (List ℕ)) (place count : ℕ)
    (records : List IdRecord) {T : Type 0} (result : Result T IdFault) (gives : T → List IdRecord → Type 0) → place < length refs
    → AnswersFile (place + 1) (most_records - count) now (get_or refs place ref).now left result gives → now ≡ told → count ≡ length records
    → AnswersFile (place + 1) (most_records - length records) told (get_or (map (λ name. name.now) refs) place []) left result gives
answer-here now told refs ref left place count records result gives within answer same few =
    subst (λ t. AnswersFile (place + 1) (most_records - length records) t (get_or (map (λ name. name.now) refs) place []) left result gives) same
    (subst (λ n. AnswersFile (place + 1) (most_records - length records) now n left result gives)
    (sym (get_or-map (λ name. name.now) refs place ref [] within))
    (subst (λ r. AnswersFile (place + 1) (most_records - r) now (get_or refs place ref).now left result gives) few answer))
