-- How a run ends whose words aren't read.
use Rattle.std.proofs.Common.{◌≡◌, ◌∙◌, ℕ, Bool, Bor, List, [], map, Option, Ok, Err, Vec, refl, sym, subst}
use Rattle.std.specs.declared.alloc.Global.{Global}
use Rattle.std.proofs.KnownBytes.{Keeps-refl}
use Rattle.outside.specs.Files.{Files}
use Rattle.dedup.specs.declared.fault.Fault.{Fault}
use Rattle.idfiles.specs.declared.fault.IdFault.TheVariants.{NoMemory, BadLine, ReadFault, TooLong, TooMany}
use Rattle.dedup.specs.declared.fault.Fault.TheVariants.{BadWords, Ids, Write}
use Rattle.chain.specs.Chain.{RoundEnd}
use Rattle.idfiles.specs.declared.fault.IdFault.{IdFault}
use Rattle.idfiles.specs.declared.id_record.IdRecord.{IdRecord}
use Rattle.dedup.specs.Inputs.{AnswersFiles, AreContents, run_records}
use Rattle.dedup.specs.Output.{IsListing}
use Rattle.dedup.specs.declared.command.Listing.{Listing}
use Rattle.dedup.specs.Rounds.{IsRunSoFar}
use Rattle.step_core.specs.declared.layout.Plan.{Plan}
use Rattle.dedup.specs.Run.{Ends, HasRounds, ListsFiles, plan_asked}
use Rattle.dedup.specs.Words.{MayRefuse, files_named}
use Rattle.dedup.proofs.LawInserted.{inserted_none, so_far}
use Rattle.dedup.proofs.LawInputs.{are-some, content_in}

-- before the first round all records are still to come
pub made_none : (plan : Plan) (contents : List (List ℕ)) → HasRounds plan contents [] NoMemory
made_none plan contents = so_far (inserted_none (run_records contents) plan)

-- and so where the files aren't read
pub unread : (plan : Plan) (contents : List (List ℕ)) (rounds : List RoundEnd) (fault : IdFault) → rounds ≡ []
    → HasRounds plan contents rounds fault
unread plan contents rounds NoMemory none =
    subst (λ (all : List RoundEnd). HasRounds plan contents all NoMemory) (sym none) (made_none plan contents)
unread plan contents rounds (BadLine file line) none = none
unread plan contents rounds (ReadFault file) none = none
unread plan contents rounds (TooLong file) none = none
unread plan contents rounds TooMany none = none

-- the names behind references
abbrev pub names_of : List (Bor (List ℕ)) → List (List ℕ)
names_of refs = map (λ name. name.now) refs

module _ (told : Option Files) (left : Option (List ℕ)) (refs files : List (Bor (List ℕ))) (same : refs ≡ files) (plan : Plan)
    (rounds : List RoundEnd) (listing : Listing) where
  -- the files are refused before any round is made
  pub lists_unread : (fault : IdFault) → rounds ≡ [] → AnswersFiles told (names_of refs) left (Err fault)
      → ListsFiles told (names_of files) plan rounds left listing (Err (Ids fault))
  lists_unread fault none answer = (
    answer.0,
    subst (λ (all : List (Bor (List ℕ))). AreContents told (names_of all) answer.0) same answer.1,
    (answer.2, unread plan answer.0 rounds fault none),
  )

  module _ (records : Vec IdRecord Global) (answer : AnswersFiles told (names_of refs) left (Ok records)) (seen : List IdRecord)
      (same_records : seen ≡ records.items) where
    contents_are : AreContents told (names_of files) answer.0
    contents_are = subst (λ (all : List (Bor (List ℕ))). AreContents told (names_of all) answer.0) same answer.1

    all_records : seen ≡ run_records answer.0
    all_records = same_records ∙ answer.2.1

    made : (used : Plan) (still : List ℕ) → used ≡ plan → IsRunSoFar seen used rounds still
        → IsRunSoFar (run_records answer.0) plan rounds still
    made used still planned run =
        subst (λ (p : Plan). IsRunSoFar (run_records answer.0) p rounds still) planned
        (subst (λ (all : List IdRecord). IsRunSoFar all used rounds still) all_records run)

    -- memory was refused once they were read
    pub lists_refused : (used : Plan) → used ≡ plan → ((still : List ℕ) × IsRunSoFar seen used rounds still)
        → ListsFiles told (names_of files) plan rounds left listing (Err (Ids NoMemory))
    lists_refused used planned run =
        (answer.0, contents_are, (tt, (run.0, made used run.0 planned run.1)))

    -- their list was made
    pub lists_all : (used : Plan) (text : Vec ℕ Global) → used ≡ plan → IsRunSoFar seen used rounds []
        → IsListing listing seen rounds text.items → ListsFiles told (names_of files) plan rounds left listing (Ok text)
    lists_all used text planned run is = (
      answer.0,
      contents_are,
      record {
        none = answer.2.0;
        made = made used [] planned run;
        text = subst (λ (all : List IdRecord). IsListing listing all rounds text.items) all_records is;
      },
    )

-- nothing is read, no round is made and nothing written
pub Ends-unread : (told : Option Files) (words : List (List ℕ)) (left before : Option (List ℕ)) (test : Bool) (fault : Fault)
    → MayRefuse test fault → Ends told words [] left before before (Err fault)
Ends-unread told words left before test BadWords may =
    (map (content_in told) (files_named words), are-some told (files_named words), (refl, Keeps-refl before))
Ends-unread told words left before test (Ids NoMemory) may =
    let contents = map (content_in told) (files_named words) in
    (contents, are-some told (files_named words), (tt, made_none (plan_asked words) contents, Keeps-refl before))
Ends-unread told words left before test (Ids (BadLine file line)) may = absurd may
Ends-unread told words left before test (Ids (ReadFault file)) may = absurd may
Ends-unread told words left before test (Ids (TooLong file)) may = absurd may
Ends-unread told words left before test (Ids TooMany) may = absurd may
Ends-unread told words left before test Write may = absurd may
