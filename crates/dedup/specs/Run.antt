-- How a run ends, and what that says of the files and of what was written.
use Rattle.std.specs.Prelude.{◌≡◌, ◌⊎◌, ◌==◌, ℕ, if◌then◌else◌, false, List, [], take, Option, None, Result, Ok, Err, Vec}
use Rattle.std.specs.Io.KnownBytes.{Appends, Keeps}
use Rattle.std.specs.declared.alloc.Global.{Global}
use Rattle.outside.specs.Faults.{Rose, one_more}
use Rattle.outside.specs.Files.{Files}
use Rattle.chain.specs.Chain.{RoundEnd}
use Rattle.idfiles.specs.declared.fault.IdFault.{IdFault}
use Rattle.idfiles.specs.declared.fault.IdFault.TheVariants.{NoMemory}
use Rattle.dedup.specs.Fault.{ending_line, status_of}
use Rattle.dedup.specs.Inputs.{AreContents, SaysOf, run_fault, run_records}
use Rattle.dedup.specs.Output.{IsListing}
use Rattle.dedup.specs.Rounds.{IsRunSoFar, plan_of}
use Rattle.step_core.specs.declared.layout.Plan.{Plan}
use Rattle.dedup.specs.Words.{files_named, is_command, list_asked, room_asked, workers_asked}
use Rattle.dedup.specs.declared.command.Listing.{Listing}
use Rattle.dedup.specs.declared.fault.Fault.{Fault}
use Rattle.dedup.specs.declared.fault.Fault.TheVariants.{BadWords, Ids, Write}

-- What is printed of files without a fault, once these rounds of the plan have put their records into a
-- set: in the rounds each record's insert was answered.
pub record IsOutput (plan : Plan) (listing : Listing) (contents : List (List ℕ))
    (rounds : List RoundEnd) (output : List ℕ) : Type 0 where
  pub none : run_fault contents ≡ None
  pub made : IsRunSoFar (run_records contents) plan rounds []
  pub text : IsListing listing (run_records contents) rounds output

-- where memory was refused some rounds were made, and with any other fault of the files none
abbrev pub HasRounds : Plan → List (List ℕ) → List RoundEnd → IdFault → Type 0
HasRounds plan contents rounds NoMemory =
    (left : List ℕ) × IsRunSoFar (run_records contents) plan rounds left
HasRounds plan contents rounds fault = rounds ≡ []

-- the whole output or a front of it was written, or nothing; `left` is what the inputs have left
abbrev pub Prints : Plan → Listing → List (List ℕ) → List RoundEnd → Option (List ℕ)
    → Option (List ℕ) → Option (List ℕ) → Result (Unit {0}) Fault → Type 0
Prints plan listing contents rounds left before now (Ok x) =
    (output : List ℕ) × IsOutput plan listing contents rounds output × Appends before now output
Prints plan listing contents rounds left before now (Err Write) = (output : List ℕ) × (n : ℕ)
    × IsOutput plan listing contents rounds output × Appends before now (take n output)
Prints plan listing contents rounds left before now (Err BadWords) =
    (rounds ≡ []) × Keeps before now
Prints plan listing contents rounds left before now (Err (Ids fault)) =
    SaysOf contents left fault × HasRounds plan contents rounds fault × Keeps before now

-- the plan of the rounds that the words ask for
abbrev pub plan_asked : List (List ℕ) → Plan
plan_asked words = plan_of (workers_asked words) (room_asked words)

-- the same of the files that the words name
abbrev pub Ends : Option Files → List (List ℕ) → List RoundEnd → Option (List ℕ)
    → Option (List ℕ) → Option (List ℕ) → Result (Unit {0}) Fault → Type 0
Ends told words rounds left before now ending =
    (contents : List (List ℕ)) × AreContents told (files_named words) contents
    × Prints (plan_asked words) (list_asked words) contents rounds left before now ending

-- status 2 comes only where the words aren't the command; where they aren't, no other but 1 does
pub record HasRead (words : List (List ℕ)) (status : ℕ) : Type 0 where
  pub bad : status ≡ 2 → is_command words ≡ false
  pub refused : is_command words ≡ false → (status ≡ 1) ⊎ (status ≡ 2)

-- a count of faults rose by one where the status is this one, and else stayed
abbrev pub RoseAt : ℕ → ℕ → ℕ → ℕ → Type 0
RoseAt fault status before now = now ≡ (if status == fault then one_more before else before)

-- with status 4 one fault of the inputs was counted and with 5 one of the out sink, else none
pub record HasCauses (status read_before read_now write_before write_now : ℕ) : Type 0 where
  pub read : RoseAt 4 status read_before read_now
  pub write : RoseAt 5 status write_before write_now

-- the text and nothing else was written, or a front of it until a fault, which was counted
abbrev pub Said : List ℕ → ℕ → ℕ → Option (List ℕ) → Option (List ℕ) → Type 0
Said text faults_before faults_now before now =
    ((faults_now ≡ faults_before) × Appends before now text)
    ⊎ (Rose faults_before faults_now × ((n : ℕ) × Appends before now (take n text)))

-- a run with this status and these rounds ended as it says, and the line that tells it was written
abbrev pub EndsWith : ℕ → List RoundEnd → Option Files → List (List ℕ) → Option (List ℕ)
    → Option (List ℕ) → Option (List ℕ) → ℕ → ℕ → Option (List ℕ) → Option (List ℕ) → Type 0
EndsWith status rounds told words left before now faults_before faults_now said_before said_now =
    (ending : Result (Unit {0}) Fault) × (status ≡ status_of ending)
    × Ends told words rounds left before now ending
    × Said (ending_line ending) faults_before faults_now said_before said_now

-- the output of these files, or what refuses it
abbrev pub Lists : Plan → Listing → List (List ℕ) → List RoundEnd → Option (List ℕ)
    → Result (Vec ℕ Global) Fault → Type 0
Lists plan listing contents rounds left (Ok text) =
    IsOutput plan listing contents rounds text.items
Lists plan listing contents rounds left (Err BadWords) = ⊥
Lists plan listing contents rounds left (Err Write) = ⊥
Lists plan listing contents rounds left (Err (Ids fault)) =
    SaysOf contents left fault × HasRounds plan contents rounds fault

-- the same of the files of these names
abbrev pub ListsFiles : Option Files → List (List ℕ) → Plan → List RoundEnd → Option (List ℕ)
    → Listing → Result (Vec ℕ Global) Fault → Type 0
ListsFiles told names plan rounds left listing result = (contents : List (List ℕ))
    × AreContents told names contents × Lists plan listing contents rounds left result
