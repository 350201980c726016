-- The bytes of a file, from what reading them gives.
use Rattle.std.proofs.Common.{◌≡◌, ℕ, ◌+◌, ◌^◌, ◌<◌, ◌≤◌, List, [], ◌++◌, length, take, refl, sym, ap, ◌∙◌, subst, append-nil, length-append, Option, None, Some, IfSome, Result, Ok, Err, is_err, false, Vec, arith}
use Rattle.std.specs.Io.KnownBytes.{Consumes, IsAtEnd}
use Rattle.std.proofs.KnownBytes.{Consumes-trans}
use Rattle.std.specs.declared.alloc.Global.{Global}
use Rattle.std.specs.Option.{option_map}
use Rattle.outside.specs.Files.{Files, Starts, bytes_of}
use Rattle.certify.specs.Run.{ReadsTold}
use Rattle.certify.specs.declared.fault.Fault.{Fault}
use Rattle.certify.specs.declared.fault.Fault.TheVariants.{NoMemory, Read, TooLong}

-- the bytes that are told, or none
some_bytes : (told : Option (List ℕ)) → (bytes : List ℕ) × IfSome told (λ all. bytes ≡ all)
some_bytes None = ([], tt)
some_bytes (Some xs) = (xs, refl)

-- what was taken is a front of what is told
front_of : (told left : Option (List ℕ)) (bytes : List ℕ) → Consumes told left bytes
    → (rest : List ℕ) × IfSome told (λ all. bytes ++ rest ≡ all)
front_of None left bytes h = ([], tt)
front_of (Some xs) None bytes h = absurd h
front_of (Some xs) (Some ys) bytes h = (ys, sym h)

-- what was taken is all that is told, where nothing is left
all_of : (told left : Option (List ℕ)) (bytes : List ℕ) → Consumes told left bytes → IsAtEnd left → IfSome told (λ all. bytes ≡ all)
all_of None left bytes h end = tt
all_of (Some xs) None bytes h end = absurd h
all_of (Some xs) (Some ys) bytes h end = sym (h ∙ ap (λ r. bytes ++ r) end ∙ append-nil bytes)

-- a read that gave no byte took none
nothing_more : (told mid rest : Option (List ℕ)) (bytes buffer : List ℕ) (count : ℕ) → count ≡ 0 → Consumes told mid bytes
    → Consumes mid rest (take count buffer) → Consumes told rest bytes
nothing_more told mid rest bytes buffer count none first then_on =
    let no : Consumes mid rest [] = rw none at then_on in
    subst (Consumes told rest) (append-nil bytes) (Consumes-trans told mid rest bytes [] first no)

-- two refusals say nothing of the bytes
pub no_memory : (told : Option (List ℕ)) → ReadsTold told (Err NoMemory)
no_memory told = let bytes = some_bytes told in (bytes.0, bytes.1, tt)

pub read_fault : (told : Option (List ℕ)) → ReadsTold told (Err Read)
read_fault told = let bytes = some_bytes told in (bytes.0, bytes.1, tt)

-- the input ended
pub reads_all : (told mid rest : Option (List ℕ)) (all : Vec ℕ Global) (buffer : List ℕ) (count : ℕ) → length all.items ≤ 2 ^ 24
    → count ≡ 0 → Consumes told mid all.items → Consumes mid rest (take count buffer) → IsAtEnd rest → ReadsTold told (Ok all)
reads_all told mid rest all buffer count short none first then_on end = (
  all.items,
  all_of told rest all.items (nothing_more told mid rest all.items buffer count none first then_on) end,
  (refl, short),
)

-- one byte more than may be was read
pub reads_too_much : (told mid rest : Option (List ℕ)) (bytes piece : List ℕ) → 2 ^ 24 < length bytes + length piece
    → Consumes told mid bytes → Consumes mid rest piece → ReadsTold told (Err TooLong)
reads_too_much told mid rest bytes piece long first then_on =
    let front = front_of told rest (bytes ++ piece) (Consumes-trans told mid rest bytes piece first then_on) in (
      (bytes ++ piece) ++ front.0,
      front.1,
      omega (arith, length-append bytes piece, length-append (bytes ++ piece) front.0),
    )

-- the file was started, and its bytes were left to be read
pub reads_started : {T E : Type 0} (files : Option Files) (before now : Option (List ℕ)) (name : List ℕ) (start : Result T E)
    (result : Result (Vec ℕ Global) Fault)
    → is_err start ≡ false → Starts files before now name start → ReadsTold now result
    → ReadsTold (option_map (λ told. bytes_of told name) files) result
reads_started None before now name start result fine starts reads = (reads.0, tt, reads.2)
reads_started (Some told) before now name (Ok x) result fine starts reads =
    let content : now ≡ Some (bytes_of told name) = starts.content in
    (reads.0, subst (λ (o : Option (List ℕ)). IfSome o (λ all. reads.0 ≡ all)) content reads.1, reads.2)
reads_started (Some told) before now name (Err e) result fine starts reads = cc
