use Rattle.std.proofs.Common.{rules, ◌≡◌, ℕ, ◌<◌, ◌≤◌, List, ◌++◌, length, map, Ok, Err, subst, ◌∙◌, sym, arith}
use Rattle.std.proofs.lemmas.List.{length-map}
use Rattle.idfiles.specs.declared.id_record.IdRecord.{IdRecord}
use Rattle.dedup.specs.Inputs.{AnswersFiles}
use Rattle.dedup.specs.Limits.{most_records}
use Rattle.dedup.proofs.LawInputs.{AnswersFiles-fault, HasLoaded-more, answer-here}
use Rattle.dedup.proofs.load.load.Goals as goal

-- a file was refused
pub returns-in_err-append_ids-clause-answer : goal.returns-in_err-append_ids-clause-answer
returns-in_err-append_ids-clause-answer g c =
    let told = g.I.Inputs.files c.args.inputs.now in
    let names : List (List ℕ) = map (λ name. name.now) c.args.names.now in
    let left = g.I.Inputs.left c.append_ids.new.inputs in
    let so_far = c.loop-place.invariant in
    let records = c.loop-place.records.items in
    let fault = c.in_err-append_ids.field-0.0 in
    let gives = λ (_ : Unit {0}) (all : List IdRecord). c.append_ids.new.records.items ≡ records ++ all in
    let count : c.len.result ≡ length records = omega (arith, c.len.ensures, c.loop-place.records.ok) in
    let here = answer-here _ told c.args.names.now _ left c.loop-place.place c.len.result records (Err fault) gives c.loop-place-test.true
    c.in_err-append_ids.ensures.answer so_far.files count in
    let inside : c.loop-place.place < length names = omega (arith, c.loop-place-test.true, length-map c.args.names.now (λ name. name.now)) in
    let refused : AnswersFiles told names left (Err fault) =
    AnswersFiles-fault gives told names left c.loop-place.place records fault so_far.loaded inside here in
    let is : c.from_residual.result ≡ Err fault = search rules in
    subst (AnswersFiles told names left) (sym is) refused

-- one file more was read
pub loop-place-preserved : goal.loop-place-preserved
loop-place-preserved g c =
    let told = g.I.Inputs.files c.args.inputs.now in
    let names : List (List ℕ) = map (λ name. name.now) c.args.names.now in
    let left = g.I.Inputs.left c.append_ids.new.inputs in
    let so_far = c.loop-place.invariant in
    let records = c.loop-place.records.items in
    let now = c.append_ids.new.records in
    let gives = λ (_ : Unit {0}) (all : List IdRecord). now.items ≡ records ++ all in
    let count : c.len.result ≡ length records = omega (arith, c.len.ensures, c.loop-place.records.ok) in
    let here = answer-here _ told c.args.names.now _ left c.loop-place.place c.len.result records (Ok c.in_ok-append_ids.field-0) gives
    c.loop-place-test.true c.in_ok-append_ids.ensures.answer so_far.files count in
    let inside : c.loop-place.place < length names = omega (arith, c.loop-place-test.true, length-map c.args.names.now (λ name. name.now)) in
    let few : length now.items ≤ most_records = omega (arith, c.in_ok-append_ids.ensures.room, count, c.len.ensures, so_far.loaded.few, now.ok) in
    record {
      loaded = HasLoaded-more told names c.loop-place.place records now.items here.0 so_far.loaded inside here.1 here.2.0 here.2.1 few;
      kept = c.in_ok-append_ids.ensures.cause ∙ so_far.kept;
      files = c.in_ok-append_ids.ensures.files ∙ so_far.files;
    }
