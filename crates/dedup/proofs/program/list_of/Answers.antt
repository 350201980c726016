use Rattle.std.proofs.Common.{◌≡◌, ◌<◌, List, [], Err, length, rules, sym, ◌∙◌, subst}
use Rattle.std.specs.List.{All}
use Rattle.idfiles.specs.declared.fault.IdFault.TheVariants.{NoMemory}
use Rattle.idfiles.specs.declared.id_record.IdRecord.{IdRecord}
use Rattle.dedup.specs.Rounds.{HasInserted, plan_of}
use Rattle.dedup.specs.Run.{ListsFiles}
use Rattle.dedup.specs.declared.fault.Fault.TheVariants.{Ids}
use Rattle.dedup.proofs.LawEnds.{lists_all, lists_refused, lists_unread, names_of}
use Rattle.dedup.proofs.LawInserted.{so_far_is}
use Rattle.dedup.proofs.LawKept.{changing_below}
use Rattle.dedup.proofs.program.list_of.Goals as goal

-- the files were refused
pub returns-in_err-records-clause-lists : goal.returns-in_err-records-clause-lists
returns-in_err-records-clause-lists g c =
    let told = g.I.Inputs.files c.args.inputs.now in
    let left = g.I.Inputs.left c.load.new.inputs in
    let files = c.args.asked.now.files.items in
    let plan = plan_of c.args.asked.now.workers c.args.asked.now.room in
    let fault = c.in_err-records.field-0.0 in
    let is : c.from_residual.result ≡ Err (Ids fault) = search rules in
    subst (ListsFiles told (names_of files) plan c.args.so_far.now left c.args.asked.now.listing) (sym is)
    (lists_unread told left c.deref.result.now files c.deref.ensures.value plan c.args.so_far.now c.args.asked.now.listing fault
    c.requires.none c.in_err-records.ensures.answer)

-- memory was refused in a round
pub returns-in_err-inserted-clause-lists : goal.returns-in_err-inserted-clause-lists
returns-in_err-inserted-clause-lists g c =
    let told = g.I.Inputs.files c.args.inputs.now in
    let left = g.I.Inputs.left c.load.new.inputs in
    let files = c.args.asked.now.files.items in
    let plan = plan_of c.args.asked.now.workers c.args.asked.now.room in
    let rounds = c.insert_all.new.so_far in
    let is : c.from_residual-in_err-inserted.result ≡ Err (Ids NoMemory) = search rules in
    subst (ListsFiles told (names_of files) plan rounds left c.args.asked.now.listing) (sym is)
    (lists_refused told left c.deref.result.now files c.deref.ensures.value plan rounds c.args.asked.now.listing c.in_ok-records.records
    c.in_ok-records.ensures.answer c.deref-2.result.now c.deref-2.ensures.value c.plan.result c.plan.ensures
    c.in_err-inserted.ensures.so_far)

-- the numbers are those of records
pub text_of-requires : goal.text_of-requires
text_of-requires g c =
    subst (λ (all : List IdRecord). All (λ number. number < length all) c.in_ok-inserted.inserted.changed.items)
    (c.deref-2.ensures.value ∙ sym c.deref-3.ensures.value) (changing_below c.in_ok-inserted.ensures.inserted)

-- memory was refused for the text
pub returns-in_err-text_of-clause-lists : goal.returns-in_err-text_of-clause-lists
returns-in_err-text_of-clause-lists g c =
    let told = g.I.Inputs.files c.args.inputs.now in
    let left = g.I.Inputs.left c.load.new.inputs in
    let files = c.args.asked.now.files.items in
    let plan = plan_of c.args.asked.now.workers c.args.asked.now.room in
    let rounds = c.insert_all.new.so_far in
    let is : c.from_residual-in_err-text_of.result ≡ Err (Ids NoMemory) = search rules in
    subst (ListsFiles told (names_of files) plan rounds left c.args.asked.now.listing) (sym is)
    (lists_refused told left c.deref.result.now files c.deref.ensures.value plan rounds c.args.asked.now.listing c.in_ok-records.records
    c.in_ok-records.ensures.answer c.deref-2.result.now c.deref-2.ensures.value c.plan.result c.plan.ensures
    c.in_ok-inserted.ensures.so_far)

-- the list was made
pub returns-clause-lists : goal.returns-clause-lists
returns-clause-lists g c =
    let told = g.I.Inputs.files c.args.inputs.now in
    let left = g.I.Inputs.left c.load.new.inputs in
    let files = c.args.asked.now.files.items in
    let plan = plan_of c.args.asked.now.workers c.args.asked.now.room in
    let rounds = c.insert_all.new.so_far in
    let used = c.plan.result in
    let seen = c.deref-3.result.now in
    let inserted : HasInserted seen used rounds c.in_ok-inserted.inserted.keys.items [] c.in_ok-inserted.inserted.changed.items =
    subst (λ (all : List IdRecord). HasInserted all used rounds c.in_ok-inserted.inserted.keys.items []
    c.in_ok-inserted.inserted.changed.items) (c.deref-2.ensures.value ∙ sym c.deref-3.ensures.value)
    c.in_ok-inserted.ensures.inserted in
    lists_all told left c.deref.result.now files c.deref.ensures.value plan rounds c.args.asked.now.listing c.in_ok-records.records
    c.in_ok-records.ensures.answer seen c.deref-3.ensures.value used c.in_ok-text_of.field-0 c.plan.ensures
    (so_far_is inserted) (c.in_ok-text_of.ensures rounds used inserted)
