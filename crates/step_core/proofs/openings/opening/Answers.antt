use Rattle.set_model.specs.Keys.{keys_set}
use Rattle.step_core.specs.Content.{HasMembers}
use Rattle.step_core.specs.Fits.{BeginsRound, IsWellFormed}
use Rattle.step_core.specs.Openings.{opening_facts, opening_of}
use Rattle.step_core.specs.Plain.{HasPlainRows}
use Rattle.step_core.proofs.tables.Begins.{opening_begins}
use Rattle.step_core.proofs.tables.Opened.{IfOk-only, opening_is_table, opening_members}
use Rattle.step_core.proofs.tables.Fitting.{table_well_formed}
use Rattle.step_core.proofs.tables.Members.{table_plain}
use Rattle.step_core.proofs.openings.opening.Goals as goal

pub returns-clause-well_formed : goal.returns-clause-well_formed
returns-clause-well_formed c =
    let layout = c.args.layout.now in
    let keys = c.args.keys.now in
    let words = opening_of layout.seats layout.cap keys in
    IfOk-only IsWellFormed words c.laid_out.result c.laid_out.ensures
    (table_well_formed (opening_is_table layout.seats layout.cap keys c.requires.rising c.requires.few c.requires.fits))

pub returns-clause-plain : goal.returns-clause-plain
returns-clause-plain c =
    let layout = c.args.layout.now in
    let keys = c.args.keys.now in
    let words = opening_of layout.seats layout.cap keys in
    IfOk-only HasPlainRows words c.laid_out.result c.laid_out.ensures
    (table_plain (opening_is_table layout.seats layout.cap keys c.requires.rising c.requires.few c.requires.fits))

pub returns-clause-members : goal.returns-clause-members
returns-clause-members c =
    let layout = c.args.layout.now in
    let keys = c.args.keys.now in
    IfOk-only (λ words. HasMembers words (keys_set keys)) (opening_of layout.seats layout.cap keys) c.laid_out.result c.laid_out.ensures
    (opening_members layout.seats layout.cap keys c.requires.rising c.requires.few c.requires.fits)

pub returns-clause-begins : goal.returns-clause-begins
returns-clause-begins c =
    let layout = c.args.layout.now in
    let keys = c.args.keys.now in
    IfOk-only (BeginsRound (opening_facts layout.seats layout.cap keys)) (opening_of layout.seats layout.cap keys)
    c.laid_out.result c.laid_out.ensures
    (opening_begins layout.seats layout.cap keys c.requires.rising c.requires.few c.requires.fits)
