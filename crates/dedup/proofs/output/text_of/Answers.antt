use Rattle.std.proofs.Common.{◌≡◌, ℕ, List, flat_map, length, sym, ap, ◌∙◌, subst, arith}
use Rattle.std.proofs.lemmas.Result.{IfOk-weaker}
use Rattle.idfiles.specs.Print.{count_line, id_line}
use Rattle.idfiles.specs.declared.id_record.IdRecord.{IdRecord}
use Rattle.dedup.specs.Output.{IsListing, kept_line}
use Rattle.dedup.specs.Records.{AreSorted}
use Rattle.dedup.specs.declared.command.Listing.{Listing}
use Rattle.dedup.proofs.LawKept.{distinct_ids, kept_are}
use Rattle.dedup.proofs.output.text_of.Goals as goal

-- each id with its record
pub returns-in_ok-kept-in-Keep : goal.returns-in_ok-kept-in-Keep
returns-in_ok-kept-in-Keep c =
    let records = c.args.records.now in
    let changed = c.args.inserted.now.changed.items in
    let kept : List IdRecord = c.in_ok-kept-in-Keep.field-0.items in
    let sorted : AreSorted records changed kept =
    subst (λ (numbers : List ℕ). AreSorted records numbers kept) c.deref.ensures.value c.in_ok-kept-in-Keep.ensures in
    IfOk-weaker c.kept_text.result _ _ (λ text is rounds turns inserted.
    subst (λ (listing : Listing). IsListing listing records rounds text.items) (sym c.in-Keep.is)
    (kept, kept_are inserted kept sorted, is ∙ ap (flat_map kept_line) c.deref-in-Keep.ensures.value)) c.kept_text.ensures

-- the ids
pub returns-in-Ids : goal.returns-in-Ids
returns-in-Ids c =
    IfOk-weaker c.ids_text.result _ _ (λ text is rounds turns inserted.
    subst (λ (listing : Listing). IsListing listing c.args.records.now rounds text.items) (sym c.in-Ids.is)
    (c.args.inserted.now.keys.items, distinct_ids inserted, is ∙ ap (flat_map id_line) c.deref-in-Ids.ensures.value)) c.ids_text.ensures

-- the counts
pub returns-in-Count : goal.returns-in-Count
returns-in-Count c =
    let keys = c.args.inserted.now.keys in
    let count : c.len.result ≡ length keys.items = omega (arith, c.len.ensures, keys.ok) in
    IfOk-weaker c.counts_text.result _ _ (λ text is rounds turns inserted.
    subst (λ (listing : Listing). IsListing listing c.args.records.now rounds text.items) (sym c.in-Count.is)
    (keys.items, distinct_ids inserted, is ∙ ap (count_line (length c.args.records.now)) count)) c.counts_text.ensures
