use Rattle.std.proofs.Common.{◌≡◌, List, rules, ap, ◌∙◌, subst}
use Rattle.std.specs.List.Sorted.{IsPermutation}
use Rattle.std.proofs.lemmas.List.{take_all}
use Rattle.std.proofs.lemmas.List.Sorted.{IsNonDecreasingBy-from_sort_by_key}
use Rattle.idfiles.specs.declared.id_record.IdRecord.{IdRecord}
use Rattle.dedup.specs.Records.{records_at}
use Rattle.dedup.proofs.output.kept.Goals as goal

-- the records of all numbers, sorted
pub returns : goal.returns
returns c =
    let records = c.args.records.now in
    let numbers = c.args.numbers.now in
    let all : c.loop-number.kept.items ≡ records_at records numbers =
    c.loop-number.invariant ∙ ap (records_at records) (take_all c.loop-number.number-index numbers c.loop-number-test.false) in
    record {
      same = subst (λ (list : List IdRecord). IsPermutation list c.sort_unstable_by_key.new.self.items) all
          c.sort_unstable_by_key.ensures.permutation;
      rising = IsNonDecreasingBy-from_sort_by_key (λ item. item.id) _ c.sort_unstable_by_key.ensures.sorted (λ a r q k. search rules);
    }
