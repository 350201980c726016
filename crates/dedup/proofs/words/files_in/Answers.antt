use Rattle.std.proofs.Common.{◌≡◌, ◌∙◌, ℕ, List, [], length, map, IfErr, IfOk, true, ap, sym, subst, codes}
use Rattle.std.specs.Borrow.{Bor}
use Rattle.std.specs.Option.{unwrap_or}
use Rattle.std.proofs.lemmas.List.{length-map}
use Rattle.std.proofs.lemmas.Result.{IfOk-weaker}
use Rattle.clap.proofs.WalkLemmas.{raw_values-rows}
use Rattle.clap.specs.Words.{found_of, rows_of}
use Rattle.dedup.specs.Words.{MayRefuse, files_in, is_file_count}
use Rattle.dedup.proofs.words.files_in.Goals as goal

-- no FILE is given
pub returns-in-None-clause-refused : goal.returns-in-None-clause-refused
returns-in-None-clause-refused c =
    ap (λ given. is_file_count (length (unwrap_or given [])))
    (sym (c.in-None.ensures ∙ raw_values-rows (found_of c.args.matches.now) (codes "FILE")))

-- the values of FILE are the files
pub returns-in-Some : goal.returns-in-Some
returns-in-Some c =
    let texts_of : List (Bor (List ℕ)) → List (List ℕ) = map (λ name. name.now) in
    let named : texts_of c.in-Some.files.now ≡ files_in (rows_of (found_of c.args.matches.now)) =
    ap (λ given. unwrap_or given []) (c.in-Some.ensures ∙ raw_values-rows (found_of c.args.matches.now) (codes "FILE")) in
    let count : length c.in-Some.files.now ≡ length (files_in (rows_of (found_of c.args.matches.now))) =
    sym (length-map c.in-Some.files.now (λ name. name.now)) ∙ ap length named in
    record {
      count = subst (λ n. IfOk c.copied.result (λ _. is_file_count n ≡ true)) count c.copied.ensures.count;
      files = IfOk-weaker c.copied.result _ _ (λ copy same. ap texts_of same ∙ named) c.copied.ensures.files;
      refused = subst (λ n. IfErr c.copied.result (MayRefuse (is_file_count n))) count c.copied.ensures.refused;
    }
