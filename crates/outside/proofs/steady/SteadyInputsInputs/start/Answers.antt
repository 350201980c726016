use Rattle.std.proofs.Common.{rules, ◌≡◌, false, Some, refl, sym, ap, subst, ◌∙◌}
use Rattle.outside.specs.Files.{Files, files_of, has_file}
use Rattle.outside.specs.Script.{Shelf}
use Rattle.outside.proofs.LawFiles.{bytes_of-absent}
use Rattle.outside.proofs.steady.SteadyInputsInputs.start.Goals as goal

-- no file has the name
pub returns-in-None-clause-start : goal.returns-in-None-clause-start
returns-in-None-clause-start c =
    let files : Files = c.args.self.now.files in
    let same : files_of c.deref.result.now ≡ files =
    ap files_of c.deref.ensures.value ∙ ap (λ (shelf : Shelf). shelf.files) c.self.view_is in
    let gone : has_file files c.args.name.now ≡ false =
    subst (λ (all : Files). has_file all c.args.name.now ≡ false) same c.in-None.ensures in
    record {
      files = search rules;
      left = record { content = ap Some (sym (bytes_of-absent files c.args.name.now gone)); nothing = tt; told = λ _. refl };
      cause = record { kept = refl; rose = tt };
    }
