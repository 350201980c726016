use Rattle.std.proofs.Common.{ap, sym, ◌∙◌, String, Vec, ℕ}
use Rattle.std.specs.declared.alloc.Global.{Global}
use Rattle.outside.proofs.LawFiles.{content_at-get, content_at-past}
use Rattle.outside.proofs.reading.bytes_at.Goals as goal

-- the place is that of a file
pub returns-in-Some : goal.returns-in-Some
returns-in-Some c =
    let here = c.in-Some.ensures.lookup in
    let content = content_at-get c.args.files.now c.args.place c.in-Some.file.now here.3.0 in
    c.deref.ensures.value ∙ ap (λ (f : String Global × Vec ℕ Global). f.1.items) here.1 ∙ sym content

-- the place is past the last file
pub returns-in-None : goal.returns-in-None
returns-in-None c = sym (content_at-past c.args.files.now c.args.place c.in-None.ensures.lookup.3)
