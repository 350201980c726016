-- Kinds of bytes that may stand together in a file.
use Rattle.std.specs.Prelude.{ℕ, Bool, ◌==◌}
use Rattle.idfiles.specs.Grammar.{is_blank, is_inner, lf}
use Rattle.idfiles.specs.declared.front.ByteKind.{ByteKind}
use Rattle.idfiles.specs.declared.front.ByteKind.TheVariants.{Lf, Blank, Inner}

-- whether a byte is of the kind
abbrev pub is_of : ByteKind → ℕ → Bool
is_of Lf b = b == lf
is_of Blank b = is_blank b
is_of Inner b = is_inner b
