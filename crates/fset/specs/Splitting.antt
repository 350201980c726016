-- The keys of a row that are of a bucket's class.
use Rattle.std.specs.Prelude.{ℕ, ◌≤◌, List}
use Rattle.step_core.specs.Buckets.{class_keys}
use Rattle.step_core.specs.Limits.{max_exponent}
use Rattle.step_core.specs.declared.views.Known.{Known}
use Rattle.step_core.specs.declared.views.PassView.{PassView}
use Rattle.fset.specs.Content.{seen_keys}
use Rattle.fset.specs.Taking.{TakesFromRow, row_left}
use Rattle.fset.specs.declared.seen.Seen.{Seen}
use Rattle.fset.specs.declared.splitting.ClassKeys.{ClassKeys}

-- the keys of the content that are of the bucket's class, rising
abbrev pub split_keys : ℕ → ℕ → PassView → Seen → List ℕ
split_keys exponent bucket view seen = class_keys exponent bucket (seen_keys view seen)

-- the row is known, and the bucket is of a generation that may be
pub record TakesFromClass (blocks : List Known) (keys : ClassKeys) : Type 0 where
  pub row : TakesFromRow blocks keys.row
  pub small : keys.exponent ≤ max_exponent

-- the keys of the class that are left
abbrev pub class_left : List Known → ClassKeys → List ℕ
class_left blocks keys = class_keys keys.exponent keys.bucket (row_left blocks keys.row)
