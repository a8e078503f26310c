-- A block is taken off the lines of a part.
use Rattle.std.proofs.Common.{◌≡◌, ℕ, ◌≤◌, ◌++◌, List, length, drop}
use Rattle.kit_base.specs.declared.history.Line.{Line}
use Rattle.kit_report.specs.Merges.{behind_grant, through_grant}

-- how far the taking of a block has come
pub record Taking (before now from : List Line) (first at : ℕ) : Type 0 where
  pub rises : first ≤ at
  pub inside : at ≤ length from
  pub taken : now ++ through_grant (drop at from) ≡ before ++ through_grant (drop first from)
  pub rest : behind_grant (drop at from) ≡ behind_grant (drop first from)
