-- What a federation is made of.
use Rattle.std.specs.Prelude.{ℕ, ◌+◌, List, [], slice_index_or, None, unwrap_or}
use Rattle.kit_rules.specs.declared.table.Wish.TheVariants.{Tar}
use Rattle.kit_rules.specs.declared.table.Group.{Group}
use Rattle.kit_rules.specs.declared.table.Federate.{Federate}

-- end time, buffers for each federate, groups and federates
pub record Parts : Type 0 where
  pub end : ℕ
  pub buffers : ℕ
  pub groups : List Group
  pub federates : List Federate

-- what stands for a federate past the last
abbrev pub nobody : Federate
nobody = record { name = []; lookahead = None; advance = Tar 0; vars = []; rules = [] }

-- the federate of a number
abbrev pub federate_at : Parts → ℕ → Federate
federate_at p i = slice_index_or p.federates i nobody

-- how far past its time a federate sends nothing: its lookahead, or to past the end where it is not regulating
unfoldable pub effective_lookahead : Parts → ℕ → ℕ
effective_lookahead p i = unwrap_or (federate_at p i).lookahead (p.end + 1)

-- what stands for a group past the last
abbrev pub no_group : Group
no_group = record { name = []; members = 0 }

-- the group of a number
abbrev pub group_at : Parts → ℕ → Group
group_at p g = slice_index_or p.groups g no_group
