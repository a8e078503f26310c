-- What a plan is made of.
use Rattle.std.specs.Prelude.{ℕ, List, [], slice_index_or}
use Rattle.kit_rules.specs.declared.table.Federate.{Federate}
use Rattle.kit_rules.specs.Parts.{nobody}
use Rattle.kit_regions.specs.declared.region.Update.{Update}
use Rattle.kit_regions.specs.declared.region.Subscription.{Subscription}

-- end time, buffers for each federate, names of groups, updates, subscriptions and federates
pub record Plan : Type 0 where
  pub end : ℕ
  pub buffers : ℕ
  pub groups : List (List ℕ)
  pub updates : List Update
  pub subscriptions : List Subscription
  pub federates : List Federate

-- what stands for an update past the last: its range has no number
abbrev pub no_update : Update
no_update = record { name = []; group = 0; range = record { from = 0; to = 0 } }

-- the update of a number
abbrev pub update_at : Plan → ℕ → Update
update_at plan u = slice_index_or plan.updates u no_update

-- the federate of a number
abbrev pub planned_federate_at : Plan → ℕ → Federate
planned_federate_at plan i = slice_index_or plan.federates i nobody
