-- The walk of a federation file: its places in their order, and the first fault.
use Rattle.std.specs.Prelude.{ℕ, List, map, ◌==◌, if◌then◌else◌, Option, Some, None, Result, Ok, codes}
use Rattle.serde_json.specs.Data.{Data}
use Rattle.kit_rules.specs.Limits.{most_buffers, most_federates, most_time}
use Rattle.kit_rules.specs.Parts.{Parts}
use Rattle.kit_regions.specs.Plan.{Plan}
use Rattle.kit_regions.specs.Lowered.{federation_of, crowded_federate}
use Rattle.kit_walk.specs.declared.fault.FaultKind.TheVariants as kind
use Rattle.kit_walk.specs.declared.fault.Fault.{Fault}
use Rattle.kit_file.specs.declared.content.Content.{Content}
use Rattle.kit_walk.specs.Paths.{key_path, item_path}
use Rattle.kit_walk.specs.Reading.{◌>>=◌, fault_at, within}
use Rattle.kit_walk.specs.Places.{object, number, list}
use Rattle.kit_file.specs.Names.{group_name, update_name}
use Rattle.kit_file.specs.FederateNames.{federate_names_of}
use Rattle.kit_file.specs.Groups.{groups_of}
use Rattle.kit_file.specs.Subscribers.{subscribed_groups_of}
use Rattle.kit_file.specs.Regions.{regions_of}
use Rattle.kit_file.specs.Federates.{federates_of}

-- the key version
abbrev pub version_of : Data → Result ℕ Fault
version_of d = number (codes "version") 1 3 d

-- the key end
abbrev pub end_of : Data → Result ℕ Fault
end_of d = number (codes "end") 1 most_time d

-- the key buffers
abbrev pub buffers_of : Data → Result ℕ Fault
buffers_of d = number (codes "buffers") 1 most_buffers d

-- the members of the list federates
abbrev pub federate_list_of : Data → Result (List Data) Fault
federate_list_of d = list (codes "federates") 1 most_federates d

-- the federation of a file of version 1 or 2, whose rules send to the groups that they know
unfoldable pub federation_in : ℕ → ℕ → ℕ → List (List ℕ) → List Data → Data → Result Parts Fault
federation_in version end buffers names ds d = do
  groups ← groups_of names d
  federates ← federates_of version names (record { groups = map group_name groups; targets = map group_name groups }) ds
  Ok (record { end = end; buffers = buffers; groups = groups; federates = federates })

-- the plan of a file of version 3, whose rules send to regions
unfoldable pub plan_in : ℕ → ℕ → List (List ℕ) → List Data → Data → Result Plan Fault
plan_in end buffers names ds d = do
  subscribed ← subscribed_groups_of names d
  updates ← regions_of subscribed.groups d
  federates ← federates_of 3 names (record { groups = subscribed.groups; targets = map update_name updates }) ds
  Ok (record { end = end; buffers = buffers; groups = subscribed.groups; updates = updates; subscriptions = subscribed.subscriptions; federates = federates })

-- a federate's rules become too many
abbrev pub too_many_rules : ℕ → Result Parts Fault
too_many_rules i = within (item_path (codes "federates") i) (fault_at kind.OutOfRange (key_path (codes "rules")))

-- the federation of a plan, where no federate's rules become too many; where they do, this is the first such federate
abbrev pub lowered_where : Plan → Option ℕ → Result Parts Fault
lowered_where plan None = Ok (federation_of plan)
lowered_where plan (Some i) = too_many_rules i

-- what a federation says that has no plan
abbrev pub without_plan : Parts → Content
without_plan p = record { federation = p; plan = None }

-- what a plan says, with its federation
unfoldable pub with_plan : Plan → Result Content Fault
with_plan plan = do
  p ← lowered_where plan (crowded_federate plan)
  Ok (record { federation = p; plan = Some plan })

-- what the places after the names of the federates say, in a file of this version
unfoldable pub content_after : ℕ → ℕ → ℕ → List (List ℕ) → List Data → Data → Result Content Fault
content_after version end buffers names ds d =
    if version == 3 then (plan_in end buffers names ds d >>= λ plan. with_plan plan)
    else (federation_in version end buffers names ds d >>= λ p. Ok (without_plan p))

-- what a file says, or the first fault
unfoldable pub content_of : Data → Result Content Fault
content_of d = do
  u ← object d
  version ← version_of d
  end ← end_of d
  buffers ← buffers_of d
  ds ← federate_list_of d
  names ← federate_names_of ds
  content_after version end buffers names ds d

-- the federation of a file, or the first fault
unfoldable pub walk : Data → Result Parts Fault
walk d = content_of d >>= λ c. Ok c.federation

-- the plan of a file of version 3, none of one of version 1 or 2, or the first fault
unfoldable pub plan_walk : Data → Result (Option Plan) Fault
plan_walk d = content_of d >>= λ c. Ok c.plan
